use Rattle.std.proofs.Common.{◌++◌, ◌∷◌, [], get_or, ap, ◌∙◌}
use Rattle.mesh_tidy.proofs.StarLists.{read_at, written_at}
use Rattle.mesh_tidy.proofs.stars.Stars.push.Goals as goal

pub returns : goal.returns
returns c =
    let lists = c.self.inside.lists.items in
    let old = c.args.self.now in
    written_at lists old c.self.view_is c.args.vertex c.push.new.self (get_or old c.args.vertex [] ++ c.args.half ∷ [])
    (c.in_ok-push.ensures.items ∙ ap (λ l. l ++ c.args.half ∷ []) (read_at lists old c.self.view_is c.args.vertex c.index_mut.result.now c.requires c.index_mut.ensures.value))
