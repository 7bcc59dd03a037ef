use Rattle.std.proofs.Common.{rules, [], filter, get_or, ap, ◌∙◌}
use Rattle.std.proofs.lemmas.Fn.{filter_same}
use Rattle.mesh_tidy.specs.Stars.{is_left}
use Rattle.mesh_tidy.proofs.StarLists.{read_at, written_at}
use Rattle.mesh_tidy.proofs.stars.Stars.prune.Goals as goal

pub returns : goal.returns
returns c =
    let lists = c.self.inside.lists.items in
    let old = c.args.self.now in
    written_at lists old c.self.view_is c.args.vertex c.retain.new.self (filter (is_left c.args.left.now) (get_or old c.args.vertex []))
    (filter_same _ (is_left c.args.left.now) _ (λ x b f k. search rules) _ _ c.retain.ensures.filtered
    ∙ ap (filter (is_left c.args.left.now)) (read_at lists old c.self.view_is c.args.vertex c.index_mut.result.now c.requires c.index_mut.ensures.value))
