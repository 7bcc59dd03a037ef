use Rattle.std.proofs.Common.{◌++◌, ◌∷◌, [], ap, refl, ◌∙◌}
use Rattle.plane_filling.proofs.Stored.{region_added}
use Rattle.plane_filling.proofs.regions.Regions.push.Goals as goal

pub returns : goal.returns
returns c =
    let r = c.args.self.now in
    region_added r (record { all = c.push.new.self; ends = c.push-2.new.self; walks = r.walks }) c.args.region c.requires c.in_ok-push.ensures.items
    (c.in_ok-push-2.ensures.items ∙ ap (λ n. r.ends.items ++ n ∷ []) c.len.ensures) refl
