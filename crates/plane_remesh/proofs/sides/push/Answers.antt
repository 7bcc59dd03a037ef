use Rattle.std.proofs.Common.{[], ◌++◌, ◌∷◌, ◌<◌, arith, length}
use Rattle.plane_filling.specs.Regions.{all_walks, waiting}
use Rattle.plane_sheets.proofs.Outcomes.{on_ok}
use Rattle.plane_remesh.proofs.Storing.{few_more, made_seen}
use Rattle.plane_remesh.proofs.sides.push.Goals as goal

pub returns-clause-seen : goal.returns-clause-seen
returns-clause-seen c = on_ok c.push.result _ _ (made_seen c.args.regions.now c.push.new.self c.args.region c.requires.made) c.push.ensures

pub returns-clause-few : goal.returns-clause-few
returns-clause-few c =
    let r = c.args.regions.now in
    let few : length r.all.items < 4294967295 = omega (arith, c.if-len-ge-MOST_REGIONS.false, c.len.ensures) in
    on_ok c.push.result _ _ (few_more r c.push.new.self c.args.region (all_walks r ++ waiting r ∷ []) [] r.walks.1 few) c.push.ensures
