use Rattle.std.proofs.Common.{rules}
use Rattle.shadow_kernels.specs.Spots.{Between}
use Rattle.edge_face.specs.Crossings.{Settle, p_point}
use Rattle.edge_face.proofs.Placed.{made_point, kept_settled, kept_on}
use Rattle.edge_face.proofs.points.p_point.Goals as goal

pub returns : goal.returns
unfolding p_point
returns g c =
    let w : Between = g.R.Rounding.between_of c.args.rounding.now in
    let settle : Settle = g.R.Rounding.settle_of c.args.rounding.now in
    let d = c.requires.below_fine in
    let u = c.requires.above_fine in
    let a = c.gap_in_z-a.ensures in
    let b = c.gap_in_z-b.ensures in
    let x = kept_settled w settle c.settled.ensures.value d.x u.x a.weight b.weight a.value b.value (search rules) in
    let y = kept_settled w settle c.settled-2.ensures.value d.py u.py a.weight b.weight a.value b.value (search rules) in
    let z = kept_settled w settle c.settled-3.ensures.value d.pz u.pz a.weight b.weight a.value b.value (search rules) in
    let on = c.of.ensures.on_grid.1
    (kept_on c.settled.result c.settled.ensures.on_grid, kept_on c.settled-2.result c.settled-2.ensures.on_grid, kept_on c.settled-3.result c.settled-3.ensures.on_grid) in
    made_point c.of.result on c.of.ensures.value x y z
