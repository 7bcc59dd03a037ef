use Rattle.std.proofs.Common.{◌≡◌, ◌∷◌, rules, to_z, of_z}
use Rattle.std.specs.Int.{w32}
use Rattle.obj_text.proofs.PlainReads.{point_begins}
use Rattle.obj_text.proofs.plain.point_line.Goals as goal

pub returns : goal.returns
returns c =
    let x_same : to_z w32 (of_z w32 c.in_ok-x.x) ≡ c.in_ok-x.x = search rules in
    let y_same : to_z w32 (of_z w32 c.in_ok-y.y) ≡ c.in_ok-y.y = search rules in
    let z_same : to_z w32 (of_z w32 c.in_ok-z.z) ≡ c.in_ok-z.z = search rules in
    let letter : c.args.text.now ≡ 118 ∷ c.in_ok-text.text.now = search rules in
    rw (x_same, y_same, z_same) (point_begins c.args.digits c.args.text.now c.in_ok-text.text.now c.in_ok-x.text.now c.in_ok-y.text.now c.in_ok-z.text.now
    c.in_ok-text-2.text.now c.in_ok-x.x c.in_ok-y.y c.in_ok-z.z letter c.in_ok-x.ensures c.in_ok-y.ensures c.in_ok-z.ensures c.in_ok-text-2.ensures)
