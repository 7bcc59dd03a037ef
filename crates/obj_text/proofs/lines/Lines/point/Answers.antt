use Rattle.std.proofs.Common.{◌≡◌, [], ◌∷◌, rules, to_z, of_z}
use Rattle.std.specs.Int.{w32}
use Rattle.obj_text.proofs.PlainReads.{point_first}
use Rattle.obj_text.proofs.lines.Lines.point.Goals as goal

pub returns : goal.returns
returns c =
    let x_same : to_z w32 (of_z w32 c.in_ok-x.x) ≡ c.in_ok-x.x = search rules in
    let y_same : to_z w32 (of_z w32 c.in_ok-x.y) ≡ c.in_ok-x.y = search rules in
    let z_same : to_z w32 (of_z w32 c.in_ok-x.z) ≡ c.in_ok-x.z = search rules in
    rw (← c.self.view_is, x_same, y_same, z_same)
    (point_first c.args.digits c.self.inside.number c.self.inside.text.now c.in_ok-x.text.now (c.in_ok-x.x ∷ c.in_ok-x.y ∷ c.in_ok-x.z ∷ []) c.in_ok-x.ensures)
