use Rattle.std.proofs.Common.{◌≡◌, ◌∷◌, [], ℕ, ℤ, List, false, ap, ◌∙◌, to_z, of_z, w32}
use Rattle.std.specs.Prelude.{◌-ℤ◌}
use Rattle.mesh_terms.specs.Points.{IsOnGrid, coordinate_of}
use Rattle.outline_terms.specs.Outlines.{is_up}
use Rattle.cross_section.proofs.KeptNumbers.{kept_grid, kept_step}
use Rattle.cross_section.proofs.numbers.marks.marks_between.Goals as goal

-- a coordinate of a point that was read
read : (p seen : List ℤ) → seen ≡ p → (i : ℕ) → IsOnGrid (coordinate_of p i) → to_z w32 (of_z w32 (coordinate_of seen i)) ≡ coordinate_of p i
read p seen e i h = ap (λ q. to_z w32 (of_z w32 (coordinate_of q i))) e ∙ kept_grid (coordinate_of p i) h

pub returns : goal.returns
returns c =
    let a = c.args.a in
    let b = c.args.b in
    let ax = read a c.at.result c.at.ensures.value 0 c.at.ensures.on_grid.x in
    let ay = read a c.at.result c.at.ensures.value 1 c.at.ensures.on_grid.y in
    let bx = read b c.at-2.result c.at-2.ensures.value 0 c.at-2.ensures.on_grid.x in
    let b_y = read b c.at-2.result c.at-2.ensures.value 1 c.at-2.ensures.on_grid.y in
    let up : c.step.result ≡ coordinate_of b 1 -ℤ coordinate_of a 1 = c.step.ensures.value ∙ (λ i. b_y i -ℤ ay i) in
    let back : c.step-2.result ≡ coordinate_of a 0 -ℤ coordinate_of b 0 = c.step-2.ensures.value ∙ (λ i. ax i -ℤ bx i) in
    let x = c.is_up.ensures ∙ ap (is_up c.args.op) (kept_step c.step.result c.step.ensures.small ∙ up) in
    let y = c.is_up-2.ensures ∙ ap (is_up c.args.op) (kept_step c.step-2.result c.step-2.ensures.small ∙ back) in
    λ i. x i ∷ y i ∷ false ∷ []
