use Rattle.std.proofs.Common.{◌≡◌, ◌++◌, List, ℕ, ℤ, arith, codes, of_z, to_z, subst, w32}
use Rattle.std.proofs.lemmas.Int.{to_z-of_z, fits_signed_from_abs}
use Rattle.mesh_terms.specs.Points.{coordinate_of, IsOnGrid}
use Rattle.text_terms.specs.Written.{three_numbers, written}
use Rattle.report_lines.proofs.Puts.{five_put}
use Rattle.report_lines.proofs.inspection_tail.put_point.Goals as goal

-- a coordinate on the grid fits 32 bits, so that it is read as it is written
as_read : (z : ℤ) → IsOnGrid z → to_z w32 (of_z w32 z) ≡ z
as_read z on_grid = to_z-of_z w32 z (fits_signed_from_abs w32 z (omega (arith, on_grid)))

pub returns-clause-text : goal.returns-clause-text
returns-clause-text c =
    let number = λ (i : ℕ). written c.args.digits (coordinate_of c.at.result i) in
    let point = rw (← c.at.ensures.value) at c.at.ensures.on_grid in
    let x = rw (as_read (coordinate_of c.at.result 0) point.x) at c.put_coordinate.ensures.text in
    let y = rw (as_read (coordinate_of c.at.result 1) point.y) at c.put_coordinate-2.ensures.text in
    let z = rw (as_read (coordinate_of c.at.result 2) point.z) at c.put_coordinate-3.ensures.text in
    let P : List ℤ → Type 0 = λ p. c.put_coordinate-3.new.tail.items ≡ c.args.tail.now.items ++ (c.args.word.now ++ three_numbers c.args.digits p) in
    subst P c.at.ensures.value
    (five_put c.args.tail.now.items c.args.word.now (number 0) (codes " ") (number 1) (number 2) _ _ _ _ _ _ c.put.ensures.text x c.put-2.ensures.text y
    c.put-3.ensures.text z)
