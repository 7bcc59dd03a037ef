use Rattle.std.proofs.Common.{◌≡◌, List, ℕ, ◌++◌, append_assoc, codes, ℤ, arith, of_z, to_z, w32, subst, drop}
use Rattle.std.proofs.lemmas.Int.{to_z-of_z, fits_signed_from_abs}
use Rattle.mesh_terms.specs.Points.{coordinate_of, IsOnGrid}
use Rattle.text_terms.specs.Written.{three_numbers, written}
use Rattle.mesh_writer.proofs.lines.numbers_before.Goals as goal

-- five texts, each put before the others
five : (a b c d e : List ℕ) (p0 p1 p2 p3 p4 p5 : List ℕ) → p1 ≡ e ++ p0 → p2 ≡ d ++ p1 → p3 ≡ c ++ p2 → p4 ≡ b ++ p3 → p5 ≡ a ++ p4 → p5 ≡ (a ++ b ++ c ++ d ++ e) ++ p0
five a b c d e p0 p1 p2 p3 p4 p5 h1 h2 h3 h4 h5 =
    let all : p5 ≡ a ++ (b ++ (c ++ (d ++ (e ++ p0)))) = cc in
    let same : a ++ (b ++ (c ++ (d ++ (e ++ p0)))) ≡ (a ++ b ++ c ++ d ++ e) ++ p0 = simp append_assoc in
    cc

-- a coordinate on the grid fits 32 bits, so that it is read as it is written
as_read : (z : ℤ) → IsOnGrid z → to_z w32 (of_z w32 z) ≡ z
as_read z on_grid = to_z-of_z w32 z (fits_signed_from_abs w32 z (omega (arith, on_grid)))

pub returns-clause-text : goal.returns-clause-text
returns-clause-text c =
    let number = λ (i : ℕ). written c.args.digits (coordinate_of c.at.result i) in
    let rest = drop c.args.end c.args.line.now in
    let point = rw (← c.at.ensures.value) at c.at.ensures.on_grid in
    let x = rw (as_read (coordinate_of c.at.result 0) point.x) at c.write_grid_before.ensures.text in
    let y = rw (as_read (coordinate_of c.at.result 1) point.y) at c.write_grid_before-end-2.ensures.text in
    let z = rw (as_read (coordinate_of c.at.result 2) point.z) at c.write_grid_before-end.ensures.text in
    let P : List ℤ → Type 0 = λ p. drop c.write_grid_before.result c.write_grid_before.new.text ≡ three_numbers c.args.digits p ++ rest in
    subst P c.at.ensures.value (five (number 0) (codes " ") (number 1) (codes " ") (number 2) rest _ _ _ _ _ z c.word_before-end.ensures.text y c.word_before-end-2.ensures.text x)
