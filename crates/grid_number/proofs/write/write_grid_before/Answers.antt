use Rattle.std.proofs.Common.{◌≡◌, ◌+◌, ◌^◌, ◌≤◌, ◌++◌, if◌then◌else◌, true, false, ℕ, ℤ, List, length, drop, arith, ap, sym, ◌∙◌, refl, append_assoc, length-append, codes, nat_abs, int_lt, pos, IsTrue, of_z, to_z, w32}
use Rattle.std.proofs.lemmas.Int.{to_z-of_z, fits_signed_from_abs}
use Rattle.text_terms.specs.Numbers.{is_on_grid}
use Rattle.text_terms.specs.Written.{written, written_size}
use Rattle.grid_number.specs.Bytes.{sign_of}
use Rattle.grid_number.proofs.Bytes.{length-written, length-size, on_grid-bound}
use Rattle.grid_number.proofs.ReadBack.{grid_number-written}
use Rattle.grid_number.proofs.write.write_grid_before.Goals as goal

-- a number is its sign and its size
in_parts : (k : ℕ) (z : ℤ) → written k z ≡ sign_of (int_lt z (pos 0)) ++ written_size k (nat_abs z)
in_parts k z = elim (int_lt z (pos 0)) as (λ b.
    (if b then codes "-" ++ written_size k (nat_abs z) else written_size k (nat_abs z)) ≡ sign_of b ++ written_size k (nat_abs z))
    [ true ↦ refl | false ↦ refl ]

-- the parts of a number z that is read as r and has the size n
parts_read : (k : ℕ) (z r : ℤ) (n : ℕ) → r ≡ z → n ≡ nat_abs r → written k z ≡ sign_of (int_lt r (pos 0)) ++ written_size k n
parts_read k z r n same size =
    in_parts k z ∙ ap (λ (v : ℤ). sign_of (int_lt v (pos 0)) ++ written_size k (nat_abs v)) (sym same)
    ∙ ap (λ (m : ℕ). sign_of (int_lt r (pos 0)) ++ written_size k m) (sym size)

-- a number on the grid fits 32 bits, so that it is read as it is written
as_read : (z : ℤ) → IsTrue (is_on_grid z) → to_z w32 (of_z w32 z) ≡ z
as_read z on_grid = to_z-of_z w32 z (fits_signed_from_abs w32 z (omega (arith, on_grid-bound z on_grid)))

-- there is a place before the size
place : (k n start end : ℕ) → k ≤ 6 → n ≤ 2 ^ 30 → 12 ≤ end → start + length (written_size k n) ≡ end → 1 ≤ start
place k n start end few small room is = let most = (length-size k n few small).0 in omega (arith, most, room, is)

-- the size is on the grid
small : (z r : ℤ) (n : ℕ) → IsTrue (is_on_grid z) → r ≡ z → n ≡ nat_abs r → n ≤ 2 ^ 30
small z r n on_grid same size = let most = on_grid-bound z on_grid in let e = ap nat_abs same in omega (arith, most, e, size)

pub sign_before-requires : goal.sign_before-requires
sign_before-requires c =
    let size = c.size_before-start in
    let fits = small c.args.value _ c.unsigned_abs.result c.requires.on_grid (as_read c.args.value c.requires.on_grid) c.unsigned_abs.ensures.value in
    let some = place c.args.digits c.unsigned_abs.result size.result c.args.end c.requires.digits fits c.requires.room.0 size.ensures.start in
    let room = c.requires.room in
    let start = size.ensures.start in
    let same = size.auto.text in
    record { room = (some, omega (arith, room.1, start, same)) }

pub returns-clause-start : goal.returns-clause-start
returns-clause-start c =
    let parts = parts_read c.args.digits c.args.value _ c.unsigned_abs.result (as_read c.args.value c.requires.on_grid) c.unsigned_abs.ensures.value in
    let long = ap (λ (l : List ℕ). length l) parts in
    let both = length-append (sign_of (int_lt (to_z w32 (of_z w32 c.args.value)) (pos 0))) (written_size c.args.digits c.unsigned_abs.result) in
    let size = c.size_before-start.ensures.start in
    let sign = c.sign_before.ensures.start in
    omega (arith, long, both, size, sign)

pub returns-clause-short : goal.returns-clause-short
returns-clause-short c =
    let start = returns-clause-start c in
    let most = (length-written c.args.digits c.args.value c.requires.digits (on_grid-bound c.args.value c.requires.on_grid)).0 in
    omega (arith, start, most)

pub returns-clause-text : goal.returns-clause-text
returns-clause-text c =
    let parts = parts_read c.args.digits c.args.value _ c.unsigned_abs.result (as_read c.args.value c.requires.on_grid) c.unsigned_abs.ensures.value in
    let sign = sign_of (int_lt (to_z w32 (of_z w32 c.args.value)) (pos 0)) in
    let rest = drop c.args.end c.args.text.now in
    c.sign_before.ensures.text ∙ ap (λ (l : List ℕ). sign ++ l) c.size_before-start.ensures.text
    ∙ sym (append_assoc sign (written_size c.args.digits c.unsigned_abs.result) rest)
    ∙ ap (λ (l : List ℕ). l ++ rest) (sym parts)

pub returns-clause-read_back : goal.returns-clause-read_back
returns-clause-read_back c =
    grid_number-written c.args.digits c.args.value (omega (arith, on_grid-bound c.args.value c.requires.on_grid))
