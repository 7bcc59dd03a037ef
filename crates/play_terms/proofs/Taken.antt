-- What is known of words that are not refused as operands.
use Rattle.std.proofs.Common.{◌≡◌, ℕ, zero, suc, ◌+◌, ◌<◌, ◌≤◌, ℤ, pos, Bool, true, false, List, [], ◌∷◌, length, get_or, Option, Some, None, IsTrue, refl, unwrap_or, arith}
use Rattle.std.specs.Prelude.{◌&&◌, nat_le, if◌then◌else◌, option_and_then, codes, bytes_eq}
use Rattle.std.specs.Str.{is_utf8}
use Rattle.std.proofs.lemmas.Bool.Decides.{nat_tests}
use Rattle.text_terms.specs.Numbers.{digits_value, grid_number, is_digits, is_on_grid}
use Rattle.mesh_terms.specs.Points.{IsOnGrid, IsPoint}
use Rattle.run_terms.specs.Files.{Bytes}
use Rattle.play_terms.specs.Formats.{is_mesh_name}
use Rattle.play_terms.specs.ScriptCommands.{at, point_at}
use Rattle.play_terms.specs.Operands.{Operand, NewName, is_name, new_name_fault, old_name_fault, file_name_fault, number_of, number_fault, within_fault, axis, axis_fault, value_fault, operand_fault, operands_fault, or_later}
use Rattle.play_terms.specs.Steps.{Line, is_given}
use Rattle.play_terms.specs.declared.held.HeldKind.{HeldKind}

-- neither of two faults
neither : (a b : Option ℕ) → or_later a b ≡ None → (a ≡ None) × (b ≡ None)
neither None b e = (refl, e)
neither (Some kind) b e = absurd (cc)

-- both of two tests
pub both : (a b : Bool) → (a && b) ≡ true → (a ≡ true) × (b ≡ true)
both true true e = (refl, refl)
both true false e = absurd (cc)
both false b e = absurd (cc)

-- a test without a fault is passed
passed : (b : Bool) (kind : ℕ) → (if b then None else Some kind) ≡ None → b ≡ true
passed true kind e = refl
passed false kind e = absurd (cc)

pub name_taken : (w : Bytes) → new_name_fault w ≡ None → IsTrue (is_name w)
name_taken w e = passed (is_name w) 22 e

pub old_taken : (kind : HeldKind) (before : List Line) (w : Bytes) → old_name_fault kind before w ≡ None → IsTrue (is_name w) × IsTrue (is_given kind w before)
old_taken kind before w e = by_name (is_name w) refl e
  where
    known : Bool → Option ℕ
    known b = if b then None else Some 23

    by_name : (b : Bool) → is_name w ≡ b → (if b then known (is_given kind w before) else Some 22) ≡ None → IsTrue (is_name w) × IsTrue (is_given kind w before)
    by_name true is e = (is, passed (is_given kind w before) 23 e)
    by_name false is e = absurd (cc)

pub file_taken : (w : Bytes) → file_name_fault w ≡ None → IsTrue (is_mesh_name w)
file_taken w e = (both (is_utf8 w) (is_mesh_name w) (passed (is_utf8 w && is_mesh_name w) 25 e)).1

pub number_taken : (k : ℕ) (w : Bytes) → number_fault k w ≡ None → IsOnGrid (number_of k w)
unfolding number_of number_fault
number_taken k w e = by_number (grid_number k w) e
  where
    on_grid : ℤ → Option ℤ
    on_grid z = if is_on_grid z then Some z else None

    by_test : (z : ℤ) (b : Bool) → is_on_grid z ≡ b → value_fault (if b then Some z else None) ≡ None → IsOnGrid (unwrap_or (if b then Some z else None) (pos 0))
    by_test z true is e = grind (arith, nat_tests, is)
    by_test z false is e = absurd (cc)

    by_number : (o : Option ℤ) → value_fault (option_and_then on_grid o) ≡ None → IsOnGrid (unwrap_or (option_and_then on_grid o) (pos 0))
    by_number None e = absurd (cc)
    by_number (Some z) e = by_test z (is_on_grid z) refl e

pub within_taken : (low high : ℕ) (w : Bytes) → within_fault low high w ≡ None → (low ≤ digits_value w) × (digits_value w ≤ high)
within_taken low high w e =
    let n = digits_value w in
    let range = both (is_digits w && nat_le (length w) 7 && nat_le low n) (nat_le n high) (passed _ 24 e) in
    let least = both (is_digits w && nat_le (length w) 7) (nat_le low n) range.0 in
    (grind (arith, nat_tests, least.1), grind (arith, nat_tests, range.1))

pub axis_taken : (w : Bytes) → axis_fault w ≡ None → unwrap_or (axis w) 0 < 3
axis_taken w e = by_x (bytes_eq w (codes "x")) (bytes_eq w (codes "y")) (bytes_eq w (codes "z"))
  where
    by_x : (x y z : Bool) → unwrap_or (if x then Some 0 else if y then Some 1 else if z then Some 2 else None) 0 < 3
    by_x true y z = omega arith
    by_x false true z = omega arith
    by_x false false true = omega arith
    by_x false false false = omega arith

-- three numbers are a point
pub point_taken : (k : ℕ) (ws : List Bytes) (i : ℕ) → number_fault k (at ws i) ≡ None → number_fault k (at ws (i + 1)) ≡ None → number_fault k (at ws (i + 2)) ≡ None
    → IsPoint (point_at k ws i)
point_taken k ws i x y z = record { three = refl; x = number_taken k (at ws i) x; y = number_taken k (at ws (i + 1)) y; z = number_taken k (at ws (i + 2)) z }

-- where no operand is refused, that at a place is not
pub none_at : (k : ℕ) (before : List Line) (os : List Operand) (ws : List Bytes) (i : ℕ) → length ws ≡ length os → operands_fault k before os ws ≡ None → i < length os
    → operand_fault k before (get_or os i NewName) (at ws i) ≡ None
none_at k before [] ws i count none inside = absurd (omega arith)
none_at k before (o ∷ os) [] i count none inside = absurd (omega (arith, count))
none_at k before (o ∷ os) (w ∷ ws) zero count none inside = (neither (operand_fault k before o w) (operands_fault k before os ws) none).0
none_at k before (o ∷ os) (w ∷ ws) (suc i) count none inside =
    none_at k before os ws i (omega (arith, count)) (neither (operand_fault k before o w) (operands_fault k before os ws) none).1 (omega arith)
