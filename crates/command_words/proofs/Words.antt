-- What a word is worth.
use Rattle.std.proofs.Common.{◌≡◌, ℕ, ℤ, ◌-◌, ◌≤◌, ◌<◌, [], ◌∷◌, Result, Ok, Err, Some, None, IfOk, IsTrue, ◌↔◌, Option, cond, get_or, length, ap, sym, refl, ◌∙◌, arith}
use Rattle.std.specs.Option.{option_and_then}
use Rattle.std.specs.Result.{result_ok}
use Rattle.std.proofs.lemmas.Bool.{le-leb}
use Rattle.text_terms.specs.Numbers.{grid_number, is_on_grid}
use Rattle.grid_number.specs.Reading.{IsOffGrid}
use Rattle.grid_number.specs.declared.read.NumberFault.{NumberFault}
use Rattle.grid_number.specs.declared.read.NumberFault.TheVariants.{NotANumber, OutOfGrid}
use Rattle.run_terms.specs.Files.{Bytes}
use Rattle.play_terms.specs.Words.{digits_of, grid_operand}

-- one character from 0 to 6
pub one_digit : (text : Bytes) → 1 ≤ length text → length text < 2 → 48 ≤ get_or text 0 0 → get_or text 0 0 ≤ 54 → Some (get_or text 0 0 - 48) ≡ digits_of (text ∷ [])
one_digit [] some few low high = absurd (omega arith)
one_digit (c ∷ []) some few low high = rw (le-leb 48 c low, le-leb c 54 high) refl
one_digit (c ∷ d ∷ rest) some few low high = absurd (omega arith)

abbrev on_grid : Option ℤ → Option ℤ
on_grid o = option_and_then (λ z. cond (is_on_grid z) (Some z) None) o

off_grid : (o : Option ℤ) → IsOffGrid o → None ≡ on_grid o
off_grid None off = refl
off_grid (Some z) off = sym (ap (λ b. cond b (Some z) None) off)

-- what was read of a word under so many digits
pub operand_read : (k : ℕ) (word text : Bytes) (r : Result ℤ NumberFault) → text ≡ word → IfOk r (λ z. (grid_number k text ≡ Some z) × IsTrue (is_on_grid z))
    → (r ≡ Err NotANumber) ↔ (grid_number k text ≡ None) → (r ≡ Err OutOfGrid) ↔ IsOffGrid (grid_number k text) → result_ok r ≡ grid_operand k word
operand_read k word text (Ok z) same ok none off = sym (ap (λ b. cond b (Some z) None) ok.1) ∙ sym (ap on_grid ok.0) ∙ ap (grid_operand k) same
operand_read k word text (Err NotANumber) same ok none off = sym (ap on_grid (none.0 refl)) ∙ ap (grid_operand k) same
operand_read k word text (Err OutOfGrid) same ok none off = off_grid (grid_number k text) (off.0 refl) ∙ ap (grid_operand k) same
