-- Names and file names: what their tests say of them.
use Rattle.std.proofs.Common.{◌≡◌, ℕ, zero, suc, ◌<◌, Bool, true, false, [], ◌∷◌, length, get_or, Option, Some, None, refl, arith}
use Rattle.std.specs.Prelude.{nat_le, ◌&&◌, if◌then◌else◌}
use Rattle.std.specs.List.{list_all}
use Rattle.std.specs.Str.{IsUtf8, is_utf8}
use Rattle.std.proofs.lemmas.Bool.{false_from_ne_true}
use Rattle.std.proofs.lemmas.Bool.Decides.{nat_tests}
use Rattle.std.proofs.lemmas.Str.{IsUtf8-from_ascii, IsUtf8-from_is_utf8, is_utf8-from_IsUtf8}
use Rattle.run_terms.specs.Files.{Bytes}
use Rattle.play_terms.specs.Formats.{is_mesh_name}
use Rattle.play_terms.specs.Operands.{is_name, is_name_byte, begins_name, file_name_fault}

-- both of two tests
both : (a b : Bool) → (a && b) ≡ true → (a ≡ true) × (b ≡ true)
both true true e = (refl, refl)
both true false e = absurd (cc)
both false b e = absurd (cc)

-- a byte of a name is ASCII
name_byte-ascii : (c : ℕ) → is_name_byte c ≡ true → c < 128
name_byte-ascii c e = grind (arith, nat_tests, e)

-- so are all
name-ascii : (w : Bytes) (i : ℕ) → list_all is_name_byte w ≡ true → get_or w i 0 < 128
name-ascii [] i e = omega arith
name-ascii (c ∷ cs) zero e = name_byte-ascii c (both (is_name_byte c) (list_all is_name_byte cs) e).0
name-ascii (c ∷ cs) (suc i) e = name-ascii cs i (both (is_name_byte c) (list_all is_name_byte cs) e).1

-- a name is a text
pub name-utf8 : (w : Bytes) → is_name w ≡ true → IsUtf8 w
name-utf8 w e = IsUtf8-from_ascii w (λ i. name-ascii w i (both (begins_name w && nat_le (length w) 32) (list_all is_name_byte w) e).1)

-- a text with the suffix is taken
pub file-taken : (w : Bytes) → IsUtf8 w → is_mesh_name w ≡ true → file_name_fault w ≡ None
file-taken w text suffix = rw (is_utf8-from_IsUtf8 w text, suffix) refl

-- another suffix is refused
pub file-suffix : (w : Bytes) → is_mesh_name w ≡ false → file_name_fault w ≡ Some 25
file-suffix w suffix = rw suffix (by_text (is_utf8 w))
  where
    by_text : (b : Bool) → if◌then◌else◌ {A = Option ℕ} (b && false) None (Some 25) ≡ Some 25
    by_text true = refl
    by_text false = refl

-- what is no text is refused
pub file-bytes : (w : Bytes) → (IsUtf8 w → ⊥) → file_name_fault w ≡ Some 25
file-bytes w none = rw (false_from_ne_true (is_utf8 w) (λ e. none (IsUtf8-from_is_utf8 w e))) refl
