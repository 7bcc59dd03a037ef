-- What a shelf holds that has one file to read and one to write, with room for what is written.
use Rattle.std.specs.Prelude.{◌≡◌, ◌||◌, ℕ, Bool, not, [], Option, Some, None, true, IsTrue, IsSome, bytes_eq, length, nat_lt}
use Rattle.std.proofs.Common.{refl, ap, sym}
use Rattle.std.proofs.lemmas.Slice.Eq.{bytes_eq-Decides}
use Rattle.run_terms.specs.Files.{Bytes, Files, put}

-- the file to read, the file to write, how many bytes this one can still take, and how often a write failed
pub record SureState : Type 0 where
  pub name : Bytes
  pub bytes : Bytes
  pub out : Bytes
  pub text : Bytes
  pub left : ℕ
  pub write_faults : ℕ

-- a shelf on which nothing was written yet
abbrev pub sure_shelf : (name bytes out : Bytes) → ℕ → SureState
sure_shelf name bytes out room = record { name = name; bytes = bytes; out = out; text = []; left = room; write_faults = 0 }

-- both files
abbrev pub files_on : SureState → Files
files_on shelf = put shelf.out shelf.text (put shelf.name shelf.bytes (λ n. None))

-- the file to write, and how many bytes it can still take
abbrev pub spare_on : SureState → Option (Bytes × ℕ)
spare_on shelf = Some (shelf.out, shelf.left)

-- whether a begin fails: the file is not the one to write
abbrev pub is_not_out : SureState → Bytes → Bool
is_not_out shelf name = not (bytes_eq name shelf.out)

-- whether an append fails: the file is not the one to write, or it can't take the piece
abbrev pub is_too_much : SureState → Bytes → Bytes → Bool
is_too_much shelf name piece = is_not_out shelf name || nat_lt shelf.left (length piece)

-- the file to write is there
pub out_is_there : (shelf : SureState) (told : Bytes × ℕ) → spare_on shelf ≡ Some told → IsTrue true × IsSome (files_on shelf told.0)
out_is_there shelf told is =
    let pair : (shelf.out, shelf.left) ≡ told = cc in
    let named : told.0 ≡ shelf.out = sym (ap (λ (p : Bytes × ℕ). p.0) pair) in
    let here = (bytes_eq-Decides told.0 shelf.out).1 named in
    (refl, rw here refl)
