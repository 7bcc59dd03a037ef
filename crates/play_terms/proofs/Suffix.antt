-- The end of a name against a suffix.
use Rattle.std.proofs.Common.{◌≡◌, ◌∙◌, ℕ, ◌-◌, List, Bool, length, map, take, drop, ap, arith, length-drop}
use Rattle.std.specs.Bool.{Decides}
use Rattle.std.specs.Char.{to_ascii_lowercase}
use Rattle.std.specs.Str.{str_to_ascii_lowercase}
use Rattle.std.proofs.lemmas.Bool.Decides.{same_from_decides}
use Rattle.std.proofs.lemmas.List.{take_all}
use Rattle.std.proofs.lemmas.Slice.Eq.{bytes_eq-Decides}
use Rattle.text_terms.specs.Names.{has_suffix}

-- a test of the last four bytes says whether the name has the suffix
pub by_its_end : (suffix name : List ℕ) (start : ℕ) (test : Bool) → start ≡ length name - 4
    → Decides test (map to_ascii_lowercase (take (length name - start) (drop start name)) ≡ suffix) → test ≡ has_suffix suffix name
by_its_end suffix name start test is decides =
    let whole : take (length name - start) (drop start name) ≡ drop (length name - 4) name =
    take_all (length name - start) (drop start name) (omega (arith, length-drop start name)) ∙ ap (λ k. drop k name) is in
    same_from_decides test (has_suffix suffix name) (rw whole at decides) (bytes_eq-Decides (str_to_ascii_lowercase (drop (length name - 4) name)) suffix)
