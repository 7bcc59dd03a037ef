-- A third vertex among the places that are left.
use Rattle.std.specs.Prelude.{◌≡◌, ℕ, List, Bool, true, false, not, ◌&&◌, ◌==◌, length, set}
use Rattle.std.specs.List.{list_any}
use Rattle.std.proofs.Common.{◌∙◌}
use Rattle.std.proofs.lemmas.Bool.{and_parts, not-true, eqb-false, ne_eqb}
use Rattle.std.proofs.lemmas.List.{length-set}
use Rattle.ring_cutting.specs.declared.place.Place.{Place}
use Rattle.ring_cutting.specs.Left.{lives, place_of, left_of, third_place}
use Rattle.ring_cutting.proofs.Lefts.{lives_less, lives_other, lives_kept, any_left}

-- whether a place is left, is another than i, and has a third vertex
abbrev pub third_at : List Place → List Bool → ℕ → ℕ → ℕ → ℕ → Bool
third_at ps bs i p n j = (lives bs j && not (j == i)) && third_place p n (place_of ps j)

-- such a place is among those without i
pub third_some : (ps : List Place) (bs : List Bool) (i p n j : ℕ) → length bs ≡ length ps → third_at ps bs i p n j ≡ true →
    list_any (third_place p n) (left_of (set bs i false) ps) ≡ true
third_some ps bs i p n j many y =
    let both = and_parts (lives bs j && not (j == i)) (third_place p n (place_of ps j)) y in
    let two = and_parts (lives bs j) (not (j == i)) both.0 in
    any_left (third_place p n) (set bs i false) ps j (length-set bs i false ∙ many)
    (lives_kept bs i j (eqb-false j i (not-true (j == i) two.1)) two.0) both.1

-- where a place without i is none such, it has no third vertex
pub third_none : (ps : List Place) (bs : List Bool) (i p n j : ℕ) → third_at ps bs i p n j ≡ false → lives (set bs i false) j ≡ true →
    third_place p n (place_of ps j) ≡ false
third_none ps bs i p n j none l =
    last (lives bs j) (j == i) (third_place p n (place_of ps j)) (lives_less bs i j l) (ne_eqb j i (lives_other bs i j l)) none
  where
    last : (a b d : Bool) → a ≡ true → b ≡ false → ((a && not b) && d) ≡ false → d ≡ false
    last true false d e f h = h
    last true true d e f h = cc
    last false b d e f h = cc
