-- Rims that have the same places and face opposite sides.
use Rattle.std.specs.Prelude.{◌≡◌, ℕ, suc, ◌+◌, ◌*◌, ◌<◌, List, [], ◌∷◌, Bool, false, not, ◌&&◌, ◌==◌, if◌then◌else◌, count_by, filter, get_or, length, map, nat_le, take}
use Rattle.std.specs.List.{All, list_all}
use Rattle.chain_terms.specs.Sums.{upto}
use Rattle.face_plane.specs.Rings.{in_list}

-- a number above all members of a list
abbrev pub above_all : List ℕ → ℕ
above_all [] = 0
above_all (v ∷ vs) = suc v + above_all vs

-- the places on a rim in ascending order, each once
unfoldable pub places_on : List ℕ → List ℕ
places_on rim = filter (λ v. in_list v rim) (upto (above_all rim))

-- the same places are on both rims
abbrev pub same_places : List ℕ → List ℕ → Bool
same_places a b = list_all (λ v. in_list v b) a && list_all (λ v. in_list v a) b

-- both face one side
abbrev pub same_side : Bool → Bool → Bool
same_side a b = if a then b else not b

-- one of some rims by its place: its number, and whether it faces the front
abbrev pub some_at : List (ℕ × Bool) → ℕ → ℕ × Bool
some_at some i = get_or some i (0, false)

-- its places
abbrev pub rim_at : List (List ℕ) → (ℕ × Bool) → List ℕ
rim_at rims s = get_or rims s.0 []

-- two have the same places and face one side, or opposite ones
abbrev pub is_like : List (List ℕ) → (ℕ × Bool) → (ℕ × Bool) → Bool
is_like rims s t = same_places (rim_at rims s) (rim_at rims t) && same_side s.1 t.1

abbrev pub is_against : List (List ℕ) → (ℕ × Bool) → (ℕ × Bool) → Bool
is_against rims s t = same_places (rim_at rims s) (rim_at rims t) && not (same_side s.1 t.1)

-- it is not one of the first that go: as many like it stand before it as there are against it
abbrev pub stays : List (List ℕ) → List (ℕ × Bool) → ℕ → Bool
stays rims some i = nat_le (count_by (is_against rims (some_at some i)) some) (count_by (is_like rims (some_at some i)) (take i some))

-- the numbers of those that stay
unfoldable pub staying : List (List ℕ) → List (ℕ × Bool) → List ℕ
staying rims some = map (λ i. (some_at some i).0) (filter (stays rims some) (upto (length some)))

-- numbers of their sets of places: below how many there are, and one where the places are the same
pub record AreSets (rims : List (List ℕ)) (some : List (ℕ × Bool)) (sets : List ℕ) : Type 0 where
  pub long : length sets ≡ length some
  pub below : All (λ k. k < length some) sets
  pub same : (i j : ℕ) → i < length some → j < length some → (get_or sets j 0 == get_or sets i 0) ≡ same_places (rim_at rims (some_at some i)) (rim_at rims (some_at some j))

-- a set doubled, and one more where the front is faced
abbrev pub kind : ℕ → Bool → ℕ
kind set front = 2 * set + (if front then 1 else 0)

abbrev pub kinds_of : List ℕ → List (ℕ × Bool) → List ℕ
kinds_of sets some = map (λ i. kind (get_or sets i 0) (some_at some i).1) (upto (length some))
