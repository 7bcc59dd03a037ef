-- The reduced mesh: of triangles on the same three vertices as many are removed as have the other orientation.
use Rattle.std.specs.Prelude.{◌≡◌, ℕ, suc, ℤ, List, [], ◌∷◌, ◌++◌, Bool, false, cond, ◌==◌, ◌&&◌, ◌||◌, nat_le, map, take, get_or, length, count_by}
use Rattle.std.specs.List.{Contains}
use Rattle.chain_terms.specs.Sums.{upto}
use Rattle.mesh_terms.specs.Meshes.{Triple, Soup, soup_of}

-- the same vertices in the same places
abbrev pub same_triple : Triple → Triple → Bool
same_triple s t = (s.0 == t.0) && (s.1 == t.1) && (s.2 == t.2)

-- one is a rotation of the other
abbrev pub same_way : Triple → Triple → Bool
same_way s t = same_triple s t || same_triple s (t.1, t.2, t.0) || same_triple s (t.2, t.0, t.1)

-- the same three vertices, the other way round
abbrev pub opposite : Triple → Triple → Bool
opposite s t = same_way s (t.0, t.2, t.1)

-- triple t, which stands at place i, is not among the first of its orientation that go: as many stand before it as have the other
abbrev pub is_kept : List Triple → ℕ → Triple → Bool
is_kept ts i t = nat_le (count_by (opposite t) ts) (count_by (same_way t) (take i ts))

-- the kept ones of the rest, which begins at place i of all
abbrev pub kept_from : List Triple → ℕ → List Triple → List Triple
kept_from all i [] = []
kept_from all i (t ∷ ts) = cond (is_kept all i t) (t ∷ []) [] ++ kept_from all (suc i) ts

-- the kept triples, in their order
abbrev pub kept_triples : List Triple → List Triple
kept_triples ts = kept_from ts 0 ts

-- for each triple whether it is kept
abbrev pub kept_marks : List Triple → List Bool
kept_marks ts = map (λ i. is_kept ts i (get_or ts i (0, 0, 0))) (upto (length ts))

-- the members with a mark
abbrev pub picked : {X : Type 0} → List Bool → List X → List X
picked [] xs = []
picked (m ∷ ms) [] = []
picked (m ∷ ms) (x ∷ xs) = cond m (x ∷ []) [] ++ picked ms xs

-- the places of the kept triples, ascending: those whose mark stands
abbrev pub kept_places : List Triple → List ℕ
kept_places ts = picked (kept_marks ts) (upto (length ts))

-- the members at these places
abbrev pub members_at : {X : Type 0} → X → List X → List ℕ → List X
members_at d xs places = map (λ p. get_or xs p d) places

-- points and kept triples with their labels, without the points that none of these uses
abbrev pub reduced : List (List ℤ) → List Triple → List (List ℕ) → Soup
reduced points ts labels = soup_of points (kept_triples ts) (picked (kept_marks ts) labels)

-- no two triples have the same three vertices with different orientations
abbrev pub NoOpposite : List Triple → Type 0
NoOpposite ts = (s t : Triple) → Contains ts s → Contains ts t → opposite s t ≡ false
