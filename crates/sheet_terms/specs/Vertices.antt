-- One vertex for each fan, where the twins are given; and twins that are changed until each directed edge is there once.
use Rattle.std.specs.Prelude.{ℕ, zero, suc, ◌+◌, ◌*◌, min, List, [], ◌∷◌, not, ◌&&◌, ◌==◌, if◌then◌else◌, length, get_or, map, filter, Option, Some, None}
use Rattle.std.specs.List.{flat_map, position_or_len}
use Rattle.chain_terms.specs.Chains.{all_edges}
use Rattle.chain_terms.specs.Ranks.{start}
use Rattle.chain_terms.specs.Sums.{upto}
use Rattle.mesh_terms.specs.Halves.{next_half}
use Rattle.mesh_terms.specs.Meshes.{Triple}
use Rattle.sheet_terms.specs.Chains.{same_edge}

-- the twin, then the next
abbrev pub around_by : List ℕ → ℕ → ℕ
around_by twins h = next_half (get_or twins h 0)

-- the first n half-edges that going around from h meets, h first
abbrev pub met : List ℕ → ℕ → ℕ → List ℕ
met twins zero h = []
met twins (suc n) h = h ∷ met twins n (around_by twins h)

-- the least of m and the members
abbrev pub least : ℕ → List ℕ → ℕ
least m [] = m
least m (x ∷ xs) = min x (least m xs)

-- the least half-edge of the fan of each
abbrev pub leaders : List ℕ → List ℕ
leaders twins = map (λ h. least h (met twins (length twins) h)) (upto (length twins))

-- fans: the least half-edge of each, and for each half-edge the number of its fan
pub record Fans : Type 0 where
  pub first : List ℕ
  pub of : List ℕ

-- the least half-edges of all fans at n places, by the place, at one place by the half-edge
abbrev pub fan_list : ℕ → List (ℕ × ℕ) → List ℕ → List ℕ
fan_list n es ls = flat_map (λ v. filter (λ h. (start es h == v) && (get_or ls h 0 == h)) (upto (length es))) (upto n)

-- for each half-edge the place of its fan's least in that list
abbrev pub fans_from : List ℕ → List ℕ → Fans
fans_from first ls = record { first = first; of = map (λ l. position_or_len (λ g. g == l) first) ls }

-- the fans of triangles over n places
abbrev pub fans_by : ℕ → List Triple → List ℕ → Fans
fans_by n ts twins = let ls = leaders twins in fans_from (fan_list n (all_edges ts) ls) ls

-- so many triangles over the fans: where a half-edge started, the number of its fan stands
abbrev pub over_fans : List ℕ → ℕ → List Triple
over_fans of n = map (λ t. (get_or of (3 * t) 0, get_or of (3 * t + 1) 0, get_or of (3 * t + 2) 0)) (upto n)

-- the first half-edge that runs as half-edge h
abbrev pub first_as : List (ℕ × ℕ) → ℕ → ℕ
first_as es h = position_or_len (same_edge (get_or es h (0, 0))) es

-- the first member of a list, with the first half-edge that runs as it
abbrev pub with_first : List (ℕ × ℕ) → List ℕ → Option (ℕ × ℕ)
with_first es [] = None
with_first es (h ∷ hs) = Some (first_as es h, h)

-- the first half-edge that runs as one before it, with the first such one
abbrev pub repeated : List (ℕ × ℕ) → Option (ℕ × ℕ)
repeated es = with_first es (filter (λ h. not (first_as es h == h)) (upto (length es)))

-- the twin of half-edge k once g and h have changed twins
abbrev pub changed_twin : List ℕ → ℕ → ℕ → ℕ → ℕ
changed_twin twins g h k =
    let a = get_or twins g 0 in
    let b = get_or twins h 0 in
    if k == g then b else if k == h then a else if k == a then h else if k == b then g else get_or twins k 0

abbrev pub changed : List ℕ → (ℕ × ℕ) → List ℕ
changed twins p = map (changed_twin twins p.0 p.1) (upto (length twins))

-- x where there is no pair, else f of it
abbrev pub on_pair : {X : Type 0} → Option (ℕ × ℕ) → X → ((ℕ × ℕ) → X) → X
on_pair None x f = x
on_pair (Some p) x f = f p

-- the twins within n changes: the first two half-edges that run between the same vertices change twins, until there are none
abbrev pub settled_within : ℕ → ℕ → List Triple → List ℕ → List ℕ
settled_within zero points ts twins = twins
settled_within (suc n) points ts twins =
    on_pair (repeated (all_edges (over_fans (fans_by points ts twins).of (length ts)))) twins (λ p. settled_within n points ts (changed twins p))

-- each change makes more fans, and there are no more fans than half-edges
abbrev pub settled : ℕ → List Triple → List ℕ → List ℕ
settled points ts twins = settled_within (length twins) points ts twins

-- triangles over vertices, and the place of each vertex
pub record Parted : Type 0 where
  pub triples : List Triple
  pub from : List ℕ

-- one vertex for each fan
abbrev pub parted_by : ℕ → List Triple → List ℕ → Parted
parted_by points ts twins =
    let fans = fans_by points ts twins in
    record { triples = over_fans fans.of (length ts); from = map (start (all_edges ts)) fans.first }
