-- The segments of a face from the copies at its vertices and from the records of its hits.
use Rattle.std.specs.Prelude.{◌≡◌, ℕ, ◌+◌, ◌*◌, ◌<◌, ◌≤◌, ℤ, List, [], ◌∷◌, ◌++◌, true, false, cond, ◌==◌, nat_lt, map}
use Rattle.std.specs.Prelude.{length, get_or, take, drop}
use Rattle.std.specs.List.{All, flat_map}
use Rattle.chain_terms.specs.Chains.{all_edges}
use Rattle.chain_terms.specs.Ranks.{start, finish}
use Rattle.mesh_terms.specs.Limits.{most_points}
use Rattle.mb_base.specs.declared.results.Entry.{Entry}
use Rattle.side_terms.specs.Sides.{Side}
use Rattle.edge_pairing.specs.Entries.{ends_of, place_in, starts_of}
use Rattle.edge_pairing.specs.Pairing.{paired_across}
use Rattle.source_face_terms.specs.Segments.{paired_on_edge}
use Rattle.source_faces.specs.declared.lists.runs.CopyRange.{CopyRange}
use Rattle.source_faces.specs.declared.lists.stands.Stand.{Stand}
use Rattle.source_faces.specs.Entries.{entry_of, list_count, run_entries}

abbrev pub no_run : CopyRange
no_run = record { first = 0; count = 0; negative = false }

-- the copies of two vertices as entries of the half-edge from the one to the other, by their numbers
abbrev pub end_entries : List CopyRange → ℕ → ℕ → List Entry
end_entries runs a b =
    cond (nat_lt a b) (run_entries (get_or runs a no_run) true ++ run_entries (get_or runs b no_run) false)
    (run_entries (get_or runs b no_run) false ++ run_entries (get_or runs a no_run) true)

-- the entries of a half-edge: the copies of its ends, then those of its hits
abbrev pub half_entries : Side → List CopyRange → ℕ → List Stand → List Entry
half_entries side runs h ss = let es = all_edges side.triples in end_entries runs (start es h) (finish es h) ++ map entry_of ss

-- the records of this list at the front, and what follows
abbrev pub front : List Stand → ℕ → List Stand
front ss l = take (list_count ss l) ss

abbrev pub rest : List Stand → ℕ → List Stand
rest ss l = drop (list_count ss l) ss

-- the segments of a half-edge, and of a pair of faces
abbrev pub half_segments : Side → List CopyRange → List (List ℤ) → ℕ → List Stand → List (ℕ × ℕ)
half_segments side runs points h ss =
    let entries = half_entries side runs h ss in paired_on_edge side h (place_in points) (starts_of entries) (ends_of entries)

abbrev pub pair_segments : List (List ℤ) → List Stand → List (ℕ × ℕ)
pair_segments points ss = paired_across (place_in points) (starts_of (map entry_of ss)) (ends_of (map entry_of ss))

-- a record in front of groups: in the first group where that is of its list, else in one of its own
abbrev pub with_stand : Stand → List (List Stand) → List (List Stand)
with_stand s [] = (s ∷ []) ∷ []
with_stand s ([] ∷ gs) = (s ∷ []) ∷ gs
with_stand s ((t ∷ g) ∷ gs) = cond (t.list == s.list) ((s ∷ t ∷ g) ∷ gs) ((s ∷ []) ∷ (t ∷ g) ∷ gs)

-- neighbouring records of one list together
abbrev pub groups : List Stand → List (List Stand)
groups [] = []
groups (s ∷ ss) = with_stand s (groups ss)

abbrev pub pairs_segments : List (List ℤ) → List Stand → List (ℕ × ℕ)
pairs_segments points ss = flat_map (pair_segments points) (groups ss)

-- the records after those of the first l half-edges' lists
abbrev pub after : ℕ → List Stand → List Stand
after l ss = cond (l == 0) ss (cond (l == 1) (rest ss 0) (cond (l == 2) (rest (rest ss 0) 1) (rest (rest (rest ss 0) 1) 2)))

-- the records of half-edge l of the face
abbrev pub half_part : ℕ → List Stand → List Stand
half_part l ss = front (after l ss) l

-- the segments of a face: of its half-edges, then of its pairs
abbrev pub segments_by : Side → List CopyRange → List (List ℤ) → ℕ → List Stand → List (ℕ × ℕ)
segments_by side runs points f ss =
    half_segments side runs points (3 * f) (half_part 0 ss)
    ++ (half_segments side runs points (3 * f + 1) (half_part 1 ss)
    ++ (half_segments side runs points (3 * f + 2) (half_part 2 ss) ++ pairs_segments points (after 3 ss)))

-- entries of copies that have points, with as many starts as ends
pub record CanBePaired (points : List (List ℤ)) (entries : List Entry) : Type 0 where
  pub below : All (λ e. e.vertex < length points) entries
  pub balanced : length (starts_of entries) ≡ length (ends_of entries)

-- so are those of a face: of each half-edge, and of each group of pairs
pub record CanBeSegments (side : Side) (runs : List CopyRange) (points : List (List ℤ)) (f : ℕ) (ss : List Stand) : Type 0 where
  pub first : CanBePaired points (half_entries side runs (3 * f) (half_part 0 ss))
  pub second : CanBePaired points (half_entries side runs (3 * f + 1) (half_part 1 ss))
  pub third : CanBePaired points (half_entries side runs (3 * f + 2) (half_part 2 ss))
  pub pairs : All (λ g. CanBePaired points (map entry_of g)) (groups (after 3 ss))

-- a run for each vertex, with numbers below that of the points, which are no more than those of a mesh
pub record AreRuns (side : Side) (points : ℕ) (runs : List CopyRange) : Type 0 where
  pub each : length runs ≡ length side.corners
  pub below : All (λ r. r.first + r.count ≤ points) runs
  pub few : points ≤ most_points
