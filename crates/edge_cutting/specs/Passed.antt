-- Places inside an edge that the search has passed.
use Rattle.std.specs.Prelude.{◌≡◌, ℕ, ◌+◌, ◌*◌, ◌<◌, ℤ, List, true, Bool, ◌&&◌, nat_lt, count_by, filter, length, map, unsigned_abs}
use Rattle.std.specs.List.{All}
use Rattle.chain_terms.specs.Sums.{upto}
use Rattle.face_plane.specs.Planes.{point_at}
use Rattle.mesh_terms.specs.Points.{coordinate_of}
use Rattle.sheet_terms.specs.Cuts.{is_inside}
use Rattle.edge_cutting.specs.Spans.{LeadsTo, span}
use Rattle.edge_cutting.specs.declared.steps.Steps.{Steps}

-- how far a place lies from a
abbrev pub far : List (List ℤ) → ℕ → ℕ → ℕ
far points a v = span (point_at points a) (point_at points v)

-- how long a step is on all three axes together
abbrev pub stride : Steps → ℕ
stride s = unsigned_abs (coordinate_of s.step 0) + unsigned_abs (coordinate_of s.step 1) + unsigned_abs (coordinate_of s.step 2)

-- a place lies inside the edge from a to b, less than so many steps behind a
abbrev pub is_passed : List (List ℤ) → ℕ → ℕ → Steps → ℕ → ℕ → Bool
is_passed points a b s t v = is_inside points a b v && nat_lt (far points a v) (t * stride s)

-- a place inside the edge behind how far it lies from a
pub record IsFound (points : List (List ℤ)) (a b : ℕ) (f : ℕ × ℕ) : Type 0 where
  pub below : f.1 < length points
  pub inside : is_inside points a b f.1 ≡ true
  pub far : f.0 ≡ span (point_at points a) (point_at points f.1)

-- what was found are the places that were passed, each once, in any order
pub record HasPassed (points : List (List ℤ)) (a b : ℕ) (s : Steps) (t : ℕ) (found : List (ℕ × ℕ)) : Type 0 where
  pub counts : (p : ℕ → Bool) → count_by p (map (λ f. f.1) found) ≡ count_by p (filter (is_passed points a b s t) (upto (length points)))
  pub each : All (IsFound points a b) found

-- steps lead from one of some places to another
pub record IsStepped (points : List (List ℤ)) (a b : ℕ) (s : Steps) : Type 0 where
  pub a_below : a < length points
  pub b_below : b < length points
  pub some : 0 < s.count
  pub leads : LeadsTo (point_at points a) (point_at points b) s
