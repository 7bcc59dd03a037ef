-- Places on the line of an edge, and how far they lie from its start.
use Rattle.std.specs.Prelude.{◌≡◌, ℕ, ◌<◌, ℤ, List, true, Bool, length, map}
use Rattle.face_plane.specs.Planes.{point_at}
use Rattle.sheet_terms.specs.Cuts.{are_in_line}
use Rattle.tidy_terms.specs.PointTriples.{same_point}
use Rattle.edge_cutting.specs.Spans.{span}

-- place v lies on the line through a and b
abbrev pub is_on_line : List (List ℤ) → ℕ → ℕ → ℕ → Bool
is_on_line points a b v = are_in_line (point_at points a) (point_at points b) (point_at points v)

-- places, each behind how far it lies from a
abbrev pub with_spans : List (List ℤ) → ℕ → List ℕ → List (ℕ × ℕ)
with_spans points a vs = map (λ v. (span (point_at points a) (point_at points v), v)) vs

-- no two places lie at one point
pub record AreApart (points : List (List ℤ)) : Type 0 where
  pub apart : (v w : ℕ) → v < length points → w < length points → same_point (point_at points v) (point_at points w) ≡ true → v ≡ w
