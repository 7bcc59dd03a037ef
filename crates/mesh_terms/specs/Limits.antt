-- The most that any mesh has, and the limits of a run.
use Rattle.std.specs.Prelude.{ℕ, ◌+◌, ◌*◌, ◌^◌, ◌≤◌}

-- the most triangles and points that any mesh has
abbrev pub most_triangles : ℕ
most_triangles = 100000000

abbrev pub most_points : ℕ
most_points = 150000000

-- the most half-edges that an operation prescribes
abbrev pub most_halfedges : ℕ
most_halfedges = 60000000

-- the limits of one run
pub record Limits : Type 0 where
  pub file_bytes : ℕ
  pub points : ℕ
  pub triangles : ℕ
  pub halfedges : ℕ

-- a result of an operation is within these limits, and its file can be read again
pub record IsLawful (l : Limits) : Type 0 where
  pub few_triangles : l.triangles ≤ most_triangles
  pub few_points : l.points ≤ most_points
  pub triangles_enough : 5 * l.halfedges ≤ 3 * l.triangles
  pub points_enough : 3 * l.triangles ≤ 2 * l.points
  pub bytes_enough : 41 * l.points + 99 * l.triangles ≤ l.file_bytes
  pub bytes_bounded : l.file_bytes ≤ 2 ^ 40
