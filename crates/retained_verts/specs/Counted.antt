-- Counts that are those of what numbers prescribe.
use Rattle.std.specs.Prelude.{◌≡◌, ◌+◌, ◌^◌, ◌<◌, [], ◌∷◌, length, slice_index}
use Rattle.mb_base.specs.declared.op.Op.{Op}
use Rattle.side_terms.specs.Sides.{Side}
use Rattle.side_terms.specs.Prescribed.{Numbers, crossing_count, p_kept, prescribed_halfedges, q_kept}
use Rattle.retained_verts.specs.declared.counts.Counts.{Counts}
use Rattle.retained_verts.specs.declared.list.Prescribed.{Prescribed}

-- what is kept of each mesh, the crossings and the half-edges; no more vertices than a number of 64 bits can tell
pub record AreCounts (op : Op) (p q : Side) (n : Numbers) (c : Counts) : Type 0 where
  pub kept : c.kept ≡ p_kept op n ∷ q_kept op n ∷ []
  pub crossings : c.crossings ≡ crossing_count op n
  pub halfedges : c.halfedges ≡ prescribed_halfedges op p q n
  pub few : p_kept op n + q_kept op n + crossing_count op n < 2 ^ 64

-- a list of vertices has these counts, and as many vertices
pub record HasCounts (r : Prescribed) (c : Counts) : Type 0 where
  pub kept : r.kept ≡ c.kept
  pub crossings : r.crossings ≡ c.crossings
  pub halfedges : r.halfedges ≡ c.halfedges
  pub all : length r.origins.items ≡ slice_index c.kept 0 + slice_index c.kept 1 + c.crossings
