-- What bars bridges: edges, with trees over their boxes, and the last bridges.
use Rattle.std.specs.Prelude.{◌≡◌, ℕ, ℤ, pos, List, [], ◌∷◌, ◌++◌, map}
use Rattle.std.specs.Int.{int_min, int_max}
use Rattle.chain_terms.specs.Sums.{total}
use Rattle.mb_base.specs.declared.point.Box3.{Box3}
use Rattle.face_plane.specs.Planes.{Plane}
use Rattle.hole_joining.specs.declared.obstacles.EdgeTree.{EdgeTree}
use Rattle.hole_joining.specs.declared.obstacles.Obstacles.{Obstacles}

-- the box of a segment, in the plane where the third coordinate is 0
abbrev pub box_round : ℤ × ℤ → ℤ × ℤ → Box3
box_round a b = record { low = int_min a.0 b.0 ∷ int_min a.1 b.1 ∷ pos 0 ∷ []; high = int_max a.0 b.0 ∷ int_max a.1 b.1 ∷ pos 0 ∷ [] }

-- the box of an edge
abbrev pub edge_box : Plane → (ℕ × ℕ) → Box3
edge_box at e = box_round (at e.0) (at e.1)

-- the tree is over the boxes of the edges
abbrev pub IsOver : Plane → EdgeTree → Type 0
IsOver at t = t.tree ≡ map (edge_box at) t.edges.items

-- both trees are
pub record AreBoxed (at : Plane) (o : Obstacles) : Type 0 where
  pub edges : IsOver at o.edges
  pub recent : IsOver at o.recent

-- edges and bridges
abbrev pub all_edges : Obstacles → List (ℕ × ℕ)
all_edges o = (o.edges.edges.items ++ o.recent.edges.items) ++ o.bridges.items

-- the same edges in any order: every function has the same sum over both lists
abbrev pub SameEdges : List (ℕ × ℕ) → List (ℕ × ℕ) → Type 0
SameEdges xs ys = (g : (ℕ × ℕ) → ℤ) → total g xs ≡ total g ys
