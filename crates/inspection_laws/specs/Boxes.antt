-- The boxes of triangles.
use Rattle.std.specs.Prelude.{ℕ, List, [], ◌∷◌, Bool, ◌&&◌, int_le, map, length}
use Rattle.std.specs.Int.{int_max, int_min}
use Rattle.box_tree.specs.Touching.{end_on}
use Rattle.chain_terms.specs.Sums.{upto}
use Rattle.mb_base.specs.declared.point.Box3.{Box3}
use Rattle.mesh_terms.specs.Meshes.{Mesh}
use Rattle.inspection_terms.specs.Triangles.{Corners, corners_at}

-- the least box that holds a triangle, in grid steps
abbrev pub box_round : Corners → Box3
box_round t = record {
  low = int_min (int_min t.0.x t.1.x) t.2.x ∷ int_min (int_min t.0.y t.1.y) t.2.y ∷ int_min (int_min t.0.z t.1.z) t.2.z ∷ [];
  high = int_max (int_max t.0.x t.1.x) t.2.x ∷ int_max (int_max t.0.y t.1.y) t.2.y ∷ int_max (int_max t.0.z t.1.z) t.2.z ∷ [];
}

-- the boxes of all triangles, in order
abbrev pub boxes_of : Mesh → List Box3
boxes_of m = map (λ t. box_round (corners_at m t)) (upto (length m.triples))

-- an area holds a box on axis i
abbrev pub holds_on : ℕ → Box3 → Box3 → Bool
holds_on i area box = int_le (end_on i area.low) (end_on i box.low) && int_le (end_on i box.high) (end_on i area.high)

-- an area holds a box
abbrev pub holds : Box3 → Box3 → Bool
holds area box = holds_on 0 area box && holds_on 1 area box && holds_on 2 area box
