-- Triangles that are kept at hand.
use Rattle.std.specs.Prelude.{◌≡◌, ℕ, List, Bool, ◌&&◌, nat_lt, count_by}
use Rattle.box_tree.specs.Touching.{touching_numbers}
use Rattle.mb_base.specs.declared.point.Box3.{Box3}
use Rattle.mesh_terms.specs.Meshes.{Mesh}
use Rattle.inspection_laws.specs.Boxes.{boxes_of}
use Rattle.inspection_terms.specs.Triangles.{Corners, corners_at}
use Rattle.self_cuts.specs.Faces.{places}
use Rattle.self_cuts.specs.declared.seen.Seen.{Seen}

-- of these numbers, as many below the end pass a test of number and corners as of the triangles at hand
abbrev pub AreSeen : Mesh → ℕ → List ℕ → List Seen → Type 0
AreSeen m end numbers seen =
    (test : ℕ → Corners → Bool) → count_by (λ s. nat_lt s end && test s (corners_at m s)) numbers ≡ count_by (λ o. test o.number (places o.triangle)) seen

-- those at hand are the triangles before the end whose boxes touch the area
pub record AreAtHand (m : Mesh) (area : Box3) (end : ℕ) (seen : List Seen) : Type 0 where
  pub counted : AreSeen m end (touching_numbers (boxes_of m) area) seen
