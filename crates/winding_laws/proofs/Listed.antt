-- Winding numbers of all corners of a side are the geometric ones, where a list has them.
use Rattle.std.proofs.Common.{◌≡◌, ℤ, List, Result, Ok, Err, map, IfOk, ◌∙◌}
use Rattle.side_terms.specs.Corners.{blank_corner, corner_at}
use Rattle.side_terms.specs.Sides.{IsSide, Side}
use Rattle.shadow_kernels.specs.Spots.{Between}
use Rattle.solid_laws.specs.Apex.{off_faces_clear}
use Rattle.solid_laws.specs.Laws.{winding_in, winding_back_in}
use Rattle.solid_laws.specs.Windings.{winding_is_solid, winding_back_is_solid}
use Rattle.winding.proofs.Identity.{winding_listed}
use Rattle.winding_laws.specs.Solid.{AreSolid}

-- the numbers of the corners of P in Q
listed : (w : Between) (p q : Side) → IsSide p → IsSide q → (ws : List ℤ) → ws ≡ map (λ c. winding_in w c q) p.corners → AreSolid p q ws
listed w p q p_side q_side ws e v below = record {
  from_each = λ o clear. winding_listed (λ c. winding_in w c q) p.corners ws e v below ∙ winding_is_solid w (corner_at p.corners v) o q q_side clear;
  off_faces = off_faces_clear (corner_at p.corners v) q (p_side.fine v blank_corner below) q_side;
}

-- and of those of Q in P
listed_back : (w : Between) (q p : Side) → IsSide q → IsSide p → (ws : List ℤ) → ws ≡ map (λ c. winding_back_in w c p) q.corners → AreSolid q p ws
listed_back w q p q_side p_side ws e v below = record {
  from_each = λ o clear. winding_listed (λ c. winding_back_in w c p) q.corners ws e v below ∙ winding_back_is_solid w (corner_at q.corners v) o p p_side clear;
  off_faces = off_faces_clear (corner_at q.corners v) p (q_side.fine v blank_corner below) p_side;
}

-- where there are such
pub all_solid : {X E : Type 0} (w : Between) (p q : Side) → IsSide p → IsSide q → (of : X → List ℤ) (r : Result X E) →
    IfOk r (λ x. of x ≡ map (λ c. winding_in w c q) p.corners) → IfOk r (λ x. AreSolid p q (of x))
all_solid w p q p_side q_side of (Ok x) h = listed w p q p_side q_side (of x) h
all_solid w p q p_side q_side of (Err e) h = tt

-- and of Q
pub all_solid_back : {X E : Type 0} (w : Between) (q p : Side) → IsSide q → IsSide p → (of : X → List ℤ) (r : Result X E) →
    IfOk r (λ x. of x ≡ map (λ c. winding_back_in w c p) q.corners) → IfOk r (λ x. AreSolid q p (of x))
all_solid_back w q p q_side p_side of (Ok x) h = listed_back w q p q_side p_side (of x) h
all_solid_back w q p q_side p_side of (Err e) h = tt
