-- Normals and heights as the code makes them.
use Rattle.std.proofs.Common.{◌≡◌, Bool, ◌∙◌, ap}
use Rattle.plane_laws.specs.Decisions.{Vector, cross_product, scalar, is_above}

-- the answer from equal normals and ways
pub made_above : {r : Bool} (n w : Vector) {e f e' f' w' : Vector} → r ≡ is_above n (scalar n w) → n ≡ cross_product e f → e ≡ e' → f ≡ f' → w ≡ w' →
    r ≡ is_above (cross_product e' f') (scalar (cross_product e' f') w')
made_above n w {e} {f} {e'} {f'} {w'} made normal same_e same_f same_w =
    made
    ∙ ap (λ (v : Vector). is_above n (scalar n v)) same_w
    ∙ ap (λ (m : Vector). is_above m (scalar m w')) (normal ∙ ap (λ (v : Vector). cross_product v f) same_e ∙ ap (λ (v : Vector). cross_product e' v) same_f)
