-- The sum of all shadows is that of the faces whose boxes touch an area.
use Rattle.std.proofs.Common.{◌≡◌, ◌<◌, ◌≤◌, ℕ, ℤ, pos, false, Bool, cond, List, length, get_or, refl, sym, ap, subst, arith, ◌∙◌}
use Rattle.std.specs.List.{All, filter}
use Rattle.std.specs.List.Sorted.{IsPermutation}
use Rattle.std.proofs.lemmas.Bool.{cond_both}
use Rattle.std.proofs.lemmas.List.Sorted.{All-permutation, length_permutation}
use Rattle.chain_terms.specs.Sums.{total, upto}
use Rattle.chain_laws.specs.Sums.{total-permutation}
use Rattle.chain_laws.proofs.Ascending.{total-filter}
use Rattle.chain_laws.proofs.Places.{total-places, total-upto_same}
use Rattle.mesh_terms.specs.Meshes.{Triple}
use Rattle.mb_base.specs.declared.point.Box3.{Box3}
use Rattle.mb_base.specs.declared.point.Corner.{Corner}
use Rattle.side_terms.specs.Sides.{Side, IsSide, face_at, face_boxes, face_of}
use Rattle.box_tree.specs.Touching.{box_at, touches, touching_numbers}
use Rattle.lean.proofs.Corners.{face_fine}
use Rattle.crossings.proofs.Nearby.{face_box, many_boxes, touching_below, touching_few}
use Rattle.winding.specs.Lines.{HasShadowsIn}

-- faces that are near an area, in any order
module _ (faces : Side) (area : Box3) (near : List ℕ) (moved : IsPermutation (touching_numbers (face_boxes faces) area) near) where
  pub near_below : All (λ f. f < length faces.triples) near
  near_below = All-permutation (λ f. f < length faces.triples) (touching_numbers (face_boxes faces) area) near moved (touching_below faces area)

  pub near_few : length near ≤ length faces.triples
  near_few = omega (arith, length_permutation (touching_numbers (face_boxes faces) area) near moved, touching_few faces area)

  -- where no other face has a shadow, they have all of the sum
  pub near_total : (shadow : List Corner → ℤ) → IsSide faces → HasShadowsIn area shadow →
      total (λ f. shadow (face_at faces f)) near ≡ total (λ t. shadow (face_of faces.corners t)) faces.triples
  near_total shadow known none =
      let n = length faces.triples in
      let value : ℕ → ℤ = λ f. shadow (face_at faces f) in
      let p : ℕ → Bool = λ f. touches (box_at (face_boxes faces) f) area in
      let each : (f : ℕ) → f < n → cond (p f) (value f) (pos 0) ≡ value f =
      λ f below.
      cond_both (p f) (value f) (pos 0) (λ z. z ≡ value f) (λ y. refl)
      (λ far. sym (none.elsewhere (face_at faces f) refl (face_fine faces.corners known.fine (get_or faces.triples f (0, 0, 0)))
      (subst (λ b. touches b area ≡ false) (face_box faces f below) far))) in
      total-permutation value (touching_numbers (face_boxes faces) area) near moved
      ∙ ap (λ m. total value (filter p (upto m))) (many_boxes faces)
      ∙ total-filter value p (upto n)
      ∙ total-upto_same (λ f. cond (p f) (value f) (pos 0)) value n each
      ∙ sym (total-places (λ (t : Triple). shadow (face_of faces.corners t)) (0, 0, 0) faces.triples)
