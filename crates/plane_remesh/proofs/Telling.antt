-- What is asked about the triangles of a plane, before it is told which of them are kept.
use Rattle.std.proofs.Common.{◌≡◌, ◌∙◌, ◌<◌, ℕ, ℤ, Bool, List, [], ◌∷◌, true, false, ap, arith, get_or, length, map, refl, subst, sym}
use Rattle.std.specs.List.{All, Contains}
use Rattle.std.proofs.lemmas.List.{get_or-map, length-map}
use Rattle.std.proofs.lemmas.List.Elements.{All-contains, All-filter, filter_passes}
use Rattle.face_plane.specs.Planes.{Plane, face_plane}
use Rattle.sheet_terms.specs.Crossings.{coplanar}
use Rattle.sheet_terms.specs.Faces.{Face, in_plane, is_left}
use Rattle.plane_chains.specs.declared.plane_faces.PlaneFaces.{PlaneFaces}
use Rattle.plane_chains.specs.Listed.{AreListed, marks_of}
use Rattle.plane_chains.proofs.FirstKeys.{map_agree}
use Rattle.plane_groups.specs.declared.view.PlaneView.{PlaneView}
use Rattle.plane_groups.specs.Grouped.{bent, face_at, no_face}
use Rattle.plan_laws.specs.Views.{IsSeenFrom, front_seen}
use Rattle.plane_remesh.specs.Works.{AreFacesOf}
use Rattle.plane_remesh.proofs.Coplanar.{IsBent, bent_all, left_on_side}
use Rattle.plane_remesh.proofs.Listing.{Rises}

map_map : {X Y Z : Type 0} (g : Y → Z) (f : X → Y) (xs : List X) → map g (map f xs) ≡ map (λ x. g (f x)) xs
map_map g f [] = refl
map_map g f (x ∷ xs) = ap (λ l. g (f x) ∷ l) (map_map g f xs)

module _ (points : List (List ℤ)) (all own : List Face) (s : Face) (f : PlaneFaces) (are : AreFacesOf points all own f) (is : own ≡ coplanar points (bent points all) s)
    (some : Contains (bent points all) s) where
  -- as many numbers and labels as rims
  pub rims_many : length f.rims.0 ≡ length own
  rims_many = ap (λ (r : List (List ℕ) × List ℕ). length r.0) are.rims ∙ length-map own (λ (g : Face). g.rim)

  pub numbers_many : length f.numbers.now ≡ length f.rims.0
  numbers_many = sym (length-map f.numbers.now (face_at all)) ∙ ap length are.faces ∙ sym rims_many

  pub labels_many : length f.labels.of.items ≡ length f.rims.0
  labels_many = ap length are.labels ∙ length-map own _ ∙ sym rims_many

  pub numbers_fronts : All (λ t. t < length f.fronts.now) f.numbers.now
  numbers_fronts = subst (λ n. All (λ t. t < n) f.numbers.now) (sym are.full) are.below

  -- each faces front where it turns left there
  s_flat : IsBent points s
  s_flat = All-contains (IsBent points) (bent points all) s (bent_all points all) some

  own_flat : All (IsBent points) own
  own_flat = subst (All (IsBent points)) (sym is) (All-filter (in_plane points s) (IsBent points) (bent points all) (bent_all points all))

  own_there : All (λ g. in_plane points s g ≡ true) own
  own_there = subst (All (λ g. in_plane points s g ≡ true)) (sym is) (filter_passes (in_plane points s) (bent points all))

  face_is : (i d : ℕ) → i < length f.numbers.now → get_or own i no_face ≡ face_at all (get_or f.numbers.now i d)
  face_is i d low = ap (λ (l : List Face). get_or l i no_face) (sym are.faces) ∙ get_or-map (face_at all) f.numbers.now i d no_face low

  fronts_listed : marks_of f.fronts.now f.numbers.now ≡ map (λ g. is_left (front_seen points s) g.corners) own
  fronts_listed =
      map_agree (λ t. get_or f.fronts.now t false) (λ t. is_left (front_seen points s) (face_at all t).corners) f.numbers.now
      (λ i d low.
      let inside : i < length own = omega (arith, low, numbers_many, rims_many) in
      let t = get_or f.numbers.now i d in
      let same = face_is i d low in
      let flat : IsBent points (face_at all t) = subst (IsBent points) same (own_flat i no_face inside) in
      are.fronts t (are.below i d low) flat
      ∙ sym (left_on_side points s (face_at all t) s_flat flat (subst (λ g. in_plane points s g ≡ true) same (own_there i no_face inside)) true))
      ∙ sym (map_map (λ (g : Face). is_left (front_seen points s) g.corners) (face_at all) f.numbers.now)
      ∙ ap (map (λ (g : Face). is_left (front_seen points s) g.corners)) are.faces

  pub listed : (at : Plane) → at ≡ front_seen points s → Rises own → AreListed at f.rims.0 f.labels.of.items (marks_of f.fronts.now f.numbers.now) own
  listed at same rises = record {
    rims = ap (λ (r : List (List ℕ) × List ℕ). r.0) are.rims;
    labels = are.labels;
    fronts = fronts_listed ∙ ap (λ (p : Plane). map (λ (g : Face). is_left p g.corners) own) (sym same);
    order = rises;
  }

-- how the places are seen from the front
pub seen_front : (points now : List (List ℤ)) (s : Face) (v : PlaneView) (turned : Bool) (drop : ℕ) →
    IsSeenFrom points s true v → drop ≡ v.plane.drop → turned ≡ v.turned → now ≡ points →
    face_plane drop turned now ≡ front_seen points s
seen_front points now s v turned drop sees axis over same = λ i. face_plane ((axis ∙ sees.drop) i) ((over ∙ sees.turned) i) (same i)
