-- The triangles of a plane in hand.
use Rattle.std.proofs.Common.{◌≡◌, ◌∙◌, ◌<◌, ℕ, ℤ, Bool, List, [], ◌∷◌, true, false, ap, arith, cond, get_or, inl, inr, length, refl, subst, suc, sym, Option, Some, None}
use Rattle.std.specs.Prelude.{find, not}
use Rattle.std.specs.List.{All}
use Rattle.std.proofs.lemmas.Bool.{both_ways, cases_Bool}
use Rattle.std.proofs.lemmas.List.{get_or-map, length-map}
use Rattle.std.proofs.lemmas.List.Elements.{All-contains, All-filter, filter_passes}
use Rattle.sheet_terms.specs.Faces.{Face, in_plane, is_flat}
use Rattle.plane_chains.proofs.Behind.{IsTurned}
use Rattle.plane_chains.specs.Listed.{faces_side}
use Rattle.plane_groups.specs.Grouped.{bent, face_at, is_front, no_face}
use Rattle.plane_remesh.specs.declared.plane_work.PlaneWork.{PlaneWork}
use Rattle.plan_laws.specs.Views.{front_seen, front_turned}
use Rattle.plane_remesh.specs.Works.{IsWork}
use Rattle.plane_remesh.proofs.Coplanar.{IsBent, bent_all, turns_on}

module _ (points : List (List ℤ)) (all own : List Face) (s : Face) (w : PlaneWork) (is : IsWork points all own s w) where
  -- they aren't flat, and lie in the plane
  pub s_bent : IsBent points s
  s_bent = All-contains (IsBent points) (bent points all) s (bent_all points all) is.some

  pub own_bent : All (IsBent points) own
  own_bent = subst (All (IsBent points)) (sym is.are) (All-filter (in_plane points s) (IsBent points) (bent points all) (bent_all points all))

  pub own_in : All (λ f. in_plane points s f ≡ true) own
  own_in = subst (All (λ f. in_plane points s f ≡ true)) (sym is.are) (filter_passes (in_plane points s) (bent points all))

  pub own_turned : All (IsTurned (front_seen points s)) own
  own_turned k d low = turns_on points s (get_or own k d) s_bent (own_bent k d low) (own_in k d low) (front_turned points s)

  -- each with its number, its side and its rim
  pub many : length w.faces.numbers.now ≡ length own
  many = sym (length-map w.faces.numbers.now (face_at all)) ∙ ap length is.faces.faces

  pub many_rims : length w.faces.rims.0 ≡ length own
  many_rims = ap (λ (r : List (List ℕ) × List ℕ). length r.0) is.faces.rims ∙ length-map own (λ (g : Face). g.rim)

  pub number_low : (i : ℕ) → i < length own → get_or w.faces.numbers.now i 0 < length all
  number_low i low = is.faces.below i 0 (omega (arith, low, many))

  pub own_at : (i : ℕ) → i < length own → face_at own i ≡ face_at all (get_or w.faces.numbers.now i 0)
  own_at i low = ap (λ (l : List Face). get_or l i no_face) (sym is.faces.faces) ∙ get_or-map (face_at all) w.faces.numbers.now i 0 no_face (omega (arith, low, many))

  pub front_at : (i : ℕ) → i < length own → get_or w.faces.fronts.now (get_or w.faces.numbers.now i 0) false ≡ is_front points (face_at own i)
  front_at i low =
      is.faces.fronts (get_or w.faces.numbers.now i 0) (number_low i low) (ap (λ (f : Face). is_flat points f.corners) (sym (own_at i low)) ∙ own_bent i no_face low)
      ∙ ap (is_front points) (sym (own_at i low))

  pub rim_at : (i : ℕ) → i < length own → get_or w.faces.rims.0 i [] ≡ (face_at own i).rim
  rim_at i low = ap (λ (r : List (List ℕ) × List ℕ). get_or r.0 i []) is.faces.rims ∙ get_or-map (λ (g : Face). g.rim) own i no_face [] low

-- where the first member that passes a test stands
pub record IsFoundAt (p : ℕ → Bool) (ns : List ℕ) (t : ℕ) : Type 0 where
  pub place : ℕ
  pub inside : place < length ns
  pub same : get_or ns place 0 ≡ t
  pub passes : p t ≡ true

abbrev is_there : Option ℕ → Bool
is_there None = false
is_there (Some t) = true

abbrev there_or : Option ℕ → ℕ
there_or None = 0
there_or (Some t) = t

pub found_at : (p : ℕ → Bool) (ns : List ℕ) (t : ℕ) → find p ns ≡ Some t → IsFoundAt p ns t
found_at p [] t h = absurd (both_ways (is_there None) refl (ap is_there h))
found_at p (n ∷ ns) t h = elim (cases_Bool (p n)) as (λ _. IsFoundAt p (n ∷ ns) t) [
  | inl y ↦
      let is : n ≡ t = ap there_or (sym (ap (λ b. cond b (Some n) (find p ns)) y) ∙ h) in
      record { place = 0; inside = omega arith; same = is; passes = ap p (sym is) ∙ y }
  | inr out ↦
      let r = found_at p ns t (sym (ap (λ b. cond b (Some n) (find p ns)) out) ∙ h) in
      record { place = suc r.place; inside = omega (arith, r.inside); same = r.same; passes = r.passes }
]

-- it faces the side that is asked for
pub side_is : (marks : List Bool) (front : Bool) (t : ℕ) → faces_side marks front t ≡ true → get_or marks t false ≡ front
side_is marks true t h = h
side_is marks false t h = by (get_or marks t false) h where
  by : (b : Bool) → not b ≡ true → b ≡ false
  by true h = sym h
  by false h = refl
