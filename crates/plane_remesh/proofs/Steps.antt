-- A plan of one plane more, where the plane was pushed, and where it is of one triangle.
use Rattle.std.proofs.Common.{◌≡◌, ◌∙◌, ◌<◌, ◌≤◌, ◌+◌, ◌++◌, ℕ, ℤ, Bool, List, [], ◌∷◌, true, false, ap, arith, cond, get_or, inl, inr, length, refl, subst, sym, take, Option, Some}
use Rattle.std.specs.Prelude.{◌&&◌, ◌^◌, find, not}
use Rattle.std.specs.List.{All, Contains, flat_map}
use Rattle.std.proofs.lemmas.Bool.{both_ways, cases_Bool}
use Rattle.std.proofs.lemmas.List.{append-nil, length-map, take_more}
use Rattle.std.proofs.lemmas.List.Concat.{flat_map-append}
use Rattle.std.proofs.lemmas.List.Folds.{list_all_more}
use Rattle.std.proofs.lemmas.List.Sums.{sum_by_more}
use Rattle.chain_terms.specs.Paths.{round_edges}
use Rattle.edge_cutting.proofs.Numbered.{firsts_few}
use Rattle.plane_chains.specs.Listed.{face_at as listed_at, faces_side}
use Rattle.plane_chains.specs.Pairs.{grid_crossings}
use Rattle.plane_chains.proofs.Behind.{behind_is, crossing_back}
use Rattle.plane_filling.specs.Ways.{Notes}
use Rattle.plane_groups.specs.Grouped.{bent, face_at, is_front, no_face}
use Rattle.sheet_terms.specs.Chains.{ChainEdge, chain}
use Rattle.sheet_terms.specs.Crossings.{coplanar, crossings_in}
use Rattle.sheet_terms.specs.Faces.{Face, drop_of, in_plane, is_flat, labels_of, seen}
use Rattle.sheet_terms.specs.Filled.{keeps_boundary}
use Rattle.sheet_terms.specs.Kept.{kept}
use Rattle.plan_laws.specs.Standing.{AreAt, numbers_at}
use Rattle.plan_laws.specs.Views.{front_seen, front_turned}
use Rattle.plane_remesh.specs.declared.plan.Plan.{Plan}
use Rattle.plane_remesh.specs.declared.plane_work.PlaneWork.{PlaneWork}
use Rattle.plane_remesh.specs.declared.surface.CutSurface.{CutSurface}
use Rattle.plane_remesh.specs.Plans.{sides_of}
use Rattle.plane_remesh.specs.PlansTo.{IsPlanTo, alone_edges, has_regions, is_alone, planes_of}
use Rattle.plane_remesh.specs.Pushed.{AreWhole, HasPushedFor, HasPushedPlane, side_seen}
use Rattle.plane_remesh.specs.Surfaces.{IsSurface, own_at, plane_at}
use Rattle.plane_remesh.specs.Works.{IsWork}
use Rattle.plane_remesh.proofs.Coplanar.{IsBent, seen_own}
use Rattle.plane_remesh.proofs.Listing.{plane_some}
use Rattle.plane_remesh.proofs.Pushing.{HasAdded, all_places, all_regions, at_comes, at_stays, has_added, others_stay}
use Rattle.plane_remesh.proofs.SideFirsts.{IsFirstOf, first_bent, first_is_found, found_is_first, in_self, number_plane, plane_bent, plane_number}
use Rattle.plane_remesh.proofs.Stepping.{IsNew, alone_as_before, alone_same, contains_filter, filter_few, kept_sum, none_before, none_yet, regions_cases, regions_new}
use Rattle.plane_remesh.proofs.Storing.{whole_pushed}

-- points in which edges cross are the same from either side
crossings_front : (points : List (List ℤ)) (s : Face) (cs : List ChainEdge) → grid_crossings points (front_seen points s) cs ≡ grid_crossings points (seen points s) cs
crossings_front points s cs = either (is_front points s) ∙ ap (λ at. grid_crossings points at cs) (sym (seen_own points s))
  where
    either : (b : Bool) → grid_crossings points (front_seen points s) cs ≡ grid_crossings points (side_seen points s b) cs
    either true = refl
    either false =
        sym
        (ap (λ at. grid_crossings points at cs) (behind_is (drop_of points s) (front_turned points s) points)
        ∙ (λ i. flat_map (λ (c : ChainEdge). flat_map (λ (d : ChainEdge). crossing_back points (front_seen points s) c.edge d.edge i) cs) cs))

module _ (points : List (List ℤ)) (all : List Face) (u : CutSurface) (is : IsSurface points all u) (k : ℕ) (low : k < u.planes.count) where
  abbrev s : Face
  s = plane_at points all k

  abbrev ps : List Face
  ps = planes_of points all

  pub low_plane : k < length (planes_of points all)
  low_plane = omega (arith, low, is.planes.count)

  pub bent_s : IsBent points (plane_at points all k)
  bent_s = plane_bent points all k low_plane

  pub there : Contains (own_at points all k) (plane_at points all k)
  there =
      let c = plane_some points all u is k low in
      subst (Contains (own_at points all k)) c.2
      (contains_filter (in_plane points s) (bent points all) c.0 s c.1 (ap (in_plane points s) c.2 ∙ in_self points all s bent_s))

  pub more_flat : {X : Type 0} (f : Face → List X) → flat_map f (take (k + 1) ps) ≡ flat_map f (take k ps) ++ f s
  more_flat f =
      ap (flat_map f) (take_more ps k no_face low_plane) ∙ flat_map-append f (take k ps) (s ∷ []) ∙ ap (λ l. flat_map f (take k ps) ++ l) (append-nil (f s))

  abbrev pub kept_of : Face → ℕ
  kept_of f = length (kept (front_seen points f) (coplanar points (bent points all) f))

  kept_count : (w : PlaneWork) → IsWork points all (own_at points all k) (plane_at points all k) w →
      length w.told.kept.items ≡ length (kept (front_seen points (plane_at points all k)) (own_at points all k))
  kept_count w work = sym (length-map w.told.kept.items (listed_at (own_at points all k))) ∙ ap length work.told.kept

  -- how many are kept fits
  pub kept_fits : (w : PlaneWork) → IsWork points all (own_at points all k) (plane_at points all k) w → (old : Plan) → IsPlanTo points all k old →
      old.kept + length w.told.kept.items < 2 ^ 64
  kept_fits w work old was =
      let few_planes : length ps ≤ length all = omega (arith, firsts_few (in_plane points) [] (bent points all), filter_few (λ (f : Face). not (is_flat points f.corners)) all) in
      subst (λ n. n < 2 ^ 64) (sym (λ i. was.kept i + kept_count w work i)) (kept_sum points all k low_plane few_planes is.few)

  -- a triangle of the plane is alone where the first one is
  pub alone_there : (t : ℕ) → t < length all → IsNew points all k t → is_alone points all (face_at all t) ≡ is_alone points all s
  alone_there t low_t n =
      let b = first_bent points all t n.first in alone_same points all s bent_s there t low_t b (number_plane points all t k low_plane b n.here)

  module _ (w : PlaneWork) (work : IsWork points all (own_at points all k) (plane_at points all k) w) (some : is_alone points all (plane_at points all k) ≡ false) (old new : Plan)
      (was : IsPlanTo points all k old) (h : HasPushedPlane points all w.faces.fronts.now w.faces.numbers.now old.regions new.regions) where
    abbrev first_of : Bool → Option ℕ
    first_of front = find (faces_side w.faces.fronts.now front) w.faces.numbers.now

    first_is : (front : Bool) (t : ℕ) → first_of front ≡ Some t → IsFirstOf points all s front t
    first_is front t e =
        found_is_first points all is.order s bent_s w.faces.numbers.now work.faces.faces work.faces.below w.faces.fronts.now work.faces.fronts front t e

    new_is : (front : Bool) (t : ℕ) → first_of front ≡ Some t → IsNew points all k t
    new_is front t e =
        let f = first_is front t e in record { here = plane_number points all t k low_plane f.bent f.inside; first = f.first }

    added_front : HasAdded points all (first_of true) old.regions h.between
    added_front = has_added points all (first_of true) old.regions h.between was.whole h.front

    whole_between : AreWhole h.between
    whole_between = whole_pushed old.regions h.between added_front.rs added_front.ws added_front.pushed

    added_back : HasAdded points all (first_of false) h.between new.regions
    added_back = has_added points all (first_of false) h.between new.regions whole_between h.back

    front_stays : (t : ℕ) → (first_of true ≡ Some t → ⊥) → numbers_at h.between t ≡ numbers_at old.regions t
    front_stays t other = others_stay old.regions h.between added_front.rs added_front.ws was.whole added_front.pushed (first_of true) added_front.firsts t other

    back_stays : (t : ℕ) → (first_of false ≡ Some t → ⊥) → numbers_at new.regions t ≡ numbers_at h.between t
    back_stays t other = others_stay h.between new.regions added_back.rs added_back.ws whole_between added_back.pushed (first_of false) added_back.firsts t other

    -- what stands by the first triangle of a side, and by others
    at_front : (t : ℕ) → first_of true ≡ Some t → AreAt points all t new.regions
    at_front t e =
        let n = new_is true t e in
        let other : first_of false ≡ Some t → ⊥ = λ g. both_ways (is_front points (face_at all t)) (first_is false t g).side (first_is true t e).side in
        at_stays h.between new.regions added_back.rs added_back.ws whole_between added_back.pushed points all t (back_stays t other)
        (at_comes points all old.regions h.between t was.whole
        (subst (λ (o : Option ℕ). HasPushedFor points all o old.regions h.between) e h.front) (was.none t (none_yet points all k t n.here)))

    at_back : (t : ℕ) → first_of false ≡ Some t → AreAt points all t new.regions
    at_back t e =
        let n = new_is false t e in
        let other : first_of true ≡ Some t → ⊥ = λ g. both_ways (is_front points (face_at all t)) (first_is false t e).side (first_is true t g).side in
        at_comes points all h.between new.regions t whole_between (subst (λ (o : Option ℕ). HasPushedFor points all o h.between new.regions) e h.back)
        (front_stays t other ∙ was.none t (none_yet points all k t n.here))

    at_new : (t : ℕ) → t < length all → has_regions points all (k + 1) t ≡ true → AreAt points all t new.regions
    at_new t low_t y = elim (regions_cases points all k t y) as (λ _. AreAt points all t new.regions) [
      | inl before ↦
          let other : (front : Bool) → first_of front ≡ Some t → ⊥ = λ front e.
          both_ways (has_regions points all k t) (none_yet points all k t (new_is front t e).here) before in
          at_stays h.between new.regions added_back.rs added_back.ws whole_between added_back.pushed points all t (back_stays t (other false))
          (at_stays old.regions h.between added_front.rs added_front.ws was.whole added_front.pushed points all t (front_stays t (other true)) (was.at t low_t before))
      | inr n ↦
          let b = first_bent points all t n.0.first in
          let e = first_is_found points all is.order s bent_s w.faces.numbers.now work.faces.faces work.faces.below w.faces.fronts.now work.faces.fronts t low_t
          (number_plane points all t k low_plane b n.0.here) n.0.first in
          elim (cases_Bool (is_front points (face_at all t))) as (λ _. AreAt points all t new.regions) [
            | inl front ↦ at_front t (ap first_of (sym front) ∙ e)
            | inr back ↦ at_back t (ap first_of (sym back) ∙ e)
          ]
    ]

    none_new : (t : ℕ) → has_regions points all (k + 1) t ≡ false → numbers_at new.regions t ≡ []
    none_new t gone =
        let other : (front : Bool) → first_of front ≡ Some t → ⊥ = λ front e.
        let n = new_is front t e in
        both_ways (has_regions points all (k + 1) t) gone (regions_new points all k t n.here n.first (alone_there t (first_is front t e).low n ∙ some)) in
        back_stays t (other false) ∙ front_stays t (other true) ∙ was.none t (none_before points all k t gone)

    pub work_step : new.sound ≡ (old.sound && keeps_boundary points (bent points all) (sides_of points all) (plane_at points all k)) →
        new.kept ≡ old.kept + length w.told.kept.items →
        new.found.items ≡ old.found.items ++ w.told.points.items → new.alone.items ≡ old.alone.items → new.ways ≡ old.ways → IsPlanTo points all (k + 1) new
    work_step sound kept_is found alone ways =
        let P = added_front in
        let Q = added_back in
        record {
          found = found ∙ (λ i. was.found i ++ (work.told.points ∙ crossings_front points s (chain (labels_of (own_at points all k)) (own_at points all k))) i)
              ∙ sym (more_flat (crossings_in points (bent points all)));
          kept = kept_is ∙ (λ i. was.kept i + kept_count w work i) ∙ sym (sum_by_more kept_of ps k no_face low_plane);
          sound = sound ∙ ap (λ b. b && keeps_boundary points (bent points all) (sides_of points all) s) was.sound
              ∙ sym (list_all_more (keeps_boundary points (bent points all) (sides_of points all)) ps k no_face low_plane);
          whole = whole_pushed h.between new.regions Q.rs Q.ws Q.pushed;
          firsts = all_regions h.between new.regions Q.rs Q.ws whole_between Q.pushed (λ x. x.first < length all)
              (all_regions old.regions h.between P.rs P.ws was.whole P.pushed (λ x. x.first < length all)
              was.firsts (λ i d l. (first_is true (get_or P.rs i d).first (P.firsts i d l)).low))
              (λ i d l. (first_is false (get_or Q.rs i d).first (Q.firsts i d l)).low);
          axes = all_regions h.between new.regions Q.rs Q.ws whole_between Q.pushed (λ x. x.view.plane.drop < 3)
              (all_regions old.regions h.between P.rs P.ws was.whole P.pushed (λ x. x.view.plane.drop < 3) was.axes P.axes) Q.axes;
          places = all_places h.between new.regions Q.rs Q.ws whole_between Q.pushed (All (λ v. v < length points))
              (all_places old.regions h.between P.rs P.ws was.whole P.pushed (All (λ v. v < length points)) was.places P.places) Q.places;
          known = all_regions h.between new.regions Q.rs Q.ws whole_between Q.pushed (λ x. x.label < length all)
              (all_regions old.regions h.between P.rs P.ws was.whole P.pushed (λ x. x.label < length all) was.known P.known) Q.known;
          marks = ap length alone ∙ was.marks;
          alone = λ t low_t.
              ap (λ l. get_or l t false) alone ∙ was.alone t low_t
              ∙ sym (alone_as_before points all k t (λ n y. both_ways (is_alone points all (face_at all t)) (alone_there t low_t n ∙ some) y));
          at = at_new;
          none = none_new;
          full = ap (λ v. length v.leads.items) ways ∙ was.full;
          noted = subst (Notes (flat_map (alone_edges points all) (take (k + 1) ps))) (sym ways)
              (subst (λ es. Notes es old.ways)
              (sym (more_flat (alone_edges points all) ∙ ap (λ b. flat_map (alone_edges points all) (take k ps) ++ cond b (round_edges s.rim) []) some
              ∙ append-nil (flat_map (alone_edges points all) (take k ps)))) was.noted);
        }
