-- The regions of a side: those of sheets, and those of kept triangles.
use Rattle.std.proofs.Common.{◌≡◌, ◌∙◌, ◌<◌, ◌++◌, ℕ, ℤ, Bool, List, [], ◌∷◌, true, false, ap, arith, filter, length, map, refl, subst, sym, Some}
use Rattle.std.specs.Prelude.{find, not}
use Rattle.std.specs.List.{All}
use Rattle.std.proofs.lemmas.List.Elements.{All-append, All-weaker, filter-append}
use Rattle.face_plane.specs.Planes.{Plane}
use Rattle.plane_chains.specs.Listed.{faces_side}
use Rattle.plane_filling.specs.declared.regions.Region.{Region as StoredRegion}
use Rattle.plane_filling.specs.declared.regions.Regions.{Regions}
use Rattle.plane_groups.specs.declared.view.PlaneView.{PlaneView}
use Rattle.plane_groups.specs.Grouped.{bent, face_at, is_front, no_face}
use Rattle.plane_groups.proofs.Views.{same_drop}
use Rattle.plane_sheets.specs.Found.{has_walks}
use Rattle.sheet_terms.specs.Crossings.{coplanar}
use Rattle.sheet_terms.specs.Faces.{Face, in_plane, is_left, labels_of, seen}
use Rattle.sheet_terms.specs.Kept.{free, kept}
use Rattle.sheet_terms.specs.Regions.{Region, kept_region, regions, side_of}
use Rattle.plane_remesh.specs.declared.plane_work.PlaneWork.{PlaneWork}
use Rattle.plan_laws.specs.Standing.{IsOf}
use Rattle.plane_remesh.specs.Pushed.{HasPushedSide, HasPushedSome, kept_regions, sheet_regions, side_seen}
use Rattle.plan_laws.specs.Views.{IsSeenFrom, side_turned}
use Rattle.plane_remesh.specs.Works.{IsWork}
use Rattle.plane_remesh.proofs.Coplanar.{IsBent, coplanar_same, free_side, kept_side, seen_own, seen_same, side_same}
use Rattle.plane_remesh.proofs.Storing.{pushes_joined, shown_append}
use Rattle.plane_remesh.proofs.Working.{found_at, many, own_at, own_bent, own_in, own_turned, s_bent, side_is}

-- kept triangles all have walks
kept_walks : (fs : List Face) → filter has_walks (map kept_region fs) ≡ map kept_region fs
kept_walks [] = refl
kept_walks (f ∷ fs) = ap (λ (l : List Region). kept_region f ∷ l) (kept_walks fs)

-- regions as the definition has them, by how the plane is seen and what lies in it
abbrev regions_seen : Plane → List Face → List Region
regions_seen at own = regions at (labels_of own) (free at own) ++ map kept_region (filter (λ f. is_left at f.corners) (kept at own))

module _ (points : List (List ℤ)) (all own : List Face) (s : Face) (w : PlaneWork) (is : IsWork points all own s w) (front : Bool) (t : ℕ)
    (first : find (faces_side w.faces.fronts.now front) w.faces.numbers.now ≡ Some t) where
  abbrev f : Face
  f = face_at all t

  -- the triangle lies in the plane, isn't flat, and faces the side
  record IsOne : Type 0 where
    low : t < length all
    bent_f : IsBent points f
    in_one : in_plane points s f ≡ true
    faces : is_front points f ≡ front

  one : IsOne
  one =
      let found = found_at (faces_side w.faces.fronts.now front) w.faces.numbers.now t first in
      let inside : found.place < length own = omega (arith, found.inside, many points all own s w is) in
      let same : face_at own found.place ≡ f = own_at points all own s w is found.place inside ∙ ap (face_at all) found.same in
      let low : t < length all = subst (λ n. n < length all) found.same (is.faces.below found.place 0 found.inside) in
      let bent_f : IsBent points f = subst (IsBent points) same (own_bent points all own s w is found.place no_face inside) in
      record {
        low = low;
        bent_f = bent_f;
        in_one = subst (λ g. in_plane points s g ≡ true) same (own_in points all own s w is found.place no_face inside);
        faces = sym (is.faces.fronts t low bent_f) ∙ side_is w.faces.fronts.now front t found.passes;
      }

  -- what is of the side is of that which the triangle faces
  of_same : (keeps : Bool) (r : StoredRegion) → IsOf points all s front t keeps r → IsOf points all f (is_front points f) t keeps r
  of_same keeps r of = record {
    first = of.first;
    stays = of.stays;
    label = of.label;
    view = record {
      drop = of.view.drop ∙ sym (same_drop points s f (s_bent points all own s w is) one.bent_f one.in_one);
      turned = of.view.turned ∙ sym (side_same points s f (s_bent points all own s w is) one.bent_f one.in_one front) ∙ ap (side_turned points f) (sym one.faces);
    };
  }

  -- and the regions are those of the definition
  seen_one : seen points f ≡ side_seen points s front
  seen_one = seen_own points f ∙ ap (side_seen points f) one.faces ∙ seen_same points s f (s_bent points all own s w is) one.bent_f one.in_one front

  own_one : coplanar points (bent points all) f ≡ own
  own_one = coplanar_same points s f (s_bent points all own s w is) one.bent_f one.in_one all ∙ sym is.are

  regions_one : sheet_regions points own s front ++ kept_regions points own s front ≡ filter has_walks (side_of points (bent points all) f).regions
  regions_one =
      let at = side_seen points s front in
      sym ((λ i. filter has_walks (regions_seen (seen_one i) (own_one i)))
      ∙ filter-append has_walks (regions at (labels_of own) (free at own)) (map kept_region (filter (λ g. is_left at g.corners) (kept at own)))
      ∙ (λ i. filter has_walks (regions at (labels_of own) (free_side points s own front i)) ++ kept_walks (filter (λ g. is_left at g.corners) (kept at own)) i)
      ∙ ap (λ (gs : List Face). sheet_regions points own s front ++ map kept_region (filter (λ g. is_left at g.corners) gs))
      (kept_side points s own front (own_turned points all own s w is)))

  pub side_made : (old mid new : Regions) → HasPushedSome points all s front t false old mid (sheet_regions points own s front) →
      HasPushedSome points all s front t true mid new (kept_regions points own s front) → HasPushedSide points all t old new
  side_made old mid new a b = record {
    sheets = a.rs;
    stay = b.rs;
    ws = a.ws ++ b.ws;
    pushed = pushes_joined old mid new a.rs b.rs a.ws b.ws a.pushed b.pushed;
    sheets_are = All-weaker (IsOf points all s front t false) (IsOf points all f (is_front points f) t false) (of_same false) a.rs a.shown.each;
    stay_are = All-weaker (IsOf points all s front t true) (IsOf points all f (is_front points f) t true) (of_same true) b.rs b.shown.each;
    shows = shown_append all a.rs b.rs a.ws b.ws a.pushed.same ∙ (λ i. a.shown.shows i ++ b.shown.shows i) ∙ regions_one;
    places = All-append (All (All (λ v. v < length points))) a.ws b.ws a.shown.places b.shown.places;
  }

-- the view from the front, and that from behind
pub view_front : (points : List (List ℤ)) (s : Face) (front : Bool) (v : PlaneView) → front ≡ true → IsSeenFrom points s true v → IsSeenFrom points s front v
view_front points s front v e sees = subst (λ b. IsSeenFrom points s b v) (sym e) sees

pub view_back : (points : List (List ℤ)) (s : Face) (front : Bool) (v back : PlaneView) →
    front ≡ false → IsSeenFrom points s true v → back.plane ≡ v.plane → back.turned ≡ not v.turned →
    IsSeenFrom points s front back
view_back points s front v back e sees plane turned =
    subst (λ b. IsSeenFrom points s b back) (sym e) (record { drop = ap (λ p. p.drop) plane ∙ sees.drop; turned = turned ∙ ap not sees.turned })
