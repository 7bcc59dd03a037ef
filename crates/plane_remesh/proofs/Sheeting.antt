-- The regions of sheets of a side, as they were found and are stored; and those of kept triangles.
use mathlib.Core.Bool.{beq}
use Rattle.std.proofs.Common.{◌≡◌, ◌∙◌, ◌<◌, ◌+◌, ◌++◌, ◌^◌, ℕ, ℤ, Bool, List, [], ◌∷◌, true, false, ap, arith, filter, get_or, length, map, refl, subst, sym, take}
use Rattle.std.specs.Prelude.{if◌then◌else◌, not}
use Rattle.std.specs.List.{All}
use Rattle.std.proofs.lemmas.List.{get_or-map, length-map}
use Rattle.std.proofs.lemmas.List.Elements.{All-cons, All-nil}
use Rattle.face_plane.specs.Planes.{Plane, face_plane}
use Rattle.plane_filling.specs.declared.regions.Region.{Region as StoredRegion}
use Rattle.plane_filling.specs.declared.regions.Regions.{Regions}
use Rattle.plane_filling.specs.Regions.{AreSeen, all_walks, waiting}
use Rattle.plane_groups.specs.declared.view.PlaneView.{PlaneView}
use Rattle.plane_groups.specs.Grouped.{face_at, is_front, no_face}
use Rattle.plane_sheets.specs.Found.{AreCounted, has_walks, region_in}
use Rattle.plane_sheets.specs.declared.regions.SheetRegion.{SheetRegion}
use Rattle.sheet_terms.specs.Chains.{ChainEdge, chain}
use Rattle.sheet_terms.specs.Faces.{Face, is_left, labels_of}
use Rattle.sheet_terms.specs.Kept.{free}
use Rattle.sheet_terms.specs.Numbers.{border}
use Rattle.sheet_terms.specs.Regions.{kept_region, regions_within}
use Rattle.plane_remesh.specs.declared.plane_work.PlaneWork.{PlaneWork}
use Rattle.plan_laws.specs.Standing.{IsOf}
use Rattle.plane_remesh.specs.Pushed.{AreWhole, HasPushedSome, kept_regions, sheet_regions, side_seen}
use Rattle.plan_laws.specs.Views.{IsSeenFrom, front_seen}
use Rattle.plane_remesh.specs.Works.{IsWork}
use Rattle.plane_remesh.proofs.Coplanar.{left_on_side}
use Rattle.plane_remesh.proofs.Placing.{chain_counted, found_low, stored_low}
use Rattle.plane_remesh.proofs.Storing.{found_more, kept_so_far, so_far_no, so_far_yes, some_more}
use Rattle.plane_remesh.proofs.Working.{front_at, own_at, own_bent, own_in, number_low, rim_at, s_bent}

-- what the test of two truth values tells
pub same_beq : (b front : Bool) → beq b front ≡ true → b ≡ front
same_beq true true h = refl
same_beq true false h = sym h
same_beq false true h = h
same_beq false false h = refl

pub not_beq : (b front : Bool) → beq b front ≡ false → b ≡ not front
not_beq true true h = h
not_beq true false h = refl
not_beq false true h = refl
not_beq false false h = sym h

-- both are true, or neither
pub same_bools : (front b : Bool) → b ≡ front → (if front then b else not b) ≡ true
same_bools true b e = e
same_bools false b e = ap not e

other_bools : (front b : Bool) → b ≡ not front → (if front then b else not b) ≡ false
other_bools true b e = e
other_bools false b e = ap not e

module _ (points : List (List ℤ)) (all own : List Face) (s : Face) (w : PlaneWork)
    (is : IsWork points all own s w) (front : Bool) (view : PlaneView) (sees : IsSeenFrom points s front view) where
  -- how the side sees the places
  pub sees_as : (now : List (List ℤ)) → now ≡ w.points.now → face_plane view.plane.drop view.turned now ≡ side_seen points s front
  sees_as now same = λ i. face_plane (sees.drop i) (sees.turned i) ((same ∙ is.stored) i)

  abbrev pub chain_own : List ChainEdge
  chain_own = chain (labels_of own) (free (front_seen points s) own)

  pub counted : AreCounted (labels_of own) chain_own
  counted = chain_counted (labels_of own) (free (front_seen points s) own)

  -- the labels of regions are those of triangles
  pub label_within : (l : ℕ) → l < length (labels_of own) → l < length w.faces.labels.firsts.items
  label_within l low = omega (arith, low, ap length is.faces.firsts, length-map w.faces.labels.firsts.items (λ t. (face_at all t).label))

  label_is : (l : ℕ) → l < length (labels_of own) → (face_at all (get_or w.faces.labels.firsts.items l 0)).label ≡ get_or (labels_of own) l []
  label_is l low =
      sym (ap (λ (ls : List (List ℕ)). get_or ls l []) is.faces.firsts
      ∙ get_or-map (λ t. (face_at all t).label) w.faces.labels.firsts.items l 0 [] (label_within l low))

  -- what was found are the regions of sheets
  pub found_are : (at : Plane) (found : List SheetRegion) → at ≡ side_seen points s front →
      map (region_in (labels_of own)) found ≡ filter has_walks (regions_within w.told.free at (labels_of own) (map (border at (labels_of own) chain_own) chain_own)) →
      map (region_in (labels_of own)) found ≡ sheet_regions points own s front
  found_are at found same e =
      e ∙ (λ i. filter has_walks (regions_within (is.free i) (same i) (labels_of own) (map (border (same i) (labels_of own) chain_own) chain_own)))

  -- one of them was pushed
  pub sheet_more : (at : Plane) (found : List SheetRegion) (k : ℕ) (each : SheetRegion) (first : ℕ) (old mid walked new : Regions) (region : StoredRegion) →
      k < length found → get_or found k each ≡ each →
      map (region_in (labels_of own)) found ≡ filter has_walks (regions_within w.told.free at (labels_of own) (map (border at (labels_of own) chain_own) chain_own)) →
      All (λ r. r.label < length (labels_of own)) found →
      HasPushedSome points all s front first false old mid (map (region_in (labels_of own)) (take k found)) →
      AreSeen walked mid.all.items (all_walks mid) (waiting mid ++ each.walks.items) [] →
      AreSeen new (walked.all.items ++ region ∷ []) (all_walks walked ++ waiting walked ∷ []) [] [] → length new.all.items < 2 ^ 32 →
      region ≡ record { first = first; kept = false; label = get_or w.faces.labels.firsts.items each.label 0; view = view } →
      HasPushedSome points all s front first false old new (map (region_in (labels_of own)) (take (k + 1) found))
  sheet_more at found k each first old mid walked new region low here made labels so seen pushed few region_is =
      let label_low : each.label < length (labels_of own) = subst (λ (r : SheetRegion). r.label < length (labels_of own)) here (labels k each low) in
      let place : get_or w.faces.labels.firsts.items each.label 0 < length all = is.faces.firsts_below each.label 0 (label_within each.label label_low) in
      let of : IsOf points all s front first false region =
      subst (IsOf points all s front first false) (sym region_is) (record { first = refl; stays = refl; label = place; view = sees }) in
      let walks_low : All (All (λ v. v < length points)) each.walks.items =
      subst (λ (r : SheetRegion). All (All (λ v. v < length points)) r.walks.items) here
      (found_low (length points) w.told.free at (labels_of own) chain_own found
      (stored_low (length points) chain_own w.told.chain.edges.items w.told.chain.nets.0 is.told.chain is.places)
      made k each low) in
      subst (HasPushedSome points all s front first false old new)
      (ap (λ (r : SheetRegion). map (region_in (labels_of own)) (take k found) ++ region_in (labels_of own) r ∷ []) (sym here) ∙ found_more (labels_of own) found k each low)
      (some_more points all s front first false old mid walked new (map (region_in (labels_of own)) (take k found))
      (region_in (labels_of own) each) each.walks.items region so seen pushed few
      of walks_low (λ i. record {
        label = (ap (λ (r : StoredRegion). (face_at all r.label).label) region_is ∙ label_is each.label label_low) i;
        walks = each.walks.items;
      }))

  -- a triangle is kept and faces the side, or another one
  abbrev to_side : Face → Bool
  to_side f = is_left (side_seen points s front) f.corners

  pub kept_done : kept_so_far to_side own w.told.kept.items ≡ kept_regions points own s front
  kept_done = ap (λ (fs : List Face). map kept_region (filter to_side fs)) is.told.kept

  module _ (k : ℕ) (low : k < length w.told.kept.items) where
    abbrev pub this : ℕ
    this = get_or w.told.kept.items k 0

    pub this_low : this < length own
    this_low = is.kept k 0 low

    test_is : to_side (face_at own this) ≡ (if front then is_front points (face_at own this) else not (is_front points (face_at own this)))
    test_is =
        left_on_side points s (face_at own this) (s_bent points all own s w is)
        (own_bent points all own s w is this no_face this_low) (own_in points all own s w is this no_face this_low) front

    pub kept_skip : (b : Bool) → b ≡ get_or w.faces.fronts.now (get_or w.faces.numbers.now this 0) false → b ≡ not front →
        kept_so_far to_side own (take k w.told.kept.items) ≡ kept_so_far to_side own (take (k + 1) w.told.kept.items)
    kept_skip b e h =
        so_far_no to_side own w.told.kept.items k low
        (test_is ∙ other_bools front (is_front points (face_at own this)) (sym (front_at points all own s w is this this_low) ∙ sym e ∙ h))

    pub kept_more : (b : Bool) (first : ℕ) (old mid walked new : Regions) (region : StoredRegion) (rim : List ℕ) →
        b ≡ get_or w.faces.fronts.now (get_or w.faces.numbers.now this 0) false → b ≡ front →
        HasPushedSome points all s front first true old mid (kept_so_far to_side own (take k w.told.kept.items)) →
        rim ≡ get_or w.faces.rims.0 this [] →
        AreSeen walked mid.all.items (all_walks mid) (waiting mid ++ rim ∷ []) [] →
        AreSeen new (walked.all.items ++ region ∷ []) (all_walks walked ++ waiting walked ∷ []) [] [] → length new.all.items < 2 ^ 32 →
        region ≡ record { first = first; kept = true; label = get_or w.faces.numbers.now this 0; view = view } →
        All (λ r. All (λ v. v < length points) r) w.faces.rims.0 →
        HasPushedSome points all s front first true old new (kept_so_far to_side own (take (k + 1) w.told.kept.items))
    kept_more b first old mid walked new region rim e h so rim_is seen pushed few region_is rims_low =
        let f = face_at own this in
        let of : IsOf points all s front first true region =
        subst (IsOf points all s front first true) (sym region_is) (record { first = refl; stays = refl; label = number_low points all own s w is this this_low; view = sees }) in
        let rim_low : All (λ v. v < length points) rim =
        subst (All (λ v. v < length points)) (sym rim_is) (rims_low this [] (rims_long this_low)) in
        subst (HasPushedSome points all s front first true old new)
        (so_far_yes to_side own w.told.kept.items k low
        (test_is ∙ same_bools front (is_front points f) (sym (front_at points all own s w is this this_low) ∙ sym e ∙ h)))
        (some_more points all s front first true old mid walked new (kept_so_far to_side own (take k w.told.kept.items)) (kept_region f) (rim ∷ []) region so seen pushed few of
        (All-cons (All (λ v. v < length points)) rim [] rim_low (All-nil (All (λ v. v < length points))))
        (λ i. record {
          label = (ap (λ (r : StoredRegion). (face_at all r.label).label) region_is ∙ ap (λ (g : Face). g.label) (sym (own_at points all own s w is this this_low))) i;
          walks = (rim_is ∙ rim_at points all own s w is this this_low) i ∷ [];
        }))
      where
        rims_long : this < length own → this < length w.faces.rims.0
        rims_long h = omega (arith, h, ap (λ (r : List (List ℕ) × List ℕ). length r.0) is.faces.rims, length-map own (λ (g : Face). g.rim))

-- the regions of the first sheets, and of the first kept triangles, are pushed, and nothing waits
pub record AreSheetsTo (work : PlaneWork) (view : PlaneView) (first : ℕ) (old now : Regions) (rs : List SheetRegion) : Type 0 where
  pub whole : AreWhole now
  pub pushed : (points : List (List ℤ)) (all own : List Face) (s : Face) (front : Bool) → IsWork points all own s work → IsSeenFrom points s front view →
      HasPushedSome points all s front first false old now (map (region_in (labels_of own)) rs)

pub record AreKeptTo (work : PlaneWork) (view : PlaneView) (first : ℕ) (front : Bool) (old now : Regions) (js : List ℕ) : Type 0 where
  pub whole : AreWhole now
  pub pushed : (points : List (List ℤ)) (all own : List Face) (s : Face) → IsWork points all own s work → IsSeenFrom points s front view →
      HasPushedSome points all s front first true old now (kept_so_far (λ f. is_left (side_seen points s front) f.corners) own js)
