-- Regions that stand by the first triangle of their side are filled as the side is.
use Rattle.std.specs.Prelude.{◌≡◌, ◌⊎◌, ℕ, ◌+◌, ◌*◌, ◌<◌, ◌==◌, ℤ, List, [], ◌∷◌, ◌++◌, Bool, true, false, not, ◌&&◌, cond, if◌then◌else◌, int_lt, pos, filter, get_or, length, map}
use Rattle.std.specs.List.{All}
use Rattle.std.proofs.Common.{arith, refl, sym, ap, subst, ◌∙◌, inl, inr}
use Rattle.std.proofs.lemmas.Bool.{both_ways, eq-eqb, eqb-true, ne_eqb}
use Rattle.std.proofs.lemmas.List.{append-nil, get_or-map, length-map, map-append}
use Rattle.std.proofs.lemmas.List.Elements.{All-append, All-head, All-tail, filter-append}
use Rattle.chain_terms.specs.Paths.{round_edges}
use Rattle.chain_terms.specs.Sums.{upto}
use Rattle.edge_cutting.proofs.Counting.{filter_filter}
use Rattle.edge_cutting.proofs.Gathering.{all_upto}
use Rattle.face_plane.specs.Planes.{Plane, face_plane}
use Rattle.places_by_key.specs.Buckets.{places_of}
use Rattle.ring_cutting.specs.Cuts.{Cut}
use Rattle.triangulate.specs.Fills.{fill_of}
use Rattle.mesh_terms.specs.Points.{coordinate_of}
use Rattle.plane_filling.specs.declared.needless.Ways.{Ways}
use Rattle.plane_filling.specs.declared.regions.Region.{Region as StoredRegion}
use Rattle.plane_filling.specs.declared.regions.Regions.{Regions}
use Rattle.plane_filling.specs.Begun.{loops_without}
use Rattle.plane_filling.specs.Pieces.{Piece, alone_pieces, first_key, first_keys, loops_at, no_region, piece_of, region_pieces, turns_at}
use Rattle.plane_filling.specs.Regions.{walks_at}
use Rattle.plane_groups.specs.Grouped.{bent, face_at, is_front}
use Rattle.plane_sheets.specs.Found.{has_walks, is_some_list}
use Rattle.sheet_terms.specs.Faces.{Face, drop_of, normal, seen}
use Rattle.sheet_terms.specs.Filled.{Filling, filled, loops}
use Rattle.sheet_terms.specs.Regions.{Region, Side}
use Rattle.plan_laws.specs.Alone.{IsAlone, alone_filling, alone_region, alone_side}
use Rattle.plan_laws.specs.Ordered.{SameFillings, side_at}
use Rattle.plan_laws.specs.Standing.{AloneFillsSide, AreAt, IsOf, RegionsFillSide, StandsAt, TellsNeedless, numbers_at, shown, told}
use Rattle.plan_laws.specs.Views.{IsSeenFrom, front_turned, is_turned, side_turned}
use Rattle.plan_laws.proofs.Alone.{alone_is_its_region}
use Rattle.plan_laws.proofs.AloneFilled.{alone_fills_itself}
use Rattle.plan_laws.proofs.Ordered.{walkless_fill_nothing}
use Rattle.plan_laws.proofs.Placed.{filter_same, map_alike}

-- a plane seen from the side that a triangle faces
own_side : (points : List (List ℤ)) (f : Face) → side_turned points f (is_front points f) ≡ is_turned points f
own_side points f = by (is_front points f) (is_turned points f)
  where
    by : (b t : Bool) → (if b then if b then t else not t else not (if b then t else not t)) ≡ t
    by true t = refl
    by false true = refl
    by false false = refl

seen_so : (points : List (List ℤ)) (f : Face) (r : StoredRegion) → IsSeenFrom points f (is_front points f) r.view →
    ◌≡◌ {A = Plane} (face_plane r.view.plane.drop r.view.turned points) (seen points f)
seen_so points f r h = λ i. face_plane (h.drop i) ((h.turned ∙ own_side points f) i) points

module _ (points : List (List ℤ)) (all : List Face) (es : List (ℕ × ℕ)) (r : Regions) (w : Ways) (t : ℕ) (tells : TellsNeedless points es w) (at : AreAt points all t r) where
  abbrev region : ℕ → StoredRegion
  region k = get_or r.all.items k no_region

  abbrev side : Side
  side = side_at points all t

  -- a region as it is filled
  piece_told : (keeps : Bool) (k : ℕ) → StandsAt points all t r keeps k → told all (piece_of points r w k) ≡ filled points es side (shown all (region k) (walks_at r k))
  piece_told keeps k h =
      let same : loops_at points r w k ≡ loops points (seen points side.face) es (shown all (region k) (walks_at r k))
      = λ j. loops_without (tells j) (seen_so points (face_at all t) (region k) h.view j) (walks_at r k) in
      let cut : ◌≡◌ {A = Cut} (fill_of (region k).view.plane.drop points (loops_at points r w k))
      (fill_of (drop_of points side.face) points (loops points (seen points side.face) es (shown all (region k) (walks_at r k))))
      = λ j. fill_of (h.view.drop j) points (same j) in
      λ j. record { label = (face_at all (region k).label).label; triples = (cut j).triples; forced = (cut j).forced }

  pieces_told : (keeps : Bool) (ks : List ℕ) → All (StandsAt points all t r keeps) ks →
      map (told all) (region_pieces points r w ks) ≡ map (filled points es side) (map (λ k. shown all (region k) (walks_at r k)) ks)
  pieces_told keeps [] each = refl
  pieces_told keeps (k ∷ ks) each =
      λ i. piece_told keeps k (All-head (StandsAt points all t r keeps) k ks each) i ∷ pieces_told keeps ks (All-tail (StandsAt points all t r keeps) k ks each) i

  -- their keys tell those of sheets from kept triangles
  abbrev keys : List ℕ
  keys = first_keys r.all.items

  abbrev own : ℕ → Bool
  own k = (region k).first == t

  abbrev stays : ℕ → Bool
  stays k = (region k).kept

  key_low : (f : ℕ) (b : Bool) → (2 * f + cond b 1 0 == 2 * t) ≡ ((f == t) && not b)
  key_low f true = ne_eqb (2 * f + 1) (2 * t) (λ e. omega (arith, e)) ∙ sym (none (f == t))
    where
      none : (s : Bool) → (s && false) ≡ false
      none true = refl
      none false = refl
  key_low f false = grind (arith)

  key_high : (f : ℕ) (b : Bool) → (2 * f + cond b 1 0 == 2 * t + 1) ≡ ((f == t) && b)
  key_high f true = grind (arith)
  key_high f false = ne_eqb (2 * f + 0) (2 * t + 1) (λ e. omega (arith, e)) ∙ sym (none (f == t))
    where
      none : (s : Bool) → (s && false) ≡ false
      none true = refl
      none false = refl

  key_at : (k : ℕ) → k < length r.all.items → get_or keys k 0 ≡ first_key (region k)
  key_at k low = get_or-map first_key r.all.items k no_region 0 low

  -- a list of which all, or none, pass
  all_pass : (p : ℕ → Bool) (ks : List ℕ) → All (λ k. p k ≡ true) ks → filter p ks ≡ ks
  all_pass p [] h = refl
  all_pass p (k ∷ ks) h = (λ i. cond (All-head (λ j. p j ≡ true) k ks h i) (k ∷ filter p ks) (filter p ks)) ∙ ap (λ l. k ∷ l) (all_pass p ks (All-tail (λ j. p j ≡ true) k ks h))

  none_pass : (p : ℕ → Bool) (ks : List ℕ) → All (λ k. p k ≡ false) ks → filter p ks ≡ []
  none_pass p [] h = refl
  none_pass p (k ∷ ks) h = (λ i. cond (All-head (λ j. p j ≡ false) k ks h i) (k ∷ filter p ks) (filter p ks)) ∙ none_pass p ks (All-tail (λ j. p j ≡ false) k ks h)

  picked : (p : ℕ → Bool) (v : ℕ) → ((k : ℕ) → k < length r.all.items → (first_key (region k) == v) ≡ (own k && p k)) → places_of keys v ≡ filter p (at.sheets ++ at.stay)
  picked p v h =
      ap (λ n. filter (λ i. get_or keys i 0 == v) (upto n)) (length-map r.all.items first_key)
      ∙ filter_same (λ i. get_or keys i 0 == v) (λ i. own i && p i) (upto (length r.all.items))
      (all_upto (λ i. (get_or keys i 0 == v) ≡ (own i && p i)) (length r.all.items) (λ k low. ap (λ x. x == v) (key_at k low) ∙ h k low))
      ∙ sym (filter_filter p own (upto (length r.all.items))) ∙ ap (filter p) at.numbers

  sheets_at : places_of keys (2 * t) ≡ at.sheets
  sheets_at =
      picked (λ k. not (stays k)) (2 * t) (λ k low. key_low (region k).first (region k).kept) ∙ filter-append (λ k. not (stays k)) at.sheets at.stay
      ∙ (λ i. all_pass (λ k. not (stays k)) at.sheets (λ k d low. ap not (at.sheets_are k d low).stays) i
      ++ none_pass (λ k. not (stays k)) at.stay (λ k d low. ap not (at.stay_are k d low).stays) i)
      ∙ append-nil at.sheets

  stay_at : places_of keys (2 * t + 1) ≡ at.stay
  stay_at =
      picked stays (2 * t + 1) (λ k low. key_high (region k).first (region k).kept) ∙ filter-append stays at.sheets at.stay
      ∙ (λ i. none_pass stays at.sheets (λ k d low. (at.sheets_are k d low).stays) i ++ all_pass stays at.stay (λ k d low. (at.stay_are k d low).stays) i)

  turns_are : turns_at keys t ≡ at.sheets ++ at.stay
  turns_are = λ i. sheets_at i ++ stay_at i

  -- so they are filled as the side is
  all_told : map (told all) (region_pieces points r w (turns_at keys t)) ≡ map (filled points es side) (filter has_walks side.regions)
  all_told =
      let show : ℕ → Region = λ k. shown all (region k) (walks_at r k) in
      ap (λ ks. map (told all) (region_pieces points r w ks)) turns_are
      ∙ ap (map (told all)) (map-append (piece_of points r w) at.sheets at.stay)
      ∙ map-append (told all) (region_pieces points r w at.sheets) (region_pieces points r w at.stay)
      ∙ (λ i. pieces_told false at.sheets at.sheets_are i ++ pieces_told true at.stay at.stay_are i)
      ∙ sym (map-append (filled points es side) (map show at.sheets) (map show at.stay)) ∙ ap (map (filled points es side)) (sym (map-append show at.sheets at.stay) ∙ at.shows)

  fill_side : SameFillings (map (told all) (region_pieces points r w (turns_at keys t))) (map (filled points es side) side.regions)
  fill_side = subst (λ (gs : List Filling). SameFillings gs (map (filled points es side) side.regions)) (sym all_told) (walkless_fill_nothing points es side has_walks none side.regions)
    where
      none : (g : Region) → has_walks g ≡ false → g.walks ≡ []
      none g h = by g.walks h
        where
          by : (ws : List (List ℕ)) → is_some_list ws ≡ false → ws ≡ []
          by [] h = refl
          by (x ∷ ws) h = absurd (both_ways true h refl)

pub regions_fill_side : RegionsFillSide
regions_fill_side points all es r w t tells at = fill_side points all es r w t tells at

pub alone_fills_side : AloneFillsSide
alone_fills_side points all es t is has =
    let f = face_at all t in
    let filling : map (filled points es (side_at points all t)) (side_at points all t).regions ≡ alone_filling f ∷ [] =
    (λ i. map (filled points es (alone_is_its_region points (bent points all) f is i)) (alone_is_its_region points (bent points all) f is i).regions)
    ∙ (λ i. alone_fills_itself points (bent points all) f es is has i ∷ []) in
    subst (SameFillings (alone_filling f ∷ [])) (sym filling) (record { triples = refl; labels = refl; forced = refl })
