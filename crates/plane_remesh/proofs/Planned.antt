-- A plan of all planes, once the ways along all walks are noted.
use Rattle.std.proofs.Common.{◌≡◌, ◌∙◌, ◌<◌, ◌++◌, ℕ, ℤ, List, [], ◌∷◌, true, false, ap, arith, filter, get_or, length, map, refl, replicate, subst, suc, sym, take, zero}
use Rattle.std.specs.Prelude.{◌&&◌, nat_lt, not, sum_by}
use Rattle.std.specs.List.{All, Contains, flat_map, list_all}
use Rattle.std.proofs.lemmas.Bool.{and_right}
use Rattle.std.proofs.lemmas.List.{append-nil, map-append, take_all}
use Rattle.std.proofs.lemmas.List.Elements.{Contains-append_left, Contains-append_right, Contains-get_or}
use Rattle.std.proofs.lemmas.List.Folds.{flat_map-map}
use Rattle.std.proofs.lemmas.List.Sums.{sum_by-cons}
use Rattle.chain_terms.specs.Paths.{round_edges}
use Rattle.chain_terms.specs.Sums.{upto}
use Rattle.chain_laws.proofs.Places.{get_or-up_from, length-up_from}
use Rattle.plan_laws.specs.Alone.{IsAlone}
use Rattle.plan_laws.specs.Ordered.{SameFillings, is_first, side_at}
use Rattle.plan_laws.specs.Standing.{StandsRight, TellsNeedless, told}
use Rattle.plan_laws.specs.Views.{front_seen}
use Rattle.plan_laws.proofs.Alone.{alone_is_its_region}
use Rattle.plan_laws.proofs.Needless.{needless_by_edges}
use Rattle.plan_laws.proofs.Whole.{all_pieces_fill}
use Rattle.plane_filling.specs.declared.needless.Ways.{Ways}
use Rattle.plane_filling.specs.Pieces.{CanBeFilled, Piece, all_pieces, forced_of, new_labels as piece_labels, new_triples as piece_triples}
use Rattle.plane_filling.specs.Ways.{Notes}
use Rattle.plane_filling.proofs.Noted.{passed_is}
use Rattle.plane_groups.specs.Grouped.{bent, face_at}
use Rattle.sheet_terms.specs.Crossings.{coplanar, crossings_in}
use Rattle.sheet_terms.specs.Faces.{Face}
use Rattle.sheet_terms.specs.Filled.{Filling, keeps_boundary}
use Rattle.sheet_terms.specs.Kept.{kept}
use Rattle.sheet_terms.specs.Needless.{side_edges, walk_edges}
use Rattle.sheet_terms.specs.Regions.{Side}
use Rattle.sheet_terms.specs.Remesh.{new_labels, new_triples}
use Rattle.plane_remesh.specs.declared.plan.Plan.{Plan}
use Rattle.plane_remesh.specs.declared.surface.CutSurface.{CutSurface}
use Rattle.plane_remesh.specs.Plans.{AreFillings, IsPlan, fillings_of, sides_of}
use Rattle.plane_remesh.specs.PlansTo.{IsPlanTo, alone_edges, is_alone, plane_of, planes_of, stands_alone}
use Rattle.plane_remesh.specs.Surfaces.{IsSurface}
use Rattle.plane_remesh.proofs.AllPlanes.{alone_at, first_bent, kept_in, marked_is, marked_not, regions_is, regions_not, sides_are, with_mark}
use Rattle.plane_remesh.proofs.KeptSum.{kept_is}
use Rattle.plane_remesh.proofs.Noted.{same_edges}

-- members of lists that are made one for each member are in all of them
flat_has : {X Y : Type 0} (h : X → List Y) (xs : List X) (k : ℕ) (d : X) → k < length xs → All (Contains (flat_map h xs)) (h (get_or xs k d))
flat_has h [] k d low = absurd (omega (arith, low))
flat_has h (x ∷ xs) zero d low = λ j e inside. Contains-append_left (h x) (flat_map h xs) (get_or (h x) j e) (Contains-get_or (h x) j e inside)
flat_has h (x ∷ xs) (suc k) d low =
    λ j e inside. Contains-append_right (h x) (flat_map h xs) (get_or (h (get_or xs k d)) j e) (flat_has h xs k d (omega (arith, low)) j e inside)

-- pieces told as fillings: their triangles, their labels, and how many are forced
module _ (all : List Face) where
  abbrev label_of : ℕ → List ℕ
  label_of t = (face_at all t).label

  repeated : (n t : ℕ) → map label_of (replicate n t) ≡ replicate n (label_of t)
  repeated zero t = refl
  repeated (suc n) t = ap (λ (l : List (List ℕ)). label_of t ∷ l) (repeated n t)

  labels_told : (ps : List Piece) → map label_of (piece_labels ps) ≡ new_labels (map (told all) ps)
  labels_told [] = refl
  labels_told (p ∷ ps) = map-append label_of (replicate (length p.triples) p.label) (piece_labels ps) ∙ (λ i. repeated (length p.triples) p.label i ++ labels_told ps i)

  triples_told : (ps : List Piece) → piece_triples ps ≡ new_triples (map (told all) ps)
  triples_told ps = sym (flat_map-map (λ (g : Filling). g.triples) (told all) ps)

  forced_told : (ps : List Piece) → forced_of ps ≡ sum_by (λ (g : Filling). g.forced) (map (told all) ps)
  forced_told [] = refl
  forced_told (p ∷ ps) =
      omega (
        arith,
        forced_told ps,
        sum_by-cons (λ (q : Piece). q.forced) p ps,
        sum_by-cons (λ (g : Filling). g.forced) (told all p) (map (told all) ps),
      )

  pub as_fillings : (ps : List Piece) (gs : List Filling) → SameFillings (map (told all) ps) gs → AreFillings all ps gs
  as_fillings ps gs same = record { triples = triples_told ps ∙ same.triples; labels = labels_told ps ∙ same.labels; forced = forced_told ps ∙ same.forced }

module _ (points : List (List ℤ)) (all : List Face) (u : CutSurface) (is : IsSurface points all u) (p : Plan) (to : IsPlanTo points all (length (planes_of points all)) p) where
  abbrev K : ℕ
  K = length (planes_of points all)

  abbrev es : List (ℕ × ℕ)
  es = flat_map side_edges (sides_of points all)

  abbrev alone_all : List (ℕ × ℕ)
  alone_all = flat_map (alone_edges points all) (planes_of points all)

  all_planes : take K (planes_of points all) ≡ planes_of points all
  all_planes = take_all K (planes_of points all) (omega arith)

  -- the edges of a triangle that is alone are edges of its side
  alone_known : (t : ℕ) → t < length all → is_first points all t ≡ true → IsAlone points (bent points all) (face_at all t) → All (Contains es) (round_edges (face_at all t).rim)
  alone_known t low first alone =
      let f = face_at all t in
      let n = length all in
      let ts = filter (is_first points all) (upto n) in
      let inside : t < length (upto n) = omega (arith, low, length-up_from 0 n) in
      let at : get_or (upto n) t 0 ≡ t = omega (arith, get_or-up_from 0 n t 0 low) in
      let has : Contains ts t = subst (Contains ts) at (kept_in (is_first points all) (upto n) t 0 inside (ap (is_first points all) at ∙ first)) in
      let edges : ℕ → List (ℕ × ℕ) = λ s. side_edges (side_at points all s) in
      let own : edges t ≡ round_edges f.rim =
      ap (λ (s : Side). side_edges s) (alone_is_its_region points (bent points all) f alone) ∙ append-nil (round_edges f.rim ++ []) ∙ append-nil (round_edges f.rim) in
      let whole : flat_map edges ts ≡ es = sym (flat_map-map side_edges (side_at points all) ts) ∙ ap (flat_map side_edges) (sym (sides_are points all is.rims is.three)) in
      subst (λ (l : List (ℕ × ℕ)). All (Contains l) (round_edges f.rim)) whole
      (subst (All (Contains (flat_map edges ts))) own (subst (λ s. All (Contains (flat_map edges ts)) (edges s)) has.2 (flat_has edges ts has.0 t has.1)))

  -- what stands at each triangle
  right : (t : ℕ) → t < length all → StandsRight points all es p.alone.items p.regions t
  right t low = record {
    alone = alone;
    edges = λ first mark. alone_known t low first (alone first mark);
    only = λ mark.
        to.none t
        (and_right (nat_lt (plane_of points all t) K && is_first points all t)
        (not (is_alone points all (face_at all t))) (ap not (with_mark points all is.rims is.three t (marked mark))));
    at = λ first mark. to.at t low (regions_is points all is.rims is.three t low first
        ∙ ap not (sym (marked_is points all is.rims is.three t low first) ∙ sym (to.alone t low) ∙ mark));
    none = λ later. (to.alone t low ∙ marked_not points all is.rims is.three t later, to.none t (regions_not points all is.rims is.three t later));
  }
    where
      marked : get_or p.alone.items t false ≡ true → stands_alone points all K t ≡ true
      marked mark = sym (to.alone t low) ∙ mark

      alone : is_first points all t ≡ true → get_or p.alone.items t false ≡ true → IsAlone points (bent points all) (face_at all t)
      alone first mark =
          alone_at points all is.rims is.three t low (first_bent points all is.rims is.three t first) (with_mark points all is.rims is.three t (marked mark))

  -- what is noted tells which places are needless
  tells : (w : Ways) → Notes (alone_all ++ walk_edges p.regions.walks.0) w → TellsNeedless points es w
  tells w notes =
      (λ j v. passed_is points (alone_all ++ walk_edges p.regions.walks.0) w notes v j)
      ∙ needless_by_edges points (alone_all ++ walk_edges p.regions.walks.0) es (same_edges points all is.rims is.three p.regions to.whole to.firsts to.at to.none)

  -- the ways that were noted for all planes, and then for all walks
  pub noted_all : (new : Ways) → ((ns : List (ℕ × ℕ)) → Notes ns p.ways → Notes (ns ++ walk_edges p.regions.walks.0) new) → Notes (alone_all ++ walk_edges p.regions.walks.0) new
  noted_all new more = more alone_all (subst (λ ps. Notes (flat_map (alone_edges points all) ps) p.ways) all_planes to.noted)

  pub walks_low : All (All (λ v. v < length p.ways.leads.items)) p.regions.walks.0
  walks_low = subst (λ n. All (All (λ v. v < n)) p.regions.walks.0) (sym to.full) to.places

  -- it is the plan
  pub planned : (w : Ways) → length w.leads.items ≡ length p.ways.leads.items →
      Notes (alone_all ++ walk_edges p.regions.walks.0) w → (new : Plan) → new.regions ≡ p.regions → new.ways ≡ w →
      new.alone ≡ p.alone → new.sound ≡ p.sound → new.kept ≡ p.kept → new.found ≡ p.found → IsPlan points all new
  planned w many notes new regions ways alone sound keeps found = record {
    found = ap (λ v. v.items) found ∙ to.found ∙ ap (flat_map (crossings_in points (bent points all))) all_planes;
    kept = keeps ∙ to.kept ∙ ap (sum_by (λ s. length (kept (front_seen points s) (coplanar points (bent points all) s)))) all_planes ∙ kept_is points all;
    sound = sound ∙ to.sound ∙ ap (list_all (keeps_boundary points (bent points all) (sides_of points all))) all_planes;
    regions = subst (CanBeFilled (length all) (length points)) (sym regions)
        (record { are = to.whole.are; few = to.whole.few; firsts = to.firsts; axes = to.axes; places = to.places });
    known = subst (λ r. All (λ x. x.label < length all) r.all.items) (sym regions) to.known;
    marks = ap (λ v. length v.items) alone ∙ to.marks;
    full = ap (λ v. length v.leads.items) ways ∙ many ∙ to.full;
    noted = (alone_all ++ walk_edges p.regions.walks.0, subst (Notes (alone_all ++ walk_edges p.regions.walks.0)) (sym ways) notes);
    fill = subst (λ ps. AreFillings all ps (fillings_of points all)) (λ i. all_pieces points (map (λ f. f.corners) all) (sym alone i).items (sym regions i) (sym ways i))
        (as_fillings all (all_pieces points (map (λ f. f.corners) all) p.alone.items p.regions w) (fillings_of points all)
        (all_pieces_fill points all es p.alone.items p.regions w (tells w notes) right));
  }
