-- The walks of a plane have the boundary of its triangles exactly where they do in the definition.
use Rattle.std.proofs.Common.{◌≡◌, ◌∙◌, ◌<◌, ◌≤◌, ◌+◌, ◌-◌, ◌++◌, ℕ, ℤ, Bool, List, [], ◌∷◌, true, false, ap, arith, cond, drop, filter, get_or, inl, inr, length, map, refl, subst, suc, sym, take, zero, Option, Some, None}
use Rattle.std.specs.Prelude.{◌⊎◌, ◌&&◌, ◌-ℤ◌, find, pos}
use Rattle.std.specs.List.{All, flat_map, list_all}
use Rattle.std.specs.Ordering.{int_eq}
use Rattle.std.proofs.lemmas.List.{append-nil, drop-append-le, drop_all, get_or_default, length-append, take-append-drop}
use Rattle.std.proofs.lemmas.List.Concat.{flat_map-append}
use Rattle.std.proofs.lemmas.List.Folds.{flat_map-map, list_all-append}
use Rattle.chain_terms.specs.Chains.{boundary, dir}
use Rattle.chain_terms.specs.Paths.{round_edges}
use Rattle.chain_terms.specs.Sums.{upto}
use Rattle.chain_laws.specs.Chains.{and_turned, dir-append}
use Rattle.chain_laws.proofs.Places.{upto_more}
use Rattle.places_by_key.specs.Buckets.{begin_of}
use Rattle.plane_chains.specs.Listed.{faces_side}
use Rattle.plane_chains.specs.Pairs.{option_list}
use Rattle.plane_filling.specs.declared.regions.Region.{Region as StoredRegion}
use Rattle.plane_filling.specs.declared.regions.Regions.{Regions}
use Rattle.plane_filling.specs.Regions.{AreRegions, all_walks, last_end, waiting, walks_at}
use Rattle.plane_groups.specs.Grouped.{bent, face_at, is_front}
use Rattle.plane_sheets.specs.Found.{has_walks}
use Rattle.sheet_terms.specs.Faces.{Face, in_plane, rim_edges, sides}
use Rattle.sheet_terms.specs.Filled.{keeps_boundary, same_boundary}
use Rattle.sheet_terms.specs.Needless.{side_edges, walk_edges}
use Rattle.sheet_terms.specs.Regions.{Region, Side, side_of}
use Rattle.plane_remesh.specs.declared.plane_work.PlaneWork.{PlaneWork}
use Rattle.plane_remesh.specs.Plans.{sides_of}
use Rattle.plane_remesh.specs.Pushed.{AreWhole, HasPushed, HasPushedFor, HasPushedPlane, all_shown}
use Rattle.plane_remesh.specs.Works.{IsWork}
use Rattle.plane_remesh.proofs.Coplanar.{bent_all}
use Rattle.plane_remesh.proofs.Sided.{IsMarked, both_found, firsts_in, found, picked}
use Rattle.plane_remesh.proofs.Storing.{none_pushed, pushes_joined, whole_pushed}
use Rattle.plane_remesh.proofs.Working.{front_at, many, own_at, s_bent}

-- walks of regions, one after the other
abbrev pub flat : List (List (List ℕ)) → List (List ℕ)
flat ws = flat_map (λ w. w) ws

take_none : {X : Type 0} (n : ℕ) → ◌≡◌ {A = List X} (take n []) []
take_none zero = refl
take_none (suc n) = refl

take_on : {X : Type 0} (a b : ℕ) (xs : List X) → a ≤ b → take a xs ++ take (b - a) (drop a xs) ≡ take b xs
take_on zero b xs h = let all : b - 0 ≡ b = omega arith in ap (λ n. take n xs) all
take_on (suc a) zero xs h = absurd (omega (arith, h))
take_on (suc a) (suc b) [] h = take_none (suc b - suc a)
take_on (suc a) (suc b) (x ∷ xs) h =
    let less : suc b - suc a ≡ b - a = omega arith in
    ap (λ n. x ∷ (take a xs ++ take n (drop a xs))) less ∙ ap (λ l. x ∷ l) (take_on a b xs (omega (arith, h)))

parts_to : (r : Regions) → AreRegions r → (n : ℕ) → n ≤ length r.ends.items → flat_map (walks_at r) (upto n) ≡ take (begin_of r.ends.items n) r.walks.0
parts_to r are zero h = refl
parts_to r are (suc n) h =
    let one : suc n ≡ n + 1 = omega arith in
    ap (λ m. flat_map (walks_at r) (upto m)) one ∙ ap (flat_map (walks_at r)) (upto_more n) ∙ flat_map-append (walks_at r) (upto n) (n ∷ [])
    ∙ (λ i. parts_to r are n (omega (arith, h)) i ++ append-nil (walks_at r n) i)
    ∙ take_on (begin_of r.ends.items n) (get_or r.ends.items n 0) r.walks.0 (are.ends.up n (omega (arith, h)))

-- all walks, where none waits
pub walks_are : (r : Regions) → AreRegions r → waiting r ≡ [] → flat (all_walks r) ≡ r.walks.0
walks_are r are none =
    flat_map-map (λ (w : List (List ℕ)). w) (walks_at r) (upto (length r.ends.items)) ∙ parts_to r are (length r.ends.items) (omega arith)
    ∙ sym (append-nil (take (last_end r) r.walks.0)) ∙ ap (λ (l : List (List ℕ)). take (last_end r) r.walks.0 ++ l) (sym none)
    ∙ take-append-drop (last_end r) r.walks.0

pub pushed_now : (old new : Regions) (rs : List StoredRegion) (ws : List (List (List ℕ))) → AreWhole old → HasPushed old new rs ws → new.walks.0 ≡ old.walks.0 ++ flat ws
pushed_now old new rs ws whole p =
    sym (walks_are new p.seen.are p.seen.waits) ∙ ap flat p.seen.each ∙ flat_map-append (λ (w : List (List ℕ)). w) (all_walks old) ws
    ∙ ap (λ (l : List (List ℕ)). l ++ flat ws) (walks_are old whole.are whole.none)

-- those that were pushed
pushed_walks : (old new : Regions) (rs : List StoredRegion) (ws : List (List (List ℕ))) → AreWhole old → HasPushed old new rs ws → drop (length old.walks.0) new.walks.0 ≡ flat ws
pushed_walks old new rs ws whole p =
    ap (drop (length old.walks.0)) (pushed_now old new rs ws whole p) ∙ drop-append-le (length old.walks.0) old.walks.0 (flat ws) (omega arith)
    ∙ ap (λ (l : List (List ℕ)). l ++ flat ws) (drop_all (length old.walks.0) old.walks.0 (omega arith))

-- the edges of regions as they are shown
abbrev region_edges : List Region → List (ℕ × ℕ)
region_edges gs = flat_map (λ g. walk_edges g.walks) gs

shown_edges : (all : List Face) (rs : List StoredRegion) (ws : List (List (List ℕ))) → length rs ≡ length ws → flat_map round_edges (flat ws) ≡ region_edges (all_shown all rs ws)
shown_edges all [] [] same = refl
shown_edges all [] (w ∷ ws) same = absurd (omega (arith, same))
shown_edges all (r ∷ rs) [] same = absurd (omega (arith, same))
shown_edges all (r ∷ rs) (w ∷ ws) same =
    flat_map-append round_edges w (flat ws) ∙ ap (λ (l : List (ℕ × ℕ)). walk_edges w ++ l) (shown_edges all rs ws (omega (arith, same)))

-- a region without walks has none
pub some_edges : (gs : List Region) → region_edges (filter has_walks gs) ≡ region_edges gs
some_edges [] = refl
some_edges (g ∷ gs) = by g.walks refl (some_edges gs)
  where
    by : (ws : List (List ℕ)) → g.walks ≡ ws → region_edges (filter has_walks gs) ≡ region_edges gs →
        region_edges (filter has_walks (g ∷ gs)) ≡ walk_edges g.walks ++ region_edges gs
    by [] e rest =
        ap (λ (ws : List (List ℕ)). region_edges (cond (has_walks (record { label = g.label; walks = ws })) (g ∷ filter has_walks gs) (filter has_walks gs))) e ∙ rest
        ∙ ap (λ (ws : List (List ℕ)). walk_edges ws ++ region_edges gs) (sym e)
    by (w ∷ ws) e rest =
        ap (λ (vs : List (List ℕ)). region_edges (cond (has_walks (record { label = g.label; walks = vs })) (g ∷ filter has_walks gs) (filter has_walks gs))) e
        ∙ ap (λ (l : List (ℕ × ℕ)). walk_edges g.walks ++ l) rest

-- the edges of the side that a triangle faces
abbrev edges_at : List (List ℤ) → List Face → Face → List (ℕ × ℕ)
edges_at points all f = side_edges (side_of points (bent points all) f)

-- what was pushed for a side, and its edges
record HasEdges (points : List (List ℤ)) (all : List Face) (o : Option ℕ) (old new : Regions) : Type 0 where
  rs : List StoredRegion
  ws : List (List (List ℕ))
  pushed : HasPushed old new rs ws
  edges : flat_map round_edges (flat ws) ≡ flat_map (edges_at points all) (map (face_at all) (option_list o))

side_has_edges : (points : List (List ℤ)) (all : List Face) (o : Option ℕ) (old new : Regions) → AreWhole old → HasPushedFor points all o old new → HasEdges points all o old new
side_has_edges points all None old new whole h =
    record { rs = []; ws = []; pushed = subst (λ n. HasPushed old n [] []) (sym h) (none_pushed old whole); edges = refl }
side_has_edges points all (Some t) old new whole h = record {
  rs = h.sheets ++ h.stay;
  ws = h.ws;
  pushed = h.pushed;
  edges = shown_edges all (h.sheets ++ h.stay) h.ws h.pushed.same ∙ ap region_edges h.shows ∙ some_edges (side_of points (bent points all) (face_at all t)).regions
      ∙ sym (append-nil (edges_at points all (face_at all t)));
}

-- nothing waits after it
pub whole_for : (points : List (List ℤ)) (all : List Face) (o : Option ℕ) (old new : Regions) → AreWhole old → HasPushedFor points all o old new → AreWhole new
whole_for points all o old new whole h = let e = side_has_edges points all o old new whole h in whole_pushed old new e.rs e.ws e.pushed

-- and there are no fewer walks
pub before_low : (points : List (List ℤ)) (all : List Face) (marks : List Bool) (numbers : List ℕ) (old new : Regions) →
    AreWhole old → HasPushedPlane points all marks numbers old new →
    length old.walks.0 ≤ length new.walks.0
before_low points all marks numbers old new whole h =
    let p = side_has_edges points all (find (faces_side marks true) numbers) old h.between whole h.front in
    let mid = whole_for points all (find (faces_side marks true) numbers) old h.between whole h.front in
    let q = side_has_edges points all (find (faces_side marks false) numbers) h.between new mid h.back in
    omega (
      arith,
      ap length (pushed_now old h.between p.rs p.ws whole p.pushed),
      length-append old.walks.0 (flat p.ws),
      ap length (pushed_now h.between new q.rs q.ws mid q.pushed),
      length-append h.between.walks.0 (flat q.ws),
    )

-- boundaries do not depend on the order
same_turned : (es fs ms : List (ℕ × ℕ)) → same_boundary (es ++ fs) ms ≡ same_boundary (fs ++ es) ms
same_turned es fs ms =
    let often : (a b : ℕ) → dir (es ++ fs) a b ≡ dir (fs ++ es) a b = λ a b. omega (arith, dir-append es fs a b, dir-append fs es a b) in
    let test : (ℕ × ℕ) → Bool = λ e. int_eq (boundary (fs ++ es) e.0 e.1) (boundary ms e.0 e.1) in
    (λ i. list_all (λ (e : ℕ × ℕ). int_eq (pos (often e.0 e.1 i) -ℤ pos (often e.1 e.0 i)) (boundary ms e.0 e.1)) ((es ++ fs) ++ ms))
    ∙ list_all-append test (es ++ fs) ms
    ∙ ap (λ b. b && list_all test ms) (list_all-append test es fs ∙ and_turned (list_all test es) (list_all test fs) ∙ sym (list_all-append test fs es))
    ∙ sym (list_all-append test (fs ++ es) ms)

pub filter-mapped : {X Y : Type 0} (p : Y → Bool) (f : X → Y) (xs : List X) → filter p (map f xs) ≡ map f (filter (λ x. p (f x)) xs)
filter-mapped p f [] = refl
filter-mapped p f (x ∷ xs) = by (p (f x)) (filter-mapped p f xs) where
  by : (b : Bool) → filter p (map f xs) ≡ map f (filter (λ y. p (f y)) xs) →
      cond b (f x ∷ filter p (map f xs)) (filter p (map f xs)) ≡ map f (cond b (x ∷ filter (λ y. p (f y)) xs) (filter (λ y. p (f y)) xs))
  by true rest = ap (λ ys. f x ∷ ys) rest
  by false rest = rest

module _ (points : List (List ℤ)) (all own : List Face) (s : Face) (w : PlaneWork) (is : IsWork points all own s w) where
  abbrev marks : List Bool
  marks = w.faces.fronts.now

  abbrev numbers : List ℕ
  numbers = w.faces.numbers.now

  marked : All (IsMarked all (is_front points) marks) numbers
  marked k d low =
      subst (IsMarked all (is_front points) marks) (any k d low)
      (front_at points all own s w is k (omega (arith, low, many points all own s w is))
      ∙ ap (is_front points) (own_at points all own s w is k (omega (arith, low, many points all own s w is))))
    where
      any : (k : ℕ) (d : ℕ) → k < length numbers → get_or numbers k 0 ≡ get_or numbers k d
      any k d low = get_or_default numbers k 0 d low

  -- the edges of a plane's sides
  plane_edges : flat_map side_edges (filter (λ (t : Side). in_plane points s t.face) (sides_of points all))
      ≡ flat_map (edges_at points all) (picked (is_front points) false false (map (face_at all) numbers))
  plane_edges =
      ap (flat_map side_edges) (filter-mapped (λ (t : Side). in_plane points s t.face) (side_of points (bent points all)) (sides points (bent points all)))
      ∙ flat_map-map side_edges (side_of points (bent points all)) (filter (in_plane points s) (sides points (bent points all)))
      ∙ ap (flat_map (edges_at points all)) (firsts_in points s (s_bent points all own s w is) (bent points all) (bent_all points all))
      ∙ ap (λ (l : List Face). flat_map (edges_at points all) (picked (is_front points) false false l)) (sym is.are ∙ sym is.faces.faces)

  -- and of its triangles
  own_edges : flat_map round_edges w.faces.rims.0 ≡ rim_edges (filter (in_plane points s) (bent points all))
  own_edges =
      ap (λ (r : List (List ℕ) × List ℕ). flat_map round_edges r.0) is.faces.rims ∙ flat_map-map round_edges (λ (g : Face). g.rim) own ∙ ap rim_edges is.are

  pub keeps_as_pushed : (old new : Regions) → AreWhole old → HasPushedPlane points all marks numbers old new →
      same_boundary (flat_map round_edges (drop (length old.walks.0) new.walks.0)) (flat_map round_edges w.faces.rims.0)
      ≡ keeps_boundary points (bent points all) (sides_of points all) s
  keeps_as_pushed old new whole h =
      let front = find (faces_side marks true) numbers in
      let back = find (faces_side marks false) numbers in
      let p = side_has_edges points all front old h.between whole h.front in
      let q = side_has_edges points all back h.between new (whole_for points all front old h.between whole h.front) h.back in
      let walks : flat_map round_edges (drop (length old.walks.0) new.walks.0) ≡
      flat_map (edges_at points all) (found all (is_front points) marks true numbers) ++ flat_map (edges_at points all) (found all (is_front points) marks false numbers) =
      ap (flat_map round_edges) (pushed_walks old new (p.rs ++ q.rs) (p.ws ++ q.ws) whole (pushes_joined old h.between new p.rs q.rs p.ws q.ws p.pushed q.pushed))
      ∙ ap (flat_map round_edges) (flat_map-append (λ (w : List (List ℕ)). w) p.ws q.ws) ∙ flat_map-append round_edges (flat p.ws) (flat q.ws)
      ∙ (λ i. p.edges i ++ q.edges i) in
      (λ i. same_boundary (walks i) (own_edges i)) ∙ by (both_found all (is_front points) marks numbers marked)
      ∙ ap (λ (es : List (ℕ × ℕ)). same_boundary es (rim_edges (filter (in_plane points s) (bent points all)))) (sym plane_edges)
    where
      by : (picked (is_front points) false false (map (face_at all) numbers) ≡ found all (is_front points) marks true numbers ++ found all (is_front points) marks false numbers)
          ⊎ (picked (is_front points) false false (map (face_at all) numbers) ≡ found all (is_front points) marks false numbers ++ found all (is_front points) marks true numbers) →
          same_boundary
          (flat_map (edges_at points all) (found all (is_front points) marks true numbers) ++ flat_map (edges_at points all)
          (found all (is_front points) marks false numbers))
          (rim_edges (filter (in_plane points s) (bent points all)))
          ≡ same_boundary (flat_map (edges_at points all) (picked (is_front points) false false (map (face_at all) numbers)))
          (rim_edges (filter (in_plane points s) (bent points all)))
      by (inl e) =
          ap (λ (es : List (ℕ × ℕ)). same_boundary es (rim_edges (filter (in_plane points s) (bent points all))))
          (sym (flat_map-append (edges_at points all) (found all (is_front points) marks true numbers) (found all (is_front points) marks false numbers))
          ∙ ap (flat_map (edges_at points all)) (sym e))
      by (inr e) =
          same_turned (flat_map (edges_at points all) (found all (is_front points) marks true numbers))
          (flat_map (edges_at points all) (found all (is_front points) marks false numbers))
          (rim_edges (filter (in_plane points s) (bent points all)))
          ∙ ap (λ (es : List (ℕ × ℕ)). same_boundary es (rim_edges (filter (in_plane points s) (bent points all))))
          (sym (flat_map-append (edges_at points all) (found all (is_front points) marks false numbers) (found all (is_front points) marks true numbers))
          ∙ ap (flat_map (edges_at points all)) (sym e))

  pub same_as_pushed : (old new : Regions) → AreWhole old → HasPushedPlane points all marks numbers old new → (before : ℕ) → before ≡ length old.walks.0 → (same : Bool) →
      same ≡ same_boundary (flat_map round_edges (drop before new.walks.0)) (flat_map round_edges w.faces.rims.0) →
      same ≡ keeps_boundary points (bent points all) (sides_of points all) s
  same_as_pushed old new whole h before is_before same e =
      e ∙ ap (λ n. same_boundary (flat_map round_edges (drop n new.walks.0)) (flat_map round_edges w.faces.rims.0)) is_before ∙ keeps_as_pushed old new whole h
