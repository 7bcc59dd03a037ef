-- The edges that are noted, of all walks and of triangles that are alone, are those of the sides of all planes.
use Rattle.std.proofs.Common.{◌≡◌, ◌∙◌, ◌<◌, ◌++◌, ◌==◌, ℕ, ℤ, Bool, List, [], ◌∷◌, true, false, ap, arith, cond, filter, get_or, inl, inr, length, map, refl, subst, suc, sym, zero}
use Rattle.std.specs.Prelude.{◌⊎◌, ◌&&◌, ◌||◌, count_by, not}
use Rattle.std.specs.List.{All, Contains, flat_map, list_any}
use Rattle.std.proofs.lemmas.Bool.{and_from, and_parts, both_ways, cases_Bool, eq-eqb, or_cases, or_left, or_right}
use Rattle.std.proofs.lemmas.List.{append-nil}
use Rattle.std.proofs.lemmas.List.Elements.{All-contains, All-contains_itself, All-filter, All-from_get_or}
use Rattle.std.proofs.lemmas.List.Folds.{flat_map-map, list_any-append, list_any_at}
use Rattle.chain_terms.specs.Paths.{round_edges}
use Rattle.chain_terms.specs.Sums.{upto}
use Rattle.chain_laws.specs.Counts.{count_by-cons, one_if-false}
use Rattle.edge_cutting.proofs.Numbered.{firsts_all}
use Rattle.plan_laws.specs.Alone.{IsAlone}
use Rattle.plan_laws.specs.Needless.{HaveSameEdges}
use Rattle.plan_laws.specs.Ordered.{is_first, side_at}
use Rattle.plan_laws.specs.Standing.{AreAt, numbers_at, shown}
use Rattle.plan_laws.proofs.Alone.{alone_is_its_region}
use Rattle.plane_filling.specs.declared.regions.Regions.{Regions}
use Rattle.plane_filling.specs.Pieces.{no_region}
use Rattle.plane_filling.specs.Regions.{walks_at}
use Rattle.plane_groups.specs.Grouped.{bent, face_at, no_face}
use Rattle.sheet_laws.proofs.Coplanar.{plane_back}
use Rattle.sheet_terms.specs.Chains.{same_edge}
use Rattle.sheet_terms.specs.Crossings.{coplanar}
use Rattle.sheet_terms.specs.Cuts.{rim}
use Rattle.sheet_terms.specs.Faces.{Face, in_plane, is_flat}
use Rattle.sheet_terms.specs.Needless.{side_edges, walk_edges}
use Rattle.sheet_terms.specs.Places.{has_three}
use Rattle.sheet_terms.specs.Regions.{Region, Side}
use Rattle.plane_remesh.specs.Plans.{sides_of}
use Rattle.plane_remesh.specs.PlansTo.{alone_edges, has_regions, is_alone, planes_of}
use Rattle.plane_remesh.specs.Pushed.{AreWhole}
use Rattle.plane_remesh.proofs.AllPlanes.{IsNumber, alone_at, alone_first, any_number, first_bent, found_in, found_number, kept_in, once, regions_is, sides_are, with_regions}
use Rattle.plane_remesh.proofs.Bounding.{some_edges, walks_are}
use Rattle.plane_remesh.proofs.Coplanar.{IsBent, bent_all}

-- tests that imply each other are one
pub same_test : (b c : Bool) → (b ≡ true → c ≡ true) → (c ≡ true → b ≡ true) → b ≡ c
same_test true c h k = sym (h refl)
same_test false true h k = k refl
same_test false false h k = refl

module _ {X Y : Type 0} (q : Y → Bool) where
  -- a member of lists that are made one for each member
  any_flat : (h : X → List Y) (xs : List X) → list_any q (flat_map h xs) ≡ list_any (λ x. list_any q (h x)) xs
  any_flat h [] = refl
  any_flat h (x ∷ xs) = list_any-append q (h x) (flat_map h xs) ∙ ap (λ b. list_any q (h x) || b) (any_flat h xs)

-- one passes
some_once : {X : Type 0} (p : X → Bool) (xs : List X) → count_by p xs ≡ 1 → list_any p xs ≡ true
some_once p [] one = absurd (omega (arith, one))
some_once p (x ∷ xs) one = by (some_once p xs) (cases_Bool (p x))
  where
    by : (count_by p xs ≡ 1 → list_any p xs ≡ true) → (p x ≡ true) ⊎ (p x ≡ false) → (p x || list_any p xs) ≡ true
    by go (inl y) = or_left (p x) (list_any p xs) y
    by go (inr out) = or_right (p x) (list_any p xs) (go (omega (arith, one, count_by-cons p x xs, one_if-false (p x) out)))

-- and of those that pass
any_passed : {X : Type 0} (p q : X → Bool) (xs : List X) → list_any q (filter p xs) ≡ list_any (λ x. p x && q x) xs
any_passed p q [] = refl
any_passed p q (x ∷ xs) = by (p x) (any_passed p q xs)
  where
    by : (b : Bool) → list_any q (filter p xs) ≡ list_any (λ y. p y && q y) xs → list_any q (cond b (x ∷ filter p xs) (filter p xs)) ≡ ((b && q x) || list_any (λ y. p y && q y) xs)
    by true rest = ap (λ c. q x || c) rest
    by false rest = rest

module _ (points : List (List ℤ)) (all : List Face) (rims : All (λ f. f.rim ≡ rim points f.corners) all) (three : All (λ f. has_three f.corners ≡ true) all) (r : Regions)
    (whole : AreWhole r) (firsts : All (λ x. x.first < length all) r.all.items)
    (at : (t : ℕ) → t < length all → has_regions points all (length (planes_of points all)) t ≡ true → AreAt points all t r)
    (none : (t : ℕ) → has_regions points all (length (planes_of points all)) t ≡ false → numbers_at r t ≡ []) (e : ℕ × ℕ) where
  -- an edge is in a list
  abbrev is_in : List (ℕ × ℕ) → Bool
  is_in es = list_any (same_edge e) es

  -- it is along a walk of region k, or along one of the regions by a triangle
  abbrev along : ℕ → Bool
  along k = is_in (walk_edges (walks_at r k))

  abbrev first_of : ℕ → ℕ
  first_of k = (get_or r.all.items k no_region).first

  abbrev n : ℕ
  n = length r.all.items

  abbrev by_triangle : ℕ → Bool
  by_triangle t = list_any along (numbers_at r t)

  -- it is along a walk
  walks_in : is_in (walk_edges r.walks.0) ≡ list_any along (upto n)
  walks_in =
      ap (λ ws. is_in (walk_edges ws)) (sym (walks_are r whole.are whole.none))
      ∙ ap (λ ws. is_in (walk_edges ws)) (flat_map-map (λ (w : List (List ℕ)). w) (walks_at r) (upto (length r.ends.items)))
      ∙ any_flat (same_edge e) round_edges (flat_map (walks_at r) (upto (length r.ends.items)))
      ∙ any_flat (λ walk. is_in (round_edges walk)) (walks_at r) (upto (length r.ends.items))
      ∙ walked (upto (length r.ends.items))
      ∙ ap (λ m. list_any along (upto m)) whole.are.full
    where
      walked : (ks : List ℕ) → list_any (λ k. list_any (λ walk. is_in (round_edges walk)) (walks_at r k)) ks ≡ list_any along ks
      walked [] = refl
      walked (k ∷ ks) = λ i. sym (any_flat (same_edge e) round_edges (walks_at r k)) i || walked ks i

  in_by : (t : ℕ) → by_triangle t ≡ list_any (λ k. (first_of k == t) && along k) (upto n)
  in_by t = any_passed (λ k. first_of k == t) along (upto n)

  -- the edges of the side by a triangle
  abbrev side_in : ℕ → Bool
  side_in t = is_in (side_edges (side_at points all t))

  regions_in : (t : ℕ) → AreAt points all t r → side_in t ≡ by_triangle t
  regions_in t are =
      let show : ℕ → Region = λ k. shown all (get_or r.all.items k no_region) (walks_at r k) in
      let edges : Region → List (ℕ × ℕ) = λ g. walk_edges g.walks in
      ap is_in (sym (some_edges (side_at points all t).regions)) ∙ ap (λ (gs : List Region). is_in (flat_map edges gs)) (sym are.shows)
      ∙ ap (λ (ks : List ℕ). is_in (flat_map edges (map show ks))) (sym are.numbers) ∙ any_flat (same_edge e) edges (map show (numbers_at r t)) ∙ each show (numbers_at r t)
    where
      each : (show : ℕ → Region) (ks : List ℕ) → list_any (λ g. is_in (walk_edges g.walks)) (map show ks) ≡ list_any (λ k. is_in (walk_edges (show k).walks)) ks
      each show [] = refl
      each show (k ∷ ks) = ap (λ b. is_in (walk_edges (show k).walks) || b) (each show ks)

  alone_in : (t : ℕ) → IsAlone points (bent points all) (face_at all t) → side_in t ≡ is_in (round_edges (face_at all t).rim)
  alone_in t is =
      let f = face_at all t in
      ap (λ (s : Side). is_in (side_edges s)) (alone_is_its_region points (bent points all) f is)
      ∙ ap is_in (append-nil (round_edges f.rim ++ []) ∙ append-nil (round_edges f.rim))

  -- and of all sides
  abbrev test : ℕ → Bool
  test t = is_first points all t && side_in t

  sides_in : is_in (flat_map side_edges (sides_of points all)) ≡ list_any test (upto (length all))
  sides_in =
      any_flat (same_edge e) side_edges (sides_of points all) ∙ ap (list_any (λ (s : Side). is_in (side_edges s))) (sides_are points all rims three)
      ∙ mapped (filter (is_first points all) (upto (length all))) ∙ any_passed (is_first points all) side_in (upto (length all))
    where
      mapped : (ts : List ℕ) → list_any (λ (s : Side). is_in (side_edges s)) (map (side_at points all) ts) ≡ list_any side_in ts
      mapped [] = refl
      mapped (t ∷ ts) = ap (λ b. side_in t || b) (mapped ts)

  to_sides : (t : ℕ) → t < length all → is_first points all t ≡ true → side_in t ≡ true → is_in (flat_map side_edges (sides_of points all)) ≡ true
  to_sides t low first some = sides_in ∙ any_number test (length all) t low (and_from (is_first points all t) (side_in t) first some)

  -- edges of triangles that are alone
  abbrev alone_has : Face → Bool
  alone_has s = is_in (alone_edges points all s)

  abbrev all_alone : List (ℕ × ℕ)
  all_alone = flat_map (alone_edges points all) (planes_of points all)

  abbrev Leads : Face → Type 0
  Leads s = alone_has s ≡ true → is_in (flat_map side_edges (sides_of points all)) ≡ true

  alone_leads : (t : ℕ) → t < length all → IsBent points (face_at all t) → Leads (face_at all t)
  alone_leads t low bent_t some = by (cases_Bool (is_alone points all (face_at all t)))
    where
      by : (is_alone points all (face_at all t) ≡ true) ⊎ (is_alone points all (face_at all t) ≡ false) → is_in (flat_map side_edges (sides_of points all)) ≡ true
      by (inl is) =
          to_sides t low (alone_first points all rims three t low bent_t is)
          (alone_in t (alone_at points all rims three t low bent_t is) ∙ sym (ap (λ b. is_in (cond b (round_edges (face_at all t).rim) [])) is) ∙ some)
      by (inr out) = absurd (both_ways (alone_has (face_at all t)) (ap (λ b. is_in (cond b (round_edges (face_at all t).rim) [])) out) some)

  planes_lead : All Leads (planes_of points all)
  planes_lead =
      let each : All (λ s. IsBent points s → Leads s) all = All-from_get_or (λ s. IsBent points s → Leads s) all no_face alone_leads in
      let some = All-filter (λ s. not (is_flat points s.corners)) (λ s. IsBent points s → Leads s) all each in
      firsts_all Leads (in_plane points) [] (bent points all) (λ k d low. some k d low (bent_all points all k d low))

  from_alone : is_in all_alone ≡ true → is_in (flat_map side_edges (sides_of points all)) ≡ true
  from_alone h =
      let r = found_in alone_has (planes_of points all) no_face (sym (any_flat (same_edge e) (alone_edges points all) (planes_of points all)) ∙ h) in
      planes_lead r.place no_face r.inside r.passes

  -- and of walks
  from_walks : is_in (walk_edges r.walks.0) ≡ true → is_in (flat_map side_edges (sides_of points all)) ≡ true
  from_walks h = by (cases_Bool (has_regions points all (length (planes_of points all)) t))
    where
      found : IsNumber along 0 n
      found = found_number along n (sym walks_in ∙ h)

      k : ℕ
      k = found.number

      k_low : k < n
      k_low = let below = found.below in omega (arith, below)

      t : ℕ
      t = first_of k

      low : t < length all
      low = firsts k no_region k_low

      stands : by_triangle t ≡ true
      stands = in_by t ∙ any_number (λ j. (first_of j == t) && along j) n k k_low (and_from (first_of k == t) (along k) (eq-eqb (first_of k) t refl) found.passes)

      by : (has_regions points all (length (planes_of points all)) t ≡ true) ⊎ (has_regions points all (length (planes_of points all)) t ≡ false) →
          is_in (flat_map side_edges (sides_of points all)) ≡ true
      by (inl is) = to_sides t low (with_regions points all rims three t is).first (regions_in t (at t low is) ∙ stands)
      by (inr out) = absurd (both_ways (by_triangle t) (ap (list_any along) (none t out)) stands)

  -- the edges of a side are noted
  alone_noted : (t : ℕ) → t < length all → IsBent points (face_at all t) → is_alone points all (face_at all t) ≡ true → is_in (round_edges (face_at all t).rim) ≡ true →
      is_in all_alone ≡ true
  alone_noted t low bent_t is some =
      let f = face_at all t in
      let fs = bent points all in
      let ps = planes_of points all in
      let r = found_in (λ s. in_plane points s f) ps no_face (some_once (λ s. in_plane points s f) ps (once points all rims three t low bent_t)) in
      let s = get_or ps r.place no_face in
      let bent_s : IsBent points s = firsts_all (IsBent points) (in_plane points) [] fs (bent_all points all) r.place no_face r.inside in
      let has : Contains fs s = firsts_all (Contains fs) (in_plane points) [] fs (All-contains_itself fs) r.place no_face r.inside in
      let here : Contains (coplanar points fs f) s =
      All-contains (λ g. in_plane points f g ≡ true → Contains (coplanar points fs f) g) fs s (λ k d inside. kept_in (in_plane points f) fs k d inside) has
      (plane_back points s f bent_s bent_t r.passes) in
      let same : f ≡ s = only f s (subst (λ (l : List Face). Contains l s) (alone_at points all rims three t low bent_t is).own here) in
      any_flat (same_edge e) (alone_edges points all) ps
      ∙ list_any_at alone_has ps r.place no_face r.inside (subst (λ g. alone_has g ≡ true) same (ap (λ b. is_in (cond b (round_edges f.rim) [])) is ∙ some))
    where
      only : (f s : Face) → Contains (f ∷ []) s → f ≡ s
      only f s has = by has.0 has.1 has.2
        where
          by : (k : ℕ) → k < 1 → get_or (f ∷ []) k s ≡ s → f ≡ s
          by zero low e = e
          by (suc k) low e = absurd (omega (arith, low))

  side_noted : (t : ℕ) → t < length all → is_first points all t ≡ true → side_in t ≡ true → (is_in all_alone || is_in (walk_edges r.walks.0)) ≡ true
  side_noted t low first some = by (cases_Bool (is_alone points all (face_at all t)))
    where
      bent_t : IsBent points (face_at all t)
      bent_t = first_bent points all rims three t first

      by : (is_alone points all (face_at all t) ≡ true) ⊎ (is_alone points all (face_at all t) ≡ false) → (is_in all_alone || is_in (walk_edges r.walks.0)) ≡ true
      by (inl is) =
          or_left (is_in all_alone) (is_in (walk_edges r.walks.0))
          (alone_noted t low bent_t is (sym (alone_in t (alone_at points all rims three t low bent_t is)) ∙ some))
      by (inr out) =
          let stands : has_regions points all (length (planes_of points all)) t ≡ true = regions_is points all rims three t low first ∙ ap not out in
          let found = found_number (λ k. (first_of k == t) && along k) n (sym (in_by t) ∙ sym (regions_in t (at t low stands)) ∙ some) in
          let k_low : found.number < n = (let below = found.below in omega (arith, below)) in
          or_right (is_in all_alone) (is_in (walk_edges r.walks.0))
          (walks_in ∙ any_number along n found.number k_low (and_parts (first_of found.number == t) (along found.number) found.passes).1)

  noted_one : is_in (all_alone ++ walk_edges r.walks.0) ≡ is_in (flat_map side_edges (sides_of points all))
  noted_one =
      list_any-append (same_edge e) all_alone (walk_edges r.walks.0)
      ∙ same_test (is_in all_alone || is_in (walk_edges r.walks.0)) (is_in (flat_map side_edges (sides_of points all))) there back
    where
      there : (is_in all_alone || is_in (walk_edges r.walks.0)) ≡ true → is_in (flat_map side_edges (sides_of points all)) ≡ true
      there h = elim (or_cases (is_in all_alone) (is_in (walk_edges r.walks.0)) h) as (λ _. is_in (flat_map side_edges (sides_of points all)) ≡ true) [
        | inl a ↦ from_alone a
        | inr w ↦ from_walks w
      ]

      back : is_in (flat_map side_edges (sides_of points all)) ≡ true → (is_in all_alone || is_in (walk_edges r.walks.0)) ≡ true
      back h =
          let found = found_number test (length all) (sym sides_in ∙ h) in
          let low : found.number < length all = (let below = found.below in omega (arith, below)) in
          let parts = and_parts (is_first points all found.number) (side_in found.number) found.passes in
          side_noted found.number low parts.0 parts.1

-- all edges
pub same_edges : (points : List (List ℤ)) (all : List Face) → All (λ f. f.rim ≡ rim points f.corners) all → All (λ f. has_three f.corners ≡ true) all → (r : Regions) → AreWhole r →
    All (λ x. x.first < length all) r.all.items → ((t : ℕ) → t < length all → has_regions points all (length (planes_of points all)) t ≡ true → AreAt points all t r) →
    ((t : ℕ) → has_regions points all (length (planes_of points all)) t ≡ false → numbers_at r t ≡ []) →
    HaveSameEdges (flat_map (alone_edges points all) (planes_of points all) ++ walk_edges r.walks.0) (flat_map side_edges (sides_of points all))
same_edges points all rims three r whole firsts at none e = noted_one points all rims three r whole firsts at none e
