-- The triangles of a plane as they are listed: by their numbers, rims and labels.
use Rattle.std.proofs.Common.{◌≡◌, ◌∙◌, ◌<◌, ◌+◌, ◌==◌, ◌++◌, ℕ, ℤ, Bool, List, [], ◌∷◌, true, false, ap, arith, cond, drop, filter, get_or, length, map, refl, subst, suc, sym, take, zero}
use Rattle.std.specs.Prelude.{◌↔◌, ◌^◌, ◌≤◌, ◌||◌, bytes_eq, if◌then◌else◌, not}
use Rattle.std.specs.Cmp.Lexicographic.{bytes_decides}
use Rattle.std.specs.List.{All, Contains, list_any, position_or_len}
use Rattle.std.proofs.lemmas.Bool.Decides.{Decides-like, same_from_decides}
use Rattle.std.proofs.lemmas.Bool.{eq-eqb, eqb-true}
use Rattle.std.proofs.lemmas.List.{get_or-map, get_or_default, length-map, map-append, take_all, take_more}
use Rattle.std.proofs.lemmas.List.Elements.{All-append, All-cons, All-contains_itself, All-filter, All-get_or, All-head, All-map, All-nil, All-tail}
use Rattle.chain_terms.specs.Sums.{upto}
use Rattle.mesh_terms.specs.Meshes.{IsBelow, Triple, triple_of}
use Rattle.edge_cutting.specs.Cut.{cut_rim}
use Rattle.sheet_terms.specs.Cuts.{cuts, is_inside, is_nearer, rim}
use Rattle.sheet_terms.specs.Faces.{Face, in_plane, is_flat, labels_of}
use Rattle.sheet_terms.specs.Places.{firsts, firsts_after, ordered, put}
use Rattle.plane_chains.specs.declared.plane_faces.PlaneFaces.{PlaneFaces}
use Rattle.plane_chains.specs.Listed.{first_places, label_number, picked}
use Rattle.plane_chains.proofs.FaceLists.{firsts_all}
use Rattle.plane_chains.proofs.FirstKeys.{map_agree}
use Rattle.plane_chains.proofs.GridPoints.{upto_below}
use Rattle.plane_groups.specs.Grouped.{bent, face_at, faces_in, no_face}
use Rattle.plane_remesh.specs.declared.surface.CutSurface.{CutSurface}
use Rattle.plane_remesh.specs.Surfaces.{IsSurface, own_at, plane_at}
use Rattle.plane_remesh.specs.Works.{AreFacesOf}

-- lists with none that is being made
abbrev none_made : List (List ℕ) → List (List ℕ) × List ℕ
none_made l = (l, [])

-- the places of a rim are below the number of points
abbrev Below : ℕ → ℕ → Type 0
Below n v = v < n

put_low : (n : ℕ) (before : ℕ → ℕ → Bool) (v : ℕ) (vs : List ℕ) → v < n → All (Below n) vs → All (Below n) (put before v vs)
put_low n before v [] low all = All-cons (Below n) v [] low all
put_low n before v (u ∷ us) low all = by (before v u) (put_low n before v us low (All-tail (Below n) u us all))
  where
    by : (b : Bool) → All (Below n) (put before v us) → All (Below n) (if b then v ∷ u ∷ us else u ∷ put before v us)
    by true rest = All-cons (Below n) v (u ∷ us) low all
    by false rest = All-cons (Below n) u (put before v us) (All-head (Below n) u us all) rest

ordered_low : (n : ℕ) (before : ℕ → ℕ → Bool) (vs : List ℕ) → All (Below n) vs → All (Below n) (ordered before vs)
ordered_low n before [] all = all
ordered_low n before (v ∷ vs) all =
    put_low n before v (ordered before vs) (All-head (Below n) v vs all) (ordered_low n before vs (All-tail (Below n) v vs all))

cuts_low : (points : List (List ℤ)) (a b : ℕ) → All (Below (length points)) (cuts points a b)
cuts_low points a b =
    ordered_low (length points) (is_nearer points a b) (filter (is_inside points a b) (upto (length points)))
    (All-filter (is_inside points a b) (Below (length points)) (upto (length points)) (upto_below (length points)))

rim_low : (points : List (List ℤ)) (t : Triple) → IsBelow (length points) t → All (λ v. v < length points) (rim points t)
rim_low points t low =
    let n = length points in
    All-append (Below n) ((t.0 ∷ cuts points t.0 t.1) ++ (t.1 ∷ cuts points t.1 t.2)) (t.2 ∷ cuts points t.2 t.0)
    (All-append (Below n) (t.0 ∷ cuts points t.0 t.1) (t.1 ∷ cuts points t.1 t.2) (All-cons (Below n) t.0 (cuts points t.0 t.1) low.a (cuts_low points t.0 t.1))
    (All-cons (Below n) t.1 (cuts points t.1 t.2) low.b (cuts_low points t.1 t.2)))
    (All-cons (Below n) t.2 (cuts points t.2 t.0) low.c (cuts_low points t.2 t.0))

-- triangles whose numbers rise, and some of them
abbrev pub Rises : List Face → Type 0
Rises fs = (i j : ℕ) → i < j → j < length fs → (face_at fs i).number < (face_at fs j).number

rises_tail : (f : Face) (fs : List Face) → Rises (f ∷ fs) → Rises fs
rises_tail f fs h i j less low = h (suc i) (suc j) (omega (arith, less)) (omega (arith, low))

rises_head : (f : Face) (fs : List Face) → Rises (f ∷ fs) → All (λ g. f.number < g.number) fs
rises_head f fs h k d low =
    subst (λ g. f.number < g.number) (get_or_default fs k no_face d low) (h 0 (suc k) (omega arith) (omega (arith, low)))

rises_cons : (f : Face) (fs : List Face) → All (λ g. f.number < g.number) fs → Rises fs → Rises (f ∷ fs)
rises_cons f fs above h zero zero less low = absurd (omega (arith, less))
rises_cons f fs above h zero (suc j) less low = above j no_face (omega (arith, low))
rises_cons f fs above h (suc i) zero less low = absurd (omega (arith, less))
rises_cons f fs above h (suc i) (suc j) less low = h i j (omega (arith, less)) (omega (arith, low))

pub rises_filter : (p : Face → Bool) (fs : List Face) → Rises fs → Rises (filter p fs)
rises_filter p [] h = h
rises_filter p (f ∷ fs) h = by (p f) (rises_filter p fs (rises_tail f fs h))
  where
    by : (b : Bool) → Rises (filter p fs) → Rises (cond b (f ∷ filter p fs) (filter p fs))
    by true rest = rises_cons f (filter p fs) (All-filter p (λ g. f.number < g.number) fs (rises_head f fs h)) rest
    by false rest = rest

-- labels by numbers that are the same where labels are
module _ (of : ℕ → ℕ) (label : ℕ → List ℕ) (n : ℕ) (same : (i j : ℕ) → i < n → j < n → (of i ≡ of j) ↔ (label i ≡ label j)) where
  one_test : (i j : ℕ) → i < n → j < n → bytes_eq (label i) (label j) ≡ (of i == of j)
  one_test i j low high =
      same_from_decides (bytes_eq (label i) (label j)) (of i == of j) (bytes_decides (label i) (label j))
      (Decides-like (of i == of j) (λ (e : of i ≡ of j). (same i j low high).0 e) (λ (e : label i ≡ label j). (same i j low high).1 e)
      ((λ e. eqb-true (of i) (of j) e), (λ e. eq-eqb (of i) (of j) e)))

  any_same : (i : ℕ) (js : List ℕ) → i < n → All (Below n) js → list_any (bytes_eq (label i)) (map label js) ≡ list_any (λ k. of i == k) (map of js)
  any_same i [] low all = refl
  any_same i (j ∷ js) low all = λ k. one_test i j low (All-head (Below n) j js all) k || any_same i js low (All-tail (Below n) j js all) k

  -- the first ones of labels are those of their numbers
  abbrev like : ℕ → ℕ → Bool
  like i j = of i == of j

  any_like : (i : ℕ) (js : List ℕ) → list_any (λ k. of i == k) (map of js) ≡ list_any (like i) js
  any_like i [] = refl
  any_like i (j ∷ js) = ap (λ b. (of i == of j) || b) (any_like i js)

  firsts_of : (before js : List ℕ) → firsts_after (λ j k. j == k) (map of before) (map of js) ≡ map of (firsts_after like before js)
  firsts_of before [] = refl
  firsts_of before (j ∷ js) =
      (λ i. cond (any_like j before i) [] (of j ∷ []) ++ firsts_after (λ j k. j == k) (sym (map-append of before (j ∷ [])) i) (map of js))
      ∙ (λ i. cond (list_any (like j) before) [] (of j ∷ []) ++ firsts_of (before ++ j ∷ []) js i)
      ∙ by (list_any (like j) before)
    where
      by : (b : Bool) → cond b [] (of j ∷ []) ++ map of (firsts_after like (before ++ j ∷ []) js) ≡ map of (cond b [] (j ∷ []) ++ firsts_after like (before ++ j ∷ []) js)
      by true = refl
      by false = refl

  firsts_labels : (before js : List ℕ) → All (Below n) before → All (Below n) js →
      firsts_after bytes_eq (map label before) (map label js) ≡ map label (firsts_after like before js)
  firsts_labels before [] was all = refl
  firsts_labels before (j ∷ js) was all =
      (λ i. cond ((any_same j before (All-head (Below n) j js all) was ∙ any_like j before) i) [] (label j ∷ [])
      ++ firsts_after bytes_eq (sym (map-append label before (j ∷ [])) i) (map label js))
      ∙ (λ i. cond (list_any (like j) before) [] (label j ∷ [])
      ++ firsts_labels (before ++ j ∷ []) js (All-append (Below n) before (j ∷ []) was (All-cons (Below n) j [] (All-head (Below n) j js all) (All-nil (Below n))))
      (All-tail (Below n) j js all) i)
      ∙ by (list_any (like j) before)
    where
      by : (b : Bool) → cond b [] (label j ∷ []) ++ map label (firsts_after like (before ++ j ∷ []) js) ≡ map label (cond b [] (j ∷ []) ++ firsts_after like (before ++ j ∷ []) js)
      by true = refl
      by false = refl

  place_same : (i : ℕ) (ks : List ℕ) → i < n → All (Below n) ks → position_or_len (bytes_eq (label i)) (map label ks) ≡ position_or_len (λ k. of i == k) (map of ks)
  place_same i [] low all = refl
  place_same i (k ∷ ks) low all = λ m. cond (not (one_test i k low (All-head (Below n) k ks all) m)) (1 + place_same i ks low (All-tail (Below n) k ks all) m) 0

  pub place_listed : (ns : List ℕ) (t : ℕ) → All (Below n) ns → t < n →
      position_or_len (bytes_eq (label t)) (firsts bytes_eq (map label ns)) ≡ position_or_len (λ k. of t == k) (firsts (λ j k. j == k) (map of ns))
  place_listed ns t all low =
      ap (position_or_len (bytes_eq (label t))) (firsts_labels [] ns (All-nil (Below n)) all)
      ∙ place_same t (firsts_after like [] ns) low (firsts_all (Below n) like [] ns all) ∙ sym (ap (position_or_len (λ k. of t == k)) (firsts_of [] ns))

  same_labels : (xs ys : List ℕ) → All (Below n) xs → All (Below n) ys → map of xs ≡ map of ys → map label xs ≡ map label ys
  same_labels [] [] a b e = refl
  same_labels [] (y ∷ ys) a b e = absurd (omega (arith, ap length e))
  same_labels (x ∷ xs) [] a b e = absurd (omega (arith, ap length e))
  same_labels (x ∷ xs) (y ∷ ys) a b e =
      λ i. (same x y (All-head (Below n) x xs a) (All-head (Below n) y ys b)).0 (ap (λ (l : List ℕ). get_or l 0 0) e) i
      ∷ same_labels xs ys (All-tail (Below n) x xs a) (All-tail (Below n) y ys b) (ap (drop 1) e) i

  pub firsts_listed : (ns some : List ℕ) → All (Below n) ns → All (Below n) some →
      map of some ≡ firsts (λ j k. j == k) (map of ns) → firsts bytes_eq (map label ns) ≡ map label some
  firsts_listed ns some all low e =
      firsts_labels [] ns (All-nil (Below n)) all
      ∙ sym (same_labels some (firsts_after like [] ns) low (firsts_all (Below n) like [] ns all) (e ∙ firsts_of [] ns))

map_map : {X Y Z : Type 0} (g : Y → Z) (f : X → Y) (xs : List X) → map g (map f xs) ≡ map (λ x. g (f x)) xs
map_map g f [] = refl
map_map g f (x ∷ xs) = ap (λ l. g (f x) ∷ l) (map_map g f xs)

filter_few : {X : Type 0} (p : X → Bool) (xs : List X) → length (filter p xs) ≤ length xs
filter_few p [] = omega arith
filter_few p (x ∷ xs) = by (p x) (filter_few p xs)
  where
    by : (b : Bool) → length (filter p xs) ≤ length xs → length (cond b (x ∷ filter p xs) (filter p xs)) ≤ suc (length xs)
    by true h = omega (arith, h)
    by false h = omega (arith, h)

-- the triangles of a plane of a surface
module _ (points : List (List ℤ)) (all : List Face) (u : CutSurface) (is : IsSurface points all u) (k : ℕ) (low : k < u.planes.count) where
  abbrev pub own : List Face
  own = own_at points all k

  abbrev pub numbers : List ℕ
  numbers = faces_in u.planes k

  pub numbers_own : map (face_at all) numbers ≡ own
  numbers_own = is.planes.each k low

  pub numbers_low : All (λ t. t < length all) numbers
  numbers_low = is.planes.below k low

  pub plane_some : Contains (bent points all) (plane_at points all k)
  plane_some =
      firsts_all (Contains (bent points all)) (in_plane points) [] (bent points all) (All-contains_itself (bent points all)) k no_face (omega (arith, low, is.planes.count))

  pub own_rises : Rises own
  own_rises =
      rises_filter (in_plane points (plane_at points all k)) (bent points all) (rises_filter (λ f. not (is_flat points f.corners)) all (λ i j less below. is.order i j less below))

  -- what holds of all triangles holds of them
  pub own_all : (P : Face → Type 0) → All P all → All P own
  own_all P h = All-filter (in_plane points (plane_at points all k)) P (bent points all) (All-filter (λ f. not (is_flat points f.corners)) P all h)

  pub own_rims_low : All (λ rim. All (λ v. v < length points) rim) (map (λ f. f.rim) own)
  own_rims_low =
      All-map (λ rim. All (λ v. v < length points) rim) (λ (f : Face). f.rim) own
      (λ i d inside. subst (All (λ v. v < length points)) (sym (own_all (λ f. f.rim ≡ rim points f.corners) is.rims i d inside))
      (rim_low points (get_or own i d).corners (own_all (λ f. IsBelow (length points) f.corners) is.below i d inside)))

  -- their rims as they are cut
  pub corners_at : (t : ℕ) → t < length all → triple_of (get_or u.over.triples.items t []) ≡ (face_at all t).corners
  corners_at t inside =
      let many : length u.over.triples.items ≡ length all =
      sym (length-map u.over.triples.items triple_of) ∙ ap length is.corners ∙ length-map all (λ (f : Face). f.corners) in
      sym (get_or-map triple_of u.over.triples.items t [] (0, 0, 0) (omega (arith, inside, many))) ∙ ap (λ (l : List Triple). get_or l t (0, 0, 0)) is.corners
      ∙ get_or-map (λ (f : Face). f.corners) all t no_face (0, 0, 0) inside

  pub rims_own : map (λ t. cut_rim u.cuts (triple_of (get_or u.over.triples.items t []))) numbers ≡ map (λ f. f.rim) own
  rims_own =
      map_agree (λ t. cut_rim u.cuts (triple_of (get_or u.over.triples.items t []))) (λ t. (face_at all t).rim) numbers
      (λ i d inside. ap (cut_rim u.cuts) (corners_at (get_or numbers i d) (numbers_low i d inside))
      ∙ All-get_or (λ f. cut_rim u.cuts f.corners ≡ f.rim) all (get_or numbers i d) no_face (numbers_low i d inside) is.cut)
      ∙ sym (map_map (λ (f : Face). f.rim) (face_at all) numbers) ∙ ap (map (λ (f : Face). f.rim)) numbers_own

  pub numbers_triples : All (λ t. t < length u.over.triples.items) numbers
  numbers_triples i d inside =
      omega (arith, numbers_low i d inside, length-map u.over.triples.items triple_of, ap length is.corners, length-map all (λ (f : Face). f.corners))

  -- and their labels by numbers
  abbrev label : ℕ → List ℕ
  label t = (face_at all t).label

  abbrev of : ℕ → ℕ
  of t = get_or u.labels.items t 0

  own_labels : map (λ f. f.label) own ≡ map label numbers
  own_labels = ap (map (λ (f : Face). f.label)) (sym numbers_own) ∙ map_map (λ (f : Face). f.label) (face_at all) numbers

  pub labels_own : (ls : List ℕ) → ls ≡ first_places (picked u.labels.items numbers) → ls ≡ map (label_number own) own
  labels_own ls e =
      e ∙ map_map (λ m. position_or_len (λ j. m == j) (firsts (λ i j. i == j) (picked u.labels.items numbers))) of numbers
      ∙ map_agree (λ t. position_or_len (λ j. of t == j) (firsts (λ i j. i == j) (map of numbers))) (λ t. label_number own (face_at all t)) numbers
      (λ i d inside. sym (ap (λ (l : List (List ℕ)). position_or_len (bytes_eq (label (get_or numbers i d))) (firsts bytes_eq l)) own_labels
      ∙ place_listed of label (length all) is.same numbers (get_or numbers i d) numbers_low (numbers_low i d inside)))
      ∙ sym (map_map (label_number own) (face_at all) numbers) ∙ ap (map (label_number own)) numbers_own

  pub firsts_own : (some : List ℕ) → All (λ t. t < length u.labels.items) some → picked u.labels.items some ≡ firsts (λ i j. i == j) (picked u.labels.items numbers) →
      labels_of own ≡ map label some
  firsts_own some inside e =
      ap (firsts bytes_eq) own_labels ∙ firsts_listed of label (length all) is.same numbers some numbers_low (subst (λ n. All (λ t. t < n) some) is.labelled inside) e

  pub numbers_few : length numbers ≤ 2 ^ 32
  numbers_few =
      omega (
        arith,
        sym (length-map numbers (face_at all)) ∙ ap length numbers_own,
        filter_few (in_plane points (plane_at points all k)) (bent points all),
        filter_few (λ f. not (is_flat points f.corners)) all,
        is.few,
      )

  -- what is gathered of them
  pub faces_made : (f : PlaneFaces) → f.numbers.now ≡ numbers → f.fronts.now ≡ u.planes.fronts.items →
      f.rims ≡ (map (λ t. cut_rim u.cuts (triple_of (get_or u.over.triples.items t []))) f.numbers.now, []) →
      f.labels.of.items ≡ first_places (picked u.labels.items f.numbers.now) →
      picked u.labels.items f.labels.firsts.items ≡ firsts (λ i j. i == j) (picked u.labels.items f.numbers.now) → All (λ t. t < length u.labels.items) f.labels.firsts.items →
      AreFacesOf points all own f
  faces_made f n fronts rims ls first low_firsts =
      let rims_are : f.rims ≡ (map (λ f. f.rim) own, []) =
      rims ∙ ap none_made (ap (map (λ t. cut_rim u.cuts (triple_of (get_or u.over.triples.items t [])))) n ∙ rims_own) in
      record {
        faces = ap (map (face_at all)) n ∙ numbers_own;
        below = subst (All (λ t. t < length all)) (sym n) numbers_low;
        full = ap length fronts ∙ is.planes.full;
        fronts = λ t inside flat. ap (λ (l : List Bool). get_or l t false) fronts ∙ is.planes.fronts t inside flat;
        rims = rims_are;
        places = subst (λ (r : List (List ℕ) × List ℕ). All (λ rim. All (λ v. v < length points) rim) r.0) (sym rims_are) own_rims_low;
        labels = labels_own f.labels.of.items (ls ∙ ap (λ ns. first_places (picked u.labels.items ns)) n);
        firsts = firsts_own f.labels.firsts.items low_firsts (first ∙ ap (λ ns. firsts (λ i j. i == j) (picked u.labels.items ns)) n);
        firsts_below = subst (λ m. All (λ t. t < m) f.labels.firsts.items) is.labelled low_firsts;
      }

-- rims are listed one by one
module _ (F : ℕ → List ℕ) (numbers : List ℕ) where
  pub rims_more : (k : ℕ) (old new : List (List ℕ) × List ℕ) (one : List ℕ) → k < length numbers → old ≡ (map F (take k numbers), []) → new ≡ (old.0 ++ (old.1 ++ one) ∷ [], []) →
      one ≡ F (get_or numbers k 0) → new ≡ (map F (take (k + 1) numbers), [])
  rims_more k old new one low was pushed is =
      pushed ∙ (λ i. ((was i).0 ++ ((was i).1 ++ is i) ∷ [], []))
      ∙ ap none_made (sym (ap (map F) (take_more numbers k 0 low) ∙ map-append F (take k numbers) (get_or numbers k 0 ∷ [])))

  pub rims_done : (k : ℕ) (rims : List (List ℕ) × List ℕ) → length numbers ≤ k → rims ≡ (map F (take k numbers), []) → rims ≡ (map F numbers, [])
  rims_done k rims end is = is ∙ ap (λ (ns : List ℕ). none_made (map F ns)) (take_all k numbers end)
