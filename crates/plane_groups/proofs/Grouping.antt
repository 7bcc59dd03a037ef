-- Triangles gathered by the keys of their planes are gathered by their planes.
use Rattle.std.specs.Prelude.{◌≡◌, ◌⊎◌, ℕ, zero, suc, ◌+◌, ◌<◌, ◌≤◌, ℤ, List, [], ◌∷◌, ◌++◌, true, false, Bool, cond, not, ◌&&◌, ◌||◌, ◌==◌, filter, get_or, length, map, take}
use Rattle.std.specs.Cmp.Lexicographic.{pointwise}
use Rattle.std.specs.List.{All, AllPairs, list_any, position_or_len}
use Rattle.std.specs.Ordering.{int_eq}
use Rattle.std.proofs.Common.{arith, refl, sym, ap, subst, ◌∙◌, inl, inr}
use Rattle.std.proofs.lemmas.Bool.{and_from, and_parts, both_ways, cases_Bool, eq-eqb, false_from_ne_true, ne_eqb, not-true, or_left, or_right}
use Rattle.std.proofs.lemmas.Bool.Decides.{Decides-int_eq, nat_tests, same_from_decides}
use Rattle.std.proofs.lemmas.List.{append-nil, get_or-map, length-map, map-append, take_more}
use Rattle.std.proofs.lemmas.List.Elements.{All-map, filter-append, filter_passes}
use Rattle.std.proofs.lemmas.List.Sums.{passes_at_first, position_or_len_is}
use Rattle.std.proofs.lemmas.Slice.Eq.{slice_eq-Decides}
use Rattle.chain_terms.specs.Sums.{upto}
use Rattle.indexmap.specs.IndexSet.{insert_key}
use Rattle.places_by_key.specs.Buckets.{places_of}
use Rattle.places_by_key.proofs.Upto.{get_or-map-upto}
use Rattle.mesh_terms.specs.Meshes.{Triple, triple_of, triples_of}
use Rattle.sheet_terms.specs.Faces.{Face, in_plane, is_flat, planes}
use Rattle.sheet_terms.specs.Places.{firsts, firsts_after}
use Rattle.edge_cutting.proofs.Closing.{members_at}
use Rattle.edge_cutting.proofs.Counting.{filter_filter}
use Rattle.edge_cutting.proofs.Gathering.{all_filtered}
use Rattle.edge_cutting.proofs.Numbered.{IsLike, any_firsts, firsts_agree, firsts_all, firsts_apart, firsts_few, firsts_push, stands_inserted, stands_other}
use Rattle.edge_cutting.proofs.Pieced.{map_same}
use Rattle.plane_groups.specs.Grouped.{ArePlanes, bent, face_at, faces_in, is_front, no_face}
use Rattle.plane_groups.specs.Keys.{key_at, same_key}
use Rattle.plane_groups.specs.Numbers.{faces_front, keys_of, keys_with, number_among}
use Rattle.plane_groups.specs.declared.plane_key.PlaneKey.{PlaneKey}
use Rattle.plane_groups.specs.declared.planes.Planes.{Planes}
use Rattle.plane_groups.proofs.SameKeys.{in_plane_by_key}

-- keys are alike where they are equal
same_parts : (k l : PlaneKey) → same_key k l ≡ true → (k.normal ≡ l.normal) × (k.level ≡ l.level)
same_parts k l h =
    let both = and_parts (pointwise int_eq k.normal l.normal) (int_eq k.level l.level) h in
    ((slice_eq-Decides Decides-int_eq k.normal l.normal (pointwise int_eq k.normal l.normal) refl).0 both.0, (Decides-int_eq k.level l.level).0 both.1)

parts_same : (k l : PlaneKey) → k.normal ≡ l.normal → k.level ≡ l.level → same_key k l ≡ true
parts_same k l n v =
    and_from (pointwise int_eq k.normal l.normal) (int_eq k.level l.level)
    ((slice_eq-Decides Decides-int_eq k.normal l.normal (pointwise int_eq k.normal l.normal) refl).1 n) ((Decides-int_eq k.level l.level).1 v)

pub keys_like : IsLike same_key
keys_like = record {
  self = λ k. parts_same k k refl refl;
  back = λ k l h. let p = same_parts k l h in parts_same l k (sym p.0) (sym p.1);
  on = λ k l m h i. let p = same_parts k l h in let q = same_parts l m i in parts_same k m (p.0 ∙ q.0) (p.1 ∙ q.1);
}

-- the first of each kind, by what a function gives of them
after_map : {X Y : Type 0} (like : Y → Y → Bool) (h : X → Y) (before xs : List X) →
    map h (firsts_after (λ x y. like (h x) (h y)) before xs) ≡ firsts_after like (map h before) (map h xs)
after_map like h before [] = refl
after_map like h before (x ∷ xs) =
    let rest = firsts_after (λ y z. like (h y) (h z)) (before ++ x ∷ []) xs in
    by (list_any (λ y. like (h x) (h y)) before) rest ∙ ap (λ b. cond b [] (h x ∷ []) ++ map h rest) (any_map before)
    ∙ ap (λ l. cond (list_any (like (h x)) (map h before)) [] (h x ∷ []) ++ l)
    (after_map like h (before ++ x ∷ []) xs ∙ ap (λ l. firsts_after like l (map h xs)) (map-append h before (x ∷ [])))
  where
    by : (b : Bool) (rest : List _) → map h (cond b [] (x ∷ []) ++ rest) ≡ cond b [] (h x ∷ []) ++ map h rest
    by true rest = refl
    by false rest = refl

    any_map : (ys : List _) → list_any (λ y. like (h x) (h y)) ys ≡ list_any (like (h x)) (map h ys)
    any_map [] = refl
    any_map (y ∷ ys) = ap (λ b. like (h x) (h y) || b) (any_map ys)

-- a filter of what a function gives
filter_map : {X Y : Type 0} (q : Y → Bool) (h : X → Y) (xs : List X) → map h (filter (λ x. q (h x)) xs) ≡ filter q (map h xs)
filter_map q h [] = refl
filter_map q h (x ∷ xs) = by (q (h x)) ∙ ap (λ l. cond (q (h x)) (h x ∷ l) l) (filter_map q h xs)
  where
    by : (b : Bool) → map h (cond b (x ∷ filter (λ y. q (h y)) xs) (filter (λ y. q (h y)) xs)) ≡ cond b (h x ∷ map h (filter (λ y. q (h y)) xs)) (map h (filter (λ y. q (h y)) xs))
    by true = refl
    by false = refl

-- of members that are unlike, the one that something is like
stands_at : {X : Type 0} (like : X → X → Bool) (is : IsLike like) (ks : List X) (d : X) → AllPairs (λ x y. like y x ≡ false) ks → (x : X) (k : ℕ) → k < length ks →
    (position_or_len (like x) ks == k) ≡ like x (get_or ks k d)
stands_at like is ks d apart x k low = by (cases_Bool (like x (get_or ks k d)))
  where
    by : (like x (get_or ks k d) ≡ true) ⊎ (like x (get_or ks k d) ≡ false) → (position_or_len (like x) ks == k) ≡ like x (get_or ks k d)
    by (inl y) =
        let before : (j : ℕ) → j < k → like x (get_or ks j d) ≡ false = λ j l. false_from_ne_true (like x (get_or ks j d)) (λ h.
        both_ways (like (get_or ks k d) (get_or ks j d)) (apart j k d l low) (is.on (get_or ks k d) x (get_or ks j d) (is.back x (get_or ks k d) y) h)) in
        eq-eqb (position_or_len (like x) ks) k (position_or_len_is (like x) ks k d (omega (arith, low)) before (λ l. y)) ∙ sym y
    by (inr n) =
        ne_eqb (position_or_len (like x) ks) k (λ e.
        both_ways (like x (get_or ks k d)) n (subst (λ j. like x (get_or ks j d) ≡ true) e (passes_at_first (like x) ks d (omega (arith, e, low))))) ∙ sym n

-- one more triangle
bent_push : (points : List (List ℤ)) (ts : List Triple) (t : Triple) →
    map (key_at points) (filter (λ u. not (is_flat points u)) (ts ++ t ∷ [])) ≡
    map (key_at points) (filter (λ u. not (is_flat points u)) ts) ++ cond (is_flat points t) [] (key_at points t ∷ [])
bent_push points ts t =
    let q : Triple → Bool = λ u. not (is_flat points u) in
    ap (map (key_at points)) (filter-append q ts (t ∷ [])) ∙ map-append (key_at points) (filter q ts) (filter q (t ∷ []))
    ∙ ap (λ l. map (key_at points) (filter q ts) ++ l) (by (is_flat points t))
  where
    by : (b : Bool) → map (key_at points) (cond (not b) (t ∷ []) []) ≡ cond b [] (key_at points t ∷ [])
    by true = refl
    by false = refl

pub keys_push : (points : List (List ℤ)) (ts : List Triple) (t : Triple) → keys_of points (ts ++ t ∷ []) ≡ keys_with points (keys_of points ts) t
keys_push points ts t = ap (firsts same_key) (bent_push points ts t) ∙ by (is_flat points t)
  where
    by : (b : Bool) → firsts same_key (map (key_at points) (filter (λ u. not (is_flat points u)) ts) ++ cond b [] (key_at points t ∷ [])) ≡
        cond b (keys_of points ts) (insert_key same_key (keys_of points ts) (key_at points t))
    by true = ap (firsts same_key) (append-nil (map (key_at points) (filter (λ u. not (is_flat points u)) ts)))
    by false = firsts_push same_key keys_like (map (key_at points) (filter (λ u. not (is_flat points u)) ts)) (key_at points t)

-- the key of a triangle that was is there
key_there : (points : List (List ℤ)) (ts : List Triple) (k : ℕ) (d : Triple) → k < length ts → is_flat points (get_or ts k d) ≡ false →
    list_any (same_key (key_at points (get_or ts k d))) (keys_of points ts) ≡ true
key_there points ts k d low bent =
    any_firsts same_key keys_like (key_at points (get_or ts k d)) (map (key_at points) (filter (λ u. not (is_flat points u)) ts)) ∙ there ts k low bent
  where
    there : (us : List Triple) (j : ℕ) → j < length us → is_flat points (get_or us j d) ≡ false →
        list_any (same_key (key_at points (get_or us j d))) (map (key_at points) (filter (λ u. not (is_flat points u)) us)) ≡ true
    there [] j l h = absurd (omega (arith, l))
    there (u ∷ us) zero l h =
        ap (λ b. list_any (same_key (key_at points u))
        (map (key_at points) (cond (not b) (u ∷ filter (λ v. not (is_flat points v)) us) (filter (λ v. not (is_flat points v)) us)))) h
        ∙ or_left (same_key (key_at points u) (key_at points u)) _ (keys_like.self (key_at points u))
    there (u ∷ us) (suc j) l h = later (not (is_flat points u)) (there us j (omega (arith, l)) h)
      where
        later : (b : Bool) → list_any (same_key (key_at points (get_or us j d))) (map (key_at points) (filter (λ v. not (is_flat points v)) us)) ≡ true →
            list_any (same_key (key_at points (get_or us j d)))
            (map (key_at points) (cond b (u ∷ filter (λ v. not (is_flat points v)) us) (filter (λ v. not (is_flat points v)) us))) ≡ true
        later true e = or_right (same_key (key_at points (get_or us j d)) (key_at points u)) _ e
        later false e = e

-- the numbers of those that were stay
pub numbers_push : (points : List (List ℤ)) (ts : List Triple) (t : Triple) →
    map (number_among points (keys_of points (ts ++ t ∷ []))) (ts ++ t ∷ []) ≡ map (number_among points (keys_of points ts)) ts ++ number_among points (keys_of points ts) t ∷ []
numbers_push points ts t =
    let ks = keys_of points ts in
    let new = keys_of points (ts ++ t ∷ []) in
    map-append (number_among points new) ts (t ∷ [])
    ∙ ap (λ l. l ++ number_among points new t ∷ [])
    (map_same (number_among points new) (number_among points ks) ts (λ k d low. stays (get_or ts k d) (key_there points ts k d low)))
    ∙ ap (λ n. map (number_among points ks) ts ++ n ∷ []) last
  where
    stays : (u : Triple) → (is_flat points u ≡ false → list_any (same_key (key_at points u)) (keys_of points ts) ≡ true) →
        number_among points (keys_of points (ts ++ t ∷ [])) u ≡ number_among points (keys_of points ts) u
    stays u there = ap (λ ks. number_among points ks u) (keys_push points ts t) ∙ by (cases_Bool (is_flat points u)) (is_flat points t)
      where
        by : (is_flat points u ≡ true) ⊎ (is_flat points u ≡ false) → (b : Bool) →
            number_among points (cond b (keys_of points ts) (insert_key same_key (keys_of points ts) (key_at points t))) u ≡ number_among points (keys_of points ts) u
        by h true = refl
        by (inl y) false = ap (λ c. cond c 0 (position_or_len (same_key (key_at points u)) (insert_key same_key (keys_of points ts) (key_at points t)) + 1)) y
            ∙ sym (ap (λ c. cond c 0 (position_or_len (same_key (key_at points u)) (keys_of points ts) + 1)) y)
        by (inr n) false = ap (λ m. cond (is_flat points u) 0 (m + 1)) (stands_other same_key keys_like (key_at points u) (key_at points t) (keys_of points ts) (there n))

    last : number_among points (keys_of points (ts ++ t ∷ [])) t ≡ number_among points (keys_of points ts) t
    last = ap (λ ks. number_among points ks t) (keys_push points ts t) ∙ by (is_flat points t)
      where
        by : (b : Bool) → cond b 0 (position_or_len (same_key (key_at points t)) (cond b (keys_of points ts) (insert_key same_key (keys_of points ts) (key_at points t))) + 1) ≡
            cond b 0 (position_or_len (same_key (key_at points t)) (keys_of points ts) + 1)
        by true = refl
        by false = ap (λ m. m + 1) (stands_inserted same_key keys_like (key_at points t) (keys_of points ts))

module _ (points : List (List ℤ)) (all : List Face) where
  abbrev key : Face → PlaneKey
  key f = key_at points f.corners

  abbrev own : List Face
  own = bent points all

  abbrev first_faces : List Face
  first_faces = planes points own

  bent_own : All (λ f. is_flat points f.corners ≡ false) own
  bent_own = λ k d low. not-true (is_flat points (get_or own k d).corners) (filter_passes (λ f. not (is_flat points f.corners)) all k d low)

  bent_first : All (λ f. is_flat points f.corners ≡ false) first_faces
  bent_first = firsts_all (λ f. is_flat points f.corners ≡ false) (in_plane points) [] own bent_own

  -- the keys are those of the first triangles of the planes
  pub keys_are : (ts : List Triple) → map (λ f. f.corners) all ≡ ts → map key first_faces ≡ keys_of points ts
  keys_are ts e =
      ap (map key) (firsts_agree (λ f. is_flat points f.corners ≡ false) (in_plane points) (λ f g. same_key (key f) (key g)) (λ f g. in_plane_by_key points f g) own bent_own)
      ∙ after_map same_key key [] own
      ∙ ap (firsts same_key) (map_map own
      ∙ ap (map (key_at points)) (filter_map (λ t. not (is_flat points t)) (λ (f : Face). f.corners) all ∙ ap (filter (λ t. not (is_flat points t))) e))
    where
      map_map : (fs : List Face) → map key fs ≡ map (key_at points) (map (λ f. f.corners) fs)
      map_map [] = refl
      map_map (f ∷ fs) = ap (λ l. key f ∷ l) (map_map fs)

  module _ (ts : List Triple) (e : map (λ f. f.corners) all ≡ ts) where
    abbrev ks : List PlaneKey
    ks = keys_of points ts

    pub count_is : length ks ≡ length first_faces
    count_is = ap length (sym (keys_are ts e)) ∙ length-map first_faces key

    -- a triangle has the number of a plane where it lies in it
    numbered_in : (k : ℕ) → k < length ks → (f : Face) →
        (number_among points ks f.corners == k + 1) ≡ (not (is_flat points f.corners) && in_plane points (face_at first_faces k) f)
    numbered_in k low f = by (cases_Bool (is_flat points f.corners))
      where
        rep : Face
        rep = face_at first_faces k

        by : (is_flat points f.corners ≡ true) ⊎ (is_flat points f.corners ≡ false) →
            (number_among points ks f.corners == k + 1) ≡ (not (is_flat points f.corners) && in_plane points (face_at first_faces k) f)
        by (inl y) =
            ap (λ b. cond b 0 (position_or_len (same_key (key f)) ks + 1) == k + 1) y ∙ ne_eqb 0 (k + 1) (λ h. omega (arith, h))
            ∙ sym (ap (λ b. not b && in_plane points (face_at first_faces k) f) y)
        by (inr n) =
            let short : k < length first_faces = omega (arith, low, count_is) in
            let at : get_or ks k (key no_face) ≡ key (face_at first_faces k) =
            ap (λ l. get_or l k (key no_face)) (sym (keys_are ts e)) ∙ get_or-map key first_faces k no_face (key no_face) short in
            let apart : AllPairs (λ x y. same_key y x ≡ false) ks = firsts_apart same_key (map (key_at points) (filter (λ t. not (is_flat points t)) ts)) in
            ap (λ b. cond b 0 (position_or_len (same_key (key f)) ks + 1) == k + 1) n ∙ one_more (position_or_len (same_key (key f)) ks) k
            ∙ stands_at same_key keys_like ks (key no_face) apart (key f) k low ∙ ap (same_key (key f)) at ∙ key_turned (key f) (key (face_at first_faces k))
            ∙ sym (in_plane_by_key points (face_at first_faces k) f (bent_first k no_face short) n)
            ∙ sym (ap (λ b. not b && in_plane points (face_at first_faces k) f) n)
          where
            one_more : (m k : ℕ) → (m + 1 == k + 1) ≡ (m == k)
            one_more m k = grind (arith, nat_tests)

            key_turned : (k l : PlaneKey) → same_key k l ≡ same_key l k
            key_turned k l = same_from_decides {P = same_key l k ≡ true} (same_key k l) (same_key l k) (keys_like.back k l, keys_like.back l k) ((λ h. h), (λ h. h))

    -- the triangles of a plane
    pub faces_are : (of : List ℕ) → of ≡ map (number_among points ks) ts → (k : ℕ) → k < length ks →
        map (face_at all) (places_of of (k + 1)) ≡ filter (in_plane points (face_at first_faces k)) own
    faces_are of eo k low =
        let numbers : of ≡ map (λ f. number_among points ks f.corners) all = eo ∙ ap (map (number_among points ks)) (sym e) ∙ map_corners all in
        let long : length of ≡ length all = ap length numbers ∙ length-map all (λ f. number_among points ks f.corners) in
        ap (λ n. map (face_at all) (filter (λ i. get_or of i 0 == k + 1) (upto n))) long
        ∙ members_at (λ f. not (is_flat points f.corners) && in_plane points (face_at first_faces k) f) (λ i. get_or of i 0 == k + 1) no_face [] all
        (λ i l.
        ap (λ v. get_or v i 0 == k + 1) numbers ∙ ap (λ v. v == k + 1) (get_or-map (λ f. number_among points ks f.corners) all i no_face 0 l)
        ∙ numbered_in k low (face_at all i))
        ∙ sym (filter_filter (in_plane points (face_at first_faces k)) (λ f. not (is_flat points f.corners)) all)
      where
        map_corners : (fs : List Face) → map (number_among points ks) (map (λ f. f.corners) fs) ≡ map (λ f. number_among points ks f.corners) fs
        map_corners [] = refl
        map_corners (f ∷ fs) = ap (λ l. number_among points ks f.corners ∷ l) (map_corners fs)

  -- so the planes are those of the definition
  pub planes_are : (ts : List Triple) (p : Planes) (of : List ℕ) → map (λ f. f.corners) all ≡ ts → p.count ≡ length (keys_of points ts) →
      of ≡ map (number_among points (keys_of points ts)) ts → p.fronts.items ≡ map (faces_front points) ts → p.faces ≡ map (places_of of) (upto (p.count + 1)) →
      ArePlanes points all p
  planes_are ts p of e count eo fronts faces =
      let long : length ts ≡ length all = ap length (sym e) ∙ length-map all (λ (f : Face). f.corners) in
      let part : (k : ℕ) → k < p.count → faces_in p k ≡ places_of of (k + 1) = λ k low.
      ap (λ l. get_or l (k + 1) []) faces ∙ get_or-map-upto (places_of of) (p.count + 1) (k + 1) [] (omega (arith, low)) in
      let corner : (t : ℕ) → t < length all → get_or ts t (0, 0, 0) ≡ (face_at all t).corners = λ t low.
      ap (λ l. get_or l t (0, 0, 0)) (sym e) ∙ get_or-map (λ (f : Face). f.corners) all t no_face (0, 0, 0) low in
      record {
        count = count ∙ count_is ts e;
        each = λ k low. ap (map (face_at all)) (part k low) ∙ faces_are ts e of eo k (omega (arith, low, count));
        below = λ k low.
            subst (λ l. All (λ t. t < length all) l) (sym (part k low))
            (all_filtered (λ t. t < length all) (λ i. get_or of i 0 == k + 1) (length of)
            (λ v l h. omega (arith, l, long, ap length eo, length-map ts (number_among points (keys_of points ts)))));
        full = ap length fronts ∙ length-map ts (faces_front points) ∙ long;
        fronts = λ t low bent_t.
            ap (λ l. get_or l t false) fronts ∙ get_or-map (faces_front points) ts t (0, 0, 0) false (omega (arith, low, long)) ∙ ap (faces_front points) (corner t low)
            ∙ ap (λ b. cond b false (is_front points (face_at all t))) bent_t;
      }

-- there are no more keys than triangles
pub keys_few : (points : List (List ℤ)) (ts : List Triple) → length (keys_of points ts) ≤ length ts
keys_few points ts =
    let some = filter (λ t. not (is_flat points t)) ts in
    omega (arith, firsts_few same_key [] (map (key_at points) some), length-map some (key_at points), filter_few ts)
  where
    filter_few : (us : List Triple) → length (filter (λ t. not (is_flat points t)) us) ≤ length us
    filter_few [] = omega arith
    filter_few (u ∷ us) = by (not (is_flat points u)) (filter_few us)
      where
        by : (b : Bool) → length (filter (λ t. not (is_flat points t)) us) ≤ length us →
            length (cond b (u ∷ filter (λ t. not (is_flat points t)) us) (filter (λ t. not (is_flat points t)) us)) ≤ suc (length us)
        by true h = omega (arith, h)
        by false h = omega (arith, h)

-- what passes stands before the end
pub any_stands : {X : Type 0} (p : X → Bool) (xs : List X) → list_any p xs ≡ true → position_or_len p xs < length xs
any_stands p [] h = absurd cc
any_stands p (x ∷ xs) h = by (cases_Bool (p x)) (any_stands p xs)
  where
    by : (p x ≡ true) ⊎ (p x ≡ false) → (list_any p xs ≡ true → position_or_len p xs < length xs) → cond (not (p x)) (1 + position_or_len p xs) 0 < suc (length xs)
    by (inl y) go = subst (λ b. cond (not b) (1 + position_or_len p xs) 0 < suc (length xs)) (sym y) (omega arith)
    by (inr n) go =
        let rest = go (sym (ap (λ b. b || list_any p xs) n) ∙ h) in
        subst (λ b. cond (not b) (1 + position_or_len p xs) 0 < suc (length xs)) (sym n) (omega (arith, rest))

-- the numbers are those of the planes, or 0
pub numbers_below : (points : List (List ℤ)) (ts : List Triple) (of : List ℕ) → of ≡ map (number_among points (keys_of points ts)) ts →
    All (λ v. v < length (keys_of points ts) + 1) of
numbers_below points ts of e =
    subst (λ l. All (λ v. v < length (keys_of points ts) + 1) l) (sym e)
    (All-map (λ v. v < length (keys_of points ts) + 1) (number_among points (keys_of points ts)) ts
    (λ k d low. by (get_or ts k d) (key_there points ts k d low) (cases_Bool (is_flat points (get_or ts k d)))))
  where
    by : (t : Triple) → (is_flat points t ≡ false → list_any (same_key (key_at points t)) (keys_of points ts) ≡ true) → (is_flat points t ≡ true) ⊎ (is_flat points t ≡ false) →
        number_among points (keys_of points ts) t < length (keys_of points ts) + 1
    by t there (inl y) = subst (λ b. cond b 0 (position_or_len (same_key (key_at points t)) (keys_of points ts) + 1) < length (keys_of points ts) + 1) (sym y) (omega arith)
    by t there (inr n) =
        let stands = any_stands (same_key (key_at points t)) (keys_of points ts) (there n) in
        subst (λ b. cond b 0 (position_or_len (same_key (key_at points t)) (keys_of points ts) + 1) < length (keys_of points ts) + 1) (sym n) (omega (arith, stands))

-- triangles that are read one by one
pub triples_more : (ts : List (List ℕ)) (i : ℕ) (t : List ℕ) → i < length ts → t ≡ get_or ts i t → triples_of (take i ts) ++ triple_of t ∷ [] ≡ triples_of (take (i + 1) ts)
triples_more ts i t low is = sym (ap triples_of (take_more ts i t low ∙ ap (λ x. take i ts ++ x ∷ []) (sym is)) ∙ map-append triple_of (take i ts) (t ∷ []))
