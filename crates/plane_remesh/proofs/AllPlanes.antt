-- What stands at each triangle once all planes are in a plan.
use Rattle.std.proofs.Common.{◌≡◌, ◌∙◌, ◌<◌, ◌≤◌, ◌+◌, ◌++◌, ◌==◌, ℕ, ℤ, Bool, List, [], ◌∷◌, true, false, ap, arith, cond, filter, get_or, inl, inr, length, map, refl, subst, suc, sym, zero}
use Rattle.std.specs.Prelude.{◌≢◌, ◌⊎◌, ◌&&◌, ◌||◌, count_by, nat_le, nat_lt, not}
use Rattle.std.specs.List.{All, Contains, list_any, position_or_len}
use Rattle.std.proofs.lemmas.Bool.{and_from, and_parts, both_ways, cases_Bool, eq-eqb, eqb-true, leb-true, lt-ltb, not-true, not_from_false, or_cases}
use Rattle.std.proofs.lemmas.List.{length-append}
use Rattle.std.proofs.lemmas.List.Elements.{All-contains, All-get_or}
use Rattle.chain_terms.specs.Sums.{up_from, upto}
use Rattle.chain_laws.specs.Counts.{count_by-cons, one_if-false}
use Rattle.edge_cutting.proofs.Counting.{filter_filter}
use Rattle.mesh_terms.specs.Meshes.{HasThree, Triple}
use Rattle.plan_laws.specs.Alone.{IsAlone}
use Rattle.plan_laws.specs.Ordered.{is_first, side_at}
use Rattle.plan_laws.proofs.Ordered.{firsts_by_place}
use Rattle.plane_groups.specs.Grouped.{bent, face_at, is_front, no_face}
use Rattle.plane_groups.proofs.Views.{side_by_front}
use Rattle.sheet_laws.proofs.Coplanar.{plane_self}
use Rattle.sheet_laws.proofs.OncePlanes.{in_one}
use Rattle.sheet_terms.specs.Crossings.{coplanar}
use Rattle.sheet_terms.specs.Cuts.{cuts, rim}
use Rattle.sheet_terms.specs.Faces.{Face, faces_as, in_plane, is_flat, is_left, planes, seen}
use Rattle.sheet_terms.specs.Places.{has_three}
use Rattle.sheet_terms.specs.Regions.{side_of}
use Rattle.sheet_terms.specs.Twins.{are_same}
use Rattle.plane_remesh.specs.Plans.{sides_of}
use Rattle.plane_remesh.specs.PlansTo.{is_alone, plane_of, planes_of, stands_alone, has_regions}
use Rattle.plane_remesh.proofs.Coplanar.{IsBent, bent_all}

-- a member that passes
pub record IsAt {X : Type 0} (p : X → Bool) (xs : List X) (d : X) : Type 0 where
  pub place : ℕ
  pub inside : place < length xs
  pub passes : p (get_or xs place d) ≡ true

pub found_in : {X : Type 0} (p : X → Bool) (xs : List X) (d : X) → list_any p xs ≡ true → IsAt p xs d
found_in p [] d h = absurd (both_ways false refl h)
found_in p (x ∷ xs) d h = elim (or_cases (p x) (list_any p xs) h) as (λ _. IsAt p (x ∷ xs) d) [
  | inl here ↦ record { place = 0; inside = omega arith; passes = here }
  | inr later ↦ (let r = found_in p xs d later in record { place = suc r.place; inside = (let low = r.inside in omega (arith, low)); passes = r.passes })
]

-- and a number
pub record IsNumber (p : ℕ → Bool) (a n : ℕ) : Type 0 where
  pub number : ℕ
  pub from : a ≤ number
  pub below : number < a + n
  pub passes : p number ≡ true

found_from : (p : ℕ → Bool) (a n : ℕ) → list_any p (up_from a n) ≡ true → IsNumber p a n
found_from p a zero h = absurd (both_ways false refl h)
found_from p a (suc n) h = elim (or_cases (p a) (list_any p (up_from (suc a) n)) h) as (λ _. IsNumber p a (suc n)) [
  | inl here ↦ record { number = a; from = omega arith; below = omega arith; passes = here }
  | inr later ↦ (
      let r = found_from p (suc a) n later in
      let from = r.from in
      let below = r.below in
      record { number = r.number; from = omega (arith, from); below = omega (arith, below); passes = r.passes }
      )
]

pub found_number : (p : ℕ → Bool) (n : ℕ) → list_any p (upto n) ≡ true → IsNumber p 0 n
found_number p n h = found_from p 0 n h

-- a number that passes is found
any_from : (p : ℕ → Bool) (a n k : ℕ) → a ≤ k → k < a + n → p k ≡ true → list_any p (up_from a n) ≡ true
any_from p a zero k low high h = absurd (omega (arith, low, high))
any_from p a (suc n) k low high h = by (any_from p (suc a) n k) (a == k) refl
  where
    or_yes : (b : Bool) → (b || true) ≡ true
    or_yes true = refl
    or_yes false = refl

    by : (suc a ≤ k → k < suc a + n → p k ≡ true → list_any p (up_from (suc a) n) ≡ true) → (b : Bool) → (a == k) ≡ b → (p a || list_any p (up_from (suc a) n)) ≡ true
    by go true e = ap (λ b. b || list_any p (up_from (suc a) n)) (ap p (eqb-true a k e) ∙ h)
    by go false e =
        let apart : a ≢ k = λ same. both_ways (a == k) e (eq-eqb a k same) in
        ap (λ b. p a || b) (go (omega (arith, low, apart)) (omega (arith, high)) h) ∙ or_yes (p a)

pub any_number : (p : ℕ → Bool) (n k : ℕ) → k < n → p k ≡ true → list_any p (upto n) ≡ true
any_number p n k low h = any_from p 0 n k (omega arith) (omega (arith, low)) h

-- members that pass are left, and two of them are two
pub kept_in : {X : Type 0} (p : X → Bool) (xs : List X) (t : ℕ) (d : X) → t < length xs → p (get_or xs t d) ≡ true → Contains (filter p xs) (get_or xs t d)
kept_in p [] t d low h = absurd (omega (arith, low))
kept_in p (x ∷ xs) zero d low h = (0, (let some : 0 < length (filter p (x ∷ xs)) = first h in some), ap (λ b. get_or (cond b (x ∷ filter p xs) (filter p xs)) 0 x) h)
  where
    first : p x ≡ true → 0 < length (filter p (x ∷ xs))
    first h = subst (λ b. 0 < length (cond b (x ∷ filter p xs) (filter p xs))) (sym h) (omega arith)
kept_in p (x ∷ xs) (suc t) d low h = by (p x) (kept_in p xs t d (omega (arith, low)) h)
  where
    by : (b : Bool) → Contains (filter p xs) (get_or xs t d) → Contains (cond b (x ∷ filter p xs) (filter p xs)) (get_or xs t d)
    by true c = (suc c.0, (let low = c.1 in omega (arith, low)), c.2)
    by false c = c

pub two_pass : {X : Type 0} (p : X → Bool) (xs : List X) (u t : ℕ) (d : X) → u < t → t < length xs → p (get_or xs u d) ≡ true → p (get_or xs t d) ≡ true → 2 ≤ length (filter p xs)
two_pass p [] u t d less low h k = absurd (omega (arith, low))
two_pass p (x ∷ xs) u zero d less low h k = absurd (omega (arith, less))
two_pass p (x ∷ xs) zero (suc t) d less low h k =
    let c = kept_in p xs t d (omega (arith, low)) k in
    let some = c.1 in subst (λ b. 2 ≤ length (cond b (x ∷ filter p xs) (filter p xs))) (sym h) (omega (arith, some))
two_pass p (x ∷ xs) (suc u) (suc t) d less low h k = by (p x) (two_pass p xs u t d (omega (arith, less)) (omega (arith, low)) h k)
  where
    by : (b : Bool) → 2 ≤ length (filter p xs) → 2 ≤ length (cond b (x ∷ filter p xs) (filter p xs))
    by true many = omega (arith, many)
    by false many = many

-- a list of one member
pub one_member : {X : Type 0} (xs : List X) (x : X) → length xs ≡ 1 → Contains xs x → xs ≡ x ∷ []
one_member [] x one has = absurd (omega (arith, one))
one_member (y ∷ []) x one has = by has.0 has.1 has.2
  where
    by : (k : ℕ) → k < 1 → get_or (y ∷ []) k x ≡ x → y ∷ [] ≡ x ∷ []
    by zero low e = ap (λ z. z ∷ []) e
    by (suc k) low e = absurd (omega (arith, low))
one_member (y ∷ z ∷ ys) x one has = absurd (omega (arith, one))

-- what one passes stands within the list
placed_once : {X : Type 0} (p : X → Bool) (xs : List X) → count_by p xs ≡ 1 → position_or_len p xs < length xs
placed_once p [] one = absurd (omega (arith, one))
placed_once p (x ∷ xs) one = by (placed_once p xs) (cases_Bool (p x))
  where
    by : (count_by p xs ≡ 1 → position_or_len p xs < length xs) → (p x ≡ true) ⊎ (p x ≡ false) → cond (not (p x)) (1 + position_or_len p xs) 0 < suc (length xs)
    by go (inl y) = subst (λ b. cond (not b) (1 + position_or_len p xs) 0 < suc (length xs)) (sym y) (omega arith)
    by go (inr n) =
        let rest = go (omega (arith, one, count_by-cons p x xs, one_if-false (p x) n)) in
        subst (λ b. cond (not b) (1 + position_or_len p xs) 0 < suc (length xs)) (sym n) (omega (arith, rest))

-- a rim of three places
uncut : (points : List (List ℤ)) (t : Triple) → length (rim points t) ≤ 3 → rim points t ≡ t.0 ∷ t.1 ∷ t.2 ∷ []
uncut points t few = by (cuts points t.0 t.1) (cuts points t.1 t.2) (cuts points t.2 t.0) few
  where
    by : (xs ys zs : List ℕ) → length ((t.0 ∷ xs) ++ (t.1 ∷ ys) ++ (t.2 ∷ zs)) ≤ 3 → (t.0 ∷ xs) ++ (t.1 ∷ ys) ++ (t.2 ∷ zs) ≡ t.0 ∷ t.1 ∷ t.2 ∷ []
    by [] [] [] few = refl
    by [] [] (z ∷ zs) few = absurd (omega (arith, few))
    by [] (y ∷ ys) zs few = absurd (omega (arith, few, length-append ys (t.2 ∷ zs)))
    by (x ∷ xs) ys zs few =
        let e : length ((xs ++ (t.1 ∷ ys)) ++ (t.2 ∷ zs)) ≡ length (xs ++ (t.1 ∷ ys)) + suc (length zs) = length-append (xs ++ (t.1 ∷ ys)) (t.2 ∷ zs) in
        let f : length (xs ++ (t.1 ∷ ys)) ≡ length xs + suc (length ys) = length-append xs (t.1 ∷ ys) in
        let small : suc (suc (length ((xs ++ (t.1 ∷ ys)) ++ (t.2 ∷ zs)))) ≤ 3 = few in absurd (omega (arith, small, e, f))

-- three places
pub apart_places : (t : Triple) → has_three t ≡ true → HasThree t
apart_places t h =
    let a = not (t.0 == t.1) in
    let b = not (t.1 == t.2) in
    let c = not (t.2 == t.0) in
    let first = and_parts (a && b) c h in
    let second = and_parts a b first.0 in
    record { ab = differ t.0 t.1 second.0; bc = differ t.1 t.2 second.1; ca = differ t.2 t.0 first.1 }
  where
    differ : (x y : ℕ) → not (x == y) ≡ true → x ≢ y
    differ x y h e = both_ways (x == y) (not-true (x == y) h) (eq-eqb x y e)

module _ (points : List (List ℤ)) (all : List Face) (rims : All (λ f. f.rim ≡ rim points f.corners) all) (three : All (λ f. has_three f.corners ≡ true) all) where
  abbrev fs : List Face
  fs = bent points all

  -- triangle t is not flat
  pub first_bent : (t : ℕ) → is_first points all t ≡ true → IsBent points (face_at all t)
  first_bent t h = not-true (is_flat points (face_at all t).corners) (and_parts (not (is_flat points (face_at all t).corners)) _ h).0

  pub bent_in : (t : ℕ) → t < length all → IsBent points (face_at all t) → Contains fs (face_at all t)
  bent_in t low bent_t = kept_in (λ f. not (is_flat points f.corners)) all t no_face low (not_from_false (is_flat points (face_at all t).corners) bent_t)

  -- so it lies in one of the planes
  pub once : (t : ℕ) → t < length all → IsBent points (face_at all t) → count_by (λ s. in_plane points s (face_at all t)) (planes points fs) ≡ 1
  once t low bent_t =
      All-contains (λ f. count_by (λ s. in_plane points s f) (planes points fs) ≡ 1) fs (face_at all t) (in_one points fs (bent_all points all)) (bent_in t low bent_t)

  pub in_planes : (t : ℕ) → t < length all → IsBent points (face_at all t) → nat_lt (plane_of points all t) (length (planes_of points all)) ≡ true
  in_planes t low bent_t = lt-ltb (plane_of points all t) (length (planes_of points all))
      (placed_once (λ s. in_plane points s (face_at all t)) (planes points fs) (once t low bent_t))

  -- one that is alone in its plane
  pub one_there : (f : Face) → is_alone points all f ≡ true → length (coplanar points fs f) ≡ 1
  one_there f h = eqb-true (length (coplanar points fs f)) 1 (and_parts (length (coplanar points fs f) == 1) (nat_le (length f.rim) 3) h).0

  pub alone_at : (t : ℕ) → t < length all → IsBent points (face_at all t) → is_alone points all (face_at all t) ≡ true → IsAlone points fs (face_at all t)
  alone_at t low bent_t h =
      let f = face_at all t in
      let has : Contains (coplanar points fs f) f =
      All-contains (λ g. in_plane points f g ≡ true → Contains (coplanar points fs f) g) fs f
      (λ k d inside. kept_in (in_plane points f) fs k d inside) (bent_in t low bent_t) (plane_self points f) in
      let same : f.rim ≡ rim points f.corners = All-get_or (λ g. g.rim ≡ rim points g.corners) all t no_face low rims in
      let few : length f.rim ≤ 3 = leb-true (length f.rim) 3 (and_parts (length (coplanar points fs f) == 1) (nat_le (length f.rim) 3) h).1 in
      record {
        own = one_member (coplanar points fs f) f (one_there f h) has;
        rim = same ∙ uncut points f.corners (subst (λ r. length r ≤ 3) same few);
        three = apart_places f.corners (All-get_or (λ g. has_three g.corners ≡ true) all t no_face low three);
        left = (and_parts (in_plane points f f) (is_left (seen points f) f.corners)
            (side_by_front points f f bent_t bent_t (plane_self points f) ∙ same_way (is_front points f))).1;
      }
    where
      same_way : (b : Bool) → are_same b b ≡ true
      same_way true = refl
      same_way false = refl

  -- which is the first of its side
  pub alone_first : (t : ℕ) → t < length all → IsBent points (face_at all t) → is_alone points all (face_at all t) ≡ true → is_first points all t ≡ true
  alone_first t low bent_t h = by (cases_Bool (list_any earlier (upto t)))
    where
      f : Face
      f = face_at all t

      earlier : ℕ → Bool
      earlier u = not (is_flat points (face_at all u).corners) && faces_as points f (face_at all u)

      by : (list_any earlier (upto t) ≡ true) ⊎ (list_any earlier (upto t) ≡ false) → (not (is_flat points f.corners) && not (list_any earlier (upto t))) ≡ true
      by (inr none) = and_from (not (is_flat points f.corners)) (not (list_any earlier (upto t)))
          (not_from_false (is_flat points f.corners) bent_t) (not_from_false (list_any earlier (upto t)) none)
      by (inl some) =
          let r = found_number earlier t some in
          let u = r.number in
          let less : u < t = (let below = r.below in omega (arith, below)) in
          let parts = and_parts (not (is_flat points (face_at all u).corners)) (faces_as points f (face_at all u)) r.passes in
          let there = (and_parts (in_plane points f (face_at all u)) (is_left (seen points f) (face_at all u).corners) parts.1).0 in
          let test : Face → Bool = λ g. not (is_flat points g.corners) && in_plane points f g in
          let two = two_pass test all u t no_face less low (and_from (not (is_flat points (face_at all u).corners)) (in_plane points f (face_at all u)) parts.0 there)
          (and_from (not (is_flat points f.corners)) (in_plane points f f) (not_from_false (is_flat points f.corners) bent_t) (plane_self points f)) in
          absurd (omega (arith, two, ap length (filter_filter (in_plane points f) (λ g. not (is_flat points g.corners)) all), one_there f h))

  -- the sides by their first triangles
  pub sides_are : sides_of points all ≡ map (side_at points all) (filter (is_first points all) (upto (length all)))
  sides_are =
      ap (map (side_of points fs)) (firsts_by_place (λ f. not (is_flat points f.corners)) (faces_as points) no_face all) ∙ mapped (filter (is_first points all) (upto (length all)))
    where
      mapped : (ts : List ℕ) → map (side_of points fs) (map (face_at all) ts) ≡ map (side_at points all) ts
      mapped [] = refl
      mapped (t ∷ ts) = ap (λ l. side_at points all t ∷ l) (mapped ts)

  -- what stands at a triangle, by whether it is the first of its side
  abbrev K : ℕ
  K = length (planes_of points all)

  pub marked_is : (t : ℕ) → t < length all → is_first points all t ≡ true → stands_alone points all K t ≡ is_alone points all (face_at all t)
  marked_is t low first = λ i. (in_planes t low (first_bent t first) i && first i) && is_alone points all (face_at all t)

  pub regions_is : (t : ℕ) → t < length all → is_first points all t ≡ true → has_regions points all K t ≡ not (is_alone points all (face_at all t))
  regions_is t low first = λ i. (in_planes t low (first_bent t first) i && first i) && not (is_alone points all (face_at all t))

  none_and : (a c : Bool) → ((a && false) && c) ≡ false
  none_and true c = refl
  none_and false c = refl

  pub marked_not : (t : ℕ) → is_first points all t ≡ false → stands_alone points all K t ≡ false
  marked_not t h = (λ i. (nat_lt (plane_of points all t) K && h i) && is_alone points all (face_at all t))
      ∙ none_and (nat_lt (plane_of points all t) K) (is_alone points all (face_at all t))

  pub regions_not : (t : ℕ) → is_first points all t ≡ false → has_regions points all K t ≡ false
  regions_not t h = (λ i. (nat_lt (plane_of points all t) K && h i) && not (is_alone points all (face_at all t)))
      ∙ none_and (nat_lt (plane_of points all t) K) (not (is_alone points all (face_at all t)))

  -- where regions stand, it is the first of its side, and not alone
  pub record HasSide (t : ℕ) : Type 0 where
    pub first : is_first points all t ≡ true
    pub some : is_alone points all (face_at all t) ≡ false

  pub with_regions : (t : ℕ) → has_regions points all K t ≡ true → HasSide t
  with_regions t h =
      let a = nat_lt (plane_of points all t) K in
      let b = is_first points all t in
      let c = is_alone points all (face_at all t) in
      let parts = and_parts (a && b) (not c) h in record { first = (and_parts a b parts.0).1; some = not-true c parts.1 }

  pub with_mark : (t : ℕ) → stands_alone points all K t ≡ true → is_alone points all (face_at all t) ≡ true
  with_mark t h = (and_parts (nat_lt (plane_of points all t) K && is_first points all t) (is_alone points all (face_at all t)) h).1
