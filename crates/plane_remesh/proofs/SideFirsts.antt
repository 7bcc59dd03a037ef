-- The first triangle of a side of a plane, among the triangles of the plane by their numbers.
use Rattle.std.proofs.Common.{◌≡◌, ◌∙◌, ◌<◌, ◌≤◌, ◌+◌, ◌==◌, ℕ, ℤ, Bool, List, [], ◌∷◌, true, false, ap, arith, cond, filter, get_or, inl, inr, length, map, refl, subst, suc, sym, zero, Option, Some, None}
use Rattle.std.specs.Prelude.{◌⊎◌, ◌&&◌, find, not}
use Rattle.std.specs.List.{All, AllPairs, list_any, position_or_len}
use Rattle.std.proofs.lemmas.Bool.{and_from, and_parts, both_ways, cases_Bool, cases_order, eq-eqb, eqb-true, false_from_ne_true, ne_eqb, not-true}
use Rattle.std.proofs.lemmas.List.{get_or-map, length-map, same_lists}
use Rattle.std.proofs.lemmas.List.Folds.{list_any_at, list_any_none}
use Rattle.std.proofs.lemmas.List.Sums.{passes_at_first, position_or_len_is}
use Rattle.chain_terms.specs.Sums.{up_from, upto}
use Rattle.chain_laws.proofs.Places.{get_or-up_from, length-up_from}
use Rattle.edge_cutting.proofs.Closing.{members_at}
use Rattle.edge_cutting.proofs.Counting.{filter_filter}
use Rattle.edge_cutting.proofs.Gathering.{all_filtered, all_upto}
use Rattle.edge_cutting.proofs.Numbered.{firsts_apart}
use Rattle.plane_chains.specs.Listed.{faces_side}
use Rattle.plane_chains.proofs.FaceLists.{firsts_all}
use Rattle.plane_groups.specs.Grouped.{bent, face_at, is_front, no_face}
use Rattle.plane_groups.proofs.Grouping.{keys_like}
use Rattle.plane_groups.proofs.SameKeys.{in_plane_by_key}
use Rattle.plane_groups.specs.Keys.{key_at}
use Rattle.sheet_terms.specs.Crossings.{coplanar}
use Rattle.sheet_terms.specs.Faces.{Face, faces_as, in_plane, is_flat}
use Rattle.sheet_terms.specs.Twins.{are_same}
use Rattle.plan_laws.specs.Ordered.{is_first}
use Rattle.plane_remesh.specs.PlansTo.{plane_of, planes_of}
use Rattle.plane_remesh.specs.Surfaces.{plane_at}
use Rattle.plane_remesh.proofs.Coplanar.{IsBent, bent_all, in_plane_same}
use Rattle.plane_remesh.proofs.Sided.{like_one}

-- planes by their numbers
module _ (points : List (List ℤ)) (all : List Face) where
  pub plane_bent : (k : ℕ) → k < length (planes_of points all) → IsBent points (plane_at points all k)
  plane_bent k low = firsts_all (IsBent points) (in_plane points) [] (bent points all) (bent_all points all) k no_face low

  pub in_self : (s : Face) → IsBent points s → in_plane points s s ≡ true
  in_self s b = in_plane_by_key points s s b b ∙ keys_like.self (key_at points s.corners)

  -- the number of the plane in which a triangle lies
  stands : (f : Face) → IsBent points f → (k : ℕ) → k < length (planes_of points all) →
      (position_or_len (λ s. in_plane points s f) (planes_of points all) == k) ≡ in_plane points (plane_at points all k) f
  stands f bent_f k low = by (cases_Bool (in_plane points (plane_at points all k) f))
    where
      ps : List Face
      ps = planes_of points all

      has : Face → Bool
      has s = in_plane points s f

      one : Face
      one = plane_at points all k

      apart : AllPairs (λ x y. in_plane points y x ≡ false) ps
      apart = firsts_apart (in_plane points) (bent points all)

      by : (in_plane points one f ≡ true) ⊎ (in_plane points one f ≡ false) → (position_or_len has ps == k) ≡ in_plane points one f
      by (inl y) =
          let before : (j : ℕ) → j < k → has (get_or ps j no_face) ≡ false = λ j l.
          let other = plane_at points all j in
          let bent_other = plane_bent j (omega (arith, l, low)) in
          false_from_ne_true (in_plane points other f) (λ h.
          both_ways (in_plane points one other) (apart j k no_face l low)
          (sym (in_plane_same points one f (plane_bent k low) bent_f y other bent_other)
          ∙ in_plane_same points other f bent_other bent_f h other bent_other ∙ in_self other bent_other)) in
          eq-eqb (position_or_len has ps) k (position_or_len_is has ps k no_face (omega (arith, low)) before (λ l. y)) ∙ sym y
      by (inr n) =
          ne_eqb (position_or_len has ps) k (λ e.
          both_ways (in_plane points one f) n
          (subst (λ j. in_plane points (face_at ps j) f ≡ true) e (passes_at_first has ps no_face (omega (arith, e, low))))) ∙ sym n

  pub plane_number : (t k : ℕ) → k < length (planes_of points all) → IsBent points (face_at all t) → in_plane points (plane_at points all k) (face_at all t) ≡ true →
      plane_of points all t ≡ k
  plane_number t k low b h = eqb-true (plane_of points all t) k (stands (face_at all t) b k low ∙ h)

  pub number_plane : (t k : ℕ) → k < length (planes_of points all) → IsBent points (face_at all t) → plane_of points all t ≡ k →
      in_plane points (plane_at points all k) (face_at all t) ≡ true
  number_plane t k low b h = sym (stands (face_at all t) b k low) ∙ eq-eqb (plane_of points all t) k h

  pub first_bent : (t : ℕ) → is_first points all t ≡ true → IsBent points (face_at all t)
  first_bent t h = not-true (is_flat points (face_at all t).corners) (and_parts (not (is_flat points (face_at all t).corners)) _ h).0

-- lists that a function without repeats makes one
maps_one : {X : Type 0} (f : ℕ → X) (n : ℕ) → ((i j : ℕ) → i < n → j < n → f i ≡ f j → i ≡ j) → (xs ys : List ℕ) → All (λ t. t < n) xs → All (λ t. t < n) ys →
    map f xs ≡ map f ys → xs ≡ ys
maps_one f n one xs ys lx ly e =
    let many : length xs ≡ length ys = sym (length-map xs f) ∙ ap length e ∙ length-map ys f in
    same_lists xs ys many (λ k d low.
    one (get_or xs k d) (get_or ys k d) (lx k d low) (ly k d (omega (arith, low, many)))
    (sym (get_or-map f xs k d (f d) low) ∙ ap (λ l. get_or l k (f d)) e ∙ get_or-map f ys k d (f d) (omega (arith, low, many))))

-- the first number that passes a test
record IsFirstFrom (r : ℕ → Bool) (a n t : ℕ) : Type 0 where
  above : a ≤ t
  inside : t < a + n
  passes : r t ≡ true
  none : (u : ℕ) → a ≤ u → u < t → r u ≡ false

-- the number that is there
abbrev pub some_or : Option ℕ → ℕ
some_or None = 0
some_or (Some t) = t

abbrev pub is_there : Option ℕ → Bool
is_there None = false
is_there (Some t) = true

found_first : (r : ℕ → Bool) (a n t : ℕ) → find r (up_from a n) ≡ Some t → IsFirstFrom r a n t
found_first r a zero t h = absurd (both_ways (is_there None) refl (ap is_there h))
found_first r a (suc n) t h = elim (cases_Bool (r a)) as (λ _. IsFirstFrom r a (suc n) t) [
  | inl y ↦
      let is : a ≡ t = ap some_or (sym (ap (λ b. cond b (Some a) (find r (up_from (suc a) n))) y) ∙ h) in
      record { above = omega (arith, is); inside = omega (arith, is); passes = ap r (sym is) ∙ y; none = λ u up below. absurd (omega (arith, is, up, below)) }
  | inr out ↦
      let rest = found_first r (suc a) n t (sym (ap (λ b. cond b (Some a) (find r (up_from (suc a) n))) out) ∙ h) in
      record {
        above = omega (arith, rest.above);
        inside = omega (arith, rest.inside);
        passes = rest.passes;
        none = λ u up below. elim (cases_order a u) as (λ _. r u ≡ false) [
          | inl e ↦ ap r (sym e) ∙ out
          | inr other ↦ rest.none u (elim other as (λ _. suc a ≤ u) [ inl l ↦ omega (arith, l) | inr l ↦ absurd (omega (arith, l, up)) ]) below
        ];
      }
]

first_found : (r : ℕ → Bool) (a n t : ℕ) → a ≤ t → t < a + n → r t ≡ true → ((u : ℕ) → a ≤ u → u < t → r u ≡ false) → find r (up_from a n) ≡ Some t
first_found r a zero t up below y none = absurd (omega (arith, up, below))
first_found r a (suc n) t up below y none = elim (cases_order a t) as (λ _. find r (up_from a (suc n)) ≡ Some t) [
  | inl e ↦ ap (λ b. cond b (Some a) (find r (up_from (suc a) n))) (ap r e ∙ y) ∙ ap Some e
  | inr other ↦ elim other as (λ _. find r (up_from a (suc n)) ≡ Some t) [
    | inl l ↦
        ap (λ b. cond b (Some a) (find r (up_from (suc a) n))) (none a (omega arith) l)
        ∙ first_found r (suc a) n t (omega (arith, l)) (omega (arith, below)) y (λ u more less. none u (omega (arith, more)) less)
    | inr l ↦ absurd (omega (arith, up, l))
  ]
]

find-filter : {X : Type 0} (p q : X → Bool) (xs : List X) → find p (filter q xs) ≡ find (λ x. q x && p x) xs
find-filter p q [] = refl
find-filter p q (x ∷ xs) = by (q x) (find-filter p q xs)
  where
    by : (b : Bool) → find p (filter q xs) ≡ find (λ y. q y && p y) xs → find p (cond b (x ∷ filter q xs) (filter q xs)) ≡ cond (b && p x) (Some x) (find (λ y. q y && p y) xs)
    by true rest = ap (λ o. cond (p x) (Some x) o) rest
    by false rest = rest

find_same : {X : Type 0} (p q : X → Bool) (xs : List X) → All (λ x. p x ≡ q x) xs → find p xs ≡ find q xs
find_same p q [] h = refl
find_same p q (x ∷ xs) h = λ i. cond (h 0 x (omega arith) i) (Some x) (find_same p q xs (λ k d low. h (suc k) d (omega (arith, low))) i)

-- what is first of a side of the plane of s
pub record IsFirstOf (points : List (List ℤ)) (all : List Face) (s : Face) (front : Bool) (t : ℕ) : Type 0 where
  pub low : t < length all
  pub bent : IsBent points (face_at all t)
  pub inside : in_plane points s (face_at all t) ≡ true
  pub side : is_front points (face_at all t) ≡ front
  pub first : is_first points all t ≡ true

-- triangles in the order of their numbers
abbrev pub Rising : List Face → Type 0
Rising all = (i j : ℕ) → i < j → j < length all → (face_at all i).number < (face_at all j).number

module _ (points : List (List ℤ)) (all : List Face) (rises : Rising all) (s : Face) (bent_s : IsBent points s) (numbers : List ℕ)
    (faces : map (face_at all) numbers ≡ coplanar points (bent points all) s) (below : All (λ t. t < length all) numbers) (marks : List Bool)
    (fronts : (t : ℕ) → t < length all → IsBent points (face_at all t) → get_or marks t false ≡ is_front points (face_at all t)) where
  face_one : (i j : ℕ) → i < length all → j < length all → face_at all i ≡ face_at all j → i ≡ j
  face_one i j li lj e =
      let same : (face_at all i).number ≡ (face_at all j).number = ap (λ (f : Face). f.number) e in
      elim (cases_order i j) as (λ _. i ≡ j) [
        | inl is ↦ is
        | inr other ↦ elim other as (λ _. i ≡ j) [
          | inl l ↦ absurd (omega (arith, rises i j l lj, same))
          | inr l ↦ absurd (omega (arith, rises j i l li, same))
        ]
      ]

  -- one of the plane
  abbrev own : ℕ → Bool
  own t = not (is_flat points (face_at all t).corners) && in_plane points s (face_at all t)

  abbrev count : ℕ
  count = length all

  pub numbers_are : numbers ≡ filter own (upto count)
  numbers_are =
      maps_one (face_at all) count face_one numbers (filter own (upto count)) below (all_filtered (λ t. t < count) own count (λ v l h. l))
      (faces ∙ filter_filter (in_plane points s) (λ f. not (is_flat points f.corners)) all
      ∙ sym (members_at (λ f. not (is_flat points f.corners) && in_plane points s f) own no_face [] all (λ i l. refl)))

  -- one of it that faces a side
  abbrev sided : Bool → ℕ → Bool
  sided front t = own t && faces_side marks front t

  find_is : (front : Bool) → find (faces_side marks front) numbers ≡ find (sided front) (upto count)
  find_is front = ap (find (faces_side marks front)) numbers_are ∙ find-filter (faces_side marks front) own (upto count)

  -- and so do those that lie in the plane of one of it and face as it does
  same_side : (t u : ℕ) → u < count → IsBent points (face_at all t) → in_plane points s (face_at all t) ≡ true →
      (not (is_flat points (face_at all u).corners) && faces_as points (face_at all t) (face_at all u)) ≡ sided (is_front points (face_at all t)) u
  same_side t u low bent_t in_t = by (cases_Bool (is_flat points (face_at all u).corners))
    where
      f : Face
      f = face_at all t

      g : Face
      g = face_at all u

      either : (front m : Bool) → are_same front m ≡ cond front m (not m)
      either true m = refl
      either false m = refl

      by : (is_flat points g.corners ≡ true) ⊎ (is_flat points g.corners ≡ false) → (not (is_flat points g.corners) && faces_as points f g) ≡ sided (is_front points f) u
      by (inl y) =
          ap (λ b. not b && faces_as points f g) y ∙ sym (ap (λ b. (not b && in_plane points s g) && faces_side marks (is_front points f) u) y)
      by (inr n) =
          ap (λ b. not b && faces_as points f g) n ∙ like_one points s bent_s f g bent_t in_t n
          ∙ ap (λ b. in_plane points s g && b) (either (is_front points f) (is_front points g) ∙ ap (λ m. cond (is_front points f) m (not m)) (sym (fronts u low n)))
          ∙ sym (ap (λ b. (not b && in_plane points s g) && faces_side marks (is_front points f) u) n)

  abbrev test_at : ℕ → ℕ → Bool
  test_at t u = not (is_flat points (face_at all u).corners) && faces_as points (face_at all t) (face_at all u)

  -- what is found is first
  pub found_is_first : (front : Bool) (t : ℕ) → find (faces_side marks front) numbers ≡ Some t → IsFirstOf points all s front t
  found_is_first front t h =
      let at = found_first (sided front) 0 count t (sym (find_is front) ∙ h) in
      let low : t < count = omega (arith, at.inside) in
      let both = and_parts (own t) (faces_side marks front t) at.passes in
      let parts = and_parts (not (is_flat points (face_at all t).corners)) (in_plane points s (face_at all t)) both.0 in
      let bent_t = not-true (is_flat points (face_at all t).corners) parts.0 in
      let side : is_front points (face_at all t) ≡ front = sym (fronts t low bent_t) ∙ side_is (get_or marks t false) front both.1 in
      record {
        low = low;
        bent = bent_t;
        inside = parts.1;
        side = side;
        first = and_from (not (is_flat points (face_at all t).corners)) (not (list_any (test_at t) (upto t))) parts.0
            (ap not (list_any_none (test_at t) (upto t)
            (all_upto (λ u. test_at t u ≡ false) t (λ u l. same_side t u (omega (arith, l, low)) bent_t parts.1 ∙ ap (λ b. sided b u) side ∙ at.none u (omega arith) l))));
      }
    where
      side_is : (m front : Bool) → cond front m (not m) ≡ true → m ≡ front
      side_is m true h = h
      side_is m false h = not-true m h

  -- and what is first is found
  pub first_is_found : (t : ℕ) → t < length all → in_plane points s (face_at all t) ≡ true → is_first points all t ≡ true →
      find (faces_side marks (is_front points (face_at all t))) numbers ≡ Some t
  first_is_found t low in_t h =
      let front = is_front points (face_at all t) in
      let parts = and_parts (not (is_flat points (face_at all t).corners)) (not (list_any (test_at t) (upto t))) h in
      let bent_t = not-true (is_flat points (face_at all t).corners) parts.0 in
      let none = not-true (list_any (test_at t) (upto t)) parts.1 in
      let own_t : own t ≡ true = and_from (not (is_flat points (face_at all t).corners)) (in_plane points s (face_at all t)) parts.0 in_t in
      find_is front
      ∙ first_found (sided front) 0 count t (omega arith) (omega (arith, low))
      (and_from (own t) (faces_side marks front t) own_t (ap (λ m. cond front m (not m)) (fronts t low bent_t) ∙ itself front))
      (λ u up l.
      sym (same_side t u (omega (arith, l, low)) bent_t in_t)
      ∙ false_from_ne_true (test_at t u) (λ y.
      both_ways (list_any (test_at t) (upto t)) none
      (list_any_at (test_at t) (upto t) u 0 (omega (arith, l, length-up_from 0 t)) (ap (test_at t) (at_place t u l) ∙ y))))
    where
      at_place : (n u : ℕ) → u < n → get_or (upto n) u 0 ≡ u
      at_place n u l = omega (arith, get_or-up_from 0 n u 0 l)

      itself : (b : Bool) → cond b b (not b) ≡ true
      itself true = refl
      itself false = refl
