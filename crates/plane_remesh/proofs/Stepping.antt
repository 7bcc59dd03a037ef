-- A plan of one plane more: which triangles it is about.
use Rattle.std.proofs.Common.{◌≡◌, ◌∙◌, ◌<◌, ◌≤◌, ◌+◌, ◌*◌, ◌==◌, ℕ, ℤ, Bool, List, [], ◌∷◌, true, false, ap, arith, cond, filter, get_or, inl, inr, length, refl, subst, suc, sym, take, zero}
use Rattle.std.specs.Prelude.{◌⊎◌, ◌&&◌, ◌^◌, nat_le, nat_lt, not, sum_by}
use Rattle.std.specs.List.{Contains}
use Rattle.std.proofs.lemmas.Bool.{and_from, both_ways, cases_Bool, cases_order, eqb-true, false_from_ne_true, lt-ltb, ltb-true}
use Rattle.std.proofs.lemmas.List.{length-take-le}
use Rattle.std.proofs.lemmas.List.Elements.{All-cons, All-contains, All-nil, Contains-append_right, Contains-get_or}
use Rattle.std.proofs.lemmas.List.Sums.{sum_by-le}
use Rattle.edge_cutting.proofs.Counting.{filter_filter}
use Rattle.mesh_terms.specs.Limits.{most_triangles}
use Rattle.plane_groups.specs.Grouped.{bent, face_at, no_face}
use Rattle.sheet_terms.specs.Crossings.{coplanar}
use Rattle.sheet_terms.specs.Faces.{Face, in_plane, is_flat}
use Rattle.sheet_terms.specs.Kept.{free, is_out, kept, remains}
use Rattle.plan_laws.specs.Ordered.{is_first}
use Rattle.plan_laws.specs.Views.{front_seen}
use Rattle.plane_remesh.specs.PlansTo.{has_regions, is_alone, plane_of, planes_of, stands_alone}
use Rattle.plane_remesh.proofs.Coplanar.{IsBent, coplanar_same}

-- parts of a test of three
three_parts : (a b c : Bool) → (a && b && c) ≡ true → (a ≡ true) × (b ≡ true) × (c ≡ true)
three_parts true true true h = (refl, refl, refl)
three_parts true true false h = absurd (both_ways false refl h)
three_parts true false c h = absurd (both_ways false refl h)
three_parts false b c h = absurd (both_ways false refl h)

three_from : (a b c : Bool) → a ≡ true → b ≡ true → c ≡ true → (a && b && c) ≡ true
three_from a b c x y z = λ i. x i && y i && z i

pub iff_same : (b c : Bool) → (b ≡ true → c ≡ true) → (c ≡ true → b ≡ true) → b ≡ c
iff_same true c f g = sym (f refl)
iff_same false true f g = g refl
iff_same false false f g = refl

-- a list of one has one member
one_member : {X : Type 0} (xs : List X) (a b : X) → length xs ≡ 1 → Contains xs a → Contains xs b → a ≡ b
one_member [] a b one ca cb = absurd (omega (arith, one))
one_member (x ∷ []) a b one ca cb =
    let same = All-cons (λ y. y ≡ x) x [] refl (All-nil (λ y. y ≡ x)) in All-contains (λ y. y ≡ x) (x ∷ []) a same ca ∙ sym (All-contains (λ y. y ≡ x) (x ∷ []) b same cb)
one_member (x ∷ y ∷ ys) a b one ca cb = absurd (omega (arith, one))

pub contains_filter : {X : Type 0} (p : X → Bool) (xs : List X) (k : ℕ) (d : X) → k < length xs → p (get_or xs k d) ≡ true → Contains (filter p xs) (get_or xs k d)
contains_filter p [] k d low h = absurd (omega (arith, low))
contains_filter p (x ∷ xs) zero d low h =
    subst (λ b. Contains (cond b (x ∷ filter p xs) (filter p xs)) x) (sym h) (Contains-get_or (x ∷ filter p xs) 0 d (omega arith))
contains_filter p (x ∷ xs) (suc k) d low h = by (p x) (contains_filter p xs k d (omega (arith, low)) h)
  where
    by : (b : Bool) → Contains (filter p xs) (get_or xs k d) → Contains (cond b (x ∷ filter p xs) (filter p xs)) (get_or xs k d)
    by true rest = Contains-append_right (x ∷ []) (filter p xs) (get_or xs k d) rest
    by false rest = rest

pub filter_few : {X : Type 0} (p : X → Bool) (xs : List X) → length (filter p xs) ≤ length xs
filter_few p [] = omega arith
filter_few p (x ∷ xs) = by (p x) (filter_few p xs)
  where
    by : (b : Bool) → length (filter p xs) ≤ length xs → length (cond b (x ∷ filter p xs) (filter p xs)) ≤ suc (length xs)
    by true h = omega (arith, h)
    by false h = omega (arith, h)

module _ (points : List (List ℤ)) (all : List Face) where
  -- a triangle of the plane of s is alone where s is
  in_own : (s : Face) (t : ℕ) → t < length all → IsBent points (face_at all t) →
      in_plane points s (face_at all t) ≡ true → Contains (coplanar points (bent points all) s) (face_at all t)
  in_own s t low b h =
      subst (λ (l : List Face). Contains l (face_at all t)) (sym (filter_filter (in_plane points s) (λ f. not (is_flat points f.corners)) all))
      (contains_filter (λ f. not (is_flat points f.corners) && in_plane points s f) all t no_face low
      (and_from (not (is_flat points (face_at all t).corners)) (in_plane points s (face_at all t)) (ap not b) h))

  pub alone_same : (s : Face) → IsBent points s → Contains (coplanar points (bent points all) s) s → (t : ℕ) → t < length all → IsBent points (face_at all t) →
      in_plane points s (face_at all t) ≡ true → is_alone points all (face_at all t) ≡ is_alone points all s
  alone_same s bent_s there t low b h = by (cases_Bool (length own == 1))
    where
      f : Face
      f = face_at all t

      own : List Face
      own = coplanar points (bent points all) s

      same : coplanar points (bent points all) f ≡ own
      same = coplanar_same points s f bent_s b h all

      by : ((length own == 1) ≡ true) ⊎ ((length own == 1) ≡ false) → is_alone points all f ≡ is_alone points all s
      by (inl one) = ap (is_alone points all) (one_member own f s (eqb-true (length own) 1 one) (in_own s t low b h) there)
      by (inr out) =
          ap (λ (l : List Face). (length l == 1) && nat_le (length f.rim) 3) same ∙ ap (λ c. c && nat_le (length f.rim) 3) out
          ∙ sym (ap (λ c. c && nat_le (length s.rim) 3) out)

  -- what is true of the first planes stays so
  module _ (k : ℕ) where
    abbrev number : ℕ → ℕ
    number t = plane_of points all t

    earlier : (t : ℕ) → nat_lt (number t) k ≡ true → nat_lt (number t) (k + 1) ≡ true
    earlier t h = lt-ltb (number t) (k + 1) (omega (arith, ltb-true (number t) k h))

    alone_stays : (t : ℕ) → stands_alone points all k t ≡ true → stands_alone points all (k + 1) t ≡ true
    alone_stays t h =
        let parts = three_parts (nat_lt (number t) k) (is_first points all t) (is_alone points all (face_at all t)) h in
        three_from (nat_lt (number t) (k + 1)) (is_first points all t) (is_alone points all (face_at all t)) (earlier t parts.0) parts.1 parts.2

    regions_stay : (t : ℕ) → has_regions points all k t ≡ true → has_regions points all (k + 1) t ≡ true
    regions_stay t h =
        let parts = three_parts (nat_lt (number t) k) (is_first points all t) (not (is_alone points all (face_at all t))) h in
        three_from (nat_lt (number t) (k + 1)) (is_first points all t) (not (is_alone points all (face_at all t))) (earlier t parts.0) parts.1 parts.2

    pub none_before : (t : ℕ) → has_regions points all (k + 1) t ≡ false → has_regions points all k t ≡ false
    none_before t h = false_from_ne_true (has_regions points all k t) (λ y. both_ways (has_regions points all (k + 1) t) h (regions_stay t y))

    pub none_yet : (t : ℕ) → number t ≡ k → has_regions points all k t ≡ false
    none_yet t h =
        false_from_ne_true (has_regions points all k t) (λ y.
        let parts = three_parts (nat_lt (number t) k) (is_first points all t) (not (is_alone points all (face_at all t))) y in
        absurd (omega (arith, ltb-true (number t) k parts.0, h)))

    -- where it is true with one more, it was before, or the triangle is in that plane
    pub record IsNew (t : ℕ) : Type 0 where
      pub here : number t ≡ k
      pub first : is_first points all t ≡ true

    split : (t : ℕ) → nat_lt (number t) (k + 1) ≡ true → (nat_lt (number t) k ≡ true) ⊎ (number t ≡ k)
    split t h = elim (cases_order (number t) k) as (λ _. (nat_lt (number t) k ≡ true) ⊎ (number t ≡ k)) [
      | inl e ↦ inr e
      | inr other ↦ elim other as (λ _. (nat_lt (number t) k ≡ true) ⊎ (number t ≡ k)) [
        | inl l ↦ inl (lt-ltb (number t) k l)
        | inr l ↦ absurd (omega (arith, l, ltb-true (number t) (k + 1) h))
      ]
    ]

    pub alone_cases : (t : ℕ) → stands_alone points all (k + 1) t ≡ true →
        (stands_alone points all k t ≡ true) ⊎ (IsNew t × (is_alone points all (face_at all t) ≡ true))
    alone_cases t h =
        let parts = three_parts (nat_lt (number t) (k + 1)) (is_first points all t) (is_alone points all (face_at all t)) h in
        elim (split t parts.0) as (λ _. (stands_alone points all k t ≡ true) ⊎ (IsNew t × (is_alone points all (face_at all t) ≡ true))) [
          | inl y ↦ inl (three_from (nat_lt (number t) k) (is_first points all t) (is_alone points all (face_at all t)) y parts.1 parts.2)
          | inr e ↦ inr (record { here = e; first = parts.1 }, parts.2)
        ]

    pub regions_cases : (t : ℕ) → has_regions points all (k + 1) t ≡ true →
        (has_regions points all k t ≡ true) ⊎ (IsNew t × (not (is_alone points all (face_at all t)) ≡ true))
    regions_cases t h =
        let parts = three_parts (nat_lt (number t) (k + 1)) (is_first points all t) (not (is_alone points all (face_at all t))) h in
        elim (split t parts.0) as (λ _. (has_regions points all k t ≡ true) ⊎ (IsNew t × (not (is_alone points all (face_at all t)) ≡ true))) [
          | inl y ↦ inl (three_from (nat_lt (number t) k) (is_first points all t) (not (is_alone points all (face_at all t))) y parts.1 parts.2)
          | inr e ↦ inr (record { here = e; first = parts.1 }, parts.2)
        ]

    pub alone_new : (t : ℕ) → number t ≡ k → is_first points all t ≡ true → is_alone points all (face_at all t) ≡ true → stands_alone points all (k + 1) t ≡ true
    alone_new t here first is =
        three_from (nat_lt (number t) (k + 1)) (is_first points all t) (is_alone points all (face_at all t)) (lt-ltb (number t) (k + 1) (omega (arith, here))) first is

    pub regions_new : (t : ℕ) → number t ≡ k → is_first points all t ≡ true → is_alone points all (face_at all t) ≡ false → has_regions points all (k + 1) t ≡ true
    regions_new t here first is =
        three_from (nat_lt (number t) (k + 1)) (is_first points all t)
        (not (is_alone points all (face_at all t))) (lt-ltb (number t) (k + 1) (omega (arith, here))) first (ap not is)

    -- a plane that isn't alone, or whose triangle is another
    pub alone_as_before : (t : ℕ) → (IsNew t → is_alone points all (face_at all t) ≡ true → ⊥) → stands_alone points all (k + 1) t ≡ stands_alone points all k t
    alone_as_before t none =
        iff_same (stands_alone points all (k + 1) t) (stands_alone points all k t)
        (λ h. elim (alone_cases t h) as (λ _. stands_alone points all k t ≡ true) [ inl y ↦ y | inr n ↦ absurd (none n.0 n.1) ]) (alone_stays t)

  -- kept triangles are few
  pub kept_few : (s : Face) → length (kept (front_seen points s) (coplanar points (bent points all) s)) ≤ length all
  kept_few s =
      let at = front_seen points s in
      let own = coplanar points (bent points all) s in
      let out = filter (is_out (free at own)) own in
      four _ _ _ _ _ (filter_few (remains at out) out) (filter_few (is_out (free at own)) own) (filter_few (in_plane points s) (bent points all))
      (filter_few (λ (f : Face). not (is_flat points f.corners)) all)
    where
      four : (a b c d e : ℕ) → a ≤ b → b ≤ c → c ≤ d → d ≤ e → a ≤ e
      four a b c d e p q r t = omega (arith, p, q, r, t)

  pub kept_sum : (k : ℕ) → k < length (planes_of points all) → length (planes_of points all) ≤ length all → length all ≤ most_triangles →
      sum_by (λ s. length (kept (front_seen points s) (coplanar points (bent points all) s))) (take k (planes_of points all))
      + length (kept (front_seen points (face_at (planes_of points all) k)) (coplanar points (bent points all) (face_at (planes_of points all) k))) < 2 ^ 64
  kept_sum k low few_planes few =
      let ps = planes_of points all in
      let f : Face → ℕ = λ s. length (kept (front_seen points s) (coplanar points (bent points all) s)) in
      let bound : sum_by f (take k ps) ≤ length (take k ps) * most_triangles =
      sum_by-le f most_triangles (take k ps) (λ i d l. up_to (f (get_or (take k ps) i d)) (length all) most_triangles (kept_few (get_or (take k ps) i d)) few) in
      fits (sum_by f (take k ps)) (f (face_at ps k)) (length (take k ps)) k (length ps) (length all) bound (length-take-le k ps (less k (length ps) low)) low few_planes few
      (kept_few (face_at ps k))
    where
      up_to : (a b c : ℕ) → a ≤ b → b ≤ c → a ≤ c
      up_to a b c p q = omega (arith, p, q)

      less : (a b : ℕ) → a < b → a ≤ b
      less a b p = omega (arith, p)

      fits : (a b l k m n : ℕ) → a ≤ l * most_triangles → l ≡ k → k < m → m ≤ n → n ≤ most_triangles → b ≤ n → a + b < 2 ^ 64
      fits a b l k m n p q r t u v = omega (arith, p, q, r, t, u, v)
