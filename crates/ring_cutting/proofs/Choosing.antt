-- The place that is cut next, found among those that are left.
use Rattle.std.specs.Prelude.{◌≡◌, ◌≢◌, ℕ, ◌<◌, ◌≤◌, List, Bool, true, false, cond, nat_lt, length, set}
use Rattle.std.specs.List.{position_or_len}
use Rattle.chain_terms.specs.Sums.{upto}
use Rattle.std.proofs.Common.{arith, refl, sym, subst, ap, ◌∙◌, inl, inr}
use Rattle.std.proofs.lemmas.Bool.{cases_lt, lt-ltb, le-ltb, both_ways}
use Rattle.face_plane.specs.Planes.{Plane}
use Rattle.face_plane.specs.Rings.{IsRing}
use Rattle.ring_cutting.specs.declared.place.Place.{Place}
use Rattle.ring_cutting.specs.Cuts.{is_allowed, is_ear, first_ear, first_allowed, cut_place, forced_here}
use Rattle.ring_cutting.specs.Placed.{IsPlaced}
use Rattle.ring_cutting.specs.Left.{lives, left_of, rank, after_of, IsNext, IsLinked, may_go_at, is_ear_at}
use Rattle.ring_cutting.proofs.Bent.{some_allowed}
use Rattle.ring_cutting.proofs.FirstPlaces.{first_place, no_place}
use Rattle.ring_cutting.proofs.Reading.{length-vertices}
use Rattle.ring_cutting.proofs.Lefts.{ranked, rank_within, rank_below, rank_first, rank_last, rank_next, lives_less, lives_other}
use Rattle.ring_cutting.proofs.EarsLeft.{ring_left, ear_left, allowed_left}

-- a test of the places of the ring that is left, by the numbers of the places
first_by_number : (f g : ℕ → Bool) (bs : List Bool) (ps : List Place) (i : ℕ) → length bs ≡ length ps → lives bs i ≡ true →
    ((j : ℕ) → lives bs j ≡ true → f (rank bs j) ≡ g j) →
    g i ≡ true → ((j : ℕ) → lives bs j ≡ true → j < i → g j ≡ false) → position_or_len f (upto (length (ring_left bs ps))) ≡ rank bs i
first_by_number f g bs ps i many h same here before =
    let n = length-vertices (left_of bs ps) in
    first_place f (length (ring_left bs ps)) (rank bs i) (omega (arith, n, rank_within bs ps i many h)) none (same i h ∙ here)
  where
    none : (k : ℕ) → k < rank bs i → f k ≡ false
    none k less =
        let r = ranked bs ps k (omega (arith, less, rank_within bs ps i many h)) in
        let low : r.number < i = rank_below bs r.number i r.living h (omega (arith, less, r.is)) in
        ap f (sym r.is) ∙ same r.number r.living ∙ before r.number r.living low

none_by_number : (f g : ℕ → Bool) (bs : List Bool) (ps : List Place) → ((j : ℕ) → lives bs j ≡ true → f (rank bs j) ≡ g j) →
    ((j : ℕ) → lives bs j ≡ true → g j ≡ false) →
    position_or_len f (upto (length (ring_left bs ps))) ≡ length (ring_left bs ps)
none_by_number f g bs ps same never = no_place f (length (ring_left bs ps)) none
  where
    none : (k : ℕ) → k < length (ring_left bs ps) → f k ≡ false
    none k less =
        let r = ranked bs ps k (omega (arith, less, length-vertices (left_of bs ps))) in
        ap f (sym r.is) ∙ same r.number r.living ∙ never r.number r.living

-- the place that is cut, and one where it is no ear
pub record IsChoice (at : Plane) (r : List ℕ) (k n : ℕ) : Type 0 where
  pub place : k ≡ cut_place at r
  pub forced : n ≡ forced_here at r

by_test : (at : Plane) (r : List ℕ) (k n : ℕ) (b : Bool) → nat_lt (first_ear at r) (length r) ≡ b →
    k ≡ cond b (first_ear at r) (first_allowed r) → n ≡ cond b 0 1 → IsChoice at r k n
by_test at r k n b test place forced = record {
  place = place ∙ ap (λ (t : Bool). cond t (first_ear at r) (first_allowed r)) (sym test);
  forced = forced ∙ ap (λ (t : Bool). cond t 0 1) (sym test);
}

-- the least ear
pub ear_chosen : (at : Plane) (ps : List Place) (nx bf : List ℕ) (bs : List Bool) (i : ℕ) → IsPlaced at (left_of bs ps) →
    IsLinked (length ps) nx bf bs → lives bs i ≡ true → is_ear_at ps nx bf bs i ≡ true →
    ((j : ℕ) → lives bs j ≡ true → j < i → is_ear_at ps nx bf bs j ≡ false) → IsChoice at (ring_left bs ps) (rank bs i) 0
ear_chosen at ps nx bf bs i placed h here ear before =
    let r = ring_left bs ps in
    let first : first_ear at r ≡ rank bs i =
    first_by_number (is_ear at r) (is_ear_at ps nx bf bs) bs ps i h.living_long here (λ j l. ear_left at ps nx bf bs j placed h l) ear before in
    let test : nat_lt (first_ear at r) (length r) ≡ true =
    lt-ltb (first_ear at r) (length r) (omega (arith, first, rank_within bs ps i h.living_long here, length-vertices (left_of bs ps))) in
    by_test at r (rank bs i) 0 true test (sym first) refl

-- without an ear the least place that is allowed
pub forced_chosen : (at : Plane) (ps : List Place) (nx bf : List ℕ) (bs : List Bool) (k : ℕ) → IsPlaced at (left_of bs ps) →
    IsLinked (length ps) nx bf bs →
    ((j : ℕ) → lives bs j ≡ true → is_ear_at ps nx bf bs j ≡ false) → k ≡ first_allowed (ring_left bs ps) → IsChoice at (ring_left bs ps) k 1
forced_chosen at ps nx bf bs k placed h never e =
    let r = ring_left bs ps in
    let none : first_ear at r ≡ length r =
    none_by_number (is_ear at r) (is_ear_at ps nx bf bs) bs ps (λ j l. ear_left at ps nx bf bs j placed h l) never in
    let test : nat_lt (first_ear at r) (length r) ≡ false = le-ltb (first_ear at r) (length r) (omega (arith, none)) in
    by_test at r k 1 false test e refl

-- the least place that may be cut is the least that is allowed
pub allowed_first : (ps : List Place) (nx bf : List ℕ) (bs : List Bool) (i : ℕ) → IsLinked (length ps) nx bf bs → lives bs i ≡ true →
    may_go_at ps nx bf bs i ≡ true →
    ((j : ℕ) → lives bs j ≡ true → j < i → may_go_at ps nx bf bs j ≡ false) → rank bs i ≡ first_allowed (ring_left bs ps)
allowed_first ps nx bf bs i h here may before =
    sym (first_by_number (is_allowed (ring_left bs ps)) (may_go_at ps nx bf bs) bs ps i h.living_long here
    (λ j l. allowed_left ps nx bf bs j h l) may before)

-- some place may be cut
pub some_may_go : (ps : List Place) (nx bf : List ℕ) (bs : List Bool) → IsLinked (length ps) nx bf bs → IsRing (ring_left bs ps) →
    4 ≤ length (left_of bs ps) →
    ((j : ℕ) → lives bs j ≡ true → may_go_at ps nx bf bs j ≡ false) → ⊥
some_may_go ps nx bf bs h ringy more never =
    let n = length-vertices (left_of bs ps) in
    let some = some_allowed (ring_left bs ps) ringy (omega (arith, more, n)) in
    let r = ranked bs ps some.place (omega (arith, some.within, n)) in
    both_ways (may_go_at ps nx bf bs r.number) (never r.number r.living)
    (sym (allowed_left ps nx bf bs r.number h r.living) ∙ ap (is_allowed (ring_left bs ps)) r.is ∙ some.allowed)

-- with two places or more none follows itself
pub after_apart : (ps : List Place) (bs : List Bool) (c n : ℕ) → length bs ≡ length ps → lives bs c ≡ true → IsNext bs c n →
    2 ≤ length (left_of bs ps) → n ≢ c
after_apart ps bs c n many here next two e =
    let back : n ≤ c = omega (arith, e) in
    let first : rank bs c ≡ 0 = rank_first bs c (λ m l. omega (arith, next.first back m l, e)) in
    omega (arith, first, two, rank_last bs ps c many here (next.last back))

-- behind the first place the next one is first once that is cut
pub first_next : (bs : List Bool) (c n : ℕ) → lives bs c ≡ true → ((m : ℕ) → lives bs m ≡ true → c ≤ m) → IsNext bs c n → n ≢ c → (m : ℕ) →
    lives (set bs c false) m ≡ true → n ≤ m
first_next bs c n here least next apart m l =
    let low : c ≤ m = least m (lives_less bs c m l) in
    let other = lives_other bs c m l in
    elim (cases_lt c n) as (λ _. n ≤ m) [
      | inl k ↦ next.between k m (lives_less bs c m l) (omega (arith, low, other))
      | inr k ↦ absurd (apart (omega (arith, k, least n next.stays)))
    ]

-- the second place stands second
pub rank_second : (ps : List Place) (bs : List Bool) (c n : ℕ) → length bs ≡ length ps → lives bs c ≡ true →
    ((m : ℕ) → lives bs m ≡ true → c ≤ m) → IsNext bs c n → n ≢ c → rank bs n ≡ 1
rank_second ps bs c n many here least next apart =
    let less : c < n = omega (arith, least n next.stays, apart) in
    omega (arith, rank_next bs c n here less (next.between less), rank_first bs c least)

-- from a place that may not be cut, as none before it may, the search goes on to a greater one
pub record IsWalked (ps : List Place) (nx bf : List ℕ) (bs : List Bool) (i j : ℕ) : Type 0 where
  pub greater : i < j
  pub living : lives bs j ≡ true
  pub none : (m : ℕ) → lives bs m ≡ true → m < j → may_go_at ps nx bf bs m ≡ false

pub walk_on : (ps : List Place) (nx bf : List ℕ) (bs : List Bool) (i j : ℕ) → IsLinked (length ps) nx bf bs → IsRing (ring_left bs ps) →
    4 ≤ length (left_of bs ps) → lives bs i ≡ true →
    ((m : ℕ) → lives bs m ≡ true → m < i → may_go_at ps nx bf bs m ≡ false) → may_go_at ps nx bf bs i ≡ false → j ≡ after_of nx i →
    IsWalked ps nx bf bs i j
walk_on ps nx bf bs i j h ringy more here before none is =
    subst (IsWalked ps nx bf bs i) (sym is) (record { greater = greater; living = next.stays; none = λ m l less. upto_i m l (low m l less) })
  where
    next : IsNext bs i (after_of nx i)
    next = h.goes i here

    upto_i : (m : ℕ) → lives bs m ≡ true → m ≤ i → may_go_at ps nx bf bs m ≡ false
    upto_i m l low = elim (cases_lt m i) as (λ _. may_go_at ps nx bf bs m ≡ false) [
      | inl less ↦ before m l less
      | inr k ↦ let same : m ≡ i = omega (arith, low, k) in ap (may_go_at ps nx bf bs) same ∙ none
    ]

    greater : i < after_of nx i
    greater = elim (cases_lt i (after_of nx i)) as (λ _. i < after_of nx i) [
      | inl l ↦ l
      | inr k ↦ absurd (some_may_go ps nx bf bs h ringy more (λ m l. upto_i m l (next.last k m l)))
    ]

    low : (m : ℕ) → lives bs m ≡ true → m < after_of nx i → m ≤ i
    low m l less = elim (cases_lt i m) as (λ _. m ≤ i) [
      | inl k ↦ absurd (omega (arith, less, next.between greater m l k))
      | inr k ↦ k
    ]
