-- Why a place is no ear, and that it is none still once another is cut.
use Rattle.std.specs.Prelude.{◌≡◌, ◌≢◌, ℕ, zero, suc, ◌<◌, ◌≤◌, List, [], ◌∷◌, Bool, true, false, not, ◌&&◌, ◌==◌, length, get_or, set}
use Rattle.std.specs.List.{list_any}
use Rattle.std.specs.Ordering.{nat_cmp}
use Rattle.std.specs.BTreeSet.{BTreeSet, contains}
use Rattle.std.proofs.Common.{arith, refl, sym, subst, ap, ◌∙◌, inl, inr}
use Rattle.std.proofs.lemmas.Bool.{cases_eq, cases_Bool, both_ways}
use Rattle.std.proofs.lemmas.List.{get_or-set_other}
use Rattle.face_plane.specs.Rings.{In}
use Rattle.ring_cutting.specs.declared.place.Place.{Place}
use Rattle.ring_cutting.specs.Placed.{place_blocks}
use Rattle.ring_cutting.specs.Left.{lives, place_of, left_of, after_of, before_of, third_place, goes_left, is_open}
use Rattle.ring_cutting.specs.Left.{blocks_at, is_ear_of, is_ear_at, HasReason, AreSettled}
use Rattle.ring_cutting.proofs.Lefts.{lives_less, lives_other, lives_kept, any_left, none_any, any_fewer}

-- a place with a reason is no ear
one_false : (a b : Bool) → a ≡ false → (a && b) ≡ false
one_false a b e = rw e refl

other_true : (a b : Bool) → b ≡ true → (a && not b) ≡ false
other_true true b e = rw e refl
other_true false b e = refl

pub refuses : (ps : List Place) (bs : List Bool) (p i n : ℕ) (waiting : List (List ℕ)) → length bs ≡ length ps →
    HasReason ps bs p i n waiting → is_ear_of ps bs p i n ≡ false
refuses ps bs p i n waiting many (inl e) =
    one_false (is_open ps bs p i n) (not (list_any (place_blocks (place_of ps p) (place_of ps i) (place_of ps n)) (left_of bs ps))) e
refuses ps bs p i n waiting many (inr h) =
    let test = place_blocks (place_of ps p) (place_of ps i) (place_of ps n) in
    other_true (is_open ps bs p i n) (list_any test (left_of bs ps)) (any_left test bs ps h.number many h.living h.blocks)

-- two writes in either order
set_twice : (bs : List Bool) (c i : ℕ) → set (set bs c false) i false ≡ set (set bs i false) c false
set_twice [] c i = refl
set_twice (b ∷ bs) zero zero = refl
set_twice (b ∷ bs) zero (suc i) = refl
set_twice (b ∷ bs) (suc c) zero = refl
set_twice (b ∷ bs) (suc c) (suc i) = ap (λ (l : List Bool). b ∷ l) (set_twice bs c i)

fewer : (a b d e : Bool) → (b ≡ false → d ≡ false) → ((a && b) && e) ≡ false → ((a && d) && e) ≡ false
fewer true true d true f h = cc
fewer true true d false f h = last d
  where
    last : (d : Bool) → (d && false) ≡ false
    last true = refl
    last false = refl
fewer true false d e f h = rw (f refl) refl
fewer false b d e f h = refl

-- a place that is not open does not become so
open_fewer : (ps : List Place) (bs : List Bool) (c p i n : ℕ) → is_open ps bs p i n ≡ false → is_open ps (set bs c false) p i n ≡ false
open_fewer ps bs c p i n h =
    let a = (place_of ps p).vertex in
    let b = (place_of ps n).vertex in
    let test = third_place a b in
    fewer (not (a == b)) (list_any test (left_of (set bs i false) ps)) (list_any test (left_of (set (set bs c false) i false) ps))
    (goes_left ps p i n)
    (λ none. ap (λ (l : List Bool). list_any test (left_of l ps)) (set_twice bs c i) ∙ any_fewer test (set bs i false) ps c none) h

-- the reason of a place that does not wait for the one that is cut stays
pub stays : (ps : List Place) (bs : List Bool) (c p i n : ℕ) (waiting : List (List ℕ)) → (In i (get_or waiting c []) → ⊥) →
    HasReason ps bs p i n waiting → HasReason ps (set bs c false) p i n waiting
stays ps bs c p i n waiting free (inl e) = inl (open_fewer ps bs c p i n e)
stays ps bs c p i n waiting free (inr h) = inr (record {
  number = h.number;
  living = lives_kept bs c h.number (λ e. free (subst (λ (w : ℕ). In i (get_or waiting w [])) e h.waits)) h.living;
  blocks = h.blocks;
  waits = h.waits;
})

-- and where more wait
pub more_wait : (ps : List Place) (bs : List Bool) (p i n : ℕ) (waiting new : List (List ℕ)) →
    ((w j : ℕ) → In j (get_or waiting w []) → In j (get_or new w [])) → HasReason ps bs p i n waiting → HasReason ps bs p i n new
more_wait ps bs p i n waiting new more (inl e) = inl e
more_wait ps bs p i n waiting new more (inr h) =
    inr (record { number = h.number; living = h.living; blocks = h.blocks; waits = more h.number i h.waits })

-- one place less in doubt, with its reason
pub settled_more : (ps : List Place) (nx bf : List ℕ) (bs : List Bool) (old new : BTreeSet ℕ) (waiting later : List (List ℕ)) (i : ℕ) →
    AreSettled ps nx bf bs old waiting → length later ≡ length ps →
    ((w j : ℕ) → In j (get_or waiting w []) → In j (get_or later w [])) → HasReason ps bs (before_of bf i) i (after_of nx i) later →
    contains nat_cmp new i ≡ false →
    ((q : ℕ) → q ≢ i → contains nat_cmp new q ≡ contains nat_cmp old q) → AreSettled ps nx bf bs new later
settled_more ps nx bf bs old new waiting later i h many more reason gone others = record {
  many = many;
  known = known;
  reasons = reasons;
}
  where
    known : (q : ℕ) → contains nat_cmp new q ≡ true → lives bs q ≡ true
    known q y = elim (cases_eq q i) as (λ _. lives bs q ≡ true) [
      | inl e ↦ absurd (both_ways (contains nat_cmp new q) (ap (contains nat_cmp new) e ∙ gone) y)
      | inr d ↦ h.known q (sym (others q d) ∙ y)
    ]

    reasons : (q : ℕ) → lives bs q ≡ true → contains nat_cmp new q ≡ false → HasReason ps bs (before_of bf q) q (after_of nx q) later
    reasons q l none = elim (cases_eq q i) as (λ _. HasReason ps bs (before_of bf q) q (after_of nx q) later) [
      | inl e ↦ subst (λ (k : ℕ). HasReason ps bs (before_of bf k) k (after_of nx k) later) (sym e) reason
      | inr d ↦ more_wait ps bs (before_of bf q) q (after_of nx q) waiting later more (h.reasons q l (sym (others q d) ∙ none))
    ]

-- once a place is cut, with what waited for it and its neighbours in doubt
pub settled_without : (ps : List Place) (nx bf : List ℕ) (bs : List Bool) (old new : BTreeSet ℕ) (waiting : List (List ℕ)) (c p n : ℕ) →
    AreSettled ps nx bf bs old waiting →
    ((q : ℕ) → q ≢ c → contains nat_cmp old q ≡ true → contains nat_cmp new q ≡ true) →
    ((q : ℕ) → In q (get_or waiting c []) → lives (set bs c false) q ≡ true → contains nat_cmp new q ≡ true) →
    contains nat_cmp new p ≡ true → contains nat_cmp new n ≡ true →
    ((q : ℕ) → contains nat_cmp new q ≡ true → lives (set bs c false) q ≡ true) → AreSettled ps (set nx p n) (set bf n p) (set bs c false) new waiting
settled_without ps nx bf bs old new waiting c p n h kept woken first last known = record {
  many = h.many;
  known = known;
  reasons = reasons;
}
  where
    reasons : (q : ℕ) → lives (set bs c false) q ≡ true → contains nat_cmp new q ≡ false →
        HasReason ps (set bs c false) (before_of (set bf n p) q) q (after_of (set nx p n) q) waiting
    reasons q l none =
        let not_p : q ≢ p = λ e. both_ways (contains nat_cmp new q) none (ap (contains nat_cmp new) e ∙ first) in
        let not_n : q ≢ n = λ e. both_ways (contains nat_cmp new q) none (ap (contains nat_cmp new) e ∙ last) in
        let before : before_of (set bf n p) q ≡ before_of bf q = get_or-set_other bf n q p 0 not_n in
        let after : after_of (set nx p n) q ≡ after_of nx q = get_or-set_other nx p q n 0 not_p in
        let settled : contains nat_cmp old q ≡ false = elim (cases_Bool (contains nat_cmp old q)) as (λ _. contains nat_cmp old q ≡ false) [
          | inl y ↦ absurd (both_ways (contains nat_cmp new q) none (kept q (lives_other bs c q l) y))
          | inr m ↦ m
        ] in
        let free : In q (get_or waiting c []) → ⊥ = λ w. both_ways (contains nat_cmp new q) none (woken q w l) in
        let r : HasReason ps (set bs c false) (before_of bf q) q (after_of nx q) waiting =
        stays ps bs c (before_of bf q) q (after_of nx q) waiting free (h.reasons q (lives_less bs c q l) settled) in
        subst (λ (j : ℕ). HasReason ps (set bs c false) j q (after_of (set nx p n) q) waiting) (sym before)
        (subst (λ (j : ℕ). HasReason ps (set bs c false) (before_of bf q) q j waiting) (sym after) r)

-- with the least place in doubt an ear, no lesser one is
pub least_is : (ps : List Place) (nx bf : List ℕ) (bs : List Bool) (doubtful : BTreeSet ℕ) (waiting : List (List ℕ)) (i : ℕ) →
    length bs ≡ length ps → AreSettled ps nx bf bs doubtful waiting →
    ((q : ℕ) → contains nat_cmp doubtful q ≡ true → i ≤ q) → (j : ℕ) → lives bs j ≡ true → j < i → is_ear_at ps nx bf bs j ≡ false
least_is ps nx bf bs doubtful waiting i many h low j l less =
    elim (cases_Bool (contains nat_cmp doubtful j)) as (λ _. is_ear_at ps nx bf bs j ≡ false) [
      | inl y ↦ absurd (omega (arith, low j y, less))
      | inr m ↦ refuses ps bs (before_of bf j) j (after_of nx j) waiting many (h.reasons j l m)
    ]

-- with none in doubt there is no ear
pub none_is : (ps : List Place) (nx bf : List ℕ) (bs : List Bool) (doubtful : BTreeSet ℕ) (waiting : List (List ℕ)) →
    length bs ≡ length ps → AreSettled ps nx bf bs doubtful waiting →
    ((q : ℕ) → contains nat_cmp doubtful q ≡ false) → (j : ℕ) → lives bs j ≡ true → is_ear_at ps nx bf bs j ≡ false
none_is ps nx bf bs doubtful waiting many h none j l = refuses ps bs (before_of bf j) j (after_of nx j) waiting many (h.reasons j l (none j))

-- an open place with nothing in its triangle is an ear
pub clear_ear : (ps : List Place) (bs : List Bool) (p i n : ℕ) → is_open ps bs p i n ≡ true →
    ((w : ℕ) → lives bs w ≡ true → blocks_at ps p i n w ≡ false) → is_ear_of ps bs p i n ≡ true
clear_ear ps bs p i n may clear =
    both (is_open ps bs p i n) (list_any (place_blocks (place_of ps p) (place_of ps i) (place_of ps n)) (left_of bs ps)) may
    (none_any (place_blocks (place_of ps p) (place_of ps i) (place_of ps n)) bs ps clear)
  where
    both : (a b : Bool) → a ≡ true → b ≡ false → (a && not b) ≡ true
    both a b e f = rw (e, f) refl
