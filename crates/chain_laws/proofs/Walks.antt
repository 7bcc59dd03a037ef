-- Going along a map that has an inverse: the walk comes back to where it began, and what it passed is kept by the map.
use Rattle.std.specs.Prelude.{◌≡◌, ◌≢◌, ℕ, zero, suc, ◌+◌, ◌-◌, ◌<◌, ◌≤◌, pos, ◌≤ℤ◌, ◌⊎◌}
use Rattle.std.proofs.Common.{arith, sym, subst, ap, ◌∙◌, inl, inr}
use Rattle.std.proofs.lemmas.Int.{ints}
use Rattle.std.proofs.lemmas.Bool.{cases_eq}
use Rattle.chain_terms.specs.Sums.{total, upto}
use Rattle.chain_laws.specs.Sums.{total-swap, total-zero}
use Rattle.chain_terms.specs.Permutations.{AreInverse, times, Returns}
use Rattle.chain_laws.proofs.Places.{where_same, where_same-apart, where_same-at, total-upto_more, total-upto_same, total-upto_ones, total-upto_at_most, one_hit}

-- the walk stays below n
pub times_below : (s t : ℕ → ℕ) (n : ℕ) → AreInverse s t n → (k x : ℕ) → x < n → times s k x < n
times_below s t n inverse zero x h = h
times_below s t n inverse (suc k) x h = inverse.below (times s k x) (times_below s t n inverse k x h)

-- m steps, then j more
pub times-add : (s : ℕ → ℕ) (j m x : ℕ) → times s (j + m) x ≡ times s j (times s m x)
times-add s zero m x = let none : 0 + m ≡ m = omega arith in ap (λ k. times s k x) none
times-add s (suc j) m x = let more : suc j + m ≡ suc (j + m) = omega arith in ap (λ k. times s k x) more ∙ ap s (times-add s j m x)

-- equal after a step: equal before it
pub same_before : (s t : ℕ → ℕ) (n : ℕ) → AreInverse s t n → (x y : ℕ) → x < n → y < n → s x ≡ s y → x ≡ y
same_before s t n inverse x y hx hy e = sym (inverse.forth x hx) ∙ ap t e ∙ inverse.forth y hy

-- equal after j steps: equal before them
pub same_before_times : (s t : ℕ → ℕ) (n : ℕ) → AreInverse s t n → (j x y : ℕ) → x < n → y < n → times s j x ≡ times s j y → x ≡ y
same_before_times s t n inverse zero x y hx hy e = e
same_before_times s t n inverse (suc j) x y hx hy e =
    same_before_times s t n inverse j x y hx hy (same_before s t n inverse (times s j x) (times s j y) (times_below s t n inverse j x hx) (times_below s t n inverse j y hy) e)

-- a walk of k steps from h that has not been at h again
pub record IsOpen (s : ℕ → ℕ) (h k : ℕ) : Type 0 where
  pub open_so_far : (j : ℕ) → 0 < j → j ≤ k → times s j h ≢ h

-- at the start
pub open_start : (s : ℕ → ℕ) (h : ℕ) → IsOpen s h 0
open_start s h = record { open_so_far = λ j p q. absurd (omega (arith, p, q)) }

-- where the next step does not lead back, the walk goes on
pub open_more : (s : ℕ → ℕ) (h k : ℕ) → IsOpen s h k → times s (suc k) h ≢ h → IsOpen s h (suc k)
open_more s h k walk apart = record {
  open_so_far = λ j p q. elim (cases_eq j (suc k)) as (λ _. times s j h ≢ h) [
    | inl e ↦ λ back. apart (ap (λ i. times s i h) (sym e) ∙ back)
    | inr d ↦ walk.open_so_far j p (omega (arith, q, d))
  ];
}

-- the places of an open walk are different
pub open_different : (s t : ℕ → ℕ) (n : ℕ) → AreInverse s t n → (h k : ℕ) → h < n → IsOpen s h k → (i j : ℕ) → i < j → j ≤ k → times s i h ≢ times s j h
open_different s t n inverse h k hn walk i j l m = λ e.
    let split : i + (j - i) ≡ j = omega (arith, l) in
    let back : h ≡ times s (j - i) h = same_before_times s t n inverse i h (times s (j - i) h) hn (times_below s t n inverse (j - i) h hn)
    (e ∙ ap (λ k. times s k h) (sym split) ∙ times-add s i (j - i) h) in
    walk.open_so_far (j - i) (omega (arith, l)) (omega (arith, l, m)) (sym back)

-- a set that t keeps, and that has not h, has no place of the walk from h
pub never_done : (s t : ℕ → ℕ) (n : ℕ) → AreInverse s t n → (Done : ℕ → Type 0) → ((x : ℕ) → x < n → Done x → Done (t x)) → (h : ℕ) → h < n → (Done h → ⊥) →
    (k : ℕ) → Done (times s k h) → ⊥
never_done s t n inverse Done keeps h hn fresh zero d = fresh d
never_done s t n inverse Done keeps h hn fresh (suc k) d =
    let here = times_below s t n inverse k h hn in
    never_done s t n inverse Done keeps h hn fresh k (subst Done (inverse.forth (times s k h) here) (keeps (s (times s k h)) (inverse.below (times s k h) here) d))

-- x is a place of the walk of k steps from h
abbrev pub IsOn : (ℕ → ℕ) → ℕ → ℕ → ℕ → Type 0
IsOn s h k x = (j : ℕ) × (j ≤ k) × (times s j h ≡ x)

-- where the next place is one that was passed, or one of a set that t keeps, the walk is back at h
pub comes_back : (s t : ℕ → ℕ) (n : ℕ) → AreInverse s t n → (Done : ℕ → Type 0) → ((x : ℕ) → x < n → Done x → Done (t x)) → (h k : ℕ) → h < n → (Done h → ⊥) → IsOpen s h k →
    Done (times s (suc k) h) ⊎ IsOn s h k (times s (suc k) h) → times s (suc k) h ≡ h
comes_back s t n inverse Done keeps h k hn fresh walk (inl d) = absurd (never_done s t n inverse Done keeps h hn fresh (suc k) d)
comes_back s t n inverse Done keeps h k hn fresh walk (inr (zero, l, e)) = sym e
comes_back s t n inverse Done keeps h k hn fresh walk (inr (suc j, l, e)) =
    let before = same_before s t n inverse (times s j h) (times s k h) (times_below s t n inverse j h hn) (times_below s t n inverse k h hn) e in
    absurd (open_different s t n inverse h k hn walk j k (omega (arith, l)) (omega arith) before)

-- once back, s keeps the places of the walk
pub next_is_on : (s : ℕ → ℕ) (h k : ℕ) → times s (suc k) h ≡ h → (x : ℕ) → IsOn s h k x → IsOn s h k (s x)
next_is_on s h k back x (j, l, e) = elim (cases_eq j k) as (λ _. IsOn s h k (s x)) [
  | inl q ↦ (0, omega arith, sym back ∙ ap (λ i. s (times s i h)) (sym q) ∙ ap s e)
  | inr d ↦ (suc j, omega (arith, l, d), ap s e)
]

-- and so does t
pub back_is_on : (s t : ℕ → ℕ) (n : ℕ) → AreInverse s t n → (h k : ℕ) → h < n → times s (suc k) h ≡ h → (x : ℕ) → IsOn s h k x → IsOn s h k (t x)
back_is_on s t n inverse h k hn back x (zero, l, e) =
    (k, omega arith, sym (inverse.forth (times s k h) (times_below s t n inverse k h hn)) ∙ ap t (back ∙ e))
back_is_on s t n inverse h k hn back x (suc j, l, e) =
    (j, omega (arith, l), sym (inverse.forth (times s j h) (times_below s t n inverse j h hn)) ∙ ap t e)

-- of m different numbers at most one is x
pub at_most_one : (f : ℕ → ℕ) (m x : ℕ) → ((i j : ℕ) → i < j → j < m → f i ≢ f j) → total (λ j. where_same x (f j) (pos 1)) (upto m) ≤ℤ pos 1
at_most_one f zero x h = omega (arith, ints)
at_most_one f (suc m) x h =
    let one : suc m ≡ m + 1 = omega arith in
    let more = ap (λ k. total (λ j. where_same x (f j) (pos 1)) (upto k)) one ∙ total-upto_more (λ j. where_same x (f j) (pos 1)) m in
    elim (cases_eq x (f m)) as (λ _. total (λ j. where_same x (f j) (pos 1)) (upto (suc m)) ≤ℤ pos 1) [
      | inl e ↦
          let others = total-upto_same (λ j. where_same x (f j) (pos 1)) (λ j. pos 0) m (λ j b. where_same-apart x (f j) (pos 1) (λ q. h j m b (omega arith) (sym q ∙ e))) in
          omega (arith, ints, more, where_same-at x (f m) (pos 1) e, others, total-zero (upto m))
      | inr d ↦ omega (arith, ints, more, where_same-apart x (f m) (pos 1) d, at_most_one f m x (λ i j p q. h i j p (omega (arith, q))))
    ]

-- different numbers below n are at most n
pub different_below : (f : ℕ → ℕ) (m n : ℕ) → ((j : ℕ) → j < m → f j < n) → ((i j : ℕ) → i < j → j < m → f i ≢ f j) → m ≤ n
different_below f m n below different =
    let each = total-upto_same (λ j. pos 1) (λ j. total (λ x. where_same x (f j) (pos 1)) (upto n)) m (λ j b. sym (one_hit (pos 1) (f j) n (below j b))) in
    let exchange = total-swap (λ j x. where_same x (f j) (pos 1)) (upto m) (upto n) in
    let few = total-upto_at_most (λ x. total (λ j. where_same x (f j) (pos 1)) (upto m)) 1 n (λ x b. at_most_one f m x different) in
    omega (arith, ints, each, exchange, few, total-upto_ones m)

-- the steps of an open walk are fewer than n
pub open_short : (s t : ℕ → ℕ) (n : ℕ) → AreInverse s t n → (h k : ℕ) → h < n → IsOpen s h k → k < n
open_short s t n inverse h k hn walk =
    omega (
      arith,
      different_below (λ j. times s j h) (suc k) n (λ j b. times_below s t n inverse j h hn)
          (λ i j l m. open_different s t n inverse h k hn walk i j l (omega (arith, m))),
    )

-- a walk comes back, whatever may still be ahead
pub returns_within : (s t : ℕ → ℕ) (n : ℕ) → AreInverse s t n → (h : ℕ) → h < n → (ahead k : ℕ) → n ≡ k + ahead → IsOpen s h k → Returns s n h
returns_within s t n inverse h hn zero k e walk = absurd (omega (arith, e, open_short s t n inverse h k hn walk))
returns_within s t n inverse h hn (suc ahead) k e walk = elim (cases_eq (times s (suc k) h) h) as (λ _. Returns s n h) [
  | inl back ↦ record { steps = suc k; some = omega arith; few = omega (arith, e); back = back }
  | inr apart ↦ returns_within s t n inverse h hn ahead (suc k) (omega (arith, e)) (open_more s h k walk apart)
]

-- going along a map that has an inverse leads back to where it began
pub returns : (s t : ℕ → ℕ) (n : ℕ) → AreInverse s t n → (h : ℕ) → h < n → Returns s n h
returns s t n inverse h hn = returns_within s t n inverse h hn n 0 (omega arith) (open_start s h)
