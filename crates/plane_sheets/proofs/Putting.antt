-- Numbers put in at the place of their label.
use Rattle.std.proofs.Common.{arith, ◌≡◌, ℕ, zero, suc, ◌<◌, ◌≤◌, ◌==◌, ◌&&◌, ℤ, ◌+ℤ◌, List, [], ◌∷◌, true, false, get_or, length, map, nat_lt, set, unsigned_abs, sym, ap, ◌∙◌, inl, inr}
use Rattle.std.specs.List.{insert}
use Rattle.std.specs.List.Sorted.{IsNonDecreasingBy}
use Rattle.std.proofs.lemmas.Bool.{and_parts, and_from, both_ways, eq-eqb, eqb-true, lt-ltb, ltb-true, cases_eq}
use Rattle.plane_sheets.specs.declared.side_numbers.SideNumbers.{SideNumbers}
use Rattle.plane_sheets.specs.Sides.{RiseFrom, lefts, no_sides, put_in, size_held}
use Rattle.plane_sheets.proofs.Held.{put_first, put_here, put_later, size_held-cons}
use Rattle.plane_sheets.proofs.Ties.{StepsBy, rise_steps, steps_lower}

-- labels with numbers of one side
abbrev pub sided : (SideNumbers → ℤ) → List SideNumbers → List (ℕ × ℤ)
sided f ss = map (λ s. (s.label, f s)) ss

-- a label that stands at the place gets its number there
pub put_set : (f : SideNumbers → ℤ) (l : ℕ) (x : ℤ) (ss : List SideNumbers) (i : ℕ) (r : SideNumbers) → i < length ss → ((k : ℕ) → k < i → (get_or ss k no_sides).label < l) →
    (get_or ss i no_sides).label ≡ l → r.label ≡ l → f r ≡ f (get_or ss i no_sides) +ℤ x → sided f (set ss i r) ≡ put_in l x (sided f ss)
put_set f l x [] i r below before here label value = absurd (omega (arith, below))
put_set f l x (s ∷ ss) zero r below before here label value =
    ap (λ k. (k, f r) ∷ sided f ss) label ∙ ap (λ z. (l, z) ∷ sided f ss) value ∙ sym (put_here l x (s.label, f s) (sided f ss) here)
put_set f l x (s ∷ ss) (suc i) r below before here label value =
    ap (λ t. (s.label, f s) ∷ t) (put_set f l x ss i r (omega (arith, below)) (λ k h. before (suc k) (omega (arith, h))) here label value)
    ∙ sym (put_later l x (s.label, f s) (sided f ss) (before 0 (omega arith)))

-- another one is inserted there
pub put_insert : (f : SideNumbers → ℤ) (l : ℕ) (x : ℤ) (ss : List SideNumbers) (i : ℕ) (r : SideNumbers) → i ≤ length ss → ((k : ℕ) → k < i → (get_or ss k no_sides).label < l) →
    (i < length ss → l < (get_or ss i no_sides).label) → r.label ≡ l → f r ≡ x → sided f (insert ss i r) ≡ put_in l x (sided f ss)
put_insert f l x [] zero r within before after label value = ap (λ k. (k, f r) ∷ []) label ∙ ap (λ z. (l, z) ∷ []) value
put_insert f l x [] (suc i) r within before after label value = absurd (omega (arith, within))
put_insert f l x (s ∷ ss) zero r within before after label value =
    ap (λ k. (k, f r) ∷ (s.label, f s) ∷ sided f ss) label ∙ ap (λ z. (l, z) ∷ (s.label, f s) ∷ sided f ss) value
    ∙ sym (put_first l x (s.label, f s) (sided f ss) (after (omega arith)))
put_insert f l x (s ∷ ss) (suc i) r within before after label value =
    ap (λ t. (s.label, f s) ∷ t) (put_insert f l x ss i r (omega (arith, within)) (λ k h. before (suc k) (omega (arith, h))) (λ h. after (omega (arith, h))) label value)
    ∙ sym (put_later l x (s.label, f s) (sided f ss) (before 0 (omega arith)))

-- labels that rise don't fall
rise_from : (k : ℕ) (ss : List SideNumbers) → RiseFrom k (lefts ss) → StepsBy (λ s. s.label) k ss
rise_from k [] r = tt
rise_from k (s ∷ ss) r = (r.0, steps_lower (λ s. s.label) s.label (suc s.label) ss (omega arith) (rise_from (suc s.label) ss r.1))

pub labels_rise : (ss : List SideNumbers) → RiseFrom 0 (lefts ss) → IsNonDecreasingBy (λ s. s.label) ss
labels_rise ss r = rise_steps (λ s. s.label) 0 ss (rise_from 0 ss r)

-- no number is greater in size than all together
pub size_at : (f : SideNumbers → ℤ) (ss : List SideNumbers) (i : ℕ) → i < length ss → unsigned_abs (f (get_or ss i no_sides)) ≤ size_held (sided f ss)
size_at f [] i h = absurd (omega (arith, h))
size_at f (s ∷ ss) zero h = omega (arith, size_held-cons (s.label, f s) (sided f ss))
size_at f (s ∷ ss) (suc i) h = omega (arith, size_held-cons (s.label, f s) (sided f ss), size_at f ss i (omega (arith, h)))

-- what a look at a place says
pub label_there : (ss : List SideNumbers) (i l : ℕ) → (nat_lt i (length ss) && ((get_or ss i no_sides).label == l)) ≡ true → (i < length ss) × ((get_or ss i no_sides).label ≡ l)
label_there ss i l h =
    let both = and_parts (nat_lt i (length ss)) ((get_or ss i no_sides).label == l) h in (ltb-true i (length ss) both.0, eqb-true (get_or ss i no_sides).label l both.1)

pub label_after : (ss : List SideNumbers) (i l : ℕ) → (nat_lt i (length ss) && ((get_or ss i no_sides).label == l)) ≡ false →
    ((k : ℕ) → i ≤ k → k < length ss → l ≤ (get_or ss k no_sides).label) → i < length ss → l < (get_or ss i no_sides).label
label_after ss i l h from below =
    let low = from i (omega arith) below in
    elim (cases_eq (get_or ss i no_sides).label l) as (λ _. l < (get_or ss i no_sides).label) [
      | inl same ↦
          absurd (both_ways _ h (and_from (nat_lt i (length ss)) ((get_or ss i no_sides).label == l) (lt-ltb i (length ss) below)
          (eq-eqb (get_or ss i no_sides).label l same)))
      | inr other ↦ omega (arith, low, other)
    ]
