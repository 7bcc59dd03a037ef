use Rattle.std.proofs.Common.{◌≡◌, ◌≢◌, ◌+◌, ◌-◌, ◌<◌, ◌≤◌, ℕ, suc, List, [], ◌∷◌, length, get_or, arith, subst, inl, inr}
use Rattle.std.specs.Prelude.{◌==◌}
use Rattle.std.proofs.lemmas.Bool.{cases_lt, eqb-false, not-true}
use Rattle.std.proofs.lemmas.List.Elements.{All-cons, All-nil, All-append}
use Rattle.chain_terms.specs.Paths.{path, last_of, round_edges}
use Rattle.ring_cutting.proofs.Rounds.{Apart}
use Rattle.ring_cutting.proofs.Turned.{get_or-last}
use Rattle.face_tests.proofs.cutting.are_apart.Goals as goal

-- a path whose neighbours differ
path_apart : (x : ℕ) (s : List ℕ) → ((k : ℕ) → k + 1 < suc (length s) → get_or (x ∷ s) k 0 ≢ get_or (x ∷ s) (k + 1) 0) → Apart (path x s)
path_apart x [] h = All-nil (λ (e : ℕ × ℕ). e.0 ≢ e.1)
path_apart x (y ∷ s) h =
    let P : (ℕ × ℕ) → Type 0 = λ e. e.0 ≢ e.1 in
    let next : (k : ℕ) → suc k + 1 ≡ suc (k + 1) = λ k. omega arith in
    All-cons P (x, y) (path y s) (h 0 (omega arith))
    (path_apart y s (λ k low. subst (λ (j : ℕ). get_or (x ∷ y ∷ s) (suc k) 0 ≢ get_or (x ∷ y ∷ s) j 0) (next k) (h (suc k) (omega (arith, low)))))

-- a round whose neighbours differ
round_apart : (r : List ℕ) → 0 < length r → ((k : ℕ) → k + 1 < length r → get_or r k 0 ≢ get_or r (k + 1) 0) → get_or r (length r - 1) 0 ≢ get_or r 0 0 → Apart (round_edges r)
round_apart [] some h end = absurd (omega (arith, some))
round_apart (x ∷ s) some h end =
    let P : (ℕ × ℕ) → Type 0 = λ e. e.0 ≢ e.1 in
    let at : length (x ∷ s) - 1 ≡ length s = omega arith in
    let last : last_of x s ≢ x = subst (λ (v : ℕ). v ≢ x) (get_or-last x s) (subst (λ (k : ℕ). get_or (x ∷ s) k 0 ≢ x) at end) in
    All-append P (path x s) ((last_of x s, x) ∷ []) (path_apart x s h) (All-cons P (last_of x s, x) [] last (All-nil P))

pub loop-i-init : goal.loop-i-init
loop-i-init c = λ k low. absurd (omega (arith, low))

-- one more pair
pairs_more : (r : List ℕ) (i : ℕ) → 1 ≤ i → ((k : ℕ) → k + 1 < i → get_or r k 0 ≢ get_or r (k + 1) 0) → get_or r (i - 1) 0 ≢ get_or r i 0 → (k : ℕ) →
    k + 1 < i + 1 → get_or r k 0 ≢ get_or r (k + 1) 0
pairs_more r i some before here k low = elim (cases_lt (k + 1) i) as (λ _. get_or r k 0 ≢ get_or r (k + 1) 0) [
  | inl l ↦ before k l
  | inr l ↦
      let first : i - 1 ≡ k = omega (arith, some, low, l) in
      let second : i ≡ k + 1 = omega (arith, some, low, l) in
      subst (λ (j : ℕ). get_or r j 0 ≢ get_or r (k + 1) 0) first (subst (λ (j : ℕ). get_or r (i - 1) 0 ≢ get_or r j 0) second here)
]

pub loop-i-preserved : goal.loop-i-preserved
loop-i-preserved c = pairs_more c.args.ring.now c.loop-i.i c.loop-i.auto.i c.loop-i.invariant c.if-ring-i.false

pub returns : goal.returns
returns c = λ yes.
    let r = c.args.ring.now in
    let end = eqb-false (get_or r (length r - 1) 0) (get_or r 0 0) (not-true (get_or r (length r - 1) 0 == get_or r 0 0) yes) in
    round_apart r c.requires (λ k low. c.loop-i.invariant k (omega (arith, low, c.loop-i-test.false))) end
