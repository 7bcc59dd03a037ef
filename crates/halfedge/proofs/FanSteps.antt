-- Fans numbered one after the other, in the order of their starts.
use Rattle.std.proofs.Common.{◌≡◌, ◌≢◌, ◌<◌, ◌≤◌, ◌+◌, ◌⊎◌, inl, inr, ℕ, zero, suc, List, [], ◌∷◌, ◌++◌, length, get_or, replicate, refl, sym, ◌∙◌, ap, subst, arith}
use Rattle.std.proofs.lemmas.Bool.{cases_lt, cases_eq}
use Rattle.std.proofs.lemmas.List.{length-append, get_or_append_left, get_or_push, get_or-replicate, length-replicate}
use Rattle.chain_terms.specs.Chains.{all_edges, IsClosed}
use Rattle.chain_terms.specs.Permutations.{Returns}
use Rattle.chain_terms.specs.Ranks.{start, twin}
use Rattle.chain_laws.proofs.Walks.{times_below, returns}
use Rattle.mesh_terms.specs.Limits.{most_triangles}
use Rattle.mesh_terms.specs.Meshes.{Triple}
use Rattle.mesh_terms.specs.Halves.{prev_half, around, around_times, SameFan}
use Rattle.mesh_terms.specs.Fans.{AreFans}
use Rattle.halfedge.specs.Numbering.{no_fan, AreInOrder, ordered_at, AreKeptAround, IsFanNumbered}
use Rattle.halfedge.proofs.FanProgress.{AreFansSoFar}
use Rattle.halfedge.proofs.Around.{around_inverse, times_start}
use Rattle.halfedge.proofs.Edges.{length-all_edges}
use Rattle.halfedge.proofs.FanOrder.{order_length, ordered_below, order_place, starts_ascend, halves_ascend}

-- a number that is kept around is the same in the whole fan
pub same_in_fan : (ts : List Triple) → IsClosed (all_edges ts) → (of : List ℕ) → AreKeptAround (all_edges ts) of → (h : ℕ) → h < length (all_edges ts) →
    (n : ℕ) → get_or of (around_times (all_edges ts) n h) 0 ≡ get_or of h 0
same_in_fan ts closed of kept h below zero = refl
same_in_fan ts closed of kept h below (suc n) =
    kept (around_times (all_edges ts) n h)
    (times_below (around (all_edges ts)) (λ g. twin (all_edges ts) (prev_half g)) (length (all_edges ts)) (around_inverse ts closed) n h below)
    ∙ same_in_fan ts closed of kept h below n

-- no half-edge was looked at
pub no_fans : (ts : List Triple) → IsClosed (all_edges ts) → (order : List (ℕ × ℕ)) (n : ℕ) → n ≡ length (all_edges ts) →
    AreFansSoFar (all_edges ts) order 0 (replicate n no_fan) []
no_fans ts closed order n full = record {
  full = length-replicate n no_fan ∙ full;
  few = omega arith;
  kept_around = λ x below. get_or-replicate n (around (all_edges ts) x) no_fan 0 (omega (arith, (around_inverse ts closed).below x below, full))
      ∙ sym (get_or-replicate n x no_fan 0 (omega (arith, below, full)));
  each = λ x below. inl (get_or-replicate n x no_fan 0 (omega (arith, below, full)));
  first_in = λ k few. absurd (omega (arith, few));
  reached = λ x below few. absurd (omega (arith, few));
  least = λ x below few. absurd (omega (arith, few));
  by_start = λ j k less few. absurd (omega (arith, few));
  by_half = λ j k less few. absurd (omega (arith, few));
  seen = λ j few. absurd (omega (arith, few));
  earlier = λ k few. absurd (omega (arith, few));
}

-- the lists, as they stand later
pub fans_as : (es order : List (ℕ × ℕ)) (i : ℕ) (of of_later first first_later : List ℕ) → of_later ≡ of → first_later ≡ first →
    AreFansSoFar es order i of first → AreFansSoFar es order i of_later first_later
fans_as es order i of of_later first first_later of_is first_is fans =
    subst (λ l. AreFansSoFar es order i l first_later) (sym of_is) (subst (λ l. AreFansSoFar es order i of l) (sym first_is) fans)

-- a half-edge that has a number is passed over
pub fan_seen : (es order : List (ℕ × ℕ)) (i : ℕ) (of first : List ℕ) → AreInOrder es order → i < length order → AreFansSoFar es order i of first →
    get_or of (ordered_at order i) 0 ≢ no_fan → AreFansSoFar es order (i + 1) of first
fan_seen es order i of first known below fans has = record {
  full = fans.full;
  few = omega (arith, fans.few);
  kept_around = fans.kept_around;
  each = fans.each;
  first_in = fans.first_in;
  reached = fans.reached;
  least = fans.least;
  by_start = fans.by_start;
  by_half = fans.by_half;
  seen = λ j few. elim (cases_eq j i) as (λ _. get_or of (ordered_at order j) 0 < length first) [
    | inl e ↦ subst (λ k. get_or of (ordered_at order k) 0 < length first) (sym e) (numbered (fans.each (ordered_at order i) (ordered_below es order known i below)))
    | inr d ↦ fans.seen j (omega (arith, few, d))
  ];
  earlier = λ k few. later k (fans.earlier k few);
}
  where
    numbered : (get_or of (ordered_at order i) 0 ≡ no_fan) ⊎ (get_or of (ordered_at order i) 0 < length first) → get_or of (ordered_at order i) 0 < length first
    numbered (inl none) = absurd (has none)
    numbered (inr some) = some

    later : (k : ℕ) → (j : ℕ) × (j < i) × (ordered_at order j ≡ get_or first k 0) → (j : ℕ) × (j < i + 1) × (ordered_at order j ≡ get_or first k 0)
    later k (j, l, e) = (j, omega (arith, l), e)

-- a half-edge that has none is the least of a fan
pub fan_more : (ts : List Triple) → IsClosed (all_edges ts) → length ts ≤ most_triangles → (order : List (ℕ × ℕ)) (i : ℕ) (of new first : List ℕ) →
    AreInOrder (all_edges ts) order → i < length order →
    AreFansSoFar (all_edges ts) order i of first → get_or of (ordered_at order i) 0 ≡ no_fan → IsFanNumbered (all_edges ts) (ordered_at order i)
    (length first) of new → AreFansSoFar (all_edges ts) order (i + 1) new (first ++ ordered_at order i ∷ [])
fan_more ts closed few order i of new first known below fans none numbered = record {
  full = numbered.full;
  few = omega (arith, fans.few, more);
  kept_around = numbered.kept_around;
  each = λ x l. each_new x (numbered.each x l) (fans.each x l);
  first_in = first_in_new;
  reached = λ x l m. reached_new x l m (numbered.each x l) (fans.each x l);
  least = λ x l m. least_new x l m (numbered.each x l) (fans.each x l);
  by_start = by_start_new;
  by_half = by_half_new;
  seen = seen_new;
  earlier = earlier_new;
}
  where
    es : List (ℕ × ℕ)
    es = all_edges ts

    h : ℕ
    h = ordered_at order i

    f : ℕ
    f = length first

    both : List ℕ
    both = first ++ h ∷ []

    hn : h < length es
    hn = ordered_below es order known i below

    more : length both ≡ f + 1
    more = length-append first (h ∷ [])

    under : f < no_fan
    under = omega (arith, fans.few, below, order_length es order known, length-all_edges ts, few)

    fresh : (x : ℕ) → SameFan es h x → get_or of x 0 ≡ no_fan
    fresh x (n, e) = ap (λ g. get_or of g 0) (sym e) ∙ same_in_fan ts closed of fans.kept_around h hn n ∙ none

    old_at : (k : ℕ) → k < f → get_or both k 0 ≡ get_or first k 0
    old_at k l = get_or_append_left first (h ∷ []) 0 k l

    last_at : (k : ℕ) → k ≡ f → get_or both k 0 ≡ h
    last_at k e = get_or_push first h 0 k (sym e)

    kept_by : (x : ℕ) → get_or of x 0 < f → ((get_or new x 0 ≡ f) × SameFan es h x) ⊎ (get_or new x 0 ≡ get_or of x 0) → get_or new x 0 ≡ get_or of x 0
    kept_by x some (inl (is, same)) = absurd (omega (arith, some, fresh x same, under))
    kept_by x some (inr same) = same

    kept : (x : ℕ) → x < length es → get_or of x 0 < f → get_or new x 0 ≡ get_or of x 0
    kept x l some = kept_by x some (numbered.each x l)

    each_new : (x : ℕ) → ((get_or new x 0 ≡ f) × SameFan es h x) ⊎ (get_or new x 0 ≡ get_or of x 0) → (get_or of x 0 ≡ no_fan) ⊎ (get_or of x 0 < f) →
        (get_or new x 0 ≡ no_fan) ⊎ (get_or new x 0 < length both)
    each_new x (inl (is, same)) old = inr (omega (arith, is, more))
    each_new x (inr same) (inl has_none) = inl (same ∙ has_none)
    each_new x (inr same) (inr some) = inr (omega (arith, same, some, more))

    first_in_new : (k : ℕ) → k < length both → (get_or both k 0 < length es) × (get_or new (get_or both k 0) 0 ≡ k)
    first_in_new k m = elim (cases_lt k f) as (λ _. (get_or both k 0 < length es) × (get_or new (get_or both k 0) 0 ≡ k)) [
      | inl l ↦
          let old = fans.first_in k l in
          subst (λ x. (x < length es) × (get_or new x 0 ≡ k)) (sym (old_at k l)) (old.0, kept (get_or first k 0) old.0 (omega (arith, old.1, l)) ∙ old.1)
      | inr l ↦
          let e : k ≡ f = omega (arith, l, m, more) in
          subst (λ x. (x < length es) × (get_or new x 0 ≡ k)) (sym (last_at k e)) (hn, numbered.here ∙ sym e)
    ]

    reached_new : (x : ℕ) → x < length es → get_or new x 0 < length both → ((get_or new x 0 ≡ f) × SameFan es h x) ⊎ (get_or new x 0 ≡ get_or of x 0) →
        (get_or of x 0 ≡ no_fan) ⊎ (get_or of x 0 < f) → SameFan es (get_or both (get_or new x 0) 0) x
    reached_new x l m (inl (is, same)) old = subst (λ g. SameFan es g x) (sym (last_at (get_or new x 0) is)) same
    reached_new x l m (inr same) (inl has_none) = absurd (omega (arith, m, same, has_none, more, under))
    reached_new x l m (inr same) (inr some) = subst (λ g. SameFan es g x) (sym (ap (λ k. get_or both k 0) same ∙ old_at (get_or of x 0) some)) (fans.reached x l some)

    least_in : (x : ℕ) → SameFan es h x → (j : ℕ) × (j < length order) × (ordered_at order j ≡ x) → h ≤ x
    least_in x (n, e) (j, l, at) = elim (cases_lt j i) as (λ _. h ≤ x) [
      | inl before ↦ absurd (omega (arith, fans.seen j before, ap (λ g. get_or of g 0) at, fresh x (n, e), under))
      | inr after ↦
          let same : start es h ≡ start es (ordered_at order j) = sym (times_start ts closed h hn n) ∙ ap (start es) (e ∙ sym at) in
          omega (arith, halves_ascend es order known i j after l same, at)
    ]

    least_new : (x : ℕ) → x < length es → get_or new x 0 < length both → ((get_or new x 0 ≡ f) × SameFan es h x) ⊎ (get_or new x 0 ≡ get_or of x 0) →
        (get_or of x 0 ≡ no_fan) ⊎ (get_or of x 0 < f) → get_or both (get_or new x 0) 0 ≤ x
    least_new x l m (inl (is, same)) old = subst (λ g. g ≤ x) (sym (last_at (get_or new x 0) is)) (least_in x same (order_place es order known x l))
    least_new x l m (inr same) (inl has_none) = absurd (omega (arith, m, same, has_none, more, under))
    least_new x l m (inr same) (inr some) = subst (λ g. g ≤ x) (sym (ap (λ k. get_or both k 0) same ∙ old_at (get_or of x 0) some)) (fans.least x l some)

    start_before : (g : ℕ) → (j : ℕ) × (j < i) × (ordered_at order j ≡ g) → start es g ≤ start es h
    start_before g (j, l, e) = subst (λ x. start es x ≤ start es h) e (starts_ascend es order known j i (omega (arith, l)) below)

    half_before : (g : ℕ) → start es g ≡ start es h → (j : ℕ) × (j < i) × (ordered_at order j ≡ g) → g ≤ h
    half_before g same (j, l, e) = subst (λ x. x ≤ h) e (halves_ascend es order known j i (omega (arith, l)) below (ap (start es) e ∙ same))

    by_start_new : (j k : ℕ) → j < k → k < length both → start es (get_or both j 0) ≤ start es (get_or both k 0)
    by_start_new j k less m = elim (cases_lt k f) as (λ _. start es (get_or both j 0) ≤ start es (get_or both k 0)) [
      | inl l ↦ omega (arith, fans.by_start j k less l, ap (start es) (old_at j (omega (arith, less, l))), ap (start es) (old_at k l))
      | inr l ↦
          let e : k ≡ f = omega (arith, l, m, more) in
          let jf : j < f = omega (arith, less, e) in
          omega (arith, start_before (get_or first j 0) (fans.earlier j jf), ap (start es) (old_at j jf), ap (start es) (last_at k e))
    ]

    different : (j : ℕ) → j < f → get_or first j 0 ≢ h
    different j l same = omega (arith, (fans.first_in j l).1, ap (λ x. get_or of x 0) same, none, l, under)

    by_half_new : (j k : ℕ) → j < k → k < length both → start es (get_or both j 0) ≡ start es (get_or both k 0) → get_or both j 0 < get_or both k 0
    by_half_new j k less m same = elim (cases_lt k f) as (λ _. get_or both j 0 < get_or both k 0) [
      | inl l ↦
          let jf : j < f = omega (arith, less, l) in
          omega (arith, fans.by_half j k less l (sym (ap (start es) (old_at j jf)) ∙ same ∙ ap (start es) (old_at k l)), old_at j jf, old_at k l)
      | inr l ↦
          let e : k ≡ f = omega (arith, l, m, more) in
          let jf : j < f = omega (arith, less, e) in
          let at_start : start es (get_or first j 0) ≡ start es h = sym (ap (start es) (old_at j jf)) ∙ same ∙ ap (start es) (last_at k e) in
          omega (arith, half_before (get_or first j 0) at_start (fans.earlier j jf), different j jf, old_at j jf, last_at k e)
    ]

    seen_new : (j : ℕ) → j < i + 1 → get_or new (ordered_at order j) 0 < length both
    seen_new j m = elim (cases_eq j i) as (λ _. get_or new (ordered_at order j) 0 < length both) [
      | inl e ↦ subst (λ k. get_or new (ordered_at order k) 0 < length both) (sym e) (omega (arith, numbered.here, more))
      | inr d ↦
          let l : j < i = omega (arith, m, d) in
          omega (arith, fans.seen j l, kept (ordered_at order j) (ordered_below es order known j (omega (arith, l, below))) (fans.seen j l), more)
    ]

    earlier_old : (k : ℕ) → k < f → (j : ℕ) × (j < i) × (ordered_at order j ≡ get_or first k 0) → (j : ℕ) × (j < i + 1) × (ordered_at order j ≡ get_or both k 0)
    earlier_old k m (j, l, e) = (j, omega (arith, l), e ∙ sym (old_at k m))

    earlier_new : (k : ℕ) → k < length both → (j : ℕ) × (j < i + 1) × (ordered_at order j ≡ get_or both k 0)
    earlier_new k m = elim (cases_lt k f) as (λ _. (j : ℕ) × (j < i + 1) × (ordered_at order j ≡ get_or both k 0)) [
      | inl l ↦ earlier_old k l (fans.earlier k l)
      | inr l ↦ (i, omega arith, sym (last_at k (omega (arith, l, m, more))))
    ]

-- when all half-edges were looked at, these are the fans
pub all_fans : (ts : List Triple) → IsClosed (all_edges ts) → length ts ≤ most_triangles → (order : List (ℕ × ℕ)) (of first : List ℕ) →
    AreInOrder (all_edges ts) order → AreFansSoFar (all_edges ts) order (length order) of first → AreFans (all_edges ts) of first
all_fans ts closed few order of first known fans = record {
  one_each = fans.full;
  steps = fans.kept_around;
  numbered = has;
  first_in = fans.first_in;
  reached = λ h below. fans.reached h below (has h below);
  returns = λ k l. back (returns (around (all_edges ts)) (λ g. twin (all_edges ts) (prev_half g)) (length (all_edges ts)) (around_inverse ts closed)
      (get_or first k 0) (fans.first_in k l).0);
  least = λ h below. fans.least h below (has h below);
  by_start = fans.by_start;
  by_half = fans.by_half;
}
  where
    has_at : (h : ℕ) → (i : ℕ) × (i < length order) × (ordered_at order i ≡ h) → get_or of h 0 < length first
    has_at h (i, l, e) = subst (λ x. get_or of x 0 < length first) e (fans.seen i l)

    has : (h : ℕ) → h < length (all_edges ts) → get_or of h 0 < length first
    has h below = has_at h (order_place (all_edges ts) order known h below)

    back : {x : ℕ} → Returns (around (all_edges ts)) (length (all_edges ts)) x → (n : ℕ) × (0 < n) × (around_times (all_edges ts) n x ≡ x)
    back r = (r.steps, r.some, r.back)
