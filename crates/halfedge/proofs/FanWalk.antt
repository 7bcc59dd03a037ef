-- A walk along a map with an inverse that numbers what it passes, until it meets a number.
use Rattle.std.proofs.Common.{◌≡◌, ◌≢◌, ◌<◌, ◌⊎◌, inl, inr, ℕ, zero, suc, List, length, get_or, slice_set, refl, sym, ◌∙◌, ap, subst, arith}
use Rattle.std.proofs.lemmas.Bool.{cases_eq}
use Rattle.std.proofs.lemmas.List.{get_or-set_same, get_or-set_other, length-set}
use Rattle.chain_terms.specs.Permutations.{AreInverse, times}
use Rattle.chain_laws.proofs.Walks.{times_below, IsOn, comes_back, next_is_on, back_is_on}
use Rattle.halfedge.specs.Numbering.{no_fan}

-- x was passed on the first k steps of the walk from h
abbrev pub IsPassed : (ℕ → ℕ) → ℕ → ℕ → ℕ → Type 0
IsPassed s h k x = (j : ℕ) × (j < k) × (times s j h ≡ x)

-- the walk from h stands at g: what it passed has the number, the rest is as before
pub record IsWalked (s : ℕ → ℕ) (n h number : ℕ) (old of : List ℕ) (g : ℕ) : Type 0 where
  pub count : ℕ
  pub at : g ≡ times s count h
  pub not_back : (j : ℕ) → 0 < j → j < count → times s j h ≢ h
  pub full : length of ≡ n
  pub passed : (j : ℕ) → j < count → get_or of (times s j h) 0 ≡ number
  pub each : (x : ℕ) → x < n → ((get_or of x 0 ≡ number) × IsPassed s h count x) ⊎ (get_or of x 0 ≡ get_or old x 0)

-- the place of the walk is one of the numbers below n
pub walk_below : (s t : ℕ → ℕ) (n : ℕ) → AreInverse s t n → (h number : ℕ) (old of : List ℕ) (g : ℕ) → h < n → IsWalked s n h number old of g → g < n
walk_below s t n inverse h number old of g hn walk = subst (λ x. x < n) (sym walk.at) (times_below s t n inverse walk.count h hn)

-- one step more, where the place has no number
pub walk_more : (s : ℕ → ℕ) (n h number : ℕ) (old of : List ℕ) (g : ℕ) → number ≢ no_fan → g < n → IsWalked s n h number old of g → get_or of g 0 ≡ no_fan →
    IsWalked s n h number old (slice_set of g number) (s g)
walk_more s n h number old of g other gn walk none = record {
  count = suc walk.count;
  at = ap s walk.at;
  not_back = λ j some few. elim (cases_eq j walk.count) as (λ _. times s j h ≢ h) [
    | inl e ↦ λ back. other (sym (walk.passed 0 (omega (arith, some, e))) ∙ ap (λ x. get_or of x 0) (sym (walk.at ∙ ap (λ i. times s i h) (sym e) ∙ back)) ∙ none)
    | inr d ↦ walk.not_back j some (omega (arith, few, d))
  ];
  full = length-set of g number ∙ walk.full;
  passed = λ j few. elim (cases_eq (times s j h) g) as (λ _. get_or (slice_set of g number) (times s j h) 0 ≡ number) [
    | inl e ↦ ap (λ x. get_or (slice_set of g number) x 0) e ∙ get_or-set_same of g number 0 here
    | inr d ↦ get_or-set_other of g (times s j h) number 0 d ∙ walk.passed j (below_count j few d)
  ];
  each =
      λ x below. elim (cases_eq x g)
      as (λ _. ((get_or (slice_set of g number) x 0 ≡ number) × IsPassed s h (suc walk.count) x) ⊎ (get_or (slice_set of g number) x 0 ≡ get_or old x 0)) [
        | inl e ↦ inl (ap (λ y. get_or (slice_set of g number) y 0) e ∙ get_or-set_same of g number 0 here, (walk.count, omega arith, sym walk.at ∙ sym e))
        | inr d ↦ kept x d (walk.each x below)
      ];
}
  where
    here : g < length of
    here = omega (arith, gn, walk.full)

    below_count : (j : ℕ) → j < suc walk.count → (times s j h ≡ g → ⊥) → j < walk.count
    below_count j few d = elim (cases_eq j walk.count) as (λ _. j < walk.count) [
      | inl e ↦ absurd (d (ap (λ i. times s i h) e ∙ sym walk.at))
      | inr apart ↦ omega (arith, few, apart)
    ]

    kept : (x : ℕ) → x ≢ g → ((get_or of x 0 ≡ number) × IsPassed s h walk.count x) ⊎ (get_or of x 0 ≡ get_or old x 0)
        → ((get_or (slice_set of g number) x 0 ≡ number) × IsPassed s h (suc walk.count) x) ⊎ (get_or (slice_set of g number) x 0 ≡ get_or old x 0)
    kept x d (inl (is, (j, few, e))) = inl (get_or-set_other of g x number 0 d ∙ is, (j, omega (arith, few), e))
    kept x d (inr is) = inr (get_or-set_other of g x number 0 d ∙ is)

-- what a walk leaves that has met a number: the round of h has the number, the rest is as before
pub record IsRoundNumbered (s : ℕ → ℕ) (n h number : ℕ) (old new : List ℕ) : Type 0 where
  pub full : length new ≡ n
  pub here : get_or new h 0 ≡ number
  pub kept_around : (x : ℕ) → x < n → get_or new (s x) 0 ≡ get_or new x 0
  pub each : (x : ℕ) → x < n → ((get_or new x 0 ≡ number) × ((k : ℕ) × (times s k h ≡ x))) ⊎ (get_or new x 0 ≡ get_or old x 0)

-- x has a number
abbrev pub HasNumber : List ℕ → ℕ → Type 0
HasNumber of x = get_or of x 0 ≢ no_fan

-- a walk that has met a number has come round
pub walk_done : (s t : ℕ → ℕ) (n : ℕ) → AreInverse s t n → (h number : ℕ) (old of : List ℕ) (g : ℕ) → h < n →
    ((x : ℕ) → x < n → get_or old (s x) 0 ≡ get_or old x 0) → get_or old h 0 ≡ no_fan →
    IsWalked s n h number old of g → HasNumber of g → IsRoundNumbered s n h number old of
walk_done s t n inverse h number old of g hn kept fresh walk met = by walk.count refl
  where
    done_back : (x : ℕ) → x < n → HasNumber old x → HasNumber old (t x)
    done_back x below has none = has (ap (λ y. get_or old y 0) (sym (inverse.back x below)) ∙ kept (t x) (inverse.above x below) ∙ none)

    gn : g < n
    gn = walk_below s t n inverse h number old of g hn walk

    met_one : (m : ℕ) → walk.count ≡ suc m → ((get_or of g 0 ≡ number) × IsPassed s h walk.count g) ⊎ (get_or of g 0 ≡ get_or old g 0) →
        HasNumber old (times s (suc m) h) ⊎ IsOn s h m (times s (suc m) h)
    met_one m is (inl (same, (j, few, e))) = inr (j, omega (arith, few, is), e ∙ walk.at ∙ ap (λ i. times s i h) is)
    met_one m is (inr same) = inl (λ none. met (same ∙ ap (λ x. get_or old x 0) (walk.at ∙ ap (λ i. times s i h) is) ∙ none))

    has_walked : (m : ℕ) → walk.count ≡ suc m → times s (suc m) h ≡ h
    has_walked m is =
        comes_back s t n inverse (HasNumber old) done_back h m hn (λ has. has fresh)
        (record { open_so_far = λ j some few. walk.not_back j some (omega (arith, few, is)) }) (met_one m is (walk.each g gn))

    passed_on : (m : ℕ) → walk.count ≡ suc m → (x : ℕ) → IsOn s h m x → get_or of x 0 ≡ number
    passed_on m is x (j, few, e) = ap (λ y. get_or of y 0) (sym e) ∙ walk.passed j (omega (arith, few, is))

    around_kept : (m : ℕ) → walk.count ≡ suc m → (x : ℕ) → x < n → ((get_or of x 0 ≡ number) × IsPassed s h walk.count x) ⊎ (get_or of x 0 ≡ get_or old x 0)
        → ((get_or of (s x) 0 ≡ number) × IsPassed s h walk.count (s x)) ⊎ (get_or of (s x) 0 ≡ get_or old (s x) 0) → get_or of (s x) 0 ≡ get_or of x 0
    around_kept m is x below (inl (same, (j, few, e))) later =
        passed_on m is (s x) (next_is_on s h m (has_walked m is) x (j, omega (arith, few, is), e)) ∙ sym same
    around_kept m is x below (inr same) (inl (same_later, (j, few, e))) =
        same_later ∙ sym (passed_on m is x (subst (IsOn s h m) (inverse.forth x below) (back_is_on s t n inverse h m hn (has_walked m is) (s x) (j, omega (arith, few, is), e))))
    around_kept m is x below (inr same) (inr same_later) = same_later ∙ kept x below ∙ sym same

    reached : (x : ℕ) → ((get_or of x 0 ≡ number) × IsPassed s h walk.count x) ⊎ (get_or of x 0 ≡ get_or old x 0) →
        ((get_or of x 0 ≡ number) × ((k : ℕ) × (times s k h ≡ x))) ⊎ (get_or of x 0 ≡ get_or old x 0)
    reached x (inl (same, (j, few, e))) = inl (same, (j, e))
    reached x (inr same) = inr same

    not_met : walk.count ≡ 0 → ((get_or of g 0 ≡ number) × IsPassed s h walk.count g) ⊎ (get_or of g 0 ≡ get_or old g 0) → ⊥
    not_met is (inl (same, (j, few, e))) = omega (arith, few, is)
    not_met is (inr same) = met (same ∙ ap (λ x. get_or old x 0) (walk.at ∙ ap (λ i. times s i h) is) ∙ fresh)

    by : (k : ℕ) → walk.count ≡ k → IsRoundNumbered s n h number old of
    by zero is = absurd (not_met is (walk.each g gn))
    by (suc m) is = record {
      full = walk.full;
      here = walk.passed 0 (omega (arith, is));
      kept_around = λ x below. around_kept m is x below (walk.each x below) (walk.each (s x) (inverse.below x below));
      each = λ x below. reached x (walk.each x below);
    }
