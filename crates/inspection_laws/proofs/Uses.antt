-- How often numbers were met at the places of a list, counted in a list of their own and taken back.
use Rattle.std.specs.Prelude.{◌≡◌, ℕ, zero, suc, ◌+◌, ◌-◌, ◌<◌, ◌≤◌, List, [], ◌∷◌, Bool, true, false, cond, ◌==◌, nat_lt, length, count_by, get_or, take, drop}
use Rattle.std.proofs.Common.{arith, refl, sym, ap, ◌∙◌, inl, inr, subst, set}
use Rattle.std.proofs.lemmas.Bool.{cases_eq, eq-eqb, ne_eqb}
use Rattle.std.proofs.lemmas.Bool.Decides.{nat_tests}
use Rattle.std.proofs.lemmas.List.{get_or-set_same, get_or-set_other, get_or_past, length-set, length-take-le, take_all}
use Rattle.std.proofs.lemmas.List.Sums.{sum_by-set, sum_by-drop_more, count_by_more_no, count_by_more_yes, count_by-le-length}
use Rattle.chain_terms.specs.Sums.{up_from, upto}
use Rattle.inspection_laws.specs.Uses.{AreLeft, AreUses}
use Rattle.inspection_laws.proofs.Counting.{count-cons}

-- a count over a list is one over its places
count-places_from : {X : Type 0} (p : X → Bool) (d : X) (g : ℕ → Bool) (k : ℕ) (xs : List X) → ((i : ℕ) → i < length xs → g (k + i) ≡ p (get_or xs i d)) →
    count_by p xs ≡ count_by g (up_from k (length xs))
count-places_from p d g k [] h = refl
count-places_from p d g k (x ∷ xs) h =
    let here : g (k + 0) ≡ p x = h 0 (omega arith) in
    let at : g k ≡ g (k + 0) = ap g (omega arith) in
    let rest = count-places_from p d g (suc k) xs (λ i l. ap g (omega arith) ∙ h (suc i) (omega (arith, l))) in
    count-cons p x xs ∙ (λ i. cond (sym (at ∙ here) i) 1 0 + rest i) ∙ sym (count-cons g k (up_from (suc k) (length xs)))

pub count-places : {X : Type 0} (p : X → Bool) (d : X) (g : ℕ → Bool) (xs : List X) →
    ((i : ℕ) → i < length xs → g i ≡ p (get_or xs i d)) → count_by p xs ≡ count_by g (upto (length xs))
count-places p d g xs h = count-places_from p d g 0 xs (λ i l. ap g (omega arith) ∙ h i l)

-- where nothing passes, the count is 0
pub count-nothing : {X : Type 0} (xs : List X) → count_by (λ x. false) xs ≡ 0
count-nothing [] = refl
count-nothing (x ∷ xs) = count-cons (λ y. false) x xs ∙ omega (arith, count-nothing xs)

-- a number that is set to another changes a count over a list
count-set : (p : ℕ → Bool) (xs : List ℕ) (i y : ℕ) → i < length xs → count_by p (set xs i y) + cond (p (get_or xs i 0)) 1 0 ≡ count_by p xs + cond (p y) 1 0
count-set p xs i y low = sum_by-set (λ x. cond (p x) 1 0) xs i y 0 low

-- nothing was met before the first place
pub no_uses : (lows places uses : List ℕ) → ((s : ℕ) → get_or uses s 0 ≡ 0) → AreUses lows places uses (length uses) 0
no_uses lows places uses none = record { full = refl; each = λ s low. none s }

pub none_often : (uses : List ℕ) → ((s : ℕ) → get_or uses s 0 ≡ 0) → count_by (λ u. nat_lt 2 u) uses ≡ 0
none_often uses none =
    count-places (λ u. nat_lt 2 u) 0 (λ s. false) uses (λ s low. sym (ap (nat_lt 2) (none s))) ∙ count-nothing (upto (length uses))

module _ (lows places uses : List ℕ) (n i low : ℕ) (within : i < length places) (is_low : low ≡ get_or lows (get_or places i 0) 0) (below : low < n) where
  -- a number was met no more often than there were places
  pub uses_few : AreUses lows places uses n i → get_or uses low 0 ≤ i
  uses_few are =
      omega (arith, are.each low below, count_by-le-length (λ p. get_or lows p 0 == low) (take i places), length-take-le i places (omega (arith, within)))

  -- one place more
  pub uses_more : AreUses lows places uses n i → AreUses lows places (set uses low (get_or uses low 0 + 1)) n (i + 1)
  uses_more are = record {
    full = length-set uses low (get_or uses low 0 + 1) ∙ are.full;
    each = λ s s_low. elim (cases_eq s low) [
      | inl e ↦ subst (λ t. get_or (set uses low (get_or uses low 0 + 1)) t 0 ≡ count_by (λ p. get_or lows p 0 == t) (take (i + 1) places)) (sym e) own
      | inr other ↦
          get_or-set_other uses low s (get_or uses low 0 + 1) 0 other ∙ are.each s s_low
          ∙ sym (count_by_more_no (λ p. get_or lows p 0 == s) places i 0 within (ne_eqb (get_or lows (get_or places i 0) 0) s (λ e. other (sym e ∙ sym is_low))))
    ];
  } where
    own : get_or (set uses low (get_or uses low 0 + 1)) low 0 ≡ count_by (λ p. get_or lows p 0 == low) (take (i + 1) places)
    own =
        get_or-set_same uses low (get_or uses low 0 + 1) 0 (omega (arith, below, are.full)) ∙ ap (λ k. k + 1) (are.each low below)
        ∙ sym (count_by_more_yes (λ p. get_or lows p 0 == low) places i 0 within (eq-eqb (get_or lows (get_or places i 0) 0) low (sym is_low)))

  here : (s : ℕ) →
      count_by (λ p. get_or lows p 0 == s) (drop i places) ≡ cond (get_or lows (get_or places i 0) 0 == s) 1 0 + count_by (λ p. get_or lows p 0 == s) (drop (i + 1) places)
  here s = sum_by-drop_more (λ p. cond (get_or lows p 0 == s) 1 0) places i 0 within

  one : ◌≡◌ {A = ℕ} (cond (get_or lows (get_or places i 0) 0 == low) 1 0) 1
  one = ap (λ (b : Bool). cond b 1 0) (eq-eqb (get_or lows (get_or places i 0) 0) low (sym is_low))

  -- what is taken back was met
  pub left_some : AreLeft lows places uses n i → 1 ≤ get_or uses low 0
  left_some are = omega (arith, are.each low below, here low, one)

  pub left_more : AreLeft lows places uses n i → AreLeft lows places (set uses low (get_or uses low 0 - 1)) n (i + 1)
  left_more are = record {
    full = length-set uses low (get_or uses low 0 - 1) ∙ are.full;
    each = λ s s_low. elim (cases_eq s low) [
      | inl e ↦ subst (λ t. get_or (set uses low (get_or uses low 0 - 1)) t 0 ≡ count_by (λ p. get_or lows p 0 == t) (drop (i + 1) places)) (sym e) own
      | inr other ↦
          omega (arith, get_or-set_other uses low s (get_or uses low 0 - 1) 0 other, are.each s s_low, here s, none s other)
    ];
  } where
    own : get_or (set uses low (get_or uses low 0 - 1)) low 0 ≡ count_by (λ p. get_or lows p 0 == low) (drop (i + 1) places)
    own = omega (arith, get_or-set_same uses low (get_or uses low 0 - 1) 0 (omega (arith, below, are.full)), are.each low below, here low, one)

    none : (s : ℕ) → (s ≡ low → ⊥) → ◌≡◌ {A = ℕ} (cond (get_or lows (get_or places i 0) 0 == s) 1 0) 0
    none s other = ap (λ (b : Bool). cond b 1 0) (ne_eqb (get_or lows (get_or places i 0) 0) s (λ e. other (sym e ∙ sym is_low)))

  -- how many were met more than twice, with one use more
  thrice : (u : ℕ) → cond (nat_lt 2 (u + 1)) 1 0 ≡ cond (nat_lt 2 u) 1 0 + cond (u + 1 == 3) 1 0
  thrice u = grind (arith, nat_tests)

  pub often_yes : (count : ℕ) → length uses ≡ n → count ≡ count_by (λ u. nat_lt 2 u) uses → get_or uses low 0 + 1 ≡ 3 →
      count + 1 ≡ count_by (λ u. nat_lt 2 u) (set uses low (get_or uses low 0 + 1))
  often_yes count full e f =
      let third : ◌≡◌ {A = ℕ} (cond (get_or uses low 0 + 1 == 3) 1 0) 1 = ap (λ (b : Bool). cond b 1 0) (eq-eqb (get_or uses low 0 + 1) 3 f) in
      omega (arith, e, count-set (λ u. nat_lt 2 u) uses low (get_or uses low 0 + 1) (omega (arith, below, full)), thrice (get_or uses low 0), third)

  pub often_no : (count : ℕ) → length uses ≡ n → count ≡ count_by (λ u. nat_lt 2 u) uses → (get_or uses low 0 + 1 ≡ 3 → ⊥) →
      count ≡ count_by (λ u. nat_lt 2 u) (set uses low (get_or uses low 0 + 1))
  often_no count full e f =
      let third : ◌≡◌ {A = ℕ} (cond (get_or uses low 0 + 1 == 3) 1 0) 0 = ap (λ (b : Bool). cond b 1 0) (ne_eqb (get_or uses low 0 + 1) 3 f) in
      omega (arith, e, count-set (λ u. nat_lt 2 u) uses low (get_or uses low 0 + 1) (omega (arith, below, full)), thrice (get_or uses low 0), third)

-- what was met at all places
pub often_all : (lows places uses : List ℕ) (n : ℕ) → AreUses lows places uses n (length places) →
    count_by (λ u. nat_lt 2 u) uses ≡ count_by (λ s. nat_lt 2 (count_by (λ p. get_or lows p 0 == s) places)) (upto n)
often_all lows places uses n are =
    count-places (λ u. nat_lt 2 u) 0 (λ s. nat_lt 2 (count_by (λ p. get_or lows p 0 == s) places)) uses
    (λ s low. sym (ap (nat_lt 2) (are.each s (omega (arith, low, are.full)) ∙ ap (count_by (λ p. get_or lows p 0 == s)) (take_all (length places) places (omega arith)))))
    ∙ ap (λ k. count_by (λ s. nat_lt 2 (count_by (λ p. get_or lows p 0 == s) places)) (upto k)) are.full

-- all of it is still there before the first place
pub all_left : (lows places uses : List ℕ) (n : ℕ) → AreUses lows places uses n (length places) → AreLeft lows places uses n 0
all_left lows places uses n are = record {
  full = are.full;
  each = λ s low. are.each s low ∙ ap (count_by (λ p. get_or lows p 0 == s)) (take_all (length places) places (omega arith));
}

-- and nothing after the last
pub none_left : (lows places uses : List ℕ) (n i : ℕ) → AreLeft lows places uses n i → length places ≤ i → (s : ℕ) → get_or uses s 0 ≡ 0
none_left lows places uses n i are end s = by (nat_lt s n) refl where
  gone : (xs : List ℕ) (k : ℕ) → length xs ≤ k → drop k xs ≡ []
  gone [] zero h = refl
  gone [] (suc k) h = refl
  gone (x ∷ xs) zero h = absurd (omega (arith, h))
  gone (x ∷ xs) (suc k) h = gone xs k (omega (arith, h))

  by : (b : Bool) → nat_lt s n ≡ b → get_or uses s 0 ≡ 0
  by true e = are.each s (grind (arith, nat_tests)) ∙ ap (count_by (λ p. get_or lows p 0 == s)) (gone places i end)
  by false e = get_or_past uses s 0 (let h : n ≤ s = grind (arith, nat_tests) in omega (arith, h, are.full))

-- the list is as long as it is
pub uses_own : (lows places uses : List ℕ) (n k : ℕ) → AreUses lows places uses n k → AreUses lows places uses (length uses) k
uses_own lows places uses n k are = record { full = refl; each = λ s h. are.each s (omega (arith, h, are.full)) }
