-- The place of the first member that passes, member by member from the last on.
use Rattle.std.proofs.Common.{◌≡◌, ℕ, ◌+◌, ◌-◌, ◌<◌, ◌≤◌, ◌==◌, cond, not, Bool, true, false, List, length, get_or, map, set, drop, ap, ◌∙◌, arith}
use Rattle.std.specs.Prelude.{replicate}
use Rattle.std.specs.List.{position_or_len}
use Rattle.std.proofs.lemmas.List.{drop_all, drop_more}
use Rattle.chain_terms.specs.Sums.{upto}
use Rattle.outlines.proofs.Written.{same_value, written}

-- from place k on the first at which the number is v
abbrev pub first_from : ((ℕ × ℕ) → ℕ) → List (ℕ × ℕ) → ℕ → ℕ → ℕ
first_from number es k v = k + position_or_len (λ e. number e == v) (drop k es)

-- the first member, or one of the others
here_or_later : (b : Bool) (k m : ℕ) → k + cond (not b) (1 + m) 0 ≡ cond b k ((k + 1) + m)
here_or_later true k m = omega arith
here_or_later false k m = omega arith

module _ (number : (ℕ × ℕ) → ℕ) (es : List (ℕ × ℕ)) (n : ℕ) where
  -- behind all members
  pub none_found : replicate n (length es) ≡ map (first_from number es (length es)) (upto n)
  none_found =
      same_value (first_from number es (length es)) n (length es)
      (λ v. ap (λ l. length es + position_or_len (λ (e : ℕ × ℕ). number e == v) l) (drop_all (length es) es (omega arith)) ∙ omega arith)

  -- one member more
  pub one_found : (k : ℕ) → k < length es → number (get_or es k (0, 0)) < n →
      set (map (first_from number es (k + 1)) (upto n)) (number (get_or es k (0, 0))) k ≡ map (first_from number es k) (upto n)
  one_found k low inside =
      let e = get_or es k (0, 0) in
      written (first_from number es (k + 1)) (first_from number es k) n (number e) k inside
      (λ v. ap (λ l. k + position_or_len (λ (d : ℕ × ℕ). number d == v) l) (drop_more es k (0, 0) low)
      ∙ here_or_later (number e == v) k (position_or_len (λ (d : ℕ × ℕ). number d == v) (drop (k + 1) es)))

  -- from place i down to the one before it
  pub found_back : (i : ℕ) → 0 < i → i ≤ length es → number (get_or es (i - 1) (0, 0)) < n →
      set (map (first_from number es i) (upto n)) (number (get_or es (i - 1) (0, 0))) (i - 1) ≡ map (first_from number es (i - 1)) (upto n)
  found_back i some within inside =
      let same : i ≡ (i - 1) + 1 = omega (arith, some) in
      ap (λ j. set (map (first_from number es j) (upto n)) (number (get_or es (i - 1) (0, 0))) (i - 1)) same ∙ one_found (i - 1) (omega (arith, some, within)) inside

  -- all of them
  pub all_found : map (first_from number es 0) (upto n) ≡ map (λ v. position_or_len (λ e. number e == v) es) (upto n)
  all_found = ap (λ f. map f (upto n)) (λ i v. zero_first (position_or_len (λ (e : ℕ × ℕ). number e == v) es) i)
    where
      zero_first : (m : ℕ) → 0 + m ≡ m
      zero_first m = omega arith
