-- The vertices after and before each along edges, edge by edge from the last on.
use Rattle.std.proofs.Common.{◌≡◌, ℕ, ◌+◌, ◌-◌, ◌<◌, ◌≤◌, ◌==◌, cond, Bool, true, false, List, length, map, set, drop, refl, ap, ◌∙◌, arith}
use Rattle.std.specs.Prelude.{Option, Some, replicate, unwrap_or}
use Rattle.std.specs.List.{All}
use Rattle.std.proofs.lemmas.List.{drop_all, drop_more, get_or-replicate, length-replicate}
use Rattle.chain_terms.specs.Cycles.{end_from}
use Rattle.chain_terms.specs.Odd.{backward}
use Rattle.chain_terms.specs.Ranks.{finish, start}
use Rattle.chain_terms.specs.Sums.{upto}
use Rattle.outline_terms.specs.Outlines.{after, before}
use Rattle.outlines.proofs.Written.{same_value, written}

-- where the first edge goes, or where the others do
ends_first : (b : Bool) (w : ℕ) (o : Option ℕ) → unwrap_or (cond b (Some w) o) 0 ≡ cond b w (unwrap_or o 0)
ends_first true w o = refl
ends_first false w o = refl

module _ (es : List (ℕ × ℕ)) (n : ℕ) where
  -- before all edges
  pub none_after : replicate n 0 ≡ map (after (drop (length es) es)) (upto n)
  none_after = same_value (after (drop (length es) es)) n 0 (λ v. ap (λ l. after l v) (drop_all (length es) es (omega arith)))

  pub none_before : replicate n 0 ≡ map (before (drop (length es) es)) (upto n)
  none_before = same_value (before (drop (length es) es)) n 0 (λ v. ap (λ l. before l v) (drop_all (length es) es (omega arith)))

  -- one edge more
  pub more_after : (k : ℕ) → k < length es → start es k < n → set (map (after (drop (k + 1) es)) (upto n)) (start es k) (finish es k) ≡ map (after (drop k es)) (upto n)
  more_after k low inside =
      let rest = drop (k + 1) es in
      written (after rest) (after (drop k es)) n (start es k) (finish es k) inside
      (λ v. ap (λ l. after l v) (drop_more es k (0, 0) low) ∙ ends_first (start es k == v) (finish es k) (end_from v rest))

  pub more_before : (k : ℕ) → k < length es → finish es k < n → set (map (before (drop (k + 1) es)) (upto n)) (finish es k) (start es k) ≡ map (before (drop k es)) (upto n)
  more_before k low inside =
      let rest = drop (k + 1) es in
      written (before rest) (before (drop k es)) n (finish es k) (start es k) inside
      (λ v. ap (λ l. before l v) (drop_more es k (0, 0) low) ∙ ends_first (finish es k == v) (start es k) (end_from v (backward rest)))

  -- from place i down to the one before it
  pub back_after : (i : ℕ) → 0 < i → i ≤ length es → start es (i - 1) < n →
      set (map (after (drop i es)) (upto n)) (start es (i - 1)) (finish es (i - 1)) ≡ map (after (drop (i - 1) es)) (upto n)
  back_after i some within inside =
      let same : i ≡ (i - 1) + 1 = omega (arith, some) in
      ap (λ j. set (map (after (drop j es)) (upto n)) (start es (i - 1)) (finish es (i - 1))) same ∙ more_after (i - 1) (omega (arith, some, within)) inside

  pub back_before : (i : ℕ) → 0 < i → i ≤ length es → finish es (i - 1) < n →
      set (map (before (drop i es)) (upto n)) (finish es (i - 1)) (start es (i - 1)) ≡ map (before (drop (i - 1) es)) (upto n)
  back_before i some within inside =
      let same : i ≡ (i - 1) + 1 = omega (arith, some) in
      ap (λ j. set (map (before (drop j es)) (upto n)) (finish es (i - 1)) (start es (i - 1))) same ∙ more_before (i - 1) (omega (arith, some, within)) inside

-- where there is a number, 0 is below it
pub zeros_below : (n : ℕ) → All (λ v. v < n) (replicate n 0)
zeros_below n k d low = let inside : k < n = omega (arith, low, length-replicate {A = ℕ} n 0) in omega (arith, inside, get_or-replicate n k 0 d inside)
