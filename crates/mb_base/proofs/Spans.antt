-- The least span of some numbers.
use Rattle.std.proofs.Common.{◌≡◌, ◌<◌, ◌⊎◌, ℤ, pos, List, length, get_or, inl, inr, subst, sym}
use Rattle.std.specs.Prelude.{◌≤ℤ◌}
use Rattle.std.specs.List.{All, Contains}
use Rattle.std.proofs.lemmas.Int.{fold-int_max_bounds, fold-int_max_reached, fold-int_min_bounds, fold-int_min_reached}
use Rattle.std.proofs.lemmas.List.Elements.{All-contains, Contains-get_or}
use Rattle.mb_base.specs.Boxes.{greatest, least, IsLeastSpan}

-- what holds of all numbers holds of one that is the first or among them
holds_of : (P : ℤ → Type 0) (zs : List ℤ) (z : ℤ) → 0 < length zs → (z ≡ get_or zs 0 (pos 0)) ⊎ Contains zs z → All P zs → P z
holds_of P zs z some (inl first) all = subst P (sym first) (All-contains P zs (get_or zs 0 (pos 0)) all (Contains-get_or zs 0 (pos 0) some))
holds_of P zs z some (inr among) all = All-contains P zs z all among

-- the least number and the greatest are the least span
pub least_span : (zs : List ℤ) (low high : ℤ) → 0 < length zs → low ≡ least zs → high ≡ greatest zs → IsLeastSpan zs low high
least_span zs low high some is_low is_high = record {
  above = (fold-int_min_bounds (get_or zs 0 (pos 0)) zs low is_low).1;
  below = (fold-int_max_bounds (get_or zs 0 (pos 0)) zs high is_high).1;
  least = λ l all. holds_of (λ z. l ≤ℤ z) zs low some (fold-int_min_reached (get_or zs 0 (pos 0)) zs low is_low) all;
  greatest = λ h all. holds_of (λ z. z ≤ℤ h) zs high some (fold-int_max_reached (get_or zs 0 (pos 0)) zs high is_high) all;
}
