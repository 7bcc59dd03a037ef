-- Answers that the boxes of the simplices decide, and the laws of tests with such answers.
use Rattle.std.specs.Prelude.{◌≡◌, ◌≢◌, ℕ, zero, suc, ◌+◌, ◌<◌, ◌≤◌, ◌⊎◌, pos, Bool, true, false, Option, None, IfSome, List, length, swap}
use Rattle.std.proofs.Common.{arith, ap, subst, inl, inr}
use Rattle.std.proofs.lemmas.Bool.{cases_lt}
use Rattle.chain_terms.specs.Sums.{total}
use Rattle.mb_base.specs.declared.point.Corner.{Corner}
use Rattle.side_terms.specs.Corners.{AllFine}
use Rattle.side_terms.specs.Boxes.{IsBelow, AreApart}
use Rattle.shadow_kernels.specs.declared.Spot.{Spot}
use Rattle.shadow_kernels.specs.declared.Meet.{Meet}
use Rattle.shadow_kernels.specs.Counts.{count_of, shadow_of, turned, by_ends, first_spot}
use Rattle.shadow_kernels.specs.ShadowLaws.{IsInHull, ShadowTest, HasCounts, ShadowLaws}
use Rattle.shadow_kernels.specs.Sizes.{IsSized, sized_bounds, sized_present, turned_sized, turned_holds}
use Rattle.shadow_kernels.specs.Ends.{ends_sized, ends_same, ends_hold}
use Rattle.shadow_kernels.specs.Entries.{Each, each_map, total_none, total_alike, first_own}
use Rattle.shadow_kernels.specs.Hulls.{IsBeyond, by_greater, both_ways}

-- an answer of simplices in two boxes: its count is 1 or -1, and, but for two vertices, its spot lies in the boxes; boxes strictly apart on
-- one of the first k axes give none, and such on the next axis say whether it is above
pub record IsDecided (k : ℕ) (ps qs : List Corner) (m : Option Meet) : Type 0 where
  pub sized : IsSized m
  pub hull : 0 < k → IfSome m (λ a. IsInHull ps qs a.spot)
  pub apart : (i : ℕ) → i < k → AreApart i ps qs → m ≡ None
  pub side : (b : Bool) → IsBeyond k ps qs b → IfSome m (λ a. a.above ≡ b)

-- turned it is so too
pub turned_decided : (k : ℕ) (ps qs : List Corner) (m : Option Meet) → IsDecided k ps qs m → IsDecided k ps qs (turned m)
turned_decided k ps qs m h = record {
  sized = turned_sized m h.sized;
  hull = λ some. turned_holds (λ s above. IsInHull ps qs s) m (h.hull some);
  apart = λ i less a. ap turned (h.apart i less a);
  side = λ b beyond. turned_holds (λ s above. above ≡ b) m (h.side b beyond);
}

-- the answer of two ends is decided in y, where either spot lies in the boxes, boxes strictly apart in x decide both tests, and such in y either mark
pub ends_decided : (ps qs : List Corner) (s t : Bool) (x y : Bool × Spot) → (s ≡ true → t ≡ false → IsInHull ps qs x.1) → (s ≡ false → t ≡ true → IsInHull ps qs y.1) →
    ((b : Bool) → IsBeyond 0 ps qs b → s ≡ t) → ((b : Bool) → IsBeyond 1 ps qs b → s ≡ true → t ≡ false → x.0 ≡ b) →
    ((b : Bool) → IsBeyond 1 ps qs b → s ≡ false → t ≡ true → y.0 ≡ b) →
    IsDecided 1 ps qs (by_ends s t x y)
ends_decided ps qs s t x y f g same first second = record {
  sized = ends_sized s t x y;
  hull = λ some. ends_hold (λ m. IsInHull ps qs m.spot) s t x y f g;
  apart = apart;
  side = λ b beyond. ends_hold (λ m. m.above ≡ b) s t x y (first b beyond) (second b beyond);
}
  where
    apart : (i : ℕ) → i < 1 → AreApart i ps qs → by_ends s t x y ≡ None
    apart zero less a = ends_same s t x y (by_greater 0 ps qs same a)
    apart (suc i) less a = absurd (omega (arith, less))

-- answers decided after k axes whose counts add up to nothing
module _ (k : ℕ) (ps qs : List Corner) (ms : List (Option Meet)) (each : Each (IsDecided k ps qs) ms) (whole : total count_of ms ≡ pos 0) where
  -- boxes strictly apart on these axes or the next give no sum of shadows
  pub apart_none : (i : ℕ) → i < k + 1 → AreApart i ps qs → total shadow_of ms ≡ pos 0
  apart_none i less a = by (cases_lt i k) where
    alike : (b : Bool) → IsBeyond k ps qs b → total shadow_of ms ≡ pos 0
    alike b beyond = total_alike b ms whole (each_map (IsDecided k ps qs) (λ m. IfSome m (λ n. n.above ≡ b)) (λ m h. h.side b beyond) ms each)

    by : (i < k) ⊎ (k ≤ i) → total shadow_of ms ≡ pos 0
    by (inl l) = total_none ms (each_map (IsDecided k ps qs) (λ m. m ≡ None) (λ m h. h.apart i l a) ms each)
    by (inr r) = by_greater k ps qs alike (subst (λ (j : ℕ). AreApart j ps qs) (omega (arith, less, r)) a)

  -- with such a sum the first spot above, or not above, lies in the boxes
  pub first_hull : 0 < k → total shadow_of ms ≢ pos 0 → (want : Bool) → IsInHull ps qs (first_spot want ms)
  first_hull some sum want =
      first_own (IsInHull ps qs) want ms (each_map (IsDecided k ps qs) (λ m. IfSome m (λ n. IsInHull ps qs n.spot)) (λ m h. h.hull some) ms each) whole sum

-- the boxes of the corners that a test is asked for decide its answers
abbrev pub IsDecidedBy : ℕ → ℕ → ℕ → ShadowTest → Type 0
IsDecidedBy m n k test = (p q : List Corner) → length p ≡ m → length q ≡ n → AllFine p → AllFine q → IsDecided k p q (test p q)

-- then it answers only where the count is not 0
pub has_counts : (m n k : ℕ) (test : ShadowTest) → IsDecidedBy m n k test → HasCounts m n test
has_counts m n k test each p q mp nq fp fq = sized_present (test p q) (each p q mp nq fp fq).sized

-- a test that exchanges turn and whose answers their own boxes decide is lawful
pub laws_of : (m n k : ℕ) (test : ShadowTest) → k + 2 ≡ m + n →
    ((p q : List Corner) (i j : ℕ) → i < j → j < m → length p ≡ m → length q ≡ n → AllFine p → AllFine q → test (swap p i j) q ≡ turned (test p q)) →
    ((p q : List Corner) (i j : ℕ) → i < j → j < n → length p ≡ m → length q ≡ n → AllFine p → AllFine q → test p (swap q i j) ≡ turned (test p q)) →
    IsDecidedBy m n k test → ShadowLaws m n test
laws_of m n k test level turn_p turn_q each = record {
  reverse_p = turn_p;
  reverse_q = turn_q;
  size = λ p q mp nq fp fq. sized_bounds (test p q) (each p q mp nq fp fq).sized;
  hull = λ p q more mp nq fp fq. (each p q mp nq fp fq).hull (omega (arith, level, more));
  apart = λ p q i mp nq fp fq less a. (each p q mp nq fp fq).apart i (omega (arith, level, less)) a;
  side = λ p q i mp nq fp fq same. subst (λ (j : ℕ). IfSome (test p q) (λ a. (IsBelow j p q → a.above ≡ false) × (IsBelow j q p → a.above ≡ true))) (next k i (m + n) level same)
      (both_ways k p q (test p q) (each p q mp nq fp fq).side);
}
  where
    next : (k i s : ℕ) → k + 2 ≡ s → i + 2 ≡ s → k ≡ i
    next k i s e f = omega (arith, e, f)
