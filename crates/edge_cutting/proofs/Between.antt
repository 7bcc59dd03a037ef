-- Whole multiples of a step between two others.
use Rattle.std.specs.Prelude.{◌≡◌, ◌≢◌, zero, suc, ℤ, pos, negsuc, neg_ℤ, ◌-ℤ◌, ◌*ℤ◌, ◌≤ℤ◌, ◌<ℤ◌, true, ◌&&◌, int_le}
use Rattle.std.specs.Int.{int_max, int_min}
use Rattle.std.specs.Int.Signed.{le_z}
use Rattle.std.proofs.Common.{arith, refl}
use Rattle.std.proofs.lemmas.Bool.{and_from, and_parts}
use Rattle.std.proofs.lemmas.Int.{by_lt_z, clamps, ints}
use Rattle.chain_laws.specs.Products.{mul-neg, pos_mul, sub-mul}
use Rattle.plane_laws.specs.Moved.{nonneg_mul}
use Rattle.box_tree.specs.Touching.{overlap}
use Rattle.box_tree.proofs.Points.{le_from_test, test_from_le}

-- v lies between a and b, in either order
pub record IsBetween (a b v : ℤ) : Type 0 where
  pub low : int_min a b ≤ℤ v
  pub high : v ≤ℤ int_max a b

-- the test says it
pub between_test : (a b v : ℤ) → (int_le (int_min a b) v && int_le v (int_max a b)) ≡ true → IsBetween a b v
between_test a b v h =
    let both = and_parts (int_le (int_min a b) v) (int_le v (int_max a b)) h in
    record { low = le_from_test (int_min a b) v both.0; high = le_from_test v (int_max a b) both.1 }

pub test_between : (a b v : ℤ) → IsBetween a b v → (int_le (int_min a b) v && int_le v (int_max a b)) ≡ true
test_between a b v h = and_from (int_le (int_min a b) v) (int_le v (int_max a b)) (test_from_le (int_min a b) v h.low) (test_from_le v (int_max a b) h.high)

-- so does the test of intervals, one of which is a number
pub between_overlap : (a b v : ℤ) → overlap v v (int_min a b) (int_max a b) ≡ true → IsBetween a b v
between_overlap a b v h =
    let e = le_from_test (int_max v (int_min a b)) (int_min v (int_max a b)) h in
    record { low = omega (arith, ints, clamps, e); high = omega (arith, ints, clamps, e) }

pub overlap_between : (a b v : ℤ) → IsBetween a b v → overlap v v (int_min a b) (int_max a b) ≡ true
overlap_between a b v h = test_from_le (int_max v (int_min a b)) (int_min v (int_max a b)) (omega (arith, ints, clamps, h.low, h.high))

-- multiples of a number above 0 keep their order
pub more_times : (s j k : ℤ) → pos 0 <ℤ s → k <ℤ j → (k *ℤ s) <ℤ (j *ℤ s)
more_times s j k up l =
    let h = pos_mul (j -ℤ k) s (omega (arith, ints, l)) up in
    omega (arith, ints, h, sub-mul j k s)

-- and back
order_of : (s j k : ℤ) → pos 0 <ℤ s → (j *ℤ s) ≤ℤ (k *ℤ s) → j ≤ℤ k
order_of s j k up h = by_lt_z k j (λ l. let m = more_times s j k up l in absurd (omega (arith, ints, h, m))) (λ l. l)

-- multiples of a number that is not below 0 keep it weakly
pub keeps_order : (s j k : ℤ) → pos 0 ≤ℤ s → j ≤ℤ k → (j *ℤ s) ≤ℤ (k *ℤ s)
keeps_order s j k up h =
    let m = nonneg_mul (k -ℤ j) s (omega (arith, ints, h)) up in
    omega (arith, ints, m, sub-mul k j s)

-- k lies from j to l
pub record IsFrom (j l k : ℤ) : Type 0 where
  pub low : j ≤ℤ k
  pub high : k ≤ℤ l

-- the multiples of a step from c on: the k-th lies between two of them only where k does
pub within : (c s j l k a b v : ℤ) → s ≢ pos 0 → j ≤ℤ l → a -ℤ c ≡ j *ℤ s → b -ℤ c ≡ l *ℤ s → v -ℤ c ≡ k *ℤ s → IsBetween a b v → IsFrom j l k
within c s j l k a b v some order ea eb ev h = by s some refl
  where
    above : (t : ℤ) → s ≡ t → pos 0 <ℤ t → IsFrom j l k
    above t e up =
        let su : pos 0 <ℤ s = omega (arith, ints, e, up) in
        let m = keeps_order s j l (omega (arith, ints, su)) order in record {
          low = order_of s j k su (omega (arith, ints, clamps, m, ea, eb, ev, h.low));
          high = order_of s k l su (omega (arith, ints, clamps, m, ea, eb, ev, h.high));
        }

    below : (t : ℤ) → s ≡ t → t <ℤ pos 0 → IsFrom j l k
    below t e down =
        let su : pos 0 <ℤ neg_ℤ s = omega (arith, ints, e, down) in
        let m = keeps_order (neg_ℤ s) j l (omega (arith, ints, su)) order in record {
          low = order_of (neg_ℤ s) j k su (omega (arith, ints, clamps, m, ea, eb, ev, h.high, mul-neg j s, mul-neg k s, mul-neg l s));
          high = order_of (neg_ℤ s) k l su (omega (arith, ints, clamps, m, ea, eb, ev, h.low, mul-neg j s, mul-neg k s, mul-neg l s));
        }

    by : (t : ℤ) → t ≢ pos 0 → s ≡ t → IsFrom j l k
    by (pos zero) n e = absurd (n refl)
    by (pos (suc m)) n e = above (pos (suc m)) e (omega (arith, ints))
    by (negsuc m) n e = below (negsuc m) e (omega (arith, ints))

-- and there it does
pub stays : (c s j l k a b v : ℤ) → a -ℤ c ≡ j *ℤ s → b -ℤ c ≡ l *ℤ s → v -ℤ c ≡ k *ℤ s → IsFrom j l k → IsBetween a b v
stays c s j l k a b v ea eb ev h = by_lt_z s (pos 0)
    (λ d.
    let m = keeps_order (neg_ℤ s) j k (omega (arith, ints, d)) h.low in
    let n = keeps_order (neg_ℤ s) k l (omega (arith, ints, d)) h.high in record {
      low = omega (arith, ints, clamps, m, n, ea, eb, ev, mul-neg j s, mul-neg k s, mul-neg l s);
      high = omega (arith, ints, clamps, m, n, ea, eb, ev, mul-neg j s, mul-neg k s, mul-neg l s);
    })
    (λ u.
    let m = keeps_order s j k u h.low in
    let n = keeps_order s k l u h.high in record {
      low = omega (arith, ints, clamps, m, n, ea, eb, ev);
      high = omega (arith, ints, clamps, m, n, ea, eb, ev);
    })
