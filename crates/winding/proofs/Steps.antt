-- The size of shadows, and the sum of shadows face by face.
use Rattle.std.proofs.Common.{arith, ◌≡◌, ◌<◌, ◌≤◌, ◌+◌, ◌*◌, ℕ, ℤ, pos, negsuc, nat_abs, neg_ℤ, ◌+ℤ◌, ◌-ℤ◌, ◌≤ℤ◌, Bool, true, false, if◌then◌else◌, Option, None, Some, List, take, length, get_or}
use Rattle.std.proofs.lemmas.Int.{ints}
use Rattle.chain_terms.specs.Sums.{total}
use Rattle.chain_laws.specs.Signs.{nat_abs-neg}
use Rattle.chain_laws.specs.Sums.{size_within, total_more, total_within}
use Rattle.mesh_terms.specs.Meshes.{Triple}
use Rattle.shadow_kernels.specs.declared.Meet.{Meet}
use Rattle.shadow_kernels.specs.Counts.{count_of, shadow_of}

-- the shadow of an answer is -1, 0 or 1 where the count is
pub shadow_within : (o : Option Meet) → (negsuc 0 ≤ℤ count_of o) × (count_of o ≤ℤ pos 1) → (negsuc 0 ≤ℤ shadow_of o) × (shadow_of o ≤ℤ pos 1)
shadow_within None h = h
shadow_within (Some m) h = by m.above m.count h where
  by : (b : Bool) (n : ℤ) → (negsuc 0 ≤ℤ n) × (n ≤ℤ pos 1) → (negsuc 0 ≤ℤ (if b then n else pos 0)) × ((if b then n else pos 0) ≤ℤ pos 1)
  by true n h = h
  by false n h = (omega (arith, ints), omega (arith, ints))

-- one face more
pub one_more : (f : Triple → ℤ) (ts : List Triple) (i : ℕ) (sum shadow : ℤ) →
    i < length ts → sum ≡ neg_ℤ (total f (take i ts)) → shadow ≡ f (get_or ts i (0, 0, 0)) → (sum -ℤ shadow) ≡ neg_ℤ (total f (take (i + 1) ts))
one_more f ts i sum shadow h e s =
    let more = total_more f ts i (0, 0, 0) h in omega (arith, ints, more, e, s)

-- before the first face all shadows are to come
pub none_before : (all sum : ℤ) → all ≡ sum → (pos 0 -ℤ all) ≡ neg_ℤ sum
none_before all sum e = omega (arith, ints, e)

-- one shadow less to come
pub one_less : (winding shadow rest all whole : ℤ) → all ≡ shadow +ℤ rest → (winding -ℤ all) ≡ whole → ((winding -ℤ shadow) -ℤ rest) ≡ whole
one_less winding shadow rest all whole e h = omega (arith, ints, e, h)

-- none to come
pub none_left : (winding all whole : ℤ) → all ≡ pos 0 → (winding -ℤ all) ≡ whole → winding ≡ whole
none_left winding all whole e h = omega (arith, ints, e, h)

-- minus a sum of shadows is no greater in size than there are faces
pub sum_within : (f : Triple → ℤ) (ts : List Triple) → ((t : Triple) → (negsuc 0 ≤ℤ f t) × (f t ≤ℤ pos 1)) → nat_abs (neg_ℤ (total f ts)) ≤ length ts
sum_within f ts small =
    let w = total_within f 1 ts (λ k d low. let s = small (get_or ts k d) in record { low = omega (arith, ints, s.0); high = omega (arith, ints, s.1) }) in
    omega (arith, size_within (total f ts) (1 * length ts) w, nat_abs-neg (total f ts))
