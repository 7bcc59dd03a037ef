use Rattle.std.proofs.Common.{arith, ◌≡◌, ◌≤◌, ◌<◌, ◌*◌, ◌^◌, ◌+◌, ℕ, ℤ, ◌+ℤ◌, unsigned_abs, List, [], length, get_or, take, sym, ◌∙◌, ap, subst, to_z, of_z, FitsSigned}
use Rattle.std.specs.List.{All}
use Rattle.std.specs.Int.{w128}
use Rattle.std.proofs.lemmas.Int.{ints}
use Rattle.std.proofs.lemmas.List.{get_or-map, length-map}
use Rattle.chain_laws.specs.Sums.{IsWithin, total-map, total_more}
use Rattle.mesh_terms.specs.Meshes.{IsBelow, triple_of, triples_of}
use Rattle.mesh_terms.specs.Volume.{triangle_determinant, volume6_of}
use Rattle.mesh_make.proofs.volume.volume_of.Goals as goal

-- the sum so far and one more determinant fit 128 bits
fits_more : (v d : ℤ) (i n : ℕ) → IsWithin v (6 * 2 ^ 90 * i) → unsigned_abs d ≤ 6 * 2 ^ 90 → i < n → n ≤ 100000000 → FitsSigned w128 (v +ℤ to_z w128 (of_z w128 d))
fits_more v d i n within small low few = omega (arith, ints, within.low, within.high, small, low, few)

-- the sum so far and one more determinant, as they stand after they were kept at 128 bits
kept_more : (v d : ℤ) (i n : ℕ) → IsWithin v (6 * 2 ^ 90 * i) → unsigned_abs d ≤ 6 * 2 ^ 90 → i < n → n ≤ 100000000 → to_z w128 (of_z w128 (v +ℤ to_z w128 (of_z w128 d))) ≡ v +ℤ d
kept_more v d i n within small low few = omega (arith, ints, within.low, within.high, small, low, few)

-- one more term
within_more : (v d : ℤ) (i : ℕ) → IsWithin v (6 * 2 ^ 90 * i) → unsigned_abs d ≤ 6 * 2 ^ 90 → IsWithin (v +ℤ d) (6 * 2 ^ 90 * (i + 1))
within_more v d i within small = record { low = omega (arith, ints, within.low, small); high = omega (arith, ints, within.high, small) }

-- a triangle of a list names points below the bound
below_at : (n : ℕ) (triples : List (List ℕ)) (i : ℕ) → All (IsBelow n) (triples_of triples) → i < length triples → IsBelow n (triple_of (get_or triples i []))
below_at n triples i all low = subst (IsBelow n) (get_or-map triple_of triples i [] (0, 0, 0) low) (all i (0, 0, 0) (omega (arith, low, length-map triples triple_of)))

-- the sum over one more triangle
volume_more : (points : List (List ℤ)) (triples : List (List ℕ)) (i : ℕ) → i < length triples →
    volume6_of points (triples_of (take (i + 1) triples)) ≡ volume6_of points (triples_of (take i triples)) +ℤ triangle_determinant points (triple_of (get_or triples i []))
volume_more points triples i low =
    let f = triangle_determinant points in
    let step = total_more (λ t. f (triple_of t)) triples i [] low in
    omega (arith, ints, step, total-map f triple_of (take (i + 1) triples), total-map f triple_of (take i triples))

pub triangle_volume-volume-requires : goal.triangle_volume-volume-requires
triangle_volume-volume-requires c = record { below = below_at (length c.args.points.now) c.args.triples.now c.loop-triple.triple-index c.requires.below c.loop-triple-test.true }

pub overflow_add-volume : goal.overflow_add-volume
overflow_add-volume c =
    fits_more (to_z w128 c.loop-triple.volume-bits) c.triangle_volume-volume.result c.loop-triple.triple-index
    (length c.args.triples.now) c.loop-triple.invariant.small c.triangle_volume-volume.ensures.small c.loop-triple-test.true c.requires.few

pub loop-triple-preserved : goal.loop-triple-preserved
loop-triple-preserved c =
    let points = c.args.points.now in
    let triples = c.args.triples.now in
    let i = c.loop-triple.triple-index in
    let v = to_z w128 c.loop-triple.volume-bits in
    let d = c.triangle_volume-volume.result in
    let kept = kept_more v d i (length triples) c.loop-triple.invariant.small c.triangle_volume-volume.ensures.small c.loop-triple-test.true c.requires.few in
    record {
      value =
          kept ∙ ap (λ z. z +ℤ d) c.loop-triple.invariant.value
          ∙ ap (λ z. volume6_of points (triples_of (take i triples)) +ℤ z) c.triangle_volume-volume.ensures.value
          ∙ sym (volume_more points triples i c.loop-triple-test.true);
      small = subst (λ z. IsWithin z (6 * 2 ^ 90 * (i + 1))) (sym kept) (within_more v d i c.loop-triple.invariant.small c.triangle_volume-volume.ensures.small);
    }
