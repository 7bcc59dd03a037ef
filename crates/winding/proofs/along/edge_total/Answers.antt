use Rattle.std.proofs.Common.{arith, rules, ◌≡◌, ◌≤◌, ◌^◌, ◌+ℤ◌, ℤ, length, ap, FitsSigned, to_z, of_z, w8, w64}
use Rattle.std.proofs.lemmas.Int.{ints, to_z-of_z}
use Rattle.chain_laws.specs.Sums.{total_more}
use Rattle.mb_base.specs.declared.results.Hit.{Hit}
use Rattle.winding.proofs.EdgeSums.{few_on}
use Rattle.winding.proofs.along.edge_total.Goals as goal

pub overflow_add-sum : goal.overflow_add-sum
overflow_add-sum c =
    let few = few_on c.args.hits.now c.args.edge in
    let long : length c.hits_on-hit-items.result.now ≤ 2 ^ 55 = omega (arith, ap length c.hits_on-hit-items.ensures, few, c.requires.few) in
    omega (arith, ints, long)

pub loop-hit-preserved : goal.loop-hit-preserved
loop-hit-preserved c =
    let few = few_on c.args.hits.now c.args.edge in
    let long : length c.hits_on-hit-items.result.now ≤ 2 ^ 55 = omega (arith, ap length c.hits_on-hit-items.ensures, few, c.requires.few) in
    let number : ℤ = c.hit-item.result.number in
    let fits : FitsSigned w8 number = search rules in
    let small : to_z w8 (of_z w8 number) ≡ number = to_z-of_z w8 number fits in
    let more = total_more (λ (h : Hit). h.number) c.hits_on-hit-items.result.now c.loop-hit.hit-index c.hit-item.result c.loop-hit-test.true in
    let here = ap (λ (h : Hit). h.number) c.hit-item.is in
    let low = c.loop-hit.invariant.low in
    let high = c.loop-hit.invariant.high in
    let sum = to_z w64 c.loop-hit.sum-bits in
    let whole : to_z w64 (of_z w64 (sum +ℤ to_z w64 (of_z w64 (to_z w8 (of_z w8 number))))) ≡ sum +ℤ number = omega (arith, ints, long, small, low, high) in
    record {
      value = omega (arith, ints, whole, more, here, c.loop-hit.invariant.value);
      low = omega (arith, ints, whole, fits, low);
      high = omega (arith, ints, whole, fits, high);
    }

pub returns-clause-size : goal.returns-clause-size
returns-clause-size c =
    let few = few_on c.args.hits.now c.args.edge in
    let long : length c.hits_on-hit-items.result.now ≤ 2 ^ 55 = omega (arith, ap length c.hits_on-hit-items.ensures, few, c.requires.few) in
    omega (arith, ints, long)
