use Rattle.std.proofs.Common.{arith, ◌≡◌, ◌+ℤ◌, ℕ, ℤ, length, ap, ◌∙◌, to_z, of_z, w64}
use Rattle.std.proofs.lemmas.Int.{ints}
use Rattle.chain_terms.specs.Sums.{total, upto}
use Rattle.outline_pair_terms.specs.Numbers.{edge_at, ends_of}
use Rattle.cross_section.proofs.NearSums.{by_places, one_more}
use Rattle.cross_section.proofs.numbers.sums.winding_sum.Goals as goal

pub loop-number-preserved : goal.loop-number-preserved
loop-number-preserved g c =
    let part = g.T.EdgeTests.part_of c.args.tests.now c.args.vertex.now in
    let side = c.args.edges.now in
    let k = c.loop-number.number in
    let value : ℕ → ℤ = λ j. part (ends_of side (edge_at side j)) in
    let sum = to_z w64 c.loop-number.sum-bits in
    let here : c.part-sum.result ≡ value k = c.part-sum.ensures.value ∙ ap part c.edge.ensures.value in
    let low = c.part-sum.ensures.small.low in
    let high = c.part-sum.ensures.small.high in
    let whole : to_z w64 (of_z w64 (sum +ℤ to_z w64 (of_z w64 c.part-sum.result))) ≡ sum +ℤ c.part-sum.result = omega (arith, ints) in
    record {
      value = whole ∙ one_more value k sum c.part-sum.result c.loop-number.invariant.value here;
      low = omega (arith, ints, whole, low, high);
      high = omega (arith, ints, whole, low, high);
    }

pub returns-clause-value : goal.returns-clause-value
returns-clause-value g c =
    let part = g.T.EdgeTests.part_of c.args.tests.now c.args.vertex.now in
    let side = c.args.edges.now in
    let many : c.loop-number.number ≡ length side.edges = omega (arith, c.loop-number-test.false, c.loop-number.auto.number-end, ap length c.edges.ensures.value) in
    c.loop-number.invariant.value ∙ ap (λ n. total (λ k. part (ends_of side (edge_at side k))) (upto n)) many ∙ by_places side part

pub returns-clause-size : goal.returns-clause-size
returns-clause-size g c =
    let low = c.loop-number.invariant.low in
    let high = c.loop-number.invariant.high in
    omega (arith, ints, low, high, c.loop-number-test.false, c.loop-number.auto.number-end, ap length c.edges.ensures.value)
