use Rattle.std.proofs.Common.{◌≡◌, ◌+◌, arith, get_or}
use Rattle.edge_cutting.proofs.Gathering.{found_places, pair_order, passed_from}
use Rattle.edge_cutting.proofs.inside.find.Goals as goal

pub loop-from-init : goal.loop-from-init
loop-from-init c =
    let e = c.of-edge.ensures in
    record {
      passed = passed_from c.args.points.now c.of-edge.result.points.now c.args.a c.of-edge.result.a c.args.b c.of-edge.result.b c.of-edge.result.steps c.new-found.result.items
          e.points e.a e.b c.new-found.ensures.items e.stepped c.requires.apart;
      some = omega arith;
      within = omega (arith, e.stepped.some);
      short = omega (arith, e.short.count);
    }

pub returns : goal.returns
returns c =
    let e = c.of-edge.ensures in
    let i = c.loop-from.invariant in
    let w = c.sort_unstable.new.self.items in
    let end : c.loop-from.from ≡ c.of-edge.result.steps.count = omega (arith, i.within, c.loop-from-test.false, e.stepped.some) in
    found_places c.args.points.now c.of-edge.result.points.now c.args.a c.of-edge.result.a c.args.b c.of-edge.result.b c.of-edge.result.steps c.loop-from.from
    c.loop-from.found.items w
    e.points e.a e.b e.stepped c.requires.apart end i.passed c.sort_unstable.ensures.permutation
    (λ k d low. pair_order (get_or w k d) (get_or w (k + 1) d) (c.sort_unstable.ensures.sorted k d (omega arith) low))
