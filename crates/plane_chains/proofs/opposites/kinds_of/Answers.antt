use Rattle.std.proofs.Common.{ap, arith, get_or, length, map, rules, ◌^◌, ◌<◌, ◌≡◌, ◌∙◌}
use Rattle.chain_terms.specs.Sums.{upto}
use Rattle.plane_chains.specs.Opposites.{kind, some_at}
use Rattle.plane_chains.proofs.Opposed.{kind_low, kinds_more}
use Rattle.plane_chains.proofs.opposites.kinds_of.Goals as goal

pub overflow_cast-kind : goal.overflow_cast-kind
overflow_cast-kind c =
    let some = c.args.some.now in
    let h = kind_low some c.args.sets.now c.requires.long c.requires.below c.loop-i.i (some_at some c.loop-i.i).1 c.loop-i-test.true in
    let low : c.kind.result < 2 ^ 32 = omega (arith, h, c.kind.ensures, c.requires.few) in search rules

pub loop-i-preserved : goal.loop-i-preserved
loop-i-preserved c =
    kinds_more c.args.sets.now c.args.some.now c.loop-i.i c.loop-i.kinds.items c.push.new.self.items c.kind.result c.loop-i.invariant c.kind.ensures c.in_ok-push.ensures.items

pub returns : goal.returns
returns c =
    let end : c.loop-i.i ≡ length c.args.some.now = omega (arith, c.loop-i-test.false, c.loop-i.auto.i-end) in
    c.loop-i.invariant ∙ ap (λ n. map (λ j. kind (get_or c.args.sets.now j 0) (some_at c.args.some.now j).1) (upto n)) end
