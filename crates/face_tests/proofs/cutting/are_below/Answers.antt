use Rattle.std.proofs.Common.{◌<◌, get_or, arith}
use Rattle.std.proofs.lemmas.List.Elements.{All-from_get_or}
use borrow.Author.Count.{below_more}
use Rattle.face_tests.proofs.cutting.are_below.Goals as goal

pub loop-v-init : goal.loop-v-init
loop-v-init c = λ k low. absurd (omega (arith, low))

pub loop-v-preserved : goal.loop-v-preserved
loop-v-preserved c = below_more (λ k. get_or c.args.ring.now k 0 < c.args.count) c.loop-v.v-index c.loop-v.invariant c.if-v-count.false

pub returns : goal.returns
returns c = λ yes. All-from_get_or (λ v. v < c.args.count) c.args.ring.now 0 (λ k low. c.loop-v.invariant k (omega (arith, low, c.loop-v-test.false)))
