use Rattle.std.proofs.Common.{◌≡◌, ◌<◌, List, true, length, get_or, set, arith, ap, ◌∙◌}
use Rattle.std.specs.Prelude.{nat_lt}
use Rattle.std.proofs.lemmas.Bool.{lt-ltb}
use Rattle.hole_joining.specs.declared.runs.Run.{Run}
use Rattle.hole_joining.specs.Runs.{both}
use Rattle.hole_joining.proofs.Following.{spread_here}
use Rattle.hole_joining.proofs.runs.Runs.widen.Goals as goal

pub returns-then-before-run : goal.returns-then-before-run
returns-then-before-run c =
    let rs : List Run = c.args.self.now in
    let k = c.loop-k.k in
    let r : Run = c.index.result.now in
    let more : Run = c.args.more.now in
    let same = c.loop-k.invariant.same in
    let within : k < length rs = omega (arith, c.loop-k-test.true, c.len-k-end.ensures, c.self.inside.runs.ok, ap length c.self.view_is) in
    let read : r ≡ get_or rs k r = c.index.ensures ∙ ap (λ l. get_or l k r) same in
    let here : nat_lt c.loop-k.before (get_or rs k r).count ≡ true =
    lt-ltb c.loop-k.before (get_or rs k r).count (omega (arith, c.if-before-run.true, ap (λ (q : Run). q.count) read)) in
    let wider = c.with.ensures ∙ ap (λ q. both q more) read in
    (λ j. set (same j) k (wider j)) ∙ spread_here rs k c.loop-k.before more within r here ∙ c.loop-k.invariant.wide
