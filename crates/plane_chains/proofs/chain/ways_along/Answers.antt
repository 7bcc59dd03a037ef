use Rattle.std.proofs.Common.{[], ap, arith, get_or, length, ◌++◌, ◌≡◌, ◌∙◌}
use Rattle.std.specs.List.{flat_map}
use Rattle.plane_chains.specs.Ways.{marked, ways_round}
use Rattle.plane_chains.proofs.WayLists.{rims_no, rims_yes}
use Rattle.plane_chains.proofs.chain.ways_along.Goals as goal
use Rattle.plane_chains.proofs.chain.ways_along.Goals.{else-marks-i, then-marks-i+in_ok-push_round}

pub loop-i-preserved : goal.loop-i-preserved
loop-i-preserved c =
    let rims = c.args.rims.now.0 in
    let labels = c.args.labels.now in
    let i = c.loop-i.i in
    elim c.if-marks-i.branch [
      | then-marks-i+in_ok-push_round w ↦ record {
        ways = rims_yes rims labels c.args.marks.now i c.loop-i.ways.items c.if-marks-i.ways.items w.if-marks-i.true c.loop-i.invariant.ways
            (ap (λ v. v.items) w.ways-is ∙ w.in_ok-push_round.ensures.ways ∙ ap (λ r. c.loop-i.ways.items ++ ways_round r (get_or labels i 0)) w.list.ensures);
        few = omega (arith, ap (λ v. length v.items) w.ways-is, w.in_ok-push_round.ensures.few);
      }
      | else-marks-i w ↦ record {
        ways = ap (λ v. v.items) w.ways-is ∙ rims_no rims labels c.args.marks.now i c.loop-i.ways.items w.if-marks-i.false c.loop-i.invariant.ways;
        few = omega (arith, ap (λ v. length v.items) w.ways-is, c.loop-i.invariant.few);
      }
    ]

pub returns-clause-ways : goal.returns-clause-ways
returns-clause-ways c =
    let rims = c.args.rims.now.0 in
    let end : c.loop-i.i ≡ length rims = omega (arith, c.loop-i-test.false, c.loop-i.auto.i-end, c.len-i-end.ensures) in
    c.loop-i.invariant.ways ∙ ap (λ n. flat_map (λ j. ways_round (get_or rims j []) (get_or c.args.labels.now j 0)) (marked c.args.marks.now n)) end
