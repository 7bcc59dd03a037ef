use Rattle.std.proofs.Common.{◌++◌, ◌∙◌, ap, arith}
use Rattle.chain_terms.specs.Paths.{round_edges}
use Rattle.plane_remesh.specs.Rising.{rising}
use Rattle.plane_remesh.proofs.Rising.{rounds_done, rounds_more}
use Rattle.plane_remesh.proofs.boundary.push_rounds.Goals as goal

pub loop-i-preserved : goal.loop-i-preserved
loop-i-preserved c =
    rounds_more c.args.turned c.args.out.now.items c.args.lists.now.0 c.args.first c.loop-i.i c.loop-i.out.items c.push_round.new.out.items
    (omega (arith, c.loop-i-test.true, c.len-i-end.ensures))
    c.loop-i.invariant (c.in_ok-push_round.ensures ∙ ap (λ r. c.loop-i.out.items ++ rising c.args.turned (round_edges r)) c.rim.ensures)

pub returns : goal.returns
returns c =
    rounds_done c.args.turned c.args.out.now.items c.args.lists.now.0 c.args.first c.loop-i.i c.loop-i.out.items
    (omega (arith, c.loop-i-test.false, c.len-i-end.ensures)) c.loop-i.invariant
