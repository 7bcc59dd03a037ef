use Rattle.source_faces.proofs.Growing.{grown, run_more}
use Rattle.source_faces.proofs.lists.entries.push_run.Goals as goal

pub loop-i-preserved : goal.loop-i-preserved
loop-i-preserved c =
    grown _ _ _ _ _ _ c.in_ok-push.ensures.items c.loop-i.invariant (run_more c.args.run.first c.loop-i.i c.args.run.negative c.args.at_start)
