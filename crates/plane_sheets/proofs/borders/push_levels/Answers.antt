use Rattle.std.proofs.Common.{get_or}
use Rattle.plane_sheets.proofs.Dealing.{both_runs}
use Rattle.plane_sheets.proofs.Outcomes.{on_ok}
use Rattle.plane_sheets.proofs.borders.push_levels.Goals as goal

pub returns : goal.returns
returns c =
    on_ok c.push_run-2.result _ _
    (both_runs c.args.label c.args.left c.args.right (get_or c.args.ends 0 0) (get_or c.args.ends 1 0) c.args.found.now.items _ _ c.in_ok-push_run.ensures) c.push_run-2.ensures
