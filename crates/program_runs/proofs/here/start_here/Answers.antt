use Rattle.std.proofs.lemmas.Result.{IfOk-weaker}
use Rattle.program_runs.specs.Statuses.{status_number}
use Rattle.mb_outside.specs.Seen.{on_output}
use Rattle.program_runs.proofs.Faults.{blamed, failed_write, outs_stay}
use Rattle.report_lines.specs.Reports.{IsReported}
use Rattle.program_runs.proofs.here.start_here.Goals as goal

pub returns-clause-heard : goal.returns-clause-heard
returns-clause-heard g c =
    IfOk-weaker c.args.words _ _
    (λ words made. record {
      usage = made.run.usage;
      no_command = made.run.no_command;
      refused = made.run.refused;
      untouched = λ is. (made.run.untouched is).1;
      quiet = made.run.quiet;
      told = (made.run.play.0, made.run.play.2);
      outs = λ other. outs_stay (status_number c.start.result) _ _ _ made.counts (λ is. other (failed_write c.start.result is));
      blamed = λ is. blamed c.start.result made.run.play.0 _ _ _ (λ line. IsReported line (on_output g.E.Sink c.args.err.now) (on_output g.E.Sink c.start.new.err)) is
          made.run.play.2.0 made.run.play.1.faults c.requires.outs made.run.play.2.1;
    })
    c.start.ensures.run

pub returns-clause-sound : goal.returns-clause-sound
returns-clause-sound g c = IfOk-weaker c.args.words _ _ (λ words made. made.sound) c.start.ensures.run
