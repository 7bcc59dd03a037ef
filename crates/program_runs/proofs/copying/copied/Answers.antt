use Rattle.std.proofs.Common.{inl}
use Rattle.mb_outside.specs.Seen.{on_output}
use Rattle.mesh_files.specs.Reads.{soup_with}
use Rattle.program_runs.proofs.Stages.{copy_ended, copy_halts, copy_unread, handed_on}
use Rattle.program_runs.proofs.copying.copied.Goals as goal

pub returns-in_err-read-clause-met : goal.returns-in_err-read-clause-met
returns-in_err-read-clause-met g c =
    rw (handed_on _ _ c.from_residual.ensures.1)
    (record {
      meets = copy_unread c.args.settings.now.digits c.args.settings.now.limits.now c.args.from.now c.args.to.now _ _
          (on_output g.O.Sink c.args.out.now) _ c.in_err-read.ensures.meets;
      halts = inl c.in_err-read.ensures.unread;
    })

pub returns-clause-met : goal.returns-clause-met
returns-clause-met g c =
    let soup = soup_with c.in_ok-read.read in
    let before = on_output g.O.Sink c.args.out.now in
    let now = on_output g.O.Sink c.written.new.out in
    record {
      meets = copy_ended c.args.settings.now.digits c.args.settings.now.limits.now c.args.from.now c.args.to.now soup _ _ _
          before now _ c.in_ok-read.ensures.meets c.written.ensures.meets;
      halts = copy_halts c.args.from.now c.args.to.now _ c.written.ensures.halts;
    }
