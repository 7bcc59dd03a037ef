use Rattle.std.proofs.Common.{◌≡◌, ◌+◌, ℕ, arith, inl}
use Rattle.mb_outside.specs.Seen.{on_output}
use Rattle.mesh_files.specs.Reads.{soup_with}
use Rattle.program_runs.specs.Windings.{windings}
use Rattle.program_runs.proofs.Halts.{unread_none}
use Rattle.program_runs.proofs.Stages.{handed_on, inside_ended, inside_halts, inside_unread}
use Rattle.program_runs.proofs.locating.located.Goals as goal

no_more : (sums more : ℕ) → more ≡ 0 → sums ≡ sums + more
no_more sums more none = omega (arith, none)

pub returns-in_err-read-clause-met : goal.returns-in_err-read-clause-met
returns-in_err-read-clause-met g c =
    rw (handed_on _ _ c.from_residual.ensures.1)
    (record {
      meets = inside_unread c.args.settings.now.digits windings c.args.settings.now.limits.now c.args.sought.now.file.now c.args.sought.now.point _ _
          (on_output g.O.Sink c.args.out.now) _ c.in_err-read.ensures.meets;
      halts = inl c.in_err-read.ensures.unread;
    })

pub returns-in_err-read-clause-counted : goal.returns-in_err-read-clause-counted
returns-in_err-read-clause-counted g c =
    rw (handed_on _ _ c.from_residual.ensures.1) (no_more c.args.sums.now _ (unread_none c.args.sought.now.file.now _ c.in_err-read.ensures.unread))

pub returns-clause-met : goal.returns-clause-met
returns-clause-met g c =
    let soup = soup_with c.in_ok-read.read in
    let before = on_output g.O.Sink c.args.out.now in
    let now = on_output g.O.Sink c.said.new.out in
    record {
      meets = inside_ended c.args.settings.now.digits windings c.args.settings.now.limits.now c.args.sought.now.file.now c.args.sought.now.point soup _ _
          before now _ c.in_ok-read.ensures.meets c.said.ensures.meets;
      halts = inside_halts c.args.sought.now.file.now _ c.said.ensures.halts;
    }

pub returns-clause-counted : goal.returns-clause-counted
returns-clause-counted g c = c.said.ensures.counted
