use Rattle.std.proofs.Common.{inl, inr, refl}
use Rattle.mb_outside.specs.Seen.{on_output}
use Rattle.mesh_files.specs.Reads.{soup_with}
use Rattle.program_runs.proofs.Stages.{copy_told, copy_unwritten, handed_on}
use Rattle.program_runs.proofs.copying.written.Goals as goal

pub returns-in_err-save_named_mesh-clause-meets : goal.returns-in_err-save_named_mesh-clause-meets
returns-in_err-save_named_mesh-clause-meets g c =
    rw (handed_on _ _ c.from_residual.ensures.1)
    (copy_unwritten c.args.digits c.args.to.now (soup_with c.args.read.now) _ _ (on_output g.O.Sink c.args.out.now) _ c.in_err-save_named_mesh.ensures.meets)

pub returns-in_err-save_named_mesh-clause-halts : goal.returns-in_err-save_named_mesh-clause-halts
returns-in_err-save_named_mesh-clause-halts g c = rw (handed_on _ _ c.from_residual.ensures.1) (inl c.in_err-save_named_mesh.ensures.unwritten)

pub returns-in_err-told-clause-meets : goal.returns-in_err-told-clause-meets
returns-in_err-told-clause-meets g c =
    let before = on_output g.O.Sink c.args.out.now in
    let now = on_output g.O.Sink c.say_copied-told.new.sink in
    rw (handed_on _ _ c.from_residual-in_err-told.ensures.1)
    (copy_told c.args.digits c.args.to.now (soup_with c.args.read.now) _ _ before now _ c.in_ok-save_named_mesh.ensures.meets c.in_err-told.ensures.meets)

pub returns-in_err-told-clause-halts : goal.returns-in_err-told-clause-halts
returns-in_err-told-clause-halts g c = rw (handed_on _ _ c.from_residual-in_err-told.ensures.1) (inr refl)

pub returns-clause-meets : goal.returns-clause-meets
returns-clause-meets g c =
    let before = on_output g.O.Sink c.args.out.now in
    let now = on_output g.O.Sink c.say_copied-told.new.sink in
    copy_told c.args.digits c.args.to.now (soup_with c.args.read.now) _ _ before now _ c.in_ok-save_named_mesh.ensures.meets c.in_ok-told.ensures.meets

pub returns-clause-halts : goal.returns-clause-halts
returns-clause-halts g c = tt
