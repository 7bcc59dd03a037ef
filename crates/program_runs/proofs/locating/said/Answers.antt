use Rattle.std.proofs.Common.{◌≡◌, ◌≤◌, ◌∙◌, ℕ, ℤ, nat_abs, of_z, to_z, w64, arith, subst, Ok, Err, inl, inr, refl}
use Rattle.std.proofs.lemmas.Int.{ints, to_z-of_z, fits_signed_from_abs}
use Rattle.mb_outside.specs.Seen.{OutputMeets, on_output, seen}
use Rattle.play_terms.specs.Commands.{say_line, winding_task}
use Rattle.play_terms.specs.Lines.{winding_line}
use Rattle.run_terms.specs.Meets.{Unsaid}
use Rattle.play_laws.proofs.Tasks.{meets_starved}
use Rattle.mesh_files.specs.Reads.{soup_with}
use Rattle.program_runs.specs.Windings.{windings}
use Rattle.program_runs.proofs.Stages.{handed_on}
use Rattle.program_runs.proofs.locating.said.Goals as goal

-- a winding number fits 64 bits, so that it is said as it is found
as_found : (number : ℤ) (n : ℕ) → nat_abs number ≤ n → n ≤ 100000000 → to_z w64 (of_z w64 number) ≡ number
as_found number n small few = to_z-of_z w64 number (fits_signed_from_abs w64 number (omega (arith, ints, small, few)))

pub returns-in_err-number-clause-meets : goal.returns-in_err-number-clause-meets
returns-in_err-number-clause-meets g c on =
    let now = seen on (g.O.Sink.told c.args.out.now) (g.O.Sink.faults c.args.out.now) in
    rw (handed_on _ _ c.from_residual.ensures.1) (meets_starved (winding_task windings c.args.point (soup_with c.args.read.now)) now)

pub returns-in_err-number-clause-halts : goal.returns-in_err-number-clause-halts
returns-in_err-number-clause-halts g c = rw (handed_on _ _ c.from_residual.ensures.1) (inr refl)

pub returns-in_err-say_winding-clause-halts : goal.returns-in_err-say_winding-clause-halts
returns-in_err-say_winding-clause-halts g c = rw (handed_on _ _ c.from_residual-in_err-say_winding.ensures.1) (inl refl)

pub returns-in_err-say_winding-clause-counted : goal.returns-in_err-say_winding-clause-counted
returns-in_err-say_winding-clause-counted g c = rw (handed_on _ _ c.from_residual-in_err-say_winding.ensures.1) c.in_ok-number.ensures.cost

pub returns-in_err-say_winding-clause-meets : goal.returns-in_err-say_winding-clause-meets
returns-in_err-say_winding-clause-meets g c =
    let P : ℤ → Type 0 = λ number. OutputMeets (say_line (winding_line number)) (on_output g.O.Sink c.args.out.now) (on_output g.O.Sink c.say_winding.new.sink) (Err Unsaid) in
    let said = as_found c.in_ok-number.number _ c.in_ok-number.ensures.size c.triples-few.ensures.accepted.mesh.few_triples ∙ c.in_ok-number.ensures.value in
    rw (handed_on _ _ c.from_residual-in_err-say_winding.ensures.1) (subst P said c.in_err-say_winding.ensures.meets)

pub returns-clause-meets : goal.returns-clause-meets
returns-clause-meets g c =
    let P : ℤ → Type 0 = λ number. OutputMeets (say_line (winding_line number)) (on_output g.O.Sink c.args.out.now) (on_output g.O.Sink c.say_winding.new.sink) (Ok tt) in
    let said = as_found c.in_ok-number.number _ c.in_ok-number.ensures.size c.triples-few.ensures.accepted.mesh.few_triples ∙ c.in_ok-number.ensures.value in
    subst P said c.in_ok-say_winding.ensures.meets

pub returns-clause-counted : goal.returns-clause-counted
returns-clause-counted g c = c.in_ok-number.ensures.cost
