use Rattle.std.proofs.Common.{◌≡◌, ◌∙◌, Result, ap, sym}
use Rattle.std.proofs.lemmas.Result.{err_from_is_err_and}
use Rattle.mb_outside.specs.Seen.{on_output}
use Rattle.mesh_boolean.specs.declared.outcome.Outcome.{Outcome}
use Rattle.mesh_terms.specs.Meshes.{Mesh}
use Rattle.run_terms.specs.Tasks.{Refusal}
use Rattle.report_lines.specs.Counts.{counts_of}
use Rattle.play_terms.specs.Combined.{Combined}
use Rattle.play_terms.specs.Plays.{OfMesh, mesh_at, with_name, within}
use Rattle.play_terms.specs.ScriptLines.{combine_line}
use Rattle.script_runs.specs.Names.{named_in}
use Rattle.script_runs.specs.Operations.{meanings}
use Rattle.script_runs.specs.Outcomes.{IsOutcome}
use Rattle.script_runs.proofs.Stages.{for_two, given_named, given_stopped, given_unnamed, given_unsaid}
use Rattle.script_runs.proofs.Steps.{combined}
use Rattle.script_runs.proofs.combining.combine.Goals as goal

-- the numbers that are told are those of the operation
numbers : (o : Combined) (r : Outcome) → IsOutcome o r → record { kept = r.prescribed.kept; crossings = r.prescribed.crossings; forced = r.forced } ≡ counts_of o
numbers o r is = λ i. record { kept = is.kept i; crossings = is.crossings i; forced = is.forced i }

pub returns-in_err-outcome-clause-meets : goal.returns-in_err-outcome-clause-meets
returns-in_err-outcome-clause-meets g c =
    let e = err_from_is_err_and c.from_residual.result c.from_residual.ensures.1 in
    let at = c.args.at.now in
    let what = c.args.what.now in
    let named = named_in c.args.names.now in
    let gives : Mesh → Mesh → Result Combined Refusal = λ p q. within at.limits.now ((meanings at.kernels).operation what.op p q) in
    let given = gives (mesh_at named what.left.now) (mesh_at named what.right.now) in
    let is_p = sym c.mesh_of-p.ensures in
    let is_q = sym c.mesh_of-q.ensures in
    let out = on_output g.O.Sink c.args.out.now in
    rw (e.1, e.2) (given_stopped given
    (combine_line what.op what.name.now what.left.now what.right.now) (λ o. OfMesh o.mesh) what.name.now named out out _
    (for_two gives _ is_p is_q c.in_err-outcome.ensures.meets))

pub returns-in_err-say_combined-clause-meets : goal.returns-in_err-say_combined-clause-meets
returns-in_err-say_combined-clause-meets g c =
    let e = err_from_is_err_and c.from_residual-in_err-say_combined.result c.from_residual-in_err-say_combined.ensures.1 in
    let at = c.args.at.now in
    let what = c.args.what.now in
    let named = named_in c.args.names.now in
    let gives : Mesh → Mesh → Result Combined Refusal = λ p q. within at.limits.now ((meanings at.kernels).operation what.op p q) in
    let given = gives (mesh_at named what.left.now) (mesh_at named what.right.now) in
    let is_p = sym c.mesh_of-p.ensures in
    let is_q = sym c.mesh_of-q.ensures in
    let out = on_output g.O.Sink c.args.out.now in
    let told = on_output g.O.Sink c.say_combined.new.sink in
    let o = (meanings at.kernels).operation what.op c.mesh_of-p.result.now c.mesh_of-q.result.now in
    let same = numbers o c.in_ok-outcome.outcome c.in_ok-outcome.ensures.outcome in
    rw (e.1, e.2)
    (given_unsaid given
    (combine_line what.op what.name.now what.left.now what.right.now) (λ o. OfMesh o.mesh) what.name.now named out told o _
    (for_two gives _ is_p is_q c.in_ok-outcome.ensures.meets)
    (c.in_err-say_combined.ensures.meets o same))

pub returns-in_err-define-clause-meets : goal.returns-in_err-define-clause-meets
returns-in_err-define-clause-meets g c =
    let e = err_from_is_err_and c.from_residual-in_err-define.result c.from_residual-in_err-define.ensures.1 in
    let at = c.args.at.now in
    let what = c.args.what.now in
    let named = named_in c.args.names.now in
    let gives : Mesh → Mesh → Result Combined Refusal = λ p q. within at.limits.now ((meanings at.kernels).operation what.op p q) in
    let given = gives (mesh_at named what.left.now) (mesh_at named what.right.now) in
    let is_p = sym c.mesh_of-p.ensures in
    let is_q = sym c.mesh_of-q.ensures in
    let out = on_output g.O.Sink c.args.out.now in
    let told = on_output g.O.Sink c.say_combined.new.sink in
    let o = (meanings at.kernels).operation what.op c.mesh_of-p.result.now c.mesh_of-q.result.now in
    let same = numbers o c.in_ok-outcome.outcome c.in_ok-outcome.ensures.outcome in
    rw (e.1, e.2)
    (given_unnamed given
    (combine_line what.op what.name.now what.left.now what.right.now) (λ o. OfMesh o.mesh) what.name.now named out told o
    (for_two gives _ is_p is_q c.in_ok-outcome.ensures.meets)
    (c.in_ok-say_combined.ensures.meets o same))

pub returns-clause-meets : goal.returns-clause-meets
returns-clause-meets g c =
    let at = c.args.at.now in
    let what = c.args.what.now in
    let named = named_in c.args.names.now in
    let gives : Mesh → Mesh → Result Combined Refusal = λ p q. within at.limits.now ((meanings at.kernels).operation what.op p q) in
    let given = gives (mesh_at named what.left.now) (mesh_at named what.right.now) in
    let is_p = sym c.mesh_of-p.ensures in
    let is_q = sym c.mesh_of-q.ensures in
    let out = on_output g.O.Sink c.args.out.now in
    let told = on_output g.O.Sink c.say_combined.new.sink in
    let o = (meanings at.kernels).operation what.op c.mesh_of-p.result.now c.mesh_of-q.result.now in
    let same = numbers o c.in_ok-outcome.outcome c.in_ok-outcome.ensures.outcome in
    let is = c.in_ok-define.ensures.named ∙ ap (λ m. with_name what.name.now m named) c.in_ok-outcome.ensures.outcome.mesh in
    given_named given
    (combine_line what.op what.name.now what.left.now what.right.now) (λ o. OfMesh o.mesh) what.name.now named out told o (named_in c.define.new.self) is
    (for_two gives _ is_p is_q c.in_ok-outcome.ensures.meets) (c.in_ok-say_combined.ensures.meets o same)

pub returns-clause-named : goal.returns-clause-named
returns-clause-named g c = (c.in_ok-outcome.outcome.mesh, c.in_ok-define.ensures.named)

pub returns-in_err-outcome-clause-cost : goal.returns-in_err-outcome-clause-cost
returns-in_err-outcome-clause-cost g c =
    let named = named_in c.args.names.now in
    let p = c.mesh_of-p.result.now in
    let q = c.mesh_of-q.result.now in
    let is_p = sym c.mesh_of-p.ensures in
    let is_q = sym c.mesh_of-q.ensures in
    combined c.args.what.now.op (mesh_at named c.args.what.now.left.now) (mesh_at named c.args.what.now.right.now) p q
    c.args.sums.now c.operate.new.sums is_p is_q c.in_err-outcome.ensures.cost

pub returns-in_err-say_combined-clause-cost : goal.returns-in_err-say_combined-clause-cost
returns-in_err-say_combined-clause-cost g c =
    let named = named_in c.args.names.now in
    let p = c.mesh_of-p.result.now in
    let q = c.mesh_of-q.result.now in
    let is_p = sym c.mesh_of-p.ensures in
    let is_q = sym c.mesh_of-q.ensures in
    combined c.args.what.now.op (mesh_at named c.args.what.now.left.now) (mesh_at named c.args.what.now.right.now) p q
    c.args.sums.now c.operate.new.sums is_p is_q c.in_ok-outcome.ensures.cost

pub returns-in_err-define-clause-cost : goal.returns-in_err-define-clause-cost
returns-in_err-define-clause-cost g c =
    let named = named_in c.args.names.now in
    let p = c.mesh_of-p.result.now in
    let q = c.mesh_of-q.result.now in
    let is_p = sym c.mesh_of-p.ensures in
    let is_q = sym c.mesh_of-q.ensures in
    combined c.args.what.now.op (mesh_at named c.args.what.now.left.now) (mesh_at named c.args.what.now.right.now) p q
    c.args.sums.now c.operate.new.sums is_p is_q c.in_ok-outcome.ensures.cost

pub returns-clause-cost : goal.returns-clause-cost
returns-clause-cost g c =
    let named = named_in c.args.names.now in
    let p = c.mesh_of-p.result.now in
    let q = c.mesh_of-q.result.now in
    let is_p = sym c.mesh_of-p.ensures in
    let is_q = sym c.mesh_of-q.ensures in
    combined c.args.what.now.op (mesh_at named c.args.what.now.left.now) (mesh_at named c.args.what.now.right.now) p q
    c.args.sums.now c.operate.new.sums is_p is_q c.in_ok-outcome.ensures.cost
