use Rattle.std.proofs.Common.{◌≡◌, ◌∙◌, Result, ap, sym}
use Rattle.std.proofs.lemmas.Result.{err_from_is_err_and}
use Rattle.mb_outside.specs.Seen.{on_output}
use Rattle.outline_terms.specs.Outlines.{Outline}
use Rattle.run_terms.specs.Tasks.{Refusal}
use Rattle.play_terms.specs.Combined.{Extruded}
use Rattle.play_terms.specs.Plays.{OfMesh, outline_at, with_name}
use Rattle.play_terms.specs.ScriptLines.{extrude_line}
use Rattle.script_runs.specs.Made.{solid_of}
use Rattle.script_runs.specs.Names.{named_in}
use Rattle.script_runs.proofs.OutlineStages.{forced_as, solid_given}
use Rattle.script_runs.proofs.Stages.{for_one, given_named, given_stopped, given_unnamed, given_unsaid}
use Rattle.script_runs.proofs.outlining.extrude_outline.Goals as goal

pub returns-in_err-extruded-clause-meets : goal.returns-in_err-extruded-clause-meets
returns-in_err-extruded-clause-meets g c kernels =
    let e = err_from_is_err_and c.from_residual.result c.from_residual.ensures.1 in
    let at = c.args.at.now in
    let named = named_in c.args.names.now in
    let name = c.args.name.now in
    let old = c.args.source.now in
    let o = c.outline_of-outline.result.now in
    let is_o = sym c.outline_of-outline.ensures in
    let low = c.args.heights.low in
    let high = c.args.heights.high in
    let gives : Outline → Result Extruded Refusal = λ p. solid_given at.limits.now at.script.now at.line low high (solid_of p low high) in
    let out = on_output g.O.Sink c.args.out.now in
    rw (e.1, e.2)
    (given_stopped (gives (outline_at named old)) (λ s. extrude_line name old s.forced) (λ s. OfMesh s.mesh) name named out out _
    (for_one gives _ is_o c.in_err-extruded.ensures.meets))

pub returns-in_err-say_extruded-clause-meets : goal.returns-in_err-say_extruded-clause-meets
returns-in_err-say_extruded-clause-meets g c kernels =
    let e = err_from_is_err_and c.from_residual-in_err-say_extruded.result c.from_residual-in_err-say_extruded.ensures.1 in
    let at = c.args.at.now in
    let named = named_in c.args.names.now in
    let name = c.args.name.now in
    let old = c.args.source.now in
    let o = c.outline_of-outline.result.now in
    let is_o = sym c.outline_of-outline.ensures in
    let low = c.args.heights.low in
    let high = c.args.heights.high in
    let gives : Outline → Result Extruded Refusal = λ p. solid_given at.limits.now at.script.now at.line low high (solid_of p low high) in
    let out = on_output g.O.Sink c.args.out.now in
    let told = on_output g.O.Sink c.say_extruded.new.sink in
    let forced = c.in_ok-extruded.ensures.forced in
    let done = for_one gives _ is_o c.in_ok-extruded.ensures.meets in
    rw (e.1, e.2)
    (given_unsaid (gives (outline_at named old)) (λ s. extrude_line name old s.forced) (λ s. OfMesh s.mesh) name named out told (solid_of o low high) _ done
    (forced_as name old _ _ out told _ forced c.in_err-say_extruded.ensures.meets))

pub returns-in_err-define-clause-meets : goal.returns-in_err-define-clause-meets
returns-in_err-define-clause-meets g c kernels =
    let e = err_from_is_err_and c.from_residual-in_err-define.result c.from_residual-in_err-define.ensures.1 in
    let at = c.args.at.now in
    let named = named_in c.args.names.now in
    let name = c.args.name.now in
    let old = c.args.source.now in
    let o = c.outline_of-outline.result.now in
    let is_o = sym c.outline_of-outline.ensures in
    let low = c.args.heights.low in
    let high = c.args.heights.high in
    let gives : Outline → Result Extruded Refusal = λ p. solid_given at.limits.now at.script.now at.line low high (solid_of p low high) in
    let out = on_output g.O.Sink c.args.out.now in
    let told = on_output g.O.Sink c.say_extruded.new.sink in
    let forced = c.in_ok-extruded.ensures.forced in
    let done = for_one gives _ is_o c.in_ok-extruded.ensures.meets in
    rw (e.1, e.2)
    (given_unnamed (gives (outline_at named old)) (λ s. extrude_line name old s.forced) (λ s. OfMesh s.mesh) name named out told (solid_of o low high) done
    (forced_as name old _ _ out told _ forced c.in_ok-say_extruded.ensures.meets))

pub returns-clause-meets : goal.returns-clause-meets
returns-clause-meets g c kernels =
    let at = c.args.at.now in
    let named = named_in c.args.names.now in
    let name = c.args.name.now in
    let old = c.args.source.now in
    let o = c.outline_of-outline.result.now in
    let is_o = sym c.outline_of-outline.ensures in
    let low = c.args.heights.low in
    let high = c.args.heights.high in
    let gives : Outline → Result Extruded Refusal = λ p. solid_given at.limits.now at.script.now at.line low high (solid_of p low high) in
    let out = on_output g.O.Sink c.args.out.now in
    let told = on_output g.O.Sink c.say_extruded.new.sink in
    let forced = c.in_ok-extruded.ensures.forced in
    let done = for_one gives _ is_o c.in_ok-extruded.ensures.meets in
    let is = c.in_ok-define.ensures.named ∙ ap (λ m. with_name name m named)
    c.in_ok-extruded.ensures.mesh in
    given_named (gives (outline_at named old)) (λ s. extrude_line name old s.forced) (λ s. OfMesh s.mesh) name named out told (solid_of o low high)
    (named_in c.define.new.self) is done
    (forced_as name old _ _ out told _ forced c.in_ok-say_extruded.ensures.meets)

pub returns-clause-named : goal.returns-clause-named
returns-clause-named g c = (c.in_ok-extruded.extruded.mesh, c.in_ok-define.ensures.named)
