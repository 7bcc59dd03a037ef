use Rattle.std.proofs.Common.{◌≡◌, ◌∙◌, Result, ap, sym}
use Rattle.std.proofs.lemmas.Result.{err_from_is_err_and}
use Rattle.mb_outside.specs.Seen.{on_output}
use Rattle.outline_terms.specs.Outlines.{Outline}
use Rattle.report_lines.specs.Counts.{counts2_of}
use Rattle.run_terms.specs.Tasks.{Refusal}
use Rattle.play_terms.specs.Combined.{Combined2}
use Rattle.play_terms.specs.Plays.{OfOutline, outline_at, with_outline, within2}
use Rattle.play_terms.specs.ScriptLines.{combine2_line}
use Rattle.script_runs.specs.Names.{named_in}
use Rattle.script_runs.specs.Operations.{meanings}
use Rattle.script_runs.proofs.Stages.{for_two, given_named, given_stopped, given_unnamed, given_unsaid}
use Rattle.script_runs.proofs.outlining.combine2.Goals as goal

pub returns-in_err-flat-clause-meets : goal.returns-in_err-flat-clause-meets
returns-in_err-flat-clause-meets g c =
    let e = err_from_is_err_and c.from_residual.result c.from_residual.ensures.1 in
    let at = c.args.at.now in
    let what = c.args.what.now in
    let named = named_in c.args.names.now in
    let gives : Outline → Outline → Result Combined2 Refusal = λ p q. within2 at.limits.now ((meanings at.kernels).outlines what.op p q) in
    let given = gives (outline_at named what.left.now) (outline_at named what.right.now) in
    let is_p = sym c.outline_of-p.ensures in
    let is_q = sym c.outline_of-q.ensures in
    let out = on_output g.O.Sink c.args.out.now in
    rw (e.1, e.2) (given_stopped given
    (combine2_line what.op what.name.now what.left.now what.right.now) (λ o. OfOutline o.outline) what.name.now named out out _
    (for_two gives _ is_p is_q c.in_err-flat.ensures.meets))

pub returns-in_err-say_combined2-clause-meets : goal.returns-in_err-say_combined2-clause-meets
returns-in_err-say_combined2-clause-meets g c =
    let e = err_from_is_err_and c.from_residual-in_err-say_combined2.result c.from_residual-in_err-say_combined2.ensures.1 in
    let at = c.args.at.now in
    let what = c.args.what.now in
    let named = named_in c.args.names.now in
    let gives : Outline → Outline → Result Combined2 Refusal = λ p q. within2 at.limits.now ((meanings at.kernels).outlines what.op p q) in
    let given = gives (outline_at named what.left.now) (outline_at named what.right.now) in
    let is_p = sym c.outline_of-p.ensures in
    let is_q = sym c.outline_of-q.ensures in
    let out = on_output g.O.Sink c.args.out.now in
    let told = on_output g.O.Sink c.say_combined2.new.sink in
    let o = (meanings at.kernels).outlines what.op c.outline_of-p.result.now c.outline_of-q.result.now in
    let same = c.counts_of-counts.ensures ∙ ap counts2_of c.in_ok-flat.ensures.outcome in
    rw (e.1, e.2)
    (given_unsaid given
    (combine2_line what.op what.name.now what.left.now what.right.now) (λ o. OfOutline o.outline) what.name.now named out told o _
    (for_two gives _ is_p is_q c.in_ok-flat.ensures.meets)
    (c.in_err-say_combined2.ensures.meets o same))

pub returns-in_err-define_outline-clause-meets : goal.returns-in_err-define_outline-clause-meets
returns-in_err-define_outline-clause-meets g c =
    let e = err_from_is_err_and c.from_residual-in_err-define_outline.result c.from_residual-in_err-define_outline.ensures.1 in
    let at = c.args.at.now in
    let what = c.args.what.now in
    let named = named_in c.args.names.now in
    let gives : Outline → Outline → Result Combined2 Refusal = λ p q. within2 at.limits.now ((meanings at.kernels).outlines what.op p q) in
    let given = gives (outline_at named what.left.now) (outline_at named what.right.now) in
    let is_p = sym c.outline_of-p.ensures in
    let is_q = sym c.outline_of-q.ensures in
    let out = on_output g.O.Sink c.args.out.now in
    let told = on_output g.O.Sink c.say_combined2.new.sink in
    let o = (meanings at.kernels).outlines what.op c.outline_of-p.result.now c.outline_of-q.result.now in
    let same = c.counts_of-counts.ensures ∙ ap counts2_of c.in_ok-flat.ensures.outcome in
    rw (e.1, e.2)
    (given_unnamed given
    (combine2_line what.op what.name.now what.left.now what.right.now) (λ o. OfOutline o.outline) what.name.now named out told o
    (for_two gives _ is_p is_q c.in_ok-flat.ensures.meets)
    (c.in_ok-say_combined2.ensures.meets o same))

pub returns-clause-meets : goal.returns-clause-meets
returns-clause-meets g c =
    let at = c.args.at.now in
    let what = c.args.what.now in
    let named = named_in c.args.names.now in
    let gives : Outline → Outline → Result Combined2 Refusal = λ p q. within2 at.limits.now ((meanings at.kernels).outlines what.op p q) in
    let given = gives (outline_at named what.left.now) (outline_at named what.right.now) in
    let is_p = sym c.outline_of-p.ensures in
    let is_q = sym c.outline_of-q.ensures in
    let out = on_output g.O.Sink c.args.out.now in
    let told = on_output g.O.Sink c.say_combined2.new.sink in
    let o = (meanings at.kernels).outlines what.op c.outline_of-p.result.now c.outline_of-q.result.now in
    let same = c.counts_of-counts.ensures ∙ ap counts2_of c.in_ok-flat.ensures.outcome in
    let is = c.in_ok-define_outline.ensures.named ∙ ap (λ m. with_outline what.name.now m named)
    (ap (λ f. f.outline) c.flat.view_is ∙ ap (λ r. r.outline) c.in_ok-flat.ensures.outcome) in
    given_named given
    (combine2_line what.op what.name.now what.left.now what.right.now) (λ o. OfOutline o.outline) what.name.now named out told o (named_in c.define_outline.new.self) is
    (for_two gives _ is_p is_q c.in_ok-flat.ensures.meets) (c.in_ok-say_combined2.ensures.meets o same)

pub returns-clause-named : goal.returns-clause-named
returns-clause-named g c = (c.flat.inside.outline, c.in_ok-define_outline.ensures.named)
