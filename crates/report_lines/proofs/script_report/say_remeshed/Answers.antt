use Rattle.std.proofs.Common.{◌≡◌, ◌++◌, ◌∙◌, [], codes}
use Rattle.text_terms.specs.Written.{line_of}
use Rattle.run_terms.specs.Files.{Bytes}
use Rattle.play_terms.specs.ScriptLines.{remesh_line, remeshed_text}
use Rattle.report_lines.proofs.Said.{meets_by, takes_as}
use Rattle.report_lines.proofs.ScriptLines.{four_before}
use Rattle.report_lines.proofs.script_report.say_remeshed.Goals as goal

pub returns : goal.returns
returns g c =
    let name = c.args.name.now in
    let source = c.args.source.now in
    let text = remeshed_text c.args.planes c.args.kept in
    let tail = c.as_slice.result.now in
    let is : tail ≡ line_of text = c.as_slice.ensures.value ∙ c.remeshed_tail-tail.ensures in
    let parts : Bytes → Bytes → Bytes = λ a b. a ++ (codes " = remesh " ++ (b ++ (tail ++ []))) in
    let line = (λ i. parts (c.as_bytes-name.ensures.value i) (c.as_bytes-source.ensures.value i)) ∙ four_before [] name (codes " = remesh ") source text tail is in
    let takes = takes_as g.K.Sink (remesh_line name source c.args.planes c.args.kept) _ _ _ c.say.result line c.say.ensures in
    record { meets = meets_by g.K.Sink (remesh_line name source c.args.planes c.args.kept) _ _ c.say.result takes; takes = takes }
