use Rattle.std.proofs.Common.{◌++◌, ◌∙◌, ap, append-nil, codes, rules, w64}
use Rattle.std.proofs.lemmas.Int.{to_z-of_z}
use Rattle.play_terms.specs.Lines.{winding_line}
use Rattle.report_lines.proofs.Said.{meets_by, takes_as}
use Rattle.report_lines.proofs.report.say_winding.Goals as goal

pub returns : goal.returns
returns g c =
    let number = c.args.number in
    let told = c.as_slice.ensures.value ∙ (simp (to_z-of_z w64 number (search rules)) at c.winding_tail-tail.ensures) in
    let line = ap (λ t. codes "winding " ++ t) (append-nil c.as_slice.result.now ∙ told) in
    let takes = takes_as g.K.Sink (winding_line number) _ _ _ c.say.result line c.say.ensures in
    record { meets = meets_by g.K.Sink (winding_line number) _ _ c.say.result takes; takes = takes }
