use Rattle.std.proofs.Common.{◌≡◌, ◌++◌, ◌∙◌, [], ap, codes}
use Rattle.std.specs.Prelude.{slice_index}
use Rattle.std.specs.Fmt.{decimal}
use Rattle.text_terms.specs.Written.{line_of}
use Rattle.run_terms.specs.Files.{Bytes}
use Rattle.play_terms.specs.Combined.{Combined}
use Rattle.play_terms.specs.ScriptLines.{combine_line, combined_text}
use Rattle.report_lines.specs.declared.script_report.OperationCounts.{OperationCounts}
use Rattle.report_lines.specs.Counts.{counts_of}
use Rattle.report_lines.specs.Taken.{Takes}
use Rattle.report_lines.proofs.Said.{meets_by, takes_as}
use Rattle.report_lines.proofs.ScriptLines.{combined_parts}
use Rattle.report_lines.proofs.script_report.say_combined.Goals as goal

-- the numbers as the line has them
abbrev numbers_text : OperationCounts → Bytes
numbers_text c =
    codes ": kept " ++ decimal (slice_index c.kept 0) ++ codes " " ++ decimal (slice_index c.kept 1) ++ codes ", crossings " ++ decimal c.crossings
    ++ codes ", forced " ++ decimal c.forced

pub returns : goal.returns
returns g c =
    let op = c.args.op in
    let name = c.args.name.now in
    let left = c.args.left.now in
    let right = c.args.right.now in
    let tail = c.as_slice.result.now in
    let parts : Bytes → Bytes → Bytes → Bytes → Bytes = λ n o l r. n ++ (o ++ (l ++ (codes " " ++ (r ++ (tail ++ []))))) in
    let line : (o : Combined) → c.args.counts.now ≡ counts_of o
    → parts c.as_bytes-name.result.now c.op_text-word.result.now c.as_bytes-left.result.now c.as_bytes-right.result.now ≡ combine_line op name left right o =
    λ o same.
    let is : tail ≡ line_of (combined_text o) = c.as_slice.ensures.value ∙ c.combined_tail-tail.ensures ∙ ap (λ k. line_of (numbers_text k)) same in
    (λ i. parts (c.as_bytes-name.ensures.value i) (c.op_text-word.ensures i) (c.as_bytes-left.ensures.value i) (c.as_bytes-right.ensures.value i))
    ∙ combined_parts op name left right tail o is in
    let takes : (o : Combined) → c.args.counts.now ≡ counts_of o → Takes g.K.Sink (combine_line op name left right o) _ _ c.say.result = λ o same.
    takes_as g.K.Sink (combine_line op name left right o) _ _ _ c.say.result (line o same) c.say.ensures in
    record { meets = λ o same. meets_by g.K.Sink (combine_line op name left right o) _ _ c.say.result (takes o same); takes = takes }
