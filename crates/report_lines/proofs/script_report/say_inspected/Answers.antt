use Rattle.std.proofs.Common.{◌≡◌, ◌++◌, ◌∙◌, ℕ, [], codes}
use Rattle.std.specs.Fmt.{decimal}
use Rattle.mesh_terms.specs.Meshes.{Mesh}
use Rattle.run_terms.specs.Files.{Bytes}
use Rattle.text_terms.specs.Written.{line_of, three_numbers}
use Rattle.play_terms.specs.ScriptLines.{corners_text, inspect_line, inspected_text}
use Rattle.report_lines.specs.Inspections.{IsInspectionOf}
use Rattle.report_lines.specs.Taken.{Takes}
use Rattle.report_lines.proofs.Said.{meets_by, takes_as}
use Rattle.report_lines.proofs.ScriptLines.{two_before}
use Rattle.report_lines.proofs.script_report.say_inspected.Goals as goal

pub returns : goal.returns
returns g c =
    let name = c.args.name.now in
    let k = c.args.digits in
    let corners = c.as_slice.result.now in
    let tail = c.as_slice-2.result.now in
    let seen = c.args.seen.now in
    let line : (m : Mesh) (cuts : ℕ) → IsInspectionOf m cuts seen → c.as_bytes.result.now ++ (corners ++ (tail ++ [])) ≡ inspect_line k name m cuts = λ m cuts is.
    let boxed : corners ≡ corners_text k m =
    c.as_slice.ensures.value ∙ c.corners_tail-corners.ensures
    ∙ (λ i. codes ": low " ++ three_numbers k (is.low i) ++ codes ", high " ++ three_numbers k (is.high i)) in
    let told : tail ≡ line_of (inspected_text m cuts) =
    c.as_slice-2.ensures.value ∙ c.inspected_tail-counts.ensures
    ∙ (λ i. line_of (codes ", flat " ++ decimal (is.flat i) ++ codes ", doubled " ++ decimal (is.doubled i) ++ codes ", touching "
    ++ decimal (is.touching i) ++ codes ", cuts " ++ decimal (is.cuts i))) in
    let parts : Bytes → Bytes → Bytes = λ n s. n ++ (s ++ (tail ++ [])) in
    (λ i. parts (c.as_bytes.ensures.value i) (boxed i)) ∙ two_before name (corners_text k m) (inspected_text m cuts) tail told in
    let takes : (m : Mesh) (cuts : ℕ) → IsInspectionOf m cuts seen → Takes g.K.Sink (inspect_line k name m cuts) _ _ c.say.result = λ m cuts is.
    takes_as g.K.Sink (inspect_line k name m cuts) _ _ _ c.say.result (line m cuts is) c.say.ensures in
    record { meets = λ m cuts is. meets_by g.K.Sink (inspect_line k name m cuts) _ _ c.say.result (takes m cuts is); takes = takes }
