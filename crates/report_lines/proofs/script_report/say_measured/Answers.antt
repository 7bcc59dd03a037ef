use Rattle.std.proofs.Common.{◌≡◌, ◌++◌, ◌∙◌, [], codes, rules, w64}
use Rattle.std.specs.Int.{w128}
use Rattle.std.specs.Fmt.{decimal, signed_decimal}
use Rattle.std.proofs.lemmas.Int.{to_z-of_z}
use Rattle.mesh_terms.specs.Meshes.{Mesh}
use Rattle.run_terms.specs.Files.{Bytes}
use Rattle.text_terms.specs.Written.{line_of}
use Rattle.play_terms.specs.ScriptLines.{measure_line, measures_text, size_text}
use Rattle.report_lines.specs.Measures.{IsMeasureOf}
use Rattle.report_lines.specs.Taken.{Takes}
use Rattle.report_lines.proofs.Said.{meets_by, takes_as}
use Rattle.report_lines.proofs.ScriptLines.{two_before}
use Rattle.report_lines.proofs.script_report.say_measured.Goals as goal

pub returns : goal.returns
returns g c =
    let name = c.args.name.now in
    let size = c.as_slice.result.now in
    let tail = c.as_slice-2.result.now in
    let measure = c.args.measure.now in
    let line : (m : Mesh) → IsMeasureOf m measure → c.as_bytes.result.now ++ (size ++ (tail ++ [])) ≡ measure_line name m = λ m is.
    let sized : size ≡ size_text m =
    c.as_slice.ensures.value ∙ c.size_tail-size.ensures.text ∙ (λ i. codes ": points " ++ decimal (is.points i) ++ codes ", triangles " ++ decimal (is.triangles i)) in
    let told : tail ≡ line_of (measures_text m) =
    c.as_slice-2.ensures.value
    ∙ (simp (to_z-of_z w64 measure.euler (search rules), to_z-of_z w128 measure.volume6 (search rules)) at c.measured_tail-tail.ensures)
    ∙ (λ i. line_of (codes ", components " ++ decimal (is.components i) ++ codes ", euler " ++ signed_decimal (is.euler i) ++ codes ", volume6 "
    ++ signed_decimal (is.volume6 i))) in
    let parts : Bytes → Bytes → Bytes = λ n s. n ++ (s ++ (tail ++ [])) in
    (λ i. parts (c.as_bytes.ensures.value i) (sized i)) ∙ two_before name (size_text m) (measures_text m) tail told in
    let takes : (m : Mesh) → IsMeasureOf m measure → Takes g.K.Sink (measure_line name m) _ _ c.say.result = λ m is.
    takes_as g.K.Sink (measure_line name m) _ _ _ c.say.result (line m is) c.say.ensures in
    record { meets = λ m is. meets_by g.K.Sink (measure_line name m) _ _ c.say.result (takes m is); takes = takes }
