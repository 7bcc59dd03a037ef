use Rattle.std.proofs.Common.{◌≡◌, ◌++◌, ◌∙◌, [], ap, codes, length, sym}
use Rattle.std.proofs.lemmas.List.{length-map}
use Rattle.mesh_terms.specs.Meshes.{Soup, triple_of}
use Rattle.text_terms.specs.Written.{line_of}
use Rattle.run_terms.specs.Files.{Bytes}
use Rattle.play_terms.specs.Lines.{counts_text}
use Rattle.play_terms.specs.ScriptLines.{load_line}
use Rattle.report_lines.proofs.Said.{meets_by, takes_as}
use Rattle.report_lines.proofs.ScriptLines.{four_before}
use Rattle.report_lines.proofs.script_report.say_loaded.Goals as goal

pub returns : goal.returns
returns g c =
    let name = c.args.name.now in
    let file = c.args.file.now in
    let m : Soup = record { points = c.args.mesh.now.points; triples = c.args.mesh.now.triples; labels = c.args.mesh.now.labels; unused = c.args.unused } in
    let points : length c.points.result.now ≡ length m.points = ap length c.points.ensures.value in
    let triples : length c.triples.result.now ≡ length m.triples = sym (length-map c.triples.result.now triple_of) ∙ ap length c.triples.ensures.value in
    let text = counts_text (length m.points) (length m.triples) m.unused in
    let is : c.as_slice.result.now ≡ line_of text = c.as_slice.ensures.value ∙ (rw (points, triples, c.from.ensures) at c.copied_tail-tail.ensures) in
    let parts : Bytes → Bytes → Bytes = λ a b. codes "load " ++ (a ++ (codes " " ++ (b ++ (c.as_slice.result.now ++ [])))) in
    let line =
    (λ i. parts (c.as_bytes-name.ensures.value i) (c.as_bytes-file.ensures.value i))
    ∙ four_before (codes "load ") name (codes " ") file text c.as_slice.result.now is in
    let takes = takes_as g.K.Sink (load_line name file m) _ _ _ c.say.result line c.say.ensures in
    record { meets = meets_by g.K.Sink (load_line name file m) _ _ c.say.result takes; takes = takes }
