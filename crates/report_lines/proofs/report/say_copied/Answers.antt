use Rattle.std.proofs.Common.{◌≡◌, ◌++◌, ◌∙◌, [], ap, codes, length, sym}
use Rattle.std.proofs.lemmas.List.{length-map}
use Rattle.mesh_terms.specs.Meshes.{Soup, triple_of}
use Rattle.run_terms.specs.Files.{Bytes}
use Rattle.play_terms.specs.Lines.{copied_line, counts_text}
use Rattle.report_lines.proofs.Said.{copied_parts, meets_by, takes_as}
use Rattle.report_lines.proofs.report.say_copied.Goals as goal

pub returns : goal.returns
returns g c =
    let to = c.args.to.now in
    let m : Soup = record { points = c.args.mesh.now.points; triples = c.args.mesh.now.triples; labels = c.args.mesh.now.labels; unused = c.args.unused } in
    let points : length c.points.result.now ≡ length m.points = ap length c.points.ensures.value in
    let triples : length c.triples.result.now ≡ length m.triples = sym (length-map c.triples.result.now triple_of) ∙ ap length c.triples.ensures.value in
    let tail : Bytes = c.as_slice.result.now in
    let is : tail ≡ counts_text (length m.points) (length m.triples) m.unused ++ codes "\n" =
    c.as_slice.ensures.value ∙ (rw (points, triples, c.from.ensures) at c.copied_tail-tail.ensures) in
    let line = ap (λ name. codes "copied " ++ (name ++ (tail ++ []))) c.as_bytes.ensures.value ∙ copied_parts to tail m is in
    let takes = takes_as g.K.Sink (copied_line to m) _ _ _ c.say.result line c.say.ensures in
    record { meets = meets_by g.K.Sink (copied_line to m) _ _ c.say.result takes; takes = takes }
