use Rattle.std.proofs.Common.{ap, length, sym, ◌∙◌}
use Rattle.std.proofs.lemmas.List.{length-map}
use Rattle.mesh_terms.specs.Meshes.{triple_of}
use Rattle.inspection_laws.proofs.Apart.{many_boxes}
use Rattle.self_cuts.proofs.faces.FaceBoxesBoxes.count.Goals as goal

pub returns : goal.returns
returns c = sym (length-map c.triples.result.now triple_of) ∙ ap length c.triples.ensures.value ∙ sym (many_boxes c.args.self.now.mesh.now)
