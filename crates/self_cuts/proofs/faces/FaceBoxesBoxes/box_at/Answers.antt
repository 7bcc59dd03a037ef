use Rattle.std.proofs.Common.{◌<◌, ap, arith, length, sym, ◌∙◌}
use Rattle.inspection_laws.specs.Boxes.{box_round}
use Rattle.inspection_laws.proofs.Apart.{box_is, many_boxes}
use Rattle.self_cuts.proofs.faces.FaceBoxesBoxes.box_at.Goals as goal

pub overflow_cast-number : goal.overflow_cast-number
overflow_cast-number c = let few = c.triples.ensures.accepted.mesh.few_triples in omega (arith, c.requires, few, many_boxes c.args.self.now.mesh.now)

pub triangle_at-requires : goal.triangle_at-requires
triangle_at-requires c = let few = c.triples.ensures.accepted.mesh.few_triples in omega (arith, c.requires, few, many_boxes c.args.self.now.mesh.now)

pub returns : goal.returns
returns c =
    let mesh = c.args.self.now.mesh.now in
    let few = c.triples.ensures.accepted.mesh.few_triples in
    let low : c.args.number < length mesh.triples = omega (arith, c.requires, many_boxes mesh) in
    c.box_of.ensures ∙ ap box_round c.triangle_at.ensures ∙ sym (box_is mesh c.args.number low)
