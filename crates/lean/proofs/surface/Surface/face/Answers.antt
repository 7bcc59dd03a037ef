use Rattle.std.proofs.Common.{List, [], length, get_or, ap, sym, subst, ◌∙◌}
use Rattle.mb_base.specs.declared.point.Corner.{Corner}
use Rattle.mesh_terms.specs.Meshes.{IsBelow, triple_of}
use Rattle.side_terms.specs.Corners.{AllFine}
use Rattle.side_terms.specs.Sides.{face_of}
use Rattle.lean.proofs.Corners.{face_fine}
use Rattle.lean.proofs.Triangles.{face_below}
use Rattle.lean.proofs.surface.Surface.face.Goals as goal

pub face_of-requires : goal.face_of-requires
face_of-requires c =
    let side = c.args.self.now in
    subst (λ (cs : List Corner). IsBelow (length cs) (triple_of (get_or c.triples.result.now c.args.face []))) (sym c.corners.ensures.value)
    (face_below (length side.corners) side.triples c.triples.result.now c.args.face c.triples.ensures.value c.triples.ensures.side.accepted.mesh.below c.requires)

pub returns-clause-fine : goal.returns-clause-fine
returns-clause-fine c =
    let side = c.args.self.now in
    let t = triple_of (get_or c.triples.result.now c.args.face []) in
    subst AllFine (sym (c.face_of.ensures ∙ ap (λ cs. face_of cs t) c.corners.ensures.value)) (face_fine side.corners c.triples.ensures.side.fine t)
