use Rattle.std.proofs.Common.{ap, ◌∙◌}
use Rattle.side_terms.specs.Corners.{corner_at}
use Rattle.shadow_kernels.specs.Entries.{spot_of}
use Rattle.edge_face.proofs.Faced.{faced}
use Rattle.edge_face.proofs.numbered.face_spot.Goals as goal

pub returns : goal.returns
returns g c =
    c.spot_of.ensures ∙ ap spot_of
    (c.face_meet.ensures ∙ faced c.args.of c.other.result _ _ (corner_at c.args.vertex.now 0) (corner_at c.args.face.now 0) (corner_at c.args.face.now 1)
    (corner_at c.args.face.now 2) c.other.ensures)
