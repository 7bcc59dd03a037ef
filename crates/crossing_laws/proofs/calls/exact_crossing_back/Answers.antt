use Rattle.std.proofs.Common.{ap, ◌∙◌}
use Rattle.side_terms.specs.Corners.{corner_at}
use Rattle.edge_face.specs.Crossings.{number_of}
use Rattle.edge_face.proofs.Kept.{fine_edge, fine_face}
use Rattle.crossing_laws.specs.Fine.{numbers_of_q}
use Rattle.crossing_laws.proofs.calls.exact_crossing_back.Goals as goal

pub returns : goal.returns
returns g c =
    let w = g.R.Rounding.between_of c.args.kernels.now.rounding in
    let settle = g.R.Rounding.settle_of c.args.kernels.now.rounding in
    let e = c.args.edge.now in
    let f = c.args.face.now in
    let number =
    ap number_of c.cross.ensures.value
    ∙ numbers_of_q w settle (corner_at f 0) (corner_at f 1) (corner_at f 2) (corner_at e 0) (corner_at e 1) (fine_face f c.told-face c.requires.face_fine)
    (fine_edge e c.told-edge c.requires.edge_fine) in
    record { number = number }
