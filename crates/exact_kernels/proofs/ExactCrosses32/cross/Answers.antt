use Rattle.std.proofs.Common.{◌≤ℤ◌, ℤ, pos, negsuc, sym, subst, ap, ◌∙◌}
use Rattle.side_terms.specs.Corners.{corner_at}
use Rattle.shadow_kernels.specs.Shadows.{edge_edge, face_vertex}
use Rattle.edge_face.specs.Crossings.{number_of, mirror, q_point}
use Rattle.edge_face.specs.Laws.{lift}
use Rattle.edge_face.proofs.Kept.{fine_edge, fine_face}
use Rattle.exact_kernels.specs.Exact.{exact}
use Rattle.exact_kernels.specs.Units.{unit_number_21}
use Rattle.exact_kernels.proofs.ExactCrosses32.cross.Goals as goal

pub returns : goal.returns
returns g c =
    let w = g.R.Rounding.between_of c.args.self.now.rounding in
    let settle = g.R.Rounding.settle_of c.args.self.now.rounding in
    let e = c.args.q.now in
    let f = c.args.p.now in
    let number =
    ap number_of c.crossing.ensures.value ∙ lift (mirror (face_vertex exact w)) (mirror (edge_edge exact w)) (q_point w settle) (corner_at e 0) (corner_at e 1) (corner_at f 0)
    (corner_at f 1) (corner_at f 2) in
    let small =
    unit_number_21 w (record { within = g.met.R.Rounding.within c.args.self.now.rounding }) (corner_at f 0) (corner_at f 1) (corner_at f 2) (corner_at e 0) (corner_at e 1)
    (fine_face f c.told-p c.requires.p_fine) (fine_edge e c.told-q c.requires.q_fine) in
    record { value = c.crossing.ensures.value; once = subst (λ (z : ℤ). (negsuc 0 ≤ℤ z) × (z ≤ℤ pos 1)) (sym number) small }
