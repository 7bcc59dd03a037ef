use Rattle.std.proofs.Common.{◌≤ℤ◌, ℤ, pos, negsuc, sym, subst, ap, ◌∙◌}
use Rattle.side_terms.specs.Corners.{corner_at}
use Rattle.shadow_kernels.specs.Shadows.{edge_edge, vertex_face}
use Rattle.edge_face.specs.Crossings.{number_of, p_point}
use Rattle.edge_face.specs.Laws.{lift}
use Rattle.edge_face.proofs.Kept.{fine_edge, fine_face}
use Rattle.exact_kernels.specs.Exact.{exact}
use Rattle.exact_kernels.specs.Units.{unit_number_12}
use Rattle.exact_kernels.proofs.ExactCrosses23.cross.Goals as goal

pub returns : goal.returns
returns g c =
    let w = g.R.Rounding.between_of c.args.self.now.rounding in
    let settle = g.R.Rounding.settle_of c.args.self.now.rounding in
    let e = c.args.p.now in
    let f = c.args.q.now in
    let number =
    ap number_of c.crossing.ensures.value ∙ lift (vertex_face exact w) (edge_edge exact w) (p_point w settle) (corner_at e 0) (corner_at e 1) (corner_at f 0) (corner_at f 1)
    (corner_at f 2) in
    let small =
    unit_number_12 w (record { within = g.met.R.Rounding.within c.args.self.now.rounding }) (corner_at e 0) (corner_at e 1) (corner_at f 0) (corner_at f 1) (corner_at f 2)
    (fine_edge e c.told-p c.requires.p_fine) (fine_face f c.told-q c.requires.q_fine) in
    record { value = c.crossing.ensures.value; once = subst (λ (z : ℤ). (negsuc 0 ≤ℤ z) × (z ≤ℤ pos 1)) (sym number) small }
