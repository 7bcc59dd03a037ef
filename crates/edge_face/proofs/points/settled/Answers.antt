use Rattle.std.proofs.Common.{rules, arith, ◌≡◌, refl, sym, subst}
use Rattle.std.proofs.lemmas.Int.{ints}
use Rattle.std.specs.Int.{w32, w64}
use Rattle.mesh_terms.specs.Points.{IsOnGrid}
use Rattle.side_terms.specs.Fine.{IsFine}
use Rattle.shadow_kernels.specs.Spots.{Between}
use Rattle.shadow_kernels.proofs.Values.{seen, kept_between}
use Rattle.edge_face.specs.Settled.{between_fine}
use Rattle.edge_face.proofs.Placed.{settled_grid}
use Rattle.edge_face.proofs.points.settled.Given.{Over}
use Rattle.edge_face.proofs.points.settled.Goals.{After-between}
use Rattle.edge_face.proofs.points.settled.Goals as goal

-- the value between two is fine
fine : (g : Over) (c : After-between g) → IsFine (seen w64 c.between.result)
fine g c =
    let w : Between = g.R.Rounding.between_of c.args.rounding.now in
    let r = c.requires in
    subst IsFine (sym (kept_between w c.between.ensures r.u_fine r.v_fine r.a_weight r.b_weight refl refl (search rules)))
    (between_fine w (record { within = g.met.R.Rounding.within c.args.rounding.now }) c.args.u c.args.v c.args.a c.args.b r.u_fine r.v_fine r.a_weight r.b_weight)

pub settle-requires : goal.settle-requires
settle-requires g c = fine g (goal.at.settle-requires g c).After-between

pub returns-clause-on_grid : goal.returns-clause-on_grid
returns-clause-on_grid g c =
    let grid = settled_grid (g.R.Rounding.settle_of c.args.rounding.now)
    (record { monotone = g.met.R.Rounding.monotone c.args.rounding.now; units = g.met.R.Rounding.units c.args.rounding.now })
    (seen w64 c.between.result) (fine g (goal.at.returns-clause-on_grid g c).After-between) in
    let on : IsOnGrid c.settle.result = subst IsOnGrid (sym c.settle.ensures) grid in
    let kept : seen w32 c.settle.result ≡ c.settle.result = omega (arith, ints, on) in
    subst IsOnGrid (sym kept) on
