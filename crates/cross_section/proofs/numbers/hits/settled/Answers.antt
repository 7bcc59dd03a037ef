use Rattle.std.proofs.Common.{to_z, of_z, w64, sym, subst}
use Rattle.mesh_terms.specs.Points.{IsOnGrid}
use Rattle.side_terms.specs.Fine.{IsFine}
use Rattle.cross_section.proofs.KeptNumbers.{kept_fine, kept_grid}
use Rattle.cross_section.proofs.Points.{settled_grid}
use Rattle.cross_section.proofs.numbers.hits.settled.Goals as goal

pub returns-clause-on_grid : goal.returns-clause-on_grid
returns-clause-on_grid g c =
    let fine = c.args.fine in
    let seen = to_z w64 (of_z w64 fine) in
    let on = subst IsOnGrid (sym c.settle.ensures) (settled_grid (g.R.Rounding.settle_of c.args.rounding.now)
    (record { monotone = g.met.R.Rounding.monotone c.args.rounding.now; units = g.met.R.Rounding.units c.args.rounding.now })
    seen (subst IsFine (sym (kept_fine fine c.requires)) c.requires)) in
    subst IsOnGrid (sym (kept_grid c.settle.result on)) on
