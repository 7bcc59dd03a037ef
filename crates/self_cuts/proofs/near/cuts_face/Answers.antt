use Rattle.std.proofs.Common.{sym, subst, ◌≡◌}
use Rattle.std.specs.Prelude.{true}
use Rattle.inspection_laws.specs.Signs.{lies_beside}
use Rattle.inspection_laws.proofs.Beside.{beside_back}
use Rattle.self_cuts.specs.Faces.{corners}
use Rattle.self_cuts.proofs.near.cuts_face.Goals as goal

pub returns-then-is_beside : goal.returns-then-is_beside
returns-then-is_beside c =
    let beside = subst (λ o. lies_beside o (corners c.args.t.now) ≡ true) c.triangle_of.ensures (sym c.if-is_beside.ensures) in
    sym (beside_back (corners c.args.t.now) (corners c.args.o.now) beside)

pub returns : goal.returns
returns c = c.are_cutting.ensures
