use Rattle.std.proofs.Common.{Bool, ap, arith, sym, ◌∙◌}
use Rattle.std.specs.Prelude.{◌&&◌}
use Rattle.std.proofs.lemmas.Bool.{lt-ltb}
use Rattle.inspection_laws.specs.Signs.{are_cutting}
use Rattle.self_cuts.specs.Faces.{corners, places}
use Rattle.self_cuts.proofs.near.is_counted.Goals as goal

pub returns-then-s-t : goal.returns-then-s-t
returns-then-s-t c =
    c.is_near.ensures
    ∙ sym (ap (λ (b : Bool). b && are_cutting (places c.args.s.now.triangle) (corners c.args.o.now)) (lt-ltb c.args.s.now.number c.args.t (omega (arith, c.if-s-t.true))))
