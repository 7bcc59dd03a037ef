use Rattle.std.proofs.Common.{Bool, ap, arith, sym, ◌∙◌}
use Rattle.std.specs.Prelude.{◌&&◌}
use Rattle.std.proofs.lemmas.Bool.{lt-ltb}
use Rattle.inspection_terms.specs.Triangles.{Corners, corners_at}
use Rattle.inspection_laws.specs.Signs.{are_cutting}
use Rattle.self_cuts.specs.Faces.{corners}
use Rattle.self_cuts.proofs.near.counts.Goals as goal

pub returns-then-s-t : goal.returns-then-s-t
returns-then-s-t c =
    let o = corners c.args.o.now in
    c.is_cutting.ensures ∙ ap (λ (t : Corners). are_cutting t o) c.triangle_at.ensures
    ∙ sym (ap (λ (b : Bool). b && are_cutting (corners_at c.args.mesh.now c.args.s) o) (lt-ltb c.args.s c.args.t (omega (arith, c.if-s-t.true))))
