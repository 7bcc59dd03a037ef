use Rattle.std.proofs.Common.{◌∙◌, ℕ, List, ap, arith, get_or, length}
use Rattle.std.specs.Prelude.{not}
use Rattle.plane_remesh.proofs.Viewing.{numbers_some, seen_back, seen_front}
use Rattle.plane_remesh.proofs.surface.CutSurface.view.Goals as goal

pub bounds-faces_of-0 : goal.bounds-faces_of-0
bounds-faces_of-0 c =
    let w = c.requires.surface in
    omega (arith, ap length c.faces_of.ensures, numbers_some w.0 w.1 c.args.self.now w.2 c.args.plane c.requires.plane)

pub returns-then-index : goal.returns-then-index
returns-then-index c = λ points all is.
    let t = get_or c.faces_of.result.now 0 0 in
    let view = c.towards-towards.ensures in
    seen_front points all c.args.self.now is c.args.plane c.requires.plane t (ap (λ (l : List ℕ). get_or l 0 0) c.faces_of.ensures) c.towards-towards.result c.index.result.now
    c.index.ensures c.if-index.true (view.drop points all is) (view.turned points all is)

pub returns-else-index : goal.returns-else-index
returns-else-index c = λ points all is.
    let t = get_or c.faces_of.result.now 0 0 in
    let view = c.towards-towards.ensures in
    seen_back points all c.args.self.now is c.args.plane c.requires.plane t (ap (λ (l : List ℕ). get_or l 0 0) c.faces_of.ensures) c.behind.result c.index.result.now
    c.index.ensures c.if-index.false (ap (λ p. p.drop) c.behind.ensures.drop ∙ view.drop points all is) (c.behind.ensures.turned ∙ ap not (view.turned points all is))
