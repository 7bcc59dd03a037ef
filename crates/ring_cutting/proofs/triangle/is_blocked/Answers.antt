use Rattle.std.proofs.Common.{◌-◌, List, length, refl, subst, ◌∙◌}
use Rattle.ring_cutting.specs.declared.place.Place.{Place}
use Rattle.ring_cutting.proofs.Others.{Stands, at_first}
use Rattle.ring_cutting.proofs.triangle.is_blocked.Goals as goal

pub returns-then-i-eq0 : goal.returns-then-i-eq0
returns-then-i-eq0 c =
    let ps : List Place = c.args.places.now in let p : Place = c.args.p in let x : Place = c.args.x in let n : Place = c.args.n in
    let stands : Stands ps c.args.i p x n =
    record { long = c.requires.long; within = c.requires.within; before = c.requires.before; here = c.requires.here; after = c.requires.after } in
    c.any_blocks.ensures ∙ at_first ps p x n (length ps - 1) (subst (λ k. Stands ps k p x n) c.if-i-eq0.true stands) refl
