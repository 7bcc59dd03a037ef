use Rattle.std.proofs.Common.{sym, ◌∙◌, ◌≡◌}
use Rattle.std.specs.Prelude.{false}
use Rattle.std.proofs.lemmas.Bool.{both_ways}
use Rattle.box_tree.specs.Touching.{touches}
use Rattle.inspection_laws.specs.Boxes.{box_round}
use Rattle.inspection_laws.specs.Signs.{are_cutting}
use Rattle.inspection_laws.proofs.Apart.{cutting_touch}
use Rattle.inspection_laws.proofs.Tests.{no}
use Rattle.self_cuts.specs.Faces.{corners, places}
use Rattle.self_cuts.proofs.near.is_near.Goals as goal

pub returns-else-touch : goal.returns-else-touch
returns-else-touch c =
    let t = places c.args.s.now.triangle in
    let o = corners c.args.o.now in
    let apart : touches (box_round t) (box_round o) ≡ false =
    (λ i. touches (sym c.args.s.now.own_is i) (sym c.requires i)) ∙ sym c.if-touch.ensures.value in
    c.if-touch.false ∙ sym (no (are_cutting t o) (λ e. both_ways (touches (box_round t) (box_round o)) apart (cutting_touch t o e)))

pub returns-then-touch : goal.returns-then-touch
returns-then-touch c = c.cuts_across.ensures
