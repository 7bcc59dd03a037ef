use Rattle.std.proofs.Common.{◌≡◌, ap, subst, sym, ◌∙◌, map, ◌+◌}
use Rattle.box_tree.specs.Touching.{touching_numbers}
use Rattle.edge_cutting.specs.Boxes.{point_box}
use Rattle.edge_cutting.specs.Passed.{HasPassed}
use Rattle.edge_cutting.specs.Spans.{box_between}
use Rattle.edge_cutting.proofs.Gathering.{near_below, passed_more}
use Rattle.edge_cutting.proofs.inside.Edge.take_between.Goals as goal

pub take-requires-clause-near : goal.take-requires-clause-near
take-requires-clause-near c =
    let e = c.args.self.now in
    let area = box_between e.steps c.args.from c.args.to in
    let is : c.deref.result.now ≡ touching_numbers (map point_box e.points.now) area =
    c.deref.ensures.value ∙ c.in_ok-look_between.ensures.done c.if-not-branch.false ∙ ap (λ t. touching_numbers t area) c.requires.tree in
    near_below e.points.now area c.deref.result.now is

pub returns-clause-done : goal.returns-clause-done
returns-clause-done c = λ done h.
    let e = c.args.self.now in
    let area = box_between e.steps c.args.from c.args.to in
    let is : c.deref.result.now ≡ touching_numbers (map point_box e.points.now) area =
    c.deref.ensures.value ∙ c.in_ok-look_between.ensures.done c.if-not-branch.false ∙ ap (λ t. touching_numbers t area) c.requires.tree in
    let s = c.requires.stepped in
    subst (λ l. HasPassed e.points.now e.a e.b e.steps (c.args.to + 1) l) (sym c.in_ok-take.ensures)
    (passed_more e.points.now e.a e.b e.steps s.some s.leads c.requires.apart s.a_below s.b_below c.args.from c.args.to c.requires.from c.requires.order c.requires.to
    c.args.found.now.items c.deref.result.now is h)
