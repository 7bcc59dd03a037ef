use Rattle.std.proofs.Common.{false, refl, subst, sym, ◌∙◌}
use Rattle.plane_sheets.proofs.Outcomes.{on_ok}
use Rattle.plane_remesh.specs.Pushed.{HasPushedFor, sheet_regions}
use Rattle.plane_remesh.proofs.Siding.{side_made}
use Rattle.plane_remesh.proofs.Storing.{some_whole}
use Rattle.plane_remesh.proofs.Telling.{numbers_fronts}
use Rattle.plane_remesh.proofs.sides.push_side.Goals as goal

pub first-requires : goal.first-requires
first-requires c =
    let w = c.requires.work in
    numbers_fronts w.0 w.1 w.2 w.3 c.args.work.now.faces w.4.faces w.4.are w.4.some

pub push_sheets-requires-clause-work : goal.push_sheets-requires-clause-work
push_sheets-requires-clause-work c =
    let w = c.requires.work in
    (w.0, w.1, w.2, w.3, c.args.front, w.4, c.side_view-view.ensures w.0 w.1 w.2 w.3 w.4)

pub push_kept-requires-clause-whole : goal.push_kept-requires-clause-whole
push_kept-requires-clause-whole c =
    let w = c.requires.work in
    some_whole w.0 w.1 w.3 c.args.front c.in-Some.first false c.args.regions.now c.push_sheets.new.regions (sheet_regions w.0 w.2 w.3 c.args.front)
    (c.in_ok-push_sheets-in-Some.ensures w.0 w.1 w.2 w.3 c.args.front w.4 (c.side_view-view.ensures w.0 w.1 w.2 w.3 w.4))

pub returns-in_ok-push_sheets-in-Some : goal.returns-in_ok-push_sheets-in-Some
returns-in_ok-push_sheets-in-Some c = λ points all own s is.
    let sees = c.side_view-view.ensures points all own s is in
    let first = sym c.first.ensures ∙ c.in-Some.is in
    on_ok c.push_kept.result _ _
    (λ b. subst (λ o. HasPushedFor points all o c.args.regions.now c.push_kept.new.regions) (sym first)
    (side_made points all own s c.args.work.now is c.args.front c.in-Some.first first c.args.regions.now c.push_sheets.new.regions c.push_kept.new.regions
    (c.in_ok-push_sheets-in-Some.ensures points all own s c.args.front is sees) b)) (c.push_kept.ensures points all own s is sees)

pub returns-in-None : goal.returns-in-None
returns-in-None c = λ points all own s is.
    subst (λ o. HasPushedFor points all o c.args.regions.now c.args.regions.now) (sym (sym c.first.ensures ∙ c.in-None.is)) refl
