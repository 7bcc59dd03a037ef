use Rattle.std.proofs.Common.{length, subst, sym, true, ◌≤◌}
use Rattle.std.specs.Prelude.{find}
use Rattle.plane_chains.specs.Listed.{faces_side}
use Rattle.plane_sheets.proofs.Outcomes.{if_ok}
use Rattle.plane_remesh.specs.Pushed.{HasPushedPlane}
use Rattle.plane_remesh.proofs.Bounding.{before_low, same_as_pushed, whole_for}
use Rattle.plane_remesh.proofs.Storing.{on_any}
use Rattle.plane_remesh.proofs.sides.push_plane.Goals as goal

pub push_side-requires-2-clause-whole : goal.push_side-requires-2-clause-whole
push_side-requires-2-clause-whole c =
    let w = c.requires.work in
    let faces = c.args.work.now.faces in
    whole_for w.0 w.1 (find (faces_side faces.fronts.now true) faces.numbers.now) c.args.regions.now c.push_side.new.regions c.requires.whole
    (c.in_ok-push_side.ensures w.0 w.1 w.2 w.3 w.4)

pub have_same_boundary-requires : goal.have_same_boundary-requires
have_same_boundary-requires c =
    let w = c.requires.work in
    let faces = c.args.work.now.faces in
    subst (λ n. n ≤ length c.push_side-2.new.regions.walks.0) (sym c.len-before.ensures)
    (before_low w.0 w.1 faces.fronts.now faces.numbers.now c.args.regions.now c.push_side-2.new.regions c.requires.whole
    (record { between = c.push_side.new.regions; front = c.in_ok-push_side.ensures w.0 w.1 w.2 w.3 w.4; back = c.in_ok-push_side-2.ensures w.0 w.1 w.2 w.3 w.4 }))

pub returns-clause-pushed : goal.returns-clause-pushed
returns-clause-pushed c = λ points all own s is.
    on_any c.have_same_boundary.result _
    (record { between = c.push_side.new.regions; front = c.in_ok-push_side.ensures points all own s is; back = c.in_ok-push_side-2.ensures points all own s is })

pub returns-clause-same : goal.returns-clause-same
returns-clause-same c = λ points all own s is.
    let old = c.args.regions.now in
    let new = c.push_side-2.new.regions in
    let pushed : HasPushedPlane points all c.args.work.now.faces.fronts.now c.args.work.now.faces.numbers.now old new =
    record { between = c.push_side.new.regions; front = c.in_ok-push_side.ensures points all own s is; back = c.in_ok-push_side-2.ensures points all own s is } in
    if_ok c.have_same_boundary.result _ _
    (same_as_pushed points all own s c.args.work.now is old new c.requires.whole pushed c.len-before.result c.len-before.ensures) c.have_same_boundary.ensures
