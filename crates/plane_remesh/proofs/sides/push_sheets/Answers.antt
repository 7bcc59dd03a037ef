use Rattle.std.proofs.Common.{[], false, map, ◌++◌, ◌≡◌, ◌≤◌, ◌<◌, ◌^◌, ◌∙◌, ap, arith, get_or, length, subst, sym}
use Rattle.std.specs.List.{All}
use Rattle.std.proofs.lemmas.List.{get_or_read, take_all}
use Rattle.face_plane.specs.Planes.{face_plane}
use Rattle.plane_filling.specs.Regions.{AreSeen, all_walks, waiting}
use Rattle.plane_sheets.specs.declared.regions.SheetRegion.{SheetRegion}
use Rattle.sheet_terms.specs.Faces.{labels_of}
use Rattle.plane_sheets.specs.Found.{region_in}
use Rattle.plane_sheets.specs.Seen.{seen_in}
use Rattle.plane_sheets.specs.Sides.{sizes}
use Rattle.plane_remesh.specs.Pushed.{HasPushedSome}
use Rattle.plane_remesh.proofs.Sheeting.{chain_own, counted, found_are, label_within, sees_as, sheet_more}
use Rattle.plane_remesh.proofs.Storing.{some_none, whole_seen}
use Rattle.plane_remesh.proofs.sides.push_sheets.Goals as goal

pub regions_of-requires-clause-places : goal.regions_of-requires-clause-places
regions_of-requires-clause-places c =
    let w = c.requires.work in
    subst (λ ps. All (λ e. All (λ v. v < length ps) e) c.args.work.now.told.chain.edges.items) (sym (c.seen.ensures.points ∙ w.5.stored)) w.5.places

pub regions_of-requires-clause-few : goal.regions_of-requires-clause-few
regions_of-requires-clause-few c = c.requires.work.5.few

pub regions_of-requires-clause-nets : goal.regions_of-requires-clause-nets
regions_of-requires-clause-nets c = c.requires.work.5.nets

pub regions_of-requires-clause-small : goal.regions_of-requires-clause-small
regions_of-requires-clause-small c =
    let small : sizes c.args.work.now.told.chain.nets.0 ≤ 2 ^ 31 = c.requires.work.5.small in
    omega (arith, small)

pub loop-each-init : goal.loop-each-init
loop-each-init c = record {
  whole = c.requires.whole;
  pushed = λ points all own s front is sees. some_none points all s front c.args.first false c.args.regions.now c.requires.whole;
}

pub push_walks-requires-clause-are : goal.push_walks-requires-clause-are
push_walks-requires-clause-are c = c.loop-each.invariant.whole.are

pub push_walks-requires-clause-made : goal.push_walks-requires-clause-made
push_walks-requires-clause-made c = c.loop-each.invariant.whole.made

pub push-requires-clause-are : goal.push-requires-clause-are
push-requires-clause-are c = c.in_ok-push_walks.ensures.are

pub push-requires-clause-made : goal.push-requires-clause-made
push-requires-clause-made c = c.in_ok-push_walks.ensures.made

pub index-label-requires : goal.index-label-requires
index-label-requires c =
    let w = c.requires.work in
    let labels = c.in_ok-found.ensures.labels (labels_of w.2) (chain_own w.0 w.1 w.2 w.3 c.args.work.now w.5 w.4 c.args.view w.6) w.5.told.chain
    (counted w.0 w.1 w.2 w.3 c.args.work.now w.5 w.4 c.args.view w.6) in
    let items = c.deref-each-items.result.now in
    let each = c.each-item.result in
    let low : each.label < length (labels_of w.2) =
    subst (λ (r : SheetRegion). r.label < length (labels_of w.2)) (sym c.each-item.is)
    (subst (All (λ r. r.label < length (labels_of w.2))) (sym c.deref-each-items.ensures.value) labels c.loop-each.each-index each c.loop-each-test.true) in
    omega (arith, label_within w.0 w.1 w.2 w.3 c.args.work.now w.5 w.4 c.args.view w.6 each.label low, c.args.work.now.faces.labels.firsts.ok.0)

pub loop-each-preserved : goal.loop-each-preserved
loop-each-preserved c = record {
  whole = whole_seen c.push.new.regions _ _ c.in_ok-push.ensures.seen c.in_ok-push.ensures.few;
  pushed = λ points all own s front is sees.
      let work = c.args.work.now in
      let cs = chain_own points all own s work is front c.args.view sees in
      let many = counted points all own s work is front c.args.view sees in
      let found = c.deref-each-items.result.now in
      let at = seen_in c.seen.result in
      let each = c.each-item.result in
      let told = c.deref-each-items.ensures.value in
      let labels : All (λ r. r.label < length (labels_of own)) found =
      subst (All (λ r. r.label < length (labels_of own))) (sym told) (c.in_ok-found.ensures.labels (labels_of own) cs is.told.chain many) in
      let low : each.label < length (labels_of own) =
      subst (λ (r : SheetRegion). r.label < length (labels_of own)) (sym c.each-item.is) (labels c.loop-each.each-index each c.loop-each-test.true) in
      let first : c.index-label.result.now ≡ get_or work.faces.labels.firsts.items each.label 0 =
      get_or_read work.faces.labels.firsts.items each.label c.index-label.result.now
      (label_within points all own s work is front c.args.view sees each.label low) c.index-label.ensures 0 in
      sheet_more points all own s work is front c.args.view sees at found c.loop-each.each-index each c.args.first c.args.regions.now c.loop-each.regions c.push_walks.new.regions
      c.push.new.regions _ c.loop-each-test.true (sym c.each-item.is)
      (ap (map (region_in (labels_of own))) told ∙ c.in_ok-found.ensures.regions (labels_of own) cs is.told.chain many)
      labels
      (c.loop-each.invariant.pushed points all own s front is sees)
      (subst (λ ws. AreSeen c.push_walks.new.regions c.loop-each.regions.all.items (all_walks c.loop-each.regions) (waiting c.loop-each.regions ++ ws) []) c.deref.ensures.value
      c.in_ok-push_walks.ensures)
      c.in_ok-push.ensures.seen c.in_ok-push.ensures.few
      (λ i. record { first = c.args.first; kept = false; label = first i; view = c.args.view });
}

pub returns : goal.returns
returns c = λ points all own s front is sees.
    let work = c.args.work.now in
    let cs = chain_own points all own s work is front c.args.view sees in
    let many = counted points all own s work is front c.args.view sees in
    let found = c.deref-each-items.result.now in
    let told = c.deref-each-items.ensures.value in
    subst (HasPushedSome points all s front c.args.first false c.args.regions.now c.loop-each.regions)
    (ap (map (region_in (labels_of own))) (take_all c.loop-each.each-index found c.loop-each-test.false)
    ∙ found_are points all own s work is front c.args.view sees (seen_in c.seen.result) found
    ((λ i. face_plane (c.seen.ensures.plane i).drop (c.seen.ensures.turned i) c.seen.result.points.now)
    ∙ sees_as points all own s work is front c.args.view sees c.seen.result.points.now c.seen.ensures.points)
    (ap (map (region_in (labels_of own))) told ∙ c.in_ok-found.ensures.regions (labels_of own) cs is.told.chain many))
    (c.loop-each.invariant.pushed points all own s front is sees)
