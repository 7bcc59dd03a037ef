use Rattle.std.proofs.Common.{[], List, ℕ, ◌++◌, ◌∷◌, ◌≡◌, ◌+◌, ◌<◌, ◌∙◌, ap, arith, false, get_or, length, subst, sym, take, true}
use Rattle.std.proofs.lemmas.List.{take_all}
use Rattle.plane_filling.specs.Regions.{AreSeen, all_walks, waiting}
use Rattle.sheet_terms.specs.Faces.{is_left}
use Rattle.plane_remesh.specs.Pushed.{HasPushedSome, side_seen}
use Rattle.plane_remesh.proofs.Sheeting.{AreKeptTo, kept_done, kept_more, kept_skip, not_beq, same_beq}
use Rattle.plane_remesh.proofs.Storing.{kept_so_far, some_none, whole_seen}
use Rattle.plane_remesh.proofs.sides.push_kept.Goals as goal
use Rattle.plane_remesh.proofs.sides.push_kept.Goals.{else-is_front-front, then-is_front-front+in_ok-push_walk+in_ok-push}

pub loop-i-init : goal.loop-i-init
loop-i-init c = record {
  whole = c.requires.whole;
  pushed = λ points all own s is sees. some_none points all s c.args.front c.args.first true c.args.regions.now c.requires.whole;
}

pub loop-i-preserved : goal.loop-i-preserved
loop-i-preserved c =
    let work = c.args.work.now in
    let k = c.loop-i.i-index in
    let items = c.deref-i-items.result.now in
    let same : items ≡ work.told.kept.items = c.deref-i-items.ensures.value in
    let low : k < length work.told.kept.items = omega (arith, c.loop-i-test.true, ap length same) in
    let this : get_or items k 0 ≡ get_or work.told.kept.items k 0 = ap (λ js. get_or js k 0) same in
    let marked = c.is_front.ensures ∙ ap (λ i. get_or work.faces.fronts.now (get_or work.faces.numbers.now i 0) false) this in
    subst (λ js. AreKeptTo work c.args.view c.args.first c.args.front c.args.regions.now c.if-is_front-front.regions (take (k + 1) js)) (sym same)
    (elim c.if-is_front-front.branch as
    (λ _. AreKeptTo work c.args.view c.args.first c.args.front c.args.regions.now c.if-is_front-front.regions (take (k + 1) work.told.kept.items)) [
      | then-is_front-front+in_ok-push_walk+in_ok-push w ↦
          subst (λ r. AreKeptTo work c.args.view c.args.first c.args.front c.args.regions.now r (take (k + 1) work.told.kept.items)) (sym w.regions-is) (record {
            whole = whole_seen w.push.new.regions _ _ w.in_ok-push.ensures.seen w.in_ok-push.ensures.few;
            pushed = λ points all own s is sees.
                kept_more points all own s work is c.args.front c.args.view sees k low c.is_front.result
                c.args.first c.args.regions.now c.loop-i.regions w.push_walk.new.self w.push.new.regions
                _ w.rim.result.now marked (same_beq c.is_front.result c.args.front w.if-is_front-front.true)
                (subst (λ js. HasPushedSome points all s c.args.front c.args.first true c.args.regions.now c.loop-i.regions
                (kept_so_far (λ f. is_left (side_seen points s c.args.front) f.corners) own (take k js))) same (c.loop-i.invariant.pushed points all own s is sees))
                (w.rim.ensures ∙ ap (λ i. get_or work.faces.rims.0 i []) this)
                (subst (λ (m : List ℕ). AreSeen w.push_walk.new.self c.loop-i.regions.all.items
                (all_walks c.loop-i.regions) (waiting c.loop-i.regions ++ (m ++ w.rim.result.now) ∷ []) [])
                c.loop-i.invariant.whole.made w.in_ok-push_walk.ensures) w.in_ok-push.ensures.seen w.in_ok-push.ensures.few
                (λ j. record { first = c.args.first; kept = true; label = get_or work.faces.numbers.now (this j) 0; view = c.args.view })
                is.faces.places;
          })
      | else-is_front-front w ↦
          subst (λ r. AreKeptTo work c.args.view c.args.first c.args.front c.args.regions.now r (take (k + 1) work.told.kept.items)) (sym w.regions-is) (record {
            whole = c.loop-i.invariant.whole;
            pushed = λ points all own s is sees.
                subst (HasPushedSome points all s c.args.front c.args.first true c.args.regions.now c.loop-i.regions)
                (ap (λ js. kept_so_far (λ f. is_left (side_seen points s c.args.front) f.corners) own (take k js)) same
                ∙ kept_skip points all own s work is c.args.front c.args.view sees k low
                c.is_front.result marked (not_beq c.is_front.result c.args.front w.if-is_front-front.false))
                (c.loop-i.invariant.pushed points all own s is sees);
          })
    ])

pub returns : goal.returns
returns c = λ points all own s is sees.
    let work = c.args.work.now in
    let items = c.deref-i-items.result.now in
    subst (HasPushedSome points all s c.args.front c.args.first true c.args.regions.now c.loop-i.regions)
    (ap (λ js. kept_so_far (λ f. is_left (side_seen points s c.args.front) f.corners) own js) (take_all c.loop-i.i-index items c.loop-i-test.false ∙ c.deref-i-items.ensures.value)
    ∙ kept_done points all own s work is c.args.front c.args.view sees)
    (c.loop-i.invariant.pushed points all own s is sees)
