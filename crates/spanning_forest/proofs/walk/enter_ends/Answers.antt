use Rattle.std.proofs.Common.{arith, ◌≡◌, ◌<◌, ◌+◌, ◌∷◌, ◌++◌, [], length, get_or, take, true, set, ◌∙◌, ap}
use Rattle.std.proofs.lemmas.List.{take_more}
use Rattle.chain_terms.specs.Chains.{all_edges}
use Rattle.mesh_terms.specs.Meshes.{triples_of}
use Rattle.spanning_forest.specs.declared.entrance.Entrance.TheVariants.{Along}
use Rattle.spanning_forest.proofs.Reaching.{reached_marked, reached_new, reached_none, reached_same}
use Rattle.spanning_forest.proofs.Spokes.{finish_below, length-halves}
use Rattle.spanning_forest.proofs.walk.enter_ends.Goals as goal
use Rattle.spanning_forest.proofs.walk.enter_ends.Goals.{then-not-seen-end+in_ok-push, else-not-seen-end}

pub loop-half-init : goal.loop-half-init
loop-half-init c = reached_none (all_edges (triples_of c.args.triples.now)) c.args.seen.now c.args.entrances.now.items c.requires.entered

pub bounds-seen-end : goal.bounds-seen-end
bounds-seen-end c =
    let low = finish_below (length c.args.seen.now) c.args.triples.now (get_or c.args.halves.now c.loop-half.half-index 0) c.requires.below (c.requires.within c.loop-half.half-index 0 c.loop-half-test.true) in
    omega (arith, low, c.end_of-end.ensures, c.loop-half.invariant.full)

pub bounds-seen-end-then-not-seen-end : goal.bounds-seen-end-then-not-seen-end
bounds-seen-end-then-not-seen-end c =
    let low = finish_below (length c.args.seen.now) c.args.triples.now (get_or c.args.halves.now c.loop-half.half-index 0) c.requires.below (c.requires.within c.loop-half.half-index 0 c.loop-half-test.true) in
    omega (arith, low, c.end_of-end.ensures, c.loop-half.invariant.full)

pub loop-half-preserved : goal.loop-half-preserved
loop-half-preserved c =
    let triples = c.args.triples.now in
    let es = all_edges (triples_of triples) in
    let halves = c.args.halves.now in
    let i = c.loop-half.half-index in
    let h = get_or halves i 0 in
    let end = c.end_of-end.result in
    let old = c.args.seen.now in
    let before = c.args.entrances.now.items in
    let seen = c.loop-half.seen in
    let entrances = c.loop-half.entrances.items in
    let more = take_more halves i 0 c.loop-half-test.true in
    elim c.if-not-seen-end.branch [
      | then-not-seen-end+in_ok-push w ↦
          let pushed : c.if-not-seen-end.entrances.items ≡ entrances ++ Along h ∷ [] = ap (λ v. v.items) w.entrances-is ∙ w.in_ok-push.ensures.items in
          let low = finish_below (length old) triples h c.requires.below (c.requires.within i 0 c.loop-half-test.true) in
          let inside : h < length es = omega (arith, c.requires.within i 0 c.loop-half-test.true, length-halves triples) in
          reached_same es (take (i + 1) halves) (take i halves ++ h ∷ []) old before c.if-not-seen-end.seen (set seen end true) c.if-not-seen-end.entrances.items (entrances ++ Along h ∷ []) more w.seen-is pushed
          (reached_new es (take i halves) h end old before seen entrances c.loop-half.invariant c.end_of-end.ensures w.if-not-seen-end.true (omega (arith, low, c.end_of-end.ensures, c.loop-half.invariant.full)) inside (c.requires.starts i 0 c.loop-half-test.true))
      | else-not-seen-end w ↦
          reached_same es (take (i + 1) halves) (take i halves ++ h ∷ []) old before c.if-not-seen-end.seen seen c.if-not-seen-end.entrances.items entrances more w.seen-is (ap (λ v. v.items) w.entrances-is)
          (reached_marked es (take i halves) h end old before seen entrances c.loop-half.invariant c.end_of-end.ensures w.if-not-seen-end.false)
    ]
