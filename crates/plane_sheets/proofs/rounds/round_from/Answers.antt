use Rattle.std.proofs.Common.{arith, ◌≡◌, ◌<◌, ◌∷◌, ◌++◌, [], Bool, ℕ, length, true, false, not, set, refl, ap, sym, subst, ◌∙◌}
use Rattle.std.specs.List.{All}
use Rattle.std.proofs.lemmas.Bool.{not-true}
use Rattle.std.proofs.lemmas.List.{length-set}
use Rattle.std.proofs.lemmas.List.Elements.{All-append, All-cons, All-nil}
use Rattle.chain_terms.specs.Ranks.{start, finish}
use Rattle.face_loops.specs.Trails.{IsLoopFrom}
use Rattle.face_loops.proofs.Trailing.{IsOnTrail, trail_begins, trail_goes_on, trail_ends, fewer_left}
use Rattle.plane_sheets.specs.Rounds.{steps_of}
use Rattle.plane_sheets.proofs.Stepping.{finish_step, free_goes, free_inside, none_goes, start_step}
use Rattle.plane_sheets.proofs.rounds.round_from.Goals as goal

-- a number that is free has no mark
no_mark : (b m : Bool) → b ≡ not m → b ≡ true → m ≡ false
no_mark b m e y = not-true m (sym e ∙ y)

mark : (b m : Bool) → b ≡ not m → b ≡ false → m ≡ true
mark b true e n = refl
mark b false e n = cc

pub trail-smaller : goal.trail-smaller
trail-smaller c =
    let full : length c.trail.used ≡ length c.args.next.now = omega (arith, c.trail.auto.used, length-set c.args.used.now c.args.first true, c.requires.full) in
    fewer_left (steps_of c.args.next.now) c.trail.used c.trail.at c.trail.at
    (free_goes c.args.next.now c.trail.used c.trail.at full (no_mark _ _ c.is_free.ensures c.trail-test.true))

pub trail-init : goal.trail-init
trail-init c =
    let es = steps_of c.args.next.now in
    let marked = set c.args.used.now c.args.first true in
    let inside : ℕ → Type 0 = λ i. i < length c.args.next.now in
    let one : c.push.new.self.items ≡ start es c.args.first ∷ [] =
    c.in_ok-push.ensures.items ∙ ap (λ l. l ++ c.args.first ∷ []) c.new-round.ensures.items ∙ ap (λ v. v ∷ []) (sym (start_step c.args.next.now c.args.first c.requires.within)) in
    let alone : c.push.new.self.items ≡ c.args.first ∷ [] = c.in_ok-push.ensures.items ∙ ap (λ l. l ++ c.args.first ∷ []) c.new-round.ensures.items in
    record {
      on = subst (λ v. IsOnTrail es c.args.first c.args.used.now marked v c.push.new.self.items) (finish_step c.args.next.now c.args.first c.requires.within)
          (subst (λ l. IsOnTrail es c.args.first c.args.used.now marked (finish es c.args.first) l) (sym one)
          (trail_begins es c.args.first c.args.used.now (omega (arith, c.requires.within, c.requires.full))));
      below = subst (All inside) (sym alone) (All-cons inside c.args.first [] c.requires.within (All-nil inside));
    }

pub trail-preserved : goal.trail-preserved
trail-preserved c =
    let es = steps_of c.args.next.now in
    let at = c.trail.at in
    let full : length c.trail.used ≡ length c.args.next.now = omega (arith, c.trail.auto.used, length-set c.args.used.now c.args.first true, c.requires.full) in
    let free = no_mark _ _ c.is_free.ensures c.trail-test.true in
    let within = free_inside c.args.next.now c.trail.used at full free in
    let marked = set c.trail.used at true in
    let inside : ℕ → Type 0 = λ i. i < length c.args.next.now in
    record {
      on = subst (λ v. IsOnTrail es c.args.first c.args.used.now marked v c.push-in-trail.new.self.items) (finish_step c.args.next.now at within)
          (subst (λ l. IsOnTrail es c.args.first c.args.used.now marked (finish es at) l) (sym c.in_ok-push-2.ensures.items)
          (trail_goes_on es c.args.first c.args.used.now c.trail.used at c.trail.round.items at c.trail.invariant.on (free_goes c.args.next.now c.trail.used at full free)));
      below = subst (All inside) (sym c.in_ok-push-2.ensures.items)
          (All-append inside c.trail.round.items (at ∷ []) c.trail.invariant.below (All-cons inside at [] within (All-nil inside)));
    }

pub returns-clause-value : goal.returns-clause-value
returns-clause-value c =
    let es = steps_of c.args.next.now in
    let full : length c.trail.used ≡ length c.args.next.now = omega (arith, c.trail.auto.used, length-set c.args.used.now c.args.first true, c.requires.full) in
    subst (IsLoopFrom es c.args.first c.args.used.now c.trail.used) (sym c.of.ensures)
    (trail_ends es c.args.first c.args.used.now c.trail.used c.trail.at c.trail.round.items c.trail.invariant.on
    (none_goes c.args.next.now c.trail.used c.trail.at full (mark _ _ c.is_free.ensures c.trail-test.false)))

pub returns-clause-below : goal.returns-clause-below
returns-clause-below c = subst (All (λ i. i < length c.args.next.now)) (sym c.of.ensures) c.trail.invariant.below
