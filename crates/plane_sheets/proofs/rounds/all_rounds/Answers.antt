use Rattle.std.proofs.Common.{◌≡◌, ◌<◌, ◌∷◌, ◌++◌, [], ℕ, List, length, ap, sym, subst, ◌∙◌, arith}
use Rattle.std.specs.List.{All}
use Rattle.std.proofs.lemmas.List.Elements.{All-append, All-cons, All-nil}
use Rattle.face_loops.proofs.Rounds.{AreLoopsSoFar, loops_begin, loops_end, loops_more, loops_pass}
use Rattle.plane_sheets.specs.Rounds.{steps_of}
use Rattle.plane_sheets.proofs.Stepping.{length-steps}
use Rattle.plane_sheets.proofs.rounds.all_rounds.Goals as goal
use Rattle.plane_sheets.proofs.rounds.all_rounds.Goals.{then-not-used-first+in_ok-round_from+in_ok-push, else-not-used-first}

pub loop-first-init : goal.loop-first-init
loop-first-init c =
    let es = steps_of c.args.next.now in
    let begun = loops_begin es c.args.used.now (length c.args.next.now) c.requires.unused (length-steps c.args.next.now) in record {
      so = subst (λ l. AreLoopsSoFar es 0 c.args.used.now l) (sym c.new-all.ensures.items) begun;
      below = subst (All (λ r. All (λ i. i < length c.args.next.now) r)) (sym c.new-all.ensures.items) (All-nil (λ r. All (λ i. i < length c.args.next.now) r));
    }

pub loop-first-preserved : goal.loop-first-preserved
loop-first-preserved c =
    let es = steps_of c.args.next.now in
    let first = c.loop-first.first in
    let within : first < length es = omega (arith, c.loop-first-test.true, length-steps c.args.next.now) in
    let inside : List ℕ → Type 0 = λ r. All (λ i. i < length c.args.next.now) r in
    elim c.if-not-used-first.branch [
      | then-not-used-first+in_ok-round_from+in_ok-push w ↦
          let free = w.if-not-used-first.true in
          let round = w.in_ok-round_from.ensures.value in
          let full : length w.round_from.new.used ≡ length es = omega (arith, w.round_from.auto.used, c.loop-first.invariant.so.full) in
          let more =
          loops_more es first c.loop-first.used w.round_from.new.used c.loop-first.all.items w.in_ok-round_from.field-0 c.loop-first.invariant.so within free round full in
          let below = All-append inside c.loop-first.all.items (w.in_ok-round_from.field-0 ∷ []) c.loop-first.invariant.below
          (All-cons inside w.in_ok-round_from.field-0 [] w.in_ok-round_from.ensures.below (All-nil inside)) in
          let used_is : c.if-not-used-first.used ≡ w.round_from.new.used = w.used-is in
          let all_is : c.if-not-used-first.all.items ≡ c.loop-first.all.items ++ w.in_ok-round_from.field-0 ∷ [] = ap (λ v. v.items) w.all-is ∙ w.in_ok-push.ensures.items in
          record { so = rw (used_is, all_is) more; below = rw all_is below }
      | else-not-used-first w ↦
          let taken = w.if-not-used-first.false in
          let pass = loops_pass es first c.loop-first.used c.loop-first.all.items c.loop-first.invariant.so taken in
          record { so = rw (w.used-is, w.all-is) pass; below = rw w.all-is c.loop-first.invariant.below }
    ]

pub returns-clause-value : goal.returns-clause-value
returns-clause-value c =
    loops_end (steps_of c.args.next.now) c.loop-first.first c.loop-first.used c.loop-first.all.items c.loop-first.invariant.so
    (omega (arith, c.loop-first-test.false, length-steps c.args.next.now))

pub returns-clause-below : goal.returns-clause-below
returns-clause-below c = c.loop-first.invariant.below
