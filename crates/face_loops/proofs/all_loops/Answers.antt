use Rattle.std.proofs.Common.{◌≡◌, ◌<◌, ◌∷◌, ◌++◌, [], length, ap, sym, subst, ◌∙◌, arith}
use Rattle.face_loops.specs.Segments.{edges_of}
use Rattle.face_loops.proofs.Reading.{length-edges_of}
use Rattle.face_loops.proofs.Rounds.{AreLoopsSoFar, loops_begin, loops_pass, loops_more, loops_end}
use Rattle.face_loops.proofs.all_loops.Goals as goal
use Rattle.face_loops.proofs.all_loops.Goals.{then-not-used-first+in_ok-loop_from+in_ok-push, else-not-used-first}

pub loop-first-init : goal.loop-first-init
loop-first-init c =
    subst (λ l. AreLoopsSoFar (edges_of c.args.segments.now) 0 c.args.used.now l) (sym c.new-loops.ensures.items)
    (loops_begin (edges_of c.args.segments.now) c.args.used.now (length c.args.segments.now) c.requires.unused (length-edges_of c.args.segments.now))

pub loop-first-preserved : goal.loop-first-preserved
loop-first-preserved c =
    let es = edges_of c.args.segments.now in
    let first = c.loop-first.first in
    let below : first < length es = omega (arith, c.loop-first-test.true, length-edges_of c.args.segments.now) in
    elim c.if-not-used-first.branch [
      | then-not-used-first+in_ok-loop_from+in_ok-push w ↦
          let free = w.if-not-used-first.true in
          let loop = w.in_ok-loop_from.ensures in
          let full : length w.loop_from.new.used ≡ length es = omega (arith, w.loop_from.auto.used, c.loop-first.invariant.full) in
          let more = loops_more es first c.loop-first.used w.loop_from.new.used c.loop-first.loops.items w.in_ok-loop_from.field-0 c.loop-first.invariant below free loop full in
          let used_is : c.if-not-used-first.used ≡ w.loop_from.new.used = w.used-is in
          let loops_is : c.if-not-used-first.loops.items ≡ c.loop-first.loops.items ++ w.in_ok-loop_from.field-0 ∷ [] = ap (λ v. v.items) w.loops-is ∙ w.in_ok-push.ensures.items in
          rw (used_is, loops_is) more
      | else-not-used-first w ↦
          let taken = w.if-not-used-first.false in
          let pass = loops_pass es first c.loop-first.used c.loop-first.loops.items c.loop-first.invariant taken in
          rw (w.used-is, w.loops-is) pass
    ]

pub returns-clause-value : goal.returns-clause-value
returns-clause-value c =
    loops_end (edges_of c.args.segments.now) c.loop-first.first c.loop-first.used c.loop-first.loops.items c.loop-first.invariant
    (omega (arith, c.loop-first-test.false, length-edges_of c.args.segments.now))

pub returns-clause-order : goal.returns-clause-order
returns-clause-order c = c.loop-first.invariant.order
