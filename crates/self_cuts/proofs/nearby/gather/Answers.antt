use Rattle.std.proofs.Common.{List, arith, subst, sym}
use Rattle.box_tree.specs.Touching.{touching_numbers}
use Rattle.inspection_laws.specs.Boxes.{boxes_of}
use Rattle.self_cuts.specs.declared.seen.Seen.{Seen}
use Rattle.self_cuts.proofs.Hands.{AreKept, kept_all, kept_less, kept_more}
use Rattle.self_cuts.proofs.nearby.gather.Goals as goal

pub loop-number-preserved-in-Continue-1 : goal.loop-number-preserved-in-Continue-1
loop-number-preserved-in-Continue-1 c =
    let m = c.args.mesh.now in
    let end = c.args.end in
    let numbers = touching_numbers (boxes_of m) c.args.area in
    record {
      kept = subst (λ (seen : List Seen). AreKept m end numbers seen c.next.new.self) (sym c.in_ok-push.ensures.items)
          (kept_more m end numbers c.loop-number.number-iterator c.next.new.self c.loop-number.seen.items c.in-Some.number c.seen_at.result c.in-Some.ensures.steps
          (omega (arith, c.if-number-end.true)) c.seen_at.ensures.number c.seen_at.ensures.triangle c.loop-number.invariant.kept);
      few = omega (arith, c.loop-number.invariant.few, c.if-met-eq-FEW.false);
    }

pub loop-number-preserved : goal.loop-number-preserved
loop-number-preserved c =
    let m = c.args.mesh.now in
    let numbers = touching_numbers (boxes_of m) c.args.area in
    record {
      kept = kept_less m c.args.end numbers c.loop-number.number-iterator c.next.new.self c.loop-number.seen.items c.in-Some.number c.in-Some.ensures.steps
          (omega (arith, c.if-number-end.false)) c.loop-number.invariant.kept;
      few = omega (arith, c.loop-number.invariant.few, c.if-met-eq-FEW.false);
    }

pub returns : goal.returns
returns c few = kept_all c.args.mesh.now c.args.area c.args.end c.loop-number.number-iterator c.loop-number.seen.items c.in-None.ensures.steps.0 c.loop-number.invariant.kept
