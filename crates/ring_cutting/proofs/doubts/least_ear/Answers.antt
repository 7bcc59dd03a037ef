use Rattle.ring_cutting.specs.Left.{before_of, after_of}
use Rattle.ring_cutting.proofs.Doubting.{more_wait, settled_more, least_is, none_is}
use Rattle.ring_cutting.proofs.doubts.least_ear.Goals as goal

pub loop-i-preserved : goal.loop-i-preserved
loop-i-preserved c =
    settled_more c.args.places.now c.args.links.now.after.items c.args.links.now.before.items c.args.links.now.living.items
    c.loop-i.doubts.doubtful c.drop_doubt.new.doubtful
    c.loop-i.doubts.waiting.items c.settle.new.waiting.items c.in-Some.i c.loop-i.invariant c.settle.ensures.many c.in_ok-settle.ensures.kept
    (c.in_ok-settle.ensures.reason c.if-branch.false) c.drop_doubt.ensures.gone c.drop_doubt.ensures.others

pub returns-then-branch-clause-settled : goal.returns-then-branch-clause-settled
returns-then-branch-clause-settled c =
    let h = c.loop-i.invariant in
    let links = c.args.links.now in
    record {
      many = c.settle.ensures.many;
      known = h.known;
      reasons = λ j l none. more_wait c.args.places.now links.living.items (before_of links.before.items j) j (after_of links.after.items j)
          c.loop-i.doubts.waiting.items c.settle.new.waiting.items
          c.in_ok-settle.ensures.kept (h.reasons j l none);
    }

pub returns-then-branch-clause-least : goal.returns-then-branch-clause-least
returns-then-branch-clause-least c =
    least_is c.args.places.now c.args.links.now.after.items c.args.links.now.before.items c.args.links.now.living.items
    c.loop-i.doubts.doubtful c.loop-i.doubts.waiting.items c.in-Some.i c.requires.linked.living_long c.loop-i.invariant c.in-Some.ensures.least

pub returns-clause-none : goal.returns-clause-none
returns-clause-none c =
    none_is c.args.places.now c.args.links.now.after.items c.args.links.now.before.items c.args.links.now.living.items
    c.loop-i.doubts.doubtful c.loop-i.doubts.waiting.items c.requires.linked.living_long c.loop-i.invariant c.in_default.ensures.none
