use Rattle.std.proofs.Common.{length, sym, ◌∙◌, arith}
use Rattle.ring_cutting.proofs.Linking.{low}
use Rattle.ring_cutting.proofs.EarsLeft.{allowed_left}
use Rattle.ring_cutting.proofs.Choosing.{IsWalked, walk_on, allowed_first}
use Rattle.ring_cutting.proofs.long.first_allowed.Goals as goal

walked : (c : goal.After-after-i) →
    IsWalked c.args.places.now c.args.links.now.after.items c.args.links.now.before.items c.args.links.now.living.items c.loop-i.i c.after-i.result
walked c =
    walk_on c.args.places.now c.args.links.now.after.items c.args.links.now.before.items c.args.links.now.living.items c.loop-i.i
    c.after-i.result c.requires.linked c.requires.ringy c.requires.more
    c.loop-i.invariant.living c.loop-i.invariant.none (sym c.may_go.ensures ∙ c.loop-i-test.true) c.after-i.ensures

pub loop-i-init : goal.loop-i-init
loop-i-init c = record { living = c.requires.stays; none = λ m l less. absurd (omega (arith, c.requires.least m l, less)) }

pub loop-i-preserved : goal.loop-i-preserved
loop-i-preserved c = let w = walked c in record { living = w.living; none = w.none }

pub loop-i-smaller : goal.loop-i-smaller
loop-i-smaller c =
    let n = length c.args.places.now in
    let within =
    low n c.args.links.now.after.items c.args.links.now.before.items c.args.links.now.living.items c.loop-i.i c.requires.linked
    c.loop-i.invariant.living in
    omega (arith, (walked c).greater, within)

pub returns-clause-allowed : goal.returns-clause-allowed
returns-clause-allowed c =
    allowed_left c.args.places.now c.args.links.now.after.items c.args.links.now.before.items c.args.links.now.living.items c.loop-i.i
    c.requires.linked c.loop-i.invariant.living
    ∙ sym c.may_go.ensures ∙ c.loop-i-test.false

pub returns-clause-value : goal.returns-clause-value
returns-clause-value c =
    allowed_first c.args.places.now c.args.links.now.after.items c.args.links.now.before.items c.args.links.now.living.items c.loop-i.i
    c.requires.linked c.loop-i.invariant.living
    (sym c.may_go.ensures ∙ c.loop-i-test.false) c.loop-i.invariant.none
