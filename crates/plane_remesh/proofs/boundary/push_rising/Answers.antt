use Rattle.std.proofs.Common.{◌∙◌, arith}
use Rattle.std.proofs.lemmas.Bool.{le-ltb, lt-ltb}
use Rattle.plane_remesh.proofs.Rising.{rising_no, rising_yes}
use Rattle.plane_remesh.proofs.boundary.push_rising.Goals as goal

pub returns-then-from-to : goal.returns-then-from-to
returns-then-from-to c = rising_no c.args.out.now.items c.args.from c.args.to (le-ltb c.args.from c.args.to (omega (arith, c.if-from-to.true)))

pub returns : goal.returns
returns c = c.in_ok-push.ensures.items ∙ rising_yes c.args.out.now.items c.args.from c.args.to (lt-ltb c.args.from c.args.to (omega (arith, c.if-from-to.false)))
