use Rattle.std.proofs.Common.{◌≡◌, drop}
use Rattle.plane_sheets.specs.Leaving.{first_number}
use Rattle.plane_sheets.proofs.followers.number_to.Given as goal

abbrev pub invariant-loop-each : goal.invariant-loop-each
invariant-loop-each l = first_number l.n l.place l.leaving ≡ first_number l.n l.place (drop l.each-index l.leaving)
