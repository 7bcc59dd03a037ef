use Rattle.std.proofs.Common.{◌≡◌, filter}
use Rattle.hole_joining.specs.Seen.{clear_of, bridges_of}
use Rattle.hole_joining.specs.Bridges.{shortest}
use Rattle.hole_joining.specs.Passes.{is_after}
use Rattle.hole_joining.proofs.Choice.{Refused}
use Rattle.hole_joining.proofs.joining.Joining.choose.Given as goal

abbrev pub invariant-loop : goal.invariant-loop
invariant-loop l = record {
  rest : Refused (clear_of l.self) (bridges_of l.self) l.refused;
  next : l.next ≡ shortest (filter (is_after l.refused) (bridges_of l.self));
}
