use Rattle.std.proofs.Common.{◌≡◌}
use Rattle.chain_terms.specs.Sums.{upto}
use Rattle.plane_sheets.specs.Sided.{seat_numbers}
use Rattle.plane_sheets.proofs.seats.seats.Given as goal

abbrev pub invariant-loop-number : goal.invariant-loop-number
invariant-loop-number l = seat_numbers l.order.items ≡ upto l.number
