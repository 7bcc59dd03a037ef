use Rattle.std.proofs.Common.{ℕ, List, subst}
use Rattle.std.specs.List.Sorted.{IsPermutation}
use Rattle.std.proofs.lemmas.List.Sorted.{IsPermutation-map}
use Rattle.plane_sheets.specs.declared.seats.Seat.{Seat}
use Rattle.plane_sheets.specs.Sided.{seat_numbers}
use Rattle.plane_sheets.proofs.seats.seats_of.Goals as goal

pub returns : goal.returns
returns c =
    subst (λ (l : List ℕ). IsPermutation l (seat_numbers c.sort_by_key.new.self.items)) c.in_ok-order.ensures
    (IsPermutation-map (λ (s : Seat). s.number) _ _ c.sort_by_key.ensures.permutation)
