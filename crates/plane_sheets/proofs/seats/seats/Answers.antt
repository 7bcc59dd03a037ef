use Rattle.std.proofs.Common.{[], ap, sym, ◌++◌, ◌∷◌, ◌∙◌}
use Rattle.std.proofs.lemmas.List.{map-append}
use Rattle.chain_laws.proofs.Places.{upto_more}
use Rattle.plane_sheets.specs.declared.seats.Seat.{Seat}
use Rattle.plane_sheets.specs.Sided.{seat_numbers}
use Rattle.plane_sheets.proofs.seats.seats.Goals as goal

pub loop-number-preserved : goal.loop-number-preserved
loop-number-preserved c =
    ap seat_numbers c.in_ok-push.ensures.items ∙ map-append (λ (s : Seat). s.number) c.loop-number.order.items _
    ∙ ap (λ xs. xs ++ c.loop-number.number ∷ []) c.loop-number.invariant ∙ sym (upto_more c.loop-number.number)
