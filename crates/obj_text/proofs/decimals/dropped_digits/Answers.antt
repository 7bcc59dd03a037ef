use Rattle.std.proofs.Common.{not}
use Rattle.text_terms.specs.Numbers.{is_digit}
use Rattle.grid_number.proofs.Positions.{position_or_len-le}
use Rattle.obj_text.proofs.ShortNumbers.{drops_front}
use Rattle.obj_text.proofs.decimals.dropped_digits.Goals as goal

pub split_at-requires : goal.split_at-requires
split_at-requires c = rw c.digits_len.ensures (position_or_len-le (λ x. not (is_digit x)) c.args.text.now)

pub returns-clause-drops : goal.returns-clause-drops
returns-clause-drops c =
    drops_front c.digits_len.result c.carry_by.result c.args.text.now c.split_at.result.0.now c.split_at.result.1.now c.digits_len.ensures
    c.split_at.ensures.front c.split_at.ensures.back c.carry_by.ensures.value
