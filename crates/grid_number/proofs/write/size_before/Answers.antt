use Rattle.std.proofs.Common.{◌≡◌, ◌+◌, ◌/◌, ◌%◌, ◌^◌, ◌≤◌, ℕ, length, decimal, arith, ap, length-append}
use Rattle.std.proofs.lemmas.Fmt.{length-decimal-le}
use Rattle.text_terms.specs.Written.{written_rest}
use Rattle.grid_number.proofs.Bytes.{length-size}
use Rattle.grid_number.proofs.write.size_before.Goals as goal

-- the whole part fits before the rest
fits : (k n unit point end : ℕ) → k ≤ 6 → n ≤ 2 ^ 30 → 11 ≤ end → unit ≡ 10 ^ k → point + length (written_rest k (n % unit)) ≡ end
    → length (decimal (n / unit)) ≤ point
fits k n unit point end few small room is start =
    let all = length-append (decimal (n / 10 ^ k)) (written_rest k (n % 10 ^ k)) in
    let most = (length-size k n few small).0 in
    let whole = ap (λ (s : ℕ). length (decimal (n / s))) is in
    let rest = ap (λ (s : ℕ). length (written_rest k (n % s))) is in
    omega (arith, all, most, whole, rest, start, room)

pub write_digits-requires : goal.write_digits-requires
write_digits-requires c =
    let small = c.requires.size in
    let is = c.from.ensures in
    let most = length-decimal-le 10 c.from.result (omega arith) (omega (arith, small, is)) (omega (arith, small, is)) in
    let room = c.requires.room in
    (omega (arith, most, room.0), room.1)

pub write_digits-requires-2 : goal.write_digits-requires-2
write_digits-requires-2 c =
    let point = c.rest_before-point in
    let unit = c.power_of_ten-unit in
    let room = c.requires.room in
    let whole = fits c.args.digits c.args.size unit.result point.result c.args.end c.requires.digits c.requires.size room.0 unit.ensures.value point.ensures.start in
    let same = ap (λ (n : ℕ). length (decimal n)) c.from-2.ensures in
    let start = point.ensures.start in
    let text = point.auto.text in
    (omega (arith, whole, same), omega (arith, room.1, start, text))
