use Rattle.std.proofs.Common.{◌≡◌, ◌≤◌, ◌<◌, ◌*◌, ◌^◌, ℕ, ℤ, pos, ◌+ℤ◌, ◌-ℤ◌, nat_abs, length, arith, to_z, of_z}
use Rattle.std.proofs.lemmas.Int.{ints, to_z-of_z, fits_signed_from_abs}
use Rattle.std.specs.Int.{w128}
use Rattle.grid_number.proofs.number.Number.places.Goals as goal

-- a number that is not long keeps its value at 128 bits
kept : (z : ℤ) → nat_abs z < 2 ^ 65 → to_z w128 (of_z w128 z) ≡ z
kept z short = to_z-of_z w128 z (fits_signed_from_abs w128 z (omega (arith, short)))

-- the places, each number as it stands after it was kept
kept_places : (e f : ℤ) (n d : ℕ) → nat_abs e ≤ 10 * 2 ^ 60 → n < 2 ^ 63 → d < 256 → f ≡ pos d →
    to_z w128 (of_z w128 (to_z w128 (of_z w128 (to_z w128 (of_z w128 e) -ℤ to_z w128 n)) +ℤ to_z w128 (of_z w128 f))) ≡ (e -ℤ pos n) +ℤ pos d
kept_places e f n d small short few is =
    let from : to_z w128 (of_z w128 e) ≡ e = kept e (omega (arith, small)) in
    let long : to_z w128 n ≡ pos n = kept (pos n) (omega (arith, short)) in
    let less : to_z w128 (of_z w128 (e -ℤ pos n)) ≡ e -ℤ pos n = kept (e -ℤ pos n) (omega (arith, ints, small, short)) in
    let digits : to_z w128 (of_z w128 f) ≡ pos d = rw is (kept (pos d) (omega (arith, few))) in
    let all = kept ((e -ℤ pos n) +ℤ pos d) (omega (arith, ints, small, short, few)) in
    rw (from, long, less, digits) all

pub returns : goal.returns
returns c =
    let n = c.args.self.now in
    kept_places n.exponent c.from.result (length n.fraction.now) c.args.digits n.within (omega (arith, n.short)) c.ranges.digits.fits c.from.ensures
