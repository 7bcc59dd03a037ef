use Rattle.std.proofs.Common.{◌≡◌, ◌+◌, ◌≤◌, ◌<◌, ◌^◌, ℕ, length, decimal, arith}
use Rattle.std.proofs.lemmas.Fmt.{length-decimal-le}
use Rattle.mesh_writer.proofs.lines.vertex_before.Goals as goal

-- a vertex number has at most ten digits
most : (vertex n : ℕ) → vertex < 2 ^ 32 → n ≡ vertex → length (decimal (n + 1)) ≤ 10
most vertex n fits same = length-decimal-le 10 (n + 1) (omega arith) (omega (arith, fits, same)) (omega (arith, fits, same))

pub write_digits-requires : goal.write_digits-requires
write_digits-requires c =
    let fits = c.ranges.vertex.fits in
    let size = most c.args.vertex c.from.result fits c.from.ensures in
    let room = c.requires.room in
    let long = c.told-line in
    (omega (arith, size, room.0), omega (arith, room.1, long))

pub returns-clause-short : goal.returns-clause-short
returns-clause-short c =
    let fits = c.ranges.vertex.fits in
    let size = most c.args.vertex c.from.result fits c.from.ensures in
    let start = c.write_digits.ensures.start in
    omega (arith, size, start)
