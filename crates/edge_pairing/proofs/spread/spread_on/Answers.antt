use Rattle.std.proofs.Common.{◌≡◌, ◌<◌, ◌-ℤ◌, length, get_or, to_z, of_z, w64, ap, ◌∙◌, arith}
use Rattle.std.specs.Int.{int_min, int_max}
use Rattle.std.proofs.lemmas.Bool.Decides.{nat_tests}
use Rattle.std.proofs.lemmas.Int.{ints}
use Rattle.mesh_terms.specs.Points.{coordinate_of}
use Rattle.edge_pairing.proofs.Listed.{no_entry}
use Rattle.edge_pairing.proofs.Spreading.{lower_kept, higher_kept, spread_more, spread_whole, read_place}
use Rattle.edge_pairing.proofs.spread.spread_on.Goals as goal

pub loop-entry-preserved : goal.loop-entry-preserved
loop-entry-preserved c =
    let axis = c.args.axis in
    let points = c.args.points.now in
    let entries = c.args.entries.now in
    let i = c.loop-entry.entry-index in
    let below : i < length entries = c.loop-entry-test.true in
    let e = get_or entries i no_entry in
    let here = c.coordinate-here.result in
    let is = c.coordinate-here.ensures.value
    ∙ ap (λ p. coordinate_of p axis) (read_place points e.vertex c.index-points-entry.result (c.requires.below i no_entry below) c.index-points-entry.is) in
    let low = to_z w64 c.loop-entry.low-bits in
    let high = to_z w64 c.loop-entry.high-bits in
    let so = c.loop-entry.invariant in
    let small = c.coordinate-here.ensures.on_grid in
    let more = spread_more axis points entries (to_z w64 (of_z w64 c.coordinate-low.result)) i low high here so below is small in
    let lower : to_z w64 (of_z w64 c.min-low.result) ≡ int_min low here =
    lower_kept c.min-low.result low here (to_z w64 (of_z w64 here)) c.min-low.ensures.value (omega (arith, ints, small)) so.low_small small in
    let higher : to_z w64 (of_z w64 c.max-high.result) ≡ int_max high here =
    higher_kept c.max-high.result high here (to_z w64 (of_z w64 here)) c.max-high.ensures.value (omega (arith, ints, small)) so.high_small small in
    rw (lower, higher) more

pub returns : goal.returns
returns c =
    let axis = c.args.axis in
    let points = c.args.points.now in
    let entries = c.args.entries.now in
    let some : 0 < length entries = grind (arith, nat_tests, c.if-is_empty.ensures, c.if-is_empty.false) in
    let seed = c.coordinate-low.result in
    let first = c.coordinate-low.ensures.value
    ∙ ap (λ p. coordinate_of p axis)
    (read_place points (get_or entries 0 no_entry).vertex c.index-points-entries.result (c.requires.below 0 no_entry some) c.index-points-entries.is) in
    let kept : to_z w64 (of_z w64 seed) ≡ seed = omega (arith, ints, c.coordinate-low.ensures.on_grid) in
    let low = to_z w64 c.loop-entry.low-bits in
    let high = to_z w64 c.loop-entry.high-bits in
    let so = c.loop-entry.invariant in
    let whole = spread_whole axis points entries (to_z w64 (of_z w64 seed)) c.loop-entry.entry-index low high so (kept ∙ first)
    (omega (arith, c.loop-entry-test.false, c.loop-entry.auto.entry-index-end)) some in
    let difference : to_z w64 (of_z w64 (high -ℤ low)) ≡ high -ℤ low = omega (arith, ints, so.low_small, so.high_small) in
    record { value = difference ∙ whole }
