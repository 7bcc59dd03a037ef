-- Bounds round entries.
use Rattle.std.proofs.Common.{◌≡◌, ◌&&◌, true, arith, List}
use Rattle.std.specs.Int.Signed.{le_z}
use Rattle.std.proofs.lemmas.Int.{ints}
use Rattle.std.proofs.lemmas.Bool.{and_parts, and_from}
use Rattle.std.proofs.lemmas.List.Elements.{All-weaker}
use Rattle.box_tree.specs.declared.bounds.Range.{Range}
use Rattle.box_tree.specs.declared.bounds.Bounds.{Bounds}
use Rattle.box_tree.specs.declared.nodes.Entry.{Entry}
use Rattle.box_tree.specs.Coarse.{IsRangeIn, IsBoundsIn, ranges_meet, bounds_meet}
use Rattle.box_tree.specs.Nodes.{IsRound}
use Rattle.box_tree.proofs.Points.{le_from_test, test_from_le}

-- a range in a range in a range
range_within : (a b c : Range) → IsRangeIn a b → IsRangeIn b c → IsRangeIn a c
range_within a b c h k = record { low = omega (arith, ints, h.low, k.low); high = omega (arith, ints, h.high, k.high) }

-- bounds in bounds in bounds
bounds_within : (a b c : Bounds) → IsBoundsIn a b → IsBoundsIn b c → IsBoundsIn a c
bounds_within a b c h k = record { x = range_within a.x b.x c.x h.x k.x; y = range_within a.y b.y c.y h.y k.y; z = range_within a.z b.z c.z h.z k.z }

-- bounds that take in bounds round some entries are round them
pub round_wider : (inner outer : Bounds) (entries : List Entry) → IsBoundsIn inner outer → IsRound inner entries → IsRound outer entries
round_wider inner outer entries within round =
    All-weaker (λ e. IsBoundsIn e.bounds inner) (λ e. IsBoundsIn e.bounds outer) (λ e h. bounds_within e.bounds inner outer h within) entries round

-- a range that takes in one that meets another meets it too
range_meets : (inner outer other : Range) → IsRangeIn inner outer → ranges_meet inner other ≡ true → ranges_meet outer other ≡ true
range_meets inner outer other h meets =
    let both = and_parts (le_z inner.low other.high) (le_z other.low inner.high) meets in
    let low = le_from_test inner.low other.high both.0 in
    let high = le_from_test other.low inner.high both.1 in
    and_from (le_z outer.low other.high) (le_z other.low outer.high) (test_from_le outer.low other.high (omega (arith, ints, low, h.low)))
    (test_from_le other.low outer.high (omega (arith, ints, high, h.high)))

-- and so for bounds
pub bounds_meets : (inner outer other : Bounds) → IsBoundsIn inner outer → bounds_meet inner other ≡ true → bounds_meet outer other ≡ true
bounds_meets inner outer other h meets =
    let front = and_parts (ranges_meet inner.x other.x && ranges_meet inner.y other.y) (ranges_meet inner.z other.z) meets in
    let parts = and_parts (ranges_meet inner.x other.x) (ranges_meet inner.y other.y) front.0 in
    and_from (ranges_meet outer.x other.x && ranges_meet outer.y other.y) (ranges_meet outer.z other.z)
    (and_from (ranges_meet outer.x other.x) (ranges_meet outer.y other.y) (range_meets inner.x outer.x other.x h.x parts.0) (range_meets inner.y outer.y other.y h.y parts.1))
    (range_meets inner.z outer.z other.z h.z front.1)
