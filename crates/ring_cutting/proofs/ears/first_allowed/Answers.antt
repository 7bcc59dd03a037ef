use Rattle.std.proofs.Common.{◌≡◌, ◌<◌, ◌≤◌, ℕ, List, false, length, sym, ◌∙◌, arith, inl, inr}
use Rattle.std.proofs.lemmas.Bool.{cases_lt, both_ways}
use borrow.Author.Count.{below_more}
use Rattle.face_plane.specs.Rings.{IsRing}
use Rattle.ring_cutting.specs.declared.place.Place.{Place}
use Rattle.ring_cutting.specs.Cuts.{is_allowed}
use Rattle.ring_cutting.specs.Placed.{vertices_of}
use Rattle.ring_cutting.proofs.Bent.{some_allowed}
use Rattle.ring_cutting.proofs.FirstPlaces.{first_place}
use Rattle.ring_cutting.proofs.Reading.{length-vertices}
use Rattle.ring_cutting.proofs.ears.first_allowed.Goals as goal

-- where no place before i is allowed, i is a place
still_within : (ps : List Place) (i : ℕ) → IsRing (vertices_of ps) → 4 ≤ length ps →
    ((k : ℕ) → k < i → is_allowed (vertices_of ps) k ≡ false) → i < length ps
still_within ps i ringy four none =
    let some = some_allowed (vertices_of ps) ringy (omega (arith, four, length-vertices ps)) in
    elim (cases_lt some.place i) as (λ _. i < length ps) [
      | inl l ↦ absurd (both_ways (is_allowed (vertices_of ps) some.place) (none some.place l) some.allowed)
      | inr l ↦ omega (arith, l, some.within, length-vertices ps)
    ]

-- so at the end of the loop something is wrong
never : (c : goal.After-loop-i) → ⊥
never c = omega (arith, still_within c.args.places.now c.loop-i.i c.requires.ringy c.requires.more c.loop-i.invariant, c.loop-i-test.false)

pub loop-i-init : goal.loop-i-init
loop-i-init c = λ k low. absurd (omega (arith, low))

pub loop-i-preserved : goal.loop-i-preserved
loop-i-preserved c =
    below_more (λ k. is_allowed (vertices_of c.args.places.now) k ≡ false) c.loop-i.i c.loop-i.invariant
    (sym c.is_allowed.ensures ∙ c.if-is_allowed.false)

pub returns-then-is_allowed-clause-value : goal.returns-then-is_allowed-clause-value
returns-then-is_allowed-clause-value c =
    let ps = c.args.places.now in
    let n = length-vertices ps in
    sym (first_place (is_allowed (vertices_of ps)) (length (vertices_of ps)) c.loop-i.i (omega (arith, n, c.loop-i-test.true))
    c.loop-i.invariant (sym c.is_allowed.ensures ∙ c.if-is_allowed.true))

pub returns-clause-within : goal.returns-clause-within
returns-clause-within c = absurd (never c)

pub returns-clause-allowed : goal.returns-clause-allowed
returns-clause-allowed c = absurd (never c)

pub returns-clause-value : goal.returns-clause-value
returns-clause-value c = absurd (never c)
