use Rattle.std.proofs.Common.{◌≡◌, ◌≢◌, ◌<◌, ◌+◌, ℕ, List, true, false, Bool, length, take, drop, sym, ap, ◌∙◌, arith}
use Rattle.std.specs.Prelude.{◌||◌}
use Rattle.std.specs.List.{list_any}
use Rattle.std.proofs.lemmas.Bool.{or_left}
use Rattle.std.proofs.lemmas.List.{take_rest}
use Rattle.face_plane.specs.Rings.{vertex_before, vertex_after, without_place}
use Rattle.ring_cutting.specs.declared.place.Place.{Place}
use Rattle.ring_cutting.specs.Cuts.{is_allowed}
use Rattle.ring_cutting.specs.Placed.{vertices_of, is_third}
use Rattle.ring_cutting.proofs.Reading.{length-vertices}
use Rattle.ring_cutting.proofs.Thirds.{allowed_by_third, third_beside}
use Rattle.ring_cutting.proofs.ears.is_allowed.Goals.{After-has_third}
use Rattle.ring_cutting.proofs.ears.is_allowed.Goals as goal

-- the test of the places before and behind one
abbrev tested : ℕ → ℕ → List Place → ℕ → Bool
tested p n ps i = list_any (is_third p n) (vertices_of (take i ps)) || list_any (is_third p n) (vertices_of (drop (i + 1) ps))

-- where the neighbours differ, a third vertex decides
by_third : (ps : List Place) (i p n : ℕ) → i < length ps → p ≡ vertex_before (vertices_of ps) i → n ≡ vertex_after (vertices_of ps) i →
    p ≢ n → tested p n ps i ≡ is_allowed (vertices_of ps) i
by_third ps i p n h before after apart =
    let r = vertices_of ps in
    let known : list_any (is_third p n) (without_place i r) ≡ is_allowed r i =
    (λ j. list_any (is_third (before j) (after j)) (without_place i r))
    ∙ allowed_by_third r i (omega (arith, h, length-vertices ps)) (λ e. apart (before ∙ e ∙ sym after)) in
    sym (third_beside p n ps i) ∙ known

-- the places before and behind this one decide
decides : (c : After-has_third) →
    tested c.before-2.result.vertex c.after.result.vertex c.args.places.now c.args.i ≡ is_allowed (vertices_of c.args.places.now) c.args.i
decides c =
    by_third c.args.places.now c.args.i c.before-2.result.vertex c.after.result.vertex c.requires c.before-2.ensures.vertex
    c.after.ensures.vertex c.if-p-n.true

-- whether some place of a list has a vertex that neither neighbour has
abbrev third : After-has_third → List Place → Bool
third c ps = list_any (is_third c.before-2.result.vertex c.after.result.vertex) (vertices_of ps)

pub returns-then-has_third : goal.returns-then-has_third
returns-then-has_third c =
    let s = (goal.at.returns-then-has_third c).After-has_third in
    let first : third s (take c.args.i c.args.places.now) ≡ true = sym c.has_third.ensures ∙ c.if-has_third.true in
    c.if-has_third.true ∙ sym (or_left (third s (take c.args.i c.args.places.now)) (third s (drop (c.args.i + 1) c.args.places.now)) first)
    ∙ decides s

pub returns-else-has_third : goal.returns-else-has_third
returns-else-has_third c =
    let s = (goal.at.returns-else-has_third c).After-has_third in
    let first : third s (take c.args.i c.args.places.now) ≡ false = sym c.has_third.ensures ∙ c.if-has_third.false in
    c.has_third-else-has_third.ensures ∙ ap (third s) (take_rest c.args.places.now (c.args.i + 1))
    ∙ sym (ap (λ (b : Bool). b || third s (drop (c.args.i + 1) c.args.places.now)) first) ∙ decides s
