use Rattle.std.proofs.Common.{◌≡◌, ℕ, List, true, false, Option, Some, None, length, sym, ap, ◌∙◌, refl}
use Rattle.std.specs.Prelude.{nat_lt}
use Rattle.std.specs.List.{position}
use Rattle.std.proofs.lemmas.Bool.{lt-ltb, le-ltb}
use Rattle.chain_terms.specs.Sums.{upto}
use Rattle.face_plane.specs.Planes.{Plane}
use Rattle.ring_cutting.specs.declared.place.Place.{Place}
use Rattle.ring_cutting.specs.Cuts.{is_ear, first_ear, first_allowed, cut_place, forced_here}
use Rattle.ring_cutting.specs.Placed.{vertices_of}
use Rattle.ring_cutting.proofs.FirstPlaces.{some_first, none_first}
use Rattle.ring_cutting.proofs.Reading.{length-vertices}
use Rattle.ring_cutting.proofs.ears.choose.Goals as goal

-- what the search for an ear says of the place that is cut
record IsChoice (at : Plane) (r : List ℕ) (i n : ℕ) : Type 0 where
  place : i ≡ cut_place at r
  forced : n ≡ forced_here at r

found : (at : Plane) (ps : List Place) (i : ℕ) → Some i ≡ position (is_ear at (vertices_of ps)) (upto (length ps)) → IsChoice at (vertices_of ps) i 0
found at ps i h =
    let r = vertices_of ps in
    let first = some_first (is_ear at r) (length r) i (h ∙ ap (λ m. position (is_ear at r) (upto m)) (sym (length-vertices ps))) in
    let test : nat_lt (first_ear at r) (length r) ≡ true = lt-ltb (first_ear at r) (length r) first.0 in
    record { place = rw test first.1; forced = rw test refl }

missed : (at : Plane) (ps : List Place) (i : ℕ) → ◌≡◌ {A = Option ℕ} None (position (is_ear at (vertices_of ps)) (upto (length ps))) →
    i ≡ first_allowed (vertices_of ps) → IsChoice at (vertices_of ps) i 1
missed at ps i h is =
    let r = vertices_of ps in
    let none = none_first (is_ear at r) (length r) (h ∙ ap (λ m. position (is_ear at r) (upto m)) (sym (length-vertices ps))) in
    let test : nat_lt (first_ear at r) (length r) ≡ false = le-ltb (first_ear at r) (length r) none in
    record { place = rw test is; forced = rw test refl }

pub returns-in-Some-clause-place : goal.returns-in-Some-clause-place
returns-in-Some-clause-place c = λ at placed. (found at c.args.places.now c.in-Some.place (c.in-Some.ensures.value at placed)).place

pub returns-in-Some-clause-forced : goal.returns-in-Some-clause-forced
returns-in-Some-clause-forced c = λ at placed. (found at c.args.places.now c.in-Some.place (c.in-Some.ensures.value at placed)).forced

pub returns-in-None-clause-place : goal.returns-in-None-clause-place
returns-in-None-clause-place c =
    λ at placed. (missed at c.args.places.now c.first_allowed.result (c.in-None.ensures.value at placed) c.first_allowed.ensures.value).place

pub returns-in-None-clause-forced : goal.returns-in-None-clause-forced
returns-in-None-clause-forced c =
    λ at placed. (missed at c.args.places.now c.first_allowed.result (c.in-None.ensures.value at placed) c.first_allowed.ensures.value).forced
