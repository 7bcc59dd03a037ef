use Rattle.std.proofs.Common.{◌≡◌, ℕ, Option, IfSome, IfNone, ◌<◌, true, false, not, subst, ◌∙◌}
use Rattle.std.specs.List.{list_any}
use Rattle.std.proofs.lemmas.Bool.{and_parts}
use Rattle.face_plane.specs.Planes.{Plane}
use Rattle.ring_cutting.specs.Cuts.{is_allowed}
use Rattle.ring_cutting.specs.Placed.{IsPlaced, place_blocks}
use Rattle.ring_cutting.specs.Left.{lives, left_of, rank, place_of, after_of, before_of, is_open, is_ear_at, goes_left, may_go_at}
use Rattle.ring_cutting.proofs.EarsLeft.{ring_left, allowed_left}
use Rattle.ring_cutting.proofs.Choosing.{IsChoice, ear_chosen, forced_chosen}
use Rattle.ring_cutting.proofs.long.choose.Goals.{In-Some, After-first_allowed}
use Rattle.ring_cutting.proofs.long.choose.Goals as goal

living : (c : In-Some) → lives c.args.links.now.living.items c.in-Some.place ≡ true
living c = subst (λ (o : Option ℕ). IfSome o (λ i. lives c.args.links.now.living.items i ≡ true)) c.in-Some.is c.in_ok-place.ensures.living

ear : (c : In-Some) →
    is_ear_at c.args.places.now c.args.links.now.after.items c.args.links.now.before.items c.args.links.now.living.items c.in-Some.place ≡ true
ear c =
    subst (λ (o : Option ℕ). IfSome o
    (λ i. is_ear_at c.args.places.now c.args.links.now.after.items c.args.links.now.before.items c.args.links.now.living.items i ≡ true))
    c.in-Some.is c.in_ok-place.ensures.ear

chosen : (c : In-Some) (at : Plane) → IsPlaced at (left_of c.args.links.now.living.items c.args.places.now) →
    IsChoice at (ring_left c.args.links.now.living.items c.args.places.now) (rank c.args.links.now.living.items c.in-Some.place) 0
chosen c at placed =
    ear_chosen at c.args.places.now c.args.links.now.after.items c.args.links.now.before.items c.args.links.now.living.items c.in-Some.place
    placed c.requires.first.linked (living c) (ear c)
    (subst (λ (o : Option ℕ). IfSome o
    (λ i. (j : ℕ) → lives c.args.links.now.living.items j ≡ true → j < i →
    is_ear_at c.args.places.now c.args.links.now.after.items c.args.links.now.before.items c.args.links.now.living.items j ≡ false))
    c.in-Some.is c.in_ok-place.ensures.least)

-- an ear may be cut
allowed : (c : In-Some) →
    is_allowed (ring_left c.args.links.now.living.items c.args.places.now) (rank c.args.links.now.living.items c.in-Some.place) ≡ true
allowed c =
    let ps = c.args.places.now in
    let links = c.args.links.now in
    let i = c.in-Some.place in
    let p = before_of links.before.items i in
    let n = after_of links.after.items i in
    let bs = links.living.items in
    let opens =
    and_parts (is_open ps bs p i n) (not (list_any (place_blocks (place_of ps p) (place_of ps i) (place_of ps n)) (left_of bs ps))) (ear c) in
    allowed_left c.args.places.now c.args.links.now.after.items c.args.links.now.before.items c.args.links.now.living.items i
    c.requires.first.linked (living c)
    ∙ (and_parts (may_go_at c.args.places.now c.args.links.now.after.items c.args.links.now.before.items c.args.links.now.living.items i)
    (goes_left ps p i n) opens.0).0

pub returns-in-Some-clause-next : goal.returns-in-Some-clause-next
returns-in-Some-clause-next c = record {
  living = living c;
  allowed = allowed c;
  place = λ at placed. (chosen c at placed).place;
  forced = λ at placed. (chosen c at placed).forced;
}

none : (c : After-first_allowed) (at : Plane) → IsPlaced at (left_of c.args.links.now.living.items c.args.places.now) →
    IsChoice at (ring_left c.args.links.now.living.items c.args.places.now) (rank c.args.links.now.living.items c.first_allowed.result) 1
none c at placed =
    forced_chosen at c.args.places.now c.args.links.now.after.items c.args.links.now.before.items c.args.links.now.living.items
    (rank c.args.links.now.living.items c.first_allowed.result) placed c.requires.first.linked
    (subst (λ (o : Option ℕ). IfNone o
    ((j : ℕ) → lives c.args.links.now.living.items j ≡ true →
    is_ear_at c.args.places.now c.args.links.now.after.items c.args.links.now.before.items c.args.links.now.living.items j ≡ false))
    c.in-None.is c.in_ok-place.ensures.none) c.first_allowed.ensures.value

pub returns-in-None-clause-next : goal.returns-in-None-clause-next
returns-in-None-clause-next c = record {
  living = c.first_allowed.ensures.living;
  allowed = c.first_allowed.ensures.allowed;
  place = λ at placed. (none c at placed).place;
  forced = λ at placed. (none c at placed).forced;
}
