use Rattle.std.proofs.Common.{◌≡◌, ℕ, pos, List, true, false, Bool, sym, ◌∙◌, refl}
use Rattle.std.specs.Prelude.{◌&&◌, not, int_lt}
use Rattle.std.specs.List.{list_any}
use Rattle.face_plane.specs.Planes.{Plane, orient, turn}
use Rattle.face_plane.specs.Rings.{vertex_at, vertex_before, vertex_after}
use Rattle.ring_cutting.specs.declared.place.Place.{Place}
use Rattle.ring_cutting.specs.Cuts.{is_allowed, is_ear, blocks}
use Rattle.ring_cutting.specs.Placed.{vertices_of, IsPlaced}
use Rattle.ring_cutting.proofs.Reading.{AreRead, blocks_of}
use Rattle.ring_cutting.proofs.ears.is_ear.Goals.{After-after-n, then-turns_left, else-turns_left}
use Rattle.ring_cutting.proofs.ears.is_ear.Goals as goal

-- whether a place and its neighbours turn left
abbrev left_at : Plane → List ℕ → ℕ → Bool
left_at at r i = int_lt (pos 0) (orient at (vertex_before r i) (vertex_at r i) (vertex_after r i))

-- three tests, of which one fails or the last decides
last_decides : (a b c d : Bool) → a ≡ true → b ≡ true → c ≡ d → not c ≡ ((a && b) && not d)
last_decides a b c d e f g = rw (e, f, g) refl

one_fails : (a b c : Bool) → a ≡ false → false ≡ ((a && b) && c)
one_fails a b c e = rw e refl

other_fails : (a b c : Bool) → b ≡ false → false ≡ ((a && b) && c)
other_fails true b c e = rw e refl
other_fails false b c e = refl

-- the turn of the points is that of the vertices
left_read : (at : Plane) (ps : List Place) (i : ℕ) (p x n : Place) → IsPlaced at ps → AreRead ps i p x n →
    int_lt (pos 0) (turn p.at x.at n.at) ≡ left_at at (vertices_of ps) i
left_read at ps i p x n placed all = rw (all.before.at at placed, all.here.at at placed, all.after.at at placed) refl

-- the place and its neighbours were read
round : (c : After-after-n) → AreRead c.args.places.now c.args.i c.before-p.result c.here-x.result c.after-n.result
round c = record {
  before = record { vertex = c.before-p.ensures.vertex; at = c.before-p.ensures.at };
  here = record { vertex = c.here-x.ensures.vertex; at = c.here-x.ensures.at };
  after = record { vertex = c.after-n.ensures.vertex; at = c.after-n.ensures.at };
}

pub returns-then-is_allowed-clause-value : goal.returns-then-is_allowed-clause-value
returns-then-is_allowed-clause-value c = λ at placed.
    let ps = c.args.places.now in
    let r = vertices_of ps in
    let i = c.args.i in
    let all = round (goal.at.returns-then-is_allowed-clause-value c).After-after-n in
    let blocked : c.is_blocked.result ≡ list_any (blocks at (vertex_before r i) (vertex_at r i) (vertex_after r i)) r =
    c.is_blocked.ensures ∙ blocks_of at ps i c.before-p.result c.here-x.result c.after-n.result placed all in
    elim c.if-turns_left.branch as (λ _. not c.is_blocked.result ≡ is_ear at r i) [
      | then-turns_left w ↦
          last_decides (is_allowed r i) (left_at at r i) c.is_blocked.result
          (list_any (blocks at (vertex_before r i) (vertex_at r i) (vertex_after r i)) r)
          (sym w.is_allowed.ensures ∙ sym w.value-is ∙ c.if-is_allowed.true)
          (sym (left_read at ps i c.before-p.result c.here-x.result c.after-n.result placed all) ∙ sym c.turns_left.ensures
          ∙ w.if-turns_left.true) blocked
      | else-turns_left w ↦ absurd (cc)
    ]

pub returns-else-is_allowed-clause-value : goal.returns-else-is_allowed-clause-value
returns-else-is_allowed-clause-value c = λ at placed.
    let ps = c.args.places.now in
    let r = vertices_of ps in
    let i = c.args.i in
    let all = round (goal.at.returns-else-is_allowed-clause-value c).After-after-n in
    let left = left_read at ps i c.before-p.result c.here-x.result c.after-n.result placed all in
    let blocked = list_any (blocks at (vertex_before r i) (vertex_at r i) (vertex_after r i)) r in
    elim c.if-turns_left.branch as (λ _. c.if-turns_left.value ≡ is_ear at r i) [
      | then-turns_left w ↦
          c.if-is_allowed.false
          ∙ one_fails (is_allowed r i) (left_at at r i) (not blocked) (sym w.is_allowed.ensures ∙ sym w.value-is ∙ c.if-is_allowed.false)
      | else-turns_left w ↦
          c.if-is_allowed.false
          ∙ other_fails (is_allowed r i) (left_at at r i) (not blocked) (sym left ∙ sym c.turns_left.ensures ∙ w.if-turns_left.false)
    ]
