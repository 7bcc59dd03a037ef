-- A vertex and an edge: boxes apart in y decide which is above.
use Rattle.std.specs.Prelude.{◌≡◌, ℤ, pos, neg_ℤ, ◌+ℤ◌, ◌-ℤ◌, ◌*ℤ◌, ◌≤ℤ◌, ◌<ℤ◌, Bool, true, false}
use Rattle.std.proofs.Common.{arith, sym, subst}
use Rattle.std.proofs.lemmas.Int.{ints}
use Rattle.std.proofs.Math.IntN.{*ℤ_comm}
use Rattle.chain_laws.specs.Products.{spread}
use Rattle.plane_laws.specs.Signs.{Signed}
use Rattle.plane_laws.specs.Areas.{Place, area}
use Rattle.plane_laws.specs.Meetings.{zero_times}
use Rattle.plane_laws.specs.Moved.{over_above, over_below}
use Rattle.plane_laws.specs.Decisions.{is_over}
use Rattle.plane_laws.specs.Apart.{Apart, weighed_signs}

-- the area by the distances in x to both ends
two_terms : (l r v : Place) → area l r v ≡ (r.x -ℤ v.x) *ℤ (v.y -ℤ l.y) +ℤ (v.x -ℤ l.x) *ℤ (v.y -ℤ r.y) +ℤ pos 0 *ℤ (v.y -ℤ l.y)
two_terms l r v = simp spread (omega (arith, ints, *ℤ_comm v.x v.y, *ℤ_comm l.x l.y, zero_times v.y, zero_times (neg_ℤ l.y), zero_times l.y))

-- the sign of the area where the vertex is above both ends, or below both
area_apart : (t : Bool) (l r v : Place) → l.x ≤ℤ v.x → v.x ≤ℤ r.x → l.x <ℤ r.x → Apart t v.y l.y → Apart t v.y r.y → Signed t (area l r v)
area_apart t l r v after before right hl hr =
    subst (λ (z : ℤ). Signed t z) (sym (two_terms l r v))
    (weighed_signs true t (r.x -ℤ v.x) (v.x -ℤ l.x) (pos 0) (v.y -ℤ l.y) (v.y -ℤ r.y) (v.y -ℤ l.y) (omega (arith, ints)) (omega (arith, ints)) (omega (arith, ints))
    (omega (arith, ints)) (higher t l.y hl) (higher t r.y hr) (higher t l.y hl))
  where
    higher : (t : Bool) (y : ℤ) → Apart t v.y y → Signed t (v.y -ℤ y)
    higher true y h = omega (arith, ints)
    higher false y h = omega (arith, ints)

-- the test where the height has a sign
over_signed : (t : Bool) (v l r : ℤ) → Signed t v → is_over v l r ≡ t
over_signed true v l r h = over_above v l r h
over_signed false v l r h = over_below v l r h

-- a vertex of P above both ends of an edge of Q is above it
pub vertex_beside : (t : Bool) (l r p : Place) → l.x ≤ℤ p.x → p.x ≤ℤ r.x → l.x <ℤ r.x → Apart t p.y l.y → Apart t p.y r.y → is_over (area l r p) l.y r.y ≡ t
vertex_beside t l r p after before right hl hr = over_signed t (area l r p) l.y r.y (area_apart t l r p after before right hl hr)

-- and an edge of P with both ends above a vertex of Q is above it
pub edge_beside : (t : Bool) (l r q : Place) → l.x ≤ℤ q.x → q.x ≤ℤ r.x → l.x <ℤ r.x → Apart t l.y q.y → Apart t r.y q.y → is_over (neg_ℤ (area l r q)) l.y r.y ≡ t
edge_beside true l r q after before right hl hr = let k = area_apart false l r q after before right hl hr in over_signed true (neg_ℤ (area l r q)) l.y r.y (omega (arith, ints, k))
edge_beside false l r q after before right hl hr = let k = area_apart true l r q after before right hl hr in over_signed false (neg_ℤ (area l r q)) l.y r.y (omega (arith, ints, k))
