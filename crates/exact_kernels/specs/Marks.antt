-- The shadows of exact tests by bits, and what their marks say of the places moved by a hair.
use Rattle.std.specs.Prelude.{◌≡◌, ℤ, neg_ℤ, ◌+ℤ◌, ◌-ℤ◌, ◌*ℤ◌, Bool, true, false, if◌then◌else◌}
use Rattle.std.proofs.Common.{arith, refl, ap, ◌∙◌}
use Rattle.std.proofs.lemmas.Int.{ints}
use Rattle.std.proofs.Math.IntN.{*ℤ_comm}
use Rattle.chain_terms.specs.Sums.{total}
use Rattle.chain_laws.specs.Products.{spread}
use Rattle.mb_base.specs.declared.point.Corner.{Corner}
use Rattle.shadow_kernels.specs.declared.Edge.TheVariants.{OfP, OfQ}
use Rattle.shadow_kernels.specs.declared.Spot.{Spot}
use Rattle.shadow_kernels.specs.Spots.{Between}
use Rattle.shadow_kernels.specs.Rules.{spot_and_side}
use Rattle.shadow_kernels.specs.Counts.{shadow_of, met, by_ends}
use Rattle.shadow_kernels.specs.Sizes.{turned_shadow}
use Rattle.shadow_kernels.specs.Shadows.{meet01, meet10, boundary11}
use Rattle.shadow_kernels.specs.Edges.{rim}
use Rattle.plane_laws.specs.Areas.{Place, area, area_is}
use Rattle.plane_laws.specs.Heights.{flat}
use Rattle.plane_laws.specs.Bits.{bit_shadow, edges_bits, face_bits}
use Rattle.exact_kernels.specs.Exact.{exact, exact_beyond, exact_edge, height, position}

-- a corner seen from above
abbrev pub place : Corner → Place
place c = flat (position c)

-- the heights are areas
pub height_q : (p l r : Corner) → height OfQ p l r ≡ area (place l) (place r) (place p)
height_q p l r = same (place p).y (place l).y (place r).x (place l).x _ ∙ area_is (place l) (place r) (place p) where
  same : (py ly rx lx z : ℤ) → (py -ℤ ly) *ℤ (rx -ℤ lx) -ℤ z ≡ (rx -ℤ lx) *ℤ (py -ℤ ly) -ℤ z
  same py ly rx lx z = ap (λ (t : ℤ). t -ℤ z) (*ℤ_comm (py -ℤ ly) (rx -ℤ lx))

-- of Q's vertex over P's edge: a negative area
pub height_p : (q l r : Corner) → height OfP q l r ≡ neg_ℤ (area (place l) (place r) (place q))
height_p q l r = by (place l) (place r) (place q) where
  by : (L R Q : Place) → (L.y -ℤ Q.y) *ℤ (R.x -ℤ L.x) +ℤ (Q.x -ℤ L.x) *ℤ (R.y -ℤ L.y) ≡ neg_ℤ (area L R Q)
  by L R Q = simp spread (omega (arith, ints, *ℤ_comm L.y R.x, *ℤ_comm L.y L.x, *ℤ_comm Q.y R.x, *ℤ_comm Q.y L.x))

-- the shadow that the ends of an edge give
ends_bits : (s t : Bool) (x y : Bool × Spot) → shadow_of (by_ends s t x y) ≡ bit_shadow s t (if s then x.0 else y.0)
unfolding by_ends met
ends_bits true true x y = refl
ends_bits false false x y = refl
ends_bits true false (true, s) y = refl
ends_bits true false (false, s) y = refl
ends_bits false true x (true, s) = refl
ends_bits false true x (false, s) = refl

-- the mark of a vertex of P and an edge of Q, and of an edge of P and a vertex of Q, whichever end is the left one
abbrev pub mark01 : Corner → Corner → Corner → Bool
mark01 p c d = if exact_beyond p c then exact_edge OfQ p c d else exact_edge OfQ p d c

-- of an edge of P and a vertex of Q
abbrev pub mark10 : Corner → Corner → Corner → Bool
mark10 a b q = if exact_beyond b q then exact_edge OfP q a b else exact_edge OfP q b a

-- the shadow of a vertex and an edge by bits
pub shadow01 : (w : Between) (p c d : Corner) → shadow_of (meet01 exact w p c d) ≡ bit_shadow (exact_beyond p c) (exact_beyond p d) (mark01 p c d)
unfolding meet01
shadow01 w p c d = ends_bits (exact_beyond p c) (exact_beyond p d) (spot_and_side exact w OfQ p c d) (spot_and_side exact w OfQ p d c)

-- that of an edge and a vertex
pub shadow10 : (w : Between) (a b q : Corner) → shadow_of (meet10 exact w a b q) ≡ bit_shadow (exact_beyond b q) (exact_beyond a q) (mark10 a b q)
unfolding meet10
shadow10 w a b q = ends_bits (exact_beyond b q) (exact_beyond a q) (spot_and_side exact w OfP q a b) (spot_and_side exact w OfP q b a)

-- the sums of boundary pairs by bits
pub edges_total : (w : Between) (a b c d : Corner) → total shadow_of (boundary11 exact w a b c d)
    ≡ edges_bits (exact_beyond a c) (exact_beyond a d) (exact_beyond b c) (exact_beyond b d) (mark01 a c d) (mark01 b c d) (mark10 a b c) (mark10 a b d)
edges_total w a b c d =
    omega (arith, ints, turned_shadow (meet01 exact w a c d), turned_shadow (meet10 exact w a b c), shadow01 w a c d, shadow01 w b c d, shadow10 w a b c, shadow10 w a b d)

-- of a vertex and a face
pub vertex_total : (w : Between) (p u v t : Corner) → total shadow_of (rim OfQ exact w p u v t)
    ≡ face_bits (exact_beyond p u) (exact_beyond p v) (exact_beyond p t) (mark01 p u v) (mark01 p v t) (mark01 p t u)
vertex_total w p u v t = omega (arith, ints, shadow01 w p u v, shadow01 w p v t, shadow01 w p t u)

-- an exchange of the tests turns a shadow
bits_turned : (s t u : Bool) → bit_shadow t s u ≡ neg_ℤ (bit_shadow s t u)
bits_turned true true u = refl
bits_turned true false u = refl
bits_turned false true u = omega (arith, ints)
bits_turned false false u = refl

-- and of a face and a vertex
pub face_total : (w : Between) (u v t q : Corner) → total shadow_of (rim OfP exact w q u v t)
    ≡ neg_ℤ (face_bits (exact_beyond u q) (exact_beyond v q) (exact_beyond t q) (mark10 u v q) (mark10 v t q) (mark10 t u q))
face_total w u v t q =
    let x = exact_beyond u q in
    let y = exact_beyond v q in
    let z = exact_beyond t q in
    omega (arith, ints, shadow10 w u v q, shadow10 w v t q, shadow10 w t u q, bits_turned x y (mark10 u v q), bits_turned y z (mark10 v t q), bits_turned z x (mark10 t u q))
