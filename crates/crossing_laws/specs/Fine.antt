-- The laws for fine corners.
use Rattle.std.specs.Prelude.{◌≡◌, ◌≢◌, ℤ, pos, neg_ℤ, ◌≤ℤ◌, Bool, true, false, if◌then◌else◌}
use Rattle.std.specs.Ordering.{int_eq}
use Rattle.std.proofs.Common.{arith, refl}
use Rattle.std.proofs.lemmas.Int.{ints}
use Rattle.std.proofs.lemmas.Bool.Decides.{Decides-int_eq}
use Rattle.mb_base.specs.declared.point.Corner.{Corner}
use Rattle.side_terms.specs.Fine.{fine_edge}
use Rattle.side_terms.specs.Corners.{IsFineCorner, corner_at}
use Rattle.plane_laws.specs.Above.{opposite}
use Rattle.plane_laws.specs.Decisions.{Vector, edges_normal, face_normal, leading}
use Rattle.space_laws.specs.Crossed.{five_sign}
use Rattle.space_laws.specs.Lexical.{height_or_lead}
use Rattle.solid_laws.specs.Bounds.{IsBounded}
use Rattle.solid_laws.specs.Windings.{fine_at}
use Rattle.crossing_laws.specs.Backwards.{crossing_back_is}
use Rattle.crossing_laws.specs.Laws.{NeedNoHair, NumbersOfP, NumbersOfQ, WaysBackOut, WaysOut}
use Rattle.crossing_laws.specs.Numbers.{crossing_is}
use Rattle.crossing_laws.specs.Ways.{way_back_out, way_out}

-- fine coordinates have a bound
sized : pos 0 ≤ℤ fine_edge
sized = omega (arith, ints)

-- so fine corners are bounded
bounded : (c : Corner) → IsFineCorner c → IsBounded fine_edge c
bounded c h = record {
  x = record { low = h.x.low; high = h.x.high };
  y = record { low = h.y.low; high = h.y.high };
  z = record { low = h.z.low; high = h.z.high };
}

-- an edge of P and a face of Q
pub numbers_of_p : NumbersOfP
numbers_of_p w settle a b u v t fe ff =
    crossing_is fine_edge sized w a b u v t (bounded a (fe 0 a (omega arith))) (bounded b (fe 1 a (omega arith))) (bounded u (ff 0 a (omega arith)))
    (bounded v (ff 1 a (omega arith))) (bounded t (ff 2 a (omega arith))) settle

-- an edge of Q and a face of P
pub numbers_of_q : NumbersOfQ
numbers_of_q w settle u v t a b ff fe =
    crossing_back_is fine_edge sized w a b u v t (bounded a (fe 0 a (omega arith))) (bounded b (fe 1 a (omega arith))) (bounded u (ff 0 a (omega arith)))
    (bounded v (ff 1 a (omega arith))) (bounded t (ff 2 a (omega arith))) settle

-- a height that is not 0 decides itself
lead_plain : (n : Vector) (h : ℤ) → h ≢ pos 0 → height_or_lead n h ≡ h
lead_plain n h some = by (int_eq h (pos 0)) refl where
  by : (t : Bool) → int_eq h (pos 0) ≡ t → (if t then leading n else h) ≡ h
  by true e = absurd (some ((Decides-int_eq h (pos 0)).0 e))
  by false e = refl

-- five numbers put for equal ones
five_put : (a0 a1 a2 a3 a4 b0 b1 b2 b3 b4 : ℤ) → a0 ≡ b0 → a1 ≡ b1 → a2 ≡ b2 → a3 ≡ b3 → a4 ≡ b4 → five_sign a0 (neg_ℤ a1) a2 a3 a4 ≡ five_sign b0 (neg_ℤ b1) b2 b3 b4
five_put a0 a1 a2 a3 a4 b0 b1 b2 b3 b4 e0 e1 e2 e3 e4 = rw (e0, e1, e2, e3, e4) refl

-- so nothing needs to be moved where no volume is 0
pub need_no_hair : NeedNoHair
need_no_hair a b u v t h = (
  five_put _ _ _ _ _ _ _ _ _ _ (lead_plain (opposite (face_normal u v t)) _ h.start) (lead_plain (opposite (face_normal u v t)) _ h.end)
      (lead_plain (edges_normal a b u v) _ h.first) (lead_plain (edges_normal a b v t) _ h.second) (lead_plain (edges_normal a b t u) _ h.third),
  five_put _ _ _ _ _ _ _ _ _ _ (lead_plain (face_normal u v t) _ h.start) (lead_plain (face_normal u v t) _ h.end) (lead_plain (opposite (edges_normal a b u v)) _ h.first)
      (lead_plain (opposite (edges_normal a b v t)) _ h.second) (lead_plain (opposite (edges_normal a b t u)) _ h.third),
)

-- ways of fine corners
pub ways_out : WaysOut
ways_out w p way q hp hw side far =
    way_out fine_edge sized w (corner_at q.corners) (λ i. bounded _ (fine_at q.corners side.fine i)) q.triples side.accepted.closed p way (bounded p hp)
    (λ i d l. bounded _ (hw i d l)) far

-- of Q
pub ways_back_out : WaysBackOut
ways_back_out w q way p hq hw side far =
    way_back_out fine_edge sized w (corner_at p.corners) (λ i. bounded _ (fine_at p.corners side.fine i)) p.triples side.accepted.closed q way (bounded q hq)
    (λ i d l. bounded _ (hw i d l)) far
