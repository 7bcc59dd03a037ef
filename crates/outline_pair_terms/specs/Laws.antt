-- The laws of operations on two outlines, as statements.
use Rattle.std.specs.Prelude.{◌≡◌, ℕ, ◌<◌, ◌≤◌, Bool, ℤ, ◌+ℤ◌, ◌-ℤ◌, List, length}
use Rattle.std.specs.List.{All, Contains, concat, flat_map}
use Rattle.std.specs.List.Sorted.{IsPermutation}
use Rattle.chain_terms.specs.Cycles.{cycles}
use Rattle.chain_terms.specs.Paths.{round_edges}
use Rattle.chain_terms.specs.Sums.{total, upto}
use Rattle.mb_base.specs.declared.op.Op.{Op}
use Rattle.side_terms.specs.Corners.{corner_at}
use Rattle.face_loops.specs.Segments.{IsOneToOne}
use Rattle.face_loops.specs.Standings.{AreEven, NoneExchanged}
use Rattle.outline_terms.specs.Outlines.{IsOutline, Outline, outline_edges}
use Rattle.outline_pair_terms.specs.Balance.{AreConserved}
use Rattle.outline_pair_terms.specs.Lists.{FlatCopy, FlatOrigin, OfBoth, OfP, OfQ, flat_copies, flat_lists, flat_segments, flat_standing}
use Rattle.outline_pair_terms.specs.Numbers.{FlatSide, FlatTests, LiftEdges, flat_number, flat_numbers, flat_winding, flat_winding_back, p_flat, q_flat}

-- the edges of a side are those round loops
pub record HasLoops (side : FlatSide) (loops : List (List ℕ)) : Type 0 where
  pub edges : side.edges ≡ flat_map round_edges loops

-- along an edge of P the winding number in Q changes by the sum of the edge's numbers
abbrev pub EdgesConserve : Type 0
EdgesConserve = (t : FlatTests) (p q : FlatSide) (loops : List (List ℕ)) → HasLoops q loops → LiftEdges t p.corners q.corners → (a b : ℕ) →
    flat_winding t (corner_at p.corners b) q ≡ flat_winding t (corner_at p.corners a) q +ℤ total (flat_number t p q (a, b)) q.edges

-- and along an edge of Q that in P by minus the sum
abbrev pub EdgesConserveBack : Type 0
EdgesConserveBack = (t : FlatTests) (p q : FlatSide) (loops : List (List ℕ)) → HasLoops p loops → LiftEdges t p.corners q.corners → (c d : ℕ) →
    flat_winding_back t p (corner_at q.corners d) ≡ flat_winding_back t p (corner_at q.corners c) -ℤ total (λ e. flat_number t p q e (c, d)) p.edges

-- where no edge has one that runs back, and copies of one thing have one sign, no two copies stand in two lists the one as the
-- other does not
abbrev pub CopiesAreNotExchanged : Type 0
CopiesAreNotExchanged = (p q : List (ℕ × ℕ)) (cs : List FlatCopy) (sign : FlatOrigin → Bool) →
    ((v w : ℕ) → Contains p (v, w) → Contains p (w, v) → ⊥) → ((v w : ℕ) → Contains q (v, w) → Contains q (w, v) → ⊥) →
    All (λ c. c.negative ≡ sign c.origin) cs → NoneExchanged (flat_standing p q cs) (length cs) (flat_lists p q)

-- what copies are copies of, in outlines with such edges and so many vertices
abbrev pub IsOfBoth : (p q : List (ℕ × ℕ)) → (m n : ℕ) → FlatOrigin → Type 0
IsOfBoth p q m n (OfP v) = v < m
IsOfBoth p q m n (OfQ v) = v < n
IsOfBoth p q m n (OfBoth i j) = (i < length p) × (j < length q)

-- where each list of edges has as many starts as ends, and copies of one thing have one sign, the segments of two outlines form
-- loops, each of three vertices or more
abbrev pub OutlineLoopsAreLong : Type 0
OutlineLoopsAreLong = (p q : Outline) (cs : List FlatCopy) (sign : FlatOrigin → Bool) → IsOutline p → IsOutline q →
    All (λ c. IsOfBoth (outline_edges p) (outline_edges q) (length p.points) (length q.points) c.origin) cs → All (λ c. c.negative ≡ sign c.origin) cs →
    AreEven (flat_standing (outline_edges p) (outline_edges q) cs) (length cs) (flat_lists (outline_edges p) (outline_edges q)) →
    IsOneToOne (flat_segments p q cs) × All (λ loop. 3 ≤ length loop) (cycles (flat_segments p q cs))

-- an operation on two outlines, whatever the tests answer that keep the lift: winding numbers and hits agree along the edges, and
-- the segments form loops, each of three vertices or more, and every copy is in exactly one
pub record GivesLoops (t : FlatTests) (settle : ℤ → ℤ) (op : Op) (p q : Outline) : Type 0 where
  pub conserved : AreConserved (outline_edges p) (outline_edges q) (flat_numbers t settle (p_flat op p) (q_flat q))
  pub once : IsOneToOne (flat_segments p q (flat_copies op p q (flat_numbers t settle (p_flat op p) (q_flat q))))
  pub long : All (λ loop. 3 ≤ length loop) (cycles (flat_segments p q (flat_copies op p q (flat_numbers t settle (p_flat op p) (q_flat q)))))
  pub each : IsPermutation (upto (length (flat_copies op p q (flat_numbers t settle (p_flat op p) (q_flat q)))))
      (concat (cycles (flat_segments p q (flat_copies op p q (flat_numbers t settle (p_flat op p) (q_flat q))))))

abbrev pub OperationsGiveLoops : Type 0
OperationsGiveLoops = (t : FlatTests) (settle : ℤ → ℤ) (op : Op) (p q : Outline) → IsOutline p →
    IsOutline q → LiftEdges t (p_flat op p).corners (q_flat q).corners → GivesLoops t settle op p q
