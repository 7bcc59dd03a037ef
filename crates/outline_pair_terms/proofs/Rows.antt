-- Two squares that overlap, and a square in another, computed: their prescribed vertices, segments and loops, with the numbers handed over.
use Rattle.std.specs.Prelude.{◌≡◌, ℕ, ℤ, pos, negsuc, List, [], ◌∷◌}
use Rattle.std.proofs.Common.{refl}
use Rattle.mb_base.specs.declared.op.Op.TheVariants.{Intersect, Subtract, Union}
use Rattle.mb_base.specs.declared.op.Op.{Op}
use Rattle.outline_pair_terms.specs.Lists.{flat_copies, flat_segments, outline_of}
use Rattle.outline_pair_terms.specs.Numbers.{FlatNumbers}
use Rattle.outline_terms.specs.Outlines.{Outline, ring_of}

abbrev at : ℕ → ℕ → List ℤ
at x y = pos x ∷ pos y ∷ pos 0 ∷ []

-- a square by its corners at the left below and at the right above
abbrev square : ℕ → ℕ → Outline
square low high = ring_of (at low low ∷ at high low ∷ at high high ∷ at low high ∷ [])

abbrev none : List ℤ
none = pos 0 ∷ pos 0 ∷ pos 0 ∷ pos 0 ∷ []

-- from 0 to 2, and from 1 to 3: the edges cross at (2, 1) and (1, 2)
abbrev overlap : FlatNumbers
overlap = record {
  w02 = pos 0 ∷ pos 0 ∷ pos 1 ∷ pos 0 ∷ [];
  w20 = pos 1 ∷ pos 0 ∷ pos 0 ∷ pos 0 ∷ [];
  hits = record { p_edge = 1; q_edge = 0; number = pos 1; at = at 2 1 } ∷ record { p_edge = 2; q_edge = 3; number = negsuc 0; at = at 1 2 } ∷ [];
}

abbrev combined : Op → Outline → Outline → FlatNumbers → Outline
combined op p q n = outline_of p q (flat_copies op p q n)

united : combined Union (square 0 2) (square 1 3) overlap ≡
    record {
      points = at 0 0 ∷ at 2 0 ∷ at 0 2 ∷ at 3 1 ∷ at 3 3 ∷ at 1 3 ∷ at 2 1 ∷ at 1 2 ∷ [];
      loops = (0 ∷ 1 ∷ 6 ∷ 3 ∷ 4 ∷ 5 ∷ 7 ∷ 2 ∷ []) ∷ [];
    }
united = refl

shared : combined Intersect (square 0 2) (square 1 3) overlap ≡
    record { points = at 2 2 ∷ at 1 1 ∷ at 2 1 ∷ at 1 2 ∷ []; loops = (2 ∷ 0 ∷ 3 ∷ 1 ∷ []) ∷ [] }
shared = refl

taken_away : combined Subtract (square 0 2) (square 1 3) overlap ≡
    record { points = at 0 0 ∷ at 2 0 ∷ at 0 2 ∷ at 1 1 ∷ at 2 1 ∷ at 1 2 ∷ []; loops = (0 ∷ 1 ∷ 4 ∷ 3 ∷ 5 ∷ 2 ∷ []) ∷ [] }
taken_away = refl

-- the segments of the lists in their order: those of the edges of the first, then of the second
segments_taken_away : flat_segments (square 0 2) (square 1 3) (flat_copies Subtract (square 0 2) (square 1 3) overlap) ≡
    (0, 1) ∷ (1, 4) ∷ (5, 2) ∷ (2, 0) ∷ (4, 3) ∷ (3, 5) ∷ []
segments_taken_away = refl

-- one in the other: the inner one runs the other way round, and is a hole
abbrev within : FlatNumbers
within = record { w02 = none; w20 = pos 1 ∷ pos 1 ∷ pos 1 ∷ pos 1 ∷ []; hits = [] }

holed : combined Subtract (square 0 4) (square 1 3) within ≡
    record {
      points = at 0 0 ∷ at 4 0 ∷ at 4 4 ∷ at 0 4 ∷ at 1 1 ∷ at 3 1 ∷ at 3 3 ∷ at 1 3 ∷ [];
      loops = (0 ∷ 1 ∷ 2 ∷ 3 ∷ []) ∷ (5 ∷ 4 ∷ 7 ∷ 6 ∷ []) ∷ [];
    }
holed = refl
