-- Two squares that overlap and two side by side, on the grid, and the solids over outlines, computed.
use Rattle.std.specs.Prelude.{◌≡◌, ℕ, ℤ, pos, negsuc, List, [], ◌∷◌}
use Rattle.std.proofs.Common.{refl}
use Rattle.mb_base.specs.declared.op.Op.TheVariants.{Subtract, Union}
use Rattle.mb_base.specs.declared.op.Op.{Op}
use Rattle.rounding.specs.Nearest.{nearest, settle_nearest}
use Rattle.shadow_kernels.specs.Rules.{grid}
use Rattle.shadow_kernels.specs.Counts.{by_ends, joined, lifted, met}
use Rattle.shadow_kernels.specs.Shadows.{edge_edge, edge_vertex, meet01, meet10, meet11, vertex_edge}
use Rattle.shadow_kernels.specs.Spots.{spot01, spot10, spot_between}
use Rattle.outline_pair_terms.specs.Numbers.{FlatNumbers, flat_numbers, flat_tests, p_flat, q_flat}
use Rattle.outline_terms.specs.Outlines.{Outline, ring_of}
use Rattle.cross_section.specs.Extruded.{doubled_area, extruded, filling_of}
use Rattle.cross_section.specs.Outcome.{outcome_of}

abbrev at : ℕ → ℕ → List ℤ
at x y = pos x ∷ pos y ∷ pos 0 ∷ []

abbrev at_height : ℕ → ℕ → ℕ → List ℤ
at_height x y z = pos x ∷ pos y ∷ pos z ∷ []

-- a box from one corner to the other
abbrev box : ℕ → ℕ → ℕ → ℕ → Outline
box x y s t = ring_of (at x y ∷ at s y ∷ at s t ∷ at x t ∷ [])

abbrev numbers : Op → Outline → Outline → FlatNumbers
numbers op p q =
    flat_numbers (flat_tests (vertex_edge grid nearest) (edge_vertex grid nearest) (edge_edge grid nearest)) settle_nearest (p_flat op p) (q_flat q)

-- they cross at (2, 1) and (1, 2)
overlapping : numbers Subtract (box 0 0 2 2) (box 1 1 3 3) ≡
    record {
      w02 = pos 0 ∷ pos 0 ∷ pos 1 ∷ pos 0 ∷ [];
      w20 = pos 1 ∷ pos 0 ∷ pos 0 ∷ pos 0 ∷ [];
      hits = record { p_edge = 1; q_edge = 0; number = pos 1; at = at 2 1 } ∷ record { p_edge = 2; q_edge = 3; number = negsuc 0; at = at 1 2 } ∷ [];
    }
unfolding meet01 meet10 meet11 lifted joined by_ends met spot01 spot10 spot_between
overlapping = refl

-- side by side: moved outwards, the first one reaches into the second, and their union has a step of width 0 there
side_by_side : outcome_of Union (box 0 0 1 1) (box 1 0 2 1) (numbers Union (box 0 0 1 1) (box 1 0 2 1)) ≡
    record {
      outline = record {
        points = at 0 0 ∷ at 1 0 ∷ at 1 1 ∷ at 0 1 ∷ at 2 0 ∷ at 2 1 ∷ at 1 0 ∷ at 1 1 ∷ [];
        loops = (0 ∷ 1 ∷ 6 ∷ 4 ∷ 5 ∷ 7 ∷ 2 ∷ 3 ∷ []) ∷ [];
      };
      p_kept = 4;
      q_kept = 2;
      crossings = 2;
    }
unfolding meet01 meet10 meet11 lifted joined by_ends met spot01 spot10 spot_between
side_by_side = refl

-- taken away, the second one leaves the first as it is
beside : outcome_of Subtract (box 0 0 1 1) (box 1 0 2 1) (numbers Subtract (box 0 0 1 1) (box 1 0 2 1)) ≡
    record { outline = box 0 0 1 1; p_kept = 4; q_kept = 0; crossings = 0 }
unfolding meet01 meet10 meet11 lifted joined by_ends met spot01 spot10 spot_between
beside = refl

-- the solid over a triangle
abbrev triangle : Outline
triangle = ring_of (at 0 0 ∷ at 2 0 ∷ at 0 2 ∷ [])

prism : extruded triangle (pos 0) (pos 1) ≡
    record {
      points = at_height 0 0 0 ∷ at_height 2 0 0 ∷ at_height 0 2 0 ∷ at_height 0 0 1 ∷ at_height 2 0 1 ∷ at_height 0 2 1 ∷ [];
      triples = (0, 2, 1) ∷ (3, 4, 5) ∷ (0, 1, 4) ∷ (0, 4, 3) ∷ (1, 2, 5) ∷ (1, 5, 4) ∷ (2, 0, 3) ∷ (2, 3, 5) ∷ [];
      labels = [] ∷ [] ∷ [] ∷ [] ∷ [] ∷ [] ∷ [] ∷ [] ∷ [];
    }
prism = refl

triangle_area : doubled_area triangle ≡ pos 4
triangle_area = refl

-- a square with a square hole: its filling goes round the hole
abbrev frame : Outline
frame = record {
  points = at 0 0 ∷ at 4 0 ∷ at 4 4 ∷ at 0 4 ∷ at 1 1 ∷ at 3 1 ∷ at 3 3 ∷ at 1 3 ∷ [];
  loops = (0 ∷ 1 ∷ 2 ∷ 3 ∷ []) ∷ (5 ∷ 4 ∷ 7 ∷ 6 ∷ []) ∷ [];
}

frame_filled : filling_of frame ≡
    record {
      triples = (1, 2, 6) ∷ (1, 6, 5) ∷ (0, 1, 5) ∷ (0, 5, 4) ∷ (3, 0, 4) ∷ (3, 4, 7) ∷ (3, 7, 6) ∷ (6, 2, 3) ∷ [];
      forced = 0;
    }
frame_filled = refl

frame_area : doubled_area frame ≡ pos 24
frame_area = refl
