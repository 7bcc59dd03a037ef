-- The corners of a side in fine steps and the points of its mesh on the grid.
use Rattle.std.proofs.Common.{◌≡◌, ◌^◌, ℕ, zero, suc, ℤ, pos, ◌<ℤ◌, Bool, List, [], ◌∷◌, get_or, length, refl, sym, ap, subst, arith, inl, inr, ◌∙◌}
use Rattle.std.specs.List.{All}
use Rattle.std.proofs.lemmas.Bool.{cases_lt}
use Rattle.std.proofs.lemmas.Int.{ints}
use Rattle.std.proofs.lemmas.List.{get_or_past}
use Rattle.mb_base.specs.declared.TheConstants.{UNIT}
use Rattle.mesh_terms.specs.Meshes.{Mesh}
use Rattle.mesh_terms.specs.Points.{IsOnGrid, IsPoint}
use Rattle.plane_laws.specs.Decisions.{Vector}
use Rattle.side_terms.specs.Corners.{blank_corner, corner_at}
use Rattle.side_terms.specs.Sides.{corners_of}
use Rattle.exact_kernels.specs.Exact.{position}
use Rattle.solid_terms.specs.Solids.{IsClearOfAll, IsOffFaces}
use Rattle.solid_laws.specs.Apex.{apex, apex_clear}
use Rattle.solid_laws.specs.Bounds.{IsBounded, IsUpTo, wide}
use Rattle.solid_laws.specs.Scaled.{scaled_place}
use Rattle.solid_laws.specs.Windings.{corner_on}
use Rattle.geometric_laws.specs.Geometric.{place_of, places_in}

-- a corner lies where its point does, in fine steps
pub corner_placed : (points : List (List ℤ)) (ups : List (List Bool)) → length ups ≡ length points → (i : ℕ) →
    position (corner_at (corners_of points ups) i) ≡ scaled_place UNIT (place_of (get_or points i []))
corner_placed [] ups e i = ap position (get_or_past [] i blank_corner (omega arith)) ∙ ap (λ p. scaled_place UNIT (place_of p)) (sym (get_or_past [] i [] (omega arith)))
corner_placed (p ∷ ps) [] e i = absurd (omega (arith, e))
corner_placed (p ∷ ps) (u ∷ us) e zero = refl
corner_placed (p ∷ ps) (u ∷ us) e (suc i) = corner_placed ps us (omega (arith, e)) i

-- a step is some fine steps
pub unit_above : pos 0 <ℤ UNIT
unit_above = omega (arith, ints)

-- the bound of the grid
grid_edge : ℤ
grid_edge = pos (2 ^ 30)

-- a place on the grid is within it
grid_within : (z : ℤ) → IsOnGrid z → IsUpTo grid_edge z
unfolding grid_edge
grid_within z on = record { low = omega (arith, ints, on); high = omega (arith, ints, on) }

-- so is each place of the points of a mesh on the grid
place_within : (points : List (List ℤ)) → All IsPoint points → (i : ℕ) → IsBounded grid_edge (corner_on (place_of (get_or points i [])))
place_within points on i = elim (cases_lt i (length points)) as (λ _. IsBounded grid_edge (corner_on (place_of (get_or points i [])))) [
  | inl l ↦ let p = on i [] l in record { x = grid_within _ p.x; y = grid_within _ p.y; z = grid_within _ p.z }
  | inr l ↦ subst (λ p. IsBounded grid_edge (corner_on (place_of p))) (sym (get_or_past points i [] l)) nothing
] where
  zero_on : IsOnGrid (pos 0)
  zero_on = omega (arith, ints)

  nothing : IsBounded grid_edge (corner_on (place_of []))
  nothing = record { x = grid_within (pos 0) zero_on; y = grid_within (pos 0) zero_on; z = grid_within (pos 0) zero_on }

-- the apex of a place of the grid
pub grid_apex : Vector → Vector
grid_apex p = position (apex (wide grid_edge) (corner_on p))

-- a place of the grid in no closed triangle of a mesh on the grid is clear of that apex
pub grid_clear : (points : List (List ℤ)) → All IsPoint points → (i : ℕ) → (m : Mesh) → All IsPoint m.points → IsOffFaces (place_of (get_or points i [])) (places_in m) m.triples →
    IsClearOfAll (place_of (get_or points i [])) (grid_apex (place_of (get_or points i []))) (places_in m) m.triples
unfolding grid_edge grid_apex
grid_clear points points_on v m on off i d l =
    let t = get_or m.triples i d in
    apex_clear grid_edge (omega (arith, ints)) (corner_on (place_of (get_or points v []))) (place_within points points_on v)
    (corner_on (places_in m t.0)) (corner_on (places_in m t.1)) (corner_on (places_in m t.2))
    (place_within m.points on t.0) (place_within m.points on t.1) (place_within m.points on t.2) (off i d l)
