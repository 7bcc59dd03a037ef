-- Made solids within lawful limits.
use Rattle.std.proofs.Common.{◌≡◌, ◌≤◌, ◌*◌, ℕ, ℤ, Bool, true, false, List, length, refl, sym, subst, arith}
use Rattle.std.specs.Prelude.{if◌then◌else◌, nat_lt, Option, Some, None}
use Rattle.std.specs.List.{list_all}
use Rattle.std.proofs.lemmas.Bool.{ltb-false}
use Rattle.made_terms.specs.Lattice.{lattice_points, lattice_triples}
use Rattle.made_terms.specs.Refusals.{Exceeds, Flat, MadeFault, Outside, all_on_grid, excess, made_fault}
use Rattle.made_terms.specs.Solids.{box_points, box_triples, prism_points, prism_triples, tetra_points, tetra_triples}
use Rattle.mesh_terms.specs.Faults.{Points, Triangles}
use Rattle.mesh_terms.proofs.Labels.{no_labels-are}
use Rattle.mesh_terms.specs.Given.{IsGivenWithin}
use Rattle.mesh_terms.specs.Labels.{no_labels}
use Rattle.mesh_terms.specs.Limits.{IsLawful, Limits}
use Rattle.mesh_terms.specs.Meshes.{Triple}
use Rattle.made_terms.specs.Making.{solid_fault, solid_mesh}
use Rattle.made_terms.specs.declared.solid.Solid.{Solid}
use Rattle.made_terms.specs.declared.solid.Solid.TheVariants.{Box, Lattice, Prism, Tetra}
use Rattle.made_laws.specs.Solids.{IsSolid}
use Rattle.made_laws.proofs.Lattices.{boxes_solid, lattice_threes, points_of_boxes}
use Rattle.made_laws.proofs.Points.{is_three, points_by_tests}
use Rattle.made_laws.proofs.SolidTests.{box_solid, prism_solid, solid_accepted, tetra_solid}

-- what is not refused is not flat, and is not refused for what comes after
not_flat : (flat : Bool) (o : Option MadeFault) → (if flat then Some Flat else o) ≡ None → o ≡ None
not_flat true o none = cc
not_flat false o none = none

-- counts that exceed no limit are within both
within_both : (limits : Limits) (points triangles : ℕ) → excess limits points triangles ≡ None → (points ≤ limits.points) × (triangles ≤ limits.triangles)
within_both limits points triangles none = by_points (nat_lt limits.points points) refl (nat_lt limits.triangles triangles) refl none
  where
    by_points : (b : Bool) → nat_lt limits.points points ≡ b → (c : Bool) → nat_lt limits.triangles triangles ≡ c
        → (if b then Some (Exceeds Points points) else if c then Some (Exceeds Triangles triangles) else None) ≡ None
        → (points ≤ limits.points) × (triangles ≤ limits.triangles)
    by_points true b c d none = cc
    by_points false b true d none = cc
    by_points false b false d none = (ltb-false limits.points points b, ltb-false limits.triangles triangles d)

-- points that are not refused are on the grid, and they and the triangles are few
not_refused : (limits : Limits) (points : List (List ℤ)) (triangles : ℕ) → made_fault limits points triangles ≡ None
    → (all_on_grid points ≡ true) × (length points ≤ limits.points) × (triangles ≤ limits.triangles)
not_refused limits points triangles none = by_test (all_on_grid points) none
  where
    by_test : (b : Bool) → (if b then excess limits (length points) triangles else Some Outside) ≡ None
        → (b ≡ true) × (length points ≤ limits.points) × (triangles ≤ limits.triangles)
    by_test true none = let few = within_both limits (length points) triangles none in (refl, few.0, few.1)
    by_test false none = cc

-- a solid over rows of three, where these are not refused
within_limits : (limits : Limits) (points : List (List ℤ)) (ts : List Triple) → IsLawful limits → IsSolid (length points) ts → list_all is_three points ≡ true
    → made_fault limits points (length ts) ≡ None → IsGivenWithin limits (record { points = points; triples = ts; labels = no_labels ts })
within_limits limits points ts lawful solid three none =
    let known = not_refused limits points (length ts) none in
    let few_points = known.1 in
    let few_triples = known.2 in
    record {
      given = record {
        accepted = solid_accepted (length points) ts solid (omega (arith, few_points, lawful.few_points)) (omega (arith, few_triples, lawful.few_triangles));
        on_grid = points_by_tests points three known.0;
        labels = no_labels-are ts;
      };
      few_points = few_points;
      few_triples = few_triples;
    }

-- the boxes of a lattice are a solid over its points
lattice_solid : (n seed : ℕ) → IsSolid (length (lattice_points n seed)) (lattice_triples n)
lattice_solid n seed = subst (λ k. IsSolid k (lattice_triples n)) (sym (points_of_boxes n seed (n * n * n) refl)) (boxes_solid (n * n * n))

-- a solid that is not refused is an accepted mesh at points of the grid, within the limits
pub solid_given : (limits : Limits) → IsLawful limits → (solid : Solid) → solid_fault limits solid ≡ None → IsGivenWithin limits (solid_mesh solid)
solid_given limits lawful (Box low high) none = within_limits limits (box_points low high) box_triples lawful box_solid refl (not_flat _ _ none)
solid_given limits lawful (Tetra at size) none = within_limits limits (tetra_points at size) tetra_triples lawful tetra_solid refl (not_flat _ _ none)
solid_given limits lawful (Prism at size height) none = within_limits limits (prism_points at size height) prism_triples lawful prism_solid refl (not_flat _ _ none)
solid_given limits lawful (Lattice n seed) none =
    within_limits limits (lattice_points n seed) (lattice_triples n) lawful (lattice_solid n seed) (lattice_threes n seed) none
