-- Triangles with the same boundary have the same doubled area.
use Rattle.std.specs.Prelude.{◌≡◌, ℕ, ℤ, ◌-ℤ◌, List}
use Rattle.std.proofs.Common.{arith, sym, ◌∙◌}
use Rattle.std.proofs.lemmas.Int.{ints}
use Rattle.chain_terms.specs.Sums.{total}
use Rattle.chain_terms.specs.Chains.{boundary, edges, all_edges}
use Rattle.chain_laws.specs.Sums.{total-flat_map, total-same}
use Rattle.chain_terms.specs.Odd.{IsOdd, along}
use Rattle.chain_laws.specs.Chains.{same_boundary}
use Rattle.chain_laws.specs.Areas.{area_at, orientation}
use Rattle.chain_laws.specs.Products.{mul-sub, sub-mul}

-- the area of an edge turns its sign with the edge
pub area_odd : (u v : ℕ → ℤ) → IsOdd (area_at u v)
area_odd u v = record { turns = λ a b. omega (arith, ints) }

-- the areas of the edges of a triangle add up to its area
pub area_of_triangle : (u v : ℕ → ℤ) (t : ℕ × ℕ × ℕ) → total (along (area_at u v)) (edges t) ≡ orientation u v t
area_of_triangle u v t =
    omega (
      arith,
      ints,
      sub-mul (u t.1) (u t.0) (v t.2 -ℤ v t.0),
      mul-sub (u t.1) (v t.2) (v t.0),
      mul-sub (u t.0) (v t.2) (v t.0),
      sub-mul (u t.2) (u t.0) (v t.1 -ℤ v t.0),
      mul-sub (u t.2) (v t.1) (v t.0),
      mul-sub (u t.0) (v t.1) (v t.0),
    )

-- the areas of all edges add up to the areas of the triangles
pub areas_of_triangles : (u v : ℕ → ℤ) (ts : List (ℕ × ℕ × ℕ)) → total (along (area_at u v)) (all_edges ts) ≡ total (orientation u v) ts
areas_of_triangles u v ts = total-flat_map (along (area_at u v)) edges ts ∙ total-same (λ t. total (along (area_at u v)) (edges t)) (orientation u v) (area_of_triangle u v) ts

-- triangles with the edges of a chain, up to turned pairs, have its area
pub same_area : (u v : ℕ → ℤ) (ts : List (ℕ × ℕ × ℕ)) (es : List (ℕ × ℕ)) → ((a b : ℕ) → boundary (all_edges ts) a b ≡ boundary es a b) →
    total (orientation u v) ts ≡ total (along (area_at u v)) es
same_area u v ts es same = sym (areas_of_triangles u v ts) ∙ same_boundary (all_edges ts) es same (area_at u v) (area_odd u v)
