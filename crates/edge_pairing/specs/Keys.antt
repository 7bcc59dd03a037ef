-- Vertices with how far along a direction they lie.
use Rattle.std.specs.Prelude.{ℕ, ℤ, List}
use Rattle.edge_pairing.specs.declared.pairs.Keyed.{Keyed}
use Rattle.chain_laws.specs.Sorting.{sorted_by}
use Rattle.edge_pairing.specs.Pairing.{scalar_product, comes_before}

-- the vertex with its key
abbrev pub keyed_by : (ℕ → ℤ) → ℕ → Keyed
keyed_by key v = record { key = key v; vertex = v }

-- how far along a direction a vertex lies
abbrev pub key_along : List ℤ → (ℕ → List ℤ) → ℕ → ℤ
key_along d place v = scalar_product d (place v)

-- vertices in the order in which they lie along a direction
abbrev pub sorted_along : List ℤ → (ℕ → List ℤ) → List ℕ → List ℕ
sorted_along d place vs = sorted_by (comes_before (key_along d place)) vs
