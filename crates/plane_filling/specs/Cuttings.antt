-- Triangles of which none is forced.
use Rattle.std.specs.Prelude.{◌≡◌, ℕ, List, Bool, not, ◌&&◌, ◌==◌}
use Rattle.mesh_terms.specs.Meshes.{triples_of}
use Rattle.ring_cutting.specs.Cuts.{Cut}

-- the ends of an edge differ
abbrev pub differ : (ℕ × ℕ) → Bool
differ e = not (e.0 == e.1)

-- a place that is neither of two
abbrev pub is_other : ℕ → ℕ → ℕ → Bool
is_other a b v = not (v == a) && not (v == b)

-- the triangles of a cutting of which none is forced
pub record AreTriples (c : Cut) (made : List (List ℕ)) : Type 0 where
  pub unforced : c.forced ≡ 0
  pub triples : triples_of made ≡ c.triples
