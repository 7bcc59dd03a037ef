-- Cut edges while they are gathered.
use Rattle.std.specs.Prelude.{◌≡◌, ◌⊎◌, ℕ, ◌∷◌, ℤ, List, [], get_or, length, map}
use Rattle.std.specs.List.{Contains}
use Rattle.places_by_key.specs.Buckets.{AreEnds, begin_of, parts}
use Rattle.sheet_terms.specs.Cuts.{cuts}
use Rattle.edge_cutting.specs.Cut.{CutEdges}
use Rattle.edge_cutting.specs.declared.pieces.Pieces.{Pieces}

-- the places inside an edge, given as a list of two places
abbrev pub cuts_of : List (List ℤ) → List ℕ → List ℕ
cuts_of points e = cuts points (get_or e 0 0) (get_or e 1 0)

-- the edges, and the places that lie from one end to the next
abbrev pub gathered : Pieces → CutEdges
gathered c = record { edges = c.edges.keys; places = parts c.ends.items c.inside.items }

-- of the edges that were looked at, those are gathered that have places inside them, with these places
pub record AreGathered (points : List (List ℤ)) (seen : List (ℕ × ℕ)) (c : Pieces) : Type 0 where
  pub ends : AreEnds c.ends.items (length c.inside.items)
  pub whole : begin_of c.ends.items (length c.ends.items) ≡ length c.inside.items
  pub places : parts c.ends.items c.inside.items ≡ map (cuts_of points) c.edges.keys
  pub complete : (e : ℕ × ℕ) → Contains seen e → Contains c.edges.keys (e.0 ∷ e.1 ∷ []) ⊎ (cuts points e.0 e.1 ≡ [])
