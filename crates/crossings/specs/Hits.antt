-- Hits: the edges of one side against the faces of another, and where their numbers of crossings are not 0.
use Rattle.std.specs.Prelude.{ℕ, Option, None, Some, List, length, filter, nat_lt}
use Rattle.std.specs.List.{filter_map, flat_map}
use Rattle.chain_terms.specs.Chains.{all_edges}
use Rattle.chain_terms.specs.Ranks.{twin}
use Rattle.chain_terms.specs.Sums.{upto}
use Rattle.mb_base.specs.declared.point.Corner.{Corner}
use Rattle.mb_base.specs.declared.results.Hit.{Hit}
use Rattle.edge_face.specs.declared.Cross.{Cross}
use Rattle.side_terms.specs.Hits.{lower_halves}
use Rattle.side_terms.specs.Sides.{Side, edge_at, face_at}

-- what is answered for the corners of an edge and of a face
abbrev pub CrossingTest : Type 0
CrossingTest = List Corner → List Corner → Option Cross

-- the hit of an edge and a face; none where there is no answer
abbrev pub hit_of : ℕ → ℕ → Option Cross → Option Hit
hit_of e f None = None
hit_of e f (Some c) = Some (record { edge = e; face = f; number = c.number; at = c.at })

-- the hits of one half-edge, ascending by face
abbrev pub hits_along : CrossingTest → Side → Side → ℕ → List Hit
hits_along test edges faces h = filter_map (λ f. hit_of h f (test (edge_at edges h) (face_at faces f))) (upto (length faces.triples))

-- the hits of the first n half-edges
abbrev pub hits_before : CrossingTest → Side → Side → ℕ → List Hit
hits_before test edges faces n = flat_map (hits_along test edges faces) (filter (λ h. nat_lt h (twin (all_edges edges.triples) h)) (upto n))

-- all hits, ascending by edge, then face
abbrev pub hits_of : CrossingTest → Side → Side → List Hit
hits_of test edges faces = flat_map (hits_along test edges faces) (lower_halves (all_edges edges.triples))
