-- Chains with the pairs of their edges that cross.
use Rattle.std.specs.Prelude.{◌≡◌, ℕ, ◌<◌, ◌≤◌, ◌^◌, List, Bool, length, map}
use Rattle.std.specs.List.{All}
use Rattle.box_tree.specs.declared.TheConstants.{MOST_BOXES}
use Rattle.face_plane.specs.Planes.{Plane}
use Rattle.plane_chains.specs.declared.telling.Web.{Web}
use Rattle.plane_chains.specs.EdgeBoxes.{pair_of}
use Rattle.plane_chains.specs.Nets.{IsStored}
use Rattle.plane_chains.specs.Pairs.{crossing_pairs}
use Rattle.plane_chains.specs.Sizes.{sizes}
use Rattle.plane_chains.specs.Ways.{way_chain, ways_of}

-- the chain of the rims that have a mark, and the pairs of its edges that cross; there are not too many, and their numbers are not too great
pub record IsWeb (at : Plane) (rims : List (List ℕ)) (labels : List ℕ) (marks : List Bool) (web : Web) : Type 0 where
  pub chain : (n : ℕ) → All (λ l. l < n) labels → IsStored (way_chain n (ways_of rims labels marks)) web.chain.edges.items web.chain.nets.0
  pub pairs : map pair_of web.pairs.items ≡ crossing_pairs at (map pair_of web.chain.edges.items)
  pub few : length web.chain.edges.items ≤ MOST_BOXES
  pub small : sizes web.chain.nets.0 ≤ 2 ^ 31
