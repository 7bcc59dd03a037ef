-- Nodes in a circle.
use Rattle.std.specs.Prelude.{◌≡◌, ◌<◌, List, [], ◌∷◌, length}
use denote.RawPtr.{Ptr}
use Rattle.loop_ring.specs.Located.{Located, addresses, nexts, prevs, address_at}
use Rattle.loop_ring.specs.Turning.{turned_to}

-- the nodes, listed from the one at `first` once round: each points to the next one and to the one before
pub record IsCircle (first : Ptr) (ns : List Located) : Type 0 where
  pub some : 0 < length ns
  pub front : first ≡ address_at ns 0
  pub forward : nexts ns ≡ turned_to 1 (addresses ns)
  pub backward : turned_to 1 (prevs ns) ≡ addresses ns

-- the nodes, listed from the one at an address on, as far as the links are followed
abbrev pub IsChain : Ptr → List Located → Type 0
IsChain at [] = Unit {0}
IsChain at (n ∷ ns) = (at ≡ n.0) × IsChain n.1.next ns
