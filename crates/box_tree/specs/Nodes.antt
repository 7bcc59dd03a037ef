-- Trees over boxes. The entries lie in blocks; a node stands for a run of blocks and has bounds round their entries. Nodes lie in the
-- order of the walk: after a node of n blocks come the 2 h - 1 nodes of its first h blocks, then those of the others, with h half of n.
use Rattle.std.specs.Prelude.{◌≡◌, ℕ, ◌+◌, ◌-◌, ◌*◌, ◌/◌, ◌^◌, ◌<◌, ◌≤◌, ◌==◌, cond, List, [], ◌∷◌, pos, length, get_or, map, take, drop}
use Rattle.std.specs.List.{All}
use Rattle.std.specs.List.Sorted.{IsPermutation}
use Rattle.mb_base.specs.declared.point.Box3.{Box3}
use Rattle.chain_terms.specs.Sums.{upto}
use Rattle.box_tree.specs.declared.TheConstants.{BLOCK, MOST_BOXES}
use Rattle.box_tree.specs.declared.bounds.Bounds.{Bounds}
use Rattle.box_tree.specs.declared.nodes.Entry.{Entry}
use Rattle.box_tree.specs.declared.nodes.Node.{Node}
use Rattle.box_tree.specs.Coarse.{IsBoundsIn, IsExact, bounds_around, fine_box}
use Rattle.box_tree.specs.Touching.{IsBox, box_at}

-- the bounds of a node that is not there
abbrev pub no_bounds : Bounds
no_bounds = record {
  x = record { low = pos 0; high = pos 0 };
  y = record { low = pos 0; high = pos 0 };
  z = record { low = pos 0; high = pos 0 };
}

-- the node at a place
abbrev pub node_at : List Node → ℕ → Node
node_at nodes place = get_or nodes place (record { bounds = no_bounds; first = 0; count = 0 })

-- the entry at a place that is not there
abbrev pub no_entry : Entry
no_entry = record { bounds = no_bounds; number = 0 }

-- the entries of a run of blocks
abbrev pub run_of : List Entry → ℕ → ℕ → List Entry
run_of entries first count = take (BLOCK * count) (drop (BLOCK * first) entries)

-- the bounds take in those of each entry
abbrev pub IsRound : Bounds → List Entry → Type 0
IsRound bounds entries = All (λ e. IsBoundsIn e.bounds bounds) entries

-- half of a number, rounded up
abbrev pub half : ℕ → ℕ
half n = n - n / 2

-- the node stands for a run of blocks
pub record HasRun (node : Node) (first count : ℕ) : Type 0 where
  pub begins : node.first ≡ first
  pub blocks : node.count ≡ count

-- a node at a place is right: its bounds are round its entries, and after it, before an end, are the nodes of its halves
pub record IsNodeOf (end : ℕ) (nodes : List Node) (entries : List Entry) (place : ℕ) (node : Node) : Type 0 where
  pub some : 0 < node.count
  pub room : place + 2 * node.count ≤ end + 1
  pub within : BLOCK * (node.first + node.count) < length entries + BLOCK
  pub round : IsRound node.bounds (run_of entries node.first node.count)
  pub left : 1 < node.count → HasRun (node_at nodes (place + 1)) node.first (half node.count)
  pub right : 1 < node.count → HasRun (node_at nodes (place + 2 * half node.count)) (node.first + half node.count) (node.count - half node.count)

-- the node that lies there is right
abbrev pub IsNode : ℕ → List Node → List Entry → ℕ → Type 0
IsNode end nodes entries place = IsNodeOf end nodes entries place (node_at nodes place)

-- each node is right
abbrev pub AreNodes : List Node → List Entry → Type 0
AreNodes nodes entries = (place : ℕ) → place < length nodes → IsNode (length nodes) nodes entries place

-- the first node stands for all blocks
pub record IsRoot (nodes : List Node) (entries : List Entry) : Type 0 where
  pub there : 0 < length nodes
  pub first : (node_at nodes 0).first ≡ 0
  pub all : length entries ≤ BLOCK * (node_at nodes 0).count
  pub few : (node_at nodes 0).count < 2 ^ 32

-- the numbers of the entries
abbrev pub numbers_of : List Entry → List ℕ
numbers_of entries = map (λ e. e.number) entries

-- the entry of a number
abbrev pub entry_of : ℕ → List Box3 → ℕ → Entry
entry_of shift boxes k = record { bounds = bounds_around shift (box_at boxes k); number = k }

-- the entries are those of all boxes, in some order
pub record AreEntries (shift : ℕ) (boxes : List Box3) (entries : List Entry) : Type 0 where
  pub few : length boxes ≤ MOST_BOXES
  pub order : IsPermutation (upto (length boxes)) (numbers_of entries)
  pub made : entries ≡ map (entry_of shift boxes) (numbers_of entries)

-- the box of an entry: the one that is stored under its number, or else that of its bounds
abbrev pub stored_box : ℕ → List Box3 → Entry → Box3
stored_box shift stored e = get_or stored e.number (fine_box shift e.bounds)

-- the first entry with a number
abbrev pub entry_numbered : List Entry → ℕ → Entry
entry_numbered [] k = no_entry
entry_numbered (e ∷ es) k = cond (e.number == k) e (entry_numbered es k)

-- the boxes of all entries, by their numbers
abbrev pub boxes_stored : ℕ → List Box3 → List Entry → List Box3
boxes_stored shift stored entries = map (λ k. stored_box shift stored (entry_numbered entries k)) (upto (length entries))

-- the box of a number is stored, or its bounds are the box
pub record IsKept (shift : ℕ) (stored boxes : List Box3) (k : ℕ) : Type 0 where
  pub same : k < length stored → box_at stored k ≡ box_at boxes k
  pub exact : length stored ≤ k → IsExact shift (box_at boxes k)

-- each box is kept
abbrev pub AreKept : ℕ → List Box3 → List Box3 → Type 0
AreKept shift stored boxes = (k : ℕ) → k < length boxes → IsKept shift stored boxes k

-- a tree over the boxes
pub record IsTree (shift : ℕ) (stored boxes : List Box3) (entries : List Entry) (nodes : List Node) : Type 0 where
  pub small : shift < 64
  pub short : length nodes < 2 ^ 32
  pub listed : AreEntries shift boxes entries
  pub solid : All IsBox boxes
  pub kept : AreKept shift stored boxes
  pub right : AreNodes nodes entries
  pub root : 0 < length boxes → IsRoot nodes entries
