-- Nodes with the addresses at which they lie, and what it is to own them.
use Rattle.std.specs.Prelude.{◌≡◌, ◌<◌, ℕ, List, [], ◌∷◌, length, map, slice_index_or}
use mir.Syntax.{Ty}
use mir.Raw.{raw}
use base.Fraction.{full_share}
use base.Fml.{Lft, Fml, ftrue, fsep, fex}
use denote.Memory.{lone}
use denote.Sharing.{nothing, beside}
use denote.RawPtr.{Ptr, null_ptr, lies_at}
use denote.Struct.Lending.{lent_at}
use Rattle.std.specs.declared.alloc.Global.{Global}
use Rattle.std.specs.contracts.impls.GlobalAllocator.TheImpl.{ghosts}
use Rattle.loop_ring.specs.declared.nodes.Node.{Node}
use Rattle.loop_ring.specs.contracts.nodes.Node.{the_row}

-- a node and its address
abbrev pub Located : Type 0
Located = Ptr × Node

-- what the nodes of a list hold, and where they lie
abbrev pub addresses : List Located → List Ptr
addresses = map (λ n. n.0)

abbrev pub nexts : List Located → List Ptr
nexts = map (λ n. n.1.next)

abbrev pub prevs : List Located → List Ptr
prevs = map (λ n. n.1.prev)

abbrev pub values : List Located → List ℕ
values = map (λ n. n.1.value)

-- stands where a list has no node
abbrev pub nowhere : Located
nowhere = (null_ptr, record { next = null_ptr; prev = null_ptr; value = 0 })

-- the i-th node, and its address
abbrev pub node_at : List Located → ℕ → Node
node_at ns i = (slice_index_or ns i nowhere).1

abbrev pub address_at : List Located → ℕ → Ptr
address_at ns i = slice_index_or (addresses ns) i null_ptr

-- the address is that of the i-th node
abbrev pub IsAddress : List Located → ℕ → Ptr → Type 0
IsAddress ns i at = (i < length ns) × (at ≡ address_at ns i)

-- a node of the value whose neighbour on both sides is itself
abbrev pub alone : Ptr → ℕ → Located
alone at value = (at, record { next = at; prev = at; value = value })

-- the type of the block in which a node lies
abbrev pub block_type : Ty
block_type = raw (lone (the_row).mir)

-- the right to free the block at an address. Whose handle took the block is left open, since any handle frees it
abbrev pub may_free : Ptr → Fml
may_free at = fex Global (λ a. ghosts.dealloc_token a block_type at)

-- a node is owned with its memory and the right to free it
abbrev pub owns_node : Located → Fml
owns_node n = fsep (lies_at the_row full_share n.0 n.1) (may_free n.0)

abbrev pub owns_nodes : List Located → Fml
owns_nodes [] = ftrue
owns_nodes (n ∷ ns) = fsep (owns_node n) (owns_nodes ns)

-- and read while it is lent
abbrev pub lends_nodes : List Located → Lft → Fml
lends_nodes [] = nothing
lends_nodes (n ∷ ns) = beside (lent_at the_row n.0 n.1) (lends_nodes ns)
