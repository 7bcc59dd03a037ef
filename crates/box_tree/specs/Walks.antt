-- Walks through a tree: what is asked, the nodes that wait on the stack, and the numbers that are still to come.
use Rattle.std.specs.Prelude.{ℕ, ◌-◌, ◌*◌, ◌^◌, ◌<◌, ◌≤◌, Bool, ◌&&◌, ◌||◌, nat_le, List, ◌++◌, length, get_or, slice_range, reverse}
use Rattle.std.specs.List.{filter, flat_map, sum_by}
use Rattle.box_tree.specs.declared.nodes.Entry.{Entry}
use Rattle.box_tree.specs.declared.nodes.Node.{Node}
use Rattle.box_tree.specs.declared.walk.Question.{Question}
use Rattle.box_tree.specs.declared.walk.Walk.{Walk}
use Rattle.box_tree.specs.Coarse.{bounds_meet}
use Rattle.box_tree.specs.Touching.{box_at, touches}
use Rattle.box_tree.specs.Nodes.{AreNodes, node_at, run_of, numbers_of}

-- a question to a tree
pub record IsQuestion (q : Question) : Type 0 where
  pub few : length q.entries.now < 2 ^ 32
  pub short : length q.nodes.now < 2 ^ 32
  pub nodes : AreNodes q.nodes.now q.entries.now

-- the entry's bounds meet those of the area, and its box touches the area where it is stored
abbrev pub is_hit : Question → Entry → Bool
is_hit q e = bounds_meet e.bounds q.bounds && (nat_le (length q.boxes.now) e.number || touches (box_at q.boxes.now e.number) q.area)

-- of the entries, the numbers of the hits
abbrev pub hits : Question → List Entry → List ℕ
hits q entries = numbers_of (filter (is_hit q) entries)

-- the numbers that a node gives
abbrev pub hits_below : Question → ℕ → List ℕ
hits_below q place = hits q (run_of q.entries.now (node_at q.nodes.now place).first (node_at q.nodes.now place).count)

-- the numbers that the nodes on a stack give, the last one first
abbrev pub hits_waiting : Question → List ℕ → List ℕ
hits_waiting q stack = flat_map (hits_below q) (reverse stack)

-- the numbers that are still to come
abbrev pub hits_left : Walk → List ℕ
hits_left w = hits w.question (slice_range w.question.entries.now w.at w.end) ++ hits_waiting w.question w.stack.items

-- nodes wait on the stack, and the one at place i has so few blocks that with each place the count halves
pub record IsStack (nodes : List Node) (stack : List ℕ) : Type 0 where
  pub there : (i : ℕ) → i < length stack → get_or stack i 0 < length nodes
  pub small : (i : ℕ) → i < length stack → ((node_at nodes (get_or stack i 0)).count - 1) * 2 ^ i < 2 ^ 32

-- a walk on its way
pub record IsWalk (w : Walk) : Type 0 where
  pub question : IsQuestion w.question
  pub begins : w.at ≤ w.end
  pub ends : w.end ≤ length w.question.entries.now
  pub stack : IsStack w.question.nodes.now w.stack.items

-- how many nodes are below those on the stack, with themselves
abbrev pub nodes_below : List Node → List ℕ → ℕ
nodes_below nodes stack = sum_by (λ place. 2 * (node_at nodes place).count - 1) stack
