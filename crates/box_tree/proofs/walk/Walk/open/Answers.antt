use Rattle.std.specs.Prelude.{◌≡◌, ℕ, List, ◌++◌, ◌∷◌, [], ◌+◌, ◌-◌, ◌*◌, ◌^◌, ◌<◌, ◌≤◌, length, slice_range}
use Rattle.std.proofs.Common.{arith, ap, sym, subst, refl, ◌∙◌}
use Rattle.std.proofs.lemmas.List.{length_push}
use Rattle.box_tree.specs.declared.nodes.Node.{Node}
use Rattle.box_tree.specs.declared.nodes.Entry.{Entry}
use Rattle.box_tree.specs.declared.walk.Question.{Question}
use Rattle.box_tree.specs.Nodes.{node_at, run_of, half, IsNode}
use Rattle.box_tree.specs.Walks.{IsStack, hits, hits_below, hits_waiting, hits_left}
use Rattle.box_tree.proofs.Hits.{hits_pruned, waiting_halves}
use Rattle.box_tree.proofs.Runs.{range_none}
use Rattle.box_tree.proofs.Stacks.{IsSmall, stack_push, fewer_small, halved_small, small_depth}
use Rattle.box_tree.proofs.walk.Walk.open.Goals as goal

pub returns-then-not-meets-clause-hits : goal.returns-then-not-meets-clause-hits
returns-then-not-meets-clause-hits c =
    let q = c.args.self.now.question in
    let node = node_at q.nodes.now c.args.place in
    let none = hits_pruned q node.bounds (run_of q.entries.now node.first node.count) (c.requires.walk.question.nodes c.args.place c.requires.there).round
    (sym c.meets.ensures ∙ c.if-not-meets.true) in
    sym (ap (λ xs. xs ++ hits_left c.args.self.now) none)

-- the first half, below the stack's top, and the other half on a stack
pub halves_waiting : (nodes : List Node) (entries : List Entry) (stack one two : List ℕ) (place : ℕ) → IsNode (length nodes) nodes entries place → 1 < (node_at nodes place).count →
    IsSmall nodes place (length stack) → IsStack nodes stack → one ≡ stack ++ (place + 2 * half (node_at nodes place).count) ∷ [] →
    two ≡ one ++ (place + 1) ∷ [] → IsStack nodes two
halves_waiting nodes entries stack one two place node more small waiting e f =
    let count = (node_at nodes place).count in
    let right = place + 2 * half count in
    let depth = length stack in
    let room : place + 2 * count ≤ length nodes + 1 = node.room in
    let S : List ℕ → Type 0 = λ xs. IsStack nodes xs in
    let C : ℕ → Type 0 = λ n. (n - 1) * 2 ^ depth < 2 ^ 32 in
    let D : ℕ → Type 0 = λ n. (n - 1) * 2 ^ (depth + 1) < 2 ^ 32 in
    let L : ℕ → Type 0 = λ d. IsSmall nodes (place + 1) d in
    let long : depth + 1 ≡ length one = sym (length_push stack right) ∙ ap length (sym e) in
    let small_right : IsSmall nodes right depth = subst C (sym (node.right more).blocks) (fewer_small count (count - half count) depth (omega arith) small) in
    let small_left : IsSmall nodes (place + 1) (depth + 1) = subst D (sym (node.left more).blocks) (halved_small count (half count) depth (omega arith) small) in
    let first : IsStack nodes one = subst S (sym e) (stack_push nodes stack right waiting (omega (arith, more, room)) small_right) in
    subst S (sym f) (stack_push nodes one (place + 1) first (omega (arith, more, room)) (subst L long small_left))

-- what is at hand and what waits, once the halves are on the stack
pub halves_give : (q : Question) (stack one two : List ℕ) (place at end : ℕ) → IsNode (length q.nodes.now) q.nodes.now q.entries.now place →
    1 < (node_at q.nodes.now place).count → at ≡ end →
    one ≡ stack ++ (place + 2 * half (node_at q.nodes.now place).count) ∷ [] → two ≡ one ++ (place + 1) ∷ [] →
    hits q (slice_range q.entries.now at end) ++ hits_waiting q two ≡ hits_below q place ++ (hits q (slice_range q.entries.now at end) ++ hits_waiting q stack)
halves_give q stack one two place at end node more done e f =
    let here = slice_range q.entries.now at end in
    let nothing : hits q here ≡ [] = ap (hits q) (ap (λ n. slice_range q.entries.now at n) (sym done) ∙ range_none q.entries.now at) in
    ap (λ xs. xs ++ hits_waiting q two) nothing
    ∙ waiting_halves q stack two place (place + 1) (place + 2 * half (node_at q.nodes.now place).count) node more refl refl (f ∙ ap (λ xs. xs ++ (place + 1) ∷ []) e)
    ∙ ap (λ xs. hits_below q place ++ (xs ++ hits_waiting q stack)) (sym nothing)

pub push-requires : goal.push-requires
push-requires c =
    let node = c.requires.walk.question.nodes c.args.place c.requires.there in
    let low = small_depth (node_at c.args.self.now.question.nodes.now c.args.place).count (length c.args.self.now.stack.items)
    (omega (arith, node.some, c.if-node-eq1.false)) c.requires.small in
    (omega arith, omega (arith, low))

pub push-requires-2 : goal.push-requires-2
push-requires-2 c =
    let node = c.requires.walk.question.nodes c.args.place c.requires.there in
    let low = small_depth (node_at c.args.self.now.question.nodes.now c.args.place).count (length c.args.self.now.stack.items)
    (omega (arith, node.some, c.if-node-eq1.false)) c.requires.small in
    (omega arith, omega (arith, low, c.push.ensures.len))

pub returns-clause-walk : goal.returns-clause-walk
returns-clause-walk c =
    let node = c.requires.walk.question.nodes c.args.place c.requires.there in
    record {
      question = c.requires.walk.question;
      begins = c.requires.walk.begins;
      ends = c.requires.walk.ends;
      stack = halves_waiting c.args.self.now.question.nodes.now c.args.self.now.question.entries.now c.args.self.now.stack.items c.push.new.self.items
          c.push-2.new.self.items c.args.place node
          (omega (arith, node.some, c.if-node-eq1.false)) c.requires.small c.requires.walk.stack c.push.ensures.items c.push-2.ensures.items;
    }

pub returns-clause-hits : goal.returns-clause-hits
returns-clause-hits c =
    let node = c.requires.walk.question.nodes c.args.place c.requires.there in
    halves_give c.args.self.now.question c.args.self.now.stack.items c.push.new.self.items c.push-2.new.self.items c.args.place c.args.self.now.at c.args.self.now.end node
    (omega (arith, node.some, c.if-node-eq1.false)) c.requires.done c.push.ensures.items c.push-2.ensures.items
