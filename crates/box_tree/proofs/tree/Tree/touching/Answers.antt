use Rattle.std.specs.Prelude.{ℕ, List}
use Rattle.std.specs.List.Sorted.{IsPermutation}
use Rattle.std.proofs.Common.{sym, subst, ◌∙◌}
use Rattle.mb_base.specs.declared.point.Box3.{Box3}
use Rattle.box_tree.specs.declared.nodes.Entry.{Entry}
use Rattle.box_tree.specs.declared.walk.Question.{Question}
use Rattle.box_tree.specs.Touching.{touching_numbers}
use Rattle.box_tree.specs.Nodes.{boxes_stored}
use Rattle.box_tree.proofs.Starts.{IsFirst, tree_seen, walk_begins, walk_gives}
use Rattle.box_tree.proofs.tree.Tree.touching.Goals as goal

pub along-requires : goal.along-requires
along-requires c =
    let tree = tree_seen c.self.inside.shift c.self.inside.boxes.items c.deref.result.now
    (boxes_stored c.self.inside.shift c.self.inside.boxes.items c.self.inside.entries.items) c.self.inside.entries.items c.deref-2.result.now
    c.self.inside.nodes.items c.deref-3.result.now
    c.deref.ensures.value c.deref-2.ensures.value c.deref-3.ensures.value c.self.invariant in
    let F : List Entry → Type 0 = λ entries. IsFirst entries c.args.area c.first_stack.result.items in
    let first = subst F (c.deref-4.ensures.value ∙ sym c.deref-2.ensures.value) (record { some = c.first_stack.ensures.some; none = c.first_stack.ensures.none }) in
    let q : Question = record { boxes = c.deref.result; entries = c.deref-2.result; nodes = c.deref-3.result; area = c.args.area; bounds = c.inside.result } in
    walk_begins c.self.inside.shift (boxes_stored c.self.inside.shift c.self.inside.boxes.items c.self.inside.entries.items) q c.first_stack.result tree first

pub returns : goal.returns
returns c =
    let tree = tree_seen c.self.inside.shift c.self.inside.boxes.items c.deref.result.now
    (boxes_stored c.self.inside.shift c.self.inside.boxes.items c.self.inside.entries.items) c.self.inside.entries.items c.deref-2.result.now
    c.self.inside.nodes.items c.deref-3.result.now
    c.deref.ensures.value c.deref-2.ensures.value c.deref-3.ensures.value c.self.invariant in
    let F : List Entry → Type 0 = λ entries. IsFirst entries c.args.area c.first_stack.result.items in
    let first = subst F (c.deref-4.ensures.value ∙ sym c.deref-2.ensures.value) (record { some = c.first_stack.ensures.some; none = c.first_stack.ensures.none }) in
    let q : Question = record { boxes = c.deref.result; entries = c.deref-2.result; nodes = c.deref-3.result; area = c.args.area; bounds = c.inside.result } in
    let gives = walk_gives c.self.inside.shift (boxes_stored c.self.inside.shift c.self.inside.boxes.items c.self.inside.entries.items) q c.first_stack.result
    tree c.inside.ensures first in
    let B : List Box3 → Type 0 = λ b. IsPermutation (touching_numbers b c.args.area) c.along.result in
    let R : List ℕ → Type 0 = λ l. IsPermutation (touching_numbers (boxes_stored c.self.inside.shift c.self.inside.boxes.items c.self.inside.entries.items) c.args.area) l in
    subst B c.self.view_is (subst R (sym c.along.ensures) gives)
