use Rattle.std.specs.Prelude.{List, length}
use Rattle.std.proofs.Common.{arith, ap, sym, subst}
use Rattle.mb_base.specs.declared.point.Box3.{Box3}
use Rattle.box_tree.specs.Nodes.{IsTree}
use Rattle.box_tree.proofs.Trees.{as_many}
use Rattle.box_tree.proofs.Starts.{tree_made}
use Rattle.box_tree.proofs.Stored.{boxes_there}
use Rattle.box_tree.proofs.tree.Tree.over.Goals as goal

pub nodes_over-requires : goal.nodes_over-requires
nodes_over-requires g c =
    let same = as_many c.quantization_of-quantization.result.shift (g.B.Boxes.boxes c.args.boxes.now) c.in_ok-entries.entries.items c.in_ok-entries.ensures in
    record { few = omega (arith, same, ap length c.deref.ensures.value, c.requires.few) }

pub invariant_of-result : goal.invariant_of-result
invariant_of-result g c =
    let shift = c.quantization_of-quantization.result.shift in
    let stored = c.in_ok-boxes.boxes.items in
    let entries = c.in_ok-entries.entries.items in
    let nodes = c.in_ok-nodes.nodes.items in
    let T : List Box3 → Type 0 = λ boxes. IsTree shift stored boxes entries nodes in
    subst T (sym (boxes_there shift stored (g.B.Boxes.boxes c.args.boxes.now) entries c.in_ok-entries.ensures c.in_ok-boxes.ensures))
    (tree_made shift stored (g.B.Boxes.boxes c.args.boxes.now) entries c.deref.result.now nodes c.quantization_of-quantization.ensures.small c.requires.boxes
    c.in_ok-entries.ensures c.in_ok-boxes.ensures
    c.deref.ensures.value c.in_ok-nodes.ensures.nodes c.in_ok-nodes.ensures.short c.in_ok-nodes.ensures.root)

pub returns : goal.returns
returns g c =
    boxes_there c.quantization_of-quantization.result.shift c.in_ok-boxes.boxes.items (g.B.Boxes.boxes c.args.boxes.now) c.in_ok-entries.entries.items
    c.in_ok-entries.ensures c.in_ok-boxes.ensures
