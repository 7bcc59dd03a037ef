use Rattle.std.proofs.Common.{ℕ, ◌+◌, ◌-◌, ◌*◌, ◌<◌, ◌≤◌, set, sym, subst, arith}
use Rattle.box_tree.specs.declared.nodes.Node.{Node}
use Rattle.box_tree.specs.Nodes.{IsNode}
use Rattle.box_tree.proofs.Halves.{leaf_written, halves_written}
use Rattle.box_tree.proofs.nodes.+write_nodes.Goals as goal

pub returns-then-count-eq1-clause-nodes : goal.returns-then-count-eq1-clause-nodes
returns-then-count-eq1-clause-nodes t c =
    let node : Node = record { bounds = c.bounds_of_block.result; first = c.args.first; count = 1 } in
    let P : ℕ → Type 0 = λ n. (q : ℕ) → c.args.place ≤ q → q + 1 < c.args.place + 2 * n →
    IsNode (c.args.place + 2 * n - 1) (set c.args.nodes.now c.args.place node) c.args.entries.now q in
    subst P (sym c.if-count-eq1.true)
    (leaf_written c.args.nodes.now c.args.entries.now c.args.place c.args.first c.bounds_of_block.result (omega arith) (omega arith) c.bounds_of_block.ensures)

pub returns-clause-nodes : goal.returns-clause-nodes
returns-clause-nodes t c =
    halves_written c.write_nodes.new.nodes c.write_nodes-2.new.nodes c.args.entries.now c.args.place c.args.first c.args.count c.joined-bounds.result (record {
      some = omega arith;
      room = omega (arith, c.write_nodes.auto.nodes, c.write_nodes-2.auto.nodes, c.requires.room);
      within = c.requires.there;
      kept = c.write_nodes-2.ensures.kept;
      left_run = c.write_nodes.ensures.run;
      right_run = c.write_nodes-2.ensures.run;
      left_nodes = c.write_nodes.ensures.nodes;
      right_nodes = c.write_nodes-2.ensures.nodes;
      left_bounds = c.joined-bounds.ensures.first;
      right_bounds = c.joined-bounds.ensures.second;
    })
