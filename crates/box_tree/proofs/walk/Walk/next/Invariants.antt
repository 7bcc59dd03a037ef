use Rattle.std.specs.Prelude.{◌≡◌}
use Rattle.box_tree.specs.Walks.{IsWalk, hits_left, hits_waiting, nodes_below}
use Rattle.box_tree.proofs.walk.Walk.next.Given as goal

abbrev pub invariant-loop-place : goal.invariant-loop-place
invariant-loop-place l = record {
  question : l.self.question ≡ l.fn.self.question;
  walk : IsWalk l.self;
  done : l.self.at ≡ l.self.end;
  left : hits_left l.fn.self ≡ hits_waiting l.self.question l.self.stack.items;
}

abbrev pub decreases-loop-place : goal.decreases-loop-place
decreases-loop-place l = nodes_below l.self.question.nodes.now l.self.stack.items
