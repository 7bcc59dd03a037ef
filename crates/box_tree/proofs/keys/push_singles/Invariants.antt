use Rattle.std.specs.Prelude.{◌≡◌, ◌-◌, ◌≤◌, ◌++◌, length}
use Rattle.chain_terms.specs.Sums.{up_from}
use Rattle.box_tree.specs.Keys.{numbers_of_runs}
use Rattle.box_tree.proofs.keys.push_singles.Given as goal

abbrev pub invariant-loop-number : goal.invariant-loop-number
invariant-loop-number g l = record {
  within : l.number ≤ l.end;
  all : numbers_of_runs (length (g.B.Boxes.boxes l.boxes)) 1 l.singles.items ≡ numbers_of_runs (length (g.B.Boxes.boxes l.boxes)) 1 l.fn.singles.items
      ++ up_from l.first (l.number - l.first);
}
