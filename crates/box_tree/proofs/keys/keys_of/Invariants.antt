use Rattle.std.specs.Prelude.{◌-◌, ◌≤◌}
use Rattle.std.specs.List.Sorted.{IsPermutation}
use Rattle.chain_terms.specs.Sums.{upto}
use Rattle.box_tree.specs.Keys.{numbers_of_keys}
use Rattle.box_tree.proofs.keys.keys_of.Given as goal

abbrev pub invariant-loop-first : goal.invariant-loop-first
invariant-loop-first g l = record {
  within : l.first ≤ l.count;
  all : IsPermutation (upto l.first) (numbers_of_keys l.count l.keys.runs.items l.keys.singles.items);
}

abbrev pub decreases-loop-first : goal.decreases-loop-first
decreases-loop-first g l = l.count - l.first
