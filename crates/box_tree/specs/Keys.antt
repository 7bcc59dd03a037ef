-- Keys: each stands for a run of boxes whose numbers follow each other.
use Rattle.std.specs.Prelude.{ℕ, ◌-◌, ◌++◌, min, List}
use Rattle.std.specs.List.{flat_map}
use Rattle.chain_terms.specs.Sums.{up_from}
use Rattle.box_tree.specs.declared.TheConstants.{BLOCK}
use Rattle.box_tree.specs.declared.keys.Key.{Key}

-- of n boxes, the numbers of a run from a first one on
abbrev pub numbers_of_run : ℕ → ℕ → ℕ → List ℕ
numbers_of_run n run first = up_from first (min run (n - first))

-- the numbers of the runs of keys, one run after the other
abbrev pub numbers_of_runs : ℕ → ℕ → List Key → List ℕ
numbers_of_runs n run keys = flat_map (λ k. numbers_of_run n run k.first) keys

-- the numbers of the runs, and then those of the single boxes
abbrev pub numbers_of_keys : ℕ → List Key → List Key → List ℕ
numbers_of_keys n runs singles = numbers_of_runs n BLOCK runs ++ numbers_of_runs n 1 singles
