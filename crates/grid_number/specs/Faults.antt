-- The numbers of the faults of a decimal text.
use Rattle.std.specs.Prelude.{ℕ}
use Rattle.grid_number.specs.declared.read.NumberFault.{NumberFault}
use Rattle.grid_number.specs.declared.read.NumberFault.TheVariants.{NotANumber, OutOfGrid}

abbrev pub fault_number : NumberFault → ℕ
fault_number NotANumber = 1
fault_number OutOfGrid = 2
