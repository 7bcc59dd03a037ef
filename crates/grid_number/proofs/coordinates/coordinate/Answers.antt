use Rattle.std.proofs.Common.{◌≡◌, ℤ, Bool, Option, Some, None, Ok, Err, if◌then◌else◌, ap}
use Rattle.grid_number.specs.Reading.{IsOffGrid}
use Rattle.text_terms.specs.Coordinates.{on_grid}
use Rattle.text_terms.specs.Numbers.{grid_number}
use Rattle.grid_number.proofs.coordinates.coordinate.Goals as goal

-- a number off the grid is refused as such
off_grid : (number : Option ℤ) → IsOffGrid number → on_grid number ≡ Err 4
off_grid None none = absurd none
off_grid (Some z) off = ap (λ (b : Bool). if b then Ok z else Err 4) off

pub returns-in-Err-OutOfGrid-clause-fault : goal.returns-in-Err-OutOfGrid-clause-fault
returns-in-Err-OutOfGrid-clause-fault c = off_grid (grid_number c.args.digits c.args.word.now) (c.in-Err-OutOfGrid.ensures.out_of_grid.0 (ap Err c.in-Err-OutOfGrid.field-0-is))
