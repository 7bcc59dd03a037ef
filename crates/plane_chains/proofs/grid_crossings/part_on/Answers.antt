use Rattle.plane_chains.proofs.PartWays.{none_shown, some_shown}
use Rattle.plane_chains.proofs.grid_crossings.part_on.Goals as goal

pub returns-clause-none : goal.returns-clause-none
returns-clause-none c =
    none_shown c.args.part c.args.whole c.coordinate.result c.coordinate-2.result _ _ c.ranges.part c.ranges.whole (record { sfits = c.coordinate.type_inv })
    (record { sfits = c.coordinate-2.type_inv }) c.coordinate.ensures.value c.coordinate-2.ensures.value c.part_between.result c.part_between.ensures.none

pub returns-clause-some : goal.returns-clause-some
returns-clause-some c =
    some_shown c.args.part c.args.whole c.coordinate.result c.coordinate-2.result _ _ c.ranges.part c.ranges.whole (record { sfits = c.coordinate.type_inv })
    (record { sfits = c.coordinate-2.type_inv }) c.coordinate.ensures.value c.coordinate-2.ensures.value c.part_between.result c.part_between.ensures.some
