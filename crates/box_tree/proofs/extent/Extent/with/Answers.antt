use Rattle.std.proofs.Common.{◌∙◌, ap}
use Rattle.std.specs.Prelude.{unsigned_abs}
use Rattle.std.specs.Int.{w64}
use Rattle.std.proofs.lemmas.Int.{to_z-of_z}
use Rattle.box_tree.proofs.Shared.{covered_new, covered_still}
use Rattle.box_tree.proofs.extent.Extent.with.Goals as goal

pub returns-clause-new : goal.returns-clause-new
returns-clause-new c =
    covered_new c.args.self c.unsigned_abs-distance.result c.max.result c.max.ensures c.args.at
    (c.unsigned_abs-distance.ensures.value ∙ ap unsigned_abs (to_z-of_z w64 c.args.at c.ranges.at))

pub returns-clause-others : goal.returns-clause-others
returns-clause-others c = covered_still c.args.self c.unsigned_abs-distance.result c.max.result c.max.ensures
