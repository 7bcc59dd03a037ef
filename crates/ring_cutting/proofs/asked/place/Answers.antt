use Rattle.std.proofs.Common.{◌∙◌}
use Rattle.std.proofs.lemmas.List.{get_or_default}
use Rattle.ring_cutting.specs.Left.{no_place}
use Rattle.ring_cutting.proofs.asked.place.Goals as goal

pub returns : goal.returns
returns c = c.index-places-i.is ∙ get_or_default c.args.places.now c.args.i c.index-places-i.result no_place c.requires
