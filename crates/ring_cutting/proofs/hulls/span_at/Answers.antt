use Rattle.std.proofs.Common.{◌∙◌}
use Rattle.std.proofs.lemmas.List.{get_or_default}
use Rattle.ring_cutting.specs.Spans.{no_span}
use Rattle.ring_cutting.proofs.hulls.span_at.Goals as goal

pub returns : goal.returns
returns c = c.index-spans-node.is ∙ get_or_default c.args.spans.now c.args.node c.index-spans-node.result no_span c.requires
