use Rattle.std.proofs.Common.{codes}
use Rattle.play_terms.proofs.Suffix.{by_its_end}
use Rattle.play_terms.proofs.names.is_stl_name.Goals as goal

pub returns : goal.returns
returns c = by_its_end (codes ".stl") c.args.name.now c.saturating_sub-start.result c.eq_ignore_ascii_case.result c.saturating_sub-start.ensures c.eq_ignore_ascii_case.ensures.test
