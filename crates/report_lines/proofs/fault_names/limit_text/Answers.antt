use Rattle.std.proofs.Common.{refl}
use Rattle.report_lines.proofs.fault_names.limit_text.Goals as goal

pub returns-in-Halfedges-clause-text : goal.returns-in-Halfedges-clause-text
returns-in-Halfedges-clause-text c = rw c.in-Halfedges.is refl
