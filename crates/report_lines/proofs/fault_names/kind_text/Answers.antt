use Rattle.std.proofs.Common.{refl}
use Rattle.report_lines.proofs.fault_names.kind_text.Goals as goal

pub returns-in-BadFace-clause-number : goal.returns-in-BadFace-clause-number
returns-in-BadFace-clause-number c = rw c.in-BadFace.is refl
