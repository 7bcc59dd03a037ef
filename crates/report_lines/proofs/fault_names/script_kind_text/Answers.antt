use Rattle.std.proofs.Common.{refl}
use Rattle.report_lines.proofs.fault_names.script_kind_text.Goals as goal

pub returns-in-20-clause-text : goal.returns-in-20-clause-text
returns-in-20-clause-text c = rw c.in-20.is refl
