use Rattle.std.proofs.Common.{sym, subst}
use Rattle.mesh_terms.specs.Labels.{IsLabel}
use Rattle.format_laws.proofs.LabelWords.{IsLabel-read}
use Rattle.obj_text.proofs.groups.Groups.set.Goals as goal

pub invariant_of-self : goal.invariant_of-self
invariant_of-self c = subst IsLabel (sym c.label_of-self-inside.ensures) (IsLabel-read c.args.words c.are_read.ensures)
