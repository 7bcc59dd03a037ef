use Rattle.std.proofs.Common.{subst}
use Rattle.std.specs.List.{All}
use Rattle.mesh_terms.specs.Labels.{IsLabel}
use Rattle.mb_base.proofs.Stored.{all-labels}
use Rattle.mb_base.proofs.labels.stored.StoredLabels.len.Goals as goal

pub returns-clause-labels : goal.returns-clause-labels
returns-clause-labels c = subst (All IsLabel) c.self.view_is (all-labels c.self.inside.bytes.items c.self.inside.starts.items c.self.invariant)
