use Rattle.std.proofs.Common.{◌∙◌}
use Rattle.self_cuts.proofs.faces.face_at.Goals as goal

pub returns : goal.returns
returns c = c.face_of.ensures ∙ c.triangle_at.ensures
