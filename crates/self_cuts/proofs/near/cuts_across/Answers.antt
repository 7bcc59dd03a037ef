use Rattle.std.proofs.Common.{ap, sym, ◌∙◌}
use Rattle.inspection_laws.specs.Signs.{are_cutting}
use Rattle.inspection_laws.proofs.Beside.{beside_apart}
use Rattle.self_cuts.specs.Faces.{corners, places}
use Rattle.self_cuts.proofs.near.cuts_across.Goals as goal

pub returns-then-is_beside : goal.returns-then-is_beside
returns-then-is_beside c = sym (beside_apart (places c.args.t.now) (corners c.args.o.now) (sym c.if-is_beside.ensures))

pub returns : goal.returns
returns c = c.cuts_face.ensures ∙ ap (λ t. are_cutting t (corners c.args.o.now)) c.face_of.ensures
