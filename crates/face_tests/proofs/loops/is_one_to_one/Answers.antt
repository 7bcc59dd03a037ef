use Rattle.std.proofs.Common.{sym, ◌∙◌}
use Rattle.face_loops.proofs.Tested.{one_to_one}
use Rattle.face_tests.proofs.loops.is_one_to_one.Goals as goal

pub returns : goal.returns
returns c = λ yes. one_to_one c.args.segments.now (sym c.are_once.ensures ∙ yes)
