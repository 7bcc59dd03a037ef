use Rattle.ring_cutting.proofs.cutting.turns_left.Goals as goal

pub returns : goal.returns
returns c = λ at placed. rw (← c.before-2.ensures.at at placed, ← c.here.ensures.at at placed, ← c.after.ensures.at at placed) c.turns_left.ensures
