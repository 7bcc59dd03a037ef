use Rattle.obj_text.proofs.reading.Gathered.read_plain.Goals as goal

pub returns-then-branch : goal.returns-then-branch
returns-then-branch c = rw c.if-branch.true at c.in_ok-read_plain_face.ensures c.args.digits
