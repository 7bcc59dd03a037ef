use Rattle.std.proofs.Common.{◌∙◌}
use Rattle.self_cuts.specs.Faces.{corners, places}
use Rattle.self_cuts.specs.Heights.{under_by}
use Rattle.self_cuts.proofs.beside.is_under.Goals as goal

pub returns : goal.returns
returns c =
    c.is_under_by.ensures ∙ (λ i. under_by (c.requires.a i) (c.requires.b i) (c.requires.c i) (places c.args.t.now) (corners c.args.o.now))
