use Rattle.std.proofs.Common.{◌∙◌}
use Rattle.self_cuts.specs.Faces.{corners, places}
use Rattle.self_cuts.specs.Heights.{over_by}
use Rattle.self_cuts.proofs.beside.is_over.Goals as goal

pub returns : goal.returns
returns c =
    c.is_over_by.ensures ∙ (λ i. over_by (c.requires.a i) (c.requires.b i) (c.requires.c i) (places c.args.t.now) (corners c.args.o.now))
