use Rattle.crossings.proofs.pairs.PEdgesEdgeFace.crossing.Goals as goal

pub returns : goal.returns
returns g c = c.cross.ensures
