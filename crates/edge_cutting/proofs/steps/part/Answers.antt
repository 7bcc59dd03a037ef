use Rattle.std.proofs.Common.{◌≡◌, arith}
use Rattle.std.proofs.lemmas.Int.{ints}
use Rattle.edge_cutting.proofs.Parts.{part_of}
use Rattle.edge_cutting.proofs.steps.part.Goals as goal

pub returns-clause-value : goal.returns-clause-value
returns-clause-value c =
    let to : c.from.result ≡ c.args.to = omega (arith, ints, c.from.ensures, c.requires.to) in
    let from : c.from-2.result ≡ c.args.from = omega (arith, ints, c.from-2.ensures, c.requires.from) in
    part_of c.args.from c.args.to c.from-2.result c.from.result c.args.count from to c.requires.from c.requires.to c.requires.some c.requires.few c.requires.whole
