use Rattle.std.proofs.Common.{rules}
use Rattle.stl_text.proofs.Welding.{two_and}
use Rattle.stl_text.proofs.reading.StlReader.add_number.Goals as goal

pub returns-clause-added : goal.returns-clause-added
returns-clause-added c =
    let numbers = two_and c.self.inside.numbers.items c.args.number (search rules) in
    search (rules, numbers)

pub returns-clause-fault : goal.returns-clause-fault
returns-clause-fault c =
    let numbers = two_and c.self.inside.numbers.items c.args.number (search rules) in
    search (rules, numbers)
