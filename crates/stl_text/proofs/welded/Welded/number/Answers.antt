use Rattle.std.proofs.Common.{◌≡◌, ◌+◌, rules, arith, nat_lt, false}
use Rattle.std.proofs.lemmas.Bool.Decides.{nat_tests}
use Rattle.stl_text.proofs.Welding.{welded_new}
use Rattle.stl_text.proofs.welded.Welded.number.Goals as goal

pub returns-clause-number : goal.returns-clause-number
returns-clause-number c =
    let few : nat_lt c.args.limits.now.points (c.len-number.result + 1) ≡ false = grind (arith, nat_tests, c.if-seen-from.false, c.from.ensures, c.points.ensures.value) in
    welded_new c.args.limits.now c.args.self.now c.insert.new.self.keys c.args.point c.len-number.result
    (search rules) (search rules) few (search rules)
