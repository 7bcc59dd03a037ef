use Rattle.std.proofs.Common.{pos, int_lt, FitsSigned, rules, ap, sym, ◌∙◌}
use Rattle.std.specs.Int.{w128}
use Rattle.std.proofs.lemmas.Int.{to_z-of_z}
use Rattle.lean.specs.Leans.{is_up}
use Rattle.lean.proofs.marks.is_up.Goals as goal

pub returns-in-Union : goal.returns-in-Union
returns-in-Union c =
    let fits : FitsSigned w128 c.args.sum = search rules in
    ap (int_lt (pos 0)) (to_z-of_z w128 c.args.sum fits) ∙ ap (λ op. is_up op c.args.sum) (sym c.in-Union.is)
