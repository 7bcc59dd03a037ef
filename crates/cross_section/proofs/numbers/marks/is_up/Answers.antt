use Rattle.std.proofs.Common.{pos, int_lt, FitsSigned, rules, ap, sym, ◌∙◌}
use Rattle.std.specs.Int.{w64}
use Rattle.std.proofs.lemmas.Int.{to_z-of_z}
use Rattle.outline_terms.specs.Outlines.{is_up}
use Rattle.cross_section.proofs.numbers.marks.is_up.Goals as goal

pub returns-in-Union : goal.returns-in-Union
returns-in-Union c =
    let fits : FitsSigned w64 c.args.right = search rules in
    ap (int_lt (pos 0)) (to_z-of_z w64 c.args.right fits) ∙ ap (λ op. is_up op c.args.right) (sym c.in-Union.is)
