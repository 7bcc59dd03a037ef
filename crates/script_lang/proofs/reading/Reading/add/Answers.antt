use Rattle.std.proofs.Common.{◌∙◌, ◌++◌, ◌∷◌, [], map, sym, ap}
use Rattle.play_terms.specs.Steps.{given_kind}
use Rattle.script_lang.specs.Names.{beside}
use Rattle.script_lang.specs.Steps.{line_of}
use Rattle.script_lang.specs.declared.steps.Line.{Line}
use Rattle.script_lang.proofs.Giving.{given_next}
use Rattle.script_lang.proofs.reading.Reading.add.Goals as goal

pub invariant_of-self-2 : goal.invariant_of-self-2
invariant_of-self-2 c w =
    let line : Line = record { line = c.args.number; step = c.args.step } in
    let lines = c.in-Ok.ensures.items ∙ ap (λ ls. ls ++ line ∷ []) c.in_ok-reserve.ensures.items in
    given_next w c.self.inside.lines.items line (beside c.self.inside.names w) (beside c.add_new.new.self w) (c.in_ok-add_new.ensures.added w) (c.self.invariant w)
    ∙ ap (λ ls. given_kind w (map line_of ls)) (sym lines)
