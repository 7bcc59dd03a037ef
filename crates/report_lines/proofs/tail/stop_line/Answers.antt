use Rattle.std.proofs.Common.{◌≡◌, ◌++◌, ◌∙◌, [], ◌∷◌, ap, append_assoc, codes, refl, sym}
use Rattle.std.specs.Fmt.{decimal}
use Rattle.play_terms.specs.ScriptLines.{step_kind_name}
use Rattle.run_terms.specs.Files.{Bytes}
use Rattle.report_lines.proofs.tail.stop_line.Goals as goal

pub returns-in-Missing : goal.returns-in-Missing
returns-in-Missing c =
    rw (c.in-Missing.is, c.as_bytes-name.ensures.value, c.plain_tail-in-Missing.ensures) (sym (append_assoc c.args.name.now (codes ": missing") (10 ∷ [])))

pub returns-in-ReadFault : goal.returns-in-ReadFault
returns-in-ReadFault c =
    rw (c.in-ReadFault.is, c.as_bytes-name.ensures.value, c.plain_tail-in-ReadFault.ensures) (sym (append_assoc c.args.name.now (codes ": read fault") (10 ∷ [])))

pub returns-in-WriteFault : goal.returns-in-WriteFault
returns-in-WriteFault c =
    rw (c.in-WriteFault.is, c.as_bytes-name.ensures.value, c.plain_tail-in-WriteFault.ensures) (sym (append_assoc c.args.name.now (codes ": write fault") (10 ∷ [])))

-- one text more, behind a name
more : (name text next line : Bytes) → line ≡ name ++ text → line ++ next ≡ name ++ (text ++ next)
more name text next line is = ap (λ l. l ++ next) is ∙ append_assoc name text next

-- seven texts behind a name
behind : (name a b c d e f g : Bytes) → name ++ (a ++ b ++ c ++ d ++ e ++ f ++ g) ≡ name ++ a ++ b ++ c ++ d ++ e ++ f ++ g
behind name a b c d e f g = sym (more name _ g _ (more name _ f _ (more name _ e _ (more name _ d _ (more name _ c _ (more name a b _ refl))))))

pub returns-in-BadStep : goal.returns-in-BadStep
returns-in-BadStep c =
    rw (c.in-BadStep.is, c.as_bytes-name.ensures.value, c.step_tail.ensures)
    (behind c.args.name.now (codes ":") (decimal c.in-BadStep.line) (codes ": ") (decimal c.in-BadStep.kind) (codes " ") (step_kind_name c.in-BadStep.kind) (codes "\n"))
