use Rattle.report_lines.proofs.tail.step_tail.Goals as goal

pub returns : goal.returns
returns c = rw (c.from.ensures, c.step_kind_text.ensures.text) at c.line_tail.ensures
