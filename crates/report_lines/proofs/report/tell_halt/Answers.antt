use Rattle.report_lines.proofs.report.tell_halt.Goals as goal

pub returns-in-Reporting : goal.returns-in-Reporting
returns-in-Reporting g c = rw c.in-Reporting.is c.tell.ensures
