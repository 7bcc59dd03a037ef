-- How a command ends, as its status and standard error tell.
use Rattle.std.specs.Prelude.{◌≡◌, ℕ, Result}
use Rattle.run_terms.specs.Meets.{Why}
use Rattle.play_terms.specs.Ends.{ended_line, ended_status}
use Rattle.mb_outside.specs.Seen.{OnOutput}
use Rattle.report_lines.specs.Reports.{IsReported}

-- the status is that of this end, and its line was told on standard error
abbrev pub TellsAs : Result (Unit {0}) Why → ℕ → OnOutput → OnOutput → Type 0
TellsAs ended status before now = (status ≡ ended_status ended) × IsReported (ended_line ended) before now
