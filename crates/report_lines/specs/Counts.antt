-- The numbers of an operation that its line tells.
use Rattle.std.specs.Prelude.{[], ◌∷◌}
use Rattle.report_lines.specs.declared.script_report.OperationCounts.{OperationCounts}
use Rattle.report_lines.specs.declared.script_report.OutlineCounts.{OutlineCounts}
use Rattle.play_terms.specs.Combined.{Combined, Combined2}

-- those of what an operation gave
abbrev pub counts_of : Combined → OperationCounts
counts_of o = record { kept = o.p_kept ∷ o.q_kept ∷ []; crossings = o.crossings; forced = o.forced }

abbrev pub counts2_of : Combined2 → OutlineCounts
counts2_of o = record { kept = o.p_kept ∷ o.q_kept ∷ []; crossings = o.crossings }
