-- How the task of a row ends: its actions, the status, and the line that tells why.
use Rattle.std.specs.Prelude.{ℕ, List, [], Result, Ok, Err}
use Rattle.text_terms.specs.Written.{line_of}
use Rattle.run_terms.specs.Files.{Bytes}
use Rattle.run_terms.specs.Runs.{Action}
use Rattle.run_terms.specs.Tasks.{Part, Refusal}
use Rattle.play_terms.specs.Ends.{refusal_line, refusal_status}

abbrev end_status : Result (Unit {0}) Refusal → ℕ
end_status (Ok done) = 0
end_status (Err why) = refusal_status why

abbrev end_line : Result (Unit {0}) Refusal → Bytes
end_line (Ok done) = []
end_line (Err why) = refusal_line why

abbrev pub ending : Part (Unit {0}) → List Action × ℕ × Bytes
ending part = (part.actions, end_status part.result, end_line part.result)

-- after these actions, with this status and the line of this text
abbrev pub refused_with : ℕ → List Action → Bytes → List Action × ℕ × Bytes
refused_with status actions text = (actions, status, line_of text)
