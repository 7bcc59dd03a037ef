-- How a run ends: the status, the line that tells it, and the counts of faults.
use Rattle.std.specs.Prelude.{◌≡◌, ◌<◌, ℕ, [], Bool, false, ◌⊎◌, Result, Ok, Err}
use Rattle.run_terms.specs.Files.{Bytes, Grew}
use Rattle.run_terms.specs.Tasks.{Refusal, NoCommand, FaultyScript, NoFile, FaultyText, OpenEdge, FaultyStep, PastLimit}
use Rattle.run_terms.specs.Meets.{Why, Refused, Unread, Unwritten, Unsaid, Starved, Faults}
use Rattle.play_terms.specs.Lines.{usage, missing, faulty_line, kind_name, open_edge, over, read_fault, write_fault, report_fault, no_memory}
use Rattle.play_terms.specs.ScriptLines.{script_kind_name, step_kind_name}

abbrev pub refusal_status : Refusal → ℕ
refusal_status NoCommand = 1
refusal_status (FaultyScript script line kind) = 2
refusal_status (NoFile name) = 3
refusal_status (FaultyText name line kind) = 4
refusal_status (OpenEdge name from to) = 4
refusal_status (FaultyStep script line kind) = 4
refusal_status (PastLimit what seen) = 5

abbrev pub refusal_line : Refusal → Bytes
refusal_line NoCommand = usage
refusal_line (FaultyScript script line kind) = faulty_line script line kind (script_kind_name kind)
refusal_line (NoFile name) = missing name
refusal_line (FaultyText name line kind) = faulty_line name line kind (kind_name kind)
refusal_line (OpenEdge name from to) = open_edge name from to
refusal_line (FaultyStep script line kind) = faulty_line script line kind (step_kind_name kind)
refusal_line (PastLimit what seen) = over what seen

abbrev pub why_status : Why → ℕ
why_status (Refused why) = refusal_status why
why_status (Unread name) = 6
why_status (Unwritten name) = 7
why_status Unsaid = 7
why_status Starved = 8

abbrev pub why_line : Why → Bytes
why_line (Refused why) = refusal_line why
why_line (Unread name) = read_fault name
why_line (Unwritten name) = write_fault name
why_line Unsaid = report_fault
why_line Starved = no_memory

-- the status of a run that ended so; 0 where all was done
abbrev pub ended_status : {A : Type 0} → Result A Why → ℕ
ended_status (Ok a) = 0
ended_status (Err why) = why_status why

-- the line that tells it; none where all was done
abbrev pub ended_line : {A : Type 0} → Result A Why → Bytes
ended_line (Ok a) = []
ended_line (Err why) = why_line why

-- reading failed; or no file is told, and a read gave nothing below the size that was stated
abbrev pub ReadFailed : Bool → Faults → Faults → Type 0
ReadFailed tells before now =
    ((before.read < now.read) × (now.short ≡ before.short)) ⊎ ((tells ≡ false) × Grew before.short now.short × (now.read ≡ before.read))

-- writing a file failed, or the output did
abbrev pub WriteFailed : Faults → Faults → Type 0
WriteFailed before now = ((before.write < now.write) × (now.out ≡ before.out)) ⊎ ((before.out < now.out) × (now.write ≡ before.write))

-- the counts rise with statuses 6 and 7 alone, those of reading with 6, those of writing with 7
pub record RiseWith (status : ℕ) (tells : Bool) (before now : Faults) : Type 0 where
  pub read : status ≡ 6 → ReadFailed tells before now × (now.write ≡ before.write) × (now.out ≡ before.out)
  pub write : status ≡ 7 → WriteFailed before now × (now.read ≡ before.read) × (now.short ≡ before.short)
  pub calm : (status ≡ 6 → ⊥) → (status ≡ 7 → ⊥) → now ≡ before
