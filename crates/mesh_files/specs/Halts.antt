-- Where a command stopped.
use Rattle.std.specs.Prelude.{◌≡◌, ◌⊎◌, Bool, true, false, IsTrue, Result, Ok, Err}
use Rattle.run_terms.specs.Files.{Bytes}
use Rattle.run_terms.specs.Meets.{Why, Unsaid, Starved}
use Rattle.mesh_files.specs.Reasons.{is_reading_stop, why_of}
use Rattle.mesh_files.specs.declared.stop.Stop.TheVariants.{WriteFault}
use Rattle.mesh_files.specs.declared.halt.Halt.{Halt}
use Rattle.mesh_files.specs.declared.halt.Halt.TheVariants.{At, Reporting, NoMemory}

-- why a command that stopped there did
abbrev pub why_in : Halt → Why
why_in (At name stop) = why_of name.now stop
why_in Reporting = Unsaid
why_in NoMemory = Starved

-- at the file of this name, as a mesh was read of it
abbrev pub IsUnreadAt : Bytes → Halt → Type 0
IsUnreadAt file (At name stop) = (name.now ≡ file) × IsTrue (is_reading_stop stop)
IsUnreadAt file Reporting = ⊥
IsUnreadAt file NoMemory = ⊥

-- at the file of this name, as it was written
abbrev pub IsUnwrittenAt : Bytes → Halt → Type 0
IsUnwrittenAt file (At name stop) = (name.now ≡ file) × (stop ≡ WriteFault)
IsUnwrittenAt file Reporting = ⊥
IsUnwrittenAt file NoMemory = ⊥

-- where a copy may stop: at the file it reads, at the file it writes, or as it reports
abbrev pub IsHaltOfCopy : Bytes → Bytes → Halt → Type 0
IsHaltOfCopy from to halt = IsUnreadAt from halt ⊎ (IsUnwrittenAt to halt ⊎ (halt ≡ Reporting))

-- where the search for a winding number may stop: at the file it reads, as it reports, or for want of memory
abbrev pub IsHaltOfInside : Bytes → Halt → Type 0
IsHaltOfInside file halt = IsUnreadAt file halt ⊎ ((halt ≡ Reporting) ⊎ (halt ≡ NoMemory))

-- a line could not be said
abbrev pub is_unsaid : Halt → Bool
is_unsaid Reporting = true
is_unsaid _ = false

-- how a command ended, where its value counts as this
abbrev pub halted_by : {T A : Type 0} → (T → A) → Result T Halt → Result A Why
halted_by value (Ok x) = Ok (value x)
halted_by value (Err halt) = Err (why_in halt)

-- how a command without a value ended
abbrev pub halted : Result (Unit {0}) Halt → Result (Unit {0}) Why
halted result = halted_by (λ done. done) result
