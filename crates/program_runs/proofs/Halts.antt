-- Where the commands stop, by the status of that.
use Rattle.std.proofs.Common.{◌≡◌, ◌∙◌, ◌==◌, ℕ, if◌then◌else◌, Result, Ok, Err, IfErr, IsTrue, inl, inr, refl, ap, sym}
use Rattle.mesh_files.specs.Reasons.{is_reading_stop, why_of}
use Rattle.mesh_files.specs.declared.stop.Stop.{Stop}
use Rattle.mesh_files.specs.declared.stop.Stop.TheVariants.{Usage, BadScript, BadStep, Missing, BadText, BadEdge, Over, ReadFault, WriteFault, NoMemory}
use Rattle.play_terms.specs.Ends.{ended_status, why_status}
use Rattle.mesh_files.specs.Halts.{IsHaltOfCopy, IsHaltOfInside, IsUnreadAt, halted}
use Rattle.mesh_files.specs.declared.halt.Halt.{Halt}
use Rattle.mesh_files.specs.declared.halt.Halt.TheVariants.{At, Reporting, NoMemory as Starved}
use Rattle.run_terms.specs.Files.{Bytes}
use Rattle.program_runs.specs.Points.{sums_in, sums_of_point}
use Rattle.program_runs.specs.Statuses.{status_number}
use Rattle.program_runs.specs.declared.status.Status.{Status}
use Rattle.program_runs.specs.declared.status.Status.TheVariants as status

-- ---- no command that was read ends as words of no command do

unread_worded : (name : Bytes) (stop : Stop) → IsTrue (is_reading_stop stop) → why_status (why_of name stop) ≡ 1 → ⊥
unread_worded name Usage reads is = cc
unread_worded name (BadScript line kind) reads is = cc
unread_worded name (BadStep line kind) reads is = cc
unread_worded name Missing reads is = cc
unread_worded name (BadText line kind) reads is = cc
unread_worded name (BadEdge from to) reads is = cc
unread_worded name (Over what seen) reads is = cc
unread_worded name ReadFault reads is = cc
unread_worded name WriteFault reads is = cc
unread_worded name NoMemory reads is = cc

-- no copy does
pub copy_worded : (from to : Bytes) (ended : Result (Unit {0}) Halt) → IfErr ended (IsHaltOfCopy from to) → ended_status (halted ended) ≡ 1 → ⊥
copy_worded from to (Ok done) halts is = cc
copy_worded from to (Err (At name stop)) halts is =
    elim halts [
      | inl unread ↦ unread_worded name.now stop unread.1 is
      | inr later ↦ elim later [ inl unwritten ↦ let seven : why_status (why_of name.now stop) ≡ 7 = ap (λ s. why_status (why_of name.now s)) unwritten.1 in cc | inr unsaid ↦ cc ]
    ]
copy_worded from to (Err Reporting) halts is = cc
copy_worded from to (Err Starved) halts is = cc

-- and no search for a winding number
pub inside_worded : (file : Bytes) (ended : Result (Unit {0}) Halt) → IfErr ended (IsHaltOfInside file) → ended_status (halted ended) ≡ 1 → ⊥
inside_worded file (Ok done) halts is = cc
inside_worded file (Err (At name stop)) halts is =
    elim halts [ inl unread ↦ unread_worded name.now stop unread.1 is | inr later ↦ elim later [ inl unsaid ↦ cc | inr starved ↦ cc ] ]
inside_worded file (Err Reporting) halts is = cc
inside_worded file (Err Starved) halts is = cc

-- ---- the sums of a point by its status

abbrev sums_by : ℕ → ℕ
sums_by n = if n == 0 then 1 else if n == 7 then 1 else 0

by_number : (status : Status) → sums_of_point status ≡ sums_by (status_number status)
by_number status.Done = refl
by_number status.Usage = refl
by_number status.BadScript = refl
by_number status.MissingFile = refl
by_number status.BadMesh = refl
by_number status.Limit = refl
by_number status.ReadFault = refl
by_number status.WriteFault = refl
by_number status.NoMemory = refl

unread_sums : (name : Bytes) (stop : Stop) → IsTrue (is_reading_stop stop) → sums_by (why_status (why_of name stop)) ≡ 0
unread_sums name Usage reads = cc
unread_sums name (BadScript line kind) reads = cc
unread_sums name (BadStep line kind) reads = cc
unread_sums name Missing reads = refl
unread_sums name (BadText line kind) reads = refl
unread_sums name (BadEdge from to) reads = refl
unread_sums name (Over what seen) reads = refl
unread_sums name ReadFault reads = refl
unread_sums name WriteFault reads = cc
unread_sums name NoMemory reads = refl

-- where its mesh was not read, no number was found
pub unread_none : (file : Bytes) (halt : Halt) → IsUnreadAt file halt → sums_in (Err halt) ≡ 0
unread_none file (At name stop) unread = refl
unread_none file Reporting unread = absurd unread
unread_none file Starved unread = absurd unread

-- the status tells whether the number was found
pub found_by_status : (file : Bytes) (ended : Result (Unit {0}) Halt) (status : Status) → IfErr ended (IsHaltOfInside file) → status_number status ≡ ended_status (halted ended)
    → sums_in ended ≡ sums_of_point status
found_by_status file (Ok done) status halts is = sym (by_number status ∙ ap sums_by is)
found_by_status file (Err (At name stop)) status halts is = sym (by_number status ∙ ap sums_by is ∙ unread_sums name.now stop reads)
  where
    reads : IsTrue (is_reading_stop stop)
    reads = elim halts [ inl unread ↦ unread.1 | inr later ↦ elim later [ inl unsaid ↦ cc | inr starved ↦ cc ] ]
found_by_status file (Err Reporting) status halts is = sym (by_number status ∙ ap sums_by is)
found_by_status file (Err Starved) status halts is = sym (by_number status ∙ ap sums_by is)
