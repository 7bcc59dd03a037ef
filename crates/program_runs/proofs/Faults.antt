-- The counts of faults by the end of a run.
use Rattle.std.proofs.Common.{◌≡◌, ◌<◌, ◌^◌, ◌-◌, ◌⊎◌, ◌∙◌, ◌==◌, ℕ, Bool, IsTrue, if◌then◌else◌, Result, Ok, Err, ap, arith, inl, inr, refl, subst, sym, List}
use Rattle.std.proofs.lemmas.Bool.{cases_eq}
use Rattle.mesh_terms.specs.Limits.{Limits}
use Rattle.mb_outside.specs.Seen.{seen_of}
use Rattle.mb_outside.specs.declared.shelf.Shelf.{Ghosts as OfShelf}
use Rattle.mb_outside.specs.declared.sink.Sink.{Ghosts as OfSink}
use Rattle.play_terms.specs.Program.{play}
use Rattle.run_terms.specs.Files.{Bytes, Grew}
use Rattle.run_terms.specs.Meets.{Faults, Meets, ReadRose, Refused, Rises, Seen, Starved, Unread, Unsaid, Unwritten, Why}
use Rattle.run_terms.specs.Tasks.{Refusal, NoCommand, FaultyScript, NoFile, FaultyText, OpenEdge, FaultyStep, PastLimit, Task}
use Rattle.play_terms.specs.Ends.{ReadFailed, RiseWith, refusal_status, ended_line, ended_status}
use Rattle.play_terms.specs.Lines.{report_fault, write_fault}
use Rattle.program_runs.specs.Statuses.{IsDoneOrStarved, status_number}
use Rattle.program_runs.specs.declared.status.Status.{Status}
use Rattle.program_runs.specs.declared.status.Status.TheVariants as statuses
use Rattle.program_runs.specs.Playing.{IsUntroubled, MeetsAs, RiseOn, RunMeets, meanings}

-- a count below its last value rose
rose : (before now : ℕ) → before < 2 ^ 64 - 1 → Grew before now → before < now
rose before now below grew = omega (arith, below, grew.rose)

read_failed : (tells : Bool) (before now : Faults) → before.read < 2 ^ 64 - 1 → ReadRose tells before now → ReadFailed tells before now
read_failed tells before now below up = elim up [ inl grew ↦ inl (rose before.read now.read below grew.0, grew.1) | inr short ↦ inr short ]

-- no fault was counted, with any status but two
calm : (n : ℕ) (tells : Bool) (before now : Faults) → (n ≡ 6 → ⊥) → (n ≡ 7 → ⊥) → now ≡ before → RiseWith n tells before now
calm n tells before now not_six not_seven same = record { read = λ six. absurd (not_six six); write = λ seven. absurd (not_seven seven); calm = λ _ _. same }

refused_below_six : (why : Refusal) → refusal_status why < 6
refused_below_six NoCommand = omega arith
refused_below_six (FaultyScript script line kind) = omega arith
refused_below_six (NoFile name) = omega arith
refused_below_six (FaultyText name line kind) = omega arith
refused_below_six (OpenEdge name from to) = omega arith
refused_below_six (FaultyStep script line kind) = omega arith
refused_below_six (PastLimit what seen) = omega arith

-- the counts rise with the status
pub rise_with : (ended : Result (Unit {0}) Why) (tells : Bool) (before now : Faults) → before.read < 2 ^ 64 - 1 → before.write < 2 ^ 64 - 1 → before.out < 2 ^ 64 - 1
    → Rises tells before now ended → RiseWith (ended_status ended) tells before now
rise_with (Ok done) tells before now reads writes outs rises = calm 0 tells before now (λ is. cc) (λ is. cc) rises
rise_with (Err (Refused why)) tells before now reads writes outs rises =
    let few = refused_below_six why in
    calm (refusal_status why) tells before now (λ is. omega (arith, few, is)) (λ is. omega (arith, few, is)) rises
rise_with (Err (Unread name)) tells before now reads writes outs rises =
    record { read = λ _. (read_failed tells before now reads rises.0, rises.1, rises.2); write = λ is. absurd cc; calm = λ other _. absurd (other refl) }
rise_with (Err (Unwritten name)) tells before now reads writes outs rises =
    record {
      read = λ is. absurd cc;
      write = λ _. (inl (rose before.write now.write writes rises.0, rises.3), rises.1, rises.2);
      calm = λ _ other. absurd (other refl);
    }
rise_with (Err Unsaid) tells before now reads writes outs rises =
    record {
      read = λ is. absurd cc;
      write = λ _. (inr (rose before.out now.out outs rises.0, rises.3), rises.1, rises.2);
      calm = λ _ other. absurd (other refl);
    }
rise_with (Err Starved) tells before now reads writes outs rises = calm 8 tells before now (λ is. cc) (λ is. cc) rises

-- but with status 7 the faults of the output stand still
pub outs_stay : (n : ℕ) (tells : Bool) (before now : Faults) → RiseWith n tells before now → (n ≡ 7 → ⊥) → now.out ≡ before.out
outs_stay n tells before now rise other = elim (cases_eq n 6) [ inl six ↦ (rise.read six).2 | inr not_six ↦ ap (λ (f : Faults). f.out) (rise.calm not_six other) ]

-- 7 is the number of one status
pub failed_write : (status : Status) → status_number status ≡ 7 → status ≡ statuses.WriteFault
failed_write statuses.Done is = absurd cc
failed_write statuses.Usage is = absurd cc
failed_write statuses.BadScript is = absurd cc
failed_write statuses.MissingFile is = absurd cc
failed_write statuses.BadMesh is = absurd cc
failed_write statuses.Limit is = absurd cc
failed_write statuses.ReadFault is = absurd cc
failed_write statuses.WriteFault is = refl
failed_write statuses.NoMemory is = absurd cc

-- with status 7 the output failed, and the line is that of the report, or it did not, and the line is that of a file
pub blamed : (status : Status) (ended : Result (Unit {0}) Why) (tells : Bool) (before now : Faults) (Told : Bytes → Type 0) → status ≡ statuses.WriteFault
    → status_number status ≡ ended_status ended → Rises tells before now ended → before.out < 2 ^ 64 - 1 → Told (ended_line ended)
    → ((before.out < now.out) × Told report_fault) ⊎ ((now.out ≡ before.out) × ((name : Bytes) × Told (write_fault name)))
blamed status ended tells before now Told is number rises outs told = by ended (ap status_number (sym is) ∙ number) rises told
  where
    by : (ended : Result (Unit {0}) Why) → 7 ≡ ended_status ended → Rises tells before now ended → Told (ended_line ended)
        → ((before.out < now.out) × Told report_fault) ⊎ ((now.out ≡ before.out) × ((name : Bytes) × Told (write_fault name)))
    by (Ok done) is rises told = absurd cc
    by (Err (Refused why)) is rises told = let few = refused_below_six why in absurd (omega (arith, few, is))
    by (Err (Unread name)) is rises told = absurd cc
    by (Err (Unwritten name)) is rises told = inr (rises.3, (name, told))
    by (Err Unsaid) is rises told = inl (rose before.out now.out outs rises.0, told)
    by (Err Starved) is rises told = absurd cc

-- a count that stayed did not rise
stayed : (before now : ℕ) → before < 2 ^ 64 - 1 → now ≡ before → Grew before now → ⊥
stayed before now below same grew = let more = rose before now below grew in omega (arith, more, same)

-- over files that are told, a task that refuses nothing ends well or for want of memory, where no count of faults rose
pub untroubled : (t : Task (Unit {0})) (before now : Seen) (ended : Result (Unit {0}) Why) → Meets t before now ended → IsTrue before.tells → (t before.world.files).result ≡ Ok tt
    → before.faults.read < 2 ^ 64 - 1 → before.faults.write < 2 ^ 64 - 1 → before.faults.out < 2 ^ 64 - 1
    → now.faults.read ≡ before.faults.read → now.faults.write ≡ before.faults.write → now.faults.out ≡ before.faults.out
    → (ended_status ended ≡ 0) ⊎ (ended_status ended ≡ 8)
untroubled t before now (Ok done) met told whole few_reads few_writes few_outs reads writes outs = inl refl
untroubled t before now (Err (Refused why)) met told whole few_reads few_writes few_outs reads writes outs = let gives = (met.does told).gives in absurd cc
untroubled t before now (Err (Unread name)) met told whole few_reads few_writes few_outs reads writes outs =
    elim met.faults.0 [ inl grew ↦ absurd (stayed before.faults.read now.faults.read few_reads reads grew.0) | inr short ↦ let not_told = short.0 in absurd cc ]
untroubled t before now (Err (Unwritten name)) met told whole few_reads few_writes few_outs reads writes outs =
    absurd (stayed before.faults.write now.faults.write few_writes writes met.faults.0)
untroubled t before now (Err Unsaid) met told whole few_reads few_writes few_outs reads writes outs = absurd (stayed before.faults.out now.faults.out few_outs outs met.faults.0)
untroubled t before now (Err Starved) met told whole few_reads few_writes few_outs reads writes outs = inr refl

-- the status of a number
abbrev numbered : ℕ → Status
numbered n =
    if n == 0 then statuses.Done
    else if n == 1 then statuses.Usage
    else if n == 2 then statuses.BadScript
    else if n == 3 then statuses.MissingFile
    else if n == 4 then statuses.BadMesh
    else if n == 5 then statuses.Limit
    else if n == 6 then statuses.ReadFault
    else if n == 7 then statuses.WriteFault
    else statuses.NoMemory

by_number : (status : Status) (n : ℕ) → status_number status ≡ n → status ≡ numbered n
by_number status n is = same status ∙ ap numbered is where
  same : (status : Status) → status ≡ numbered (status_number status)
  same statuses.Done = refl
  same statuses.Usage = refl
  same statuses.BadScript = refl
  same statuses.MissingFile = refl
  same statuses.BadMesh = refl
  same statuses.Limit = refl
  same statuses.ReadFault = refl
  same statuses.WriteFault = refl
  same statuses.NoMemory = refl

-- the status of such an end
pub done_or_starved : (status : Status) (n : ℕ) → status_number status ≡ n → (n ≡ 0) ⊎ (n ≡ 8) → IsDoneOrStarved status
done_or_starved status n is which = elim which [ inl zero ↦ inl (by_number status 0 (is ∙ zero)) | inr eight ↦ inr (by_number status 8 (is ∙ eight)) ]

module _ {S O E : Type 0} (s : OfShelf S) (o : OfSink O) (e : OfSink E) (old new : S × O × E) (reads : s.read_faults old.0 < 2 ^ 64 - 1)
    (writes : s.write_faults old.0 < 2 ^ 64 - 1) (outs : o.faults old.1 < 2 ^ 64 - 1) where
  -- the counts rise with the status of a task that was met
  pub rise_on : (t : Task (Unit {0})) (status : ℕ) → MeetsAs s o e t old new status → RiseOn s o (old.0, old.1) (new.0, new.1) status
  rise_on t status met =
      let before = seen_of s o old.0 old.1 in
      let now = seen_of s o new.0 new.1 in
      let P : ℕ → Type 0 = λ n. RiseWith n (s.tells old.0) before.faults now.faults in
      subst P (sym met.2.0) (rise_with met.0 (s.tells old.0) before.faults now.faults reads writes outs met.1.faults)

  -- what is not troubled ends well, or for want of memory
  pub complete : (limits : Limits) (words : List Bytes) (status : Status) → RunMeets s o e limits words old new (status_number status)
      → IsUntroubled s o limits words (old.0, old.1) (new.0, new.1) → IsDoneOrStarved status
  complete limits words status met calm =
      let before = seen_of s o old.0 old.1 in
      let now = seen_of s o new.0 new.1 in
      done_or_starved status (ended_status met.0) met.2.0
      (untroubled (play meanings limits words) before now met.0 met.1 calm.told calm.whole reads writes outs calm.reads calm.writes calm.outs)
