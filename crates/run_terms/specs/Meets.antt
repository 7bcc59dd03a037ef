-- A call against its task: how it ended, what stands then, and which counts of faults rose.
use Rattle.std.specs.Prelude.{◌≡◌, ℕ, Bool, false, ◌⊎◌, IsTrue, Result, Ok, Err}
use Rattle.run_terms.specs.Files.{Bytes, Grew}
use Rattle.run_terms.specs.Runs.{Ask, Write, Say, World, done_all, StopsAt, StopsBefore}
use Rattle.run_terms.specs.Tasks.{Refusal, Part, Task}

-- why a call stopped: its task refuses, a file could not be read or written, a line could not be said, or memory ran out
pub data Why : Type 0 where
  Refused : (why : Refusal) → Why
  Unread : (name : Bytes) → Why
  Unwritten : (name : Bytes) → Why
  Unsaid : Why
  Starved : Why

-- how often reading failed, a read gave nothing below the stated size, writing failed, and the output failed
pub record Faults : Type 0 where
  pub read : ℕ
  pub short : ℕ
  pub write : ℕ
  pub out : ℕ

-- what is seen of the outside: whether the files are told, the files with the output, and the counts of faults
pub record Seen : Type 0 where
  pub tells : Bool
  pub world : World
  pub faults : Faults

-- every action was done whole, and the task gives this
pub record DoesAll {A : Type 0} (p : Part A) (w v : World) (result : Result A Refusal) : Type 0 where
  pub gives : p.result ≡ result
  pub all_done : v ≡ done_all p.actions w

-- what stands after a part that ended so
abbrev pub Does : {A : Type 0} → Part A → World → World → Result A Why → Type 0
Does p w v (Ok a) = DoesAll p w v (Ok a)
Does p w v (Err (Refused why)) = DoesAll p w v (Err why)
Does p w v (Err (Unread name)) = StopsAt p.actions (Ask name) w v
Does p w v (Err (Unwritten name)) = (bytes : Bytes) × StopsAt p.actions (Write name bytes) w v
Does p w v (Err Unsaid) = (line : Bytes) × StopsAt p.actions (Say line) w v
Does p w v (Err Starved) = StopsBefore p.actions w v

-- the count of read faults rose; or no file is told, and a read gave nothing below the size that was stated
abbrev pub ReadRose : Bool → Faults → Faults → Type 0
ReadRose tells before now =
    (Grew before.read now.read × (now.short ≡ before.short)) ⊎ ((tells ≡ false) × Grew before.short now.short × (now.read ≡ before.read))

-- the count of its kind rose, and no other
abbrev pub Rises : {A : Type 0} → Bool → Faults → Faults → Result A Why → Type 0
Rises tells before now (Ok a) = now ≡ before
Rises tells before now (Err (Refused why)) = now ≡ before
Rises tells before now (Err (Unread name)) = ReadRose tells before now × (now.write ≡ before.write) × (now.out ≡ before.out)
Rises tells before now (Err (Unwritten name)) = Grew before.write now.write × (now.read ≡ before.read) × (now.short ≡ before.short) × (now.out ≡ before.out)
Rises tells before now (Err Unsaid) = Grew before.out now.out × (now.read ≡ before.read) × (now.short ≡ before.short) × (now.write ≡ before.write)
Rises tells before now (Err Starved) = now ≡ before

-- a call ended so, from what was seen before to what is seen now: where the files are told, by its task over them
pub record Meets {A : Type 0} (t : Task A) (before now : Seen) (ended : Result A Why) : Type 0 where
  pub tells : now.tells ≡ before.tells
  pub faults : Rises before.tells before.faults now.faults ended
  pub does : IsTrue before.tells → Does (t before.world.files) before.world now.world ended
