-- Tasks: what is to be done over the files as they are when it begins, one task after the other.
use Rattle.std.specs.Prelude.{ℕ, List, [], ◌∷◌, ◌++◌, Result, Ok, Err}
use Rattle.mesh_terms.specs.Faults.{Counted}
use Rattle.run_terms.specs.Files.{Bytes, Files, put}
use Rattle.run_terms.specs.Runs.{Action, Ask, Write, Say}

-- why what is asked for can't be had: the words are of no command; a line of this script is faulty, by the number of its kind; no file has this name;
-- a line of the text of a mesh is faulty; an edge of a mesh has no reverse; the mesh that a line of this script makes is faulty; or so many were counted of
-- what has a lower limit
pub data Refusal : Type 0 where
  NoCommand : Refusal
  FaultyScript : (script : Bytes) → (line kind : ℕ) → Refusal
  NoFile : (name : Bytes) → Refusal
  FaultyText : (name : Bytes) → (line kind : ℕ) → Refusal
  OpenEdge : (name : Bytes) → (from to : ℕ) → Refusal
  FaultyStep : (script : Bytes) → (line kind : ℕ) → Refusal
  PastLimit : (what : Counted) → (seen : ℕ) → Refusal

-- actions, and then a value or a refusal
pub record Part (A : Type 0) : Type 0 where
  pub actions : List Action
  pub result : Result A Refusal

-- a part by the files as they are when it begins
abbrev pub Task : Type 0 → Type 0
Task A = Files → Part A

-- the files after an action
abbrev pub changed : Action → Files → Files
changed (Ask name) files = files
changed (Write name bytes) files = put name bytes files
changed (Say line) files = files

abbrev pub changed_all : List Action → Files → Files
changed_all [] files = files
changed_all (a ∷ xs) files = changed_all xs (changed a files)

-- no action: the value or the refusal stands
abbrev pub give : {A : Type 0} → Result A Refusal → Task A
give result files = record { actions = []; result = result }

-- one action
abbrev pub act : Action → Task (Unit {0})
act a files = record { actions = a ∷ []; result = Ok tt }

-- some actions, and where they gave a value another part
abbrev pub joined : {A B : Type 0} → List Action → Result A Refusal → (A → Part B) → Part B
joined xs (Err why) next = record { actions = xs; result = Err why }
joined xs (Ok a) next = record { actions = xs ++ (next a).actions; result = (next a).result }

-- a task, and where it gave a value another, over the files as they are by then
abbrev pub then_task : {A B : Type 0} → Task A → (A → Task B) → Task B
then_task t next files = joined (t files).actions (t files).result (λ a. next a (changed_all (t files).actions files))
