-- The commands by their stages, each of which met its task.
use Rattle.std.proofs.Common.{◌≡◌, ◌∙◌, ◌⊎◌, ℕ, ℤ, List, Result, Ok, Err, IfErr, ap, inr}
use Rattle.std.proofs.lemmas.Result.{err_from_is_err_and}
use Rattle.std.specs.Result.{IsErrAnd}
use Rattle.mesh_terms.specs.Limits.{Limits}
use Rattle.mesh_terms.specs.Meshes.{Soup}
use Rattle.run_terms.specs.Files.{Bytes}
use Rattle.run_terms.specs.Meets.{Why, Meets}
use Rattle.play_laws.proofs.Tasks.{meets_then, meets_stop}
use Rattle.play_terms.specs.Commands.{Meanings, ask_mesh, copied_task, copy_task, inside_task, say_line, winding_task, write_mesh}
use Rattle.play_terms.specs.Lines.{copied_line}
use Rattle.mesh_files.specs.Halts.{IsHaltOfCopy, IsHaltOfInside, IsUnwrittenAt}
use Rattle.mesh_files.specs.declared.halt.Halt.{Halt}
use Rattle.mesh_files.specs.declared.halt.Halt.TheVariants.{NoMemory, Reporting}
use Rattle.mb_outside.specs.Seen.{OnShelf, OnOutput, ShelfMeets, OutputMeets, seen}

-- a stop that is handed on is the same stop
pub handed_on : {T E : Type 0} (ended : Result T E) (stop : E) → IsErrAnd ended (λ given. given ≡ stop) → ended ≡ Err stop
handed_on ended stop on = let p = err_from_is_err_and ended on in p.1 ∙ ap Err p.2

-- the file of a copy was not read
pub copy_unread : (k : ℕ) (limits : Limits) (from to : Bytes) (before now : OnShelf) (out : OnOutput) (why : Why)
    → ShelfMeets (ask_mesh k limits from) before now (Err why)
    → Meets (copy_task k limits from to) (seen before out.told out.faults) (seen now out.told out.faults) (Err why)
copy_unread k limits from to before now out why ask =
    meets_stop (ask_mesh k limits from) (copied_task k to) why (seen before out.told out.faults) (seen now out.told out.faults) (ask out.told out.faults)

-- the copy was not written
pub copy_unwritten : (k : ℕ) (to : Bytes) (m : Soup) (before now : OnShelf) (out : OnOutput) (why : Why)
    → ShelfMeets (write_mesh k to m.points m.triples m.labels) before now (Err why)
    → Meets (copied_task k to m) (seen before out.told out.faults) (seen now out.told out.faults) (Err why)
copy_unwritten k to m before now out why write =
    let first = seen before out.told out.faults in
    let last = seen now out.told out.faults in
    meets_stop (write_mesh k to m.points m.triples m.labels) (λ _. say_line (copied_line to m)) why first last (write out.told out.faults)

-- the copy was written, and was told or not
pub copy_told : (k : ℕ) (to : Bytes) (m : Soup) (before now : OnShelf) (out told : OnOutput) (r : Result (Unit {0}) Why)
    → ShelfMeets (write_mesh k to m.points m.triples m.labels) before now (Ok tt) → OutputMeets (say_line (copied_line to m)) out told r
    → Meets (copied_task k to m) (seen before out.told out.faults) (seen now told.told told.faults) r
copy_told k to m before now out told r write line =
    let first = seen before out.told out.faults in
    let second = seen now out.told out.faults in
    let last = seen now told.told told.faults in
    meets_then (write_mesh k to m.points m.triples m.labels) (λ _. say_line (copied_line to m)) tt r first second last (write out.told out.faults) (line now)

-- the file of a copy was read, and the rest was done or not
pub copy_ended : (k : ℕ) (limits : Limits) (from to : Bytes) (m : Soup) (before mid now : OnShelf) (out told : OnOutput) (r : Result (Unit {0}) Why)
    → ShelfMeets (ask_mesh k limits from) before mid (Ok m)
    → Meets (copied_task k to m) (seen mid out.told out.faults) (seen now told.told told.faults) r
    → Meets (copy_task k limits from to) (seen before out.told out.faults) (seen now told.told told.faults) r
copy_ended k limits from to m before mid now out told r ask rest =
    let first = seen before out.told out.faults in
    let second = seen mid out.told out.faults in
    let last = seen now told.told told.faults in
    meets_then (ask_mesh k limits from) (copied_task k to) m r first second last (ask out.told out.faults) rest

-- a stop of the rest is one of the copy
pub copy_halts : (from to : Bytes) (r : Result (Unit {0}) Halt) → IfErr r (λ halt. IsUnwrittenAt to halt ⊎ (halt ≡ Reporting)) → IfErr r (IsHaltOfCopy from to)
copy_halts from to (Ok done) halts = tt
copy_halts from to (Err halt) halts = inr halts

-- the file of a point's mesh was not read
pub inside_unread : (k : ℕ) (meanings : Meanings) (limits : Limits) (name : Bytes) (point : List ℤ) (before now : OnShelf) (out : OnOutput) (why : Why)
    → ShelfMeets (ask_mesh k limits name) before now (Err why)
    → Meets (inside_task k meanings limits name point) (seen before out.told out.faults) (seen now out.told out.faults) (Err why)
inside_unread k meanings limits name point before now out why ask =
    meets_stop (ask_mesh k limits name) (winding_task meanings point) why (seen before out.told out.faults) (seen now out.told out.faults) (ask out.told out.faults)

-- the mesh of a point was read, and the number was told or not
pub inside_ended : (k : ℕ) (meanings : Meanings) (limits : Limits) (name : Bytes) (point : List ℤ) (m : Soup) (before now : OnShelf)
    (out told : OnOutput) (r : Result (Unit {0}) Why)
    → ShelfMeets (ask_mesh k limits name) before now (Ok m) → OutputMeets (winding_task meanings point m) out told r
    → Meets (inside_task k meanings limits name point) (seen before out.told out.faults) (seen now told.told told.faults) r
inside_ended k meanings limits name point m before now out told r ask rest =
    let first = seen before out.told out.faults in
    let second = seen now out.told out.faults in
    let last = seen now told.told told.faults in
    meets_then (ask_mesh k limits name) (winding_task meanings point) m r first second last (ask out.told out.faults) (rest now)

-- a stop of that is one of the search for a winding number
pub inside_halts : (file : Bytes) (r : Result (Unit {0}) Halt) → IfErr r (λ halt. (halt ≡ Reporting) ⊎ (halt ≡ NoMemory)) → IfErr r (IsHaltOfInside file)
inside_halts file (Ok done) halts = tt
inside_halts file (Err halt) halts = inr halts
