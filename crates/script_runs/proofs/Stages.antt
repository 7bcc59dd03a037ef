-- Tasks one after the other, of which each touches the shelf or the output alone, and the steps of a script by them.
use Rattle.std.proofs.Common.{◌≡◌, ℕ, Result, Ok, Err, refl, sym, subst}
use Rattle.mesh_terms.specs.Limits.{Limits}
use Rattle.mesh_terms.specs.Meshes.{Mesh, Soup}
use Rattle.mb_outside.specs.Seen.{OnOutput, OnShelf, OutputMeets, ShelfMeets, seen}
use Rattle.play_terms.specs.Commands.{ask_mesh, say_line, write_mesh}
use Rattle.run_terms.specs.Files.{Bytes}
use Rattle.run_terms.specs.Meets.{Meets, Seen, Starved, Why}
use Rattle.run_terms.specs.Tasks.{Refusal, Task, give, then_task}
use Rattle.play_laws.proofs.Tasks.{meets_given, meets_starved, meets_stop, meets_then}
use Rattle.play_terms.specs.ScriptLines.{inspect_line, load_line, measure_line, save_line, tidy_line}
use Rattle.play_terms.specs.Plays.{Held, Meanings, Named, OfMesh, inspect_task, load_task, measure_task, save_task, tidy_task, with_held, with_name}
use Rattle.tidy_terms.specs.Tidy.{tidied, tidy_mesh}

-- the shelf and the output together
abbrev pub beside : OnShelf → OnOutput → Seen
beside on out = seen on out.told out.faults

module _ {A B : Type 0} (t : Task A) (next : A → Task B) where
  -- a first task that touched the shelf, and the rest
  shelf_then : (a : A) (r : Result B Why) (before mid : OnShelf) (out : OnOutput) (now : Seen)
      → ShelfMeets t before mid (Ok a) → Meets (next a) (beside mid out) now r → Meets (then_task t next) (beside before out) now r
  shelf_then a r before mid out now first rest = meets_then t next a r (beside before out) (beside mid out) now (first out.told out.faults) rest

  -- or that stopped
  shelf_stop : (why : Why) (before now : OnShelf) (out : OnOutput) → ShelfMeets t before now (Err why) →
      Meets (then_task t next) (beside before out) (beside now out) (Err why)
  shelf_stop why before now out first = meets_stop t next why (beside before out) (beside now out) (first out.told out.faults)

  -- one that touched the output, and the rest
  output_then : (a : A) (r : Result B Why) (on : OnShelf) (before mid : OnOutput) (now : Seen)
      → OutputMeets t before mid (Ok a) → Meets (next a) (beside on mid) now r → Meets (then_task t next) (beside on before) now r
  output_then a r on before mid now first rest = meets_then t next a r (beside on before) (beside on mid) now (first on) rest

  -- or that stopped
  output_stop : (why : Why) (on : OnShelf) (before now : OnOutput) → OutputMeets t before now (Err why) →
      Meets (then_task t next) (beside on before) (beside on now) (Err why)
  output_stop why on before now first = meets_stop t next why (beside on before) (beside on now) (first on)

-- a line was said and a name got something; or one of the two was not done
module _ (line name : Bytes) (h : Held) (named : Named) (on : OnShelf) (out told : OnOutput) where
  abbrev naming : Task Named
  naming = then_task (say_line line) (λ _. give (Ok (with_held name h named)))

  pub unsaid : (why : Why) → OutputMeets (say_line line) out told (Err why) → Meets naming (beside on out) (beside on told) (Err why)
  unsaid why met = output_stop (say_line line) (λ _. give (Ok (with_held name h named))) why on out told met

  pub unnamed : OutputMeets (say_line line) out told (Ok tt) → Meets naming (beside on out) (beside on told) (Err Starved)
  unnamed met =
      output_then (say_line line) (λ _. give (Ok (with_held name h named))) tt (Err Starved) on out told (beside on told) met
      (meets_starved (give (Ok (with_held name h named))) (beside on told))

  pub named_so : (now : Named) → now ≡ with_held name h named → OutputMeets (say_line line) out told (Ok tt) → Meets naming (beside on out) (beside on told) (Ok now)
  named_so now is met =
      let P : Named → Type 0 = λ n. Meets naming (beside on out) (beside on told) (Ok n) in
      subst P (sym is) (output_then (say_line line) (λ _. give (Ok (with_held name h named))) tt (Ok (with_held name h named)) on out told (beside on told) met
      (meets_given (Ok (with_held name h named)) (with_held name h named) (beside on told) refl))

-- a mesh is loaded
module _ (k : ℕ) (limits : Limits) (name file : Bytes) (named : Named) (before now : OnShelf) (out told : OnOutput) where
  abbrev loading : Task Named
  loading = load_task k limits name file named

  abbrev after_asking : Soup → Task Named
  after_asking m =
      then_task (say_line (load_line name file m)) (λ _. give (Ok (with_name name (record { points = m.points; triples = m.triples; labels = m.labels }) named)))

  pub load_unread : (why : Why) → ShelfMeets (ask_mesh k limits file) before now (Err why) → Meets loading (beside before out) (beside now out) (Err why)
  load_unread why ask = shelf_stop (ask_mesh k limits file) after_asking why before now out ask

  pub load_unsaid : (m : Soup) (why : Why) → ShelfMeets (ask_mesh k limits file) before now (Ok m) → OutputMeets (say_line (load_line name file m)) out told (Err why)
      → Meets loading (beside before out) (beside now told) (Err why)
  load_unsaid m why ask line =
      shelf_then (ask_mesh k limits file) after_asking m (Err why) before now out (beside now told) ask
      (unsaid (load_line name file m) name (OfMesh (record { points = m.points; triples = m.triples; labels = m.labels })) named now out told why line)

  pub load_unnamed : (m : Soup) → ShelfMeets (ask_mesh k limits file) before now (Ok m) → OutputMeets (say_line (load_line name file m)) out told (Ok tt)
      → Meets loading (beside before out) (beside now told) (Err Starved)
  load_unnamed m ask line =
      shelf_then (ask_mesh k limits file) after_asking m (Err Starved) before now out (beside now told) ask
      (unnamed (load_line name file m) name (OfMesh (record { points = m.points; triples = m.triples; labels = m.labels })) named now out told line)

  pub load_named : (m : Soup) (after : Named) → after ≡ with_name name (record { points = m.points; triples = m.triples; labels = m.labels }) named
      → ShelfMeets (ask_mesh k limits file) before now (Ok m) → OutputMeets (say_line (load_line name file m)) out told (Ok tt)
      → Meets loading (beside before out) (beside now told) (Ok after)
  load_named m after is ask line =
      shelf_then (ask_mesh k limits file) after_asking m (Ok after) before now out (beside now told) ask
      (named_so (load_line name file m) name (OfMesh (record { points = m.points; triples = m.triples; labels = m.labels })) named now out told after is line)

-- the mesh of a name, which is this one, is saved
module _ (k : ℕ) (name file : Bytes) (of m : Mesh) (named : Named) (is : of ≡ m) (before now : OnShelf) (out told : OnOutput) where
  abbrev saving : Mesh → Task Named
  saving mesh = save_task k name file mesh named

  abbrev after_writing : Unit {0} → Task Named
  after_writing u = then_task (say_line (save_line name file m)) (λ _. give (Ok named))

  pub save_unwritten : (why : Why) → ShelfMeets (write_mesh k file m.points m.triples m.labels) before now (Err why) →
      Meets (saving of) (beside before out) (beside now out) (Err why)
  save_unwritten why write =
      let P : Mesh → Type 0 = λ mesh. Meets (saving mesh) (beside before out) (beside now out) (Err why) in
      subst P (sym is) (shelf_stop (write_mesh k file m.points m.triples m.labels) after_writing why before now out write)

  pub save_unsaid : (why : Why) → ShelfMeets (write_mesh k file m.points m.triples m.labels) before now (Ok tt) →
      OutputMeets (say_line (save_line name file m)) out told (Err why)
      → Meets (saving of) (beside before out) (beside now told) (Err why)
  save_unsaid why write line =
      let P : Mesh → Type 0 = λ mesh. Meets (saving mesh) (beside before out) (beside now told) (Err why) in
      subst P (sym is)
      (shelf_then (write_mesh k file m.points m.triples m.labels) after_writing tt (Err why) before now out (beside now told) write
      (output_stop (say_line (save_line name file m)) (λ _. give (Ok named)) why now out told line))

  pub save_told : ShelfMeets (write_mesh k file m.points m.triples m.labels) before now (Ok tt) → OutputMeets (say_line (save_line name file m)) out told (Ok tt)
      → Meets (saving of) (beside before out) (beside now told) (Ok named)
  save_told write line =
      let P : Mesh → Type 0 = λ mesh. Meets (saving mesh) (beside before out) (beside now told) (Ok named) in
      subst P (sym is)
      (shelf_then (write_mesh k file m.points m.triples m.labels) after_writing tt (Ok named) before now out (beside now told) write
      (output_then (say_line (save_line name file m)) (λ _. give (Ok named)) tt (Ok named) now out told (beside now told) line
      (meets_given (Ok named) named (beside now told) refl)))

-- the mesh of a name, which is this one, is measured
module _ (name : Bytes) (of m : Mesh) (named : Named) (is : of ≡ m) (out told : OnOutput) where
  abbrev measuring : Mesh → Task Named
  measuring mesh = measure_task name mesh named

  pub measure_unsaid : (why : Why) → OutputMeets (say_line (measure_line name m)) out told (Err why) → OutputMeets (measuring of) out told (Err why)
  measure_unsaid why line on =
      let P : Mesh → Type 0 = λ mesh. Meets (measuring mesh) (beside on out) (beside on told) (Err why) in
      subst P (sym is) (output_stop (say_line (measure_line name m)) (λ _. give (Ok named)) why on out told line)

  pub measure_told : OutputMeets (say_line (measure_line name m)) out told (Ok tt) → OutputMeets (measuring of) out told (Ok named)
  measure_told line on =
      let P : Mesh → Type 0 = λ mesh. Meets (measuring mesh) (beside on out) (beside on told) (Ok named) in
      subst P (sym is) (output_then (say_line (measure_line name m)) (λ _. give (Ok named)) tt (Ok named) on out told (beside on told) line
      (meets_given (Ok named) named (beside on told) refl))

-- the mesh of a name, which is this one, is inspected
module _ (means : Meanings) (k : ℕ) (name : Bytes) (of m : Mesh) (named : Named) (is : of ≡ m) (out told : OnOutput) where
  abbrev inspecting : Mesh → Task Named
  inspecting mesh = inspect_task means k name mesh named

  abbrev inspect_says : Bytes
  inspect_says = inspect_line k name m (means.cuts m)

  pub inspect_unsaid : (why : Why) → OutputMeets (say_line inspect_says) out told (Err why) → OutputMeets (inspecting of) out told (Err why)
  inspect_unsaid why line on =
      let P : Mesh → Type 0 = λ mesh. Meets (inspecting mesh) (beside on out) (beside on told) (Err why) in
      subst P (sym is) (output_stop (say_line inspect_says) (λ _. give (Ok named)) why on out told line)

  pub inspect_told : OutputMeets (say_line inspect_says) out told (Ok tt) → OutputMeets (inspecting of) out told (Ok named)
  inspect_told line on =
      let P : Mesh → Type 0 = λ mesh. Meets (inspecting mesh) (beside on out) (beside on told) (Ok named) in
      subst P (sym is) (output_then (say_line inspect_says) (λ _. give (Ok named)) tt (Ok named) on out told (beside on told) line
      (meets_given (Ok named) named (beside on told) refl))

-- the mesh of a name, which is this one, is tidied, by so many collapses
module _ (name old : Bytes) (of m : Mesh) (named : Named) (is : of ≡ m) (collapses : ℕ) (count : collapses ≡ (tidied m.points m.triples m.labels).collapses)
    (out told : OnOutput) where
  abbrev tidying : Mesh → Task Named
  tidying mesh = tidy_task name old mesh named

  abbrev line : Bytes
  line = tidy_line name old (tidied m.points m.triples m.labels).collapses

  -- what is met for this mesh is met for that of the name
  of_name : (r : Result Named Why) → OutputMeets (tidying m) out told r → OutputMeets (tidying of) out told r
  of_name r met = let P : Mesh → Type 0 = λ mesh. OutputMeets (tidying mesh) out told r in subst P (sym is) met

  -- a line with this number is that of the mesh
  line_met : (r : Result (Unit {0}) Why) → OutputMeets (say_line (tidy_line name old collapses)) out told r → OutputMeets (say_line line) out told r
  line_met r met = let P : ℕ → Type 0 = λ n. OutputMeets (say_line (tidy_line name old n)) out told r in subst P count met

  pub tidy_unsaid : (why : Why) → OutputMeets (say_line (tidy_line name old collapses)) out told (Err why) → OutputMeets (tidying of) out told (Err why)
  tidy_unsaid why met = of_name (Err why) (λ on. unsaid line name (OfMesh (tidy_mesh m)) named on out told why (line_met (Err why) met))

  pub tidy_unnamed : OutputMeets (say_line (tidy_line name old collapses)) out told (Ok tt) → OutputMeets (tidying of) out told (Err Starved)
  tidy_unnamed met = of_name (Err Starved) (λ on. unnamed line name (OfMesh (tidy_mesh m)) named on out told (line_met (Ok tt) met))

  pub tidy_named : (after : Named) → after ≡ with_name name (tidy_mesh m) named → OutputMeets (say_line (tidy_line name old collapses)) out told (Ok tt)
      → OutputMeets (tidying of) out told (Ok after)
  tidy_named after same met = of_name (Ok after) (λ on. named_so line name (OfMesh (tidy_mesh m)) named on out told after same (line_met (Ok tt) met))

-- a task without actions ended so: with what is given, with its refusal, or otherwise
abbrev pub Ends : {A : Type 0} → Result A Refusal → Result A Why → Type 0
Ends given r = (now : Seen) → Meets (give given) now now r

-- what is given of operands is given of their equals
pub for_one : {X A : Type 0} (f : X → Result A Refusal) {x p : X} (r : Result A Why) → x ≡ p → Ends (f p) r → Ends (f x) r
for_one f r same ended = subst (λ z. Ends (f z) r) (sym same) ended

pub for_two : {X A : Type 0} (f : X → X → Result A Refusal) {x y p q : X} (r : Result A Why) → x ≡ p → y ≡ q → Ends (f p q) r → Ends (f x y) r
for_two f {x} {y} {p} {q} r is_p is_q ended =
    subst (λ z. Ends (f z y) r) (sym is_p) (subst (λ z. Ends (f p z) r) (sym is_q) ended)

-- something is given, it is said, and a name gets it; or one of these was not done
module _ {A : Type 0} (given : Result A Refusal) (line : A → Bytes) (gets : A → Held) (name : Bytes) (named : Named) (out told : OnOutput) where
  abbrev saying : A → Task Named
  saying a = then_task (say_line (line a)) (λ _. give (Ok (with_held name (gets a) named)))

  abbrev giving : Task Named
  giving = then_task (give given) saying

  pub given_stopped : (why : Why) → Ends given (Err why) → OutputMeets giving out out (Err why)
  given_stopped why ended on = meets_stop (give given) saying why (beside on out) (beside on out) (ended (beside on out))

  pub given_unsaid : (a : A) (why : Why) → Ends given (Ok a) → OutputMeets (say_line (line a)) out told (Err why) → OutputMeets giving out told (Err why)
  given_unsaid a why ended met on =
      meets_then (give given) saying a (Err why) (beside on out) (beside on out) (beside on told) (ended (beside on out))
      (unsaid (line a) name (gets a) named on out told why met)

  pub given_unnamed : (a : A) → Ends given (Ok a) → OutputMeets (say_line (line a)) out told (Ok tt) → OutputMeets giving out told (Err Starved)
  given_unnamed a ended met on =
      meets_then (give given) saying a (Err Starved) (beside on out) (beside on out) (beside on told) (ended (beside on out))
      (unnamed (line a) name (gets a) named on out told met)

  pub given_named : (a : A) (after : Named) → after ≡ with_held name (gets a) named → Ends given (Ok a) → OutputMeets (say_line (line a)) out told (Ok tt)
      → OutputMeets giving out told (Ok after)
  given_named a after is ended met on =
      meets_then (give given) saying a (Ok after) (beside on out) (beside on out) (beside on told) (ended (beside on out))
      (named_so (line a) name (gets a) named on out told after is met)
