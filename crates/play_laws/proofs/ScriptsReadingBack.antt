-- What a script writes is read again.
use Rattle.std.proofs.Common.{◌≡◌, ◌≤◌, ℕ, ℤ, min, Bool, true, false, List, [], Some, None, Ok, Err, refl, subst, sym, length}
use Rattle.std.specs.Prelude.{nat_lt, bytes_eq, if◌then◌else◌, None, Option, Result}
use Rattle.std.proofs.lemmas.List.Elements.{All-nil, All-cons}
use Rattle.made_terms.specs.Refusals.{MadeFault}
use Rattle.mesh_terms.specs.Faults.{Halfedges, Points, Triangles, Fault, Bad, Over}
use Rattle.mesh_terms.specs.Limits.{Limits, IsLawful}
use Rattle.mesh_terms.specs.Meshes.{Mesh}
use Rattle.mb_base.specs.declared.kernel_kind.KernelKind.{KernelKind}
use Rattle.mb_base.specs.declared.op.Op.{Op}
use Rattle.run_terms.specs.Files.{Bytes}
use Rattle.run_terms.specs.Runs.{Action, Ask, Write, Say}
use Rattle.run_terms.specs.Tasks.{PastLimit, give, then_task}
use Rattle.play_laws.specs.Keeping.{Keeps}
use Rattle.play_laws.proofs.Keeping.{keeps_give, keeps_act, keeps_then}
use Rattle.play_terms.specs.Commands.{ask_file, ask_mesh, say_line, write_mesh}
use Rattle.play_terms.specs.Formats.{mesh_text}
use Rattle.play_terms.specs.ReadingBack.{IsReadable, WritesReadable}
use Rattle.play_laws.proofs.ReadingBack.{mesh_asked, read_again}
use Rattle.play_terms.specs.Combined.{Combined, Combined2, Extruded, Remeshed}
use Rattle.play_terms.specs.ScriptLines.{load_line, save_line, measure_line, inspect_line, combine_line, tidy_line, remesh_line, combine2_line, extrude_line}
use Rattle.made_terms.specs.Making.{solid_fault, solid_mesh}
use Rattle.made_terms.specs.Motions.{motion_fault, moved_mesh}
use Rattle.made_terms.specs.declared.motion.Motion.{Motion}
use Rattle.made_terms.specs.declared.solid.Solid.{Solid}
use Rattle.play_terms.specs.Plays.{Held, Meanings, Named, OfMesh, OfOutline, with_held, with_name, with_outline, mesh_at, mesh_held, mesh_or_none, outline_at, outline_held, outline_or_none, within, made}
use Rattle.play_terms.specs.Plays.{load_task, save_task, measure_task, inspect_task, combine_task, polygon_task, combine2_task, extrude_task, extruded, extrusion_fault, vertex_count, within2}
use Rattle.play_terms.specs.Plays.{State, at_first, line_task, make_task, move_task, script_checked, script_task, remesh_task, state_after, step_task, steps_task, tidy_task, within_remeshed}
use Rattle.play_terms.specs.Scripts.{script}
use Rattle.play_terms.specs.Steps.{Line, Step, Load, Save, Measure, Inspect, Combine, Make, Move, Tidy, Remesh, Polygon, Combine2, Extrude, Exact}
use Rattle.play_terms.specs.Sound.{HasPlaces, HavePlaces, IsRing}
use Rattle.play_terms.proofs.Soundness.{script_sound, sound_places}
use Rattle.mesh_terms.specs.Points.{IsOnGrid}
use Rattle.outline_terms.specs.Outlines.{Outline, most_vertices, ring_of}
use Rattle.play_laws.proofs.Outlined.{empty_outline, ring_given}
use Rattle.tidy_terms.specs.Tidy.{tidied, tidy_mesh}
use Rattle.made_laws.proofs.Motions.{moved_within}
use Rattle.made_laws.proofs.Solids.{solid_given}
use Rattle.format_laws.specs.Within.{IsWithin}
use Rattle.format_laws.proofs.StlSavedMeshes.{meshes_read_welded}
use Rattle.play_laws.specs.ScriptsReadingBack.{IsGivenOutline, IsReadOfTexts, KeepsMeshes, MeshReadable, NamesReadable, ResultsReadable, soup_of_mesh}
use Rattle.play_laws.proofs.KeepingInOrder.{keeps_value, keeps_in_order}
use Rattle.play_laws.proofs.Readable.{readable_within, within_of_readable}
use Rattle.play_laws.proofs.Tidied.{tidied_given, tidied_is_tidy}

-- what was within the limit is what was asked for
taken_within : (limits : Limits) (o a : Combined) → within limits o ≡ Ok a → (o ≡ a) × (nat_lt limits.halfedges o.halfedges ≡ false)
taken_within limits o a e = by_limit (nat_lt limits.halfedges o.halfedges) refl e
  where
    by_limit : (b : Bool) → nat_lt limits.halfedges o.halfedges ≡ b → (if b then Err (PastLimit Halfedges o.halfedges) else Ok o) ≡ Ok a →
        (o ≡ a) × (nat_lt limits.halfedges o.halfedges ≡ false)
    by_limit true past e = absurd (cc)
    by_limit false is e = (cc, is)

-- lines that were not refused are those of the script
lines_checked : (name : Bytes) (r : Result (List Line) Fault) (lines : List Line) → script_checked name r ≡ Ok lines → r ≡ Ok lines
lines_checked name (Err (Bad line kind)) lines is = absurd (cc)
lines_checked name (Err (Over what seen)) lines is = absurd (cc)
lines_checked name (Ok lines) more is = cc

-- what was made is what was asked for, and was not refused
taken_made : (script : Bytes) (line : ℕ) (fault : Option MadeFault) (m n : Mesh) → made script line fault m ≡ Ok n → (fault ≡ None) × (m ≡ n)
taken_made script line None m n is = (refl, cc)
taken_made script line (Some fault) m n is = cc

-- the same of an outline
taken_within2 : (limits : Limits) (o a : Combined2) → within2 limits o ≡ Ok a → (o ≡ a) × (nat_lt (min limits.points most_vertices) (vertex_count o) ≡ false)
taken_within2 limits o a e = by_limit (nat_lt (min limits.points most_vertices) (vertex_count o)) refl e
  where
    by_limit : (b : Bool) → nat_lt (min limits.points most_vertices) (vertex_count o) ≡ b → (if b then Err (PastLimit Points (vertex_count o)) else Ok o) ≡ Ok a →
        (o ≡ a) × (nat_lt (min limits.points most_vertices) (vertex_count o) ≡ false)
    by_limit true past e = absurd (cc)
    by_limit false is e = (cc, is)

-- of a remeshed mesh
taken_remeshed : (limits : Limits) (r a : Remeshed) → within_remeshed limits r ≡ Ok a → r ≡ a
taken_remeshed limits r a e = by_limits (nat_lt limits.points (length r.mesh.points)) (nat_lt limits.triangles (length r.mesh.triples)) e
  where
    by_limits : (b c : Bool)
        → (if b then Err (PastLimit Points (length r.mesh.points)) else if c then Err (PastLimit Triangles (length r.mesh.triples)) else Ok r) ≡ Ok a → r ≡ a
    by_limits true c e = absurd (cc)
    by_limits false true e = absurd (cc)
    by_limits false false e = cc

-- and of a solid of one
taken_extruded : (script : Bytes) (line : ℕ) (fault : Option MadeFault) (e a : Extruded) → extruded script line fault e ≡ Ok a → (fault ≡ None) × (e ≡ a)
taken_extruded script line None e a is = (refl, cc)
taken_extruded script line (Some fault) e a is = cc

module _ (means : KernelKind → Meanings) (k : ℕ) (limits : Limits) (few : k ≤ 6) (lawful : IsLawful limits)
    (results : (kernels : KernelKind) → ResultsReadable (means kernels) k limits) where
  abbrev Writes : Action → Type 0
  Writes a = WritesReadable k limits a

  abbrev Names : Named → Type 0
  Names named = NamesReadable k limits named

  -- a line
  said : (line : Bytes) → Keeps Writes (λ _. Unit {0}) (say_line line)
  said line = keeps_act Writes (Say line) tt

  -- a file is asked for
  asked : (name : Bytes) → Keeps Writes (λ _. Unit {0}) (ask_file limits name)
  asked name = record { actions = λ files. All-cons Writes (Ask name) [] tt (All-nil Writes); value = λ files a is. tt }

  -- a mesh without points
  empty_readable : MeshReadable k limits (record { points = []; triples = []; labels = [] })
  empty_readable = read_again k limits [] [] (soup_of_mesh (record { points = []; triples = []; labels = [] })) few lawful refl

  -- a name more holds something such
  held_more : (name : Bytes) (h : Held) (named : Named) → Names named →
      MeshReadable k limits (mesh_or_none (mesh_held (Some h))) → IsGivenOutline (outline_or_none (outline_held (Some h)))
      → Names (with_held name h named)
  held_more name h named all mesh outline = record { meshes = λ n. by_mesh n (bytes_eq n name); outlines = λ n. by_outline n (bytes_eq n name) }
    where
      by_mesh : (n : Bytes) (b : Bool) → MeshReadable k limits (mesh_or_none (mesh_held (if b then Some h else named n)))
      by_mesh n true = mesh
      by_mesh n false = all.meshes n

      by_outline : (n : Bytes) (b : Bool) → IsGivenOutline (outline_or_none (outline_held (if b then Some h else named n)))
      by_outline n true = outline
      by_outline n false = all.outlines n

  -- a mesh, or an outline
  named_more : (name : Bytes) (m : Mesh) (named : Named) → Names named → MeshReadable k limits m → Names (with_name name m named)
  named_more name m named all more = held_more name (OfMesh m) named all more empty_outline

  outlined_more : (name : Bytes) (o : Outline) (named : Named) → Names named → IsGivenOutline o → Names (with_outline name o named)
  outlined_more name o named all more = held_more name (OfOutline o) named all empty_readable more

  -- a line is said, and the names are these
  told : (line : Bytes) (named : Named) → Names named → Keeps Writes Names (then_task (say_line line) (λ _. give (Ok named)))
  told line named all = keeps_then Writes (λ _. Unit {0}) Names (say_line line) (λ _. give (Ok named)) (said line) (λ _ _. keeps_value Writes Names named all)

  -- a line is said, and a name more has such a mesh
  told_and_named : (line name : Bytes) (m : Mesh) (named : Named) → Names named → MeshReadable k limits m
      → Keeps Writes Names (then_task (say_line line) (λ _. give (Ok (with_name name m named))))
  told_and_named line name m named all more = told line (with_name name m named) (named_more name m named all more)

  load_keeps : (name file : Bytes) (named : Named) → Names named → Keeps Writes Names (load_task k limits name file named)
  load_keeps name file named all =
      keeps_then Writes (IsReadable k limits) Names (ask_mesh k limits file)
      (λ m. then_task (say_line (load_line name file m)) (λ _. give (Ok (with_name name (record { points = m.points; triples = m.triples; labels = m.labels }) named))))
      (mesh_asked k limits file few lawful)
      (λ m more. told_and_named (load_line name file m) name (record { points = m.points; triples = m.triples; labels = m.labels }) named all more)

  save_keeps : (name file : Bytes) (m : Mesh) (named : Named) → Names named → MeshReadable k limits m → Keeps Writes Names (save_task k name file m named)
  save_keeps name file m named all such =
      keeps_then Writes (λ _. Unit {0}) Names (write_mesh k file m.points m.triples m.labels) (λ _. then_task (say_line (save_line name file m)) (λ _. give (Ok named)))
      (keeps_act Writes (Write file (mesh_text k file m.points m.triples m.labels)) (soup_of_mesh m, refl, such)) (λ _ _. told (save_line name file m) named all)

  measure_keeps : (name : Bytes) (m : Mesh) (named : Named) → Names named → Keeps Writes Names (measure_task name m named)
  measure_keeps name m named all = told (measure_line name m) named all

  inspect_keeps : (kernels : KernelKind) (name : Bytes) (m : Mesh) (named : Named) → Names named → Keeps Writes Names (inspect_task (means kernels) k name m named)
  inspect_keeps kernels name m named all = told (inspect_line k name m ((means kernels).cuts m)) named all

  combine_keeps : (kernels : KernelKind) (op : Op) (name left right : Bytes) (named : Named) → Names named →
      Keeps Writes Names (combine_task (means kernels) limits op name left right named)
  combine_keeps kernels op name left right named all =
      let o = (means kernels).operation op (mesh_at named left) (mesh_at named right) in
      let R : Combined → Type 0 = λ a. MeshReadable k limits a.mesh in
      keeps_then Writes R Names (give (within limits o)) (λ a. then_task (say_line (combine_line op name left right a)) (λ _. give (Ok (with_name name a.mesh named))))
      (keeps_give Writes R (within limits o)
      (λ a is. let taken = taken_within limits o a is in subst R taken.0
      ((results kernels).meshes op (mesh_at named left) (mesh_at named right) (all.meshes left) (all.meshes right) taken.1)))
      (λ a more. told_and_named (combine_line op name left right a) name a.mesh named all more)

  -- a name more has what is made, where that is not refused
  made_and_named : (script : Bytes) (line : ℕ) (name : Bytes) (fault : Option MadeFault) (m : Mesh) (named : Named) → Names named →
      (fault ≡ None → MeshReadable k limits m)
      → Keeps Writes Names (then_task (give (made script line fault m)) (λ n. give (Ok (with_name name n named))))
  made_and_named script line name fault m named all such =
      let R : Mesh → Type 0 = λ n. MeshReadable k limits n in
      keeps_then Writes R Names (give (made script line fault m)) (λ n. give (Ok (with_name name n named)))
      (keeps_give Writes R (made script line fault m) (λ n is. let taken = taken_made script line fault m n is in subst R taken.1 (such taken.0)))
      (λ n more. keeps_value Writes Names (with_name name n named) (named_more name n named all more))

  make_keeps : (script : Bytes) (line : ℕ) (name : Bytes) (solid : Solid) (named : Named) → Names named →
      Keeps Writes Names (make_task limits script line name solid named)
  make_keeps script line name solid named all =
      made_and_named script line name (solid_fault limits solid) (solid_mesh solid) named all
      (λ none. readable_within k limits (solid_mesh solid) few lawful (solid_given limits lawful solid none))

  move_keeps : (script : Bytes) (line : ℕ) (name old : Bytes) (motion : Motion) (named : Named) → Names named →
      Keeps Writes Names (move_task script line name old motion named)
  move_keeps script line name old motion named all =
      let m = mesh_at named old in
      made_and_named script line name (motion_fault motion m.points) (moved_mesh motion m) named all
      (λ none. readable_within k limits (moved_mesh motion m) few lawful (moved_within limits motion m (within_of_readable k limits m lawful (all.meshes old)) none))

  tidy_keeps : (name old : Bytes) (m : Mesh) (named : Named) → Names named → MeshReadable k limits m → Keeps Writes Names (tidy_task name old m named)
  tidy_keeps name old m named all such =
      told_and_named (tidy_line name old (tidied m.points m.triples m.labels).collapses) name (tidy_mesh m) named all
      (readable_within k limits (tidy_mesh m) few lawful (tidied_given limits m (within_of_readable k limits m lawful such)))

  remesh_keeps : (kernels : KernelKind) (name old : Bytes) (m : Mesh) (named : Named) → Names named → MeshReadable k limits m
      → Keeps Writes Names (remesh_task (means kernels) limits name old m named)
  remesh_keeps kernels name old m named all such =
      let r = (means kernels).remeshing m in
      let R : Remeshed → Type 0 = λ a. MeshReadable k limits a.mesh in
      keeps_then Writes R Names (give (within_remeshed limits r)) (λ a. then_task (say_line (remesh_line name old a.planes a.kept)) (λ _. give (Ok (with_name name a.mesh named))))
      (keeps_give Writes R (within_remeshed limits r)
      (λ a is. let same = taken_remeshed limits r a is in subst R same ((results kernels).remeshings m such (subst (λ x. within_remeshed limits r ≡ Ok x) (sym same) is))))
      (λ a more. told_and_named (remesh_line name old a.planes a.kept) name a.mesh named all more)

  polygon_keeps : (name : Bytes) (ring : List (List ℤ)) (named : Named) → IsRing ring → Names named → Keeps Writes Names (polygon_task name ring named)
  polygon_keeps name ring named such all = keeps_value Writes Names (with_outline name (ring_of ring) named) (outlined_more name (ring_of ring) named all (ring_given ring such))

  combine2_keeps : (kernels : KernelKind) (op : Op) (name left right : Bytes) (named : Named) → Names named →
      Keeps Writes Names (combine2_task (means kernels) limits op name left right named)
  combine2_keeps kernels op name left right named all =
      let p = outline_at named left in
      let q = outline_at named right in
      let o = (means kernels).outlines op p q in
      let R : Combined2 → Type 0 = λ a. IsGivenOutline a.outline in
      keeps_then Writes R Names (give (within2 limits o)) (λ a. then_task (say_line (combine2_line op name left right a)) (λ _. give (Ok (with_outline name a.outline named))))
      (keeps_give Writes R (within2 limits o)
      (λ a is. let taken = taken_within2 limits o a is in subst R taken.0 ((results kernels).outlines op p q (all.outlines left) (all.outlines right) taken.1)))
      (λ a more. told (combine2_line op name left right a) (with_outline name a.outline named) (outlined_more name a.outline named all more))

  extrude_keeps : (kernels : KernelKind) (script : Bytes) (line : ℕ) (name old : Bytes) (low high : ℤ) (named : Named) → IsOnGrid low × IsOnGrid high → Names named →
      Keeps Writes Names (extrude_task (means kernels) limits script line name old low high named)
  extrude_keeps kernels script line name old low high named such all =
      let o = outline_at named old in
      let e = (means kernels).extrusion o low high in
      let fault = extrusion_fault limits low high e.mesh in
      let R : Extruded → Type 0 = λ a. MeshReadable k limits a.mesh in
      keeps_then Writes R Names (give (extruded script line fault e)) (λ a. then_task (say_line (extrude_line name old a.forced)) (λ _. give (Ok (with_name name a.mesh named))))
      (keeps_give Writes R (extruded script line fault e)
      (λ a is. let taken = taken_extruded script line fault e a is in subst R taken.1 ((results kernels).solids o low high (all.outlines old) such.0 such.1 taken.0)))
      (λ a more. told_and_named (extrude_line name old a.forced) name a.mesh named all more)

  step_keeps : (kernels : KernelKind) (script : Bytes) (line : ℕ) (step : Step) (named : Named) → HasPlaces step → Names named →
      Keeps Writes Names (step_task (means kernels) k limits script line step named)
  step_keeps kernels script line (Load name file) named places all = load_keeps name file named all
  step_keeps kernels script line (Save name file) named places all = save_keeps name file (mesh_at named name) named all (all.meshes name)
  step_keeps kernels script line (Measure name) named places all = measure_keeps name (mesh_at named name) named all
  step_keeps kernels script line (Inspect name) named places all = inspect_keeps kernels name (mesh_at named name) named all
  step_keeps kernels script line (Combine op name left right) named places all = combine_keeps kernels op name left right named all
  step_keeps kernels script line (Make name solid) named places all = make_keeps script line name solid named all
  step_keeps kernels script line (Move name old motion) named places all = move_keeps script line name old motion named all
  step_keeps kernels script line (Tidy name old) named places all = tidy_keeps name old (mesh_at named old) named all (all.meshes old)
  step_keeps kernels script line (Remesh name old) named places all = remesh_keeps kernels name old (mesh_at named old) named all (all.meshes old)
  step_keeps kernels script line (Polygon name ring) named places all = polygon_keeps name ring named places all
  step_keeps kernels script line (Combine2 op name left right) named places all = combine2_keeps kernels op name left right named all
  step_keeps kernels script line (Extrude name old low high) named places all = extrude_keeps kernels script line name old low high named places all
  step_keeps kernels script line Exact named places all = keeps_value Writes Names named all

  abbrev Known : State → Type 0
  Known state = Names state.named

  -- a line, under the kernels of the state before it
  line_keeps : (script : Bytes) (l : Line) (state : State) → HasPlaces l.1 → Known state → Keeps Writes Known (line_task means k limits script l state)
  line_keeps script l state places all =
      keeps_then Writes Names Known (step_task (means state.kernels) k limits script l.0 l.1 state.named) (λ named. give (Ok (state_after l.1 state named)))
      (step_keeps state.kernels script l.0 l.1 state.named places all) (λ named such. keeps_value Writes Known (state_after l.1 state named) such)

  -- whatever lines are done, each name has a mesh that is read where it is written
  pub steps_keep : (script : Bytes) (lines : List Line) → HavePlaces lines → Keeps Writes Known (steps_task means k limits script lines at_first)
  steps_keep script lines places =
      keeps_in_order Writes Known (λ l. HasPlaces l.1) (line_task means k limits script) lines at_first (line_keeps script) places
      (record { meshes = λ name. empty_readable; outlines = λ name. empty_outline })

  -- a mesh that is read of its OBJ text is read of its STL text, welded
  read_of_texts : (m : Mesh) → MeshReadable k limits m → IsReadOfTexts k limits m
  read_of_texts m readable =
      let given = within_of_readable k limits m lawful readable in
      let within : IsWithin limits m.points m.triples =
      record { on_grid = given.given.on_grid; mesh = given.given.accepted.mesh; few_points = given.few_points; few_triples = given.few_triples } in
      record { obj = readable; stl = meshes_read_welded k few limits lawful m.points m.triples within }

  -- so is the mesh of each name, whatever lines are done, and a line that saves it writes its text
  pub meshes_kept : (script : Bytes) → KeepsMeshes means k limits script
  meshes_kept script = record {
    places = λ text lines is. sound_places [] lines (script_sound k text lines is);
    names = λ files lines state places is name. read_of_texts (mesh_at state.named name) (((steps_keep script lines places).value files state is).meshes name);
    outlines = λ files lines state places is name. ((steps_keep script lines places).value files state is).outlines name;
    tidies = λ files lines state places is name.
        let m = mesh_at state.named name in tidied_is_tidy limits m (within_of_readable k limits m lawful (((steps_keep script lines places).value files state is).meshes name));
    saves = λ state line name file files. refl;
  }

  -- whatever the files, each file that a script writes holds the text of a mesh, which is read of it again
  pub script_keeps : (name : Bytes) → Keeps Writes (λ _. Unit {0}) (script_task means k limits name)
  script_keeps name =
      keeps_then Writes (λ _. Unit {0}) (λ _. Unit {0}) (ask_file limits name)
      (λ bytes. then_task (give (script_checked name (script k bytes))) (λ lines. then_task (steps_task means k limits name lines at_first) (λ _. give (Ok tt))))
      (asked name)
      (λ bytes _. keeps_then Writes HavePlaces (λ _. Unit {0}) (give (script_checked name (script k bytes)))
      (λ lines. then_task (steps_task means k limits name lines at_first) (λ _. give (Ok tt)))
      (keeps_give Writes HavePlaces (script_checked name (script k bytes))
      (λ lines is. sound_places [] lines (script_sound k bytes lines (lines_checked name (script k bytes) lines is))))
      (λ lines places. keeps_then Writes Known (λ _. Unit {0}) (steps_task means k limits name lines at_first) (λ _. give (Ok tt)) (steps_keep name lines places)
      (λ state all. keeps_value Writes (λ _. Unit {0}) tt tt)))
