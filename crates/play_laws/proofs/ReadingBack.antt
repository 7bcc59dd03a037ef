-- What the commands write is read again.
use Rattle.std.proofs.Common.{◌≡◌, ◌≤◌, ℕ, ℤ, Bool, true, false, if◌then◌else◌, List, [], ◌∷◌, Option, Some, None}
use Rattle.std.proofs.Common.{Result, Ok, Err, cond, length, ap, ◌∙◌, refl, subst, sym}
use Rattle.std.proofs.lemmas.Bool.{le-ltb}
use Rattle.std.proofs.lemmas.List.Elements.{All-nil, All-cons}
use Rattle.chain_terms.specs.Chains.{all_edges}
use Rattle.mesh_terms.specs.Faults.{Fault, FileBytes, Bad, Over}
use Rattle.mesh_terms.specs.Limits.{Limits, IsLawful}
use Rattle.mesh_terms.specs.Labels.{AreLabels}
use Rattle.mesh_terms.specs.Meshes.{Soup}
use Rattle.mesh_terms.proofs.Labels.{no_labels-are}
use Rattle.mesh_terms.specs.OpenEdges.{open_pair}
use Rattle.format_terms.specs.ObjWritten.{obj_text}
use Rattle.format_laws.specs.ReadingBack.{ReadsBack}
use Rattle.format_laws.specs.Within.{IsWithin}
use Rattle.format_laws.proofs.ObjReadMeshes.{files_give_meshes as obj_gives_meshes}
use Rattle.format_laws.proofs.ObjSavedMeshes.{meshes_read_back}
use Rattle.format_laws.proofs.StlReadMeshes.{files_give_meshes as stl_gives_meshes}
use Rattle.format_terms.specs.StlWritten.{is_stl}
use Rattle.run_terms.specs.Files.{Bytes}
use Rattle.run_terms.specs.Runs.{Ask, Write, Say}
use Rattle.run_terms.specs.Tasks.{PastLimit, Refusal, give, joined}
use Rattle.play_laws.specs.Keeping.{Keeps}
use Rattle.play_laws.proofs.Keeping.{keeps_give, keeps_act, keeps_then}
use Rattle.play_terms.specs.Commands.{Meanings, ask_file, ask_mesh, bytes_in, checked, copied_task, copy_task, if_closed, inside_task, say_line, winding_task, write_mesh}
use Rattle.play_terms.specs.Formats.{mesh_soup, mesh_text, soup_in}
use Rattle.play_terms.specs.declared.format.Format.TheVariants.{Obj, Stl}
use Rattle.play_terms.specs.Lines.{copied_line, winding_line}
use Rattle.play_terms.specs.ReadingBack.{GivesReadable, IsReadable, WritesReadable, as_saved}

-- a mesh that was taken had no open pair
taken_closed : (name : Bytes) (s soup : Soup) (pair : Option (ℕ × ℕ)) → if_closed name s pair ≡ Ok soup → (s ≡ soup) × (pair ≡ None)
taken_closed name s soup None is = (cc, refl)
taken_closed name s soup (Some e) is = cc

-- a text that was taken is the mesh's, and the mesh is closed
taken_checked : (name : Bytes) (r : Result Soup Fault) (soup : Soup) → checked name r ≡ Ok soup → (r ≡ Ok soup) × (open_pair (all_edges soup.triples) ≡ None)
taken_checked name (Err (Bad line kind)) soup is = cc
taken_checked name (Err (Over what seen)) soup is = cc
taken_checked name (Ok s) soup is =
    let taken = taken_closed name s soup (open_pair (all_edges s.triples)) is in
    let P : Soup → Type 0 = λ t. open_pair (all_edges t.triples) ≡ None in
    (ap Ok taken.0, subst P taken.0 taken.1)

-- where a file holds a text that reads back, and the mesh is closed, the mesh is read of it
text_is_taken : (k : ℕ) (limits : Limits) (m : Soup) → ReadsBack k limits m.points m.triples m.labels → open_pair (all_edges m.triples) ≡ None → IsReadable k limits m
text_is_taken k limits m back closed name files other is =
    let text = obj_text k m.points m.triples m.labels in
    let read : Result Bytes Refusal → Result Soup Refusal = λ r. (joined (Ask name ∷ []) r (λ bytes. give (checked name (mesh_soup k limits name bytes)) files)).result in
    let reads : mesh_soup k limits name text ≡ Ok (as_saved m) = ap (λ b. soup_in (if b then Stl else Obj) k limits text) other ∙ back.reads in
    let short = le-ltb limits.file_bytes (length text) back.fits in
    ap (λ file. read (bytes_in limits name file)) is
    ∙ ap (λ b. read (cond b (Err (PastLimit FileBytes (length text))) (Ok text))) short
    ∙ ap (checked name) reads
    ∙ ap (if_closed name (as_saved m)) closed

-- a mesh within the limits with a label for each triangle
pub record IsLabelledWithin (limits : Limits) (m : Soup) : Type 0 where
  pub within : IsWithin limits m.points m.triples
  pub labels : AreLabels (length m.triples) m.labels

-- what is read of a file of either format is such a mesh
mesh_within : (k : ℕ) (limits : Limits) (name bytes : Bytes) (m : Soup) → IsLawful limits → mesh_soup k limits name bytes ≡ Ok m → IsLabelledWithin limits m
mesh_within k limits name bytes m lawful is = by_format (is_stl name) is where
  by_format : (b : Bool) → soup_in (if b then Stl else Obj) k limits bytes ≡ Ok m → IsLabelledWithin limits m
  by_format true read =
      let given = stl_gives_meshes k limits lawful bytes m read in
      record { within = given.0; labels = subst (AreLabels (length m.triples)) (sym given.1) (no_labels-are m.triples) }
  by_format false read =
      let given = obj_gives_meshes k limits lawful bytes m read in
      record { within = given.0; labels = given.1 }

-- what was read of a file is a closed mesh within the limits
pub mesh_taken : (k : ℕ) (limits : Limits) (name bytes : Bytes) (m : Soup) → IsLawful limits → checked name (mesh_soup k limits name bytes) ≡ Ok m
    → IsLabelledWithin limits m × (open_pair (all_edges m.triples) ≡ None)
mesh_taken k limits name bytes m lawful is =
    let taken = taken_checked name (mesh_soup k limits name bytes) m is in
    (mesh_within k limits name bytes m lawful taken.0, taken.1)

-- a closed mesh within the limits is read where its OBJ text is written
pub closed_readable : (k : ℕ) (limits : Limits) (m : Soup) → k ≤ 6 → IsLawful limits → IsLabelledWithin limits m →
    open_pair (all_edges m.triples) ≡ None → IsReadable k limits m
closed_readable k limits m few lawful given closed =
    text_is_taken k limits m (meshes_read_back k few limits lawful m.points m.triples m.labels given.within given.labels) closed

-- so a mesh that was read is read again
pub read_again : (k : ℕ) (limits : Limits) (name bytes : Bytes) (m : Soup) → k ≤ 6 → IsLawful limits →
    checked name (mesh_soup k limits name bytes) ≡ Ok m → IsReadable k limits m
read_again k limits name bytes m few lawful is =
    let taken = mesh_taken k limits name bytes m lawful is in
    closed_readable k limits m few lawful taken.0 taken.1

-- a file is asked for
asked : (k : ℕ) (limits : Limits) (name : Bytes) → Keeps (WritesReadable k limits) (λ _. Unit {0}) (ask_file limits name)
asked k limits name = record { actions = λ files. All-cons (WritesReadable k limits) (Ask name) [] tt (All-nil (WritesReadable k limits)); value = λ files a is. tt }

-- the mesh that is read is read again where it is written
pub mesh_asked : (k : ℕ) (limits : Limits) (name : Bytes) → k ≤ 6 → IsLawful limits → Keeps (WritesReadable k limits) (IsReadable k limits) (ask_mesh k limits name)
mesh_asked k limits name few lawful =
    keeps_then (WritesReadable k limits) (λ _. Unit {0}) (IsReadable k limits) (ask_file limits name)
    (λ bytes. give (checked name (mesh_soup k limits name bytes))) (asked k limits name)
    (λ bytes _. keeps_give (WritesReadable k limits) (IsReadable k limits) (checked name (mesh_soup k limits name bytes))
    (λ m is. read_again k limits name bytes m few lawful is))

-- whatever the files, a mesh that is read of one is read again where it is written
pub mesh_given : (k : ℕ) (limits : Limits) (name : Bytes) → k ≤ 6 → IsLawful limits → GivesReadable k limits name
mesh_given k limits name few lawful = (mesh_asked k limits name few lawful).value

-- a line
said : (k : ℕ) (limits : Limits) (line : Bytes) → Keeps (WritesReadable k limits) (λ _. Unit {0}) (say_line line)
said k limits line = keeps_act (WritesReadable k limits) (Say line) tt

-- a mesh that is read again is written and told
mesh_copied : (k : ℕ) (limits : Limits) (to : Bytes) (m : Soup) → IsReadable k limits m → Keeps (WritesReadable k limits) (λ _. Unit {0}) (copied_task k to m)
mesh_copied k limits to m readable =
    keeps_then (WritesReadable k limits) (λ _. Unit {0}) (λ _. Unit {0}) (write_mesh k to m.points m.triples m.labels) (λ _. say_line (copied_line to m))
    (keeps_act (WritesReadable k limits) (Write to (mesh_text k to m.points m.triples m.labels)) (m, refl, readable))
    (λ _ _. said k limits (copied_line to m))

-- what a copy writes is read again
pub copy_keeps : (k : ℕ) (limits : Limits) (from to : Bytes) → k ≤ 6 → IsLawful limits → Keeps (WritesReadable k limits) (λ _. Unit {0}) (copy_task k limits from to)
copy_keeps k limits from to few lawful =
    keeps_then (WritesReadable k limits) (IsReadable k limits) (λ _. Unit {0}) (ask_mesh k limits from) (copied_task k to)
    (mesh_asked k limits from few lawful) (mesh_copied k limits to)

-- a point in a mesh writes nothing
pub inside_keeps : (k : ℕ) (meanings : Meanings) (limits : Limits) (name : Bytes) (point : List ℤ) → k ≤ 6 → IsLawful limits
    → Keeps (WritesReadable k limits) (λ _. Unit {0}) (inside_task k meanings limits name point)
inside_keeps k meanings limits name point few lawful =
    keeps_then (WritesReadable k limits) (IsReadable k limits) (λ _. Unit {0}) (ask_mesh k limits name) (winding_task meanings point)
    (mesh_asked k limits name few lawful)
    (λ m _. said k limits (winding_line (meanings.winding point m)))
