-- What a play writes is read again, whatever the words.
use Rattle.std.proofs.Common.{◌≡◌, ◌≤◌, ◌-◌, ◌&&◌, ℕ, ℤ, Bool, List, [], ◌∷◌, true, false, cond, nat_le, codes, Option, Some, None, All, arith, refl, subst, inl, inr}
use Rattle.std.specs.Option.{option_and_then}
use Rattle.std.specs.Str.{bytes_eq}
use Rattle.std.proofs.lemmas.Bool.{and_parts, cases_Bool, leb-true}
use Rattle.std.proofs.lemmas.List.Elements.{All-nil}
use Rattle.mesh_terms.specs.Limits.{IsLawful, Limits}
use Rattle.run_terms.specs.Files.{Bytes, Files}
use Rattle.play_terms.specs.ReadingBack.{CopiesReadable, WritesReadable, digits_in}
use Rattle.play_terms.specs.Words.{Command, CopyFile, Given, InsideFile, RunScript, after_end, before_end, command, command_by, command_with, copy_of}
use Rattle.play_terms.specs.Words.{digits_of, given, inside_at, inside_of, run_of, with_more}
use Rattle.play_laws.proofs.ReadingBack.{copy_keeps, inside_keeps, mesh_given}
use Rattle.geometric_laws.specs.Laws.{ScriptsAreGeometric}
use Rattle.operation_laws.specs.Laws.{OperationsAreReadable}
use Rattle.operation_laws.specs.Results.{ScriptsGiveResults, ScriptsRemesh}
use Rattle.play_terms.specs.Program.{command_task}
use Rattle.play_laws.proofs.ScriptsReadingBack.{meshes_kept, script_keeps}
use Rattle.stl_laws.proofs.ReadingBack.{copies_stl, gives_stl}
use Rattle.program_runs.specs.Windings.{windings}
use Rattle.program_runs.specs.Playing.{meanings}
use Rattle.program_runs.specs.Results.{CommandGivesResults, CommandIsGeometric, CommandKeepsMeshes, CommandReadsStl, CommandRemeshes}

-- ---- the digits of words are at most 6

digit_few : (vs : List Bytes) (k : ℕ) → digits_of vs ≡ Some k → k ≤ 6
digit_few [] k is = let four : 4 ≡ k = cc in omega (arith, four)
digit_few ([] ∷ vs) k is = cc
digit_few ((c ∷ []) ∷ []) k is =
    elim (cases_Bool (nat_le 48 c && nat_le c 54)) [
      | inl within ↦
          let P : Bool → Type 0 = λ b. cond b (Some (c - 48)) None ≡ Some k in
          let value : Some (c - 48) ≡ Some k = subst P within is in
          let same : c - 48 ≡ k = cc in
          omega (arith, same, leb-true c 54 (and_parts (nat_le 48 c) (nat_le c 54) within).1)
      | inr past ↦
          let P : Bool → Type 0 = λ b. cond b (Some (c - 48)) None ≡ Some k in
          let none : None ≡ Some k = subst P past is in
          cc
    ]
digit_few ((c ∷ []) ∷ v ∷ vs) k is = cc
digit_few ((c ∷ e ∷ cs) ∷ vs) k is = cc

choice_few : (b : Bool) (x y : Option Command) → digits_in x ≤ 6 → digits_in y ≤ 6 → digits_in (cond b x y) ≤ 6
choice_few true x y first second = first
choice_few false x y first second = second

none_few : digits_in None ≤ 6
none_few = omega arith

copy_few : (k : ℕ) (operands : List Bytes) → k ≤ 6 → digits_in (copy_of k operands) ≤ 6
copy_few k [] few = none_few
copy_few k (from ∷ []) few = none_few
copy_few k (from ∷ to ∷ []) few = choice_few _ (Some (CopyFile k from to)) None few none_few
copy_few k (from ∷ to ∷ w ∷ ws) few = none_few

inside_at_few : (k : ℕ) (file : Bytes) (point : Option (List ℤ)) → k ≤ 6 → digits_in (inside_at k file point) ≤ 6
inside_at_few k file None few = none_few
inside_at_few k file (Some point) few = few

inside_few : (k : ℕ) (operands : List Bytes) → k ≤ 6 → digits_in (inside_of k operands) ≤ 6
inside_few k [] few = none_few
inside_few k (file ∷ []) few = none_few
inside_few k (file ∷ x ∷ []) few = none_few
inside_few k (file ∷ x ∷ y ∷ []) few = none_few
inside_few k (file ∷ x ∷ y ∷ z ∷ []) few = choice_few _ (inside_at k file _) None (inside_at_few k file _ few) none_few
inside_few k (file ∷ x ∷ y ∷ z ∷ w ∷ ws) few = none_few

run_few : (k : ℕ) (operands : List Bytes) → k ≤ 6 → digits_in (run_of k operands) ≤ 6
run_few k [] few = none_few
run_few k (script ∷ []) few = choice_few _ None (Some (RunScript k script)) none_few few
run_few k (script ∷ w ∷ ws) few = none_few

with_few : (w : Bytes) (operands : List Bytes) (digits : Option ℕ) → ((k : ℕ) → digits ≡ Some k → k ≤ 6)
    → digits_in (option_and_then (command_with w operands) digits) ≤ 6
with_few w operands None few = none_few
with_few w operands (Some k) few =
    let least = few k refl in
    choice_few (bytes_eq w (codes "copy")) (copy_of k operands) _ (copy_few k operands least)
    (choice_few (bytes_eq w (codes "inside")) (inside_of k operands) _ (inside_few k operands least)
    (choice_few (bytes_eq w (codes "run")) (run_of k operands) None (run_few k operands least) none_few))

given_few : (w : Bytes) (o : Option Given) → digits_in (command_by w o) ≤ 6
given_few w None = none_few
given_few w (Some g) = with_few w g.operands (digits_of g.digits) (digit_few g.digits)

pub few_digits : (words : List Bytes) → digits_in (command words) ≤ 6
few_digits [] = none_few
few_digits (w ∷ ws) = given_few w (with_more (after_end ws) (given (before_end ws)))

-- ---- what a command writes

-- the mesh that a command copies
pub copies_back : (limits : Limits) (what : Option Command) → IsLawful limits → digits_in what ≤ 6 → CopiesReadable limits what
copies_back limits None lawful few = tt
copies_back limits (Some (CopyFile k from to)) lawful few = mesh_given k limits from few lawful
copies_back limits (Some (InsideFile k file point)) lawful few = tt
copies_back limits (Some (RunScript k script)) lawful few = tt

-- all that it writes, by the law of what operations give
pub writes_back : (limits : Limits) (what : Option Command) → IsLawful limits → digits_in what ≤ 6 → OperationsAreReadable → (files : Files)
    → All (WritesReadable (digits_in what) limits) (command_task meanings limits what files).actions
writes_back limits None lawful few law files = All-nil (WritesReadable 4 limits)
writes_back limits (Some (CopyFile k from to)) lawful few law files = (copy_keeps k limits from to few lawful).actions files
writes_back limits (Some (InsideFile k file point)) lawful few law files = (inside_keeps k windings limits file point few lawful).actions files
writes_back limits (Some (RunScript k script)) lawful few law files =
    (script_keeps meanings.scripts k limits few lawful (law k limits few lawful) script).actions files

-- what its operations give, by the law of operations in scripts
pub gives_results : (limits : Limits) (what : Option Command) → IsLawful limits → digits_in what ≤ 6 → ScriptsGiveResults → CommandGivesResults limits what
gives_results limits None lawful few law = tt
gives_results limits (Some (CopyFile k from to)) lawful few law = tt
gives_results limits (Some (InsideFile k file point)) lawful few law = tt
gives_results limits (Some (RunScript k script)) lawful few law = law k limits few lawful script

-- what they keep under exact kernels, by the law of that
pub gives_geometric : (limits : Limits) (what : Option Command) → IsLawful limits → digits_in what ≤ 6 → ScriptsAreGeometric → CommandIsGeometric limits what
gives_geometric limits None lawful few law = tt
gives_geometric limits (Some (CopyFile k from to)) lawful few law = tt
gives_geometric limits (Some (InsideFile k file point)) lawful few law = tt
gives_geometric limits (Some (RunScript k script)) lawful few law = law k limits few lawful script

-- and what remeshing keeps, by the law of that
pub remeshes : (limits : Limits) (what : Option Command) → IsLawful limits → digits_in what ≤ 6 → ScriptsRemesh → CommandRemeshes limits what
remeshes limits None lawful few law = tt
remeshes limits (Some (CopyFile k from to)) lawful few law = tt
remeshes limits (Some (InsideFile k file point)) lawful few law = tt
remeshes limits (Some (RunScript k script)) lawful few law = law k limits few lawful script

-- how the meshes of its names are read and saved, by the law of what operations give
pub keeps_meshes : (limits : Limits) (what : Option Command) → IsLawful limits → digits_in what ≤ 6 → OperationsAreReadable → CommandKeepsMeshes limits what
keeps_meshes limits None lawful few law = tt
keeps_meshes limits (Some (CopyFile k from to)) lawful few law = tt
keeps_meshes limits (Some (InsideFile k file point)) lawful few law = tt
keeps_meshes limits (Some (RunScript k script)) lawful few law = meshes_kept meanings.scripts k limits few lawful (law k limits few lawful) script

-- what is read of their STL texts, by how they are read of their OBJ texts
pub reads_stl : (limits : Limits) (what : Option Command) → IsLawful limits → digits_in what ≤ 6 → OperationsAreReadable → CommandReadsStl limits what
reads_stl limits None lawful few law = tt
reads_stl limits (Some (CopyFile k from to)) lawful few law = copies_stl k limits from few lawful (mesh_given k limits from few lawful)
reads_stl limits (Some (InsideFile k file point)) lawful few law = tt
reads_stl limits (Some (RunScript k script)) lawful few law =
    gives_stl meanings.scripts k limits script few lawful (meshes_kept meanings.scripts k limits few lawful (law k limits few lawful) script)
