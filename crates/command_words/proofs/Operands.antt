-- Operands by their number, and the commands that have one or two.
use Rattle.std.proofs.Common.{◌≡◌, ◌∙◌, ◌==◌, ℕ, List, [], ◌∷◌, Bool, true, false, Some, length, map, slice_index_or, refl, ap, sym}
use Rattle.run_terms.specs.Files.{Bytes}
use Rattle.play_terms.specs.Formats.{is_mesh_name}
use Rattle.play_terms.specs.Words.{CopyFile, RunScript, copy_of, run_of}

pub one_of : {X : Type 0} (f : X → Bytes) (os : List X) (none : X) → length os ≡ 1 → map f os ≡ f (slice_index_or os 0 none) ∷ []
one_of f [] none long = cc
one_of f (a ∷ []) none long = refl
one_of f (a ∷ b ∷ rest) none long = cc

pub two_of : {X : Type 0} (f : X → Bytes) (os : List X) (none : X) → length os ≡ 2
    → map f os ≡ f (slice_index_or os 0 none) ∷ f (slice_index_or os 1 none) ∷ []
two_of f [] none long = cc
two_of f (a ∷ []) none long = cc
two_of f (a ∷ b ∷ []) none long = refl
two_of f (a ∷ b ∷ c ∷ rest) none long = cc

-- a name whose bytes passed the test is that of a mesh file
pub tested : (name bytes : Bytes) (test : Bool) → bytes ≡ name → test ≡ is_mesh_name bytes → test ≡ true → is_mesh_name name ≡ true
tested name bytes test same is holds = ap is_mesh_name (sym same) ∙ sym is ∙ holds

pub copy_named : (k : ℕ) (operands : List Bytes) (from to : Bytes) → operands ≡ from ∷ to ∷ [] → is_mesh_name from ≡ true → is_mesh_name to ≡ true
    → Some (CopyFile k from to) ≡ copy_of k operands
copy_named k operands from to two first second = rw two (rw (first, second) refl)

script_named : (k : ℕ) (script : Bytes) → (length script == 0) ≡ false → Some (RunScript k script) ≡ run_of k (script ∷ [])
script_named k [] some = cc
script_named k (b ∷ bs) some = refl

pub run_named : (k : ℕ) (operands : List Bytes) (script : Bytes) (empty : Bool) → operands ≡ script ∷ [] → empty ≡ (length script == 0) → empty ≡ false
    → Some (RunScript k script) ≡ run_of k operands
run_named k operands script empty one is some = script_named k script (sym is ∙ some) ∙ ap (run_of k) (sym one)
