-- Files of which one was written.
use Rattle.std.proofs.Common.{◌≡◌, [], Some, None, ap, sym, ◌∙◌, refl, inl, inr, ◌⊎◌, true, false, cond}
use Rattle.std.proofs.Math.Path.{fun_ext}
use Rattle.std.specs.Str.{bytes_eq}
use Rattle.std.proofs.lemmas.Bool.{cases_Bool}
use Rattle.std.proofs.lemmas.Slice.Eq.{bytes_eq-Decides}
use Rattle.run_terms.specs.Files.{Bytes, Files, put, IsPrefix, OthersStay, IsKeptOrEmpty}
use Rattle.mesh_writer.specs.Pages.{without}

-- the files are as they were, or this one holds a first part of its text
abbrev pub IsSavedInPart : Bytes → Bytes → Files → Files → Type 0
IsSavedInPart name text old new = (new ≡ old) ⊎ ((part : Bytes) × IsPrefix part text × (new ≡ put name part old))

-- a name is this one or another
pub same_or_other : (n name : Bytes) → ((bytes_eq n name ≡ true) × (n ≡ name)) ⊎ ((bytes_eq n name ≡ false) × (n ≡ name → ⊥))
same_or_other n name =
    let d = bytes_eq-Decides n name in
    elim (cases_Bool (bytes_eq n name)) [ inl is ↦ inl (is, d.0 is) | inr is_not ↦ inr (is_not, λ e. let is = d.1 e in cc) ]

-- where a name holds the text and all others stay, the text was put there
pub written : (name text : Bytes) (old new : Files) → new name ≡ Some text → OthersStay name old new → new ≡ put name text old
written name text old new here others =
    fun_ext (λ n. elim (same_or_other n name) [
      | inl same ↦ ap new same.1 ∙ here ∙ sym (ap (λ b. cond b (Some text) (old n)) same.0)
      | inr other ↦ others n other.1 ∙ sym (ap (λ b. cond b (Some text) (old n)) other.0)
    ])

-- where the other files are equal, all names but this one stay
pub others_stay : (name : Bytes) (old new : Files) → without name new ≡ without name old → OthersStay name old new
others_stay name old new same n other =
    elim (same_or_other n name) [
      | inl is ↦ absurd (other is.1)
      | inr is ↦
          let at_new : without name new n ≡ new n = ap (λ b. cond b None (new n)) is.0 in
          let at_old : without name old n ≡ old n = ap (λ b. cond b None (old n)) is.0 in
          sym at_new ∙ ap (λ f. f n) same ∙ at_old
    ]

-- a name that holds what it held stays too
pub kept_all : (name : Bytes) (old new : Files) → new name ≡ old name → OthersStay name old new → new ≡ old
kept_all name old new here others =
    fun_ext (λ n. elim (same_or_other n name) [ inl same ↦ ap new same.1 ∙ here ∙ sym (ap old same.1) | inr other ↦ others n other.1 ])

-- a file that could not be begun was not saved, and holds nothing or what it held
pub begun_in_part : (name text : Bytes) (old new : Files) → IsKeptOrEmpty (old name) (new name) → OthersStay name old new → IsSavedInPart name text old new
begun_in_part name text old new (inl kept) others = inl (kept_all name old new kept others)
begun_in_part name text old new (inr empty) others = inr ([], (text, refl), written name [] old new empty others)

-- the same with the part
pub begun_files : (name : Bytes) (old new : Files) → IsKeptOrEmpty (old name) (new name) → OthersStay name old new → (◌≡◌ {A = Bytes} [] [] × (new ≡ old)) ⊎ (new ≡ put name [] old)
begun_files name old new (inl kept) others = inl (refl, kept_all name old new kept others)
begun_files name old new (inr empty) others = inr (written name [] old new empty others)

-- a file that was begun, and then written in two steps of which the second left the others
pub written_after : (name text : Bytes) (old mid new : Files) → new name ≡ Some text → OthersStay name old mid → without name new ≡ without name mid → new ≡ put name text old
written_after name text old mid new here begun same =
    written name text old new here (λ n other. others_stay name mid new same n other ∙ begun n other)
