-- The labels of source faces, and the outcome that has them.
use Rattle.std.proofs.Common.{◌≡◌, ◌≤◌, ◌<◌, ◌-◌, inl, inr, ℕ, nat_lt, true, false, Bool, Option, Some, None, is_some}
use Rattle.std.proofs.Common.{option_map, List, [], ◌∷◌, ◌++◌, if◌then◌else◌, length, map, replicate, refl, sym, ◌∙◌}
use Rattle.std.proofs.Common.{ap, arith}
use Rattle.std.proofs.Math.Seq.{get_or-append_right}
use Rattle.std.proofs.lemmas.Bool.{cases_lt, lt-ltb, le-ltb, true≢false}
use Rattle.std.proofs.lemmas.List.{append-nil, get_or_append_left}
use Rattle.mesh_terms.specs.Labels.{label_at, labels_for, labels_given, no_labels}
use Rattle.mesh_terms.specs.Meshes.{Mesh, Triple}
use Rattle.mesh_terms.proofs.Labels.{label_at-none}
use Rattle.mesh_check.specs.Reduced.{kept_marks, kept_triples, picked}
use Rattle.mesh_check.proofs.KeptLabels.{kept_none}
use Rattle.mesh_boolean.specs.declared.labels.FaceLabels.{FaceLabels}
use Rattle.mesh_boolean.specs.declared.outcome.Outcome.{Outcome}
use Rattle.mesh_boolean.specs.Labels.{face_label, with_labels}
use Rattle.mesh_boolean.specs.Operation.{reduced_mesh}

-- a mesh without labels has none after reduction
pub reduced_none : (m : Mesh) → m.labels ≡ no_labels m.triples → (t : ℕ) → label_at (reduced_mesh m).labels t ≡ []
reduced_none m none t =
    ap (λ (labels : List (List ℕ)). label_at (picked (kept_marks m.triples) labels) t) none
    ∙ ap (λ (labels : List (List ℕ)). label_at labels t) (sym (kept_none m.triples)) ∙ label_at-none (kept_triples m.triples) t

-- the labels of two lists, one behind the other
label_at-left : (ls ms : List (List ℕ)) (x : ℕ) → x < length ls → label_at (ls ++ ms) x ≡ label_at ls x
label_at-left ls ms x low = get_or_append_left ls ms [] x low

label_at-right : (ls ms : List (List ℕ)) (x : ℕ) → length ls ≤ x → label_at (ls ++ ms) x ≡ label_at ms (x - length ls)
label_at-right ls ms x high = get_or-append_right ls ms x [] high

-- where no list is given all are empty
pub given_none : {X : Type 0} (f : X → List (List ℕ)) (r : Option X) (ts : List Triple) (labels : List (List ℕ)) →
    labels_given ts (option_map f r) ≡ labels → is_some r ≡ false → labels ≡ no_labels ts
given_none f None ts labels is none = sym is
given_none f (Some x) ts labels is none = absurd (true≢false none)

-- so two lists of empty ones give empty ones
pub both_none : (ls ms : List (List ℕ)) → ((t : ℕ) → label_at ls t ≡ []) → ((t : ℕ) → label_at ms t ≡ []) → (x : ℕ) → label_at (ls ++ ms) x ≡ []
both_none ls ms first second x = elim (cases_lt x (length ls)) as (λ _. label_at (ls ++ ms) x ≡ []) [
  | inl low ↦ label_at-left ls ms x low ∙ first x
  | inr high ↦ label_at-right ls ms x high ∙ second (x - length ls)
]

-- and what is kept of two lists gives theirs
pub face_label-of : (ls ms : List (List ℕ)) (l : FaceLabels) → ((t : ℕ) → label_at l.first t ≡ label_at ls t) → ((t : ℕ) → label_at l.second t ≡ label_at ms t)
    → l.faces ≡ length ls → (x : ℕ) → face_label l x ≡ label_at (ls ++ ms) x
face_label-of ls ms l first second faces x = elim (cases_lt x (length ls)) as (λ _. face_label l x ≡ label_at (ls ++ ms) x) [
  | inl low ↦
      let is : nat_lt x l.faces ≡ true = lt-ltb x l.faces (omega (arith, low, faces)) in
      ap (λ (b : Bool). if b then label_at l.first x else label_at l.second (x - l.faces)) is ∙ first x ∙ sym (label_at-left ls ms x low)
  | inr high ↦
      let is : nat_lt x l.faces ≡ false = le-ltb x l.faces (omega (arith, high, faces)) in
      ap (λ (b : Bool). if b then label_at l.first x else label_at l.second (x - l.faces)) is ∙ second (x - l.faces)
      ∙ ap (λ (n : ℕ). label_at ms (x - n)) faces ∙ sym (label_at-right ls ms x high)
]

-- as many empty labels
map-empty : (xs : List ℕ) (n : ℕ) → length xs ≡ n → map {B = List ℕ} (λ (x : ℕ). []) xs ≡ replicate n []
map-empty xs n same = map-const xs ∙ ap (λ (k : ℕ). replicate k []) same where
  map-const : (ys : List ℕ) → map {B = List ℕ} (λ (y : ℕ). []) ys ≡ replicate (length ys) []
  map-const [] = refl
  map-const (y ∷ ys) = ap (λ (l : List (List ℕ)). [] ∷ l) (map-const ys)

pub all_empty : (source : List ℕ) (ts : List Triple) → length source ≡ length ts → map {B = List ℕ} (λ (x : ℕ). []) source ≡ no_labels ts
all_empty source ts same = map-empty source (length ts) same

-- two functions that agree everywhere
pub map-same_everywhere : (xs : List ℕ) (f g : ℕ → List ℕ) → ((x : ℕ) → f x ≡ g x) → map f xs ≡ map g xs
map-same_everywhere xs f g same = ap (λ (h : ℕ → List ℕ). map h xs) (λ i x. same x i)

-- a list with a label for each triple needs no empty ones behind it
pub for_all : (ts : List Triple) (labels : List (List ℕ)) → length labels ≡ length ts → labels_for ts labels ≡ labels
for_all ts labels same =
    let none : length ts - length labels ≡ 0 = omega (arith, same) in
    ap (λ (n : ℕ). labels ++ replicate n []) none ∙ append-nil labels

-- an outcome with its own labels
pub with_own : (o : Outcome) (labels : List (List ℕ)) → o.mesh.labels ≡ labels → o ≡ with_labels o labels
with_own o labels same = λ i. record o { mesh = record { points = o.mesh.points; triples = o.mesh.triples; labels = same i } }

-- and with another mesh of the same points and triples
pub with_mesh : (o : Outcome) (mesh : Mesh) (labels : List (List ℕ)) → mesh.points ≡ o.mesh.points → mesh.triples ≡ o.mesh.triples →
    mesh.labels ≡ labels → record o { mesh = mesh } ≡ with_labels o labels
with_mesh o mesh labels points triples same = λ i. record o { mesh = record { points = points i; triples = triples i; labels = same i } }
