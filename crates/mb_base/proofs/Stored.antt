-- Labels that are stored stay where bytes are added behind.
use Rattle.std.proofs.Common.{◌≡◌, ℕ, ◌+◌, ◌≤◌, List, [], ◌∷◌, ◌++◌, length, take, drop, get_or, refl, sym, ◌∙◌, subst, arith, length-append, length-drop, Result, Ok, Err, OnOk, OnErr}
use Rattle.std.specs.List.{All}
use Rattle.std.proofs.Math.Seq.{drop-append-add, get_or-append_seam}
use Rattle.std.proofs.lemmas.List.{get_or_append_left, drop-append-le, take-append-le, take_all}
use Rattle.std.proofs.lemmas.List.Elements.{All-head, All-tail, All-map, All-weaker}
use Rattle.mesh_terms.specs.Labels.{IsLabel}
use Rattle.mb_base.specs.Labels.{IsStored, stored_label, stored_labels}

-- a stored label stays
pub label-more : (bytes more : List ℕ) (start : ℕ) → IsStored bytes start → stored_label (bytes ++ more) start ≡ stored_label bytes start
label-more bytes more start is =
    let inside : start + 1 ≤ length bytes = omega (arith, is.within) in
    let count : get_or (bytes ++ more) start 0 ≡ get_or bytes start 0 = get_or_append_left bytes more 0 start (omega (arith, inside)) in
    let rest : drop (start + 1) (bytes ++ more) ≡ drop (start + 1) bytes ++ more = drop-append-le (start + 1) bytes more inside in
    (λ i. take (count i) (rest i)) ∙ take-append-le (get_or bytes start 0) (drop (start + 1) bytes) more (omega (arith, is.within, length-drop (start + 1) bytes))

pub stored-more : (bytes more : List ℕ) (start : ℕ) → IsStored bytes start → IsStored (bytes ++ more) start
stored-more bytes more start is =
    let count : get_or (bytes ++ more) start 0 ≡ get_or bytes start 0 = get_or_append_left bytes more 0 start (omega (arith, is.within)) in
    record {
      within = omega (arith, is.within, count, length-append bytes more);
      label = subst IsLabel (sym (label-more bytes more start is)) is.label;
    }

pub all-more : (bytes more : List ℕ) (starts : List ℕ) → All (IsStored bytes) starts → All (IsStored (bytes ++ more)) starts
all-more bytes more starts all = All-weaker (IsStored bytes) (IsStored (bytes ++ more)) (stored-more bytes more) starts all

pub labels-more : (bytes more : List ℕ) (starts : List ℕ) → All (IsStored bytes) starts → stored_labels (bytes ++ more) starts ≡ stored_labels bytes starts
labels-more bytes more [] all = refl
labels-more bytes more (s ∷ ss) all =
    λ i. label-more bytes more s (All-head (IsStored bytes) s ss all) i ∷ labels-more bytes more ss (All-tail (IsStored bytes) s ss all) i

-- a label that is stored behind others
count-last : (bytes label : List ℕ) → get_or (bytes ++ length label ∷ label) (length bytes) 0 ≡ length label
count-last bytes label = get_or-append_seam bytes (length label) label 0

pub label-last : (bytes label : List ℕ) → stored_label (bytes ++ length label ∷ label) (length bytes) ≡ label
label-last bytes label = (λ i. take (count-last bytes label i) (drop-append-add bytes (length label ∷ label) 1 i)) ∙ take_all (length label) label (omega arith)

pub stored-last : (bytes label : List ℕ) → IsLabel label → IsStored (bytes ++ length label ∷ label) (length bytes)
stored-last bytes label is = record {
  within = omega (arith, count-last bytes label, length-append bytes (length label ∷ label));
  label = subst IsLabel (sym (label-last bytes label)) is;
}

-- all stored labels are labels
pub all-labels : (bytes starts : List ℕ) → All (IsStored bytes) starts → All IsLabel (stored_labels bytes starts)
all-labels bytes starts all = All-map IsLabel (stored_label bytes) starts (All-weaker (IsStored bytes) (λ s. IsLabel (stored_label bytes s)) (λ s is. is.label) starts all)

-- labels stay, whether bytes were added or not
pub labels-stay : {T E : Type 0} (bytes now more : List ℕ) (starts : List ℕ) (r : Result T E) → OnOk r (now ≡ bytes ++ more) → OnErr r (now ≡ bytes)
    → All (IsStored bytes) starts → stored_labels now starts ≡ stored_labels bytes starts
labels-stay bytes now more starts (Ok _) added kept all = rw added (labels-more bytes more starts all)
labels-stay bytes now more starts (Err _) added kept all = rw kept refl
