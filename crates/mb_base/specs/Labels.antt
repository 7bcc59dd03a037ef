-- How labels are stored: where each starts among bytes, and there its length and its bytes.
use Rattle.std.specs.Prelude.{ℕ, ◌+◌, ◌-◌, ◌≤◌, List, [], map, take, drop, get_or, length, nat_lt, if◌then◌else◌, Option, Some, None}
use Rattle.std.specs.declared.rc.Rc.{Rc}
use Rattle.mesh_terms.specs.Labels.{IsLabel, label_at}

-- the label that is stored at a place
abbrev pub stored_label : List ℕ → ℕ → List ℕ
stored_label bytes start = take (get_or bytes start 0) (drop (start + 1) bytes)

abbrev pub stored_labels : List ℕ → List ℕ → List (List ℕ)
stored_labels bytes starts = map (stored_label bytes) starts

-- all its bytes are there
pub record IsStored (bytes : List ℕ) (start : ℕ) : Type 0 where
  pub within : start + 1 + get_or bytes start 0 ≤ length bytes
  pub label : IsLabel (stored_label bytes start)

-- the labels of a list that may be shared; no list stands for none
abbrev pub labels_in : {Z : Type 0} → Option (Rc (List (List ℕ)) Z) → List (List ℕ)
labels_in None = []
labels_in (Some shared) = shared.value

-- the label of face x of two lists, of which the first has so many faces
abbrev pub label_of_two : List (List ℕ) → List (List ℕ) → ℕ → ℕ → List ℕ
label_of_two first second count x = if nat_lt x count then label_at first x else label_at second (x - count)
