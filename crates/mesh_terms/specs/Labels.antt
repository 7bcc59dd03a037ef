-- Labels of triangles: the group of each, as a file names it.
use Rattle.std.specs.Prelude.{◌≡◌, ◌≢◌, ℕ, ◌-◌, ◌<◌, ◌≤◌, List, [], ◌∷◌, ◌++◌, length, get_or, replicate, Option, Some, None}
use Rattle.std.specs.List.{All}
use Rattle.mesh_terms.specs.Meshes.{Triple}

-- a byte of a word: above a blank, and neither 127 nor \
pub record IsLabelByte (b : ℕ) : Type 0 where
  pub above : 32 < b
  pub no_delete : b ≢ 127
  pub no_backslash : b ≢ 92

-- some such bytes, of which the first is no #
pub record IsLabelWord (word : List ℕ) : Type 0 where
  pub some : 0 < length word
  pub bytes : All IsLabelByte word
  pub no_comment : get_or word 0 0 ≢ 35

-- words joined by one blank
abbrev pub with_blanks : List (List ℕ) → List ℕ
with_blanks [] = []
with_blanks (w ∷ []) = w
with_blanks (w ∷ v ∷ ws) = w ++ 32 ∷ with_blanks (v ∷ ws)

-- at most 64 bytes: words joined by one blank, or nothing
pub record IsLabel (label : List ℕ) : Type 0 where
  pub words : List (List ℕ)
  pub joined : label ≡ with_blanks words
  pub each : All IsLabelWord words
  pub short : length label ≤ 64

-- a label for each of so many triples
pub record AreLabels (count : ℕ) (labels : List (List ℕ)) : Type 0 where
  pub one_each : length labels ≡ count
  pub each : All IsLabel labels

-- the label of triple t; past the end of the list it is empty
abbrev pub label_at : List (List ℕ) → ℕ → List ℕ
label_at labels t = get_or labels t []

-- an empty label for each triple
abbrev pub no_labels : List Triple → List (List ℕ)
no_labels ts = replicate (length ts) []

-- a label for each triple: those of the list, and empty ones past its end
abbrev pub labels_for : List Triple → List (List ℕ) → List (List ℕ)
labels_for ts labels = labels ++ replicate (length ts - length labels) []

-- the same where there may be no list, which stands for empty ones
abbrev pub labels_given : List Triple → Option (List (List ℕ)) → List (List ℕ)
labels_given ts None = no_labels ts
labels_given ts (Some labels) = labels_for ts labels
