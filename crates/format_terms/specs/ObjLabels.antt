-- The label of a g line, and the line of a label.
use Rattle.std.specs.Prelude.{ℕ, ◌-◌, List, [], ◌++◌, Bool, ◌||◌, ◌==◌, if◌then◌else◌, nat_lt, length, map, take, codes, bytes_eq}
use Rattle.text_terms.specs.Lines.{last_is}
use Rattle.text_terms.specs.Written.{line_of}
use Rattle.mesh_terms.specs.Labels.{with_blanks}

-- a byte below 33, 127 or \
abbrev pub is_bad_byte : ℕ → Bool
is_bad_byte b = nat_lt b 33 || (b == 127) || (b == 92)

-- becomes _
abbrev pub label_byte : ℕ → ℕ
label_byte b = if is_bad_byte b then 95 else b

-- a blank at the end is dropped
abbrev pub without_blank : List ℕ → List ℕ
without_blank text = if last_is 32 text then take (length text - 1) text else text

-- the label of the words after g: the first 64 bytes of the words joined by one blank
abbrev pub label_of : List (List ℕ) → List ℕ
label_of words = without_blank (take 64 (with_blanks (map (map label_byte) words)))

-- g and the label, or g alone for the empty one
abbrev pub label_line : List ℕ → List ℕ
label_line label = if bytes_eq label [] then line_of (codes "g") else line_of (codes "g " ++ label)

-- the line before a triple of this label after one of the label before; none where it stays
abbrev pub label_change : List ℕ → List ℕ → List ℕ
label_change before label = if bytes_eq label before then [] else label_line label
