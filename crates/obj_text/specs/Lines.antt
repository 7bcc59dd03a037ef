-- Lines that go on in the next: their words, part after part, and the lines after them.
use Rattle.std.specs.Prelude.{ℕ, suc, List, [], ◌∷◌, ◌++◌, if◌then◌else◌}
use Rattle.text_terms.specs.Lines.{lines_of, words_of, is_continued, blank_last}

-- the words of the first of the lines, as far as it goes on
abbrev pub first_words : List (List ℕ) → List (List ℕ)
first_words [] = []
first_words (l ∷ ls) = if is_continued l then words_of (blank_last l) ++ first_words ls else words_of l

-- the words that are left of a line: in the rest of this part of it, and in the text in which it goes on
abbrev pub words_left : List ℕ → List ℕ → List (List ℕ)
words_left part later = words_of part ++ first_words (lines_of later)

-- the lines after the first of the lines from line n on, as far as it goes on, and the number of the first of them
abbrev pub lines_past : ℕ → List (List ℕ) → ℕ × List (List ℕ)
lines_past n [] = (n, [])
lines_past n (l ∷ ls) = if is_continued l then lines_past (suc n) ls else (suc n, ls)
