-- The lines of a file and the words of a line.
use Rattle.std.specs.Prelude.{ℕ, suc, ◌-◌, List, [], ◌∷◌, ◌++◌, false, Bool, cond, if◌then◌else◌, not, ◌&&◌, ◌||◌, ◌==◌, length, map, take, drop, codes, bytes_eq}

-- a line ends at LF; what is left over is a line where it is not empty
abbrev pub add_first : ℕ → List (List ℕ) → List (List ℕ)
add_first c [] = (c ∷ []) ∷ []
add_first c (line ∷ lines) = (c ∷ line) ∷ lines

abbrev pub raw_lines : List ℕ → List (List ℕ)
raw_lines [] = []
raw_lines (c ∷ cs) = cond (c == 10) ([] ∷ raw_lines cs) (add_first c (raw_lines cs))

-- one CR as the last byte is dropped
abbrev pub without_cr : List ℕ → List ℕ
without_cr [] = []
without_cr (c ∷ []) = cond (c == 13) [] (c ∷ [])
without_cr (c ∷ d ∷ cs) = c ∷ without_cr (d ∷ cs)

-- a space or a tab
abbrev pub is_blank : ℕ → Bool
is_blank c = (c == 32) || (c == 9)

abbrev pub begins_word : List ℕ → Bool
begins_word [] = false
begins_word (c ∷ cs) = not (is_blank c)

-- the words of a line: longest runs without blanks
abbrev pub words_of : List ℕ → List (List ℕ)
words_of [] = []
words_of (c ∷ cs) = cond (is_blank c) (words_of cs) (cond (begins_word cs) (add_first c (words_of cs)) ((c ∷ []) ∷ words_of cs))

-- a word that begins with # ends the line
abbrev pub is_comment : List ℕ → Bool
is_comment [] = false
is_comment (c ∷ cs) = c == 35

abbrev pub before_comment : List (List ℕ) → List (List ℕ)
before_comment [] = []
before_comment (w ∷ ws) = cond (is_comment w) [] (w ∷ before_comment ws)

-- the lines of a file, without a CR at their ends
abbrev pub lines_of : List ℕ → List (List ℕ)
lines_of bytes = map without_cr (raw_lines bytes)

-- EF BB BF at the start is passed over
abbrev pub without_mark : List ℕ → List ℕ
without_mark bytes = if bytes_eq (take 3 bytes) (239 ∷ 187 ∷ 191 ∷ []) then drop 3 bytes else bytes

-- the lines with their numbers, from n on
abbrev pub numbered : {X : Type 0} → ℕ → List X → List (ℕ × X)
numbered n [] = []
numbered n (x ∷ xs) = (n, x) ∷ numbered (suc n) xs

abbrev pub last_is : ℕ → List ℕ → Bool
last_is b [] = false
last_is b (c ∷ []) = c == b
last_is b (c ∷ d ∷ cs) = last_is b (d ∷ cs)

abbrev pub begins_comment : List (List ℕ) → Bool
begins_comment [] = false
begins_comment (w ∷ ws) = is_comment w

-- a line whose last byte is \ continues in the next line, but never one whose first word begins with #
abbrev pub is_continued : List ℕ → Bool
is_continued line = last_is 92 line && not (begins_comment (words_of line))

-- the \ counts as a blank
abbrev pub blank_last : List ℕ → List ℕ
blank_last line = take (length line - 1) line ++ codes " "

-- the part in front of the joined line that it continues in
abbrev pub with_next : ℕ → List ℕ → List (ℕ × List ℕ) → List (ℕ × List ℕ)
with_next n part [] = (n, part) ∷ []
with_next n part (l ∷ ls) = (n, part ++ l.1) ∷ ls

-- the lines joined, each with the number of its first part; the first line is line n
abbrev pub joined_from : ℕ → List (List ℕ) → List (ℕ × List ℕ)
joined_from n [] = []
joined_from n (l ∷ ls) = if is_continued l then with_next n (blank_last l) (joined_from (suc n) ls) else (n, l) ∷ joined_from (suc n) ls

abbrev pub joined_lines : List ℕ → List (ℕ × List ℕ)
joined_lines bytes = joined_from 1 (lines_of bytes)
