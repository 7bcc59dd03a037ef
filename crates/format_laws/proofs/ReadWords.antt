-- The words of a line up to a comment have some bytes, of which the first is no #.
use Rattle.std.proofs.Common.{◌≡◌, ℕ, ◌<◌, Bool, true, false, List, [], ◌∷◌, length, refl, arith}
use Rattle.std.specs.Prelude.{cond}
use Rattle.std.specs.List.{All}
use Rattle.std.proofs.lemmas.List.Elements.{All-nil, All-cons, All-head, All-tail}
use Rattle.text_terms.specs.Lines.{add_first, before_comment, begins_word, is_blank, is_comment, words_of}
use Rattle.format_laws.specs.ReadWords.{IsReadWord}

-- some bytes
abbrev pub HasBytes : List ℕ → Type 0
HasBytes word = 0 < length word

some_first : (c : ℕ) (words : List (List ℕ)) → All HasBytes words → All HasBytes (add_first c words)
some_first c [] all = All-cons HasBytes (c ∷ []) [] (omega arith) (All-nil HasBytes)
some_first c (w ∷ ws) all = All-cons HasBytes (c ∷ w) ws (omega arith) (All-tail HasBytes w ws all)

-- each word of a line has some
pub words_some : (line : List ℕ) → All HasBytes (words_of line)
words_some [] = All-nil HasBytes
words_some (c ∷ cs) = by_test (is_blank c) (begins_word cs) (words_some cs) where
  by_test : (blank more : Bool) → All HasBytes (words_of cs) → All HasBytes (cond blank (words_of cs) (cond more (add_first c (words_of cs)) ((c ∷ []) ∷ words_of cs)))
  by_test true more later = later
  by_test false true later = some_first c (words_of cs) later
  by_test false false later = All-cons HasBytes (c ∷ []) (words_of cs) (omega arith) later

-- and up to a comment none begins one
pub before : (words : List (List ℕ)) → All HasBytes words → All IsReadWord (before_comment words)
before [] all = All-nil IsReadWord
before (w ∷ ws) all = by_test (is_comment w) refl (before ws (All-tail HasBytes w ws all)) where
  by_test : (b : Bool) → is_comment w ≡ b → All IsReadWord (before_comment ws) → All IsReadWord (cond b [] (w ∷ before_comment ws))
  by_test true e later = All-nil IsReadWord
  by_test false e later = All-cons IsReadWord w (before_comment ws) (record { some = All-head HasBytes w ws all; no_comment = e }) later

pub read_words : (line : List ℕ) → All IsReadWord (before_comment (words_of line))
read_words line = before (words_of line) (words_some line)
