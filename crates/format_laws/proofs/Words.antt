-- Words with one space between them are the words of their line.
use Rattle.std.proofs.Common.{◌≡◌, ℕ, ◌<◌, false, not, List, [], ◌∷◌, ◌++◌, length, refl, ap, ◌∙◌, sym, arith, append-nil}
use Rattle.std.specs.List.{All}
use Rattle.std.proofs.lemmas.Bool.Decides.{nat_tests}
use Rattle.std.proofs.lemmas.List.Elements.{All-head, All-tail}
use Rattle.mesh_terms.specs.Labels.{with_blanks}
use Rattle.text_terms.specs.Lines.{is_blank, begins_word, words_of, add_first}
use Rattle.text_terms.proofs.Words.{words_of-last, words_of-more}
use Rattle.format_laws.proofs.Bytes.{Above, Above-append, Above-lower, IsWord}

-- a byte above a space is no blank
no_blank : (c : ℕ) → 32 < c → is_blank c ≡ false
no_blank c mark = grind (arith, nat_tests)

-- a word stands first where no word goes on after it
words_of-word : (word rest : List ℕ) → 0 < length word → Above 32 word → begins_word rest ≡ false → words_of (word ++ rest) ≡ word ∷ words_of rest
words_of-word [] rest some marks ends = absurd (omega arith)
words_of-word (c ∷ []) rest some marks ends = words_of-last c rest (no_blank c marks.0) ends
words_of-word (c ∷ d ∷ word) rest some marks ends =
    words_of-more c (d ∷ (word ++ rest)) (no_blank c marks.0) (ap not (no_blank d marks.1.0))
    ∙ ap (add_first c) (words_of-word (d ∷ word) rest (omega arith) marks.1 ends)

-- words joined by one blank are the words of their line
pub words_of-joined : (ws : List (List ℕ)) → All IsWord ws → words_of (with_blanks ws) ≡ ws
words_of-joined [] all = refl
words_of-joined (w ∷ []) all =
    let here = All-head IsWord w [] all in
    ap words_of (sym (append-nil w)) ∙ words_of-word w [] here.some here.marks refl
words_of-joined (w ∷ v ∷ ws) all =
    let here = All-head IsWord w (v ∷ ws) all in
    words_of-word w (32 ∷ with_blanks (v ∷ ws)) here.some here.marks refl
    ∙ ap (λ (l : List (List ℕ)). w ∷ l) (words_of-joined (v ∷ ws) (All-tail IsWord w (v ∷ ws) all))

-- with no byte below a space
pub Above-joined : (ws : List (List ℕ)) → All IsWord ws → Above 31 (with_blanks ws)
Above-joined [] all = tt
Above-joined (w ∷ []) all = Above-lower 31 32 w (omega arith) (All-head IsWord w [] all).marks
Above-joined (w ∷ v ∷ ws) all =
    Above-append 31 w (32 ∷ with_blanks (v ∷ ws)) (Above-lower 31 32 w (omega arith) (All-head IsWord w (v ∷ ws) all).marks)
    (omega arith, Above-joined (v ∷ ws) (All-tail IsWord w (v ∷ ws) all))

-- four words with a space between them
abbrev pub spaced : List ℕ → List ℕ → List ℕ → List ℕ → List ℕ
spaced w a b c = w ++ 32 ∷ (a ++ 32 ∷ (b ++ 32 ∷ c))

-- are the words of the line
pub words_of-spaced : (w a b c : List ℕ) → IsWord w → IsWord a → IsWord b → IsWord c → words_of (spaced w a b c) ≡ w ∷ a ∷ b ∷ c ∷ []
words_of-spaced w a b c is_w is_a is_b is_c =
    words_of-word w (32 ∷ (a ++ 32 ∷ (b ++ 32 ∷ c))) is_w.some is_w.marks refl
    ∙ ap (λ (ws : List (List ℕ)). w ∷ ws) (words_of-word a (32 ∷ (b ++ 32 ∷ c)) is_a.some is_a.marks refl)
    ∙ ap (λ (ws : List (List ℕ)). w ∷ a ∷ ws) (words_of-word b (32 ∷ c) is_b.some is_b.marks refl)
    ∙ ap (λ (l : List ℕ). w ∷ a ∷ b ∷ words_of l) (sym (append-nil c))
    ∙ ap (λ (ws : List (List ℕ)). w ∷ a ∷ b ∷ ws) (words_of-word c [] is_c.some is_c.marks refl)

-- with no byte below a space
pub Above-spaced : (w a b c : List ℕ) → IsWord w → IsWord a → IsWord b → IsWord c → Above 31 (spaced w a b c)
Above-spaced w a b c is_w is_a is_b is_c =
    joined w (a ++ 32 ∷ (b ++ 32 ∷ c)) is_w (joined a (b ++ 32 ∷ c) is_a (joined b c is_b (Above-lower 31 32 c (omega arith) is_c.marks)))
  where
    joined : (x rest : List ℕ) → IsWord x → Above 31 rest → Above 31 (x ++ 32 ∷ rest)
    joined x rest word above = Above-append 31 x (32 ∷ rest) (Above-lower 31 32 x (omega arith) word.marks) (omega arith, above)
