-- What the line of a label gives its reader.
use Rattle.std.proofs.Common.{◌≡◌, ◌≢◌, ℕ, ◌<◌, ◌≤◌, if◌then◌else◌, Bool, true, false, List, [], ◌∷◌, ◌++◌, length}
use Rattle.std.proofs.Common.{codes, refl, sym, ap, ◌∙◌, subst, arith, length-append}
use Rattle.std.specs.Prelude.{bytes_eq, cond}
use Rattle.std.specs.List.{All}
use Rattle.std.proofs.lemmas.Bool.Decides.{nat_tests}
use Rattle.std.proofs.lemmas.List.Elements.{All-cons, All-head, All-tail, All-weaker}
use Rattle.text_terms.specs.Lines.{before_comment, is_comment}
use Rattle.text_terms.specs.Written.{line_of}
use Rattle.mesh_terms.specs.Labels.{IsLabelByte, IsLabelWord, IsLabel, with_blanks}
use Rattle.format_terms.specs.ObjLabels.{label_line, label_of}
use Rattle.format_laws.proofs.Alone.{IsAlone}
use Rattle.format_laws.proofs.Bytes.{Above, Above-lower, IsWord}
use Rattle.format_laws.proofs.LabelWords.{label_of-words, last_is-after, last_is-other}
use Rattle.format_laws.proofs.Plain.{IsPlain, IsPlain-letter}
use Rattle.format_laws.proofs.SavedLines.{HasWords}
use Rattle.format_laws.proofs.Words.{Above-joined, words_of-joined}

-- bytes of a label are above a blank
Above-label : (word : List ℕ) → All IsLabelByte word → Above 32 word
Above-label [] all = tt
Above-label (c ∷ cs) all = ((All-head IsLabelByte c cs all).above, Above-label cs (All-tail IsLabelByte c cs all))

-- a first byte that is no # begins no comment
no_comment-first : (word : List ℕ) → IsLabelWord word → is_comment word ≡ false
no_comment-first [] is = refl
no_comment-first (c ∷ cs) is = let other = is.no_comment in grind (arith, nat_tests, other)

-- the words of a label are plain
IsPlain-label : (word : List ℕ) → IsLabelWord word → IsPlain word
IsPlain-label word is = record {
  word = record { some = is.some; marks = Above-label word is.bytes };
  no_comment = no_comment-first word is;
  no_end = last_is-other 92 word (All-weaker IsLabelByte (λ c. c ≢ 92) (λ c b. b.no_backslash) word is.bytes);
}

-- plain words joined by one blank do not go on
alone-joined : (ws : List (List ℕ)) → All IsPlain ws → IsAlone (with_blanks ws)
alone-joined [] all = refl
alone-joined (w ∷ []) all = (All-head IsPlain w [] all).no_end
alone-joined (w ∷ v ∷ ws) all =
    let later = All-tail IsPlain w (v ∷ ws) all in
    last_is-after 92 w (with_blanks (v ∷ ws)) (some v ws (All-head IsPlain v ws later)) ∙ alone-joined (v ∷ ws) later where
      some : (v : List ℕ) (ws : List (List ℕ)) → IsPlain v → 0 < length (with_blanks (v ∷ ws))
      some v [] is = is.word.some
      some v (u ∷ us) is = omega (arith, is.word.some, length-append v (32 ∷ with_blanks (u ∷ us)))

-- and none of them begins a comment
none_of_comment : (ws : List (List ℕ)) → All IsPlain ws → before_comment ws ≡ ws
none_of_comment [] all = refl
none_of_comment (w ∷ ws) all =
    ap (λ (b : Bool). cond b [] (w ∷ before_comment ws)) (All-head IsPlain w ws all).no_comment
    ∙ ap (λ (l : List (List ℕ)). w ∷ l) (none_of_comment ws (All-tail IsPlain w ws all))

-- so they are the words of their line
HasWords-joined : (ws : List (List ℕ)) → All IsPlain ws → HasWords (with_blanks ws) ws
HasWords-joined ws all =
    let words = All-weaker IsPlain IsWord (λ w is. is.word) ws all in
    record {
      above = Above-lower 13 31 (with_blanks ws) (omega arith) (Above-joined ws words);
      alone = alone-joined ws all;
      words_are = ap before_comment (words_of-joined ws words) ∙ none_of_comment ws all;
    }

-- the line of a label, without its end
abbrev pub label_line_text : List ℕ → List ℕ
label_line_text label = if bytes_eq label [] then codes "g" else codes "g " ++ label

-- is g and the words of the label
label_joined : (ws : List (List ℕ)) → All IsLabelWord ws → label_line_text (with_blanks ws) ≡ with_blanks (codes "g" ∷ ws)
label_joined [] all = refl
label_joined ([] ∷ ws) all = absurd (omega (arith, (All-head IsLabelWord [] ws all).some))
label_joined ((c ∷ cs) ∷ []) all = refl
label_joined ((c ∷ cs) ∷ v ∷ ws) all = refl

-- of which the label is made again
pub record ReadsLabel (label : List ℕ) : Type 0 where
  pub words : List (List ℕ)
  pub has : HasWords (label_line_text label) (codes "g" ∷ words)
  pub makes : label_of words ≡ label

reads_joined : (ws : List (List ℕ)) → All IsLabelWord ws → length (with_blanks ws) ≤ 64 → ReadsLabel (with_blanks ws)
reads_joined ws all short =
    let plain : All IsPlain (codes "g" ∷ ws) = All-cons IsPlain (codes "g") ws (IsPlain-letter 103 (omega arith)) (All-weaker IsLabelWord IsPlain IsPlain-label ws all) in
    record {
      words = ws;
      has = subst (λ l. HasWords l (codes "g" ∷ ws)) (sym (label_joined ws all)) (HasWords-joined (codes "g" ∷ ws) plain);
      makes = label_of-words ws all short;
    }

pub reads_label : (label : List ℕ) → IsLabel label → ReadsLabel label
reads_label label is = subst ReadsLabel (sym is.joined) (reads_joined is.words is.each (subst (λ l. length l ≤ 64) is.joined is.short))

-- the line of a label is its text and an end
pub label_line-text : (label : List ℕ) → label_line label ≡ line_of (label_line_text label)
label_line-text label = by_test (bytes_eq label []) where
  by_test : (b : Bool) → (if b then line_of (codes "g") else line_of (codes "g " ++ label)) ≡ line_of (if b then codes "g" else codes "g " ++ label)
  by_test true = refl
  by_test false = refl

-- it has at most 67 bytes
pub length-label_line : (label : List ℕ) → length label ≤ 64 → length (label_line label) ≤ 67
length-label_line label short = by_test (bytes_eq label []) where
  by_test : (b : Bool) → length (if b then line_of (codes "g") else line_of (codes "g " ++ label)) ≤ 67
  by_test true = omega arith
  by_test false = omega (arith, length-append (codes "g " ++ label) (10 ∷ []), length-append (codes "g ") label, short)
