-- The words of a label: as they are read they make it again, and a label that is cut is one.
use Rattle.std.proofs.Common.{◌≡◌, ◌≢◌, ℕ, zero, suc, ◌+◌, ◌-◌, ◌<◌, ◌≤◌, if◌then◌else◌, Bool, true, false, List, []}
use Rattle.std.proofs.Common.{◌∷◌, ◌++◌, length, map, take, get_or, refl, ap, ◌∙◌, arith}
use Rattle.std.proofs.Common.{length-append, length-take}
use Rattle.std.specs.Prelude.{◌==◌, nat_le}
use Rattle.std.specs.List.{All}
use Rattle.std.proofs.Math.Seq.{take-append-add}
use Rattle.std.proofs.lemmas.Bool.Decides.{nat_tests}
use Rattle.std.proofs.lemmas.List.{length-map, take_all, take-append-le}
use Rattle.std.proofs.lemmas.List.Elements.{All-nil, All-cons, All-head, All-tail, All-map, All-take, All-weaker}
use Rattle.text_terms.specs.Lines.{last_is}
use Rattle.mesh_terms.specs.Labels.{IsLabelByte, IsLabelWord, IsLabel, with_blanks}
use Rattle.format_terms.specs.ObjLabels.{is_bad_byte, label_byte, without_blank, label_of}
use Rattle.format_laws.specs.ReadWords.{IsReadWord}
use Rattle.format_laws.proofs.Plain.{last_is-append}

-- a byte that takes the place of another is one of a label
IsLabelByte-label_byte : (b : ℕ) → IsLabelByte (label_byte b)
IsLabelByte-label_byte b = by_test (is_bad_byte b) refl where
  by_test : (bad : Bool) → is_bad_byte b ≡ bad → IsLabelByte (if bad then 95 else b)
  by_test true e = record { above = omega arith; no_delete = λ p. absurd (omega (arith, p)); no_backslash = λ p. absurd (omega (arith, p)) }
  by_test false e =
      record {
        above = grind (arith, nat_tests, e);
        no_delete = λ p. absurd (grind (arith, nat_tests, e, p));
        no_backslash =
            λ p. absurd (grind (arith, nat_tests, e, p));
      }

-- and one of a label stays
label_byte-stays : (b : ℕ) → IsLabelByte b → label_byte b ≡ b
label_byte-stays b is =
    let good : is_bad_byte b ≡ false = grind (arith, nat_tests, is.above, is.no_delete, is.no_backslash) in
    ap (λ (bad : Bool). if bad then 95 else b) good

-- none becomes a #
no_comment-label_byte : (c : ℕ) → (c == 35) ≡ false → label_byte c ≢ 35
no_comment-label_byte c other = by_test (is_bad_byte c) where
  by_test : (bad : Bool) → (if bad then 95 else c) ≢ 35
  by_test true = λ p. absurd (omega (arith, p))
  by_test false = λ p. absurd (grind (arith, nat_tests, other, p))

-- what is read of a word is a word of a label
IsLabelWord-read : (word : List ℕ) → IsReadWord word → IsLabelWord (map label_byte word)
IsLabelWord-read [] is = absurd (omega (arith, is.some))
IsLabelWord-read (c ∷ cs) is = record {
  some = omega (arith, length-map (c ∷ cs) label_byte);
  bytes = All-map IsLabelByte label_byte (c ∷ cs) (λ k d inside. IsLabelByte-label_byte (get_or (c ∷ cs) k d));
  no_comment = no_comment-label_byte c is.no_comment;
}

pub IsLabelWord-each : (words : List (List ℕ)) → All IsReadWord words → All IsLabelWord (map (map label_byte) words)
IsLabelWord-each words all = All-map IsLabelWord (map label_byte) words (All-weaker IsReadWord (λ w. IsLabelWord (map label_byte w)) IsLabelWord-read words all)

-- the words of a label stay
word-stays : (word : List ℕ) → All IsLabelByte word → map label_byte word ≡ word
word-stays [] all = refl
word-stays (c ∷ cs) all = λ i. label_byte-stays c (All-head IsLabelByte c cs all) i ∷ word-stays cs (All-tail IsLabelByte c cs all) i

words-stay : (words : List (List ℕ)) → All IsLabelWord words → map (map label_byte) words ≡ words
words-stay [] all = refl
words-stay (w ∷ ws) all = λ i. word-stays w (All-head IsLabelWord w ws all).bytes i ∷ words-stay ws (All-tail IsLabelWord w ws all) i

-- bytes other than b do not end in b
pub last_is-other : (b : ℕ) (cs : List ℕ) → All (λ c. c ≢ b) cs → last_is b cs ≡ false
last_is-other b [] all = refl
last_is-other b (c ∷ []) all = let other = All-head (λ c. c ≢ b) c [] all in grind (arith, nat_tests, other)
last_is-other b (c ∷ d ∷ cs) all = last_is-other b (d ∷ cs) (All-tail (λ c. c ≢ b) c (d ∷ cs) all)

-- a text ends as what stands after a blank in it
pub last_is-after : (b : ℕ) (front rest : List ℕ) → 0 < length rest → last_is b (front ++ 32 ∷ rest) ≡ last_is b rest
last_is-after b front [] some = absurd (omega (arith, some))
last_is-after b front (c ∷ cs) some = last_is-append b front 32 (c ∷ cs)

-- words are no less than the first of them
some_bytes : (w : List ℕ) (ws : List (List ℕ)) → IsLabelWord w → 0 < length (with_blanks (w ∷ ws))
some_bytes w [] is = is.some
some_bytes w (v ∷ ws) is = omega (arith, is.some, length-append w (32 ∷ with_blanks (v ∷ ws)))

-- a word of a label ends in no blank
no_blank : (word : List ℕ) → All IsLabelByte word → last_is 32 word ≡ false
no_blank word all = last_is-other 32 word (All-weaker IsLabelByte (λ c. c ≢ 32) (λ c is p. absurd (omega (arith, is.above, p))) word all)

-- nor do words
no_blank-words : (words : List (List ℕ)) → All IsLabelWord words → last_is 32 (with_blanks words) ≡ false
no_blank-words [] all = refl
no_blank-words (w ∷ []) all = no_blank w (All-head IsLabelWord w [] all).bytes
no_blank-words (w ∷ v ∷ ws) all =
    let later = All-tail IsLabelWord w (v ∷ ws) all in
    last_is-after 32 w (with_blanks (v ∷ ws)) (some_bytes v ws (All-head IsLabelWord v ws later)) ∙ no_blank-words (v ∷ ws) later

-- so nothing is dropped
without_blank-stays : (text : List ℕ) → last_is 32 text ≡ false → without_blank text ≡ text
without_blank-stays text ends = ap (λ (b : Bool). if b then take (length text - 1) text else text) ends

-- the words of a label, read again, make it
pub label_of-words : (words : List (List ℕ)) → All IsLabelWord words → length (with_blanks words) ≤ 64 → label_of words ≡ with_blanks words
label_of-words words all short =
    ap (λ (ws : List (List ℕ)). without_blank (take 64 (with_blanks ws))) (words-stay words all)
    ∙ ap without_blank (take_all 64 (with_blanks words) short)
    ∙ without_blank-stays (with_blanks words) (no_blank-words words all)

-- the words of the first n bytes of words, of which the last may be cut
abbrev cut_words : ℕ → List (List ℕ) → List (List ℕ)
cut_words n [] = []
cut_words n (w ∷ ws) = if n == 0 then [] else if nat_le n (length w) then take n w ∷ [] else w ∷ cut_words (n - length w - 1) ws

-- the beginning of a word is a word
IsLabelWord-take : (n : ℕ) (word : List ℕ) → 0 < n → IsLabelWord word → IsLabelWord (take n word)
IsLabelWord-take zero word more is = absurd (omega (arith, more))
IsLabelWord-take (suc n) [] more is = absurd (omega (arith, is.some))
IsLabelWord-take (suc n) (c ∷ cs) more is = record { some = omega arith; bytes = All-take IsLabelByte (suc n) (c ∷ cs) is.bytes; no_comment = is.no_comment }

-- each word of a cut is a word
cut_words-each : (n : ℕ) (words : List (List ℕ)) → All IsLabelWord words → All IsLabelWord (cut_words n words)
cut_words-each n [] all = All-nil IsLabelWord
cut_words-each n (w ∷ ws) all = by_test (n == 0) (nat_le n (length w)) refl (cut_words-each (n - length w - 1) ws (All-tail IsLabelWord w ws all)) where
  by_test : (none within : Bool) → (n == 0) ≡ none → All IsLabelWord (cut_words (n - length w - 1) ws)
      → All IsLabelWord (if none then [] else if within then take n w ∷ [] else w ∷ cut_words (n - length w - 1) ws)
  by_test true within e later = All-nil IsLabelWord
  by_test false true e later =
      All-cons IsLabelWord (take n w) [] (IsLabelWord-take n w (grind (arith, nat_tests, e)) (All-head IsLabelWord w ws all)) (All-nil IsLabelWord)
  by_test false false e later = All-cons IsLabelWord w (cut_words (n - length w - 1) ws) (All-head IsLabelWord w ws all) later

-- a blank at the end of a text is dropped
without_blank-end : (front : List ℕ) → without_blank (front ++ 32 ∷ []) ≡ front
without_blank-end front =
    let long : length (front ++ 32 ∷ []) - 1 ≡ length front = omega (arith, length-append front (32 ∷ [])) in
    ap (λ (b : Bool). if b then take (length (front ++ 32 ∷ []) - 1) (front ++ 32 ∷ []) else front ++ 32 ∷ []) (last_is-append 32 front 32 [])
    ∙ ap (λ (n : ℕ). take n (front ++ 32 ∷ [])) long
    ∙ take-append-le (length front) front (32 ∷ []) (omega arith)
    ∙ take_all (length front) front (omega arith)

-- and likewise after a blank in it
without_blank-after : (front rest : List ℕ) → 0 < length rest → without_blank (front ++ 32 ∷ rest) ≡ front ++ 32 ∷ without_blank rest
without_blank-after front rest some =
    ap (λ (b : Bool). if b then take (length (front ++ 32 ∷ rest) - 1) (front ++ 32 ∷ rest) else front ++ 32 ∷ rest)
    (last_is-after 32 front rest some) ∙ by_test (last_is 32 rest) where
      long : length (front ++ 32 ∷ rest) - 1 ≡ length front + suc (length rest - 1)
      long = omega (arith, length-append front (32 ∷ rest), some)

      by_test : (b : Bool) →
          (if b then take (length (front ++ 32 ∷ rest) - 1) (front ++ 32 ∷ rest) else front ++ 32 ∷ rest) ≡ front ++ 32 ∷ (if b then take (length rest - 1) rest else rest)
      by_test true = ap (λ (n : ℕ). take n (front ++ 32 ∷ rest)) long ∙ take-append-add front (32 ∷ rest) (suc (length rest - 1))
      by_test false = refl

-- a word before the words of a cut that has some bytes
cut-after : (w : List ℕ) (n : ℕ) (v : List ℕ) (ws : List (List ℕ)) → 0 < n →
    w ++ 32 ∷ with_blanks (cut_words n (v ∷ ws)) ≡ with_blanks (w ∷ cut_words n (v ∷ ws))
cut-after w n v ws more = by_test (n == 0) (nat_le n (length v)) (grind (arith, nat_tests, more)) where
  by_test : (none within : Bool) → none ≡ false
      → w ++ 32 ∷ with_blanks (if none then [] else if within then take n v ∷ [] else v ∷ cut_words (n - length v - 1) ws)
      ≡ with_blanks (w ∷ (if none then [] else if within then take n v ∷ [] else v ∷ cut_words (n - length v - 1) ws))
  by_test true within e = absurd (cc)
  by_test false true e = refl
  by_test false false e = refl

-- the first n bytes of words, without a blank at the end, are the words of the cut
pub cut : (n : ℕ) (words : List (List ℕ)) → All IsLabelWord words → without_blank (take n (with_blanks words)) ≡ with_blanks (cut_words n words)
cut n [] all = nothing n where
  nothing : (n : ℕ) → without_blank (take n []) ≡ []
  nothing zero = refl
  nothing (suc n) = refl
cut n (w ∷ ws) all = by_test (n == 0) (nat_le n (length w)) refl refl (cut (n - length w - 1) ws (All-tail IsLabelWord w ws all)) where
  here : IsLabelWord w
  here = All-head IsLabelWord w ws all

  -- within the first word
  within_word : n ≤ length w → without_blank (take n w) ≡ take n w
  within_word low = without_blank-stays (take n w) (no_blank (take n w) (All-take IsLabelByte n w here.bytes))

  front : (ws : List (List ℕ)) → n ≤ length w → take n (with_blanks (w ∷ ws)) ≡ take n w
  front [] low = refl
  front (v ∷ ws) low = take-append-le n w (32 ∷ with_blanks (v ∷ ws)) low

  -- past it and the blank after it
  past : (m : ℕ) (v : List ℕ) (ws : List (List ℕ)) → n ≡ length w + suc m → IsLabelWord v →
      without_blank (take m (with_blanks (v ∷ ws))) ≡ with_blanks (cut_words m (v ∷ ws))
      → without_blank (take n (w ++ 32 ∷ with_blanks (v ∷ ws))) ≡ with_blanks (w ∷ cut_words m (v ∷ ws))
  past m v ws is first later =
      ap (λ (k : ℕ). without_blank (take k (w ++ 32 ∷ with_blanks (v ∷ ws)))) is
      ∙ ap without_blank (take-append-add w (32 ∷ with_blanks (v ∷ ws)) (suc m))
      ∙ by_more m later where
        by_more : (m : ℕ) → without_blank (take m (with_blanks (v ∷ ws))) ≡ with_blanks (cut_words m (v ∷ ws)) →
            without_blank (w ++ 32 ∷ take m (with_blanks (v ∷ ws))) ≡ with_blanks (w ∷ cut_words m (v ∷ ws))
        by_more zero later = without_blank-end w
        by_more (suc m) later =
            let some : 0 < length (take (suc m) (with_blanks (v ∷ ws))) = omega (arith, length-take (suc m) (with_blanks (v ∷ ws)), some_bytes v ws first) in
            without_blank-after w (take (suc m) (with_blanks (v ∷ ws))) some
            ∙ ap (λ (l : List ℕ). w ++ 32 ∷ l) later
            ∙ cut-after w (suc m) v ws (omega arith)

  beyond : (ws : List (List ℕ)) → All IsLabelWord ws → length w < n →
      without_blank (take (n - length w - 1) (with_blanks ws)) ≡ with_blanks (cut_words (n - length w - 1) ws)
      → without_blank (take n (with_blanks (w ∷ ws))) ≡ with_blanks (w ∷ cut_words (n - length w - 1) ws)
  beyond [] all high later = ap without_blank (take_all n w (omega (arith, high))) ∙ without_blank-stays w (no_blank w here.bytes)
  beyond (v ∷ ws) all high later = past (n - length w - 1) v ws (omega (arith, high)) (All-head IsLabelWord v ws all) later

  by_test : (none within : Bool) → (n == 0) ≡ none → nat_le n (length w) ≡ within →
      without_blank (take (n - length w - 1) (with_blanks ws)) ≡ with_blanks (cut_words (n - length w - 1) ws)
      → without_blank (take n (with_blanks (w ∷ ws))) ≡ with_blanks (if none then [] else if within then take n w ∷ [] else w ∷ cut_words (n - length w - 1) ws)
  by_test true within e f later = let nothing : n ≡ 0 = grind (arith, nat_tests, e) in ap (λ (k : ℕ). without_blank (take k (with_blanks (w ∷ ws)))) nothing
  by_test false true e f later = let low : n ≤ length w = grind (arith, nat_tests, f) in ap without_blank (front ws low) ∙ within_word low
  by_test false false e f later = beyond ws (All-tail IsLabelWord w ws all) (grind (arith, nat_tests, f)) later

-- a text without its last blank is no longer
without_blank-short : (text : List ℕ) (most : ℕ) → length text ≤ most → length (without_blank text) ≤ most
without_blank-short text most short = by_test (last_is 32 text) where
  by_test : (b : Bool) → length (if b then take (length text - 1) text else text) ≤ most
  by_test true = omega (arith, length-take (length text - 1) text, short)
  by_test false = short

-- what is read of the words of a line is a label
pub IsLabel-read : (words : List (List ℕ)) → All IsReadWord words → IsLabel (label_of words)
IsLabel-read words all =
    let each = IsLabelWord-each words all in
    record {
      words = cut_words 64 (map (map label_byte) words);
      joined = cut 64 (map (map label_byte) words) each;
      each = cut_words-each 64 (map (map label_byte) words) each;
      short = without_blank-short (take 64 (with_blanks (map (map label_byte) words))) 64 (omega (arith, length-take 64 (with_blanks (map (map label_byte) words))));
    }
