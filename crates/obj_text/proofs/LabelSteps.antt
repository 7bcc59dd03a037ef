-- A label grows word after word, as far as there is room, and the list of labels triangle after triangle.
use Rattle.std.proofs.Common.{◌≡◌, ℕ, zero, suc, ◌+◌, ◌-◌, ◌<◌, ◌≤◌, if◌then◌else◌, Bool, true, false, List, [], ◌∷◌}
use Rattle.std.proofs.Common.{◌++◌, length, map, take, get_or, replicate, refl, sym, ap, ◌∙◌, arith, append-nil}
use Rattle.std.proofs.Common.{append_assoc, length-append, add-one}
use Rattle.std.specs.List.{All, flat_map}
use Rattle.std.proofs.lemmas.List.{length-map, map-append, take_all, take-append-le, replicate-append-replicate, length-replicate}
use Rattle.std.proofs.lemmas.List.Elements.{All-nil, All-append}
use Rattle.std.proofs.Math.Seq.{take-suc}
use Rattle.text_terms.specs.Lines.{is_continued, blank_last, words_of, before_comment, lines_of}
use Rattle.mesh_terms.specs.Labels.{with_blanks, labels_for}
use Rattle.mesh_terms.specs.Meshes.{Triple}
use Rattle.format_terms.specs.ObjLabels.{label_byte, label_of, without_blank}
use Rattle.format_laws.specs.ReadWords.{IsReadWord}
use Rattle.format_laws.proofs.ReadWords.{HasBytes, words_some, before}
use Rattle.obj_text.specs.Groups.{joined_on, padded, put_behind}
use Rattle.obj_text.specs.Lines.{first_words, words_left}

-- the words of a line over its parts have some bytes
first_words-some : (lines : List (List ℕ)) → All HasBytes (first_words lines)
first_words-some [] = All-nil HasBytes
first_words-some (l ∷ ls) = by_test (is_continued l) (first_words-some ls) where
  by_test : (b : Bool) → All HasBytes (first_words ls) → All HasBytes (if b then words_of (blank_last l) ++ first_words ls else words_of l)
  by_test true later = All-append HasBytes (words_of (blank_last l)) (first_words ls) (words_some (blank_last l)) later
  by_test false later = words_some l

-- and none of those that are left begins with #
pub left_read : (part later : List ℕ) → All IsReadWord (before_comment (words_left part later))
left_read part later =
    before (words_left part later) (All-append HasBytes (words_of part) (first_words (lines_of later)) (words_some part) (first_words-some (lines_of later)))

-- the first n bytes stay the first where more stand behind them
pub take-more : (n : ℕ) (xs ys : List ℕ) → take n (take n xs ++ ys) ≡ take n (xs ++ ys)
take-more zero xs ys = refl
take-more (suc n) [] ys = refl
take-more (suc n) (x ∷ xs) ys = ap (λ (zs : List ℕ). x ∷ zs) (take-more n xs ys)

-- a word behind a blank
pub after_blank : (label word : List ℕ) → take 64 (take 64 (label ++ 32 ∷ []) ++ word) ≡ take 64 (label ++ 32 ∷ word)
after_blank label word = take-more 64 (label ++ 32 ∷ []) word ∙ ap (take 64) (append_assoc label (32 ∷ []) word)

-- one byte more of a word
pub one_byte : (label word : List ℕ) (i : ℕ) → i < length word →
    take 64 (take 64 (label ++ map label_byte (take i word)) ++ label_byte (get_or word i 0) ∷ []) ≡ take 64 (label ++ map label_byte (take (i + 1) word))
one_byte label word i inside =
    let one : map label_byte (take (i + 1) word) ≡ map label_byte (take i word) ++ label_byte (get_or word i 0) ∷ [] =
    ap (λ (n : ℕ). map label_byte (take n word)) (add-one i) ∙ ap (map label_byte) (take-suc word i 0 inside)
    ∙ map-append label_byte (take i word) (get_or word i 0 ∷ []) in
    take-more 64 (label ++ map label_byte (take i word)) (label_byte (get_or word i 0) ∷ [])
    ∙ ap (take 64) (append_assoc label (map label_byte (take i word)) (label_byte (get_or word i 0) ∷ []) ∙ ap (λ (bs : List ℕ). label ++ bs) (sym one))

-- words joined by blanks have one before each but the first
joined : (w : List ℕ) (ws : List (List ℕ)) → w ++ flat_map (λ v. 32 ∷ v) ws ≡ with_blanks (w ∷ ws)
joined w [] = append-nil w
joined w (v ∷ vs) = ap (λ (bs : List ℕ). w ++ 32 ∷ bs) (joined v vs)

behind : (first : Bool) (w : List ℕ) (ws : List (List ℕ)) → put_behind first w ++ joined_on false ws ≡ joined_on first (w ∷ ws)
behind true w ws = joined w ws
behind false w ws = refl

-- one word more
pub one_word : (label : List ℕ) (first : Bool) (w : List ℕ) (ws : List (List ℕ)) →
    take 64 (take 64 (label ++ put_behind first w) ++ joined_on false ws) ≡ take 64 (label ++ joined_on first (w ∷ ws))
one_word label first w ws =
    take-more 64 (label ++ put_behind first w) (joined_on false ws)
    ∙ ap (take 64) (append_assoc label (put_behind first w) (joined_on false ws) ∙ ap (λ (bs : List ℕ). label ++ bs) (behind first w ws))

-- where no word is left the label is there
pub no_word : (label : List ℕ) (first : Bool) → length label ≤ 64 → take 64 (label ++ joined_on first []) ≡ label
no_word label true short = ap (take 64) (append-nil label) ∙ take_all 64 label short
no_word label false short = ap (take 64) (append-nil label) ∙ take_all 64 label short

-- a label for each of some triangles more, empty or not
pub empty_more : (from to : ℕ) (labels : List (List ℕ)) → length labels ≤ from → from ≤ to → padded to labels ≡ padded from labels ++ replicate (to - from) []
empty_more from to labels few order =
    let count : to - length labels ≡ (from - length labels) + (to - from) = omega (arith, few, order) in
    ap (λ (n : ℕ). labels ++ replicate n []) count
    ∙ ap (λ (ls : List (List ℕ)). labels ++ ls) (sym (replicate-append-replicate {A = List ℕ} (from - length labels) (to - from) []))
    ∙ sym (append_assoc labels (replicate (from - length labels) []) (replicate (to - from) []))

pub label_more : (from to : ℕ) (labels between after : List (List ℕ)) (label : List ℕ) → length labels ≤ from → from ≤ to →
    between ≡ labels ++ replicate (from - length labels) [] → after ≡ between ++ replicate (to - from) label →
    padded to after ≡ padded from labels ++ replicate (to - from) label
label_more from to labels between after label few order first last =
    let long : length after ≡ to =
    omega (
      arith,
      few,
      order,
      ap length last,
      length-append between (replicate (to - from) label),
      length-replicate {A = List ℕ} (to - from) label,
      ap length first,
      length-append labels (replicate (from - length labels) []),
      length-replicate {A = List ℕ} (from - length labels) [],
    ) in
    let none : to - length after ≡ 0 = omega (arith, long) in
    ap (λ (n : ℕ). after ++ replicate n []) none ∙ append-nil after ∙ last ∙ ap (λ (ls : List (List ℕ)). ls ++ replicate (to - from) label) first

-- the same for triangles, so many more
pub labels_more : (ts us : List Triple) (old new : List (List ℕ)) (label : List ℕ) (from to count : ℕ) → length ts ≡ from → length us ≡ to → to - from ≡ count →
    padded to new ≡ padded from old ++ replicate (to - from) label → labels_for us new ≡ labels_for ts old ++ replicate count label
labels_more ts us old new label from to count starts ends more added =
    ap (λ (n : ℕ). padded n new) ends ∙ added ∙ λ i. padded (sym starts i) old ++ replicate (more i) label

-- a list with one of them more
pub one_more : (labels : List (List ℕ)) (label : List ℕ) (i : ℕ) → (labels ++ replicate i label) ++ label ∷ [] ≡ labels ++ replicate (i + 1) label
one_more labels label i =
    append_assoc labels (replicate i label) (label ∷ []) ∙ ap (λ (ls : List (List ℕ)). labels ++ ls) (replicate-append-replicate {A = List ℕ} i 1 label)
