-- The text of a mesh, read line after line, gives the mesh with its labels.
use Rattle.std.proofs.Common.{◌≡◌, ℕ, suc, ◌+◌, ◌*◌, ◌≤◌, if◌then◌else◌, Bool, true, false, List, [], ◌∷◌, ◌++◌, length}
use Rattle.std.proofs.Common.{map, codes, decimal, refl, sym, ap, ◌∙◌, arith, append_assoc, append-nil, length-append}
use Rattle.std.proofs.Common.{Result, Ok, ℤ}
use Rattle.std.specs.Prelude.{bytes_eq}
use Rattle.std.specs.List.{All, flat_map}
use Rattle.std.proofs.lemmas.Slice.Eq.{bytes_eq-Decides}
use Rattle.std.proofs.lemmas.List.Elements.{All-append, All-nil, All-cons, All-head, All-tail, All-weaker}
use Rattle.text_terms.specs.Lines.{lines_of, words_of, before_comment, numbered, joined_from, joined_lines, without_mark}
use Rattle.text_terms.specs.Written.{written}
use Rattle.mesh_terms.specs.Faults.{Fault}
use Rattle.mesh_terms.specs.Labels.{AreLabels, IsLabel}
use Rattle.mesh_terms.specs.Limits.{Limits, IsLawful}
use Rattle.mesh_terms.specs.Meshes.{Triple, Soup, HasThree, IsBelow, soup_of}
use Rattle.mesh_terms.specs.Points.{coordinate_of, IsPoint}
use Rattle.text_terms.specs.FirstFault.{then_read}
use Rattle.format_terms.specs.Obj.{Gathered, nothing_gathered, obj_line, obj_lines, word_lines, obj}
use Rattle.text_terms.specs.Written.{line_of}
use Rattle.format_terms.specs.ObjLabels.{label_change, label_line}
use Rattle.format_terms.specs.ObjWritten.{point_line, face_line, face_lines, obj_text}
use Rattle.format_laws.specs.Within.{IsWithin}
use Rattle.format_laws.specs.ReadingBack.{ReadsBack}
use Rattle.format_laws.proofs.Bytes.{Above}
use Rattle.format_laws.proofs.Lines.{lines_of-each, lines_of-line}
use Rattle.mesh_terms.proofs.Labels.{IsLabel-empty}
use Rattle.format_laws.proofs.SavedLabels.{label_line_text, label_line-text, length-label_line, reads_label}
use Rattle.format_laws.proofs.Words.{spaced}
use Rattle.format_laws.proofs.Alone.{IsAlone, joined_from-alone, without_mark-none}
use Rattle.format_laws.proofs.WrittenWords.{IsItemOf-decimal}
use Rattle.format_laws.proofs.SavedLines.{HasWords, HasWords-point, HasWords-face, face_words, point_line_text}
use Rattle.format_laws.proofs.SavedLines.{face_line_text, coordinate_text, read_point, read_face, point_spaced}
use Rattle.format_laws.proofs.SavedLines.{face_spaced}
use Rattle.unused_points.proofs.AllUsed.{soup_of-all}

-- the line of a label before a triple, where it changes
abbrev change_texts : List ℕ → List ℕ → List (List ℕ)
change_texts before label = if bytes_eq label before then [] else label_line_text label ∷ []

-- the lines of triples with their labels, without their ends
abbrev face_texts : List ℕ → List (List ℕ) → List Triple → List (List ℕ)
face_texts before labels [] = []
face_texts before [] (t ∷ ts) = change_texts before [] ++ face_line_text t ∷ face_texts [] [] ts
face_texts before (l ∷ ls) (t ∷ ts) = change_texts before l ++ face_line_text t ∷ face_texts l ls ts

-- are the lines of their text
one_face : (before label : List ℕ) (t : Triple) (rest : List ℕ) (lines : List (List ℕ)) → rest ≡ flat_map line_of lines
    → label_change before label ++ (face_line t ++ rest) ≡ flat_map line_of (change_texts before label ++ face_line_text t ∷ lines)
one_face before label t rest lines same = by_test (bytes_eq label before) where
  by_test : (b : Bool) →
      (if b then [] else label_line label) ++ (face_line t ++ rest) ≡ flat_map line_of ((if b then [] else label_line_text label ∷ []) ++ face_line_text t ∷ lines)
  by_test true = ap (λ (l : List ℕ). face_line t ++ l) same
  by_test false = λ i. label_line-text label i ++ (face_line t ++ same i)

face_lines-texts : (before : List ℕ) (labels : List (List ℕ)) (ts : List Triple) → face_lines before labels ts ≡ flat_map line_of (face_texts before labels ts)
face_lines-texts before labels [] = refl
face_lines-texts before [] (t ∷ ts) = one_face before [] t (face_lines [] [] ts) (face_texts [] [] ts) (face_lines-texts [] [] ts)
face_lines-texts before (l ∷ ls) (t ∷ ts) = one_face before l t (face_lines l ls ts) (face_texts l ls ts) (face_lines-texts l ls ts)

-- no byte of a line is below a space, and it does not go on
record IsWritten (line : List ℕ) : Type 0 where
  above : Above 13 line
  alone : IsAlone line

written_words : (line : List ℕ) (words : List (List ℕ)) → HasWords line words → IsWritten line
written_words line words has = record { above = has.above; alone = has.alone }

written_change : (before label : List ℕ) → IsLabel label → All IsWritten (change_texts before label)
written_change before label is = by_test (bytes_eq label before) where
  by_test : (b : Bool) → All IsWritten (if b then [] else label_line_text label ∷ [])
  by_test true = All-nil IsWritten
  by_test false =
      let reads = reads_label label is in
      All-cons IsWritten (label_line_text label) [] (written_words (label_line_text label) (codes "g" ∷ reads.words) reads.has) (All-nil IsWritten)

written_faces : (count : ℕ) → count ≤ 150000000 → (before : List ℕ) (labels : List (List ℕ)) (ts : List Triple) → All IsLabel labels →
    All (IsBelow count) ts → All IsWritten (face_texts before labels ts)
written_faces count few before labels [] are below = All-nil IsWritten
written_faces count few before [] (t ∷ ts) are below =
    let here = All-head (IsBelow count) t ts below in
    All-append IsWritten (change_texts before []) (face_line_text t ∷ face_texts [] [] ts) (written_change before [] IsLabel-empty)
    (All-cons IsWritten (face_line_text t) (face_texts [] [] ts) (written_words (face_line_text t) (face_words t) (HasWords-face count few t here))
    (written_faces count few [] [] ts are (All-tail (IsBelow count) t ts below)))
written_faces count few before (l ∷ ls) (t ∷ ts) are below =
    let here = All-head (IsBelow count) t ts below in
    All-append IsWritten (change_texts before l) (face_line_text t ∷ face_texts l ls ts) (written_change before l (All-head IsLabel l ls are))
    (All-cons IsWritten (face_line_text t) (face_texts l ls ts) (written_words (face_line_text t) (face_words t) (HasWords-face count few t here))
    (written_faces count few l ls ts (All-tail IsLabel l ls are) (All-tail (IsBelow count) t ts below)))

-- the lines of a text are those of which it is made
lines_of-written : (ls : List (List ℕ)) → All IsWritten ls → lines_of (flat_map line_of ls) ≡ ls
lines_of-written [] all = refl
lines_of-written (l ∷ ls) all =
    lines_of-line l (flat_map line_of ls) (All-head IsWritten l ls all).above
    ∙ ap (λ (ms : List (List ℕ)). l ∷ ms) (lines_of-written ls (All-tail IsWritten l ls all))

-- the text is cut into the lines of the points and of the triples
lines_of-saved : (k : ℕ) (points : List (List ℤ)) (ts : List Triple) (labels : List (List ℕ)) → k ≤ 6 → All IsPoint points →
    length points ≤ 150000000 → All (IsBelow (length points)) ts → All IsLabel labels →
    lines_of (obj_text k points ts labels) ≡ map (point_line_text k) points ++ face_texts [] labels ts
lines_of-saved k points ts labels few on short below are =
    let faces : lines_of (face_lines [] labels ts) ≡ face_texts [] labels ts =
    ap lines_of (face_lines-texts [] labels ts)
    ∙ lines_of-written (face_texts [] labels ts) (written_faces (length points) short [] labels ts are below) in
    lines_of-each IsPoint (point_line_text k) (λ p on_it. (HasWords-point k p few on_it).above) points on (face_lines [] labels ts)
    ∙ ap (λ (ls : List (List ℕ)). map (point_line_text k) points ++ ls) faces

-- each line of a list is alone
alone-each : {X : Type 0} (P : X → Type 0) (text : X → List ℕ) → ((x : X) → P x → IsAlone (text x)) → (xs : List X) → All P xs → All IsAlone (map text xs)
alone-each P text is [] all = All-nil IsAlone
alone-each P text is (x ∷ xs) all = All-cons IsAlone (text x) (map text xs) (is x (All-head P x xs all)) (alone-each P text is xs (All-tail P x xs all))

-- the text begins with no mark
without_mark-faces : (labels : List (List ℕ)) (ts : List Triple) → without_mark (face_lines [] labels ts) ≡ face_lines [] labels ts
without_mark-faces labels [] = refl
without_mark-faces [] (t ∷ ts) = without_mark-none 102 _ refl
without_mark-faces (l ∷ ls) (t ∷ ts) = by_test (bytes_eq l []) (bytes_eq l []) where
  by_test : (b c : Bool) → without_mark ((if b then [] else if c then line_of (codes "g") else line_of (codes "g " ++ l)) ++ (face_line t ++ face_lines l ls ts))
      ≡ (if b then [] else if c then line_of (codes "g") else line_of (codes "g " ++ l)) ++ (face_line t ++ face_lines l ls ts)
  by_test true c = without_mark-none 102 _ refl
  by_test false true = without_mark-none 103 _ refl
  by_test false false = without_mark-none 103 _ refl

without_mark-saved : (k : ℕ) (points : List (List ℤ)) (ts : List Triple) (labels : List (List ℕ)) →
    without_mark (obj_text k points ts labels) ≡ obj_text k points ts labels
without_mark-saved k [] ts labels = without_mark-faces labels ts
without_mark-saved k (p ∷ ps) ts labels = without_mark-none 118 _ refl

-- the numbered lines with their words
abbrev numbered_words : ℕ → List (List ℕ) → List (ℕ × List (List ℕ))
numbered_words n ls = word_lines (numbered n ls)

-- and so the lines and words of the text
words-saved : (k : ℕ) (points : List (List ℤ)) (ts : List Triple) (labels : List (List ℕ)) → k ≤ 6 → All IsPoint points → length points ≤ 150000000 →
    All (IsBelow (length points)) ts → All IsLabel labels →
    word_lines (joined_lines (without_mark (obj_text k points ts labels))) ≡ numbered_words 1 (map (point_line_text k) points ++ face_texts [] labels ts)
words-saved k points ts labels few on short below are =
    let lines = map (point_line_text k) points ++ face_texts [] labels ts in
    let alone : All IsAlone lines =
    All-append IsAlone (map (point_line_text k) points) (face_texts [] labels ts)
    (alone-each IsPoint (point_line_text k) (λ p on_it. (HasWords-point k p few on_it).alone) points on)
    (All-weaker IsWritten IsAlone (λ l is. is.alone) (face_texts [] labels ts) (written_faces (length points) short [] labels ts are below)) in
    ap (λ (text : List ℕ). word_lines (joined_lines text)) (without_mark-saved k points ts labels)
    ∙ ap (λ (ls : List (List ℕ)). word_lines (joined_from 1 ls)) (lines_of-saved k points ts labels few on short below are)
    ∙ ap word_lines (joined_from-alone 1 lines alone)

-- what lines gave, by its parts
abbrev gathered : List (List ℤ) → List Triple → List (List ℕ) → List ℕ → Gathered
gathered points ts labels label = record { points = points; triples = ts; labels = labels; label = label }

-- the lines of points add the points
read_points : (k : ℕ) (limits : Limits) (n : ℕ) (points : List (List ℤ)) (rest : List (List ℕ)) (s : Gathered) → k ≤ 6 → All IsPoint points →
    length s.points + length points ≤ limits.points →
    obj_lines k limits (numbered_words n (map (point_line_text k) points ++ rest)) s ≡
    obj_lines k limits (numbered_words (length points + n) rest) (gathered (s.points ++ points) s.triples s.labels s.label)
read_points k limits n [] rest s few on room =
    let same : n ≡ 0 + n = omega arith in
    λ i. obj_lines k limits (numbered_words (same i) rest) (gathered (sym (append-nil s.points) i) s.triples s.labels s.label)
read_points k limits n (p ∷ ps) rest s few on room =
    let here = All-head IsPoint p ps on in
    let next : Gathered = gathered (s.points ++ p ∷ []) s.triples s.labels s.label in
    let one : length (s.points ++ p ∷ []) ≡ length s.points + 1 = length-append s.points (p ∷ []) in
    let count : length ps + suc n ≡ suc (length ps) + n = omega arith in
    let line : obj_line k limits n (before_comment (words_of (point_line_text k p))) s ≡ Ok next =
    ap (λ (ws : List (List ℕ)). obj_line k limits n ws s) (HasWords-point k p few here).words_are ∙ read_point k limits n s p few here (omega (arith, room)) in
    ap (λ (r : Result Gathered Fault). then_read r (λ t. obj_lines k limits (numbered_words (suc n) (map (point_line_text k) ps ++ rest)) t)) line
    ∙ read_points k limits (suc n) ps rest next few (All-tail IsPoint p ps on) (omega (arith, room, one))
    ∙ λ i. obj_lines k limits (numbered_words (count i) rest) (gathered (append_assoc s.points (p ∷ []) ps i) s.triples s.labels s.label)

-- where the label changes its line sets it: from line n the rest goes on at line m with the label
record Changes (k : ℕ) (limits : Limits) (n : ℕ) (before label : List ℕ) (rest : List (List ℕ)) (points : List (List ℤ)) (ts : List Triple)
    (labels : List (List ℕ)) : Type 0 where
  line : ℕ
  goes : obj_lines k limits (numbered_words n (change_texts before label ++ rest)) (gathered points ts labels before) ≡
      obj_lines k limits (numbered_words line rest) (gathered points ts labels label)

read_change : (k : ℕ) (limits : Limits) (n : ℕ) (before label : List ℕ) (rest : List (List ℕ)) (points : List (List ℤ)) (ts : List Triple)
    (labels : List (List ℕ)) → IsLabel label →
    Changes k limits n before label rest points ts labels
read_change k limits n before label rest points ts labels is = by_test (bytes_eq label before) refl where
  by_test : (b : Bool) → bytes_eq label before ≡ b → Changes k limits n before label rest points ts labels
  by_test true e =
      let same : label ≡ before = (bytes_eq-Decides label before).0 e in
      record {
        line = n;
        goes =
            ap (λ (c : Bool). obj_lines k limits (numbered_words n ((if c then [] else label_line_text label ∷ []) ++ rest)) (gathered points ts labels before)) e
            ∙ ap (λ (l : List ℕ). obj_lines k limits (numbered_words n rest) (gathered points ts labels l)) (sym same);
      }
  by_test false e =
      let reads = reads_label label is in
      let set : obj_line k limits n (before_comment (words_of (label_line_text label))) (gathered points ts labels before) ≡ Ok (gathered points ts labels label) =
      ap (λ (ws : List (List ℕ)). obj_line k limits n ws (gathered points ts labels before)) reads.has.words_are
      ∙ ap (λ (l : List ℕ). Ok (gathered points ts labels l)) reads.makes in
      record {
        line = suc n;
        goes =
            ap (λ (c : Bool). obj_lines k limits (numbered_words n ((if c then [] else label_line_text label ∷ []) ++ rest)) (gathered points ts labels before)) e
            ∙ ap (λ (r : Result Gathered Fault). then_read r (λ u. obj_lines k limits (numbered_words (suc n) rest) u)) set;
      }

-- the last of these labels, after one before them
abbrev last_label : List ℕ → List (List ℕ) → List ℕ
last_label before [] = before
last_label before (l ∷ ls) = last_label l ls

-- the lines of triples add the triples with their labels
read_faces : (k : ℕ) (limits : Limits) (n : ℕ) (before : List ℕ) (ls : List (List ℕ)) (us : List Triple) (points : List (List ℤ)) (ts : List Triple)
    (labels : List (List ℕ)) →
    length points ≤ 150000000 → All (IsBelow (length points)) us → All HasThree us → AreLabels (length us) ls → length ts + length us ≤ limits.triangles →
    obj_lines k limits (numbered_words n (face_texts before ls us)) (gathered points ts labels before) ≡
    Ok (gathered points (ts ++ us) (labels ++ ls) (last_label before ls))
read_faces k limits n before [] [] points ts labels few below three are room =
    λ i. Ok (gathered points (sym (append-nil ts) i) (sym (append-nil labels) i) before)
read_faces k limits n before [] (u ∷ us) points ts labels few below three are room = absurd (omega (arith, are.one_each))
read_faces k limits n before (l ∷ ls) [] points ts labels few below three are room = absurd (omega (arith, are.one_each))
read_faces k limits n before (l ∷ ls) (u ∷ us) points ts labels few below three are room =
    let here = All-head (IsBelow (length points)) u us below in
    let rest = face_line_text u ∷ face_texts l ls us in
    let change = read_change k limits n before l rest points ts labels (All-head IsLabel l ls are.each) in
    let now : Gathered = gathered points ts labels l in
    let next : Gathered = gathered points (ts ++ u ∷ []) (labels ++ l ∷ []) l in
    let one : length (ts ++ u ∷ []) ≡ length ts + 1 = length-append ts (u ∷ []) in
    let later : AreLabels (length us) ls = record { one_each = omega (arith, are.one_each); each = All-tail IsLabel l ls are.each } in
    let line : obj_line k limits change.line (before_comment (words_of (face_line_text u))) now ≡ Ok next =
    ap (λ (ws : List (List ℕ)). obj_line k limits change.line ws now) (HasWords-face (length points) few u here).words_are
    ∙ read_face k limits change.line now u few here (All-head HasThree u us three) (omega (arith, room)) in
    change.goes
    ∙ ap (λ (r : Result Gathered Fault). then_read r (λ v. obj_lines k limits (numbered_words (suc change.line) (face_texts l ls us)) v)) line
    ∙ read_faces k limits (suc change.line) l ls us points (ts ++ u ∷ []) (labels ++ l ∷ []) few (All-tail (IsBelow (length points)) u us below)
    (All-tail HasThree u us three) later (omega (arith, room, one))
    ∙ λ i. Ok (gathered points (append_assoc ts (u ∷ []) us i) (append_assoc labels (l ∷ []) ls i) (last_label l ls))

-- so the text gives its points, triples and labels
gathered-saved : (k : ℕ) (limits : Limits) (points : List (List ℤ)) (ts : List Triple) (labels : List (List ℕ)) → k ≤ 6 → IsLawful limits →
    IsWithin limits points ts → AreLabels (length ts) labels →
    obj_lines k limits (word_lines (joined_lines (without_mark (obj_text k points ts labels)))) nothing_gathered ≡ Ok (gathered points ts labels (last_label [] labels))
gathered-saved k limits points ts labels few lawful within are =
    let short : length points ≤ 150000000 = omega (arith, within.few_points, lawful.few_points) in
    ap (λ (ls : List (ℕ × List (List ℕ))). obj_lines k limits ls nothing_gathered) (words-saved k points ts labels few within.on_grid short within.mesh.below are.each)
    ∙ read_points k limits 1 points (face_texts [] labels ts) nothing_gathered few within.on_grid (omega (arith, within.few_points))
    ∙ read_faces k limits (length points + 1) [] labels ts points [] [] short within.mesh.below within.mesh.three are (omega (arith, within.few_triples))

-- and no point is dropped
reads-saved : (k : ℕ) (limits : Limits) (points : List (List ℤ)) (ts : List Triple) (labels : List (List ℕ)) → k ≤ 6 → IsLawful limits →
    IsWithin limits points ts → AreLabels (length ts) labels →
    obj k limits (obj_text k points ts labels) ≡ Ok (record { points = points; triples = ts; labels = labels; unused = 0 })
reads-saved k limits points ts labels few lawful within are =
    ap (λ (r : Result Gathered Fault). then_read r (λ s. Ok (soup_of s.points s.triples s.labels))) (gathered-saved k limits points ts labels few lawful within are)
    ∙ ap (λ (s : Soup). Ok s) (soup_of-all points ts labels within.mesh.below within.mesh.used)

-- four words, three spaces and the end of the line
length-spaced : (w a b c : List ℕ) → length (line_of (spaced w a b c)) ≡ length w + length a + length b + length c + 4
length-spaced w a b c =
    omega (
      arith,
      length-append (spaced w a b c) (10 ∷ []),
      length-append w (32 ∷ (a ++ 32 ∷ (b ++ 32 ∷ c))),
      length-append a (32 ∷ (b ++ 32 ∷ c)),
      length-append b (32 ∷ c),
    )

-- a point's line has at most 41 bytes
length-point : (k : ℕ) (p : List ℤ) → k ≤ 6 → IsPoint p → length (point_line k p) ≤ 41
length-point k p few on =
    let t = coordinate_text k p few on in
    let all =
    ap (λ (l : List ℕ). length (line_of l)) (point_spaced k p)
    ∙ length-spaced (codes "v") (written k (coordinate_of p 0)) (written k (coordinate_of p 1)) (written k (coordinate_of p 2)) in
    omega (arith, all, t.0.short, t.1.short, t.2.short)

-- a triple's line has at most 32 bytes
length-face : (count : ℕ) → count ≤ 150000000 → (t : Triple) → IsBelow count t → length (face_line t) ≤ 32
length-face count few t below =
    let x = IsItemOf-decimal count t.0 below.a few in
    let y = IsItemOf-decimal count t.1 below.b few in
    let z = IsItemOf-decimal count t.2 below.c few in
    let all = ap (λ (l : List ℕ). length (line_of l)) (face_spaced t) ∙ length-spaced (codes "f") (decimal (t.0 + 1)) (decimal (t.1 + 1)) (decimal (t.2 + 1)) in
    omega (arith, all, x.short, y.short, z.short)

-- short pieces make a short text
length-each : {X : Type 0} (P : X → Type 0) (f : X → List ℕ) (most : ℕ) → ((x : X) → P x → length (f x) ≤ most) → (xs : List X) → All P xs →
    length (flat_map f xs) ≤ most * length xs
length-each P f most short [] all = omega arith
length-each P f most short (x ∷ xs) all =
    omega (arith, length-append (f x) (flat_map f xs), short x (All-head P x xs all), length-each P f most short xs (All-tail P x xs all))

-- the line of a label has at most 67 bytes
length-change : (before label : List ℕ) → IsLabel label → length (label_change before label) ≤ 67
length-change before label is = by_test (bytes_eq label before) where
  by_test : (b : Bool) → length (if b then [] else label_line label) ≤ 67
  by_test true = omega arith
  by_test false = length-label_line label is.short

-- so a triple has at most 99
length-face_lines : (count : ℕ) → count ≤ 150000000 → (before : List ℕ) (labels : List (List ℕ)) (ts : List Triple) → All IsLabel labels →
    All (IsBelow count) ts →
    length (face_lines before labels ts) ≤ 99 * length ts
length-face_lines count few before labels [] are below = omega arith
length-face_lines count few before [] (t ∷ ts) are below =
    omega (
      arith,
      length-append (label_change before []) (face_line t ++ face_lines [] [] ts),
      length-append (face_line t) (face_lines [] [] ts),
      length-change before [] IsLabel-empty,
      length-face count few t (All-head (IsBelow count) t ts below),
      length-face_lines count few [] [] ts are (All-tail (IsBelow count) t ts below),
    )
length-face_lines count few before (l ∷ ls) (t ∷ ts) are below =
    omega (
      arith,
      length-append (label_change before l) (face_line t ++ face_lines l ls ts),
      length-append (face_line t) (face_lines l ls ts),
      length-change before l (All-head IsLabel l ls are),
      length-face count few t (All-head (IsBelow count) t ts below),
      length-face_lines count few l ls ts (All-tail IsLabel l ls are) (All-tail (IsBelow count) t ts below),
    )

-- 41 bytes for each point and 99 for each triple
length-obj_text : (k : ℕ) (points : List (List ℤ)) (ts : List Triple) (labels : List (List ℕ)) → k ≤ 6 → All IsPoint points →
    length points ≤ 150000000 → All (IsBelow (length points)) ts → All IsLabel labels →
    length (obj_text k points ts labels) ≤ 41 * length points + 99 * length ts
length-obj_text k points ts labels few on short below are =
    omega (
      arith,
      length-append (flat_map (point_line k) points) (face_lines [] labels ts),
      length-each IsPoint (point_line k) 41 (λ p on_it. length-point k p few on_it) points on,
      length-face_lines (length points) short [] labels ts are below,
    )

-- meshes within lawful limits read back
pub meshes_read_back : (k : ℕ) → k ≤ 6 → (limits : Limits) → IsLawful limits → (points : List (List ℤ)) (ts : List Triple) (labels : List (List ℕ)) →
    IsWithin limits points ts → AreLabels (length ts) labels →
    ReadsBack k limits points ts labels
meshes_read_back k few limits lawful points ts labels within are = record {
  reads = reads-saved k limits points ts labels few lawful within are;
  fits =
      let short : length points ≤ 150000000 = omega (arith, within.few_points, lawful.few_points) in
      omega (arith, length-obj_text k points ts labels few within.on_grid short within.mesh.below are.each, within.few_points, within.few_triples, lawful.bytes_enough);
}
