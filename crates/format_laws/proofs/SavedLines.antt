-- What each line of the text of a mesh gives its reader.
use Rattle.std.proofs.Common.{◌≡◌, ℕ, ◌+◌, ◌<◌, ◌≤◌, if◌then◌else◌, Bool, List, [], ◌∷◌, ◌++◌, false, length, decimal}
use Rattle.std.proofs.Common.{codes, refl, ap, ◌∙◌, arith, Result, Ok, Err, append_assoc, ℤ, nat_lt}
use Rattle.std.proofs.lemmas.Bool.Decides.{nat_tests}
use Rattle.text_terms.specs.Lines.{words_of, before_comment}
use Rattle.text_terms.specs.Written.{written}
use Rattle.mesh_terms.specs.Faults.{Points, Triangles, Bad, Over}
use Rattle.mesh_terms.specs.Limits.{Limits}
use Rattle.mesh_terms.specs.Meshes.{Triple, HasThree, IsBelow}
use Rattle.mesh_terms.specs.Points.{coordinate_of, IsPoint}
use Rattle.text_terms.specs.FirstFault.{then_read, put_read, each_read, on_line}
use Rattle.format_terms.specs.ObjFaces.{item_vertex, face_fan, has_repeat}
use Rattle.format_terms.specs.Obj.{Gathered, with_point, with_triples, obj_triples, obj_line}
use Rattle.text_terms.specs.Coordinates.{coordinate}
use Rattle.text_terms.specs.Written.{three_numbers}
use Rattle.format_laws.proofs.Bytes.{Above, Above-lower}
use Rattle.format_laws.proofs.Words.{spaced, words_of-spaced, Above-spaced}
use Rattle.format_laws.proofs.Plain.{IsPlain, IsPlain-letter, last_is-word}
use Rattle.format_laws.proofs.Alone.{IsAlone}
use Rattle.format_laws.proofs.WrittenWords.{IsTextOf, IsTextOf-written, IsItemOf-decimal}

-- a line of words with spaces between them: no byte below a space, it does not go on, and these are its words
pub record HasWords (line : List ℕ) (words : List (List ℕ)) : Type 0 where
  pub above : Above 13 line
  pub alone : IsAlone line
  pub words_are : before_comment (words_of line) ≡ words

-- four plain words are
HasWords-spaced : (line w a b c : List ℕ) → line ≡ spaced w a b c → IsPlain w → IsPlain a → IsPlain b → IsPlain c → HasWords line (w ∷ a ∷ b ∷ c ∷ [])
HasWords-spaced line w a b c is p q r s = rw is (record {
  above = Above-lower 13 31 (spaced w a b c) (omega arith) (Above-spaced w a b c p.word q.word r.word s.word);
  alone = ends (w ++ 32 ∷ (a ++ 32 ∷ (b ++ 32 ∷ []))) (regrouped w a b c);
  words_are = ap before_comment (words_of-spaced w a b c p.word q.word r.word s.word) ∙ none;
}) where
  regrouped : (w a b c : List ℕ) → spaced w a b c ≡ (w ++ 32 ∷ (a ++ 32 ∷ (b ++ 32 ∷ []))) ++ c
  regrouped w a b c = simp append_assoc

  ends : (front : List ℕ) → spaced w a b c ≡ front ++ c → IsAlone (spaced w a b c)
  ends front e = rw e (last_is-word front c s)

  none : before_comment (w ∷ a ∷ b ∷ c ∷ []) ≡ w ∷ a ∷ b ∷ c ∷ []
  none = rw (p.no_comment, q.no_comment, r.no_comment, s.no_comment) refl

-- the line of a point, without its end
abbrev pub point_line_text : ℕ → List ℤ → List ℕ
point_line_text k p = codes "v " ++ three_numbers k p

-- the line of a triple, without its end
abbrev pub face_line_text : Triple → List ℕ
face_line_text t = codes "f " ++ decimal (t.0 + 1) ++ codes " " ++ decimal (t.1 + 1) ++ codes " " ++ decimal (t.2 + 1)

-- three texts with a space between them
pub three_spaced : (a b c : List ℕ) → a ++ codes " " ++ b ++ codes " " ++ c ≡ a ++ 32 ∷ (b ++ 32 ∷ c)
three_spaced a b c = simp append_assoc

-- the line of a point as four words
pub point_spaced : (k : ℕ) (p : List ℤ) →
    point_line_text k p ≡ spaced (codes "v") (written k (coordinate_of p 0)) (written k (coordinate_of p 1)) (written k (coordinate_of p 2))
point_spaced k p = ap (λ (l : List ℕ). codes "v " ++ l) (three_spaced (written k (coordinate_of p 0)) (written k (coordinate_of p 1)) (written k (coordinate_of p 2)))

-- the line of a triple as four words
pub face_spaced : (t : Triple) → face_line_text t ≡ spaced (codes "f") (decimal (t.0 + 1)) (decimal (t.1 + 1)) (decimal (t.2 + 1))
face_spaced t = ap (λ (l : List ℕ). codes "f " ++ l) (three_spaced (decimal (t.0 + 1)) (decimal (t.1 + 1)) (decimal (t.2 + 1)))

-- each written coordinate
pub coordinate_text : (k : ℕ) (p : List ℤ) → k ≤ 6 → IsPoint p →
    (IsTextOf k (coordinate_of p 0) (written k (coordinate_of p 0))) × (IsTextOf k (coordinate_of p 1) (written k (coordinate_of p 1)))
    × (IsTextOf k (coordinate_of p 2) (written k (coordinate_of p 2)))
coordinate_text k p few on =
    (IsTextOf-written k (coordinate_of p 0) few on.x, IsTextOf-written k (coordinate_of p 1) few on.y, IsTextOf-written k (coordinate_of p 2) few on.z)

-- the words of a point's line
abbrev pub point_words : ℕ → List ℤ → List (List ℕ)
point_words k p = codes "v" ∷ written k (coordinate_of p 0) ∷ written k (coordinate_of p 1) ∷ written k (coordinate_of p 2) ∷ []

pub HasWords-point : (k : ℕ) (p : List ℤ) → k ≤ 6 → IsPoint p → HasWords (point_line_text k p) (point_words k p)
HasWords-point k p few on =
    let t = coordinate_text k p few on in
    let a = written k (coordinate_of p 0) in
    let b = written k (coordinate_of p 1) in
    let c = written k (coordinate_of p 2) in
    HasWords-spaced (point_line_text k p) (codes "v") a b c (point_spaced k p) (IsPlain-letter 118 (omega arith)) t.0.plain t.1.plain t.2.plain

-- the words of a triple's line
abbrev pub face_words : Triple → List (List ℕ)
face_words t = codes "f" ∷ decimal (t.0 + 1) ∷ decimal (t.1 + 1) ∷ decimal (t.2 + 1) ∷ []

pub HasWords-face : (count : ℕ) → count ≤ 150000000 → (t : Triple) → IsBelow count t → HasWords (face_line_text t) (face_words t)
HasWords-face count few t below =
    let x = IsItemOf-decimal count t.0 below.a few in
    let y = IsItemOf-decimal count t.1 below.b few in
    let z = IsItemOf-decimal count t.2 below.c few in
    let a = decimal (t.0 + 1) in
    let b = decimal (t.1 + 1) in
    let c = decimal (t.2 + 1) in
    HasWords-spaced (face_line_text t) (codes "f") a b c (face_spaced t) (IsPlain-letter 102 (omega arith)) x.plain y.plain z.plain

-- three words that read
each_read-three : {X Y E : Type 0} (f : X → Result Y E) (a b c : X) (x y z : Y) → f a ≡ Ok x → f b ≡ Ok y → f c ≡ Ok z →
    each_read f (a ∷ b ∷ c ∷ []) ≡ Ok (x ∷ y ∷ z ∷ [])
each_read-three f a b c x y z p q r = λ i. put_read (p i) (put_read (q i) (put_read (r i) (Ok [])))

-- a point is its three coordinates
pub three_coordinates : (p : List ℤ) → length p ≡ 3 → coordinate_of p 0 ∷ coordinate_of p 1 ∷ coordinate_of p 2 ∷ [] ≡ p
three_coordinates [] e = absurd (omega (arith, e))
three_coordinates (x ∷ []) e = absurd (omega (arith, e))
three_coordinates (x ∷ y ∷ []) e = absurd (omega (arith, e))
three_coordinates (x ∷ y ∷ z ∷ []) e = refl
three_coordinates (x ∷ y ∷ z ∷ w ∷ r) e = absurd (omega (arith, e))

-- the line of a point adds it
pub read_point : (k : ℕ) (limits : Limits) (n : ℕ) (s : Gathered) (p : List ℤ) → k ≤ 6 → IsPoint p → length s.points < limits.points →
    obj_line k limits n (point_words k p) s ≡ Ok (record { points = s.points ++ p ∷ []; triples = s.triples; labels = s.labels; label = s.label })
read_point k limits n s p few on room =
    let t = coordinate_text k p few on in
    let a = written k (coordinate_of p 0) in
    let b = written k (coordinate_of p 1) in
    let c = written k (coordinate_of p 2) in
    let values : each_read (coordinate k) (a ∷ b ∷ c ∷ []) ≡ Ok p =
    each_read-three (coordinate k) a b c (coordinate_of p 0) (coordinate_of p 1) (coordinate_of p 2) t.0.reads t.1.reads t.2.reads
    ∙ ap (λ (q : List ℤ). Ok q) (three_coordinates p on.three) in
    let test : nat_lt limits.points (length s.points + 1) ≡ false = grind (arith, nat_tests) in
    ap (λ (r : Result (List ℤ) ℕ). then_read (on_line n r) (with_point limits s)) values
    ∙ ap (λ (b : Bool). if b then Err (Over Points (length s.points + 1)) else Ok
    (record { points = s.points ++ p ∷ []; triples = s.triples; labels = s.labels; label = s.label })) test

-- three different numbers have no repeat
no_repeat : (t : Triple) → HasThree t → has_repeat (t.0 ∷ t.1 ∷ t.2 ∷ []) ≡ false
no_repeat t three = grind (arith, nat_tests, three.ab, three.bc, three.ca)

-- the line of a triple adds it with the present label
pub read_face : (k : ℕ) (limits : Limits) (n : ℕ) (s : Gathered) (t : Triple) → length s.points ≤ 150000000 → IsBelow (length s.points) t →
    HasThree t → length s.triples < limits.triangles →
    obj_line k limits n (face_words t) s ≡ Ok (record { points = s.points; triples = s.triples ++ t ∷ []; labels = s.labels ++ s.label ∷ []; label = s.label })
read_face k limits n s t few below three room =
    let count = length s.points in
    let x = IsItemOf-decimal count t.0 below.a few in
    let y = IsItemOf-decimal count t.1 below.b few in
    let z = IsItemOf-decimal count t.2 below.c few in
    let vs = t.0 ∷ t.1 ∷ t.2 ∷ [] in
    let test : nat_lt limits.triangles (length s.triples + 1) ≡ false = grind (arith, nat_tests) in
    ap (λ (r : Result (List ℕ) ℕ). then_read (on_line n r) (obj_triples limits n s))
    (each_read-three (item_vertex count) (decimal (t.0 + 1)) (decimal (t.1 + 1)) (decimal (t.2 + 1)) t.0 t.1 t.2 x.reads y.reads z.reads)
    ∙ ap (λ (b : Bool). if b then Err (Bad n 7) else with_triples limits s (face_fan vs)) (no_repeat t three)
    ∙ ap (λ (b : Bool). if b then Err (Over Triangles (length s.triples + 1)) else Ok
    (record { points = s.points; triples = s.triples ++ t ∷ []; labels = s.labels ++ s.label ∷ []; label = s.label })) test
