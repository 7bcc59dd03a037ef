-- What a plain line gives.
use Rattle.std.proofs.Common.{◌≡◌, ℕ, ◌+◌, ◌<◌, if◌then◌else◌, Bool, false, List, [], ◌∷◌, ◌++◌, length, codes, ap, ◌∙◌}
use Rattle.std.proofs.Common.{sym, arith, Result, Ok, Err, ℤ}
use Rattle.std.proofs.lemmas.Bool.Decides.{nat_tests}
use Rattle.mesh_terms.specs.Faults.{Fault, Bad}
use Rattle.mesh_terms.specs.Limits.{Limits}
use Rattle.mesh_terms.specs.Meshes.{HasThree, IsBelow}
use Rattle.text_terms.specs.Lines.{lines_of, joined_from}
use Rattle.text_terms.specs.Coordinates.{coordinate}
use Rattle.text_terms.specs.FirstFault.{then_read, put_read, each_read, on_line}
use Rattle.format_terms.specs.ObjFaces.{item_vertex, has_repeat, face_fan}
use Rattle.format_terms.specs.Obj.{Gathered, with_point, with_triples, obj_triples, obj_line, obj_lines, word_lines}
use Rattle.format_laws.proofs.Decimals.{IsSpelled}
use Rattle.format_laws.proofs.Plain.{IsPlain, IsPlain-digits}
use Rattle.format_laws.proofs.WrittenWords.{item_vertex-spelled}
use Rattle.obj_text.specs.Plain.{IsIndexOf, BeginsCoordinate, line_end, EndsLine, with_line, BeginsFace, BeginsPoint, IsFaceFirst, IsPointFirst}
use Rattle.obj_text.proofs.FaceSteps.{with_point-within, with_triples-within}
use Rattle.obj_text.proofs.PlainLines.{IsPlain-word, words-first}

-- the digits of a number are some
some_digits : (v : ℕ) (word : List ℕ) → IsIndexOf v word → 0 < length word
some_digits v [] index = absurd (omega (arith, index.spelled))
some_digits v (d ∷ ds) index = omega arith

-- and a plain word
pub IsPlain-index : (v : ℕ) (word : List ℕ) → IsIndexOf v word → IsPlain word
IsPlain-index v word index = IsPlain-digits word (some_digits v word index) index.digits

-- the digits of a number from 1 name a point
item_vertex-index : (count v : ℕ) (word : List ℕ) → v < count → IsIndexOf v word → item_vertex count word ≡ Ok v
item_vertex-index count v word below index =
    let s : IsSpelled (v + 1) word = record { word = (IsPlain-index v word index).word; digits = index.digits; value = index.spelled } in
    item_vertex-spelled count v word below s

-- three words that read
each_read-three : {X Y E : Type 0} (f : X → Result Y E) (a b c : X) (x y z : Y) → f a ≡ Ok x → f b ≡ Ok y → f c ≡ Ok z →
    each_read f (a ∷ b ∷ c ∷ []) ≡ Ok (x ∷ y ∷ z ∷ [])
each_read-three f a b c x y z p q r = λ i. put_read (p i) (put_read (q i) (put_read (r i) (Ok [])))

-- a letter, three words behind spaces and the end of a line
line_begins : (letter : ℕ) (first second third : List ℕ) (cr : Bool) (text t u v w rest : List ℕ) → text ≡ letter ∷ t → t ≡ 32 ∷ (first ++ u) →
    u ≡ 32 ∷ (second ++ v) → v ≡ 32 ∷ (third ++ w) → w ≡ line_end cr ++ rest →
    text ≡ with_line letter first second third cr rest
line_begins letter first second third cr text t u v w rest l a b c e =
    l ∙ ap (λ (s : List ℕ). letter ∷ s) a ∙ ap (λ (s : List ℕ). letter ∷ 32 ∷ (first ++ s)) b
    ∙ ap (λ (s : List ℕ). letter ∷ 32 ∷ (first ++ 32 ∷ (second ++ s))) c
    ∙ ap (λ (s : List ℕ). letter ∷ 32 ∷ (first ++ 32 ∷ (second ++ 32 ∷ (third ++ s)))) e

-- so a text begins with the line of a point where each word reads
pub point_begins : (k : ℕ) (text t u v w rest : List ℕ) (x y z : ℤ) → text ≡ 118 ∷ t → BeginsCoordinate k t x u → BeginsCoordinate k u y v →
    BeginsCoordinate k v z w → EndsLine w rest → BeginsPoint k text (x ∷ y ∷ z ∷ []) rest
point_begins k text t u v w rest x y z letter a b c e = record {
  first = a.word;
  second = b.word;
  third = c.word;
  cr = e.cr;
  split = line_begins 118 a.word b.word c.word e.cr text t u v w rest letter a.split b.split c.split e.split;
  x_plain = a.plain;
  y_plain = b.plain;
  z_plain = c.plain;
  reads = each_read-three (coordinate k) a.word b.word c.word x y z a.reads b.reads c.reads;
}

-- the line at the front of a text is the first of its lines
pub face_first : (n a b c : ℕ) (text rest : List ℕ) → BeginsFace text a b c rest →
    IsFaceFirst (word_lines (joined_from n (lines_of text))) a b c (word_lines (joined_from (n + 1) (lines_of rest)))
face_first n a b c text rest face = record {
  number = n;
  first = face.first;
  second = face.second;
  third = face.third;
  cut =
      words-first n 102 face.first face.second face.third face.cr text rest face.split (omega arith) (IsPlain-index a face.first face.a_is)
      (IsPlain-index b face.second face.b_is) (IsPlain-index c face.third face.c_is);
  a_is = face.a_is;
  b_is = face.b_is;
  c_is = face.c_is;
}

pub point_first : (k n : ℕ) (text rest : List ℕ) (p : List ℤ) → BeginsPoint k text p rest →
    IsPointFirst k (word_lines (joined_from n (lines_of text))) p (word_lines (joined_from (n + 1) (lines_of rest)))
point_first k n text rest p point = record {
  number = n;
  first = point.first;
  second = point.second;
  third = point.third;
  cut =
      words-first n 118 point.first point.second point.third point.cr text rest point.split (omega arith) (IsPlain-word point.first point.x_plain)
      (IsPlain-word point.second point.y_plain) (IsPlain-word point.third point.z_plain);
  reads = point.reads;
}

-- three different numbers have no repeat
no_repeat : (a b c : ℕ) → HasThree (a, b, c) → has_repeat (a ∷ b ∷ c ∷ []) ≡ false
no_repeat a b c three = grind (arith, nat_tests, three.ab, three.bc, three.ca)

-- the line of a face adds its triangle
face-added : (k : ℕ) (limits : Limits) (n a b c : ℕ) (first second third : List ℕ) (s : Gathered) → IsIndexOf a first → IsIndexOf b second → IsIndexOf c third →
    IsBelow (length s.points) (a, b, c) → HasThree (a, b, c) → length s.triples < limits.triangles →
    obj_line k limits n (codes "f" ∷ first ∷ second ∷ third ∷ []) s ≡
    Ok (record { points = s.points; triples = s.triples ++ (a, b, c) ∷ []; labels = s.labels ++ s.label ∷ []; label = s.label })
face-added k limits n a b c first second third s p q r below three room =
    let count = length s.points in
    let vs = a ∷ b ∷ c ∷ [] in
    ap (λ (e : Result (List ℕ) ℕ). then_read (on_line n e) (obj_triples limits n s))
    (each_read-three (item_vertex count) first second third a b c (item_vertex-index count a first below.a p)
    (item_vertex-index count b second below.b q) (item_vertex-index count c third below.c r))
    ∙ ap (λ (e : Bool). if e then Err (Bad n 7) else with_triples limits s (face_fan vs)) (no_repeat a b c three)
    ∙ with_triples-within limits s (face_fan vs) (omega (arith, room))

-- the line of a point adds it
point-added : (k : ℕ) (limits : Limits) (n : ℕ) (first second third : List ℕ) (s : Gathered) (p : List ℤ) →
    each_read (coordinate k) (first ∷ second ∷ third ∷ []) ≡ Ok p → length s.points < limits.points →
    obj_line k limits n (codes "v" ∷ first ∷ second ∷ third ∷ []) s ≡
    Ok (record { points = s.points ++ p ∷ []; triples = s.triples; labels = s.labels; label = s.label })
point-added k limits n first second third s p reads room =
    ap (λ (r : Result (List ℤ) ℕ). then_read (on_line n r) (with_point limits s)) reads ∙ with_point-within limits s p (omega (arith, room))

-- after the first line the others decide
first_read : (k : ℕ) (limits : Limits) (lines after : List (ℕ × List (List ℕ))) (n : ℕ) (words : List (List ℕ)) (s t : Gathered) →
    lines ≡ (n, words) ∷ after → obj_line k limits n words s ≡ Ok t →
    obj_lines k limits lines s ≡ obj_lines k limits after t
first_read k limits lines after n words s t cut e =
    ap (λ (ls : List (ℕ × List (List ℕ))). obj_lines k limits ls s) cut
    ∙ ap (λ (r : Result Gathered Fault). then_read r (λ u. obj_lines k limits after u)) e

pub face-read : (k : ℕ) (limits : Limits) (lines after : List (ℕ × List (List ℕ))) (a b c : ℕ) (s t : Gathered) → IsFaceFirst lines a b c after →
    IsBelow (length s.points) (a, b, c) → HasThree (a, b, c) → length s.triples < limits.triangles →
    t ≡ record { points = s.points; triples = s.triples ++ (a, b, c) ∷ []; labels = s.labels ++ s.label ∷ []; label = s.label } →
    obj_lines k limits lines s ≡ obj_lines k limits after t
face-read k limits lines after a b c s t face below three room is =
    first_read k limits lines after face.number (codes "f" ∷ face.first ∷ face.second ∷ face.third ∷ []) s t face.cut
    (face-added k limits face.number a b c face.first face.second face.third s face.a_is face.b_is face.c_is below three room ∙ ap (λ (u : Gathered). Ok u) (sym is))

pub point-read : (k : ℕ) (limits : Limits) (lines after : List (ℕ × List (List ℕ))) (p : List ℤ) (s t : Gathered) → IsPointFirst k lines p after →
    length s.points < limits.points → t ≡ record { points = s.points ++ p ∷ []; triples = s.triples; labels = s.labels; label = s.label } →
    obj_lines k limits lines s ≡ obj_lines k limits after t
point-read k limits lines after p s t point room is =
    first_read k limits lines after point.number (codes "v" ∷ point.first ∷ point.second ∷ point.third ∷ []) s t point.cut
    (point-added k limits point.number point.first point.second point.third s p point.reads room ∙ ap (λ (u : Gathered). Ok u) (sym is))

-- there are fewer lines after the first
pub face-fewer : (lines after : List (ℕ × List (List ℕ))) (a b c : ℕ) → IsFaceFirst lines a b c after → length after < length lines
face-fewer lines after a b c face = omega (arith, ap (λ (ls : List (ℕ × List (List ℕ))). length ls) face.cut)

pub point-fewer : (k : ℕ) (lines after : List (ℕ × List (List ℕ))) (p : List ℤ) → IsPointFirst k lines p after → length after < length lines
point-fewer k lines after p point = omega (arith, ap (λ (ls : List (ℕ × List (List ℕ))). length ls) point.cut)
