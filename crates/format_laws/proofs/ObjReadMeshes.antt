-- What is read of a file is a mesh within the limits.
use Rattle.std.proofs.Common.{◌≡◌, ℕ, suc, ◌+◌, ◌-◌, ◌^◌, ◌<◌, ◌≤◌, if◌then◌else◌, Bool, true, false, cond, List, []}
use Rattle.std.proofs.Common.{◌∷◌, ◌++◌, length, take, replicate, codes, refl, ap, subst, arith, length-append}
use Rattle.std.proofs.Common.{length-take, Option, Some, None, Result, Ok, Err, ℤ, pos, nat_abs, nat_lt, nat_le}
use Rattle.std.specs.Prelude.{◌||◌, ◌&&◌, bytes_eq}
use Rattle.std.specs.List.{All, list_any}
use Rattle.std.proofs.lemmas.Int.{ints}
use Rattle.std.proofs.lemmas.Bool.Decides.{nat_tests}
use Rattle.std.proofs.lemmas.List.Elements.{All-append, All-nil, All-cons, All-head, All-tail, All-replicate}
use Rattle.text_terms.specs.Lines.{before_comment, joined_lines, without_mark, words_of}
use Rattle.text_terms.specs.Coordinates.{on_grid, coordinate}
use Rattle.text_terms.specs.Numbers.{grid_number, is_on_grid, cut_at}
use Rattle.mesh_terms.specs.Faults.{Fault, Points, Triangles, Bad, Over}
use Rattle.mesh_terms.specs.Limits.{Limits, IsLawful}
use Rattle.std.proofs.lemmas.List.{length-map, length-replicate}
use Rattle.mesh_terms.specs.Labels.{AreLabels, IsLabel}
use Rattle.mesh_terms.proofs.Labels.{IsLabel-empty}
use Rattle.mesh_terms.specs.Meshes.{Triple, Soup, HasThree, IsBelow, soup_of, is_used, used_from, new_number, renumbered}
use Rattle.mesh_terms.specs.Points.{IsOnGrid, IsPoint}
use Rattle.unused_points.specs.Used.{IsSound}
use Rattle.unused_points.proofs.KeptMesh.{kept_mesh, few_kept}
use Rattle.text_terms.specs.FirstFault.{then_read, put_read, each_read, on_line}
use Rattle.format_terms.specs.ObjFaces.{is_slash, whole_number, item_tail, named_vertex, item_vertex, face_fan, has_repeat}
use Rattle.format_terms.specs.Obj.{Gathered, nothing_gathered, with_point, with_triples, point_coordinates, obj_point}
use Rattle.format_terms.specs.Obj.{face_vertices, obj_triples, obj_face, passed_over, with_label, obj_line, obj_lines}
use Rattle.format_terms.specs.Obj.{word_lines, obj}
use Rattle.format_terms.proofs.Fans.{face_three, face_below}
use Rattle.format_terms.specs.ObjLabels.{label_of}
use Rattle.format_laws.specs.ReadWords.{IsReadWord}
use Rattle.format_laws.proofs.LabelWords.{IsLabel-read}
use Rattle.format_laws.proofs.ReadWords.{read_words}
use Rattle.format_laws.specs.Within.{IsWithin}

-- what a reading keeps line after line
pub record IsKept (limits : Limits) (s : Gathered) : Type 0 where
  pub points : All IsPoint s.points
  pub three : All HasThree s.triples
  pub below : All (IsBelow (length s.points)) s.triples
  pub few_points : length s.points ≤ limits.points
  pub few_triples : length s.triples ≤ limits.triangles
  pub labels : AreLabels (length s.triples) s.labels
  pub label : IsLabel s.label

-- what went on had something to go on with
pub then_read-ok : {A B : Type 0} (r : Result A Fault) (go : A → Result B Fault) (b : B) → then_read r go ≡ Ok b → (a : A) × (r ≡ Ok a) × (go a ≡ Ok b)
then_read-ok (Err e) go b h = absurd (cc)
then_read-ok (Ok a) go b h = (a, refl, h)

-- a line without a fault
pub on_line-ok : {A : Type 0} (n : ℕ) (r : Result A ℕ) (a : A) → on_line n r ≡ Ok a → r ≡ Ok a
on_line-ok n (Err kind) a h = absurd (cc)
on_line-ok n (Ok b) a h = cc

-- a fault that was not found
pub unless_ok : {A : Type 0} (b : Bool) (r : Result A Fault) (e : Fault) (a : A) → (if b then Err e else r) ≡ Ok a → (b ≡ false) × (r ≡ Ok a)
unless_ok true r e a h = absurd (cc)
unless_ok false r e a h = (refl, h)

-- a value in front of others
put_read-ok : {Y : Type 0} (r : Result Y ℕ) (rs : Result (List Y) ℕ) (ys : List Y) → put_read r rs ≡ Ok ys →
    (z : Y) × (zs : List Y) × (r ≡ Ok z) × (rs ≡ Ok zs) × (z ∷ zs ≡ ys)
put_read-ok (Err e) rs ys h = absurd (cc)
put_read-ok (Ok z) (Err e) ys h = absurd (cc)
put_read-ok (Ok z) (Ok zs) ys h = (z, zs, refl, refl, cc)

-- as many values as words, each of them a value
each_read-ok : {X Y : Type 0} (P : Y → Type 0) (f : X → Result Y ℕ) → ((x : X) (y : Y) → f x ≡ Ok y → P y) → (xs : List X) (ys : List Y) →
    each_read f xs ≡ Ok ys → (length ys ≡ length xs) × All P ys
each_read-ok P f holds [] ys h = let none : [] ≡ ys = cc in subst (λ zs. (length zs ≡ 0) × All P zs) none (refl, All-nil P)
each_read-ok P f holds (x ∷ xs) ys h =
    let parts = put_read-ok (f x) (each_read f xs) ys h in
    let later = each_read-ok P f holds xs parts.1 parts.3 in
    subst (λ zs. (length zs ≡ suc (length xs)) × All P zs) parts.4 (ap (λ (n : ℕ). suc n) later.0, All-cons P parts.0 parts.1 (holds x parts.0 parts.2) later.1)

-- what is read as a coordinate is on the grid
on_grid-ok : (o : Option ℤ) (z : ℤ) → on_grid o ≡ Ok z → IsOnGrid z
on_grid-ok None z h = absurd (cc)
on_grid-ok (Some y) z h = by_test (is_on_grid y) 4 refl h where
  by_test : (b : Bool) (kind : ℕ) → is_on_grid y ≡ b → (if b then Ok y else Err kind) ≡ Ok z → IsOnGrid z
  by_test true kind e g =
      let same : y ≡ z = cc in
      let small : nat_abs y ≤ 2 ^ 30 = grind (arith, nat_tests, e) in
      subst IsOnGrid same (omega (arith, ints, small))
  by_test false kind e g = absurd (cc)

pub coordinate-ok : (k : ℕ) (word : List ℕ) (z : ℤ) → coordinate k word ≡ Ok z → IsOnGrid z
coordinate-ok k word z h = on_grid-ok (grid_number k word) z h

-- three coordinates on the grid are a point
pub point_of : (p : List ℤ) → length p ≡ 3 → All IsOnGrid p → IsPoint p
point_of p three each =
    record { three = three; x = each 0 (pos 0) (omega (arith, three)); y = each 1 (pos 0) (omega (arith, three)); z = each 2 (pos 0) (omega (arith, three)) }

-- what is read as an item is a vertex of the points so far
named_vertex-ok : (count : ℕ) (o : Option (Bool × ℕ)) (v : ℕ) → named_vertex count o ≡ Ok v → v < count
named_vertex-ok count None v h = absurd (cc)
named_vertex-ok count (Some (negative, size)) v h = by_test (nat_lt 0 size && nat_le size count) negative 6 refl h where
  by_test : (b m : Bool) (kind : ℕ) → (nat_lt 0 size && nat_le size count) ≡ b → (if b then Ok (if m then count - size else size - 1) else Err kind) ≡ Ok v → v < count
  by_test true true kind e g = let same : count - size ≡ v = cc in grind (arith, nat_tests, e, same)
  by_test true false kind e g = let same : size - 1 ≡ v = cc in grind (arith, nat_tests, e, same)
  by_test false m kind e g = absurd (cc)

item_vertex-ok : (count : ℕ) (word : List ℕ) (v : ℕ) → item_vertex count word ≡ Ok v → v < count
item_vertex-ok count word v h = by_test (item_tail (cut_at is_slash word).1) 5 h where
  by_test : (b : Bool) (kind : ℕ) → (if b then named_vertex count (whole_number (cut_at is_slash word).0) else Err kind) ≡ Ok v → v < count
  by_test true kind g = named_vertex-ok count (whole_number (cut_at is_slash word).0) v g
  by_test false kind g = absurd (cc)

-- with more points the vertices are still below
pub below_more : (m n : ℕ) (ts : List Triple) → m ≤ n → All (IsBelow m) ts → All (IsBelow n) ts
below_more m n ts more all i d inside =
    let b = all i d inside in
    record { a = omega (arith, b.a); b = omega (arith, b.b); c = omega (arith, b.c) }

-- a point more
keeps_point : (k : ℕ) (limits : Limits) (n : ℕ) (s t : Gathered) (ws : List (List ℕ)) → IsKept limits s → obj_point k limits n s ws ≡ Ok t → IsKept limits t
keeps_point k limits n s t ws kept h =
    let read = then_read-ok (point_coordinates k n ws) (with_point limits s) t h in
    let p = read.0 in
    let count = unless_ok (nat_lt (length ws) 3 || nat_lt 7 (length ws)) (on_line n (each_read (coordinate k) (take 3 ws))) (Bad n 2) p read.1 in
    let values = each_read-ok IsOnGrid (coordinate k) (coordinate-ok k) (take 3 ws) p (on_line-ok n (each_read (coordinate k) (take 3 ws)) p count.1) in
    let enough : 3 ≤ length ws = grind (arith, nat_tests, count.0) in
    let three : length p ≡ 3 = omega (arith, values.0, length-take 3 ws, enough) in
    let added =
    unless_ok (nat_lt limits.points (length s.points + 1))
    (Ok (record { points = s.points ++ p ∷ []; triples = s.triples; labels = s.labels; label = s.label })) (Over Points (length s.points + 1)) t read.2 in
    let same : record { points = s.points ++ p ∷ []; triples = s.triples; labels = s.labels; label = s.label } ≡ t = cc added.1 in
    let room : length s.points + 1 ≤ limits.points = grind (arith, nat_tests, added.0) in
    let more : length (s.points ++ p ∷ []) ≡ length s.points + 1 = length-append s.points (p ∷ []) in
    subst (IsKept limits) same (record {
      points = All-append IsPoint s.points (p ∷ []) kept.points (All-cons IsPoint p [] (point_of p three values.1) (All-nil IsPoint));
      three = kept.three;
      below = below_more (length s.points) (length (s.points ++ p ∷ [])) s.triples (omega (arith, more)) kept.below;
      few_points = omega (arith, more, room);
      few_triples = kept.few_triples;
      labels = kept.labels;
      label = kept.label;
    })

-- the same label for some triangles more
more_labels : (ts us : List Triple) (labels : List (List ℕ)) (label : List ℕ) → AreLabels (length ts) labels → IsLabel label →
    AreLabels (length (ts ++ us)) (labels ++ replicate (length us) label)
more_labels ts us labels label old is = record {
  one_each = omega (arith, old.one_each, length-append ts us, length-append labels (replicate (length us) label), length-replicate (length us) label);
  each = All-append IsLabel labels (replicate (length us) label) old.each (All-replicate IsLabel (length us) label is);
}

-- the triangles of a face more
keeps_face : (limits : Limits) (n : ℕ) (s t : Gathered) (ws : List (List ℕ)) → IsKept limits s → obj_face limits n s ws ≡ Ok t → IsKept limits t
keeps_face limits n s t ws kept h =
    let count = length s.points in
    let read = then_read-ok (face_vertices count n ws) (obj_triples limits n s) t h in
    let vs = read.0 in
    let enough = unless_ok (nat_lt (length ws) 3) (on_line n (each_read (item_vertex count) ws)) (Bad n 5) vs read.1 in
    let values = each_read-ok (λ v. v < count) (item_vertex count) (item_vertex-ok count) ws vs (on_line-ok n (each_read (item_vertex count) ws) vs enough.1) in
    let apart = unless_ok (has_repeat vs) (with_triples limits s (face_fan vs)) (Bad n 7) t read.2 in
    let seen = length s.triples + length (face_fan vs) in
    let added =
    unless_ok (nat_lt limits.triangles seen)
    (Ok (record {
      points = s.points;
      triples = s.triples ++ face_fan vs;
      labels = s.labels ++ replicate (length (face_fan vs)) s.label;
      label =
          s.label;
    })) (Over Triangles seen) t apart.1 in
    let same : record { points = s.points; triples = s.triples ++ face_fan vs; labels = s.labels ++ replicate (length (face_fan vs)) s.label; label = s.label } ≡ t =
    cc added.1 in
    let room : length s.triples + length (face_fan vs) ≤ limits.triangles = grind (arith, nat_tests, added.0) in
    subst (IsKept limits) same (record {
      points = kept.points;
      three = All-append HasThree s.triples (face_fan vs) kept.three (face_three vs apart.0);
      below = All-append (IsBelow count) s.triples (face_fan vs) kept.below (face_below count vs values.1);
      few_points = kept.few_points;
      few_triples = omega (arith, room, length-append s.triples (face_fan vs));
      labels = more_labels s.triples (face_fan vs) s.labels s.label kept.labels kept.label;
      label = kept.label;
    })

-- another label
keeps_label : (limits : Limits) (s t : Gathered) (ws : List (List ℕ)) → All IsReadWord ws → IsKept limits s → with_label (label_of ws) s ≡ t → IsKept limits t
keeps_label limits s t ws read kept same = subst (IsKept limits) same (record {
  points = kept.points;
  three = kept.three;
  below = kept.below;
  few_points = kept.few_points;
  few_triples = kept.few_triples;
  labels = kept.labels;
  label = IsLabel-read ws read;
})

-- one line
keeps_line : (k : ℕ) (limits : Limits) (n : ℕ) (words : List (List ℕ)) (s t : Gathered) → All IsReadWord words → IsKept limits s →
    obj_line k limits n words s ≡ Ok t → IsKept limits t
keeps_line k limits n [] s t read kept h = let same : s ≡ t = cc in subst (IsKept limits) same kept
keeps_line k limits n (w ∷ ws) s t read kept h =
    by_word (bytes_eq w (codes "v")) (bytes_eq w (codes "f")) (bytes_eq w (codes "g")) (list_any (bytes_eq w) passed_over) h where
      by_word : (v f l p : Bool) →
          (if v then obj_point k limits n s ws else if f then obj_face limits n s ws else if l then Ok (with_label (label_of ws) s) else if p then Ok s
          else Err (Bad n 1)) ≡ Ok t
          → IsKept limits t
      by_word true f l p g = keeps_point k limits n s t ws kept g
      by_word false true l p g = keeps_face limits n s t ws kept g
      by_word false false true p g = keeps_label limits s t ws (All-tail IsReadWord w ws read) kept (cc)
      by_word false false false true g = let same : s ≡ t = cc in subst (IsKept limits) same kept
      by_word false false false false g = absurd (cc)

-- all lines
keeps_lines : (k : ℕ) (limits : Limits) (lines : List (ℕ × List ℕ)) (s t : Gathered) → IsKept limits s →
    obj_lines k limits (word_lines lines) s ≡ Ok t → IsKept limits t
keeps_lines k limits [] s t kept h = let same : s ≡ t = cc in subst (IsKept limits) same kept
keeps_lines k limits (l ∷ ls) s t kept h =
    let words = before_comment (words_of l.1) in
    let first = then_read-ok (obj_line k limits l.0 words s) (λ u. obj_lines k limits (word_lines ls) u) t h in
    keeps_lines k limits ls first.0 t (keeps_line k limits l.0 words s first.0 (read_words l.1) kept first.1) first.2

-- nothing is kept at the start
kept_start : (limits : Limits) → IsKept limits nothing_gathered
kept_start limits =
    record {
      points = All-nil IsPoint;
      three = All-nil HasThree;
      below = All-nil (IsBelow 0);
      few_points = omega arith;
      few_triples =
          omega arith;
      labels = record { one_each = refl; each = All-nil IsLabel };
      label = IsLabel-empty;
    }

-- the used points of a list are points of it
pub used_from-all : (P : List ℤ → Type 0) (ts : List Triple) (v : ℕ) (points : List (List ℤ)) → All P points → All P (used_from ts v points)
used_from-all P ts v [] all = All-nil P
used_from-all P ts v (p ∷ ps) all = by_test (is_used ts v) (used_from-all P ts (suc v) ps (All-tail P p ps all)) where
  by_test : (b : Bool) → All P (used_from ts (suc v) ps) → All P (cond b (p ∷ []) [] ++ used_from ts (suc v) ps)
  by_test true later = All-cons P p (used_from ts (suc v) ps) (All-head P p ps all) later
  by_test false later = later

-- what is read is a mesh within the limits, with a label for each triangle
pub files_give_meshes : (k : ℕ) (limits : Limits) → IsLawful limits → (bytes : List ℕ) (soup : Soup) → obj k limits bytes ≡ Ok soup →
    IsWithin limits soup.points soup.triples × AreLabels (length soup.triples) soup.labels
files_give_meshes k limits lawful bytes soup h =
    let lines = joined_lines (without_mark bytes) in
    let read = then_read-ok (obj_lines k limits (word_lines lines) nothing_gathered) (λ s. Ok (soup_of s.points s.triples s.labels)) soup h in
    let s = read.0 in
    let kept = keeps_lines k limits lines nothing_gathered s (kept_start limits) read.1 in
    let same : soup_of s.points s.triples s.labels ≡ soup = cc read.2 in
    let count : length (renumbered s.triples) ≡ length s.triples =
    length-map {B = Triple} s.triples (λ t. (new_number s.triples t.0, new_number s.triples t.1, new_number s.triples t.2)) in
    let sound : IsSound (length s.points) s.triples =
    record {
      three = kept.three;
      below = kept.below;
      few_points = omega (arith, kept.few_points, lawful.few_points);
      few_triples =
          omega (arith, kept.few_triples, lawful.few_triangles);
    } in
    let within : IsWithin limits (used_from s.triples 0 s.points) (renumbered s.triples) = record {
      on_grid = used_from-all IsPoint s.triples 0 s.points kept.points;
      mesh = kept_mesh s.triples s.points sound;
      few_points = omega (arith, few_kept s.triples 0 s.points, kept.few_points);
      few_triples = omega (arith, count, kept.few_triples);
    } in
    let labels : AreLabels (length (renumbered s.triples)) s.labels = record { one_each = omega (arith, count, kept.labels.one_each); each = kept.labels.each } in
    subst (λ (r : Soup). IsWithin limits r.points r.triples × AreLabels (length r.triples) r.labels) same (within, labels)
