-- A face's records, cut where its lists end.
use Rattle.std.proofs.Common.{◌≡◌, ℕ, ◌+◌, ◌-◌, ◌*◌, List, [], ◌++◌, take, drop, ℤ, append_assoc, ap, ◌∙◌, arith}
use Rattle.side_terms.specs.Sides.{Side}
use Rattle.source_faces.specs.Entries.{list_count, list_end}
use Rattle.source_faces.specs.ListParts.{after, front, half_part, half_segments, pairs_segments, rest, segments_by}
use Rattle.source_faces.specs.declared.lists.runs.CopyRange.{CopyRange}
use Rattle.source_faces.specs.declared.lists.stands.Stand.{Stand}
use Rattle.source_faces.proofs.Pieces.{slice_front, slice_rest}

-- the lists of the three half-edges end at these places
pub record AreEnds (ss : List Stand) (first second third : ℕ) : Type 0 where
  pub one : first ≡ list_end ss 0 0
  pub two : second ≡ list_end ss first 1
  pub three : third ≡ list_end ss second 2

-- the records of each half-edge, and those behind
pub first_part : (ss : List Stand) (first : ℕ) → first ≡ list_end ss 0 0 → take first ss ≡ half_part 0 ss
first_part ss first one = let size : first ≡ list_count ss 0 = omega (arith, one) in ap (λ n. take n ss) size

first_rest : (ss : List Stand) (first : ℕ) → first ≡ list_end ss 0 0 → drop first ss ≡ after 1 ss
first_rest ss first one = let size : first ≡ list_count ss 0 = omega (arith, one) in ap (λ n. drop n ss) size

pub second_part : (ss : List Stand) (first second : ℕ) → first ≡ list_end ss 0 0 → second ≡ list_end ss first 1 →
    take (second - first) (drop first ss) ≡ half_part 1 ss
second_part ss first second one two =
    ap (λ n. take (n - first) (drop first ss)) two ∙ slice_front ss first 1 ∙ ap (λ ts. front ts 1) (first_rest ss first one)

second_rest : (ss : List Stand) (first second : ℕ) → first ≡ list_end ss 0 0 → second ≡ list_end ss first 1 → drop second ss ≡ after 2 ss
second_rest ss first second one two = ap (λ n. drop n ss) two ∙ slice_rest ss first 1 ∙ ap (λ ts. rest ts 1) (first_rest ss first one)

pub third_part : (ss : List Stand) (first second third : ℕ) → AreEnds ss first second third → take (third - second) (drop second ss) ≡ half_part 2 ss
third_part ss first second third ends =
    ap (λ n. take (n - second) (drop second ss)) ends.three ∙ slice_front ss second 2
    ∙ ap (λ ts. front ts 2) (second_rest ss first second ends.one ends.two)

pub third_rest : (ss : List Stand) (first second third : ℕ) → AreEnds ss first second third → drop third ss ≡ after 3 ss
third_rest ss first second third ends =
    ap (λ n. drop n ss) ends.three ∙ slice_rest ss second 2 ∙ ap (λ ts. rest ts 2) (second_rest ss first second ends.one ends.two)

-- four lists, one behind the other
four : {X : Type 0} (none s1 s2 s3 s4 a b c d : List X) → none ≡ [] → s1 ≡ none ++ a → s2 ≡ s1 ++ b → s3 ≡ s2 ++ c → s4 ≡ s3 ++ d →
    s4 ≡ a ++ (b ++ (c ++ d))
four none s1 s2 s3 s4 a b c d e f g h i =
    i ∙ ap (λ l. l ++ d) (h ∙ ap (λ l. l ++ c) (g ∙ ap (λ l. l ++ b) (f ∙ ap (λ l. l ++ a) e))) ∙ append_assoc (a ++ b) c d
    ∙ append_assoc a b (c ++ d)

-- the segments of the half-edges and of the pairs are those of the face
pub whole_face : (side : Side) (runs : List CopyRange) (points : List (List ℤ)) (f half first second third : ℕ) (ss : List Stand)
    (none s1 s2 s3 s4 : List (ℕ × ℕ)) → half ≡ 3 * f → AreEnds ss first second third →
    none ≡ [] → s1 ≡ none ++ half_segments side runs points half (take first ss) →
    s2 ≡ s1 ++ half_segments side runs points (half + 1) (take (second - first) (drop first ss)) →
    s3 ≡ s2 ++ half_segments side runs points (half + 2) (take (third - second) (drop second ss)) →
    s4 ≡ s3 ++ pairs_segments points (drop third ss) → s4 ≡ segments_by side runs points f ss
whole_face side runs points f half first second third ss none s1 s2 s3 s4 at ends empty one two three four_ =
    let a : half_segments side runs points half (take first ss) ≡ half_segments side runs points (3 * f) (half_part 0 ss) =
    ap (λ h. half_segments side runs points h (take first ss)) at ∙ ap (half_segments side runs points (3 * f)) (first_part ss first ends.one) in
    let b : half_segments side runs points (half + 1) (take (second - first) (drop first ss)) ≡
    half_segments side runs points (3 * f + 1) (half_part 1 ss) =
    ap (λ h. half_segments side runs points (h + 1) (take (second - first) (drop first ss))) at
    ∙ ap (half_segments side runs points (3 * f + 1)) (second_part ss first second ends.one ends.two) in
    let c : half_segments side runs points (half + 2) (take (third - second) (drop second ss)) ≡
    half_segments side runs points (3 * f + 2) (half_part 2 ss) =
    ap (λ h. half_segments side runs points (h + 2) (take (third - second) (drop second ss))) at
    ∙ ap (half_segments side runs points (3 * f + 2)) (third_part ss first second third ends) in
    let d : pairs_segments points (drop third ss) ≡ pairs_segments points (after 3 ss) =
    ap (pairs_segments points) (third_rest ss first second third ends) in
    four none s1 s2 s3 s4 _ _ _ _ empty (one ∙ ap (λ l. none ++ l) a) (two ∙ ap (λ l. s1 ++ l) b) (three ∙ ap (λ l. s2 ++ l) c)
    (four_ ∙ ap (λ l. s3 ++ l) d)
