-- The segments that runs and records give a face are those of its lists.
use Rattle.std.proofs.Common.{◌≡◌, ℕ, ◌+◌, ◌*◌, ◌<◌, true, false, ℤ, List, [], ◌∷◌, ◌++◌, map, length, get_or}
use Rattle.std.proofs.Common.{append-nil, append_assoc, refl, sym, ap, subst, ◌∙◌, arith}
use Rattle.std.specs.List.{All, flat_map}
use Rattle.std.proofs.lemmas.Grind.{flat_map-append}
use Rattle.std.proofs.lemmas.List.Folds.{flat_map-map}
use Rattle.chain_terms.specs.Chains.{all_edges}
use Rattle.chain_terms.specs.Sums.{upto}
use Rattle.chain_laws.specs.Sums.{flat_map-same}
use Rattle.mb_base.specs.declared.results.Entry.{Entry}
use Rattle.halfedge.proofs.Edges.{length-all_edges}
use Rattle.side_terms.specs.Lists.{ListName, ends, no_copy, standing, starts}
use Rattle.edge_pairing.specs.Entries.{ends_of, starts_of}
use Rattle.edge_pairing.specs.Pairing.{paired_across}
use Rattle.source_face_terms.specs.Segments.{paired_on_edge, place_of, segments_in, segments_of}
use Rattle.source_faces.specs.declared.lists.stands.Stand.{Stand}
use Rattle.source_faces.specs.Entries.{entry_of}
use Rattle.source_faces.specs.ListParts.{after, half_entries, half_part, half_segments, pair_segments, pairs_segments, segments_by}
use Rattle.source_faces.proofs.FaceRecords.{AreRecords}
use Rattle.source_faces.proofs.ListGroups.{of_list}
use Rattle.source_faces.proofs.HalfLists.{KnownHalf, KnownSide, half_tells, runs_between}
use Rattle.source_faces.proofs.ListKinds.{IsFace}
use Rattle.source_faces.proofs.PairLists.{pair_tells}
use Rattle.source_faces.proofs.Parts.{flat-nonempty, pairs_are, part_is}
use Rattle.source_faces.proofs.Told.{Tell, told}

-- what is known of a face: its lists, the copies and the runs of its side, and its records
pub record KnownFace : Type 0 where
  pub of : KnownSide
  pub source : ℕ
  pub number : ℕ
  pub others : ℕ
  pub name : ℕ → ListName
  pub stands : List Stand
  pub face : IsFace of.p of.q of.side of.origin source number others name
  pub records : AreRecords (all_edges of.p.triples) (all_edges of.q.triples) of.copies of.later name stands
  pub few : All (λ s. s.list < 3 + others) stands

-- where its copies lie
abbrev pub points_of : KnownFace → List (List ℤ)
points_of k = map (λ c. c.point) k.of.copies

-- how each copy stands in a list
abbrev pub number_in : KnownFace → ListName → ℕ → ℤ
number_in k name v = standing (all_edges k.of.p.triples) (all_edges k.of.q.triples) name (get_or k.of.copies v no_copy)

-- the starts and the ends of a list, and its segments
abbrev starts_in : KnownFace → ListName → List ℕ
starts_in k name = starts (all_edges k.of.p.triples) (all_edges k.of.q.triples) k.of.copies name

abbrev ends_in : KnownFace → ListName → List ℕ
ends_in k name = ends (all_edges k.of.p.triples) (all_edges k.of.q.triples) k.of.copies name

abbrev segments : KnownFace → ListName → List (ℕ × ℕ)
segments k name = segments_in k.of.p k.of.q k.of.copies (place_of k.of.copies) name

-- the entries of a half-edge, and of a pair
abbrev pub half_list : KnownFace → ℕ → List Entry
half_list k l = half_entries k.of.side k.of.runs (3 * k.number + l) (half_part l k.stands)

abbrev pub pair_records : KnownFace → ℕ → List Stand
pair_records k j = of_list (3 + j) k.stands

abbrev pub pair_list : KnownFace → ℕ → List Entry
pair_list k j = map entry_of (pair_records k j)

-- both tell their lists
pub half_told : (k : KnownFace) (l : ℕ) → l < 3 → Tell (length k.of.copies) (number_in k (k.name l)) (half_list k l)
half_told k l low =
    let h = 3 * k.number + l in
    let inside : h < length (all_edges k.of.side.triples) = omega (arith, low, k.face.below, length-all_edges k.of.side.triples) in
    let half : KnownHalf = record {
      of = k.of;
      half = h;
      name = k.name l;
      hits = map entry_of (of_list l k.stands);
      ends = runs_between k.of.side k.of.have.known h inside;
      is_half = k.face.halves l low;
      told = k.records.lists l;
    } in
    subst (λ part. Tell (length k.of.copies) (number_in k (k.name l)) (half_entries k.of.side k.of.runs h part))
    (sym (part_is l k.stands low k.records.steps)) (half_tells half)

pub pair_told : (k : KnownFace) (j : ℕ) → Tell (length k.of.copies) (number_in k (k.name (3 + j))) (pair_list k j)
pair_told k j = pair_tells k.of.p k.of.q k.of.copies k.of.later (k.name (3 + j)) (pair_list k j) (k.face.pairs j) (k.records.lists (3 + j))

-- so their starts and ends are those of the lists
from_told : (k : KnownFace) (name : ListName) (entries : List Entry) → Tell (length k.of.copies) (number_in k name) entries →
    starts_of entries ≡ starts_in k name
from_told k name entries tell = told (length k.of.copies) (number_in k name) entries true tell

to_told : (k : KnownFace) (name : ListName) (entries : List Entry) → Tell (length k.of.copies) (number_in k name) entries →
    ends_of entries ≡ ends_in k name
to_told k name entries tell = told (length k.of.copies) (number_in k name) entries false tell

-- and the segments are the same: of a half-edge
half_same : (k : KnownFace) (l : ℕ) → l < 3 →
    half_segments k.of.side k.of.runs (points_of k) (3 * k.number + l) (half_part l k.stands) ≡ segments k (k.name l)
half_same k l low =
    let name = k.name l in
    let tell = half_told k l low in
    let along : List ℕ → List ℕ → List (ℕ × ℕ) = paired_on_edge k.of.side (3 * k.number + l) (place_of k.of.copies) in
    ap (λ s. along s (ends_of (half_list k l))) (from_told k name (half_list k l) tell)
    ∙ ap (along (starts_in k name)) (to_told k name (half_list k l) tell)
    ∙ sym ((k.face.halves l low).paired (place_of k.of.copies) (starts_in k name) (ends_in k name))

-- of a pair
pair_same : (k : KnownFace) (j : ℕ) → pair_segments (points_of k) (pair_records k j) ≡ segments k (k.name (3 + j))
pair_same k j =
    let name = k.name (3 + j) in
    let tell = pair_told k j in
    let across : List ℕ → List ℕ → List (ℕ × ℕ) = paired_across (place_of k.of.copies) in
    ap (λ s. across s (ends_of (pair_list k j))) (from_told k name (pair_list k j) tell)
    ∙ ap (across (starts_in k name)) (to_told k name (pair_list k j) tell)
    ∙ sym ((k.face.pairs j).paired (place_of k.of.copies) (starts_in k name) (ends_in k name))

-- of all pairs
pairs_same : (k : KnownFace) → pairs_segments (points_of k) (after 3 k.stands) ≡ flat_map (segments k) (map (λ j. k.name (3 + j)) (upto k.others))
pairs_same k =
    let made : List Stand → List (ℕ × ℕ) = pair_segments (points_of k) in
    let all = upto k.others in
    ap (flat_map made) (pairs_are k.others k.stands k.records.steps k.few) ∙ flat-nonempty made refl (map (pair_records k) all)
    ∙ flat_map-map made (pair_records k) all
    ∙ flat_map-same (λ j. made (pair_records k j)) (λ j. segments k (k.name (3 + j))) (pair_same k) all
    ∙ sym (flat_map-map (segments k) (λ j. k.name (3 + j)) all)

-- three lists, then one more
four_lists : {Y : Type 0} (a b c d : List Y) → (a ++ (b ++ (c ++ []))) ++ d ≡ a ++ (b ++ (c ++ d))
four_lists a b c d = ap (λ l. (a ++ (b ++ l)) ++ d) (append-nil c) ∙ append_assoc a (b ++ c) d ∙ ap (λ l. a ++ l) (append_assoc b c d)

-- of the face
pub face_same : (k : KnownFace) →
    segments_by k.of.side k.of.runs (points_of k) k.number k.stands ≡ segments_of k.of.p k.of.q k.of.copies (place_of k.of.copies) k.source
face_same k =
    let of = segments k in
    let pairs = map (λ j. k.name (3 + j)) (upto k.others) in
    let half : ℕ → ℕ → List (ℕ × ℕ) = λ h l. half_segments k.of.side k.of.runs (points_of k) h (half_part l k.stands) in
    let zeroth : 3 * k.number ≡ 3 * k.number + 0 = omega arith in
    let first : half (3 * k.number) 0 ≡ of (k.name 0) = ap (λ h. half h 0) zeroth ∙ half_same k 0 (omega arith) in
    let second = half_same k 1 (omega arith) in
    let third = half_same k 2 (omega arith) in
    let last = pairs_same k in
    let all =
    ap (flat_map of) k.face.lists ∙ flat_map-append of (map k.name (upto 3)) pairs
    ∙ four_lists (of (k.name 0)) (of (k.name 1)) (of (k.name 2)) (flat_map of pairs) in
    ap (λ l. l ++ (half (3 * k.number + 1) 1 ++ (half (3 * k.number + 2) 2 ++ pairs_segments (points_of k) (after 3 k.stands)))) first
    ∙ ap (λ l. of (k.name 0) ++ (l ++ (half (3 * k.number + 2) 2 ++ pairs_segments (points_of k) (after 3 k.stands)))) second
    ∙ ap (λ l. of (k.name 0) ++ (of (k.name 1) ++ (l ++ pairs_segments (points_of k) (after 3 k.stands)))) third
    ∙ ap (λ l. of (k.name 0) ++ (of (k.name 1) ++ (of (k.name 2) ++ l))) last
    ∙ sym all
