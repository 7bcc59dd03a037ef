-- Runs and records that tell all copies give each face its segments, and these can be paired.
use Rattle.std.proofs.Common.{◌≡◌, ℕ, ◌+◌, ◌<◌, ◌==◌, List, map, length, get_or, subst}
use Rattle.std.specs.List.{All}
use Rattle.std.proofs.lemmas.Bool.{eqb-true}
use Rattle.std.proofs.lemmas.List.Elements.{All-filter, filter_passes}
use Rattle.chain_terms.specs.Chains.{all_edges}
use Rattle.mb_base.specs.declared.results.Origin.TheVariants.{PVertex, QVertex}
use Rattle.side_terms.specs.Sides.{Side}
use Rattle.side_terms.specs.Lists.{Copy, IsListOf}
use Rattle.side_terms.specs.Standing.{IsBalanced}
use Rattle.source_face_terms.specs.Segments.{place_of, segments_of}
use Rattle.source_faces.specs.declared.lists.runs.CopyRange.{CopyRange}
use Rattle.source_faces.specs.declared.lists.stands.Stand.{Stand}
use Rattle.source_faces.specs.Agreement.{HaveLists, list_name, records_of}
use Rattle.source_faces.specs.ListParts.{CanBeSegments, segments_by}
use Rattle.source_faces.proofs.CanPair.{face_can}
use Rattle.source_faces.proofs.FaceRecords.{AreRecords, face_records}
use Rattle.source_faces.proofs.FaceSegments.{KnownFace, face_same}
use Rattle.source_faces.proofs.HalfLists.{HaveRuns, KnownSide}
use Rattle.source_faces.proofs.ListKinds.{IsFace, face_of_p, face_of_q}
use Rattle.source_faces.proofs.SideLists.{AreListed}

-- the lists of a face's records are its own
own_lists : (p q : Side) (stands : List Stand) → AreListed p q stands → (x : ℕ) →
    All (λ s. IsListOf (length p.triples) (length q.triples) (list_name (length p.triples) x s.list)) (records_of stands x)
own_lists p q stands listed x i d l =
    let ss = records_of stands x in
    let s = get_or ss i d in
    let Known : ℕ → Type 0 = λ y. IsListOf (length p.triples) (length q.triples) (list_name (length p.triples) y s.list) in
    let here : s.face ≡ x = eqb-true s.face x (filter_passes (λ (t : Stand). t.face == x) stands i d l) in
    subst Known here
    (All-filter (λ (t : Stand). t.face == x)
    (λ t. IsListOf (length p.triples) (length q.triples) (list_name (length p.triples) t.face t.list)) stands listed i d l)

-- what is known of a face of a side
abbrev known_of : (of : KnownSide) (stands : List Stand) → AreListed of.p of.q stands → (x f others : ℕ) →
    IsFace of.p of.q of.side of.origin x f others (list_name (length of.p.triples) x) →
    AreRecords (all_edges of.p.triples) (all_edges of.q.triples) of.copies of.later (list_name (length of.p.triples) x)
    (records_of stands x) → KnownFace
known_of of stands listed x f others face records = record {
  of = of;
  source = x;
  number = f;
  others = others;
  name = list_name (length of.p.triples) x;
  stands = records_of stands x;
  face = face;
  records = records;
  few = λ i d l. face.few (get_or (records_of stands x) i d).list (own_lists of.p of.q stands listed x i d l);
}

-- of one of P, and of one of Q
abbrev known_p : (p q : Side) (cs : List Copy) (k : ℕ) (p_runs q_runs : List CopyRange) (stands : List Stand) →
    HaveLists p q cs k p_runs q_runs stands → AreListed p q stands → (f : ℕ) → f < length p.triples → KnownFace
known_p p q cs k p_runs q_runs stands lists listed f low =
    let runs : HaveRuns cs k p PVertex p_runs = record { known = lists.p_side; copies = lists.p_copies; order = lists.p_order } in
    let of : KnownSide = record { p = p; q = q; side = p; origin = PVertex; copies = cs; later = k; runs = p_runs; have = runs } in
    known_of of stands listed f f (length q.triples) (face_of_p p q f low) (face_records p q cs k p_runs q_runs stands lists f)

abbrev known_q : (p q : Side) (cs : List Copy) (k : ℕ) (p_runs q_runs : List CopyRange) (stands : List Stand) →
    HaveLists p q cs k p_runs q_runs stands → AreListed p q stands → (g : ℕ) → g < length q.triples → KnownFace
known_q p q cs k p_runs q_runs stands lists listed g low =
    let x = length p.triples + g in
    let runs : HaveRuns cs k q QVertex q_runs = record { known = lists.q_side; copies = lists.q_copies; order = lists.q_order } in
    let of : KnownSide = record { p = p; q = q; side = q; origin = QVertex; copies = cs; later = k; runs = q_runs; have = runs } in
    known_of of stands listed x g (length p.triples) (face_of_q p q g low) (face_records p q cs k p_runs q_runs stands lists x)

-- the segments of each
pub segments_given : (p q : Side) (cs : List Copy) (k : ℕ) (p_runs q_runs : List CopyRange) (stands : List Stand) →
    HaveLists p q cs k p_runs q_runs stands → AreListed p q stands →
    ((f : ℕ) → f < length p.triples → segments_by p p_runs (map (λ c. c.point) cs) f (records_of stands f) ≡ segments_of p q cs (place_of cs) f)
    × ((g : ℕ) → g < length q.triples →
    segments_by q q_runs (map (λ c. c.point) cs) g (records_of stands (length p.triples + g)) ≡
    segments_of p q cs (place_of cs) (length p.triples + g))
segments_given p q cs k p_runs q_runs stands lists listed = (
  (λ f low. face_same (known_p p q cs k p_runs q_runs stands lists listed f low)),
  (λ g low. face_same (known_q p q cs k p_runs q_runs stands lists listed g low)),
)

-- and that they can be paired
pub segments_can : (p q : Side) (cs : List Copy) (k : ℕ) (p_runs q_runs : List CopyRange) (stands : List Stand) →
    HaveLists p q cs k p_runs q_runs stands → AreListed p q stands → IsBalanced p q cs →
    ((f : ℕ) → f < length p.triples → CanBeSegments p p_runs (map (λ c. c.point) cs) f (records_of stands f))
    × ((g : ℕ) → g < length q.triples → CanBeSegments q q_runs (map (λ c. c.point) cs) g (records_of stands (length p.triples + g)))
segments_can p q cs k p_runs q_runs stands lists listed balance = (
  (λ f low. face_can (known_p p q cs k p_runs q_runs stands lists listed f low) balance),
  (λ g low. face_can (known_q p q cs k p_runs q_runs stands lists listed g low) balance),
)
