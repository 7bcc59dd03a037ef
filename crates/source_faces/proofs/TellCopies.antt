-- The runs of both sides' vertices and the sorted records of the hits tell the prescribed copies.
use Rattle.std.proofs.Common.{◌≡◌, ℕ, ◌+◌, ◌<◌, ◌≤◌, List, [], ◌++◌, map, length, get_or, ◌⊎◌, inl, inr, sym, ap, ◌∙◌, subst, arith}
use Rattle.std.specs.List.{All, Contains}
use Rattle.std.proofs.lemmas.List.{append-nil, append_assoc, length-append, length-map}
use Rattle.std.proofs.lemmas.List.Concat.{flat_map-append}
use Rattle.std.proofs.lemmas.List.Elements.{All-append, All-nil, All-weaker, Contains-append_cases, Contains-append_left, Contains-append_right}
use Rattle.std.proofs.lemmas.List.Sorted.{Contains-permutation, IsPermutation-sym}
use Rattle.chain_terms.specs.Chains.{all_edges}
use Rattle.chain_terms.specs.Ranks.{twin}
use Rattle.chain_laws.proofs.Sorting.{sorted_by-permutation}
use Rattle.mb_base.specs.declared.op.Op.{Op}
use Rattle.mb_base.specs.declared.results.Origin.{Origin}
use Rattle.mb_base.specs.declared.results.Origin.TheVariants.{PEdge, PVertex, QEdge, QVertex}
use Rattle.side_terms.specs.Hits.{AreHits}
use Rattle.side_terms.specs.Sides.{IsSide, Side}
use Rattle.side_terms.specs.Lists.{Copy, no_copy, standing}
use Rattle.side_terms.specs.Points.{points_of}
use Rattle.side_terms.specs.Prescribed.{Prescription, Numbers, copies_of, hit_count, p_hits, p_kept, p_number}
use Rattle.side_terms.specs.Prescribed.{p_vertices, prescribed, q_hits, q_kept, q_number, q_vertices}
use Rattle.retained_verts.proofs.TwoLists.{two_faces}
use Rattle.source_faces.specs.Agreement.{AreRunsOf, AreStandsOf, HaveLists, IsHitCopy, IsRunOf, StandsAs, list_name}
use Rattle.source_faces.specs.Laws.{PrescribedHaveLists}
use Rattle.source_faces.specs.ListParts.{no_run}
use Rattle.source_faces.specs.Runs.{runs_from}
use Rattle.source_faces.specs.Stands.{hit_stands, sorted_stands, stands_before}
use Rattle.source_faces.specs.declared.lists.stands.Stand.{Stand}
use Rattle.source_faces.proofs.SideLists.{prescribed_listed}
use Rattle.source_faces.proofs.Blocks.{all_copies}
use Rattle.source_faces.proofs.Differing.{AreThree, IsWithinCopies, differ_append, hits_differ, hits_within}
use Rattle.source_faces.proofs.HitCopies.{AreTold, copy_number, told_each, told_only}
use Rattle.source_faces.proofs.HitSights.{p_seen, q_seen}
use Rattle.source_faces.proofs.Listed.{no_hit}
use Rattle.source_faces.proofs.PrescribedHits.{HasCopy, IsNumbered, all_hits, all_vertices, has_copy, length-hit_copies, numbered}
use Rattle.source_faces.proofs.StrictSort.{AllDiffer, all_sorted, sorted_ascend}
use Rattle.source_faces.proofs.VertexCopies.{IsOther, vertex_run}
use Rattle.source_faces.proofs.VertexRuns.{length-all_copies, length-runs, runs_in_order, vertex_numbers}

-- which kind an origin is of, and its first number
abbrev kind : Origin → ℕ
kind (PVertex v) = 0
kind (QVertex v) = 1
kind (PEdge e f) = 2
kind (QEdge e f) = 3

abbrev first_number : Origin → ℕ
first_number (PVertex v) = v
first_number (QVertex v) = v
first_number (PEdge e f) = e
first_number (QEdge e f) = e

module _ (op : Op) (p q : Side) (n : Numbers) (p_known : IsSide p) (q_known : IsSide q) (p_long : length n.w03 ≡ length p.corners)
    (q_long : length n.w30 ≡ length q.corners)
    (x12 : AreHits (all_edges p.triples) (length q.triples) n.x12) (x21 : AreHits (all_edges q.triples) (length p.triples) n.x21) where
  abbrev es : List (ℕ × ℕ)
  es = all_edges p.triples

  abbrev ds : List (ℕ × ℕ)
  ds = all_edges q.triples

  abbrev faces : ℕ
  faces = length p.triples

  abbrev cs : List Copy
  cs = prescribed op p q n

  -- the copies of vertices
  abbrev k : ℕ
  k = p_kept op n + q_kept op n

  abbrev vertices : List Prescription
  vertices = p_vertices op p n ++ q_vertices op q n

  abbrev hits : List Prescription
  hits = p_hits op n ++ q_hits op n

  p_size : length (all_copies (p_vertices op p n)) ≡ p_kept op n
  p_size =
      length-all_copies (p_vertices op p n) (p_number op) n.w03
      (vertex_numbers PVertex (p_number op) n.w03 (points_of p.corners) (length p.corners) p_long)

  q_size : length (all_copies (q_vertices op q n)) ≡ q_kept op n
  q_size =
      length-all_copies (q_vertices op q n) (q_number op) n.w30
      (vertex_numbers QVertex (q_number op) n.w30 (points_of q.corners) (length q.corners) q_long)

  vertices_size : length (all_copies vertices) ≡ k
  vertices_size =
      let ps = p_vertices op p n in
      let qs = q_vertices op q n in
      omega (arith, ap length (flat_map-append copies_of ps qs), length-append (all_copies ps) (all_copies qs), p_size, q_size)

  -- the prescribed copies, in two parts
  in_two : all_copies (vertices ++ hits) ≡ cs
  in_two = ap all_copies (append_assoc (p_vertices op p n) (q_vertices op q n) hits)

  -- hits are no vertices
  hits_differ_from : (origin : ℕ → Origin) → ((v : ℕ) → kind (origin v) < 2) → All (IsOther origin) hits
  hits_differ_from origin low =
      let Apart : Origin → Type 0 = λ o. (v : ℕ) → o ≡ origin v → ⊥ in
      All-append (IsOther origin) (p_hits op n) (q_hits op n)
      (all_hits op PEdge n.x12 Apart (λ e f v d. omega (arith, ap kind d, low v)))
      (all_hits op QEdge n.x21 Apart (λ e f v d. omega (arith, ap kind d, low v)))

  -- the runs of the first side's vertices
  p_copies : AreRunsOf cs PVertex p (runs_from 0 (map (p_number op) n.w03))
  p_copies =
      let qs = q_vertices op q n in
      let Apart : Origin → Type 0 = λ o. (v : ℕ) → o ≡ PVertex v → ⊥ in
      let apart : All (IsOther PVertex) qs =
      all_vertices QVertex (q_number op) n.w30 (points_of q.corners) (length q.corners) Apart (λ u v e. omega (arith, ap kind e)) in
      let others = All-append (IsOther PVertex) qs hits apart (hits_differ_from PVertex (λ v. omega arith)) in
      record {
        long = length-runs 0 (map (p_number op) n.w03) ∙ length-map n.w03 (p_number op) ∙ p_long;
        each = vertex_run [] (qs ++ hits) PVertex (p_number op) n.w03 (points_of p.corners) (length p.corners) (λ u v e. ap first_number e)
            (All-nil (IsOther PVertex)) others p_long;
      }

  -- and of the second's
  q_copies : AreRunsOf cs QVertex q (runs_from (p_kept op n) (map (q_number op) n.w30))
  q_copies =
      let ps = p_vertices op p n in
      let Apart : Origin → Type 0 = λ o. (v : ℕ) → o ≡ QVertex v → ⊥ in
      let apart : All (IsOther QVertex) ps =
      all_vertices PVertex (p_number op) n.w03 (points_of p.corners) (length p.corners) Apart (λ u v e. omega (arith, ap kind e)) in
      let others = hits_differ_from QVertex (λ v. omega arith) in
      record {
        long = length-runs (p_kept op n) (map (q_number op) n.w30) ∙ length-map n.w30 (q_number op) ∙ q_long;
        each = λ v l.
            let run =
            vertex_run ps hits QVertex (q_number op) n.w30 (points_of q.corners) (length q.corners) (λ u w e. ap first_number e) apart
            others q_long v l in
            subst (λ b. IsRunOf cs (QVertex v) (get_or (points_of q.corners) v [])
            (get_or (runs_from b (map (q_number op) n.w30)) v no_run)) p_size run;
      }

  -- the copies of the first mesh's hits
  p_told : AreTold op es ds faces cs es (λ x. x < faces) (λ x. faces ≤ x) 0 faces PEdge k n.x12
  p_told =
      let told : (j i : ℕ) → (j < length n.x12) × _ → HasCopy op PEdge cs (get_or n.x12 j no_hit) (copy_number op PEdge k n.x12 j i) = λ j i t.
      subst (λ c. HasCopy op PEdge c (get_or n.x12 j no_hit) (copy_number op PEdge k n.x12 j i)) in_two
      (has_copy op PEdge vertices (q_hits op n) n.x12 k vertices_size j i t.0 t.1) in
      record {
        of_hits = λ e f. tt;
        within = λ j i t. (told j i t).within;
        copy = λ j i t. (told j i t).copy;
        seen = λ j l. let h = get_or n.x12 j no_hit in p_seen p q p_known h.edge h.face _ h.at (x12.on_edges j no_hit l).0;
      }

  -- the number of the first copy of the second mesh's hits
  abbrev second : ℕ
  second = k + hit_count op n.x12

  first_size : length (all_copies (vertices ++ p_hits op n)) ≡ second
  first_size =
      omega (
        arith,
        ap length (flat_map-append copies_of vertices (p_hits op n)),
        length-append (all_copies vertices) (all_copies (p_hits op n)),
        vertices_size,
        length-hit_copies op PEdge n.x12,
      )

  -- the prescribed copies, with the second mesh's hits at the end
  in_three : all_copies ((vertices ++ p_hits op n) ++ (q_hits op n ++ [])) ≡ cs
  in_three =
      ap (λ is. all_copies ((vertices ++ p_hits op n) ++ is)) (append-nil (q_hits op n))
      ∙ ap all_copies (append_assoc vertices (p_hits op n) (q_hits op n)) ∙ in_two

  -- its copies
  q_told : AreTold op es ds faces cs ds (λ x. faces ≤ x) (λ x. x < faces) faces 0 QEdge second n.x21
  q_told =
      let told : (j i : ℕ) → (j < length n.x21) × _ → HasCopy op QEdge cs (get_or n.x21 j no_hit) (copy_number op QEdge second n.x21 j i) = λ j i t.
      subst (λ c. HasCopy op QEdge c (get_or n.x21 j no_hit) (copy_number op QEdge second n.x21 j i)) in_three
      (has_copy op QEdge (vertices ++ p_hits op n) [] n.x21 second first_size j i t.0 t.1) in
      record {
        of_hits = λ e f. tt;
        within = λ j i t. (told j i t).within;
        copy = λ j i t. (told j i t).copy;
        seen = λ j l. let h = get_or n.x21 j no_hit in q_seen p q q_known h.edge h.face _ h.at (x21.on_edges j no_hit l).0 (x21.on_faces j no_hit l);
      }

  -- the records of both, and sorted
  abbrev p_stands : List Stand
  p_stands = hit_stands op es 0 faces k n.x12

  abbrev q_stands : List Stand
  q_stands = hit_stands op ds faces 0 second n.x21

  abbrev stands : List Stand
  stands = sorted_stands op p q n.x12 n.x21 k

  -- a copy of a hit has its number among those of the first mesh or of the second
  by_number : (v : ℕ) → v < length cs → IsHitCopy (get_or cs v no_copy).origin → IsNumbered op PEdge k n.x12 v ⊎ IsNumbered op QEdge second n.x21 v
  by_number v l hit =
      let NoHit : Origin → Type 0 = λ o. IsHitCopy o → ⊥ in
      let of_p = all_vertices PVertex (p_number op) n.w03 (points_of p.corners) (length p.corners) NoHit (λ u h. h) in
      let of_q = all_vertices QVertex (q_number op) n.w30 (points_of q.corners) (length q.corners) NoHit (λ u h. h) in
      let none : All (λ i. NoHit i.origin) vertices = All-append (λ i. NoHit i.origin) (p_vertices op p n) (q_vertices op q n) of_p of_q in
      let found =
      numbered op vertices n.x12 n.x21 none v (omega (arith, l, ap length in_two))
      (subst (λ (c : List Copy). IsHitCopy (get_or c v no_copy).origin) (sym in_two) hit) in
      subst (λ b. IsNumbered op PEdge b n.x12 v ⊎ IsNumbered op QEdge (b + hit_count op n.x12) n.x21 v) vertices_size found

  -- the record says how its copy stands
  abbrev SaysSo : Stand → Type 0
  SaysSo s =
      (s.copy < length cs) × IsHitCopy (get_or cs s.copy no_copy).origin
      × StandsAs s.start (standing es ds (list_name faces s.face s.list) (get_or cs s.copy no_copy))

  p_only : (s : Stand) → Contains p_stands s → SaysSo s
  p_only = told_only op es ds faces cs es (λ x. x < faces) (λ x. faces ≤ x) 0 faces PEdge k n.x12 p_told

  q_only : (s : Stand) → Contains q_stands s → SaysSo s
  q_only = told_only op es ds faces cs ds (λ x. faces ≤ x) (λ x. x < faces) faces 0 QEdge second n.x21 q_told

  -- each list in which a copy stands has its record
  p_each : (s : Stand) → IsNumbered op PEdge k n.x12 s.copy →
      StandsAs s.start (standing es ds (list_name faces s.face s.list) (get_or cs s.copy no_copy)) → Contains p_stands s
  p_each s a =
      told_each op es ds faces cs es (λ x. x < faces) (λ x. faces ≤ x) 0 faces PEdge k n.x12 p_told a.hit a.turn (a.within, a.inside) s.face
      s.list s.copy s.start a.at

  q_each : (s : Stand) → IsNumbered op QEdge second n.x21 s.copy →
      StandsAs s.start (standing es ds (list_name faces s.face s.list) (get_or cs s.copy no_copy)) → Contains q_stands s
  q_each s b =
      told_each op es ds faces cs ds (λ x. faces ≤ x) (λ x. x < faces) faces 0 QEdge second n.x21 q_told b.hit b.turn (b.within, b.inside)
      s.face s.list s.copy s.start b.at

  -- so the sorted records say how the copies stand
  hit_copies : AreStandsOf es ds faces cs stands
  hit_copies =
      let all = p_stands ++ q_stands in
      let moved = sorted_by-permutation stands_before all in
      record {
        each = λ x l v start below hit so.
            let s : Stand = record { face = x; list = l; copy = v; start = start } in
            Contains-permutation all stands s moved (elim (by_number v below hit) as (λ _. Contains all s) [
              | inl a ↦ Contains-append_left p_stands q_stands s (p_each s a so)
              | inr b ↦ Contains-append_right p_stands q_stands s (q_each s b so)
            ]);
        only = λ s c.
            elim (Contains-append_cases p_stands q_stands s (Contains-permutation stands all s (IsPermutation-sym all stands moved) c))
            as (λ _. SaysSo s) [
              | inl a ↦ p_only s a
              | inr b ↦ q_only s b
            ];
      }

  -- the edges of hits have two faces
  p_three : All (λ h. AreThree 0 faces h.edge (twin es h.edge) h.face) n.x12
  p_three j d l =
      let two = two_faces p (get_or n.x12 j d).edge p_known (x12.on_edges j d l).0 in
      record { apart = two.apart; first = λ e. omega (arith, e, two.one); second = λ e. omega (arith, e, two.other) }

  q_three : All (λ h. AreThree faces 0 h.edge (twin ds h.edge) h.face) n.x21
  q_three j d l =
      let two = two_faces q (get_or n.x21 j d).edge q_known (x21.on_edges j d l).0 in
      let below = x21.on_faces j d l in
      record { apart = two.apart; first = λ e. omega (arith, e, below); second = λ e. omega (arith, e, below) }

  -- the records of the first mesh's hits are of copies from k on, and those of the second's of later ones
  p_within : All (IsWithinCopies k (hit_count op n.x12)) p_stands
  p_within = hits_within op es 0 faces k n.x12

  q_within : All (IsWithinCopies second (hit_count op n.x21)) q_stands
  q_within = hits_within op ds faces 0 second n.x21

  later : All (λ s. k ≤ s.copy) (p_stands ++ q_stands)
  later =
      All-append (λ s. k ≤ s.copy) p_stands q_stands
      (All-weaker (IsWithinCopies k (hit_count op n.x12)) (λ s. k ≤ s.copy) (λ s w. w.0) p_stands p_within)
      (All-weaker (IsWithinCopies second (hit_count op n.x21)) (λ s. k ≤ s.copy) (λ s w. omega (arith, w.0)) q_stands q_within)

  differ : AllDiffer (p_stands ++ q_stands)
  differ =
      differ_append second p_stands q_stands
      (All-weaker (IsWithinCopies k (hit_count op n.x12)) (λ s. s.copy < second) (λ s w. w.1) p_stands p_within)
      (All-weaker (IsWithinCopies second (hit_count op n.x21)) (λ s. second ≤ s.copy) (λ s w. w.0) q_stands q_within)
      (hits_differ op es 0 faces k n.x12 p_three)
      (hits_differ op ds faces 0 second n.x21 q_three)

  pub tell_copies : HaveLists p q cs k (runs_from 0 (map (p_number op) n.w03)) (runs_from (p_kept op n) (map (q_number op) n.w30)) stands
  tell_copies = record {
    p_side = p_known;
    q_side = q_known;
    p_copies = p_copies;
    q_copies = q_copies;
    p_order = runs_in_order (p_number op) 0 k n.w03 (omega arith);
    q_order = runs_in_order (q_number op) (p_kept op n) k n.w30 (omega arith);
    hit_copies = hit_copies;
    later = all_sorted (λ s. k ≤ s.copy) stands_before (p_stands ++ q_stands) later;
    listed = prescribed_listed op p q n p_known q_known x12 x21 stands hit_copies;
    ascend = sorted_ascend (p_stands ++ q_stands) differ;
  }

pub prescribed_have_lists : PrescribedHaveLists
prescribed_have_lists op p q n p_known q_known p_long q_long x12 x21 = tell_copies op p q n p_known q_known p_long q_long x12 x21
