use Rattle.std.proofs.Common.{◌≡◌, ◌<◌, ◌+◌, ◌*◌, ◌%◌, ◌↔◌, ℕ, List, Bool, IsTrue, length, map, sym, ◌∙◌, ap, subst, arith}
use Rattle.std.specs.Prelude.{IfSome}
use Rattle.std.specs.List.{All}
use Rattle.std.proofs.lemmas.List.{length-map, with_items_is}
use Rattle.std.proofs.lemmas.Nat.{mod_below}
use Rattle.chain_terms.specs.Chains.{all_edges, IsClosed}
use Rattle.chain_terms.specs.Sums.{upto}
use Rattle.chain_terms.specs.Ranks.{twin}
use Rattle.mesh_terms.specs.Meshes.{HasThree, triple_of, triples_of}
use Rattle.places_by_key.specs.Buckets.{places_of}
use Rattle.halfedge.specs.Laws.{AreSingle}
use Rattle.halfedge.specs.Ways.{lesser_end, bucket_of, ArePaired}
use Rattle.halfedge.proofs.Edges.{length-all_edges}
use Rattle.halfedge.proofs.BucketContents.{numbers_below}
use Rattle.halfedge.proofs.PairedBuckets.{paired_all, edges_differ}
use Rattle.halfedge.proofs.pairing.paired.Goals as goal

-- there are three half-edges for each triangle
edge_count : (ts : List (List ℕ)) → length (all_edges (triples_of ts)) ≡ 3 * length ts
edge_count ts = length-all_edges (triples_of ts) ∙ ap (λ n. 3 * n) (length-map ts triple_of)

pub by_key-requires-clause-below : goal.by_key-requires-clause-below
by_key-requires-clause-below c =
    let n : ℕ = length c.args.triples.now + 1 in
    subst (All (λ k. k < n)) (sym (c.deref.ensures.value ∙ c.in_ok-numbers.ensures)) (numbers_below lesser_end n (all_edges (triples_of c.args.triples.now)) (omega arith))

pub by_key-requires-clause-few : goal.by_key-requires-clause-few
by_key-requires-clause-few c =
    let n : ℕ = length c.args.triples.now + 1 in
    omega (
      arith,
      ap length (c.deref.ensures.value ∙ c.in_ok-numbers.ensures),
      length-map (all_edges (triples_of c.args.triples.now)) (bucket_of n),
      edge_count c.args.triples.now,
      c.requires.few,
    )

pub pair_buckets-requires-clause-gathered : goal.pair_buckets-requires-clause-gathered
pair_buckets-requires-clause-gathered c =
    let n : ℕ = length c.args.triples.now + 1 in
    c.in_ok-buckets.ensures ∙ ap (λ l. map (places_of l) (upto n)) (c.deref.ensures.value ∙ c.in_ok-numbers.ensures)

pub pair_buckets-requires-clause-full : goal.pair_buckets-requires-clause-full
pair_buckets-requires-clause-full c =
    ap length (c.deref_mut.ensures.value ∙ c.in_ok-numbers.ensures) ∙ length-map (all_edges (triples_of c.args.triples.now)) (bucket_of (length c.args.triples.now + 1))

-- what is known once all buckets are paired
all_paired : (ts : List (List ℕ)) (twins : List ℕ) (single : Bool) → All HasThree (triples_of ts) →
    ArePaired (all_edges (triples_of ts)) (λ a. a % (length ts + 1)) (length ts + 1) twins single
    → IsClosed (all_edges (triples_of ts)) × (twins ≡ map (twin (all_edges (triples_of ts))) (upto (length (all_edges (triples_of ts))))) × (IsTrue single
    ↔ AreSingle (all_edges (triples_of ts)))
all_paired ts twins single three paired =
    let n : ℕ = length ts + 1 in
    paired_all (all_edges (triples_of ts)) (λ a. a % n) n twins single paired (λ a. mod_below a n (omega arith)) (edges_differ (triples_of ts) three)

pub returns-in-Some-clause-twins : goal.returns-in-Some-clause-twins
returns-in-Some-clause-twins c =
    let es = all_edges (triples_of c.args.triples.now) in
    let n : ℕ = length c.args.triples.now + 1 in
    let new = c.pair_buckets.new.twins in
    let paired = subst (λ o. IfSome o (λ single. ArePaired es (λ a. a % n) n new single)) c.in-Some.is c.in_ok-single.ensures.paired in
    let full : length new ≡ c.in_ok-numbers.numbers.len = paired.full ∙ sym (ap length c.in_ok-numbers.ensures ∙ length-map es (bucket_of n)) ∙ sym c.in_ok-numbers.numbers.ok.0 in
    with_items_is c.in_ok-numbers.numbers new full ∙ (all_paired c.args.triples.now new c.in-Some.single c.requires.three paired).1

pub returns-in-Some-clause-single : goal.returns-in-Some-clause-single
returns-in-Some-clause-single c =
    let es = all_edges (triples_of c.args.triples.now) in
    let n : ℕ = length c.args.triples.now + 1 in
    let new = c.pair_buckets.new.twins in
    let paired = subst (λ o. IfSome o (λ single. ArePaired es (λ a. a % n) n new single)) c.in-Some.is c.in_ok-single.ensures.paired in
    (all_paired c.args.triples.now new c.in-Some.single c.requires.three paired).2

pub returns-in-Some-clause-closed : goal.returns-in-Some-clause-closed
returns-in-Some-clause-closed c =
    let es = all_edges (triples_of c.args.triples.now) in
    let n : ℕ = length c.args.triples.now + 1 in
    let new = c.pair_buckets.new.twins in
    let paired = subst (λ o. IfSome o (λ single. ArePaired es (λ a. a % n) n new single)) c.in-Some.is c.in_ok-single.ensures.paired in
    (all_paired c.args.triples.now new c.in-Some.single c.requires.three paired).0
