use Rattle.std.proofs.Common.{refl, ◌≡◌, ◌<◌, ◌+◌, ◌*◌, ◌%◌, ◌↔◌, ℕ, List, [], Bool, ◌&&◌, IsTrue, length, get_or, map, sym, ◌∙◌, ap, subst, arith}
use Rattle.std.specs.Prelude.{is_some, IfSome}
use Rattle.std.specs.List.{All, filter}
use Rattle.std.specs.List.Sorted.{IsSorted}
use Rattle.std.proofs.lemmas.List.{length-map, get_or_default}
use Rattle.chain_terms.specs.Chains.{all_edges}
use Rattle.chain_terms.specs.Sums.{upto}
use Rattle.chain_terms.specs.Ranks.{twin}
use Rattle.mesh_terms.specs.Meshes.{triple_of, triples_of}
use Rattle.places_by_key.specs.Buckets.{places_of}
use Rattle.places_by_key.proofs.Upto.{length-map-upto}
use Rattle.halfedge.specs.Laws.{AreSingle}
use Rattle.halfedge.specs.Pairing.{Half, turned, half_at, half_cmp, ends_of, IsSortOf}
use Rattle.halfedge.specs.Ways.{half_of, bucket_of, runs_up, AreWays, ArePartners, AreWritten, ArePaired}
use Rattle.halfedge.proofs.BucketContents.{edge_keys, read_bucket, bucket_members, bucket_sides}
use Rattle.halfedge.proofs.Edges.{length-all_edges}
use Rattle.halfedge.proofs.PairedBuckets.{paired_none, paired_more, not_closed}
use Rattle.halfedge.proofs.TwinWays.{twins_of_sides, halves_of_ways, up_placed, down_placed}
use Rattle.halfedge.proofs.pairing.pair_buckets.Goals as goal

pub loop-k-init : goal.loop-k-init
loop-k-init c = paired_none (all_edges (triples_of c.args.triples.now)) (λ a. a % (length c.args.triples.now + 1)) c.args.twins.now c.requires.full

pub bucket-requires : goal.bucket-requires
bucket-requires c =
    omega (
      arith,
      c.loop-k-test.true,
      ap length c.requires.gathered,
      length-map-upto (places_of (map (bucket_of (length c.args.triples.now + 1)) (all_edges (triples_of c.args.triples.now)))) (length c.args.triples.now + 1),
    )

-- there are three half-edges for each triangle
edge_count : (ts : List (List ℕ)) → length (all_edges (triples_of ts)) ≡ 3 * length ts
edge_count ts = length-all_edges (triples_of ts) ∙ ap (λ n. 3 * n) (length-map ts triple_of)

pub ways-requires-clause-within : goal.ways-requires-clause-within
ways-requires-clause-within c k d low =
    let es = all_edges (triples_of c.args.triples.now) in
    let n : ℕ = length c.args.triples.now + 1 in
    let bucket = read_bucket (map (bucket_of n) es) n c.loop-k.k _ _ _ refl c.requires.gathered c.bucket.ensures in
    omega (arith, edge_count c.args.triples.now, length-map es (bucket_of n), bucket_members _ n c.loop-k.k c.bucket.result.now c.loop-k-test.true bucket k d low)

-- the ways of the bucket that is read
ways_read : (es : List (ℕ × ℕ)) (n k : ℕ) (buckets : List (List ℕ)) (bucket : List ℕ) (ups downs : List Half) → k < n →
    buckets ≡ map (places_of (map (bucket_of n) es)) (upto n) → bucket ≡ get_or buckets k []
    → IsSortOf (filter runs_up (map (half_of es) bucket)) ups → IsSortOf (filter runs_up (map turned (map (half_of es) bucket))) downs → AreWays es (λ a. a % n) k ups downs
ways_read es n k buckets bucket ups downs low gathered read =
    bucket_sides es (λ a. a % n) (map (bucket_of n) es) n k bucket ups downs (edge_keys es n) low (read_bucket (map (bucket_of n) es) n k _ buckets bucket refl gathered read)

-- and the numbers in them
numbers_read : (c : goal.After-pair_ways-arg-1) →
    ((i : ℕ) → i < length c.in_ok-ups.ups.items → half_at c.in_ok-ups.ups.items i < length (all_edges (triples_of c.args.triples.now)))
    × ((i : ℕ) → i < length c.in_ok-ups.downs.items → half_at c.in_ok-ups.downs.items i < length (all_edges (triples_of c.args.triples.now)))
numbers_read c =
    halves_of_ways (all_edges (triples_of c.args.triples.now)) (λ a. a % (length c.args.triples.now + 1)) c.loop-k.k c.in_ok-ups.ups.items
    c.in_ok-ups.downs.items (ways_read (all_edges (triples_of c.args.triples.now)) (length c.args.triples.now + 1) c.loop-k.k _ _ c.in_ok-ups.ups.items
    c.in_ok-ups.downs.items c.loop-k-test.true c.requires.gathered c.bucket.ensures c.in_ok-ups.ensures.ups c.in_ok-ups.ensures.downs)

-- the numbers of a list are below a length
all_below : (xs ys : List Half) (n m : ℕ) → xs ≡ ys → n ≡ m → ((i : ℕ) → i < length ys → half_at ys i < m) → All (λ e. e.2 < n) xs
all_below xs ys n m same as_long each =
    subst (λ l. All (λ (e : Half). e.2 < n) l) (sym same)
    (λ i d low. let read = ap (λ (e : Half). e.2) (get_or_default ys i d (0, 0, 0) low) in omega (arith, read, each i low, as_long))

pub pair_ways-requires-clause-sorted : goal.pair_ways-requires-clause-sorted
pair_ways-requires-clause-sorted c = subst (IsSorted half_cmp) (sym c.deref.ensures.value) c.in_ok-ups.ensures.ups.up

pub pair_ways-requires-clause-ups_within : goal.pair_ways-requires-clause-ups_within
pair_ways-requires-clause-ups_within c =
    all_below c.deref.result.now c.in_ok-ups.ups.items (length c.loop-k.twins) (length (all_edges (triples_of c.args.triples.now))) c.deref.ensures.value
    c.loop-k.invariant.full (numbers_read c).0

pub pair_ways-requires-clause-downs_within : goal.pair_ways-requires-clause-downs_within
pair_ways-requires-clause-downs_within c =
    all_below c.deref-in-loop-k.result.now c.in_ok-ups.downs.items (length c.loop-k.twins) (length (all_edges (triples_of c.args.triples.now)))
    c.deref-in-loop-k.ensures.value c.loop-k.invariant.full (numbers_read c).1

pub returns-in-None-clause-none : goal.returns-in-None-clause-none
returns-in-None-clause-none c none closed =
    not_closed (all_edges (triples_of c.args.triples.now)) (λ a. a % (length c.args.triples.now + 1)) c.loop-k.k c.in_ok-ups.ups.items c.in_ok-ups.downs.items
    (ways_read (all_edges (triples_of c.args.triples.now)) (length c.args.triples.now + 1) c.loop-k.k _ _ c.in_ok-ups.ups.items c.in_ok-ups.downs.items
    c.loop-k-test.true c.requires.gathered c.bucket.ensures c.in_ok-ups.ensures.ups c.in_ok-ups.ensures.downs)
    (λ same. c.pair_ways.ensures.none (ap is_some c.in-None.is) (ap ends_of c.deref.ensures.value ∙ same ∙ sym (ap ends_of c.deref-in-loop-k.ensures.value)))
    closed

-- one bucket more is paired, with its ways as they are read again
bucket_paired : (es : List (ℕ × ℕ)) (key : ℕ → ℕ) (k : ℕ) (ups downs us vs : List Half) (old new : List ℕ) (single one : Bool) → ArePaired es key k old single →
    AreWays es key k ups downs → us ≡ ups → vs ≡ downs → ends_of us ≡ ends_of vs → length new ≡ length old
    → ((partner : ℕ → ℕ) → ArePartners partner us vs → AreWritten partner us vs old new) → (IsTrue one ↔ AreSingle (ends_of us)) → ArePaired es key (k + 1) new (single && one)
bucket_paired es key k ups downs us vs old new single one before ways first second same full written alone =
    let alike : ends_of ups ≡ ends_of downs = ap ends_of (sym first) ∙ same ∙ ap ends_of second in
    let partners = twins_of_sides es key k ups downs ways alike in
    let on_sides : AreWritten (twin es) ups downs old new =
    subst (λ l. AreWritten (twin es) l downs old new) first
    (subst (λ l. AreWritten (twin es) us l old new) second
    (written (twin es) (subst (λ l. ArePartners (twin es) l vs) (sym first) (subst (λ l. ArePartners (twin es) ups l) (sym second) partners)))) in
    paired_more es key k ups downs old new single one before ways alike full on_sides (subst (λ l. IsTrue one ↔ AreSingle (ends_of l)) first alone)
    (up_placed es key k ups downs ways) (down_placed es key k ups downs ways)

pub loop-k-preserved : goal.loop-k-preserved
loop-k-preserved c =
    let es = all_edges (triples_of c.args.triples.now) in
    let us = c.deref.result.now in
    let vs = c.deref-in-loop-k.result.now in
    let old = c.loop-k.twins in
    let new = c.pair_ways.new.twins in
    bucket_paired es (λ a. a % (length c.args.triples.now + 1)) c.loop-k.k c.in_ok-ups.ups.items c.in_ok-ups.downs.items us vs old new c.loop-k.single
    c.in-Some.alone c.loop-k.invariant
    (ways_read (all_edges (triples_of c.args.triples.now)) (length c.args.triples.now + 1) c.loop-k.k _ _ c.in_ok-ups.ups.items c.in_ok-ups.downs.items
    c.loop-k-test.true c.requires.gathered c.bucket.ensures c.in_ok-ups.ensures.ups c.in_ok-ups.ensures.downs) c.deref.ensures.value c.deref-in-loop-k.ensures.value
    (subst (λ o. IfSome o (λ _. ends_of us ≡ ends_of vs)) c.in-Some.is c.pair_ways.ensures.same) c.pair_ways.ensures.length
    (subst (λ o. IfSome o (λ _. (partner : ℕ → ℕ) → ArePartners partner us vs → AreWritten partner us vs old new)) c.in-Some.is c.pair_ways.ensures.written)
    (subst (λ o. IfSome o (λ one. IsTrue one ↔ AreSingle (ends_of us))) c.in-Some.is c.pair_ways.ensures.single)
