use Rattle.std.proofs.Common.{◌≡◌, ◌<◌, ◌+◌, ◌/◌, ℕ, List, true, length, map, replicate, sym, ◌∙◌, ap, subst, arith}
use Rattle.std.specs.List.{All}
use Rattle.std.proofs.lemmas.List.{length-map}
use Rattle.std.proofs.lemmas.Nat.{mod_below}
use Rattle.mesh_terms.specs.Meshes.{Triple, triple_of, triples_of}
use Rattle.places_by_key.specs.Buckets.{places_of}
use Rattle.places_by_key.proofs.Upto.{length-map-upto}
use Rattle.halfedge.specs.Ways.{AreWays}
use Rattle.halfedge.proofs.BucketContents.{numbers_below, read_bucket, bucket_members}
use Rattle.mesh_check.specs.Cancelling.{halves_of, bucket_of_triple, bucket_of_end, AreMarked}
use Rattle.mesh_check.specs.Orientations.{least_first, orientation_edge, orientation_edges}
use Rattle.mesh_check.proofs.KeptMarks.{kept_marks_left}
use Rattle.mesh_check.proofs.TriangleBuckets.{orientations_differ, ways_read, ones_placed, others_placed, marks_none, marks_all}
use Rattle.mesh_check.proofs.cancel.uncancelled.Goals as goal

-- there is an edge for each triangle
edge_count : (ts : List (List ℕ)) → length (orientation_edges (triples_of ts)) ≡ length ts
edge_count ts = length-map (triples_of ts) orientation_edge ∙ length-map ts triple_of

pub by_key-requires-clause-below : goal.by_key-requires-clause-below
by_key-requires-clause-below c =
    let n : ℕ = length c.args.triples.now + 1 in
    subst (All (λ k. k < n)) (sym (c.deref.ensures.value ∙ c.in_ok-numbers.ensures)) (numbers_below (λ t. (least_first t).0) n (triples_of c.args.triples.now) (omega arith))

pub bucket-requires : goal.bucket-requires
bucket-requires c = omega (arith, c.loop-k-test.true, ap length c.in_ok-buckets.ensures, length-map-upto (places_of c.deref.result.now) (length c.args.triples.now + 1))

pub oriented_ways-requires : goal.oriented_ways-requires
oriented_ways-requires c k d low =
    let ts : List Triple = triples_of c.args.triples.now in
    let n : ℕ = length c.args.triples.now + 1 in
    let bucket = read_bucket (map (bucket_of_triple n) ts) n c.loop-k.k _ _ _ (c.deref.ensures.value ∙ c.in_ok-numbers.ensures) c.in_ok-buckets.ensures c.bucket.ensures in
    omega (arith, length-map c.args.triples.now triple_of, length-map ts (bucket_of_triple n), bucket_members _ n c.loop-k.k c.bucket.result.now c.loop-k-test.true bucket k d low)

-- the ways of the bucket that is read
these_ways : (c : goal.After-deref-in-loop-k-2) → AreWays (orientation_edges (triples_of c.args.triples.now)) (bucket_of_end (length c.args.triples.now + 1))
    c.loop-k.k (halves_of c.deref-in-loop-k.result.now) (halves_of c.deref-in-loop-k-2.result.now)
these_ways c =
    ways_read (triples_of c.args.triples.now) (length c.args.triples.now + 1) c.loop-k.k _ _ _ _ _ c.requires.triangles c.loop-k-test.true
    (read_bucket _ _ _ _ _ _ (c.deref.ensures.value ∙ c.in_ok-numbers.ensures) c.in_ok-buckets.ensures c.bucket.ensures) c.in_ok-ones.ensures.ones c.in_ok-ones.ensures.others
    c.deref-in-loop-k.ensures.value c.deref-in-loop-k-2.ensures.value

pub cancel-left-requires-clause-ones : goal.cancel-left-requires-clause-ones
cancel-left-requires-clause-ones c k d low =
    omega (
      arith,
      c.loop-k.invariant.full,
      edge_count c.args.triples.now,
      length-map c.args.triples.now triple_of,
      ones_placed (triples_of c.args.triples.now)
          (bucket_of_end (length c.args.triples.now + 1)) c.loop-k.k _ _ (these_ways c) k d low,
    )

pub cancel-left-requires-clause-others : goal.cancel-left-requires-clause-others
cancel-left-requires-clause-others c k d low =
    omega (
      arith,
      c.loop-k.invariant.full,
      edge_count c.args.triples.now,
      length-map c.args.triples.now triple_of,
      others_placed (triples_of c.args.triples.now)
          (bucket_of_end (length c.args.triples.now + 1)) c.loop-k.k _ _ (these_ways c) k d low,
    )

pub loop-k-init : goal.loop-k-init
loop-k-init c =
    let es = orientation_edges (triples_of c.args.triples.now) in
    let all : c.in_ok-left.left.items ≡ replicate (length es) true = c.in_ok-left.ensures.items_if_clones_equal (λ y same. same)
    ∙ ap (λ n. replicate n true) (sym (edge_count c.args.triples.now)) in
    subst (AreMarked es (bucket_of_end (length c.args.triples.now + 1)) 0) (sym all) (marks_none es (bucket_of_end (length c.args.triples.now + 1)))

pub loop-k-preserved : goal.loop-k-preserved
loop-k-preserved c =
    c.cancel-left.ensures (orientation_edges (triples_of c.args.triples.now)) (bucket_of_end (length c.args.triples.now + 1)) c.loop-k.k
    (ways_read (triples_of c.args.triples.now) (length c.args.triples.now + 1) c.loop-k.k _ _ _ _ _ c.requires.triangles c.loop-k-test.true
    (read_bucket _ _ _ _ _ _ (c.deref.ensures.value ∙ c.in_ok-numbers.ensures) c.in_ok-buckets.ensures c.bucket.ensures) c.in_ok-ones.ensures.ones c.in_ok-ones.ensures.others
    c.deref-in-loop-k.ensures.value c.deref-in-loop-k-2.ensures.value)
    (orientations_differ (triples_of c.args.triples.now) c.requires.triangles) c.loop-k.invariant

pub returns : goal.returns
returns c =
    let ts : List Triple = triples_of c.args.triples.now in
    let es = orientation_edges ts in
    let n : ℕ = length c.args.triples.now + 1 in
    let all : c.loop-k.k ≡ n = omega (arith, c.loop-k-test.false, c.loop-k.auto.k-end) in
    marks_all es (bucket_of_end n) n c.loop-k.left.items (subst (λ m. AreMarked es (bucket_of_end n) m c.loop-k.left.items) all c.loop-k.invariant)
    (λ a. mod_below (a / 4294967296) n (omega arith)) ∙ kept_marks_left ts c.requires.triangles
