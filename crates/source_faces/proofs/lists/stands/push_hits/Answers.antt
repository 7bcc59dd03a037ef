use Rattle.std.proofs.Common.{◌≡◌, ℕ, ◌≤◌, ℤ, List, get_or, nat_abs, to_z, of_z, w8, w64, arith, ap, ◌∙◌}
use Rattle.side_terms.specs.Prescribed.{hit_number_of}
use Rattle.chain_terms.specs.Chains.{all_edges}
use Rattle.halfedge.proofs.Edges.{length-all_edges}
use Rattle.mb_base.specs.declared.op.Op.{Op}
use Rattle.mb_base.specs.declared.results.Hit.{Hit}
use Rattle.retained_verts.proofs.Fits.{kept_8, kept_64}
use Rattle.side_terms.specs.Hits.{IsNumber}
use Rattle.source_faces.proofs.Growing.{hit_count_next, hit_count_part, hits_next}
use Rattle.source_faces.proofs.lists.stands.push_hits.Goals as goal

-- the number of a hit in its list as the code reads it, and how many copies it has
hit_read : (op : Op) (hs : List Hit) (i : ℕ) (h : Hit) (z : ℤ) (times : ℕ) → get_or hs i h ≡ h → IsNumber (get_or hs i h).number →
    z ≡ hit_number_of op (to_z w8 (of_z w8 h.number)) → nat_abs z ≤ 2 → times ≡ nat_abs (to_z w64 (of_z w64 z)) →
    (to_z w64 (of_z w64 z) ≡ hit_number_of op h.number) × (times ≡ nat_abs (hit_number_of op h.number))
hit_read op hs i h z times same number value small size =
    let read =
    kept_64 z (omega (arith, small)) ∙ value ∙ ap (hit_number_of op) (kept_8 h.number (rw same at number)) in (read, size ∙ ap nat_abs read)

pub twin-requires : goal.twin-requires
twin-requires c =
    let same : get_or c.args.hits.now c.loop-hit.hit-index c.hit-item.result ≡ c.hit-item.result = cc in
    let inside =
    (c.requires.hits.on_edges c.loop-hit.hit-index c.hit-item.result c.loop-hit-test.true).0 in
    omega (arith, rw same at inside, length-all_edges c.args.twins.now.triples)

pub push_copies-requires-clause-lower : goal.push_copies-requires-clause-lower
push_copies-requires-clause-lower c =
    let same : get_or c.args.hits.now c.loop-hit.hit-index c.hit-item.result ≡ c.hit-item.result = cc in
    let inside =
    (c.requires.hits.on_edges c.loop-hit.hit-index c.hit-item.result c.loop-hit-test.true).0 in
    omega (arith, rw same at inside, length-all_edges c.args.twins.now.triples, c.requires.triples)

pub push_copies-requires-clause-upper : goal.push_copies-requires-clause-upper
push_copies-requires-clause-upper c = omega (arith, c.twin.ensures.back.within, length-all_edges c.args.twins.now.triples, c.requires.triples)

pub push_copies-requires-clause-fits : goal.push_copies-requires-clause-fits
push_copies-requires-clause-fits c =
    let h = c.hit-item.result in
    let same : get_or c.args.hits.now c.loop-hit.hit-index h ≡ h = cc in
    let read =
    hit_read c.args.op c.args.hits.now c.loop-hit.hit-index h c.hit_number-number.result c.unsigned_abs-times.result same
    (c.requires.hits.numbers c.loop-hit.hit-index h c.loop-hit-test.true) c.hit_number-number.ensures.value
    c.hit_number-number.ensures.small c.unsigned_abs-times.ensures.value in
    omega (
      arith,
      read.1,
      c.loop-hit.invariant.next,
      c.requires.fits,
      hit_count_part c.args.op c.loop-hit.hit-index h c.args.hits.now c.loop-hit-test.true same,
    )

pub overflow_add-next : goal.overflow_add-next
overflow_add-next c =
    let h = c.hit-item.result in
    let same : get_or c.args.hits.now c.loop-hit.hit-index h ≡ h = cc in
    let read =
    hit_read c.args.op c.args.hits.now c.loop-hit.hit-index h c.hit_number-number.result c.unsigned_abs-times.result same
    (c.requires.hits.numbers c.loop-hit.hit-index h c.loop-hit-test.true) c.hit_number-number.ensures.value
    c.hit_number-number.ensures.small c.unsigned_abs-times.ensures.value in
    omega (
      arith,
      read.1,
      c.loop-hit.invariant.next,
      c.requires.fits,
      hit_count_part c.args.op c.loop-hit.hit-index h c.args.hits.now c.loop-hit-test.true same,
    )

pub loop-hit-preserved : goal.loop-hit-preserved
loop-hit-preserved c =
    let op = c.args.op in
    let bases = c.args.bases in
    let hs = c.args.hits.now in
    let i = c.loop-hit.hit-index in
    let h = c.hit-item.result in
    let same : get_or hs i h ≡ h = cc in
    let read =
    hit_read op hs i h c.hit_number-number.result c.unsigned_abs-times.result same (c.requires.hits.numbers i h c.loop-hit-test.true)
    c.hit_number-number.ensures.value c.hit_number-number.ensures.small c.unsigned_abs-times.ensures.value in
    record {
      stands = hits_next op (all_edges c.args.twins.now.triples) bases.edges bases.faces c.args.first c.loop-hit.next
          c.unsigned_abs-times.result c.twin.result i _ h hs c.args.stands.now.items c.loop-hit.stands.items c.push_copies.new.stands.items
          c.loop-hit-test.true same
          c.loop-hit.invariant.stands c.loop-hit.invariant.next read.0 read.1 c.twin.ensures.value c.in_ok-push_copies.ensures;
      next = omega (arith, read.1, c.loop-hit.invariant.next, hit_count_next op i h hs c.loop-hit-test.true same);
    }
