use Rattle.std.proofs.Common.{◌≡◌, ℕ, ◌≤◌, ℤ, get_or, pos, nat_abs, to_z, of_z, w64, arith, ap, ◌∙◌}
use Rattle.std.proofs.lemmas.List.Sums.{sum_by_more, sum_by_more_le}
use Rattle.retained_verts.proofs.Fits.{kept_64}
use Rattle.retained_verts.specs.Parts.{vertex_number}
use Rattle.source_faces.proofs.Growing.{runs_next}
use Rattle.source_faces.proofs.lists.runs.runs_of.Goals as goal

-- the number of a vertex as the code reads it, and how many copies it has
vertex_read : (number : ℤ → ℤ) (w z : ℤ) (count : ℕ) → nat_abs w ≤ 100000000 → z ≡ number (to_z w64 (of_z w64 w)) → nat_abs z ≤ 100000001 →
    count ≡ nat_abs (to_z w64 (of_z w64 z)) →
    (to_z w64 (of_z w64 z) ≡ number w) × (count ≡ nat_abs (number w))
vertex_read number w z count winding value small size =
    let read = kept_64 z (omega (arith, small)) ∙ value ∙ ap number (kept_64 w (omega (arith, winding))) in (read, size ∙ ap nat_abs read)

pub overflow_add-first : goal.overflow_add-first
overflow_add-first c =
    let ws = c.args.windings.now in
    let i = c.loop-winding.winding-index in
    let number = vertex_number c.args.op c.args.operand in
    let read =
    vertex_read number (get_or ws i (pos 0)) c.number-number.result c.unsigned_abs-count.result
    (c.requires.small i (pos 0) c.loop-winding-test.true) c.number-number.ensures.value c.number-number.ensures.small
    c.unsigned_abs-count.ensures.value in
    omega (
      arith,
      read.1,
      c.loop-winding.invariant.first,
      c.requires.fits,
      sum_by_more_le (λ w. nat_abs (number w)) ws i (pos 0) c.loop-winding-test.true,
    )

pub loop-winding-preserved : goal.loop-winding-preserved
loop-winding-preserved c =
    let ws = c.args.windings.now in
    let i = c.loop-winding.winding-index in
    let number = vertex_number c.args.op c.args.operand in
    let read =
    vertex_read number (get_or ws i (pos 0)) c.number-number.result c.unsigned_abs-count.result
    (c.requires.small i (pos 0) c.loop-winding-test.true) c.number-number.ensures.value c.number-number.ensures.small
    c.unsigned_abs-count.ensures.value in
    record {
      runs = runs_next number c.args.first c.loop-winding.first c.unsigned_abs-count.result i _ ws c.loop-winding.runs.items
          c.push.new.self.items c.loop-winding-test.true c.loop-winding.invariant.runs c.loop-winding.invariant.first read.0 read.1
          c.in_ok-push.ensures.items;
      first = omega (arith, read.1, c.loop-winding.invariant.first, sum_by_more (λ w. nat_abs (number w)) ws i (pos 0) c.loop-winding-test.true);
    }
