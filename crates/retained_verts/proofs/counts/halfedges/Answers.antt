use Rattle.std.proofs.Common.{ℕ, [], length, pos, nat_abs, get_or, take, arith, refl, ap, sym, ◌∙◌}
use Rattle.std.proofs.lemmas.List.{take_all}
use Rattle.chain_terms.specs.Sums.{upto}
use Rattle.lean.proofs.Triangles.{triple_at, triples_more}
use Rattle.mesh_terms.specs.Meshes.{HasThree, IsBelow, triple_of, triples_of}
use Rattle.side_terms.specs.Prescribed.{vertex_halfedges}
use Rattle.retained_verts.specs.Parts.{vertex_number}
use Rattle.retained_verts.proofs.Corners.{corners_more, corners_none}
use Rattle.retained_verts.proofs.counts.halfedges.Goals as goal

pub loop-a-init : goal.loop-a-init
loop-a-init c = record {
  value = sym (corners_none (λ v. nat_abs (vertex_number c.args.op c.args.operand (get_or c.args.windings.now v (pos 0)))) (upto (length c.args.windings.now)));
  small = omega arith;
}

pub count_at-requires-clause-below : goal.count_at-requires-clause-below
count_at-requires-clause-below c =
    (triple_at (IsBelow (length c.args.windings.now)) (triples_of c.args.triples.now) c.args.triples.now c.loop-a.a-index refl c.requires.below c.loop-a-test.true).a

pub count_at-requires-in-loop-a-clause-below : goal.count_at-requires-in-loop-a-clause-below
count_at-requires-in-loop-a-clause-below c =
    (triple_at (IsBelow (length c.args.windings.now)) (triples_of c.args.triples.now) c.args.triples.now c.loop-a.a-index refl c.requires.below c.loop-a-test.true).b

pub count_at-requires-in-loop-a-2-clause-below : goal.count_at-requires-in-loop-a-2-clause-below
count_at-requires-in-loop-a-2-clause-below c =
    (triple_at (IsBelow (length c.args.windings.now)) (triples_of c.args.triples.now) c.args.triples.now c.loop-a.a-index refl c.requires.below c.loop-a-test.true).c

pub loop-a-preserved : goal.loop-a-preserved
loop-a-preserved c =
    let ws = c.args.windings.now in
    let xs = c.args.triples.now in
    let i = c.loop-a.a-index in
    let t = triple_of (get_or xs i []) in
    let s : ℕ → ℕ = λ v. nat_abs (vertex_number c.args.op c.args.operand (get_or ws v (pos 0))) in
    let three = triple_at HasThree (triples_of xs) xs i refl c.requires.three c.loop-a-test.true in
    let below = triple_at (IsBelow (length ws)) (triples_of xs) xs i refl c.requires.below c.loop-a-test.true in
    let more = corners_more s (length ws) (triples_of (take i xs)) t three below in
    let taken = ap (vertex_halfedges (vertex_number c.args.op c.args.operand) ws) (triples_more xs i c.loop-a-test.true) in
    record {
      value = omega (arith, c.loop-a.invariant.value, c.count_at.ensures.value, c.count_at-in-loop-a.ensures.value, c.count_at-in-loop-a-2.ensures.value, more, taken);
      small = omega (arith, c.loop-a.invariant.small, c.count_at.ensures.small, c.count_at-in-loop-a.ensures.small, c.count_at-in-loop-a-2.ensures.small);
    }

pub returns-clause-value : goal.returns-clause-value
returns-clause-value c =
    let xs = c.args.triples.now in
    c.loop-a.invariant.value ∙ ap (λ ts. vertex_halfedges (vertex_number c.args.op c.args.operand) c.args.windings.now (triples_of ts)) (take_all c.loop-a.a-index xs (omega arith))
