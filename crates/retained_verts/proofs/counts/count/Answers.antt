use Rattle.std.proofs.Common.{◌≡◌, length, arith, ap, ◌∙◌}
use Rattle.mesh_terms.specs.Meshes.{triples_of}
use Rattle.side_terms.specs.Prescribed.{hit_count, p_number, q_number, vertex_halfedges}
use Rattle.retained_verts.specs.Handed.{numbers}
use Rattle.retained_verts.proofs.Bounds.{few_between}
use Rattle.retained_verts.proofs.counts.count.Goals as goal

pub vertex_count-p_kept-requires-clause-few : goal.vertex_count-p_kept-requires-clause-few
vertex_count-p_kept-requires-clause-few c =
    omega (arith, c.deref.ensures.len, ap length c.deref.ensures.value, c.requires.fit.w03, c.triples-p_triples.ensures.side.accepted.mesh.few_points)

pub vertex_count-q_kept-requires-clause-few : goal.vertex_count-q_kept-requires-clause-few
vertex_count-q_kept-requires-clause-few c = omega (arith, ap length c.deref-2.ensures.value, c.requires.fit.w30, c.triples-q_triples.ensures.side.accepted.mesh.few_points)

pub hit_count-requires-clause-few : goal.hit_count-requires-clause-few
hit_count-requires-clause-few c =
    omega (
      arith,
      ap length c.deref-3.ensures.value,
      few_between c.args.p.now c.args.q.now c.args.hits.now.x12.items c.triples-p_triples.ensures.side
          c.triples-q_triples.ensures.side c.requires.fit.x12,
    )

pub hit_count-requires-2-clause-few : goal.hit_count-requires-2-clause-few
hit_count-requires-2-clause-few c =
    omega (
      arith,
      ap length c.deref-4.ensures.value,
      few_between c.args.q.now c.args.p.now c.args.hits.now.x21.items c.triples-q_triples.ensures.side
          c.triples-p_triples.ensures.side c.requires.fit.x21,
    )

pub returns-clause-halfedges : goal.returns-clause-halfedges
returns-clause-halfedges c =
    let op = c.args.op in
    let n = numbers c.args.windings.now c.args.hits.now in
    let p = vertex_halfedges (p_number op) in
    let q = vertex_halfedges (q_number op) in
    let of_p : c.halfedges-p_halfedges.result ≡ p n.w03 c.args.p.now.triples = c.halfedges-p_halfedges.ensures.value
    ∙ ap (λ ws. p ws (triples_of c.triples-p_triples.result.now)) c.deref-5.ensures.value ∙ ap (p n.w03) c.triples-p_triples.ensures.value in
    let of_q : c.halfedges-q_halfedges.result ≡ q n.w30 c.args.q.now.triples = c.halfedges-q_halfedges.ensures.value
    ∙ ap (λ ws. q ws (triples_of c.triples-q_triples.result.now)) c.deref-6.ensures.value ∙ ap (q n.w30) c.triples-q_triples.ensures.value in
    let of_hits : c.hit_count.result ≡ hit_count op n.x12 = c.hit_count.ensures.value ∙ ap (hit_count op) c.deref-3.ensures.value in
    let of_others : c.hit_count-2.result ≡ hit_count op n.x21 = c.hit_count-2.ensures.value ∙ ap (hit_count op) c.deref-4.ensures.value in
    omega (arith, of_p, of_q, of_hits, of_others)
