use Rattle.std.proofs.Common.{arith, ◌∙◌}
use Rattle.retained_verts.specs.Handed.{copies}
use Rattle.source_face_terms.specs.Filled.{all_filled, all_triples, forced_of, sources_of}
use Rattle.source_faces.specs.Given.{AreGiven}
use Rattle.mesh_boolean.proofs.Assembling.{is_assembled}
use Rattle.mesh_boolean.proofs.SameSides.{same_sides}
use Rattle.mesh_boolean.proofs.assembly.assemble.Goals as goal

pub triangles_of-requires : goal.triangles_of-requires
triangles_of-requires c =
    let r = c.in_ok-prescribed.ensures in
    let lawful = c.halfedges.ensures.lawful in
    let given : AreGiven c.args.op c.args.p c.args.q c.args.windings.now c.args.hits.now c.in_ok-prescribed.prescribed = record {
      fit = c.requires.known.fit;
      p_apart = c.requires.p_apart;
      q_apart = c.requires.q_apart;
      points = r.prescribed.points;
      kept = r.prescribed.kept;
      two_lists = r.two_lists;
      balance = r.balance c.requires.known.conserved;
      few = omega (arith, r.within, r.all_starts, lawful.triangles_enough, lawful.few_triangles);
    } in
    same_sides (λ x y. AreGiven c.args.op x y c.args.windings.now c.args.hits.now c.in_ok-prescribed.prescribed) c.args.p c.args.q c.into_surface-p.result
    c.into_surface-q.result c.into_surface-p.ensures c.into_surface-q.ensures given

pub returns-clause-assembled : goal.returns-clause-assembled
returns-clause-assembled c =
    let r = c.in_ok-prescribed.ensures in
    let all = c.in_ok-all.ensures in
    let p = c.into_surface-p.ensures in
    let q = c.into_surface-q.ensures in
    is_assembled c.args.op c.args.p c.args.q c.args.windings.now c.args.hits.now c.args.limits.now c.in_ok-prescribed.prescribed c.in_ok-all.all
    (record { p_side = c.twins.ensures.side; q_side = c.twins-2.ensures.side; p_apart = c.requires.p_apart; q_apart = c.requires.q_apart; known = c.requires.known })
    (record {
      prescribed = r.prescribed;
      few = r.few;
      within = r.within;
      lawful = c.halfedges.ensures.lawful;
      two_lists = r.two_lists;
      all_starts = r.all_starts;
      balance = r.balance c.requires.known.conserved;
    })
    (record { filled = c.faces_are_filled.ensures.filled; accepted = c.fillings_close.ensures.accepted; few = c.fillings_close.ensures.few })
    (record {
      triples = all.triples ∙ (λ i. all_triples (all_filled (p i) (q i) (copies c.args.op (p i) (q i) c.args.windings.now c.args.hits.now)));
      source = all.source ∙ (λ i. sources_of 0 (all_filled (p i) (q i) (copies c.args.op (p i) (q i) c.args.windings.now c.args.hits.now)));
      forced = all.forced ∙ (λ i. forced_of (all_filled (p i) (q i) (copies c.args.op (p i) (q i) c.args.windings.now c.args.hits.now)));
    })
