use Rattle.std.proofs.Common.{arith, ◌≡◌, ◌+◌, ◌*◌, [], get_or, length, refl, ◌∙◌}
use Rattle.chain_terms.specs.Chains.{all_edges}
use Rattle.mesh_terms.specs.Meshes.{triple_of, triples_of}
use Rattle.spanning_forest.proofs.Passing.{face_below, led_at, led_round}
use Rattle.spanning_forest.proofs.passes.enter_face.Goals as goal

pub enter_end-requires-clause-from : goal.enter_end-requires-clause-from
enter_end-requires-clause-from c =
    let below = face_below (length c.args.seen.now) c.args.triples.now c.args.face c.requires.below c.requires.face in
    omega (arith, below.a)

pub enter_end-requires-clause-to : goal.enter_end-requires-clause-to
enter_end-requires-clause-to c =
    let below = face_below (length c.args.seen.now) c.args.triples.now c.args.face c.requires.below c.requires.face in
    omega (arith, below.b)

pub enter_end-requires-2-clause-from : goal.enter_end-requires-2-clause-from
enter_end-requires-2-clause-from c =
    let below = face_below (length c.args.seen.now) c.args.triples.now c.args.face c.requires.below c.requires.face in
    omega (arith, below.b, c.in_ok-enter_end.ensures.full)

pub enter_end-requires-2-clause-to : goal.enter_end-requires-2-clause-to
enter_end-requires-2-clause-to c =
    let below = face_below (length c.args.seen.now) c.args.triples.now c.args.face c.requires.below c.requires.face in
    omega (arith, below.c, c.in_ok-enter_end.ensures.full)

pub enter_end-requires-3-clause-from : goal.enter_end-requires-3-clause-from
enter_end-requires-3-clause-from c =
    let below = face_below (length c.args.seen.now) c.args.triples.now c.args.face c.requires.below c.requires.face in
    omega (arith, below.c, c.in_ok-enter_end.ensures.full, c.in_ok-enter_end-2.ensures.full)

pub enter_end-requires-3-clause-to : goal.enter_end-requires-3-clause-to
enter_end-requires-3-clause-to c =
    let below = face_below (length c.args.seen.now) c.args.triples.now c.args.face c.requires.below c.requires.face in
    omega (arith, below.a, c.in_ok-enter_end.ensures.full, c.in_ok-enter_end-2.ensures.full)

pub enter_end-requires-4-clause-from : goal.enter_end-requires-4-clause-from
enter_end-requires-4-clause-from c =
    let below = face_below (length c.args.seen.now) c.args.triples.now c.args.face c.requires.below c.requires.face in
    omega (arith, below.a, c.in_ok-enter_end.ensures.full, c.in_ok-enter_end-2.ensures.full, c.in_ok-enter_end-3.ensures.full)

pub enter_end-requires-4-clause-to : goal.enter_end-requires-4-clause-to
enter_end-requires-4-clause-to c =
    let below = face_below (length c.args.seen.now) c.args.triples.now c.args.face c.requires.below c.requires.face in
    omega (arith, below.b, c.in_ok-enter_end.ensures.full, c.in_ok-enter_end-2.ensures.full, c.in_ok-enter_end-3.ensures.full)

pub returns : goal.returns
returns c =
    let triples = c.args.triples.now in
    let f = c.args.face in
    let t = triple_of (get_or triples f []) in
    let below = face_below (length c.args.seen.now) triples f c.requires.below c.requires.face in
    let s0 = c.args.seen.now in
    let e0 = c.args.entrances.now.items in
    let s1 = c.enter_end.new.seen in
    let e1 = c.enter_end.new.entrances.items in
    let s2 = c.enter_end-2.new.seen in
    let e2 = c.enter_end-2.new.entrances.items in
    let s3 = c.enter_end-3.new.seen in
    let e3 = c.enter_end-3.new.entrances.items in
    let s4 = c.enter_end-4.new.seen in
    let e4 = c.enter_end-4.new.entrances.items in
    let one : length s1 ≡ length s0 = c.in_ok-enter_end.ensures.full in
    let two : length s2 ≡ length s0 = c.in_ok-enter_end-2.ensures.full ∙ one in
    let three : length s3 ≡ length s0 = c.in_ok-enter_end-3.ensures.full ∙ two in
    let p = led_at triples f 0 (3 * f) t.0 t.1 s0 e0 s1 e1 c.requires.face (omega arith) (omega arith) refl c.requires.entered below.b
    c.in_ok-enter_end.ensures.marks c.in_ok-enter_end.ensures.entrances in
    let q = led_at triples f 1 (3 * f + 1) t.1 t.2 s1 e1 s2 e2 c.requires.face (omega arith) refl refl p.more.entered (omega (arith, below.c, one))
    c.in_ok-enter_end-2.ensures.marks c.in_ok-enter_end-2.ensures.entrances in
    let r = led_at triples f 2 (3 * f + 2) t.2 t.0 s2 e2 s3 e3 c.requires.face (omega arith) refl refl q.more.entered (omega (arith, below.a, two))
    c.in_ok-enter_end-3.ensures.marks c.in_ok-enter_end-3.ensures.entrances in
    let u = led_at triples f 0 (3 * f) t.0 t.1 s3 e3 s4 e4 c.requires.face (omega arith) (omega arith) refl r.more.entered (omega (arith, below.b, three))
    c.in_ok-enter_end-4.ensures.marks c.in_ok-enter_end-4.ensures.entrances in
    led_round (all_edges (triples_of triples)) t s0 s1 s2 s3 s4 e0 e1 e2 e3 e4 p q r u
