use Rattle.std.proofs.Common.{◌≡◌, ◌↔◌, ◌+◌, ◌<◌, ℕ, List, length, sym, ap, ◌∙◌, subst, arith}
use Rattle.std.specs.Prelude.{IfOk, IsTrue}
use Rattle.std.specs.List.{All}
use Rattle.std.proofs.lemmas.Bool.{false≢true}
use Rattle.std.proofs.lemmas.List.{length-map}
use Rattle.std.proofs.lemmas.Result.{IfOk-weaker}
use Rattle.mesh_terms.specs.Meshes.{triple_of, triples_of}
use Rattle.side_terms.specs.Sides.{Side}
use Rattle.retained_verts.specs.Handed.{copies, numbers}
use Rattle.source_face_terms.specs.Segments.{source_count}
use Rattle.mesh_boolean.specs.Bounded.{HaveBoundaries}
use Rattle.mesh_boolean.specs.GivenSegments.{AreGiven}
use Rattle.mesh_boolean.specs.Audited.{AgreesWithSides}
use Rattle.mesh_boolean.proofs.Audited.{no}
use Rattle.mesh_boolean.proofs.AuditedSides.{given}
use Rattle.mesh_boolean.proofs.SameSides.{same_sides}
use Rattle.mesh_boolean.proofs.auditing.agrees_with_sides.Goals as goal

-- as many source faces as there are triangles
counted : (p q : Side) (ts us : List (List ℕ)) → triples_of ts ≡ p.triples → triples_of us ≡ q.triples → length ts + length us ≡ source_count p q
counted p q ts us first second = omega (arith, ap length first, length-map ts triple_of, ap length second, length-map us triple_of)

-- numbers below a count are below the same count
all_below : (n m : ℕ) (xs ys : List ℕ) → n ≡ m → xs ≡ ys → All (λ x. x < n) xs → All (λ x. x < m) ys
all_below n m xs ys count same all = subst (All (λ x. x < m)) same (subst (λ k. All (λ x. x < k) xs) count all)

pub returns-then-not-branch : goal.returns-then-not-branch
returns-then-not-branch c = no (λ s. false≢true (sym c.if-not-branch.true ∙ c.in_ok-are_prescribed.ensures.1 s.prescribed))

pub returns-then-not-are_below : goal.returns-then-not-are_below
returns-then-not-are_below c =
    let p = c.args.p.now in
    let q = c.args.q.now in
    let count = counted p q c.triples.result.now c.triples-2.result.now c.triples.ensures.value c.triples-2.ensures.value in
    no (λ s. false≢true (sym c.if-not-are_below.true ∙ c.are_below.ensures.1
    (all_below (source_count p q) (length c.triples.result.now + length c.triples-2.result.now)
    c.args.outcome.now.source.items c.deref.result.now (sym count) (sym c.deref.ensures.value) s.faces)))

pub are_bounded-requires-clause-given : goal.are_bounded-requires-clause-given
are_bounded-requires-clause-given c =
    same_sides (λ x y. AreGiven c.args.op x y c.args.windings.now c.args.hits.now c.args.outcome.now.prescribed) c.args.p.now c.args.q.now c.surface.result.now
    c.surface-2.result.now c.surface.ensures c.surface-2.ensures
    (given c.args.op c.args.p.now c.args.q.now c.args.windings.now c.args.hits.now c.args.outcome.now c.triples.ensures.side c.triples-2.ensures.side
    c.requires.known c.requires.origins c.points.ensures.accepted.mesh.few_points (c.in_ok-are_prescribed.ensures.0 c.if-not-branch.false))

pub are_bounded-requires-clause-faces : goal.are_bounded-requires-clause-faces
are_bounded-requires-clause-faces c =
    let p = c.args.p.now in
    let q = c.args.q.now in
    let count = counted p q c.triples.result.now c.triples-2.result.now c.triples.ensures.value c.triples-2.ensures.value in
    same_sides (λ x y. All (λ k. k < source_count x y) c.deref-2.result.now) p q c.surface.result.now c.surface-2.result.now c.surface.ensures c.surface-2.ensures
    (all_below (length c.triples.result.now + length c.triples-2.result.now) (source_count p q) c.deref.result.now c.deref-2.result.now count
    (c.deref.ensures.value ∙ sym c.deref-2.ensures.value) (c.are_below.ensures.0 c.if-not-are_below.false))

pub returns : goal.returns
returns c =
    let op = c.args.op in
    let p = c.args.p.now in
    let q = c.args.q.now in
    let n = numbers c.args.windings.now c.args.hits.now in
    let cs = copies op p q c.args.windings.now c.args.hits.now in
    let r = c.args.outcome.now in
    let us = triples_of c.args.triples.now in
    let count = counted p q c.triples.result.now c.triples-2.result.now c.triples.ensures.value c.triples-2.ensures.value in
    let below : All (λ x. x < source_count p q) r.source.items =
    all_below (length c.triples.result.now + length c.triples-2.result.now) (source_count p q) c.deref.result.now r.source.items count c.deref.ensures.value
    (c.are_below.ensures.0 c.if-not-are_below.false) in
    let of_sides : IfOk c.are_bounded.result (λ b. IsTrue b ↔ HaveBoundaries p q cs c.deref-2.result.now us) =
    same_sides (λ x y. IfOk c.are_bounded.result (λ b. IsTrue b ↔ HaveBoundaries x y (copies op x y c.args.windings.now c.args.hits.now) c.deref-2.result.now us))
    c.surface.result.now c.surface-2.result.now p q (sym c.surface.ensures) (sym c.surface-2.ensures) c.are_bounded.ensures in
    let bounded : IfOk c.are_bounded.result (λ b. IsTrue b ↔ HaveBoundaries p q cs r.source.items us) =
    subst (λ source. IfOk c.are_bounded.result (λ b. IsTrue b ↔ HaveBoundaries p q cs source us)) c.deref-2.ensures.value of_sides in
    IfOk-weaker c.are_bounded.result (λ b. IsTrue b ↔ HaveBoundaries p q cs r.source.items us) (λ b. IsTrue b ↔ AgreesWithSides op p q n r us)
    (λ b iff. (
      (λ e. record { prescribed = c.in_ok-are_prescribed.ensures.0 c.if-not-branch.false; faces = below; bounded = iff.0 e }),
      (λ a. iff.1 a.bounded),
    )) bounded
