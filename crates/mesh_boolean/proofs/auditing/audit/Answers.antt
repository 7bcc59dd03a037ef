use Rattle.std.proofs.Common.{◌≡◌, ◌↔◌, ℕ, List, map, length, sym, ap, ◌∙◌, subst, arith}
use Rattle.std.specs.Prelude.{IfOk, IsTrue}
use Rattle.std.specs.List.{All}
use Rattle.std.proofs.lemmas.Bool.{false≢true}
use Rattle.std.proofs.lemmas.List.{length-map}
use Rattle.std.proofs.lemmas.Result.{IfOk-weaker}
use Rattle.mesh_terms.specs.Meshes.{HasThree, Triple, triple_of, triples_of}
use Rattle.pinch_split.specs.Back.{named_by}
use Rattle.mesh_boolean.specs.Audited.{AgreesWithMeshes, IsSound}
use Rattle.mesh_boolean.specs.Operation.{Tests}
use Rattle.mesh_boolean.specs.Results.{IsCleanOver}
use Rattle.mesh_boolean.proofs.Audited.{IsKnown, agrees, has_three, no, sound}
use Rattle.mesh_boolean.proofs.auditing.audit.Given.{Over}
use Rattle.mesh_boolean.proofs.auditing.audit.Goals as goal

-- the kernels' tests
abbrev tests : (g : Over) → g.row.K.Denot → Tests
tests g k = record {
  vertex_face = g.K.Meets-5.meet_of k;
  face_vertex = g.K.Meets-6.meet_of k;
  edge_face = g.K.Crosses-1.crossing_of k;
  face_edge = g.K.Crosses-2.crossing_of k;
}

-- triangles named by other vertices, as they were read
named_as : (from names : List ℕ) (read : List (List ℕ)) (ts us : List Triple) → us ≡ map (named_by names) (triples_of read) → names ≡ from → triples_of read ≡ ts →
    us ≡ map (named_by from) ts
named_as from names read ts us named same is = named ∙ ap (λ f. map (named_by f) (triples_of read)) same ∙ ap (map (named_by from)) is

pub returns-then-not-branch : goal.returns-then-not-branch
returns-then-not-branch g c = record { sound = no (λ s. false≢true (sym c.if-not-branch.true ∙ c.in_ok-has_origins.ensures.1 s.from)) }

pub returns-then-len-triples : goal.returns-then-len-triples
returns-then-len-triples g c = record {
  sound = no (λ s.
      let r = c.args.outcome.now in
      c.if-len-triples.true (omega (arith, s.faces.each, c.len.ensures, r.source.ok.0, ap length c.triples.ensures.value, length-map c.triples.result.now triple_of)));
}

pub returns-then-not-have_three : goal.returns-then-not-have_three
returns-then-not-have_three g c =
    let r = c.args.outcome.now in
    let us = triples_of c.in_ok-triples.triples.items in
    let named = named_as r.from.items c.deref.result.now c.triples-2.result.now r.mesh.triples us c.in_ok-triples.ensures c.deref.ensures.value c.triples-2.ensures.value in
    record {
      sound = no (λ s. false≢true (sym c.if-not-have_three.true ∙ c.have_three.ensures.1 (subst (λ (l : List (List ℕ)). All HasThree (triples_of l)) (sym c.deref-2.ensures.value)
          (has_three (tests g c.args.kernels.now) c.args.op c.args.p.now c.args.q.now r us named s))));
    }

pub returns-then-not-branch-2 : goal.returns-then-not-branch-2
returns-then-not-branch-2 g c = record {
  sound = no (λ s.
      let clean = subst (λ f. IsCleanOver f c.args.outcome.now.mesh.triples) (sym c.deref-3.ensures.value) s.clean in
      false≢true (sym c.if-not-branch-2.true ∙ c.in_ok-is_clean_over.ensures.1 clean));
}

pub returns-then-not-branch-3 : goal.returns-then-not-branch-3
returns-then-not-branch-3 g c = record { sound = no (λ s. false≢true (sym c.if-not-branch-3.true ∙ c.in_ok-is_labelled.ensures.1 s.labels)) }

pub returns : goal.returns
returns g c =
    let t = tests g c.args.kernels.now in
    let op = c.args.op in
    let p = c.args.p.now in
    let q = c.args.q.now in
    let r = c.args.outcome.now in
    let us = triples_of c.in_ok-triples.triples.items in
    let named = named_as r.from.items c.deref.result.now c.triples-2.result.now r.mesh.triples us c.in_ok-triples.ensures c.deref.ensures.value c.triples-2.ensures.value in
    let known : IsKnown p q r us = record {
      named = named;
      each = omega (arith, c.if-len-triples.false, c.len.ensures, r.source.ok.0, ap length c.triples.ensures.value, length-map c.triples.result.now triple_of);
      three = subst (λ (l : List (List ℕ)). All HasThree (triples_of l)) c.deref-2.ensures.value (c.have_three.ensures.0 c.if-not-have_three.false);
      from = c.in_ok-has_origins.ensures.0 c.if-not-branch.false;
      clean = subst (λ f. IsCleanOver f r.mesh.triples) c.deref-3.ensures.value (c.in_ok-is_clean_over.ensures.0 c.if-not-branch-2.false);
      labels = c.in_ok-is_labelled.ensures.0 c.if-not-branch-3.false;
    } in
    let agreed : IfOk c.agrees_with_meshes.result (λ b. IsTrue b ↔ AgreesWithMeshes t op p q r us) =
    subst (λ (l : List (List ℕ)). IfOk c.agrees_with_meshes.result (λ b. IsTrue b ↔ AgreesWithMeshes t op p q r (triples_of l)))
    c.deref-5.ensures.value c.agrees_with_meshes.ensures in
    record {
      sound = IfOk-weaker c.agrees_with_meshes.result (λ b. IsTrue b ↔ AgreesWithMeshes t op p q r us) (λ b. IsTrue b ↔ IsSound t op p q r)
          (λ b iff. ((λ e. sound t op p q r us known (iff.0 e)), (λ s. iff.1 (agrees t op p q r us named s)))) agreed;
    }
