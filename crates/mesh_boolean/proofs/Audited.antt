-- What is asked of an outcome, from the answers of the single questions.
use Rattle.std.proofs.Common.{◌≡◌, ◌↔◌, ◌<◌, ◌≤◌, ◌==◌, ℕ, ℤ, zero, suc, Bool, true, false, cond, List, [], ◌∷◌, ◌++◌, map, filter, length, get_or, refl, sym, ◌∙◌, ap, subst, arith}
use Rattle.std.specs.Prelude.{count_by}
use Rattle.std.specs.List.{All, zip}
use Rattle.std.proofs.lemmas.Bool.{eq-eqb, eqb-true, false≢true, ne_eqb}
use Rattle.std.proofs.lemmas.List.{length-append, length-map}
use Rattle.std.proofs.lemmas.List.Elements.{All-cons, All-head, All-nil, All-tail}
use Rattle.chain_terms.specs.Chains.{IsClosed, all_edges, boundary}
use Rattle.chain_laws.specs.Counts.{count_by-middle, one_if-false, split_by}
use Rattle.chain_laws.specs.Firsts.{counted}
use Rattle.chain_laws.specs.Triples.{closed-renamed_triples}
use Rattle.mb_base.specs.declared.op.Op.{Op}
use Rattle.mesh_terms.specs.Meshes.{HasThree, Mesh, Triple}
use Rattle.pinch_split.specs.Back.{ComeFrom, named_by}
use Rattle.mesh_boolean.specs.Audited.{AgreesWithMeshes, IsSound}
use Rattle.mesh_boolean.specs.Operation.{Tests}
use Rattle.mesh_boolean.specs.Picked.{triples_of_face}
use Rattle.mesh_boolean.specs.Results.{HasOrigins, IsCleanOver, IsLabelled, face_triples}
use Rattle.mesh_boolean.specs.declared.outcome.Outcome.{Outcome}
use Rattle.mesh_boolean.proofs.Parts.{named_at}

-- the answer no, where what is asked does not hold
pub no : {P : Type 0} → (P → ⊥) → (false ≡ true) ↔ P
no out = ((λ e. absurd (false≢true e)), (λ p. absurd (out p)))

-- what holds of all triangles holds of those of a face
pub all_picked : (P : Triple → Type 0) (x : ℕ) (source : List ℕ) (us : List Triple) → All P us → All P (triples_of_face x source us)
all_picked P x [] us h = All-nil P
all_picked P x (s ∷ ss) [] h = All-nil P
all_picked P x (s ∷ ss) (u ∷ us) h = by (s == x) (all_picked P x ss us (All-tail P u us h))
  where
    by : (b : Bool) → All P (triples_of_face x ss us) →
        All P (map (λ m. m.1) (cond b ((s, u) ∷ filter (λ m. m.0 == x) (zip ss us)) (filter (λ m. m.0 == x) (zip ss us))))
    by true rest = All-cons P u (triples_of_face x ss us) (All-head P u us h) rest
    by false rest = rest

-- and what holds of those of each face holds of all, where each has a face
pub all_from_picked : (P : Triple → Type 0) (source : List ℕ) (us : List Triple) → length source ≡ length us → ((x : ℕ) → All P (triples_of_face x source us)) → All P us
all_from_picked P [] [] long each = All-nil P
all_from_picked P [] (u ∷ us) long each = absurd (omega (arith, long))
all_from_picked P (s ∷ ss) [] long each = absurd (omega (arith, long))
all_from_picked P (s ∷ ss) (u ∷ us) long each =
    All-cons P u us (All-head P u (triples_of_face s ss us) (subst (All P) (here (s == s) (eq-eqb s s refl)) (each s)))
    (all_from_picked P ss us (omega (arith, long)) (λ x. rest x (s == x) (each x)))
  where
    here : (b : Bool) → b ≡ true →
        map (λ m. m.1) (cond b ((s, u) ∷ filter (λ m. m.0 == s) (zip ss us)) (filter (λ m. m.0 == s) (zip ss us))) ≡ u ∷ triples_of_face s ss us
    here b is = ap (λ t. map (λ (m : ℕ × Triple). m.1) (cond t ((s, u) ∷ filter (λ m. m.0 == s) (zip ss us)) (filter (λ m. m.0 == s) (zip ss us)))) is

    rest : (x : ℕ) (b : Bool) → All P (map (λ m. m.1) (cond b ((s, u) ∷ filter (λ m. m.0 == x) (zip ss us)) (filter (λ m. m.0 == x) (zip ss us)))) →
        All P (triples_of_face x ss us)
    rest x true h = All-tail P u (triples_of_face x ss us) h
    rest x false h = h

-- a list in which each number below n occurs has at least n members
pigeonhole : (n : ℕ) (xs : List ℕ) → ((w : ℕ) → w < n → 0 < count_by (λ x. x == w) xs) → n ≤ length xs
pigeonhole zero xs h = omega arith
pigeonhole (suc n) xs h =
    let s = split_by (λ x. x == n) xs (h n (omega arith)) in
    let here : s.member ≡ n = eqb-true s.member n s.passes in
    let rest = pigeonhole n (s.front ++ s.back)
    (λ w low.
    let other : (s.member == w) ≡ false = ne_eqb s.member w (λ e. omega (arith, low, e, here)) in
    omega (arith, h w (omega (arith, low)), ap (count_by (λ x. x == w)) s.joined, count_by-middle (λ x. x == w) s.front s.member s.back, one_if-false (s.member == w) other)) in
    omega (arith, rest, ap length s.joined, length-append s.front (s.member ∷ s.back), length-append s.front s.back)

-- so there are no more old vertices than vertices that come from them
pub few_old : (points old : List (List ℤ)) (from : List ℕ) → ComeFrom points old from → length old ≤ length points
few_old points old from come =
    let all = pigeonhole (length old) from (λ w low. counted (λ x. x == w) w from (come.all w low) (eq-eqb w w refl)) in omega (arith, all, come.each)

-- the triangles of a closed mesh over other vertices are closed
pub named_closed : (from : List ℕ) (ts us : List Triple) → us ≡ map (named_by from) ts → IsClosed (all_edges ts) → IsClosed (all_edges us)
named_closed from ts us is closed = subst (λ (l : List Triple). IsClosed (all_edges l)) (sym is) (closed-renamed_triples (λ v. get_or from v 0) ts closed)

-- what is known of an outcome with triangles over prescribed vertices
pub record IsKnown (p q : Mesh) (r : Outcome) (us : List Triple) : Type 0 where
  pub named : us ≡ map (named_by r.from.items) r.mesh.triples
  pub each : length r.source.items ≡ length r.mesh.triples
  pub three : All HasThree us
  pub from : HasOrigins r
  pub clean : IsCleanOver r.from.items r.mesh.triples
  pub labels : IsLabelled p q r

-- the triangles of a face over prescribed vertices
at_face : (r : Outcome) (us : List Triple) (x : ℕ) → us ≡ map (named_by r.from.items) r.mesh.triples →
    face_triples r.from.items r.source.items r.mesh.triples x ≡ triples_of_face x r.source.items us
at_face r us x named = named_at r.from.items x r.source.items r.mesh.triples ∙ ap (triples_of_face x r.source.items) (sym named)

-- where all of that holds and it agrees with the meshes, it is a result
pub sound : (t : Tests) (op : Op) (p q : Mesh) (r : Outcome) (us : List Triple) → IsKnown p q r us → AgreesWithMeshes t op p q r us → IsSound t op p q r
sound t op p q r us known agrees = record {
  prescribed = agrees.prescribed;
  from = known.from;
  faces = record {
    each = known.each;
    faces = agrees.faces;
    three = λ x. subst (All HasThree) (sym (at_face r us x known.named)) (all_picked HasThree x r.source.items us known.three);
    bounded = λ x low a b. ap (λ l. boundary (all_edges l) a b) (at_face r us x known.named) ∙ agrees.bounded x low a b;
  };
  clean = known.clean;
  labels = known.labels;
}

-- a result agrees with the meshes
pub agrees : (t : Tests) (op : Op) (p q : Mesh) (r : Outcome) (us : List Triple) →
    us ≡ map (named_by r.from.items) r.mesh.triples → IsSound t op p q r → AgreesWithMeshes t op p q r us
agrees t op p q r us named is = record {
  prescribed = is.prescribed;
  faces = is.faces.faces;
  bounded = λ x low a b. ap (λ l. boundary (all_edges l) a b) (sym (at_face r us x named)) ∙ is.faces.bounded x low a b;
}

-- and its triangles have three vertices each
pub has_three : (t : Tests) (op : Op) (p q : Mesh) (r : Outcome) (us : List Triple) → us ≡ map (named_by r.from.items) r.mesh.triples → IsSound t op p q r → All HasThree us
has_three t op p q r us named is =
    let long : length r.source.items ≡ length us = omega (arith, is.faces.each, ap length named, length-map r.mesh.triples (named_by r.from.items)) in
    all_from_picked HasThree r.source.items us long (λ x. subst (All HasThree) (at_face r us x named) (is.faces.three x))
