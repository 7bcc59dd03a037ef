use Rattle.std.proofs.Common.{rules, List, ℕ, Vec, Global, length, subst, sym, ap, ◌∙◌, arith}
use Rattle.std.specs.List.{All}
use Rattle.std.proofs.lemmas.List.{length-map}
use Rattle.chain_terms.specs.Chains.{all_edges, IsClosed}
use Rattle.mesh_terms.specs.Meshes.{HasThree, triple_of, triples_of}
use Rattle.halfedge.specs.Twins.{IsKept}
use Rattle.halfedge.proofs.twins.Twins.over.Goals as goal

pub invariant_of-result : goal.invariant_of-result
invariant_of-result c =
    let read = c.deref.result.now in
    let triples = ap (λ (v : Vec (List ℕ) Global). v.items) c.in_ok-new.ensures.ok ∙ sym c.deref.ensures.value in
    let twins = ap (λ (v : Vec ℕ Global). v.items) c.in_ok-new-2.ensures.ok in
    subst (λ l. IsKept (triples_of l) c.in_ok-new-2.field-0.value.items c.in_ok-twins.single) (sym triples)
    (subst (λ l. IsKept (triples_of read) l c.in_ok-twins.single) (sym twins)
    (record {
      twinned = record {
        few = omega (arith, c.requires.few, ap length c.deref.ensures.value, length-map read triple_of);
        three = subst (λ l. All HasThree (triples_of l)) (sym c.deref.ensures.value) c.requires.three;
        closed = c.in_ok-twins.ensures.closed;
        each = c.in_ok-twins.ensures.twins;
      };
      single_exactly = c.in_ok-twins.ensures.single;
    }))

pub returns-in_err-twins-clause-accepts : goal.returns-in_err-twins-clause-accepts
returns-in_err-twins-clause-accepts c closed =
    let known = c.in_err-twins.ensures.accepts (subst (λ l. IsClosed (all_edges (triples_of l))) (sym c.deref.ensures.value) closed) in
    search rules
