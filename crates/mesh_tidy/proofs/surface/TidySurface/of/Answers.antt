use Rattle.std.proofs.Common.{◌≡◌, ℕ, Bool, true, List, length, replicate, refl, sym, ◌∙◌, ap, subst, arith}
use Rattle.std.specs.List.{All}
use Rattle.std.proofs.lemmas.List.{length-map, length-replicate}
use Rattle.std.proofs.lemmas.List.Elements.{All-replicate}
use Rattle.chain_terms.specs.Chains.{all_edges}
use Rattle.mesh_terms.specs.Meshes.{triple_of, triples_of}
use Rattle.mesh_terms.specs.Twins.{IsTwinned}
use Rattle.mesh_tidy.specs.Stars.{stars_of}
use Rattle.mesh_tidy.proofs.Starring.{length-stars_to}
use Rattle.mesh_tidy.proofs.Whole.{made_kept, picked_true}
use Rattle.mesh_tidy.proofs.surface.TidySurface.of.Goals as goal

-- marks for as many triples, each set
all_set : (items : List (List ℕ)) (left : List Bool) → left ≡ replicate (length items) true → (length left ≡ length (triples_of items)) × All (λ m. m ≡ true) left
all_set items left is = (
  ap length is ∙ length-replicate (length items) true ∙ sym (length-map items triple_of),
  subst (All (λ m. m ≡ true)) (sym is)
      (All-replicate (λ m. m ≡ true) (length items) true refl),
)

-- stars of what was read
stars_are : (n m : ℕ) (read items : List (List ℕ)) (stars : List (List ℕ)) → stars ≡ stars_of m (all_edges (triples_of read)) → read ≡ items → m ≡ n →
    stars ≡ stars_of n (all_edges (triples_of items))
stars_are n m read items stars is same count = is ∙ (λ i. stars_of (count i) (all_edges (triples_of (same i))))

pub invariant_of-result : goal.invariant_of-result
invariant_of-result c =
    let m = c.args.mesh.now in
    let items = c.in_ok-triples.triples.items in
    let count : c.len.result ≡ length items = omega (arith, c.len.ensures, c.in_ok-triples.triples.ok.0) in
    let left : c.in_ok-left.left.items ≡ replicate (length items) true = c.in_ok-left.ensures.items_if_clones_equal (λ y same. same) ∙ ap (λ n. replicate n true) count in
    let set_all = all_set items c.in_ok-left.left.items left in
    made_kept (length m.points) m.triples (triples_of items) c.triples.ensures.accepted (ap triples_of c.in_ok-triples.ensures.items ∙ c.triples.ensures.value)
    c.in_ok-left.left.items set_all.0 set_all.1 c.in_ok-twins.twins.items
    (subst (IsTwinned m.triples) (sym (c.in_ok-twins.ensures.items ∙ c.twins-2.ensures.value)) c.twins.ensures.twins) c.in_ok-stars.stars
    (stars_are (length m.points) (length c.points.result.now) c.deref.result.now items c.in_ok-stars.stars c.in_ok-stars.ensures c.deref.ensures.value
    (ap length c.points.ensures.value))

pub returns-clause-left : goal.returns-clause-left
returns-clause-left c =
    let items = c.in_ok-triples.triples.items in
    let count : c.len.result ≡ length items = omega (arith, c.len.ensures, c.in_ok-triples.triples.ok.0) in
    let left : c.in_ok-left.left.items ≡ replicate (length items) true = c.in_ok-left.ensures.items_if_clones_equal (λ y same. same) ∙ ap (λ n. replicate n true) count in
    (all_set items c.in_ok-left.left.items left).1

pub returns-clause-whole : goal.returns-clause-whole
returns-clause-whole c =
    let items = c.in_ok-triples.triples.items in
    let count : c.len.result ≡ length items = omega (arith, c.len.ensures, c.in_ok-triples.triples.ok.0) in
    let left : c.in_ok-left.left.items ≡ replicate (length items) true = c.in_ok-left.ensures.items_if_clones_equal (λ y same. same) ∙ ap (λ n. replicate n true) count in
    let set_all = all_set items c.in_ok-left.left.items left in
    picked_true c.in_ok-left.left.items (triples_of items) set_all.0 set_all.1 ∙ ap triples_of c.in_ok-triples.ensures.items ∙ c.triples.ensures.value

pub returns-clause-vertices : goal.returns-clause-vertices
returns-clause-vertices c =
    let es = all_edges (triples_of c.deref.result.now) in ap length c.in_ok-stars.ensures ∙ length-stars_to (length c.points.result.now) es (length es)
    ∙ ap length c.points.ensures.value
