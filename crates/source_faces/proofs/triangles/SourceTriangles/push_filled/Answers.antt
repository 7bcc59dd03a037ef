use Rattle.std.proofs.Common.{◌≡◌, ◌+◌, ◌<◌, [], ◌∷◌, ◌++◌, ℕ, List, take, get_or, length, refl, sym, ap, subst, ◌∙◌}
use Rattle.std.proofs.lemmas.List.{map_more, take_all}
use Rattle.mesh_terms.specs.Meshes.{triple_of, triples_of}
use Rattle.ring_cutting.specs.Cuts.{Cut}
use Rattle.source_faces.specs.Adding.{IsAdded}
use Rattle.source_faces.specs.declared.triangles.SourceTriangles.{SourceTriangles}
use Rattle.source_faces.proofs.Added.{none_added, one_added}
use Rattle.source_faces.proofs.triangles.SourceTriangles.push_filled.Goals as goal

-- one more of a list of arrays
step : (x n : ℕ) (items : List (List ℕ)) (i : ℕ) (t : List ℕ) (old mid new : SourceTriangles) → i < length items → get_or items i [] ≡ t →
    IsAdded x (record { triples = triples_of (take i items); forced = n }) old mid →
    triples_of new.triples.items ≡ triples_of mid.triples.items ++ triple_of t ∷ [] → new.source.items ≡ mid.source.items ++ x ∷ [] →
    new.forced ≡ mid.forced →
    IsAdded x (record { triples = triples_of (take (i + 1) items); forced = n }) old new
step x n items i t old mid new below is h triples source forced =
    let more = map_more triple_of items i [] below in
    let same : triples_of (take i items) ++ triple_of t ∷ [] ≡ triples_of (take (i + 1) items) =
    ap (λ u. triples_of (take i items) ++ triple_of u ∷ []) (sym is) ∙ sym more in
    subst (λ ts. IsAdded x (record { triples = ts; forced = n }) old new) same
    (one_added x (record { triples = triples_of (take i items); forced = n }) (triple_of t) old mid new h triples source forced)

pub loop-triple-init : goal.loop-triple-init
loop-triple-init c =
    let forced : c.filled.inside.forced ≡ c.args.filled.now.forced = ap (λ (k : Cut). k.forced) c.filled.view_is in
    none_added c.args.source c.args.filled.now.forced c.args.self.now _ refl refl (ap (λ n. c.args.self.now.forced + n) forced)

pub loop-triple-preserved : goal.loop-triple-preserved
loop-triple-preserved c =
    let items = c.deref-triple-items.result.now in
    let i = c.loop-triple.triple-index in
    let e = c.in_ok-push.ensures in
    step c.args.source c.args.filled.now.forced items i (get_or items i []) c.args.self.now c.loop-triple.self c.push.new.self
    c.loop-triple-test.true refl c.loop-triple.invariant e.triples e.source e.forced

pub returns : goal.returns
returns c =
    let items = c.deref-triple-items.result.now in
    let i = c.loop-triple.triple-index in
    let all : take i items ≡ items = take_all i items c.loop-triple-test.false in
    let shown : triples_of (take i items) ≡ c.args.filled.now.triples =
    ap triples_of all ∙ ap triples_of c.deref-triple-items.ensures.value ∙ ap (λ (k : Cut). k.triples) c.filled.view_is in
    subst (λ ts. IsAdded c.args.source (record { triples = ts; forced = c.args.filled.now.forced }) c.args.self.now c.loop-triple.self)
    shown c.loop-triple.invariant
