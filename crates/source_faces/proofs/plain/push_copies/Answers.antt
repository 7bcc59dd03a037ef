use Rattle.std.proofs.Common.{◌≡◌, ℕ, ◌+◌, List, [], ◌∷◌, ◌++◌, map, cond, get_or, refl, arith, sym, ap, subst, ◌∙◌}
use Rattle.std.proofs.lemmas.List.{map_push}
use Rattle.chain_terms.specs.Sums.{upto}
use Rattle.chain_laws.proofs.Places.{upto_more}
use Rattle.source_faces.specs.ListParts.{no_run}
use Rattle.source_faces.specs.declared.lists.runs.CopyRange.{CopyRange}
use Rattle.mesh_terms.specs.Meshes.{Triple, triple_of, triples_of}
use Rattle.ring_cutting.specs.Cuts.{Cut}
use Rattle.side_terms.specs.Sides.{Side}
use Rattle.source_faces.specs.Adding.{IsAdded, copy_triple, face_copies, is_flat}
use Rattle.source_faces.specs.declared.triangles.SourceTriangles.{SourceTriangles}
use Rattle.source_faces.proofs.Added.{none_added, one_added}
use Rattle.source_faces.proofs.Faces.{at_face}
use Rattle.source_faces.proofs.plain.push_copies.Goals as goal

-- one copy more
step : (x n : ℕ) (f : ℕ → Triple) (i : ℕ) (t : Triple) (old mid new : SourceTriangles) →
    IsAdded x (record { triples = map f (upto i); forced = n }) old mid →
    triples_of new.triples.items ≡ triples_of mid.triples.items ++ t ∷ [] → t ≡ f i → new.source.items ≡ mid.source.items ++ x ∷ [] →
    new.forced ≡ mid.forced →
    IsAdded x (record { triples = map f (upto (i + 1)); forced = n }) old new
step x n f i t old mid new h triples is source forced =
    let same : map f (upto i) ++ t ∷ [] ≡ map f (upto (i + 1)) =
    ap (λ u. map f (upto i) ++ u ∷ []) is ∙ sym (ap (map f) (upto_more i) ∙ map_push f (upto i) i) in
    subst (λ ts. IsAdded x (record { triples = ts; forced = n }) old new) same
    (one_added x (record { triples = map f (upto i); forced = n }) t old mid new h triples source forced)

-- so many copies of a triangle of a side
abbrev copies_in : Side → List CopyRange → ℕ → Triple → ℕ → Cut
copies_in side runs f t n =
    let r = get_or runs t.0 no_run in
    record { triples = map (copy_triple r (get_or runs t.1 no_run) (get_or runs t.2 no_run)) (upto n); forced = cond (is_flat side f) r.count 0 }

-- all copies of a face
all_copies : (side : Side) (runs : List CopyRange) (f i : ℕ) (t : Triple) (x : ℕ) (old new : SourceTriangles) →
    t ≡ get_or side.triples f (0, 0, 0) → i ≡ (get_or runs t.0 no_run).count → IsAdded x (copies_in side runs f t i) old new →
    IsAdded x (face_copies side runs f) old new
all_copies side runs f i t x old new same all h =
    let here = subst (λ n. IsAdded x (copies_in side runs f t n) old new) all h in
    subst (λ (u : Triple). IsAdded x (copies_in side runs f u (get_or runs u.0 no_run).count) old new) same here

pub loop-i-init : goal.loop-i-init
loop-i-init c =
    let side = c.args.side.now in
    let f = c.args.face in
    let all = c.args.all.now in
    let t = triple_of (get_or c.triples.result.now f []) in
    let forced : c.from.result ≡ cond (is_flat side f) (get_or c.args.runs.now t.0 no_run).count 0 = c.from.ensures ∙ c.forced_copies.ensures in
    none_added c.args.source (cond (is_flat side f) (get_or c.args.runs.now t.0 no_run).count 0) all _ refl refl (ap (λ n. all.forced + n) forced)

pub loop-i-preserved : goal.loop-i-preserved
loop-i-preserved c =
    let e = c.in_ok-push.ensures in
    let runs = c.args.runs.now in
    let t = triple_of (get_or c.triples.result.now c.args.face []) in
    let r = get_or runs t.0 no_run in
    step c.args.source (cond (is_flat c.args.side.now c.args.face) r.count 0)
    (copy_triple r (get_or runs t.1 no_run) (get_or runs t.2 no_run)) c.loop-i.i (triple_of c.copy_triple.result) c.args.all.now
    c.loop-i.all c.push.new.self c.loop-i.invariant
    e.triples c.copy_triple.ensures e.source e.forced

pub returns : goal.returns
returns c =
    let side = c.args.side.now in
    let runs = c.args.runs.now in
    let f = c.args.face in
    let xs = c.triples.result.now in
    let t = triple_of (get_or xs f []) in
    let all : c.loop-i.i ≡ (get_or runs t.0 no_run).count = omega (arith, c.loop-i-test.false, c.loop-i.auto.i-end) in
    all_copies side runs f c.loop-i.i t c.args.source c.args.all.now c.loop-i.all
    (at_face side.triples xs f c.triples.ensures.value c.requires.face) all c.loop-i.invariant
