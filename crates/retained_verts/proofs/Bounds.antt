-- What bounds the number of hits: they ascend strictly, so there are no more than pairs.
use Rattle.std.proofs.Common.{ℕ, suc, ◌+◌, ◌*◌, ◌<◌, ◌≤◌, List, [], ◌∷◌, length, arith, inl, inr}
use Rattle.std.specs.List.{All, AllPairs}
use Rattle.std.proofs.Math.Nat.{mul-le-mul_left, mul-le-mul_right}
use Rattle.std.proofs.lemmas.List.Elements.{All-head, All-tail, All-weaker}
use Rattle.chain_terms.specs.Chains.{all_edges}
use Rattle.chain_terms.specs.Ranks.{twin}
use Rattle.halfedge.proofs.Edges.{length-all_edges}
use Rattle.mb_base.specs.declared.results.Hit.{Hit}
use Rattle.side_terms.specs.Hits.{AreHits, IsBefore}
use Rattle.side_terms.specs.Sides.{Side, IsSide}
use Rattle.mesh_terms.specs.Limits.{most_triangles}
use Rattle.retained_verts.specs.Small.{most_hits}

-- a hit among the pairs in order
abbrev key : ℕ → Hit → ℕ
key faces h = h.edge * faces + h.face

-- the order of hits is that of their keys
key_before : (faces : ℕ) (h k : Hit) → h.face < faces → IsBefore h k → key faces h < key faces k
key_before faces h k below (inl l) = let m = mul-le-mul_right faces l in omega (arith, below, m)
key_before faces h k below (inr e) = let l : h.face < k.face = e.1 in rw e.0 (omega (arith, l))

-- a key below the product
key_below : (edges faces : ℕ) (h : Hit) → h.edge < edges → h.face < faces → key faces h < edges * faces
key_below edges faces h a b = let m = mul-le-mul_right faces a in omega (arith, b, m)

-- the first before all later ones
pairs_head : (h : Hit) (hs : List Hit) → AllPairs IsBefore (h ∷ hs) → All (IsBefore h) hs
pairs_head h hs a i d l = a 0 (suc i) d (omega arith) (omega (arith, l))

pairs_tail : (h : Hit) (hs : List Hit) → AllPairs IsBefore (h ∷ hs) → AllPairs IsBefore hs
pairs_tail h hs a i j d l m = a (suc i) (suc j) d (omega (arith, l)) (omega (arith, m))

-- ascending hits from a key on
few_from : (edges faces : ℕ) (low : ℕ) (hs : List Hit) → low ≤ edges * faces → All (λ h. low ≤ key faces h) hs → All (λ h. h.edge < edges) hs →
    All (λ h. h.face < faces) hs → AllPairs IsBefore hs → length hs + low ≤ edges * faces
few_from edges faces low [] room from on_edges on_faces order = omega (arith, room)
few_from edges faces low (h ∷ hs) room from on_edges on_faces order =
    let here : low ≤ key faces h = All-head (λ k. low ≤ key faces k) h hs from in
    let edge : h.edge < edges = All-head (λ k. k.edge < edges) h hs on_edges in
    let face : h.face < faces = All-head (λ k. k.face < faces) h hs on_faces in
    let below = key_below edges faces h edge face in
    let later : All (λ k. suc (key faces h) ≤ key faces k) hs = All-weaker (IsBefore h) (λ k. suc (key faces h) ≤ key faces k)
    (λ k b. key_before faces h k face b) hs (pairs_head h hs order) in
    let rest = few_from edges faces (suc (key faces h)) hs (omega (arith, below)) later (All-tail (λ k. k.edge < edges) h hs on_edges)
    (All-tail (λ k. k.face < faces) h hs on_faces) (pairs_tail h hs order) in
    omega (arith, here, rest)

-- hits of lower half-edges with faces are at most as many as pairs
pub few_hits : (es : List (ℕ × ℕ)) (faces : ℕ) (hs : List Hit) → AreHits es faces hs → length hs ≤ length es * faces
few_hits es faces hs known =
    let all = few_from (length es) faces 0 hs (omega arith) (λ i d l. omega arith)
    (All-weaker (λ h. (h.edge < length es) × (h.edge < twin es h.edge)) (λ h. h.edge < length es) (λ h a. a.0) hs known.on_edges) known.on_faces known.ascending in
    omega (arith, all)

-- a product of bounded numbers
bounded : (e f m : ℕ) → e ≤ 3 * m → f ≤ m → e * f ≤ 3 * m * m
bounded e f m a b = let l = mul-le-mul_right f a in let r = mul-le-mul_left (3 * m) b in omega (arith, l, r)

-- so the hits of two sides are bounded
pub few_between : (edges faces : Side) (hs : List Hit) → IsSide edges → IsSide faces → AreHits (all_edges edges.triples) (length faces.triples) hs → length hs ≤ most_hits
few_between edges faces hs one other known =
    let pairs = few_hits (all_edges edges.triples) (length faces.triples) hs known in
    let most = bounded (length (all_edges edges.triples)) (length faces.triples) most_triangles
    (omega (arith, length-all_edges edges.triples, one.accepted.mesh.few_triples)) other.accepted.mesh.few_triples in
    omega (arith, pairs, most)
