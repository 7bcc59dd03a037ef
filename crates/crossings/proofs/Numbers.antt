-- The numbers by half-edge are those of the half-edges' corners.
use Rattle.std.proofs.Common.{◌≡◌, ◌≢◌, ℕ, ◌<◌, ◌≤◌, ℤ, neg_ℤ, length, get_or, if◌then◌else◌, arith, inl, inr, ap, ◌∙◌}
use Rattle.std.proofs.lemmas.Int.{ints}
use Rattle.std.proofs.lemmas.Bool.{cases_lt, lt-ltb, le-ltb}
use Rattle.chain_terms.specs.Chains.{all_edges}
use Rattle.chain_terms.specs.Ranks.{start, finish, twin}
use Rattle.halfedge.proofs.Around.{pair_up}
use Rattle.mesh_terms.specs.Meshes.{Triple}
use Rattle.edge_face.specs.Crossings.{number_of}
use Rattle.side_terms.specs.Sides.{Side, IsSide, edge_of, face_of}
use Rattle.crossings.specs.Hits.{CrossingTest, hits_of}
use Rattle.side_terms.specs.Conservation.{hit_number, half_number}
use Rattle.crossings.proofs.Totals.{hits_number}

-- the number that is answered for the edge from a to b and a triangle
abbrev pub edge_number : CrossingTest → Side → Side → Triple → ℕ → ℕ → ℤ
edge_number test edges faces t a b = number_of (test (edge_of edges.corners a b) (face_of faces.corners t))

-- a test whose numbers turn with the edge
abbrev pub Turns : CrossingTest → Side → Side → Type 0
Turns test edges faces = (t : Triple) (a b : ℕ) → edge_number test edges faces t b a ≡ neg_ℤ (edge_number test edges faces t a b)

-- minus minus a number
twice : (z : ℤ) → neg_ℤ (neg_ℤ z) ≡ z
twice z = omega (arith, ints)

-- of the lower half-edge
lower_number : (test : CrossingTest) (edges faces : Side) (h f : ℕ) → h < length (all_edges edges.triples) → f < length faces.triples → h < twin (all_edges edges.triples) h →
    half_number (all_edges edges.triples) (hits_of test edges faces) h f
    ≡ edge_number test edges faces (get_or faces.triples f (0, 0, 0)) (start (all_edges edges.triples) h) (finish (all_edges edges.triples) h)
lower_number test edges faces h f inside below lower =
    let es = all_edges edges.triples in
    let hits = hits_of test edges faces in
    ap (λ b. if b then hit_number hits h f else neg_ℤ (hit_number hits (twin es h) f)) (lt-ltb h (twin es h) lower) ∙ hits_number test edges faces h f inside lower below

-- of the upper one
upper_number : (test : CrossingTest) (edges faces : Side) → IsSide edges → Turns test edges faces → (h f : ℕ) → h < length (all_edges edges.triples) →
    f < length faces.triples → twin (all_edges edges.triples) h ≤ h →
    half_number (all_edges edges.triples) (hits_of test edges faces) h f
    ≡ edge_number test edges faces (get_or faces.triples f (0, 0, 0)) (start (all_edges edges.triples) h) (finish (all_edges edges.triples) h)
upper_number test edges faces known turns h f inside below upper =
    let es = all_edges edges.triples in
    let hits = hits_of test edges faces in
    let number = edge_number test edges faces (get_or faces.triples f (0, 0, 0)) in
    let up = pair_up edges.triples known.accepted.mesh.three known.accepted.closed in
    let back = up.run_back h inside in
    let apart = up.apart h inside in
    let again = up.pairs h inside in
    let less : twin es h < h = strictly (twin es h) h apart upper in
    let lower : twin es h < twin es (twin es h) = omega (arith, again, less) in
    let turned : number (start es (twin es h)) (finish es (twin es h)) ≡ neg_ℤ (number (start es h) (finish es h)) =
    ap (λ a. number a (finish es (twin es h))) back.from ∙ ap (number (finish es h)) back.to ∙ turns (get_or faces.triples f (0, 0, 0)) (start es h) (finish es h) in
    ap (λ b. if b then hit_number hits h f else neg_ℤ (hit_number hits (twin es h) f)) (le-ltb h (twin es h) upper)
    ∙ ap neg_ℤ (hits_number test edges faces (twin es h) f back.within lower below ∙ turned) ∙ twice (number (start es h) (finish es h))
  where
    strictly : (a b : ℕ) → a ≢ b → a ≤ b → a < b
    strictly a b d l = elim (cases_lt a b) as (λ _. a < b) [ inl m ↦ m | inr m ↦ absurd (d (omega arith)) ]

-- the number by half-edge is that of the half-edge's corners
pub half_number_is : (test : CrossingTest) (edges faces : Side) → IsSide edges → Turns test edges faces → (h f : ℕ) →
    h < length (all_edges edges.triples) → f < length faces.triples →
    half_number (all_edges edges.triples) (hits_of test edges faces) h f
    ≡ edge_number test edges faces (get_or faces.triples f (0, 0, 0)) (start (all_edges edges.triples) h) (finish (all_edges edges.triples) h)
half_number_is test edges faces known turns h f inside below =
    let es = all_edges edges.triples in
    elim (cases_lt h (twin es h)) as (λ _. half_number es (hits_of test edges faces) h f ≡ edge_number test edges faces (get_or faces.triples f (0, 0, 0))
    (start es h) (finish es h)) [
      | inl l ↦ lower_number test edges faces h f inside below l
      | inr l ↦ upper_number test edges faces known turns h f inside below l
    ]
