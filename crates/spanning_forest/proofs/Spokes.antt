-- The edges that start at a vertex, as the places of that vertex among all starts.
use Rattle.std.proofs.Common.{◌≡◌, ◌<◌, ◌*◌, ◌==◌, ◌++◌, ℕ, List, [], ◌∷◌, length, get_or, map, refl, sym, ◌∙◌, ap, subst, arith}
use Rattle.std.specs.List.{All, Contains, flat_map}
use Rattle.std.proofs.lemmas.Bool.{eqb-true, eq-eqb}
use Rattle.std.proofs.lemmas.List.{get_or-map, get_or_default, length-map}
use Rattle.std.proofs.lemmas.List.Elements.{All-from_get_or, All-cons, All-head, All-map, All-nil, All-tail, All-weaker}
use Rattle.chain_terms.specs.Chains.{dir, all_edges}
use Rattle.chain_terms.specs.Ranks.{start, finish}
use Rattle.chain_terms.specs.Sums.{upto}
use Rattle.chain_laws.specs.Chains.{dir_contains}
use Rattle.chain_laws.proofs.Ascending.{IsKept, kept_at, kept}
use Rattle.component_terms.specs.Laws.{AreBelow}
use Rattle.places_by_key.specs.Buckets.{places_of}
use Rattle.places_by_key.proofs.Upto.{get_or-map-upto}
use Rattle.mesh_terms.specs.Meshes.{Triple, IsBelow, triple_of, triples_of}
use Rattle.halfedge.proofs.Edges.{length-all_edges}
use Rattle.spanning_forest.specs.Walks.{starts_of}

-- a place of the vertex is that of an edge that starts there
pub record IsSpoke (es : List (ℕ × ℕ)) (v h : ℕ) : Type 0 where
  pub within : h < length es
  pub from : start es h ≡ v

-- what a filter keeps of the places is a spoke
spoke_of_kept : (es : List (ℕ × ℕ)) (v h : ℕ) → IsKept (λ i. get_or (starts_of es) i 0 == v) 0 (length (starts_of es)) h → IsSpoke es v h
spoke_of_kept es v h k =
    let low : h < length es = omega (arith, k.high, length-map es (λ (e : ℕ × ℕ). e.0)) in
    record { within = low; from = sym (get_or-map (λ (e : ℕ × ℕ). e.0) es h (0, 0) 0 low) ∙ eqb-true (get_or (starts_of es) h 0) v k.passes }

-- each place of the vertex is a spoke
pub all_spokes : (es : List (ℕ × ℕ)) (v : ℕ) → All (IsSpoke es v) (places_of (starts_of es) v)
all_spokes es v =
    let starts = starts_of es in
    let places = places_of starts v in
    All-from_get_or (IsSpoke es v) places 0 (λ i low. spoke_of_kept es v (get_or places i 0) (kept_at (λ h. get_or starts h 0 == v) 0 (length starts) i low))

-- each spoke is one of the places
spoke_listed : (es : List (ℕ × ℕ)) (v h : ℕ) → IsSpoke es v h → Contains (places_of (starts_of es) v) h
spoke_listed es v h s =
    kept (λ i. get_or (starts_of es) i 0 == v) 0 (length (starts_of es)) h (record {
      low = omega arith;
      high = omega (arith, s.within, length-map es (λ (e : ℕ × ℕ). e.0));
      passes = eq-eqb (get_or (starts_of es) h 0) v (get_or-map (λ (e : ℕ × ℕ). e.0) es h (0, 0) 0 s.within ∙ s.from);
    })

-- where an edge runs from the vertex to b, b is the end of a spoke
pub spoke_to : (es : List (ℕ × ℕ)) (v b : ℕ) → 0 < dir es v b → (h : ℕ) × Contains (places_of (starts_of es) v) h × (finish es h ≡ b)
spoke_to es v b some =
    let (h, low, at) = dir_contains es v b some in
    let is : get_or es h (0, 0) ≡ (v, b) = get_or_default es h (0, 0) (v, b) low ∙ at in
    (h, spoke_listed es v h (record { within = low; from = ap (λ (e : ℕ × ℕ). e.0) is }), ap (λ (e : ℕ × ℕ). e.1) is)

-- what is read as bucket v of so many
pub read_spokes : (es : List (ℕ × ℕ)) (n v : ℕ) (spokes : List (List ℕ)) (bucket : List ℕ) → v < n → spokes ≡ map (places_of (starts_of es)) (upto n) →
    bucket ≡ get_or spokes v [] → bucket ≡ places_of (starts_of es) v
read_spokes es n v spokes bucket low gathered read = read ∙ ap (λ (l : List (List ℕ)). get_or l v []) gathered ∙ get_or-map-upto (places_of (starts_of es)) n v [] low

-- triples, one after the other, are the starts of their edges
pub flat_starts : (triples : List (List ℕ)) → All (λ t. length t ≡ 3) triples → flat_map (λ t. t) triples ≡ starts_of (all_edges (triples_of triples))
flat_starts [] three = refl
flat_starts (t ∷ ts) three =
    ap (λ l. l ++ flat_map (λ u. u) ts) (told t (All-head (λ u. length u ≡ 3) t ts three))
    ∙ ap (λ l. get_or t 0 0 ∷ get_or t 1 0 ∷ get_or t 2 0 ∷ l) (flat_starts ts (All-tail (λ u. length u ≡ 3) t ts three))
  where
    told : (t : List ℕ) → length t ≡ 3 → t ≡ get_or t 0 0 ∷ get_or t 1 0 ∷ get_or t 2 0 ∷ []
    told [] n = cc
    told (a ∷ []) n = cc
    told (a ∷ b ∷ []) n = cc
    told (a ∷ b ∷ c ∷ []) n = refl
    told (a ∷ b ∷ c ∷ d ∷ l) n = absurd (omega (arith, n))

-- the edges join vertices below the bound
pub edges_below : (n : ℕ) (ts : List Triple) → All (IsBelow n) ts → AreBelow n (all_edges ts)
edges_below n [] all = All-nil (λ (e : ℕ × ℕ). (e.0 < n) × (e.1 < n))
edges_below n (t ∷ ts) all =
    let first = All-head (IsBelow n) t ts all in
    let P = λ (e : ℕ × ℕ). (e.0 < n) × (e.1 < n) in
    All-cons P (t.0, t.1) ((t.1, t.2) ∷ (t.2, t.0) ∷ all_edges ts) (first.a, first.b)
    (All-cons P (t.1, t.2) ((t.2, t.0) ∷ all_edges ts) (first.b, first.c)
    (All-cons P (t.2, t.0) (all_edges ts) (first.c, first.a) (edges_below n ts (All-tail (IsBelow n) t ts all))))

-- so each start is below it
pub starts_below : (n : ℕ) (es : List (ℕ × ℕ)) → AreBelow n es → All (λ k. k < n) (starts_of es)
starts_below n es below =
    All-map (λ k. k < n) (λ (e : ℕ × ℕ). e.0) es (All-weaker (λ (e : ℕ × ℕ). (e.0 < n) × (e.1 < n)) (λ (e : ℕ × ℕ). e.0 < n) (λ e b. b.0) es below)

-- so many half-edges
pub length-halves : (triples : List (List ℕ)) → length (all_edges (triples_of triples)) ≡ 3 * length triples
length-halves triples = omega (arith, length-all_edges (triples_of triples), length-map triples triple_of)

-- a half-edge ends below the bound of the vertices
pub finish_below : (n : ℕ) (triples : List (List ℕ)) (h : ℕ) → All (IsBelow n) (triples_of triples) → h < 3 * length triples →
    finish (all_edges (triples_of triples)) h < n
finish_below n triples h all low = (edges_below n (triples_of triples) all h (0, 0) (omega (arith, low, length-halves triples))).1

-- the spokes of a vertex are half-edges of the triangles
pub spokes_within : (triples : List (List ℕ)) (v : ℕ) (bucket : List ℕ) → bucket ≡ places_of (starts_of (all_edges (triples_of triples))) v →
    All (λ h. h < 3 * length triples) bucket
spokes_within triples v bucket is =
    subst (All (λ h. h < 3 * length triples)) (sym is)
    (λ k d low. let s = all_spokes (all_edges (triples_of triples)) v k d low in omega (arith, s.within, length-halves triples))
