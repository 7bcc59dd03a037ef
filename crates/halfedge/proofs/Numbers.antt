-- The numbered half-edges of triangles, one triangle more.
use Rattle.std.proofs.Common.{◌≡◌, ◌<◌, ◌+◌, ◌*◌, ℕ, zero, suc, List, [], ◌∷◌, ◌++◌, length, get_or, take, map, sym, ◌∙◌, ap, arith}
use Rattle.std.proofs.lemmas.List.{map-append}
use Rattle.chain_terms.specs.Chains.{edges, all_edges}
use Rattle.mesh_terms.specs.Meshes.{Triple, triple_of, triples_of}
use Rattle.halfedge.specs.Numbering.{by_starts}
use Rattle.halfedge.specs.Pairing.{Half, numbered}

-- the first i + 1 triangles
numbered_suc : (k : ℕ) (ts : List (List ℕ)) (i : ℕ) → i < length ts →
    numbered k (all_edges (triples_of (take (suc i) ts))) ≡ numbered k (all_edges (triples_of (take i ts))) ++ numbered (k + 3 * i) (edges (triple_of (get_or ts i [])))
numbered_suc k [] i below = absurd (omega (arith, below))
numbered_suc k (t ∷ ts) zero below = let at : k ≡ k + 3 * 0 = omega arith in ap (λ n. numbered n (edges (triple_of t))) at
numbered_suc k (t ∷ ts) (suc i) below =
    let u : Triple = triple_of t in
    let at : suc (suc (suc k)) + 3 * i ≡ k + 3 * suc i = omega arith in
    ap (λ l. (u.0, u.1, k) ∷ (u.1, u.2, suc k) ∷ (u.2, u.0, suc (suc k)) ∷ l)
    (numbered_suc (suc (suc (suc k))) ts i (omega (arith, below))
    ∙ ap (λ n. numbered (suc (suc (suc k))) (all_edges (triples_of (take i ts))) ++ numbered n (edges (triple_of (get_or ts i [])))) at)

-- one triangle more
numbered_more : (ts : List (List ℕ)) (i : ℕ) (a b c h : ℕ) → i < length ts → triple_of (get_or ts i []) ≡ (a, b, c) → h ≡ 3 * i →
    numbered 0 (all_edges (triples_of (take (i + 1) ts))) ≡ numbered 0 (all_edges (triples_of (take i ts))) ++ (a, b, h) ∷ (b, c, h + 1) ∷ (c, a, h + 2) ∷ []
numbered_more ts i a b c h below is at =
    let one : i + 1 ≡ suc i = omega arith in
    let here : 0 + 3 * i ≡ h = omega (arith, at) in
    let second : suc h ≡ h + 1 = omega arith in
    let third : suc (suc h) ≡ h + 2 = omega arith in
    let before = numbered 0 (all_edges (triples_of (take i ts))) in
    ap (λ n. numbered 0 (all_edges (triples_of (take n ts)))) one ∙ numbered_suc 0 ts i below
    ∙ ap (λ (u : Triple). before ++ numbered (0 + 3 * i) (edges u)) is ∙ ap (λ n. before ++ numbered n ((a, b) ∷ (b, c) ∷ (c, a) ∷ [])) here
    ∙ (λ j. before ++ (a, b, h) ∷ (b, c, second j) ∷ (c, a, third j) ∷ [])

-- a step of a loop that lists them
pub numbered_step : (ts : List (List ℕ)) (i : ℕ) (a b c h : ℕ) (old new : List Half) → i < length ts → triple_of (get_or ts i []) ≡ (a, b, c) → h ≡ 3 * i →
    old ≡ numbered 0 (all_edges (triples_of (take i ts))) →
    new ≡ old ++ (a, b, h) ∷ (b, c, h + 1) ∷ (c, a, h + 2) ∷ [] → new ≡ numbered 0 (all_edges (triples_of (take (i + 1) ts)))
numbered_step ts i a b c h old new below is at before after =
    after ∙ ap (λ l. l ++ (a, b, h) ∷ (b, c, h + 1) ∷ (c, a, h + 2) ∷ []) before ∙ sym (numbered_more ts i a b c h below is at)

-- and of one that lists them behind their starts
pub by_starts_step : (ts : List (List ℕ)) (i : ℕ) (a b c h : ℕ) (old new : List (ℕ × ℕ)) → i < length ts → triple_of (get_or ts i []) ≡ (a, b, c) → h ≡ 3 * i →
    old ≡ by_starts (all_edges (triples_of (take i ts))) →
    new ≡ old ++ (a, h) ∷ (b, h + 1) ∷ (c, h + 2) ∷ [] → new ≡ by_starts (all_edges (triples_of (take (i + 1) ts)))
by_starts_step ts i a b c h old new below is at before after =
    let known : List Half = numbered 0 (all_edges (triples_of (take i ts))) in
    let f : Half → ℕ × ℕ = λ e. (e.0, e.2) in
    after ∙ ap (λ l. l ++ (a, h) ∷ (b, h + 1) ∷ (c, h + 2) ∷ []) before ∙ sym (map-append f known ((a, b, h) ∷ (b, c, h + 1) ∷ (c, a, h + 2) ∷ []))
    ∙ ap (map f) (sym (numbered_more ts i a b c h below is at))
