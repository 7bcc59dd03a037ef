-- Triangles as triples of vertices: their edges under turning, reversal and renaming.
use Rattle.std.specs.Prelude.{◌≡◌, ℕ, List, [], ◌∷◌, ◌++◌, map}
use Rattle.std.proofs.Common.{arith, ap, refl, sym, ◌∙◌}
use Rattle.std.proofs.lemmas.Int.{ints}
use Rattle.std.proofs.lemmas.List.{append_assoc}
use Rattle.chain_terms.specs.Chains.{IsClosed, edges, all_edges}
use Rattle.chain_laws.specs.Sums.{total-append}
use Rattle.chain_terms.specs.Odd.{along, backward, SameChain}
use Rattle.chain_laws.specs.Chains.{renamed, total-backward, closed-append, closed-renamed, closed_same, closed-backward}

-- the triple from its second vertex on
abbrev pub turned_triple : (ℕ × ℕ × ℕ) → ℕ × ℕ × ℕ
turned_triple t = (t.1, t.2, t.0)

-- the triple with the last two vertices exchanged
abbrev pub opposite_triple : (ℕ × ℕ × ℕ) → ℕ × ℕ × ℕ
opposite_triple t = (t.0, t.2, t.1)

-- the triple with its vertices renamed
abbrev pub renamed_triple : (ℕ → ℕ) → (ℕ × ℕ × ℕ) → ℕ × ℕ × ℕ
renamed_triple r t = (r t.0, r t.1, r t.2)

-- a turned triple has the same edges
pub edges-turned : (t : ℕ × ℕ × ℕ) → SameChain (edges (turned_triple t)) (edges t)
edges-turned t f odd = omega (arith, ints)

-- an opposite triple has the turned edges
pub edges-opposite : (t : ℕ × ℕ × ℕ) → SameChain (edges (opposite_triple t)) (backward (edges t))
edges-opposite t f odd = omega (arith, ints)

-- the edges of two lists of triangles, one after the other
pub all_edges-append : (ts us : List (ℕ × ℕ × ℕ)) → all_edges (ts ++ us) ≡ all_edges ts ++ all_edges us
all_edges-append [] us = refl
all_edges-append (t ∷ ts) us = ap (λ es. edges t ++ es) (all_edges-append ts us) ∙ sym (append_assoc (edges t) (all_edges ts) (all_edges us))

-- the edges of renamed triangles are the renamed edges
pub all_edges-renamed : (r : ℕ → ℕ) (ts : List (ℕ × ℕ × ℕ)) → all_edges (map (renamed_triple r) ts) ≡ map (renamed r) (all_edges ts)
all_edges-renamed r [] = refl
all_edges-renamed r (t ∷ ts) = ap (λ es. edges (renamed_triple r t) ++ es) (all_edges-renamed r ts)

-- triangles that each have the edges of others, each in its place, have their sums
pub all_edges-same : (g h : (ℕ × ℕ × ℕ) → ℕ × ℕ × ℕ) → ((t : ℕ × ℕ × ℕ) → SameChain (edges (g t)) (edges (h t))) → (ts : List (ℕ × ℕ × ℕ)) →
    SameChain (all_edges (map g ts)) (all_edges (map h ts))
all_edges-same g h each [] f odd = refl
all_edges-same g h each (t ∷ ts) f odd =
    omega (
      arith,
      ints,
      each t f odd,
      all_edges-same g h each ts f odd,
      total-append (along f) (edges (g t)) (all_edges (map g ts)),
      total-append (along f)
          (edges (h t)) (all_edges (map h ts)),
    )

-- the opposite triangles have the turned edges
pub all_edges-opposite : (ts : List (ℕ × ℕ × ℕ)) → SameChain (all_edges (map opposite_triple ts)) (backward (all_edges ts))
all_edges-opposite [] f odd = refl
all_edges-opposite (t ∷ ts) f odd =
    let here = edges-opposite t f odd in
    omega (
      arith,
      ints,
      here,
      all_edges-opposite ts f odd,
      total-append (along f) (edges (opposite_triple t)) (all_edges (map opposite_triple ts)),
      total-append (along f) (edges t) (all_edges ts),
      total-backward f odd (edges t),
      total-backward f odd (all_edges ts),
      total-backward f odd (edges t ++ all_edges ts),
    )

-- closed triangles stay closed when their vertices are renamed
pub closed-renamed_triples : (r : ℕ → ℕ) (ts : List (ℕ × ℕ × ℕ)) → IsClosed (all_edges ts) → IsClosed (all_edges (map (renamed_triple r) ts))
closed-renamed_triples r ts closed = rw (all_edges-renamed r ts) (closed-renamed r (all_edges ts) closed)

-- and when each is reversed
pub closed-opposite_triples : (ts : List (ℕ × ℕ × ℕ)) → IsClosed (all_edges ts) → IsClosed (all_edges (map opposite_triple ts))
closed-opposite_triples ts closed = closed_same (all_edges (map opposite_triple ts)) (backward (all_edges ts)) (all_edges-opposite ts) (closed-backward (all_edges ts) closed)

-- and when others that are closed follow
pub closed-append_triples : (ts us : List (ℕ × ℕ × ℕ)) → IsClosed (all_edges ts) → IsClosed (all_edges us) → IsClosed (all_edges (ts ++ us))
closed-append_triples ts us h k = rw (all_edges-append ts us) (closed-append (all_edges ts) (all_edges us) h k)
