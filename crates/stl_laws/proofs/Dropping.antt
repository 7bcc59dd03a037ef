-- Triangles with a vertex twice: they add nothing to any chain, so they can be dropped.
use Rattle.std.proofs.Common.{◌≡◌, ◌⊎◌, ◌∷◌, ℕ, Bool, List, [], true, false, ap, arith, inl, inr, refl}
use Rattle.std.specs.Prelude.{cond, not, ◌&&◌, ◌==◌, filter}
use Rattle.std.proofs.lemmas.Bool.{cases_Bool, eqb-true}
use Rattle.std.proofs.lemmas.Int.{ints}
use Rattle.chain_terms.specs.Chains.{all_edges, edges}
use Rattle.chain_terms.specs.Odd.{SameChain, along}
use Rattle.chain_terms.specs.Sums.{total}
use Rattle.chain_laws.specs.Sums.{total-append}
use Rattle.mesh_terms.specs.Meshes.{Triple}

-- no vertex stands twice
abbrev pub has_three : Triple → Bool
has_three t = not (t.0 == t.1) && not (t.1 == t.2) && not (t.2 == t.0)

-- two of its vertices are one
abbrev HasTwo : Triple → Type 0
HasTwo t = (t.0 ≡ t.1) ⊎ ((t.1 ≡ t.2) ⊎ (t.2 ≡ t.0))

-- what does not pass has
two_of : (t : Triple) → has_three t ≡ false → HasTwo t
two_of t h = by (t.0 == t.1) (t.1 == t.2) (t.2 == t.0) refl refl refl h
  where
    by : (x y z : Bool) → (t.0 == t.1) ≡ x → (t.1 == t.2) ≡ y → (t.2 == t.0) ≡ z → (not x && not y && not z) ≡ false → HasTwo t
    by true y z a b c e = inl (eqb-true t.0 t.1 a)
    by false true z a b c e = inr (inl (eqb-true t.1 t.2 b))
    by false false true a b c e = inr (inr (eqb-true t.2 t.0 c))
    by false false false a b c e = absurd (cc)

-- a triangle with a vertex twice has a chain without sums: of its three edges one runs from a vertex to itself, and the other two are one and its reverse
edges-flat : (a b c : ℕ) → (a ≡ b) ⊎ ((b ≡ c) ⊎ (c ≡ a)) → SameChain (edges (a, b, c)) []
edges-flat a b c (inl e) f odd = rw e (omega (arith, ints, odd.turns b b, odd.turns b c))
edges-flat a b c (inr (inl e)) f odd = rw e (omega (arith, ints, odd.turns c c, odd.turns c a))
edges-flat a b c (inr (inr e)) f odd = rw e (omega (arith, ints, odd.turns a a, odd.turns a b))

flat_chain : (t : Triple) → has_three t ≡ false → SameChain (edges t) []
flat_chain t h = edges-flat t.0 t.1 t.2 (two_of t h)

-- so the others have the chain of all
pub kept_chain : (ts : List Triple) → SameChain (all_edges (filter has_three ts)) (all_edges ts)
kept_chain [] f odd = refl
kept_chain (t ∷ ts) f odd = elim (cases_Bool (has_three t)) as (λ _. total (along f) (all_edges (filter has_three (t ∷ ts))) ≡ total (along f) (all_edges (t ∷ ts))) [
  | inl is ↦
      let opened : filter has_three (t ∷ ts) ≡ t ∷ filter has_three ts = ap (λ c. cond c (t ∷ filter has_three ts) (filter has_three ts)) is in
      rw opened (omega (arith, ints, kept_chain ts f odd))
  | inr not_so ↦
      let opened : filter has_three (t ∷ ts) ≡ filter has_three ts = ap (λ c. cond c (t ∷ filter has_three ts) (filter has_three ts)) not_so in
      rw opened (omega (arith, ints, kept_chain ts f odd, flat_chain t not_so f odd, total-append (along f) (edges t) (all_edges ts)))
]
