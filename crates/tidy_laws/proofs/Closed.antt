-- Closed triangles of three different vertices stay so in a collapse.
use Rattle.std.proofs.Common.{◌≡◌, ◌≢◌, ℕ, Bool, true, false, List, [], ◌∷◌, ◌⊎◌, inl, inr, map, refl, sym, ap, ◌∙◌, arith}
use Rattle.std.specs.Prelude.{cond, not, ◌&&◌, ◌||◌, ◌==◌, filter}
use Rattle.std.proofs.lemmas.Int.{ints}
use Rattle.std.proofs.lemmas.Bool.{eqb-true, eq-eqb, cases_Bool, both_ways}
use Rattle.chain_terms.specs.Chains.{all_edges, edges, IsClosed}
use Rattle.chain_terms.specs.Odd.{along, SameChain}
use Rattle.chain_terms.specs.Sums.{total}
use Rattle.chain_laws.specs.Chains.{closed_same}
use Rattle.chain_laws.specs.Sums.{total-append}
use Rattle.chain_laws.specs.Triples.{renamed_triple, closed-renamed_triples}
use Rattle.mesh_terms.specs.Meshes.{Triple, has}
use Rattle.tidy_terms.specs.Collapse.{collapsed, merged, stays}

-- which vertex of a triple a vertex is
abbrev pub IsVertexOf : Triple → ℕ → Type 0
IsVertexOf t v = (t.0 ≡ v) ⊎ ((t.1 ≡ v) ⊎ (t.2 ≡ v))

pub vertex_of : (t : Triple) (v : ℕ) → has t v ≡ true → IsVertexOf t v
vertex_of t v h = by (t.0 == v) (t.1 == v) (t.2 == v) refl refl refl h where
  by : (x y z : Bool) → (t.0 == v) ≡ x → (t.1 == v) ≡ y → (t.2 == v) ≡ z → ((x || y) || z) ≡ true → IsVertexOf t v
  by true y z ex ey ez h = inl (eqb-true t.0 v ex)
  by false true z ex ey ez h = inr (inl (eqb-true t.1 v ey))
  by false false true ex ey ez h = inr (inr (eqb-true t.2 v ez))
  by false false false ex ey ez h = absurd (both_ways false refl h)

-- both vertices become the first
pub merged_second : (a b v : ℕ) → v ≡ b → merged a b v ≡ a
merged_second a b v e = ap (λ c. cond c a v) (eq-eqb v b e)

pub merged_first : (a b v : ℕ) → v ≡ a → merged a b v ≡ a
merged_first a b v e = elim (cases_Bool (v == b)) as (λ _. merged a b v ≡ a) [
  | inl y ↦ ap (λ c. cond c a v) y
  | inr n ↦ ap (λ c. cond c a v) n ∙ e
]

-- all others stay
pub merged_other : (a b v : ℕ) → v ≢ b → merged a b v ≡ v
merged_other a b v n = elim (cases_Bool (v == b)) as (λ _. merged a b v ≡ v) [
  | inl y ↦ absurd (n (eqb-true v b y))
  | inr m ↦ ap (λ c. cond c a v) m
]

-- a triangle that goes has both
pub record HasBoth (a b : ℕ) (t : Triple) : Type 0 where
  pub first : has t a ≡ true
  pub second : has t b ≡ true

pub goes_both : (a b : ℕ) (t : Triple) → stays a b t ≡ false → HasBoth a b t
goes_both a b t h = by (has t a) (has t b) refl refl h where
  by : (x y : Bool) → has t a ≡ x → has t b ≡ y → not (x && y) ≡ false → HasBoth a b t
  by true true e f h = record { first = e; second = f }
  by true false e f h = absurd (both_ways true h refl)
  by false y e f h = absurd (both_ways true h refl)

-- two vertices of it become one
abbrev HasTwo : Triple → Type 0
HasTwo t = (t.0 ≡ t.1) ⊎ ((t.1 ≡ t.2) ⊎ (t.2 ≡ t.0))

two_of : (a b : ℕ) → a ≢ b → (t : Triple) → IsVertexOf t a → IsVertexOf t b → HasTwo (renamed_triple (merged a b) t)
two_of a b n t (inl x) (inl y) = absurd (n (sym x ∙ y))
two_of a b n t (inl x) (inr (inl y)) = inl (merged_first a b t.0 x ∙ sym (merged_second a b t.1 y))
two_of a b n t (inl x) (inr (inr y)) = inr (inr (merged_second a b t.2 y ∙ sym (merged_first a b t.0 x)))
two_of a b n t (inr (inl x)) (inl y) = inl (merged_second a b t.0 y ∙ sym (merged_first a b t.1 x))
two_of a b n t (inr (inl x)) (inr (inl y)) = absurd (n (sym x ∙ y))
two_of a b n t (inr (inl x)) (inr (inr y)) = inr (inl (merged_first a b t.1 x ∙ sym (merged_second a b t.2 y)))
two_of a b n t (inr (inr x)) (inl y) = inr (inr (merged_first a b t.2 x ∙ sym (merged_second a b t.0 y)))
two_of a b n t (inr (inr x)) (inr (inl y)) = inr (inl (merged_second a b t.1 y ∙ sym (merged_first a b t.2 x)))
two_of a b n t (inr (inr x)) (inr (inr y)) = absurd (n (sym x ∙ y))

-- the edges of such a triple add up to nothing
edges-flat : (a b c : ℕ) → (a ≡ b) ⊎ ((b ≡ c) ⊎ (c ≡ a)) → SameChain (edges (a, b, c)) []
edges-flat a b c (inl e) f odd = rw e (omega (arith, ints, odd.turns b b, odd.turns b c))
edges-flat a b c (inr (inl e)) f odd = rw e (omega (arith, ints, odd.turns c c, odd.turns c a))
edges-flat a b c (inr (inr e)) f odd = rw e (omega (arith, ints, odd.turns a a, odd.turns a b))

-- so do its own
pub gone_flat : (a b : ℕ) → a ≢ b → (t : Triple) → stays a b t ≡ false → SameChain (edges (renamed_triple (merged a b) t)) []
gone_flat a b n t h =
    let g = goes_both a b t h in
    let r = renamed_triple (merged a b) t in
    edges-flat r.0 r.1 r.2 (two_of a b n t (vertex_of t a g.first) (vertex_of t b g.second))

-- the others have the sums of all
pub same_sums : (a b : ℕ) → a ≢ b → (ts : List Triple) → SameChain (all_edges (collapsed a b ts)) (all_edges (map (renamed_triple (merged a b)) ts))
same_sums a b n [] f odd = refl
same_sums a b n (t ∷ ts) f odd =
    elim (cases_Bool (stays a b t)) as (λ _. total (along f) (all_edges (collapsed a b (t ∷ ts)))
    ≡ total (along f) (all_edges (map (renamed_triple (merged a b)) (t ∷ ts)))) [
      | inl y ↦
          let r = renamed_triple (merged a b) in
          let opened : collapsed a b (t ∷ ts) ≡ r t ∷ collapsed a b ts = ap (λ c. map r (cond c (t ∷ filter (stays a b) ts) (filter (stays a b) ts))) y in
          rw opened (omega (arith, ints, same_sums a b n ts f odd))
      | inr m ↦
          let r = renamed_triple (merged a b) in
          let opened : collapsed a b (t ∷ ts) ≡ collapsed a b ts = ap (λ c. map r (cond c (t ∷ filter (stays a b) ts) (filter (stays a b) ts))) m in
          rw opened (omega (arith, ints, same_sums a b n ts f odd, gone_flat a b n t m f odd, total-append (along f) (edges (r t)) (all_edges (map r ts))))
    ]

pub stays_closed : (a b : ℕ) → a ≢ b → (ts : List Triple) → IsClosed (all_edges ts) → IsClosed (all_edges (collapsed a b ts))
stays_closed a b n ts closed =
    let r = renamed_triple (merged a b) in
    closed_same (all_edges (collapsed a b ts)) (all_edges (map r ts)) (same_sums a b n ts) (closed-renamed_triples (merged a b) ts closed)
