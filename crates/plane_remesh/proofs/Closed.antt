-- Triangles are closed exactly where they are with the new numbers of their places.
use Rattle.std.proofs.Common.{◌≡◌, ◌<◌, ◌≤◌, ◌∙◌, ℕ, zero, suc, true, List, [], ◌∷◌, ap, arith, inl, inr, map, refl, sym}
use Rattle.std.specs.Prelude.{◌==◌, ◌&&◌}
use Rattle.std.specs.List.{All}
use Rattle.std.proofs.lemmas.Bool.{cases_eq, eq-eqb, eqb-true, ne_eqb}
use Rattle.std.proofs.lemmas.List.Elements.{All-cons, All-contains, All-head, All-nil, All-tail}
use Rattle.std.proofs.lemmas.List.Sums.{AllPass-from_list_all, list_all-from_AllPass}
use Rattle.chain_terms.specs.Chains.{IsClosed, all_edges, dir, is_edge, one_if}
use Rattle.chain_laws.specs.Chains.{dir_contains, renamed}
use Rattle.chain_laws.specs.Triples.{all_edges-renamed, closed-renamed_triples}
use Rattle.halfedge.proofs.OpenPair.{closed_from_none}
use Rattle.mesh_terms.specs.Meshes.{Triple, is_used, new_number, renumbered}
use Rattle.sheet_terms.specs.Remesh.{is_closed}
use Rattle.unused_points.proofs.Numbers.{AreUsed, all_used, number_known}

-- the test says it
pub closed_tested : (es : List (ℕ × ℕ)) → IsClosed es → is_closed es ≡ true
closed_tested es closed =
    list_all-from_AllPass (λ (e : ℕ × ℕ). dir es e.0 e.1 == dir es e.1 e.0) es (λ k d low. eq-eqb _ _ (closed _ _))

-- edges that run as often as their reverses, where there are some, are closed
closed_where : (es : List (ℕ × ℕ)) → ((a b : ℕ) → 0 < dir es a b → dir es a b ≡ dir es b a) → IsClosed es
closed_where es same = closed_from_none es (λ a b. by a b (dir es a b) refl)
  where
    by : (a b n : ℕ) → dir es a b ≡ n → dir es a b ≤ dir es b a
    by a b zero is = omega (arith, is)
    by a b (suc n) is = omega (arith, same a b (omega (arith, is)))

pub tested_closed : (es : List (ℕ × ℕ)) → is_closed es ≡ true → IsClosed es
tested_closed es pass =
    closed_where es
    (λ a b some. eqb-true (dir es a b) (dir es b a)
    (All-contains (λ (e : ℕ × ℕ). (dir es e.0 e.1 == dir es e.1 e.0) ≡ true) es (a, b)
    (AllPass-from_list_all (λ (e : ℕ × ℕ). dir es e.0 e.1 == dir es e.1 e.0) es pass) (dir_contains es a b some)))

-- both ends of an edge are places of triangles
abbrev BothUsed : List Triple → (ℕ × ℕ) → Type 0
BothUsed ts e = (is_used ts e.0 ≡ true) × (is_used ts e.1 ≡ true)

ends_used : (ts us : List Triple) → All (AreUsed ts) us → All (BothUsed ts) (all_edges us)
ends_used ts [] used = All-nil (BothUsed ts)
ends_used ts (t ∷ us) used =
    let one = All-head (AreUsed ts) t us used in
    let rest = ends_used ts us (All-tail (AreUsed ts) t us used) in
    All-cons (BothUsed ts) (t.0, t.1) ((t.1, t.2) ∷ (t.2, t.0) ∷ all_edges us) (one.a, one.b)
    (All-cons (BothUsed ts) (t.1, t.2) ((t.2, t.0) ∷ all_edges us) (one.b, one.c) (All-cons (BothUsed ts) (t.2, t.0) (all_edges us) (one.c, one.a) rest))

-- used places are the same where their numbers are
same_number : (ts : List Triple) (u v : ℕ) → is_used ts u ≡ true → is_used ts v ≡ true → (new_number ts u == new_number ts v) ≡ (u == v)
same_number ts u v used_u used_v = elim (cases_eq u v) as (λ _. (new_number ts u == new_number ts v) ≡ (u == v)) [
  | inl e ↦ eq-eqb (new_number ts u) (new_number ts v) (ap (new_number ts) e) ∙ sym (eq-eqb u v e)
  | inr n ↦ ne_eqb (new_number ts u) (new_number ts v) (λ e. n (number_known ts u v used_u used_v e)) ∙ sym (ne_eqb u v n)
]

-- so as many edges run between two of them
numbered_often : (ts : List Triple) (es : List (ℕ × ℕ)) → All (BothUsed ts) es → (x y : ℕ) → is_used ts x ≡ true → is_used ts y ≡ true →
    dir (map (renamed (new_number ts)) es) (new_number ts x) (new_number ts y) ≡ dir es x y
numbered_often ts [] all x y p q = refl
numbered_often ts (e ∷ es) all x y p q =
    let both = All-head (BothUsed ts) e es all in
    let s = same_number ts e.0 x both.0 p in
    let t = same_number ts e.1 y both.1 q in
    let here : is_edge (renamed (new_number ts) e) (new_number ts x) (new_number ts y) ≡ is_edge e x y = λ i. s i && t i in
    omega (arith, ap one_if here, numbered_often ts es (All-tail (BothUsed ts) e es all) x y p q)

-- closed with the new numbers, so closed
pub closed_before : (ts : List Triple) → IsClosed (all_edges (renumbered ts)) → IsClosed (all_edges ts)
closed_before ts closed =
    let es = all_edges ts in
    let r = new_number ts in
    let used = ends_used ts ts (all_used ts) in
    closed_where es
    (λ a b some.
    let both = All-contains (BothUsed ts) es (a, b) used (dir_contains es a b some) in
    sym (numbered_often ts es used a b both.0 both.1) ∙ (λ i. dir (sym (all_edges-renamed r ts) i) (r a) (r b)) ∙ closed (r a) (r b)
    ∙ (λ i. dir (all_edges-renamed r ts i) (r b) (r a)) ∙ numbered_often ts es used b a both.1 both.0)

pub closed_after : (ts : List Triple) → IsClosed (all_edges ts) → IsClosed (all_edges (renumbered ts))
closed_after ts closed = closed-renamed_triples (new_number ts) ts closed
