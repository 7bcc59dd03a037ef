-- The edges of a walk by its indices, and the least of them.
use Rattle.std.specs.Prelude.{◌≡◌, ℕ, zero, suc, ◌+◌, ◌<◌, ◌≤◌, List, [], ◌∷◌, Bool, true, false, not, length, get_or}
use Rattle.std.specs.List.{position_or_len}
use Rattle.std.proofs.Common.{arith, refl, sym, ap, ◌∙◌, inl, inr}
use Rattle.std.proofs.lemmas.Bool.{cases_lt}
use Rattle.std.proofs.lemmas.List.{get_or_append_left, get_or_at, get_or_default}
use Rattle.std.proofs.lemmas.Bool.Decides.{nat_tests}
use Rattle.std.proofs.lemmas.List.Folds.{list_all_at}
use Rattle.std.proofs.lemmas.List.Sums.{position_or_len_is, list_all-from_AllPass}
use Rattle.chain_terms.specs.Paths.{last_of, path, round_edges}
use Rattle.chain_laws.proofs.Paths.{length-path}
use Rattle.face_plane.specs.Rings.{vertex_after, vertex_at}
use Rattle.mesh_terms.specs.OpenEdges.{is_lesser}
use Rattle.ring_cutting.proofs.Turned.{at_round, at_within, get_or-last}
use Rattle.sheet_terms.specs.Filled.{is_least_edge}

-- the edges along a list of places
path_at : (x : ℕ) (r : List ℕ) (i : ℕ) (d : ℕ × ℕ) → i < length r → get_or (path x r) i d ≡ (get_or (x ∷ r) i 0, get_or r i 0)
path_at x [] i d h = absurd (omega (arith, h))
path_at x (y ∷ r) zero d h = refl
path_at x (y ∷ r) (suc i) d h = path_at y r i d (omega (arith, h))

-- edge i of a walk leads from its place i to the next
pub edge_at : (walk : List ℕ) (i : ℕ) (d : ℕ × ℕ) → i < length walk → get_or (round_edges walk) i d ≡ (vertex_at walk i, vertex_after walk i)
edge_at [] i d h = absurd (omega (arith, h))
edge_at (x ∷ r) i d h = elim (cases_lt i (length r)) as (λ _. get_or (round_edges (x ∷ r)) i d ≡ (vertex_at (x ∷ r) i, vertex_after (x ∷ r) i)) [
  | inl low ↦
      let from = at_within (x ∷ r) i h in
      let more : i + 1 ≡ suc i = omega arith in
      let to = at_within (x ∷ r) (i + 1) (omega (arith, low)) ∙ ap (λ k. get_or (x ∷ r) k 0) more in
      get_or_append_left (path x r) ((last_of x r, x) ∷ []) d i (omega (arith, low, length-path x r)) ∙ path_at x r i d low
      ∙ sym (λ j. (from j, to j))
  | inr end ↦
      let last : i ≡ length r = omega (arith, h, end) in
      let from = at_within (x ∷ r) i h ∙ ap (λ k. get_or (x ∷ r) k 0) last ∙ get_or-last x r in
      let round : i + 1 ≡ 0 + length (x ∷ r) = omega (arith, last) in
      let to : vertex_after (x ∷ r) i ≡ x = ap (vertex_at (x ∷ r)) round ∙ at_round (x ∷ r) 0 (omega arith) in
      get_or_at (path x r) (last_of x r, x) [] d i (omega (arith, last, length-path x r)) ∙ sym (λ j. (from j, to j))
]

-- what is less than an edge is less than what isn't less than that
lesser_chain : (a b c d e f : ℕ) → is_lesser (a, b) (c, d) ≡ true → is_lesser (e, f) (c, d) ≡ false → is_lesser (a, b) (e, f) ≡ true
lesser_chain a b c d e f h k = grind (arith, nat_tests)

lesser_back : (a b c d : ℕ) → is_lesser (a, b) (c, d) ≡ true → is_lesser (c, d) (a, b) ≡ false
lesser_back a b c d h = grind (arith, nat_tests)

lesser_self : (a b : ℕ) → is_lesser (a, b) (a, b) ≡ false
lesser_self a b = grind (arith, nat_tests)

-- the least of the first edges of a list, and none of the same before it
pub record IsLeastOf (es : List (ℕ × ℕ)) (i least : ℕ) : Type 0 where
  pub within : least ≤ i
  pub inside : 0 < i → least < i
  pub none : (k : ℕ) → k < i → is_lesser (get_or es k (0, 0)) (get_or es least (0, 0)) ≡ false
  pub before : (k : ℕ) → k < least → is_lesser (get_or es least (0, 0)) (get_or es k (0, 0)) ≡ true

pub no_least : (es : List (ℕ × ℕ)) → IsLeastOf es 0 0
no_least es = record {
  within = omega arith;
  inside = λ h. absurd (omega (arith, h));
  none = λ k h. absurd (omega (arith, h));
  before = λ k h. absurd (omega (arith, h));
}

-- one edge more that is less
pub less_more : (es : List (ℕ × ℕ)) (i least : ℕ) → IsLeastOf es i least → is_lesser (get_or es i (0, 0)) (get_or es least (0, 0)) ≡ true → IsLeastOf es (i + 1) i
less_more es i least h less =
    let e : ℕ → ℕ × ℕ = λ k. get_or es k (0, 0) in
    let before : (k : ℕ) → k < i → is_lesser (e i) (e k) ≡ true = λ k low. lesser_chain (e i).0 (e i).1 (e least).0 (e least).1 (e k).0 (e k).1 less (h.none k low) in
    record {
      within = omega arith;
      inside = λ some. omega arith;
      none = λ k low. elim (cases_lt k i) as (λ _. is_lesser (e k) (e i) ≡ false) [
        | inl l ↦ lesser_back (e i).0 (e i).1 (e k).0 (e k).1 (before k l)
        | inr l ↦ let same : k ≡ i = omega (arith, low, l) in ap (λ j. is_lesser (e j) (e i)) same ∙ lesser_self (e i).0 (e i).1
      ];
      before = before;
    }

-- and one that is not
pub not_less_more : (es : List (ℕ × ℕ)) (i least : ℕ) → IsLeastOf es i least → is_lesser (get_or es i (0, 0)) (get_or es least (0, 0)) ≡ false → IsLeastOf es (i + 1) least
not_less_more es i least h other =
    let e : ℕ → ℕ × ℕ = λ k. get_or es k (0, 0) in
    record {
      within = omega (arith, h.within);
      inside = λ some. omega (arith, h.within);
      none = λ k low. elim (cases_lt k i) as (λ _. is_lesser (e k) (e least) ≡ false) [
        | inl l ↦ h.none k l
        | inr l ↦ let same : k ≡ i = omega (arith, low, l) in ap (λ j. is_lesser (e j) (e least)) same ∙ other
      ];
      before = h.before;
    }

-- of all edges it is the first that is least
pub least_of_all : (es : List (ℕ × ℕ)) (least : ℕ) → IsLeastOf es (length es) least → least ≡ position_or_len (is_least_edge es) es
least_of_all es least h =
    let e : ℕ → ℕ × ℕ = λ k. get_or es k (0, 0) in
    let test : (ℕ × ℕ) → (ℕ × ℕ) → Bool = λ f d. not (is_lesser d f) in
    sym (position_or_len_is (is_least_edge es) es least (0, 0) h.within
    (λ k low. list_all_at (test (e k)) es least (0, 0) (omega (arith, h.inside (omega (arith, h.within, low))))
    (ap not (h.before k low)))
    (λ inside. list_all-from_AllPass (test (e least)) es (λ k d low. ap (λ f. not (is_lesser f (e least))) (get_or_default es k d (0, 0) low) ∙ ap not (h.none k low))))
