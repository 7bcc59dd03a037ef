-- The least half-edge in doubt: it is the least that can be collapsed, or it need not be in doubt.
use Rattle.std.proofs.Common.{◌≡◌, ℕ, zero, suc, ◌*◌, ◌<◌, ◌≤◌, ◌⊎◌, inl, inr, Bool, true, false, ℤ, List, [], ◌∷◌, ◌++◌, length, sym, ap, subst, ◌∙◌, arith}
use Rattle.std.specs.Prelude.{cond, min}
use Rattle.std.specs.List.{All, Contains}
use Rattle.std.proofs.lemmas.Bool.{both_ways, cases_lt, cases_order}
use Rattle.std.proofs.lemmas.Bool.Decides.{Decides-ltb}
use Rattle.std.proofs.lemmas.List.Elements.{All-cons, All-contains, All-head, All-nil, All-tail}
use Rattle.std.proofs.lemmas.List.Sums.{fails_before_first}
use Rattle.chain_terms.specs.Sums.{upto}
use Rattle.halfedge.proofs.Edges.{length-all_edges}
use Rattle.mesh_check.specs.Reduced.{picked}
use Rattle.mesh_terms.specs.Meshes.{IsBelow, Triple}
use Rattle.tidy_terms.specs.Collapsible.{is_collapsible, least_collapsible}
use Rattle.tidy_laws.proofs.Tidying.{AreGood, at_upto, least_can}
use Rattle.tidy_laws.proofs.Turned.{collapsible_turned}
use Rattle.mesh_tidy.specs.Doubts.{AreDoubted, HasLesser}
use Rattle.mesh_tidy.specs.TidySurface.{TidySurface, Has, IsKept, IsSurface, IsTwin, left_of, number_of}
use Rattle.mesh_tidy.proofs.Left.{Before, before, number_below, number_order}

-- the lesser of two is one of them, and not above the first
pub lesser_is : (x y : ℕ) → (min x y ≡ x) ⊎ (min x y ≡ y)
lesser_is x y = elim (cases_lt x y) as (λ _. (min x y ≡ x) ⊎ (min x y ≡ y)) [
  | inl l ↦ inl (omega (arith, l))
  | inr l ↦ inr (omega (arith, l))
]

lesser_low : (x y : ℕ) → min x y ≤ x
lesser_low x y = omega arith

-- what all have those with a mark have
pub all_picked : {X : Type 0} (P : X → Type 0) (ms : List Bool) (xs : List X) → All P xs → All P (picked ms xs)
all_picked P [] xs all = All-nil P
all_picked P (m ∷ ms) [] all = All-nil P
all_picked {X} P (m ∷ ms) (x ∷ xs) all = by m (all_picked P ms xs (All-tail P x xs all)) where
  by : (b : Bool) → All P (picked ms xs) → All P (cond b (x ∷ []) [] ++ picked ms xs)
  by true rest = All-cons P x (picked ms xs) (All-head P x xs all) rest
  by false rest = rest

-- what is left is good
pub kept_good : (s : TidySurface) (twins : List ℕ) (stars : List (List ℕ)) (n : ℕ) → s.vertices ≡ n → IsKept s twins stars → AreGood n (left_of s)
kept_good s twins stars n e kept = record {
  three = kept.three;
  closed = kept.closed;
  below = all_picked (IsBelow n) s.left s.triples (subst (λ k. All (IsBelow k) s.triples) e kept.below);
}

pub surface_good : (s : TidySurface) (n : ℕ) → s.vertices ≡ n → IsSurface s → AreGood n (left_of s)
surface_good s n e whole = record {
  three = whole.three;
  closed = whole.closed;
  below = all_picked (IsBelow n) s.left s.triples (subst (λ k. All (IsBelow k) s.triples) e whole.below);
}

module _ (points : List (List ℤ)) (each : All (λ p. length p ≡ 3) points) (s : TidySurface) (marks : length s.left ≡ length s.triples)
    (good : AreGood (length points) (left_of s)) (k : ℕ) (rest : List ℕ) (all : AreDoubted points s (k ∷ rest)) where
  abbrev pub ts : List Triple
  ts = left_of s

  low_number : (h : ℕ) → Has s h → number_of s h < 3 * length ts
  low_number h has = omega (arith, number_below s.left s.triples h has, length-all_edges ts)

  -- a half-edge whose lesser is k can be collapsed only where k can
  turned : (h : ℕ) → Has s h → is_collapsible points ts (number_of s h) ≡ true → (k ≡ h) ⊎ IsTwin s h k → Has s k × (is_collapsible points ts (number_of s k) ≡ true)
  turned h has can (inl e) = (subst (Has s) (sym e) has, ap (λ w. is_collapsible points ts (number_of s w)) e ∙ can)
  turned h has can (inr t) = (t.there, ap (is_collapsible points ts) (sym t.is) ∙ collapsible_turned points ts good (number_of s h) (low_number h has) can)

  -- where k is gone or cannot, the others are enough
  pub others_doubted : (Has s k → is_collapsible points ts (number_of s k) ≡ true → ⊥) → AreDoubted points s rest
  others_doubted not h has can = by (all h has can) where
    by : HasLesser s (k ∷ rest) h → HasLesser s rest h
    by l = inside l.among where
      one : k ≡ min h l.other → (k ≡ h) ⊎ IsTwin s h k
      one e = elim (lesser_is h l.other) as (λ _. (k ≡ h) ⊎ IsTwin s h k) [
        | inl m ↦ inl (e ∙ m)
        | inr m ↦ inr (subst (IsTwin s h) (sym (e ∙ m)) l.pair)
      ]

      inside : Contains (k ∷ rest) (min h l.other) → HasLesser s rest h
      inside (zero, low, is) = let t = turned h has can (one is) in absurd (not t.0 t.1)
      inside (suc i, low, is) = record { other = l.other; pair = l.pair; among = (i, omega (arith, low), is) }

  -- where it can, it is the least that can
  pub least_is : Has s k → is_collapsible points ts (number_of s k) ≡ true → All (λ x. k ≤ x) (k ∷ rest) → least_collapsible points ts ≡ number_of s k
  least_is has can least = by (cases_order (least_collapsible points ts) (number_of s k)) where
    m : ℕ
    m = least_collapsible points ts

    p : ℕ → Bool
    p = is_collapsible points ts

    number_low : number_of s k < 3 * length ts
    number_low = low_number k has

    -- an earlier one would have a lesser in doubt
    not_less : m < number_of s k → ⊥
    not_less less = omega (arith, lesser_low b.half l.other, All-contains (λ x. k ≤ x) (k ∷ rest) (min b.half l.other) least l.among, order) where
      there : (m < 3 * length ts) × (p m ≡ true)
      there = least_can points each ts ((Decides-ltb m (3 * length ts)).1 (omega (arith, less, number_low)))

      b : Before s.left s.triples m
      b = before s.left s.triples m (omega (arith, there.0, length-all_edges ts))

      l : HasLesser s (k ∷ rest) b.half
      l = all b.half b.marked (ap p b.is ∙ there.1)

      order : b.half < k
      order = number_order s.left s.triples marks b.half k b.marked has (omega (arith, b.is, less))

    not_more : number_of s k < m → ⊥
    not_more more =
        both_ways (p (number_of s k)) (ap p (sym (at_upto (3 * length ts) (number_of s k) 0 number_low)) ∙ fails_before_first p (upto (3 * length ts)) (number_of s k) 0 more) can

    by : (m ≡ number_of s k) ⊎ ((m < number_of s k) ⊎ (number_of s k < m)) → m ≡ number_of s k
    by (inl e) = e
    by (inr (inl less)) = absurd (not_less less)
    by (inr (inr more)) = absurd (not_more more)
