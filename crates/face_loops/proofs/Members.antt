-- Members of joined and of paired lists: each segment runs from a start to an end of one list.
use Rattle.std.proofs.Common.{◌≡◌, ℕ, zero, suc, ◌<◌, Bool, true, ℤ, pos, List, [], ◌∷◌, filter, get_or, int_lt, refl, arith, ap, sym, subst, inl, inr, ◌∙◌}
use Rattle.std.specs.List.{All, Contains, flat_map, zip}
use Rattle.std.proofs.lemmas.List.{get_or_default}
use Rattle.std.proofs.lemmas.List.Elements.{Contains-get_or, Contains-append_cases, Contains-append_left, Contains-append_right}
use Rattle.std.proofs.lemmas.List.Sorted.{Contains-permutation, IsPermutation-sym}
use Rattle.chain_terms.specs.Sums.{upto}
use Rattle.chain_laws.specs.Sorting.{sorted_by}
use Rattle.chain_laws.proofs.Ascending.{contains_later, kept_at}
use Rattle.edge_pairing.specs.Pairing.{comes_before, pair_up}
use Rattle.edge_pairing.proofs.Ordered.{sorted_moved}
use Rattle.face_loops.specs.Standings.{ends_in, segments_in, segments_of, starts_in}

-- a list of the joined ones that has the member
pub record FoundIn {X Y : Type 0} (h : X → List Y) (xs : List X) (y : Y) : Type 0 where
  pub from : X
  pub listed : Contains xs from
  pub inside : Contains (h from) y

pub in_some : {X Y : Type 0} (h : X → List Y) (xs : List X) (y : Y) → Contains (flat_map h xs) y → FoundIn h xs y
in_some h [] y (k, l, e) = absurd (omega (arith, l))
in_some h (x ∷ xs) y c = elim (Contains-append_cases (h x) (flat_map h xs) y c) as (λ _. FoundIn h (x ∷ xs) y) [
  | inl a ↦ record { from = x; listed = (0, omega arith, refl); inside = a }
  | inr b ↦ let r = in_some h xs y b in record { from = r.from; listed = contains_later r.from x xs r.listed; inside = r.inside }
]

-- and back
pub in_all : {X Y : Type 0} (h : X → List Y) (xs : List X) (x : X) (y : Y) → Contains xs x → Contains (h x) y → Contains (flat_map h xs) y
in_all h [] x y (k, l, e) c = absurd (omega (arith, l))
in_all h (z ∷ xs) x y (zero, l, e) c = Contains-append_left (h z) (flat_map h xs) y (subst (λ w. Contains (h w) y) (sym e) c)
in_all h (z ∷ xs) x y (suc k, l, e) c = Contains-append_right (h z) (flat_map h xs) y (in_all h xs x y (k, omega (arith, l), e) c)

-- the two parts of a pair
pub record BothIn (xs ys : List ℕ) (e : ℕ × ℕ) : Type 0 where
  pub first : Contains xs e.0
  pub second : Contains ys e.1

in_zip : (xs ys : List ℕ) (e : ℕ × ℕ) → Contains (zip xs ys) e → BothIn xs ys e
in_zip [] ys e (k, l, q) = absurd (omega (arith, l))
in_zip (x ∷ xs) [] e (k, l, q) = absurd (omega (arith, l))
in_zip (x ∷ xs) (y ∷ ys) e (zero, l, q) = record { first = (0, omega arith, ap (λ (d : ℕ × ℕ). d.0) q); second = (0, omega arith, ap (λ (d : ℕ × ℕ). d.1) q) }
in_zip (x ∷ xs) (y ∷ ys) e (suc k, l, q) =
    let r = in_zip xs ys e (k, omega (arith, l), q) in record { first = contains_later e.0 x xs r.first; second = contains_later e.1 y ys r.second }

in_pairs : (key : ℕ → ℤ) (from to : List ℕ) (e : ℕ × ℕ) → Contains (pair_up key from to) e → BothIn from to e
in_pairs key from to e c =
    let ss = sorted_by (comes_before key) from in
    let ts = sorted_by (comes_before key) to in
    let r = in_zip ss ts e c in
    record {
      first = Contains-permutation ss from e.0 (IsPermutation-sym from ss (sorted_moved key from)) r.first;
      second = Contains-permutation ts to e.1 (IsPermutation-sym to ts (sorted_moved key to)) r.second;
    }

-- a number that passes
record Passed (test : ℕ → Bool) (n v : ℕ) : Type 0 where
  below : v < n
  passes : test v ≡ true

in_filter : (test : ℕ → Bool) (n v : ℕ) → Contains (filter test (upto n)) v → Passed test n v
in_filter test n v (i, l, e) =
    let r = kept_at test 0 n i l in
    let same : get_or (filter test (upto n)) i 0 ≡ v = sym (get_or_default (filter test (upto n)) i v 0 l) ∙ e in
    record { below = omega (arith, r.high, same); passes = ap test (sym same) ∙ r.passes }

-- a segment of a list: from a start to an end
pub record Joins {X : Type 0} (stand : X → ℕ → ℤ) (n : ℕ) (x : X) (e : ℕ × ℕ) : Type 0 where
  pub from_below : e.0 < n
  pub to_below : e.1 < n
  pub from_start : int_lt (pos 0) (stand x e.0) ≡ true
  pub to_end : int_lt (stand x e.1) (pos 0) ≡ true

pub segment_joins : {X : Type 0} (stand key : X → ℕ → ℤ) (n : ℕ) (x : X) (e : ℕ × ℕ) → Contains (segments_in stand key n x) e → Joins stand n x e
segment_joins stand key n x e c =
    let r = in_pairs (key x) (starts_in stand n x) (ends_in stand n x) e c in
    let s = in_filter (λ v. int_lt (pos 0) (stand x v)) n e.0 r.first in
    let t = in_filter (λ v. int_lt (stand x v) (pos 0)) n e.1 r.second in
    record { from_below = s.below; to_below = t.below; from_start = s.passes; to_end = t.passes }

-- so all segments run between numbers below n
pub join_below : {X : Type 0} (stand key : X → ℕ → ℤ) (n : ℕ) (xs : List X) → All (λ e. (e.0 < n) × (e.1 < n)) (segments_of stand key n xs)
join_below stand key n xs k d below =
    let es = segments_of stand key n xs in
    let e = get_or es k d in
    let found = in_some (segments_in stand key n) xs e (Contains-get_or es k d below) in
    let joins = segment_joins stand key n found.from e found.inside in (joins.from_below, joins.to_below)
