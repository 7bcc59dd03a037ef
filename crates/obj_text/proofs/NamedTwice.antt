-- A vertex that is named twice, in lists that ascend and in any order.
use Rattle.std.proofs.Common.{◌≡◌, ℕ, zero, suc, ◌+◌, ◌<◌, ◌≤◌, Bool, true, false, cond, List, [], ◌∷◌, length, get_or, refl, sym, arith}
use Rattle.std.specs.Prelude.{◌==◌, ◌||◌, sum_by, IsPermutation}
use Rattle.std.specs.List.{list_any}
use Rattle.std.proofs.lemmas.Bool.Decides.{nat_tests}
use Rattle.std.proofs.lemmas.List.Sorted.{sum_by-IsPermutation}
use Rattle.std.proofs.lemmas.List.Sums.{sum_by-cons}
use Rattle.format_terms.specs.ObjFaces.{has_repeat}

-- one of two tests passed
or_first : (a b : Bool) → a ≡ true → (a || b) ≡ true
or_first a b e = grind arith

or_second : (a b : Bool) → b ≡ true → (a || b) ≡ true
or_second a b e = grind arith

or_none : (a b : Bool) → a ≡ false → b ≡ false → (a || b) ≡ false
or_none a b e f = grind arith

-- a vertex next to itself is there twice
pub has_repeat-next : (vs : List ℕ) (k : ℕ) → suc k < length vs → get_or vs k 0 ≡ get_or vs (suc k) 0 → has_repeat vs ≡ true
has_repeat-next [] k inside same = absurd (omega arith)
has_repeat-next (v ∷ []) k inside same = absurd (omega arith)
has_repeat-next (v ∷ w ∷ vs) zero inside same =
    or_first (list_any (λ u. u == v) (w ∷ vs)) (has_repeat (w ∷ vs)) (or_first (w == v) (list_any (λ u. u == v) vs) (grind (arith, nat_tests, same)))
has_repeat-next (v ∷ w ∷ vs) (suc k) inside same =
    or_second (list_any (λ u. u == v) (w ∷ vs)) (has_repeat (w ∷ vs)) (has_repeat-next (w ∷ vs) k (omega arith) same)

-- each is below the next
abbrev pub Climbs : List ℕ → Type 0
Climbs vs = (k : ℕ) → suc k < length vs → get_or vs k 0 < get_or vs (suc k) 0

-- so the later ones are above the first
above_first : (v : ℕ) (vs : List ℕ) → Climbs (v ∷ vs) → (k : ℕ) → k < length vs → v < get_or vs k 0
above_first v vs climbs zero inside = climbs 0 (omega arith)
above_first v vs climbs (suc k) inside = omega (arith, above_first v vs climbs k (omega arith), climbs (suc k) (omega arith))

-- and are not the first
none_equal : (v : ℕ) (vs : List ℕ) → ((k : ℕ) → k < length vs → v < get_or vs k 0) → list_any (λ u. u == v) vs ≡ false
none_equal v [] above = refl
none_equal v (w ∷ vs) above =
    let more = above 0 (omega arith) in
    or_none (w == v) (list_any (λ u. u == v) vs) (grind (arith, nat_tests, more)) (none_equal v vs (λ k h. above (suc k) (omega arith)))

-- so no vertex is there twice
pub has_repeat-climbs : (vs : List ℕ) → Climbs vs → has_repeat vs ≡ false
has_repeat-climbs [] climbs = refl
has_repeat-climbs (v ∷ vs) climbs =
    or_none (list_any (λ u. u == v) vs) (has_repeat vs) (none_equal v vs (above_first v vs climbs)) (has_repeat-climbs vs (λ k h. climbs (suc k) (omega arith)))

-- how often a vertex is there
is_it : ℕ → ℕ → ℕ
is_it v u = cond (u == v) 1 0

times : ℕ → List ℕ → ℕ
times v vs = sum_by (is_it v) vs

times-none : (v : ℕ) → times v [] ≡ 0
unfolding times
times-none v = refl

times-cons : (v u : ℕ) (vs : List ℕ) → times v (u ∷ vs) ≡ is_it v u + times v vs
unfolding times
times-cons v u vs = sum_by-cons (is_it v) u vs

is_it-same : (v u : ℕ) → (u == v) ≡ true → is_it v u ≡ 1
unfolding is_it
is_it-same v u e = rw e refl

is_it-other : (v u : ℕ) → (u == v) ≡ false → is_it v u ≡ 0
unfolding is_it
is_it-other v u e = rw e refl

-- a vertex among others is there once or more
times-among : (v : ℕ) (vs : List ℕ) → list_any (λ u. u == v) vs ≡ true → 1 ≤ times v vs
times-among v [] e = absurd (cc)
times-among v (u ∷ vs) e = by_test (u == v) refl e (times-among v vs) where
  by_test : (b : Bool) → (u == v) ≡ b → (b || list_any (λ w. w == v) vs) ≡ true → (list_any (λ w. w == v) vs ≡ true → 1 ≤ times v vs) → 1 ≤ times v (u ∷ vs)
  by_test true f e later = omega (arith, times-cons v u vs, is_it-same v u f)
  by_test false f e later = omega (arith, times-cons v u vs, later e)

-- and one that is there once or more is among them
among-times : (v : ℕ) (vs : List ℕ) → 1 ≤ times v vs → list_any (λ u. u == v) vs ≡ true
among-times v [] more = absurd (omega (arith, more, times-none v))
among-times v (u ∷ vs) more = by_test (u == v) refl (among-times v vs) where
  by_test : (b : Bool) → (u == v) ≡ b → (1 ≤ times v vs → list_any (λ w. w == v) vs ≡ true) → (b || list_any (λ w. w == v) vs) ≡ true
  by_test true f later = refl
  by_test false f later = later (omega (arith, more, times-cons v u vs, is_it-other v u f))

-- a repeat is a vertex that is there twice or more
twice_of : (vs : List ℕ) → has_repeat vs ≡ true → (v : ℕ) × (2 ≤ times v vs)
twice_of [] e = absurd (cc)
twice_of (u ∷ vs) e = by_test (list_any (λ w. w == u) vs) refl e (twice_of vs) where
  by_test : (b : Bool) → list_any (λ w. w == u) vs ≡ b → (b || has_repeat vs) ≡ true → (has_repeat vs ≡ true → (v : ℕ) × (2 ≤ times v vs)) → (v : ℕ) × (2 ≤ times v (u ∷ vs))
  by_test true f e later = (u, omega (arith, times-cons u u vs, is_it-same u u (grind (arith, nat_tests)), times-among u vs f))
  by_test false f e later = let t = later e in (t.0, omega (arith, t.1, times-cons t.0 u vs))

-- and such a vertex is a repeat
repeat_of : (vs : List ℕ) (v : ℕ) → 2 ≤ times v vs → has_repeat vs ≡ true
repeat_of [] v twice = absurd (omega (arith, twice, times-none v))
repeat_of (u ∷ vs) v twice = by_test (u == v) refl (repeat_of vs v) where
  by_test : (b : Bool) → (u == v) ≡ b → (2 ≤ times v vs → has_repeat vs ≡ true) → (list_any (λ w. w == u) vs || has_repeat vs) ≡ true
  by_test true f later =
      let same : u ≡ v = grind (arith, nat_tests, f) in
      let more : 1 ≤ times u vs = rw same (omega (arith, twice, times-cons v u vs, is_it-same v u f)) in
      or_first (list_any (λ w. w == u) vs) (has_repeat vs) (among-times u vs more)
  by_test false f later = or_second (list_any (λ w. w == u) vs) (has_repeat vs) (later (omega (arith, twice, times-cons v u vs, is_it-other v u f)))

-- two tests that pass together are the same
same_test : (a b : Bool) → (a ≡ true → b ≡ true) → (b ≡ true → a ≡ true) → a ≡ b
same_test true b to from = sym (to refl)
same_test false true to from = from refl
same_test false false to from = refl

times-permutation : (v : ℕ) (us vs : List ℕ) → IsPermutation us vs → times v vs ≡ times v us
unfolding times
times-permutation v us vs p = sum_by-IsPermutation (is_it v) us vs p

-- the order of the vertices does not count
pub has_repeat-permutation : (us vs : List ℕ) → IsPermutation us vs → has_repeat vs ≡ has_repeat us
has_repeat-permutation us vs p =
    same_test (has_repeat vs) (has_repeat us)
    (λ e. let t = twice_of vs e in repeat_of us t.0 (omega (arith, t.1, times-permutation t.0 us vs p)))
    (λ e. let t = twice_of us e in repeat_of vs t.0 (omega (arith, t.1, times-permutation t.0 us vs p)))
