-- New numbers: how many used points stand before, and what they keep.
use Rattle.std.proofs.Common.{◌≡◌, ◌<◌, ◌≤◌, ◌+◌, ◌-◌, inl, inr, ℕ, zero, suc, Bool, true, false, cond, List, [], ◌∷◌, ◌++◌, length, filter, refl, sym, ◌∙◌, ap, arith}
use Rattle.std.specs.Prelude.{◌||◌}
use Rattle.std.specs.List.{All, Contains}
use Rattle.std.proofs.lemmas.Bool.{cases_lt, cases_order}
use Rattle.std.proofs.lemmas.List.{append_assoc, append-nil}
use Rattle.std.proofs.lemmas.Bool.Decides.{nat_tests}
use Rattle.std.proofs.lemmas.List.Elements.{All-contains_itself, All-weaker}
use Rattle.chain_terms.specs.Chains.{one_if}
use Rattle.chain_terms.specs.Sums.{up_from}
use Rattle.mesh_terms.specs.Meshes.{Triple, has, is_used, used_from, new_number}

-- how many of k, .., k + n - 1 pass
abbrev passing : (ℕ → Bool) → ℕ → ℕ → ℕ
passing p k n = length (filter p (up_from k n))

-- one more in front
passing_first : (p : ℕ → Bool) (k n : ℕ) → passing p k (suc n) ≡ one_if (p k) + passing p (suc k) n
passing_first p k n = by (p k)
  where
    by : (b : Bool) → length (cond b (k ∷ filter p (up_from (suc k) n)) (filter p (up_from (suc k) n))) ≡ one_if b + passing p (suc k) n
    by true = omega arith
    by false = omega arith

-- one more at the end
passing_last : (p : ℕ → Bool) (k n : ℕ) → passing p k (suc n) ≡ passing p k n + one_if (p (k + n))
passing_last p k zero = let at : k + 0 ≡ k = omega arith in omega (arith, passing_first p k zero, ap (λ m. one_if (p m)) at)
passing_last p k (suc n) =
    let at : suc k + n ≡ k + suc n = omega arith in
    omega (arith, passing_first p k (suc n), passing_first p k n, passing_last p (suc k) n, ap (λ m. one_if (p m)) at)

-- the number after v is one higher where v is used
pub new_number_next : (ts : List Triple) (v : ℕ) → new_number ts (suc v) ≡ new_number ts v + one_if (is_used ts v)
new_number_next ts v = let at : 0 + v ≡ v = omega arith in omega (arith, passing_last (is_used ts) 0 v, ap (λ m. one_if (is_used ts m)) at)

-- as many points stay as are used
pub length-used_from : {X : Type 0} (ts : List Triple) (v : ℕ) (ps : List X) → length (used_from ts v ps) ≡ passing (is_used ts) v (length ps)
length-used_from ts v [] = refl
length-used_from ts v (p ∷ ps) = omega (arith, by (is_used ts v), passing_first (is_used ts) v (length ps), length-used_from ts (suc v) ps)
  where
    by : (b : Bool) → length (cond b (p ∷ []) [] ++ used_from ts (suc v) ps) ≡ one_if b + length (used_from ts (suc v) ps)
    by true = omega arith
    by false = omega arith

-- one point more at the end
pub used_from-push : {X : Type 0} (ts : List Triple) (v : ℕ) (ps : List X) (q : X) →
    used_from ts v (ps ++ q ∷ []) ≡ used_from ts v ps ++ cond (is_used ts (v + length ps)) (q ∷ []) []
used_from-push {X} ts v [] q =
    let at : v ≡ v + 0 = omega arith in
    append-nil (cond (is_used ts v) (q ∷ []) []) ∙ ap (λ m. cond (is_used ts m) (q ∷ []) []) at
used_from-push {X} ts v (p ∷ ps) q =
    let at : suc v + length ps ≡ v + suc (length ps) = omega arith in
    let here : List X = cond (is_used ts v) (p ∷ []) [] in
    ap (λ l. here ++ l) (used_from-push ts (suc v) ps q ∙ ap (λ m. used_from ts (suc v) ps ++ cond (is_used ts m) (q ∷ []) []) at)
    ∙ sym (append_assoc here (used_from ts (suc v) ps) (cond (is_used ts (v + suc (length ps))) (q ∷ []) []))

-- numbers ascend
number_up : (ts : List Triple) (v d : ℕ) → new_number ts v ≤ new_number ts (v + d)
number_up ts v zero = let at : v + 0 ≡ v = omega arith in omega (arith, ap (new_number ts) at)
number_up ts v (suc d) =
    let at : v + suc d ≡ suc (v + d) = omega arith in
    omega (arith, number_up ts v d, new_number_next ts (v + d), ap (new_number ts) at)

-- the number of a used point is below that of each later one
pub number_below : (ts : List Triple) (u v : ℕ) → u < v → is_used ts u ≡ true → new_number ts u < new_number ts v
number_below ts u v less used =
    let at : suc u + (v - suc u) ≡ v = omega (arith, less) in
    omega (arith, new_number_next ts u, ap one_if used, number_up ts (suc u) (v - suc u), ap (new_number ts) at)

-- so used points with the same number are the same
pub number_known : (ts : List Triple) (u v : ℕ) → is_used ts u ≡ true → is_used ts v ≡ true → new_number ts u ≡ new_number ts v → u ≡ v
number_known ts u v used_u used_v same = elim (cases_order u v) as (λ _. u ≡ v) [
  | inl e ↦ e
  | inr (inl less) ↦ absurd (omega (arith, same, number_below ts u v less used_u))
  | inr (inr more) ↦ absurd (omega (arith, same, number_below ts v u more used_v))
]

-- each number below that of v is a used point's
pub record IsNumberOf (ts : List Triple) (v k : ℕ) : Type 0 where
  pub point : ℕ
  pub below : point < v
  pub used : is_used ts point ≡ true
  pub numbered : new_number ts point ≡ k

pub number_of : (ts : List Triple) (v k : ℕ) → k < new_number ts v → IsNumberOf ts v k
number_of ts zero k below = absurd (omega (arith, below))
number_of ts (suc v) k below = elim (cases_lt k (new_number ts v)) as (λ _. IsNumberOf ts (suc v) k) [
  | inl less ↦ let r = number_of ts v k less in record { point = r.point; below = omega (arith, r.below); used = r.used; numbered = r.numbered }
  | inr more ↦ last (is_used ts v) refl more
]
  where
    last : (b : Bool) → is_used ts v ≡ b → new_number ts v ≤ k → IsNumberOf ts (suc v) k
    last true used more = record { point = v; below = omega arith; used = used; numbered = omega (arith, below, more, new_number_next ts v, ap one_if used) }
    last false unused more = absurd (omega (arith, below, more, new_number_next ts v, ap one_if unused))

-- the three points of a triple are used
pub record AreUsed (ts : List Triple) (t : Triple) : Type 0 where
  pub a : is_used ts t.0 ≡ true
  pub b : is_used ts t.1 ≡ true
  pub c : is_used ts t.2 ≡ true

-- a point of a triple of the list is used
used_by : (ts : List Triple) (t : Triple) (v : ℕ) → Contains ts t → has t v ≡ true → is_used ts v ≡ true
used_by [] t v (k, below, is) it_has = absurd (omega (arith, below))
used_by (s ∷ ts) t v (zero, below, is) it_has = or_first (has s v) (is_used ts v) (ap (λ u. has u v) is ∙ it_has)
  where
    or_first : (x y : Bool) → x ≡ true → (x || y) ≡ true
    or_first x y h = grind (arith, h)
used_by (s ∷ ts) t v (suc k, below, is) it_has = or_second (has s v) (is_used ts v) (used_by ts t v (k, omega (arith, below), is) it_has)
  where
    or_second : (x y : Bool) → y ≡ true → (x || y) ≡ true
    or_second x y h = grind (arith, h)

-- each triple's are
pub all_used : (ts : List Triple) → All (AreUsed ts) ts
all_used ts = All-weaker (Contains ts) (AreUsed ts) each ts (All-contains_itself ts)
  where
    has_a : (t : Triple) → has t t.0 ≡ true
    has_a t = grind (arith, nat_tests)

    has_b : (t : Triple) → has t t.1 ≡ true
    has_b t = grind (arith, nat_tests)

    has_c : (t : Triple) → has t t.2 ≡ true
    has_c t = grind (arith, nat_tests)

    each : (t : Triple) → Contains ts t → AreUsed ts t
    each t inside = record { a = used_by ts t t.0 inside (has_a t); b = used_by ts t t.1 inside (has_b t); c = used_by ts t t.2 inside (has_c t) }
