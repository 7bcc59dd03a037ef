-- Each vertex of an outline starts one edge and ends one, and these are told by their places.
use Rattle.std.proofs.Common.{◌≡◌, ◌≢◌, ℕ, zero, suc, ◌+◌, ◌<◌, ◌==◌, cond, not, Bool, true, false, List, [], ◌∷◌, length, get_or, refl, sym, ap, subst, ◌∙◌, inl, inr, arith}
use Rattle.std.specs.Prelude.{count_by}
use Rattle.std.specs.List.{position_or_len}
use Rattle.std.proofs.lemmas.Bool.{both_ways, cases_Bool, eq-eqb, eqb-true}
use Rattle.std.proofs.lemmas.List.Elements.{Contains-get_or}
use Rattle.chain_terms.specs.Chains.{one_if}
use Rattle.chain_terms.specs.Ranks.{finish, start}
use Rattle.chain_laws.specs.Counts.{count_by-cons}
use Rattle.chain_laws.specs.Firsts.{counted}
use Rattle.outline_terms.specs.Outlines.{IsOutline, Outline, outline_edges}
use Rattle.outline_terms.proofs.Once.{IsOnce, ends_differ, outline_once}
use Rattle.cross_section.specs.Copies.{entering, leaving}

-- the place of the only member that passes
record IsOnly {X : Type 0} (p : X → Bool) (xs : List X) (d : X) (k : ℕ) : Type 0 where
  within : k < length xs
  passes : p (get_or xs k d) ≡ true
  only : (j : ℕ) → j < length xs → p (get_or xs j d) ≡ true → j ≡ k

-- it is the first one
first_only : {X : Type 0} (p : X → Bool) (x : X) (xs : List X) (d : X) → p x ≡ true → count_by p xs ≡ 0 → IsOnly p (x ∷ xs) d 0
first_only p x xs d here none = record { within = omega arith; passes = here; only = λ j low h. by j low h } where
  by : (j : ℕ) → j < length (x ∷ xs) → p (get_or (x ∷ xs) j d) ≡ true → j ≡ 0
  by zero low h = refl
  by (suc i) low h = absurd (omega (arith, none, counted p (get_or xs i d) xs (Contains-get_or xs i d (omega (arith, low))) h))

later_only : {X : Type 0} (p : X → Bool) (x : X) (xs : List X) (d : X) (k : ℕ) → p x ≡ false → IsOnly p xs d k → IsOnly p (x ∷ xs) d (suc k)
later_only p x xs d k fails r = record { within = omega (arith, r.within); passes = r.passes; only = λ j low h. by j low h } where
  by : (j : ℕ) → j < length (x ∷ xs) → p (get_or (x ∷ xs) j d) ≡ true → j ≡ suc k
  by zero low h = absurd (both_ways (p x) fails h)
  by (suc i) low h = ap suc (r.only i (omega (arith, low)) h)

one_later : (m : ℕ) → suc m ≡ 1 + m
one_later m = omega arith

only_place : {X : Type 0} (p : X → Bool) (xs : List X) (d : X) → count_by p xs ≡ 1 → IsOnly p xs d (position_or_len p xs)
only_place p [] d one = absurd (omega (arith, one))
only_place p (x ∷ xs) d one = elim (cases_Bool (p x)) as (λ _. IsOnly p (x ∷ xs) d (position_or_len p (x ∷ xs))) [
  | inl y ↦
      subst (IsOnly p (x ∷ xs) d) (sym (ap (λ b. cond (not b) (1 + position_or_len p xs) 0) y)) (first_only p x xs d y (omega (arith, one, count_by-cons p x xs, ap one_if y)))
  | inr n ↦
      let place : suc (position_or_len p xs) ≡ position_or_len p (x ∷ xs) = one_later (position_or_len p xs) ∙ sym (ap (λ b. cond (not b) (1 + position_or_len p xs) 0) n) in
      subst (IsOnly p (x ∷ xs) d) place (later_only p x xs d (position_or_len p xs) n (only_place p xs d (omega (arith, one, count_by-cons p x xs, ap one_if n))))
]

-- tests that tell each other are the same
pub same_test : (a b : Bool) → (a ≡ true → b ≡ true) → (b ≡ true → a ≡ true) → a ≡ b
same_test true b there back = sym (there refl)
same_test false true there back = back refl
same_test false false there back = refl

-- the places of a vertex: each edge starts there or not as it has the first place or not, and ends there as it has the second
pub record IsAt (es : List (ℕ × ℕ)) (v : ℕ) : Type 0 where
  pub leaves : leaving es v < length es
  pub enters : entering es v < length es
  pub from : (k : ℕ) → k < length es → (start es k == v) ≡ (leaving es v == k)
  pub to : (k : ℕ) → k < length es → (finish es k == v) ≡ (entering es v == k)
  pub apart : leaving es v ≢ entering es v

-- a number of an edge is v where the edge is at the only place
told : (number : (ℕ × ℕ) → ℕ) (es : List (ℕ × ℕ)) (v f : ℕ) → IsOnly (λ e. number e == v) es (0, 0) f → (k : ℕ) → k < length es → (number (get_or es k (0, 0)) == v) ≡ (f == k)
told number es v f is k low =
    same_test (number (get_or es k (0, 0)) == v) (f == k) (λ h. eq-eqb f k (sym (is.only k low h)))
    (λ h. ap (λ j. number (get_or es j (0, 0)) == v) (sym (eqb-true f k h)) ∙ is.passes)

at_places : (es : List (ℕ × ℕ)) (n : ℕ) → IsOnce es n → (v : ℕ) → v < n → IsAt es v
at_places es n once v low =
    let out = only_place (λ (e : ℕ × ℕ). e.0 == v) es (0, 0) (once.starts v low) in
    let into = only_place (λ (e : ℕ × ℕ). e.1 == v) es (0, 0) (once.ends v low) in
    let f = leaving es v in
    record {
      leaves = out.within;
      enters = into.within;
      from = told (λ (e : ℕ × ℕ). e.0) es v f out;
      to = told (λ (e : ℕ × ℕ). e.1) es v (entering es v) into;
      apart = λ e. ends_differ es once.none f (0, 0) out.within (eqb-true (start es f) v out.passes ∙ sym (ap (finish es) e ∙ eqb-true (finish es (entering es v)) v into.passes));
    }

-- so is each vertex of an outline
pub outline_places : (o : Outline) → IsOutline o → (v : ℕ) → v < length o.points → IsAt (outline_edges o) v
outline_places o is = at_places (outline_edges o) (length o.points) (outline_once o is)
