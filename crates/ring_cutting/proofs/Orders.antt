-- Sets of numbers.
use Rattle.std.specs.Prelude.{◌≡◌, ◌≢◌, ℕ, List, [], ◌∷◌, true, false, nat_lt, length}
use Rattle.std.specs.Ordering.{nat_cmp, is_eq}
use Rattle.std.specs.BTreeSet.{BTreeSet, contains, btree_set_len}
use Rattle.std.proofs.Common.{arith, refl, sym, subst, ap, ◌∙◌, inl, inr}
use Rattle.std.proofs.lemmas.Bool.{cases_Bool, cases_eq, ne_eqb, both_ways}

-- different numbers are not equal
pub apart_cmp : (a b : ℕ) → a ≢ b → is_eq (nat_cmp a b) ≡ false
apart_cmp a b n = elim (cases_Bool (nat_lt a b)) as (λ _. is_eq (nat_cmp a b) ≡ false) [
  | inl t ↦ rw t refl
  | inr f ↦ rw (f, ne_eqb a b n) refl
]

-- an empty set has none
pub empty_has_none : (s : BTreeSet ℕ) → btree_set_len s ≡ 0 → (q : ℕ) → contains nat_cmp s q ≡ false
empty_has_none s h q = none s.keys h
  where
    none : (ks : List ℕ) → length ks ≡ 0 → contains nat_cmp (record { keys = ks }) q ≡ false
    none [] e = refl
    none (k ∷ ks) e = absurd (omega (arith, e))

-- what a set had it has with one more
pub put_keeps : (old new : BTreeSet ℕ) (i : ℕ) → contains nat_cmp new i ≡ true →
    ((q : ℕ) → q ≢ i → contains nat_cmp new q ≡ contains nat_cmp old q) → (q : ℕ) → contains nat_cmp old q ≡ true → contains nat_cmp new q ≡ true
put_keeps old new i has others q y = elim (cases_eq q i) as (λ _. contains nat_cmp new q ≡ true) [
  | inl e ↦ ap (contains nat_cmp new) e ∙ has
  | inr d ↦ others q d ∙ y
]

-- what holds of all that a set had holds of all with one more
pub put_known : (P : ℕ → Type 0) (old new : BTreeSet ℕ) (i : ℕ) → ((q : ℕ) → q ≢ i → contains nat_cmp new q ≡ contains nat_cmp old q) →
    P i → ((q : ℕ) → contains nat_cmp old q ≡ true → P q) →
    (q : ℕ) → contains nat_cmp new q ≡ true → P q
put_known P old new i others here h q y = elim (cases_eq q i) as (λ _. P q) [
  | inl e ↦ subst P (sym e) here
  | inr d ↦ h q (sym (others q d) ∙ y)
]

-- and of all but one where that is gone
pub drop_known : (P : ℕ → Type 0) (old new : BTreeSet ℕ) (i : ℕ) → contains nat_cmp new i ≡ false →
    ((q : ℕ) → q ≢ i → contains nat_cmp new q ≡ contains nat_cmp old q) →
    ((q : ℕ) → q ≢ i → contains nat_cmp old q ≡ true → P q) → (q : ℕ) → contains nat_cmp new q ≡ true → P q
drop_known P old new i gone others h q y = elim (cases_eq q i) as (λ _. P q) [
  | inl e ↦ absurd (both_ways (contains nat_cmp new q) (ap (contains nat_cmp new) e ∙ gone) y)
  | inr d ↦ h q d (sym (others q d) ∙ y)
]
