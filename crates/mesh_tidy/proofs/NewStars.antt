-- The stars after a collapse: the star of the end joins that of the start.
use Rattle.std.proofs.Common.{◌≡◌, ◌≢◌, ℕ, zero, suc, ◌+◌, ◌<◌, ◌⊎◌, inl, inr, Bool, true, false, List, [], ◌∷◌, ◌++◌, length, get_or, set, refl, sym, ap, ◌∙◌, arith, get_or-set_same, get_or-set_other}
use Rattle.std.specs.Prelude.{cond, count_by, ◌==◌}
use Rattle.std.proofs.lemmas.Bool.{both_ways, cases_Bool, eqb-true, eq-eqb, ne_eqb}
use Rattle.std.proofs.lemmas.List.{length-set}
use Rattle.std.proofs.lemmas.List.Sums.{sum_by-append}
use Rattle.chain_terms.specs.Chains.{one_if}
use Rattle.tidy_terms.specs.Collapse.{merged}
use Rattle.tidy_laws.proofs.Closed.{merged_other, merged_second}

-- counts of two lists one after the other
count-append : {X : Type 0} (p : X → Bool) (xs ys : List X) → count_by p (xs ++ ys) ≡ count_by p xs + count_by p ys
count-append p xs ys = sum_by-append (λ x. cond (p x) 1 0) xs ys

-- the star of b behind that of a
abbrev pub joined : List (List ℕ) → ℕ → ℕ → List (List ℕ)
joined stars a b = set (set stars b []) a (get_or stars a [] ++ get_or stars b [])

module _ (a b s : ℕ) (apart : a ≢ b) where
  -- a start that is renamed to a was a or b
  at_a : one_if (merged a b s == a) ≡ one_if (s == a) + one_if (s == b)
  at_a = by (cases_Bool (s == b)) where
    by : ((s == b) ≡ true) ⊎ ((s == b) ≡ false) → one_if (merged a b s == a) ≡ one_if (s == a) + one_if (s == b)
    by (inl e) =
        let is = eqb-true s b e in
        let other : (s == a) ≡ false = ne_eqb s a (λ q. apart (sym q ∙ is)) in
        omega (arith, ap one_if (eq-eqb (merged a b s) a (merged_second a b s is)), ap one_if e, ap one_if other)
    by (inr n) =
        let same = merged_other a b s (λ q. both_ways (s == b) n (eq-eqb s b q)) in
        omega (arith, ap one_if n, ap (λ w. one_if (w == a)) same)

  -- none is renamed to b
  at_b : one_if (merged a b s == b) ≡ 0
  at_b = by (cases_Bool (s == b)) where
    by : ((s == b) ≡ true) ⊎ ((s == b) ≡ false) → one_if (merged a b s == b) ≡ 0
    by (inl e) = ap one_if (ne_eqb (merged a b s) b (λ q. apart (sym (merged_second a b s (eqb-true s b e)) ∙ q)))
    by (inr n) = ap (λ w. one_if (w == b)) (merged_other a b s (λ q. both_ways (s == b) n (eq-eqb s b q))) ∙ ap one_if n

  -- and others stay
  at_another : (v : ℕ) → v ≢ a → v ≢ b → one_if (merged a b s == v) ≡ one_if (s == v)
  at_another v n m = by (cases_Bool (s == b)) where
    by : ((s == b) ≡ true) ⊎ ((s == b) ≡ false) → one_if (merged a b s == v) ≡ one_if (s == v)
    by (inl e) =
        let is = eqb-true s b e in
        ap one_if (ne_eqb (merged a b s) v (λ q. n (sym q ∙ merged_second a b s is))) ∙ sym (ap one_if (ne_eqb s v (λ q. m (sym q ∙ is))))
    by (inr k) = ap (λ w. one_if (w == v)) (merged_other a b s (λ q. both_ways (s == b) k (eq-eqb s b q)))

-- a half-edge that stood once in the star of its start does so afterwards
pub stands_joined : (stars : List (List ℕ)) (a b h s : ℕ) → a ≢ b → a < length stars → b < length stars →
    ((v : ℕ) → v < length stars → count_by (λ x. x == h) (get_or stars v []) ≡ one_if (s == v)) →
    (v : ℕ) → v < length stars → count_by (λ x. x == h) (get_or (joined stars a b) v []) ≡ one_if (merged a b s == v)
stands_joined stars a b h s apart a_low b_low once v low = by (cases_Bool (v == a)) (cases_Bool (v == b)) where
  star_a : List ℕ
  star_a = get_or stars a []

  star_b : List ℕ
  star_b = get_or stars b []

  by : ((v == a) ≡ true) ⊎ ((v == a) ≡ false) → ((v == b) ≡ true) ⊎ ((v == b) ≡ false) → count_by (λ x. x == h) (get_or (joined stars a b) v []) ≡ one_if (merged a b s == v)
  by (inl e) k =
      let is = eqb-true v a e in
      ap (λ w. count_by (λ x. x == h) (get_or (joined stars a b) w [])) is
      ∙ ap (count_by (λ x. x == h)) (get_or-set_same (set stars b []) a (star_a ++ star_b) [] (omega (arith, a_low, length-set stars b [])))
      ∙ count-append (λ x. x == h) star_a star_b ∙ omega (arith, once a a_low, once b b_low, at_a a b s apart) ∙ ap (λ w. one_if (merged a b s == w)) (sym is)
  by (inr n) (inl e) =
      let is = eqb-true v b e in
      let other : v ≢ a = λ q. both_ways (v == a) n (eq-eqb v a q) in
      ap (count_by (λ x. x == h)) (get_or-set_other (set stars b []) a v (star_a ++ star_b) [] other) ∙ ap (λ w. count_by (λ x. x == h) (get_or (set stars b []) w [])) is
      ∙ ap (count_by (λ x. x == h)) (get_or-set_same stars b [] [] b_low) ∙ sym (at_b a b s apart) ∙ ap (λ w. one_if (merged a b s == w)) (sym is)
  by (inr n) (inr m) =
      let not_a : v ≢ a = λ q. both_ways (v == a) n (eq-eqb v a q) in
      let not_b : v ≢ b = λ q. both_ways (v == b) m (eq-eqb v b q) in
      ap (count_by (λ x. x == h)) (get_or-set_other (set stars b []) a v (star_a ++ star_b) [] not_a ∙ get_or-set_other stars b v [] [] not_b) ∙ once v low
      ∙ sym (at_another a b s apart v not_a not_b)
