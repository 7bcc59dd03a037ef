-- A solid and another behind it, over the points that follow.
use Rattle.std.proofs.Common.{◌≡◌, ◌<◌, ◌+◌, ◌-◌, ℕ, Bool, true, false, List, [], ◌∷◌, ◌++◌, map, refl, sym, ◌∙◌, ap, subst, inl, inr, arith}
use Rattle.std.specs.Prelude.{◌||◌, ◌==◌}
use Rattle.std.proofs.lemmas.Bool.{eqb-true, eq-eqb, cases_lt, cases_Bool, false_from_ne_true}
use Rattle.std.proofs.lemmas.List.Elements.{All-append, All-map}
use Rattle.std.proofs.lemmas.List.Folds.{list_any-append}
use Rattle.chain_laws.specs.Triples.{closed-renamed_triples, closed-append_triples}
use Rattle.made_terms.specs.Lattice.{further}
use Rattle.mesh_terms.specs.Meshes.{Triple, HasThree, IsBelow, has, is_used}
use Rattle.made_laws.specs.Solids.{IsSolid}

-- further points differ where the points do
three_further : (p : ℕ) (t : Triple) → HasThree t → HasThree (further p t)
three_further p t h = record { ab = λ e. h.ab (omega (arith, e)); bc = λ e. h.bc (omega (arith, e)); ca = λ e. h.ca (omega (arith, e)) }

below_more : (p q : ℕ) (t : Triple) → IsBelow p t → IsBelow (p + q) t
below_more p q t h = record { a = omega (arith, h.a); b = omega (arith, h.b); c = omega (arith, h.c) }

below_further : (p q : ℕ) (t : Triple) → IsBelow q t → IsBelow (p + q) (further p t)
below_further p q t h = record { a = omega (arith, h.a); b = omega (arith, h.b); c = omega (arith, h.c) }

-- numbers that are as much further are equal where the numbers are
same_further : (p a w : ℕ) → (p + a == p + w) ≡ (a == w)
same_further p a w = elim (cases_Bool (a == w)) as (λ _. (p + a == p + w) ≡ (a == w)) [
  | inl y ↦ eq-eqb (p + a) (p + w) (ap (λ k. p + k) (eqb-true a w y)) ∙ sym y
  | inr n ↦ false_from_ne_true (p + a == p + w) (λ y. let e : a ≡ w = omega (arith, eqb-true (p + a) (p + w) y) in let z = eq-eqb a w e in cc) ∙ sym n
]

-- so a point is used as often
used_further : (p w : ℕ) (us : List Triple) → is_used (map (further p) us) (p + w) ≡ is_used us w
used_further p w [] = refl
used_further p w (u ∷ us) =
    let here : has (further p u) (p + w) ≡ has u w =
    ap (λ b. (b || (p + u.1 == p + w)) || (p + u.2 == p + w)) (same_further p u.0 w) ∙ ap (λ b. ((u.0 == w) || b) || (p + u.2 == p + w)) (same_further p u.1 w)
    ∙ ap (λ b. ((u.0 == w) || (u.1 == w)) || b) (same_further p u.2 w) in
    ap (λ b. b || is_used (map (further p) us) (p + w)) here ∙ ap (λ b. has u w || b) (used_further p w us)

either : (b c : Bool) → c ≡ true → (b || c) ≡ true
either true c h = refl
either false c h = h

-- the union is a solid over the points of both
pub solid_union : (p q : ℕ) (ts us : List Triple) → IsSolid p ts → IsSolid q us → IsSolid (p + q) (ts ++ map (further p) us)
solid_union p q ts us s u = record {
  three = All-append HasThree ts (map (further p) us) s.three (All-map HasThree (further p) us (λ k d low. three_further p _ (u.three k d low)));
  below = All-append (IsBelow (p + q)) ts (map (further p) us) (λ k d low. below_more p q _ (s.below k d low))
      (All-map (IsBelow (p + q)) (further p) us (λ k d low. below_further p q _ (u.below k d low)));
  used = λ v low. list_any-append (λ t. has t v) ts (map (further p) us) ∙ used_in v low;
  closed = closed-append_triples ts (map (further p) us) s.closed (closed-renamed_triples (λ v. p + v) us u.closed);
}
  where
    used_in : (v : ℕ) → v < p + q → (is_used ts v || is_used (map (further p) us) v) ≡ true
    used_in v low = elim (cases_lt v p) as (λ _. (is_used ts v || is_used (map (further p) us) v) ≡ true) [
      | inl l ↦ ap (λ b. b || is_used (map (further p) us) v) (s.used v l)
      | inr g ↦
          let at : p + (v - p) ≡ v = omega (arith, g) in
          either (is_used ts v) (is_used (map (further p) us) v)
          (subst (λ k. is_used (map (further p) us) k ≡ true) at (used_further p (v - p) us ∙ u.used (v - p) (omega (arith, g, low))))
    ]
