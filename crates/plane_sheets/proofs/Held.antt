-- Sums by label as numbers are put in.
use Rattle.std.proofs.Common.{arith, ◌≡◌, ℕ, suc, ◌+◌, ◌<◌, ◌≤◌, ◌==◌, ℤ, pos, ◌+ℤ◌, ◌*ℤ◌, List, [], ◌∷◌, ◌++◌, Bool, true, false, cond, unsigned_abs, refl, sym, ap, subst, ◌∙◌, inl, inr}
use Rattle.std.specs.List.{All, Contains}
use Rattle.std.proofs.lemmas.Int.{ints}
use Rattle.std.proofs.lemmas.Bool.{cases_lt, cases_eq, lt-ltb, le-ltb, eq-eqb, ne_eqb}
use Rattle.std.proofs.lemmas.List.Elements.{All-cons, All-head, All-nil, All-tail}
use Rattle.std.proofs.lemmas.List.Sums.{sum_by-cons}
use Rattle.chain_laws.specs.Products.{add-mul}
use Rattle.plane_chains.specs.declared.nets.LabelNumber.{LabelNumber}
use Rattle.plane_sheets.specs.Sides.{AreBelow, HasSums, RiseFrom, all_held, all_in, held, listed, put_in, size_held, size_of}

-- where a label is less than the first, as the first, or greater
pub put_later : (l : ℕ) (x : ℤ) (p : ℕ × ℤ) (ps : List (ℕ × ℤ)) → p.0 < l → put_in l x (p ∷ ps) ≡ p ∷ put_in l x ps
put_later l x p ps h = ap (λ b. cond b (p ∷ put_in l x ps) (cond (p.0 == l) ((l, p.1 +ℤ x) ∷ ps) ((l, x) ∷ p ∷ ps))) (lt-ltb p.0 l h)

pub put_here : (l : ℕ) (x : ℤ) (p : ℕ × ℤ) (ps : List (ℕ × ℤ)) → p.0 ≡ l → put_in l x (p ∷ ps) ≡ (l, p.1 +ℤ x) ∷ ps
put_here l x p ps h =
    ap (λ b. cond b (p ∷ put_in l x ps) (cond (p.0 == l) ((l, p.1 +ℤ x) ∷ ps) ((l, x) ∷ p ∷ ps))) (le-ltb p.0 l (omega (arith, h)))
    ∙ ap (λ b. cond b ((l, p.1 +ℤ x) ∷ ps) ((l, x) ∷ p ∷ ps)) (eq-eqb p.0 l h)

pub put_first : (l : ℕ) (x : ℤ) (p : ℕ × ℤ) (ps : List (ℕ × ℤ)) → l < p.0 → put_in l x (p ∷ ps) ≡ (l, x) ∷ p ∷ ps
put_first l x p ps h =
    ap (λ b. cond b (p ∷ put_in l x ps) (cond (p.0 == l) ((l, p.1 +ℤ x) ∷ ps) ((l, x) ∷ p ∷ ps))) (le-ltb p.0 l (omega (arith, h)))
    ∙ ap (λ b. cond b ((l, p.1 +ℤ x) ∷ ps) ((l, x) ∷ p ∷ ps)) (ne_eqb p.0 l (λ e. omega (arith, e, h)))

-- a fact of what is put in, by these three cases
put_cases : (P : List (ℕ × ℤ) → Type 0) (l : ℕ) (x : ℤ) (p : ℕ × ℤ) (ps : List (ℕ × ℤ)) → (p.0 < l → P (p ∷ put_in l x ps)) → (p.0 ≡ l → P ((l, p.1 +ℤ x) ∷ ps)) →
    (l < p.0 → P ((l, x) ∷ p ∷ ps)) → P (put_in l x (p ∷ ps))
put_cases P l x p ps f g h = elim (cases_lt p.0 l) as (λ _. P (put_in l x (p ∷ ps))) [
  | inl low ↦ subst P (sym (put_later l x p ps low)) (f low)
  | inr not_low ↦ elim (cases_eq p.0 l) as (λ _. P (put_in l x (p ∷ ps))) [
    | inl same ↦ subst P (sym (put_here l x p ps same)) (g same)
    | inr other ↦ let high : l < p.0 = omega (arith, not_low, other) in subst P (sym (put_first l x p ps high)) (h high)
  ]
]

-- a number for a label adds to the sum of that label alone
split_sum : (b : Bool) (x y : ℤ) → cond b (x +ℤ y) (pos 0) ≡ cond b x (pos 0) +ℤ cond b y (pos 0)
split_sum true x y = refl
split_sum false x y = refl

pub held-put_in : (k l : ℕ) (x : ℤ) (ps : List (ℕ × ℤ)) → held k (put_in l x ps) ≡ held k ps +ℤ cond (l == k) x (pos 0)
held-put_in k l x [] = omega (arith, ints)
held-put_in k l x (p ∷ ps) = put_cases (λ qs. held k qs ≡ held k (p ∷ ps) +ℤ cond (l == k) x (pos 0)) l x p ps
    (λ low. omega (arith, ints, held-put_in k l x ps))
    (λ same. omega (arith, ints, split_sum (l == k) p.1 x, ap (λ (i : ℕ). cond (i == k) p.1 (pos 0)) same))
    (λ high. omega (arith, ints))

pub all_held-put_in : (l : ℕ) (x : ℤ) (ps : List (ℕ × ℤ)) → all_held (put_in l x ps) ≡ all_held ps +ℤ x
all_held-put_in l x [] = omega (arith, ints)
all_held-put_in l x (p ∷ ps) = put_cases (λ qs. all_held qs ≡ all_held (p ∷ ps) +ℤ x) l x p ps
    (λ low. omega (arith, ints, all_held-put_in l x ps)) (λ same. omega (arith, ints)) (λ high. omega (arith, ints))

-- and to the sizes no more than its own
pub size_held-cons : (p : ℕ × ℤ) (ps : List (ℕ × ℤ)) → size_held (p ∷ ps) ≡ unsigned_abs p.1 + size_held ps
size_held-cons p ps = sum_by-cons (λ (q : ℕ × ℤ). unsigned_abs q.1) p ps

pub size_held-put_in : (l : ℕ) (x : ℤ) (ps : List (ℕ × ℤ)) → size_held (put_in l x ps) ≤ size_held ps + unsigned_abs x
size_held-put_in l x [] = omega (arith, size_held-cons (l, x) [])
size_held-put_in l x (p ∷ ps) = put_cases (λ qs. size_held qs ≤ size_held (p ∷ ps) + unsigned_abs x) l x p ps
    (λ low. omega (arith, size_held-put_in l x ps, size_held-cons p ps, size_held-cons p (put_in l x ps)))
    (λ same. omega (arith, ints, size_held-cons p ps, size_held-cons (l, p.1 +ℤ x) ps))
    (λ high. omega (arith, size_held-cons p ps, size_held-cons (l, x) (p ∷ ps)))

-- labels go on rising
pub rise-put_in : (k l : ℕ) (x : ℤ) (ps : List (ℕ × ℤ)) → k ≤ l → RiseFrom k ps → RiseFrom k (put_in l x ps)
rise-put_in k l x [] h r = (h, tt)
rise-put_in k l x (p ∷ ps) h r = put_cases (RiseFrom k) l x p ps
    (λ low. (r.0, rise-put_in (suc p.0) l x ps (omega (arith, low)) r.1))
    (λ same. (h, subst (λ (i : ℕ). RiseFrom (suc i) ps) same r.1))
    (λ high. (h, (omega (arith, high), r.1)))

-- and stay below n
pub below-put_in : (n l : ℕ) (x : ℤ) (ps : List (ℕ × ℤ)) → l < n → All (λ p. p.0 < n) ps → All (λ p. p.0 < n) (put_in l x ps)
below-put_in n l x [] h all = All-cons (λ p. p.0 < n) (l, x) [] h all
below-put_in n l x (p ∷ ps) h all = put_cases (All (λ p. p.0 < n)) l x p ps
    (λ low. All-cons (λ p. p.0 < n) p (put_in l x ps) (All-head (λ p. p.0 < n) p ps all) (below-put_in n l x ps h (All-tail (λ p. p.0 < n) p ps all)))
    (λ same. All-cons (λ p. p.0 < n) (l, p.1 +ℤ x) ps h (All-tail (λ p. p.0 < n) p ps all))
    (λ high. All-cons (λ p. p.0 < n) (l, x) (p ∷ ps) h all)

-- one more number that is put in
pub all_in-snoc : (t : ℤ) (ns : List LabelNumber) (n : LabelNumber) (ps : List (ℕ × ℤ)) → all_in t (ns ++ n ∷ []) ps ≡ put_in n.label (n.number *ℤ t) (all_in t ns ps)
all_in-snoc t [] n ps = refl
all_in-snoc t (m ∷ ns) n ps = all_in-snoc t ns n (put_in m.label (m.number *ℤ t) ps)

-- the numbers of a label, times t
scaled : (b : Bool) (x y t z : ℤ) → z ≡ y *ℤ t → cond b (x *ℤ t) (pos 0) +ℤ z ≡ (cond b x (pos 0) +ℤ y) *ℤ t
scaled true x y t z e = ap (λ v. x *ℤ t +ℤ v) e ∙ sym (add-mul x y t)
scaled false x y t z e = zero_more z ∙ e ∙ sym (ap (λ (v : ℤ). v *ℤ t) (zero_more y))
  where
    zero_more : (y : ℤ) → pos 0 +ℤ y ≡ y
    zero_more y = omega (arith, ints)

-- a sum in other brackets
regroup : (a b c : ℤ) → (a +ℤ b) +ℤ c ≡ a +ℤ (b +ℤ c)
regroup a b c = omega (arith, ints)

-- numbers that are put in add to the sums of their labels
pub held-all_in : (t : ℤ) (k : ℕ) (ns : List LabelNumber) (ps : List (ℕ × ℤ)) → held k (all_in t ns ps) ≡ held k ps +ℤ listed ns k *ℤ t
held-all_in t k [] ps = omega (arith, ints)
held-all_in t k (n ∷ ns) ps =
    let rest = held-all_in t k ns (put_in n.label (n.number *ℤ t) ps) in
    let one = held-put_in k n.label (n.number *ℤ t) ps in
    let both = scaled (n.label == k) n.number (listed ns k) t (listed ns k *ℤ t) refl in
    rest ∙ ap (λ z. z +ℤ listed ns k *ℤ t) one ∙ regroup (held k ps) (cond (n.label == k) (n.number *ℤ t) (pos 0)) (listed ns k *ℤ t) ∙ ap (λ z. held k ps +ℤ z) both

-- to the sizes no more than theirs
pub size_held-all_in : (t : ℤ) → ((z : ℤ) → unsigned_abs (z *ℤ t) ≤ unsigned_abs z) → (ns : List LabelNumber) (ps : List (ℕ × ℤ)) →
    size_held (all_in t ns ps) ≤ size_held ps + size_of ns
size_held-all_in t less [] ps = omega arith
size_held-all_in t less (n ∷ ns) ps =
    omega (
      arith,
      size_held-all_in t less ns (put_in n.label (n.number *ℤ t) ps),
      size_held-put_in n.label (n.number *ℤ t) ps,
      less n.number,
      sum_by-cons (λ (m : LabelNumber). unsigned_abs m.number) n ns,
    )

pub rise-all_in : (t : ℤ) (ns : List LabelNumber) (ps : List (ℕ × ℤ)) → RiseFrom 0 ps → RiseFrom 0 (all_in t ns ps)
rise-all_in t [] ps r = r
rise-all_in t (n ∷ ns) ps r = rise-all_in t ns (put_in n.label (n.number *ℤ t) ps) (rise-put_in 0 n.label (n.number *ℤ t) ps (omega arith) r)

pub below-all_in : (t : ℤ) (m : ℕ) (ns : List LabelNumber) (ps : List (ℕ × ℤ)) → All (λ n. n.label < m) ns → All (λ p. p.0 < m) ps → All (λ p. p.0 < m) (all_in t ns ps)
below-all_in t m [] ps few all = all
below-all_in t m (n ∷ ns) ps few all =
    below-all_in t m ns (put_in n.label (n.number *ℤ t) ps) (All-tail (λ (n : LabelNumber). n.label < m) n ns few)
    (below-put_in m n.label (n.number *ℤ t) ps (All-head (λ (n : LabelNumber). n.label < m) n ns few) all)

-- all sums at once
pub sums_more : (nets : List (List LabelNumber)) (f g : ℕ → ℤ) (w : ℕ) (t : ℤ) (ns : List LabelNumber) (ps : List (ℕ × ℤ)) → ((z : ℤ) → unsigned_abs (z *ℤ t) ≤ unsigned_abs z) →
    Contains nets ns → HasSums nets f w ps → ((k : ℕ) → g k ≡ f k +ℤ listed ns k *ℤ t) → HasSums nets g (w + size_of ns) (all_in t ns ps)
sums_more nets f g w t ns ps less one s same = record {
  rise = rise-all_in t ns ps s.rise;
  below = λ m few. below-all_in t m ns ps (labels_of_one nets ns m few one) (s.below m few);
  value = λ k. held-all_in t k ns ps ∙ ap (λ z. z +ℤ listed ns k *ℤ t) (s.value k) ∙ sym (same k);
  small = omega (arith, size_held-all_in t less ns ps, s.small);
}
  where
    labels_of_one : (nets : List (List LabelNumber)) (ns : List LabelNumber) (m : ℕ) → AreBelow m nets → Contains nets ns → All (λ n. n.label < m) ns
    labels_of_one nets ns m few (i, l, e) = subst (All (λ n. n.label < m)) e (few i ns l)

-- none change nothing
pub sums_stay : (nets : List (List LabelNumber)) (f : ℕ → ℤ) (w : ℕ) (ns : List LabelNumber) (ps : List (ℕ × ℤ)) → HasSums nets f w ps →
    HasSums nets (λ k. f k +ℤ listed ns k *ℤ pos 0) (w + size_of ns) ps
sums_stay nets f w ns ps s = record {
  rise = s.rise;
  below = s.below;
  value = λ k. s.value k ∙ no_more (f k) (listed ns k);
  small = omega (arith, s.small);
}
  where
    no_more : (x y : ℤ) → x ≡ x +ℤ y *ℤ pos 0
    no_more x y = omega (arith, ints)

-- other words for the same sums
pub sums_same : (nets : List (List LabelNumber)) (f g : ℕ → ℤ) (v w : ℕ) (ps : List (ℕ × ℤ)) → HasSums nets f v ps → ((k : ℕ) → f k ≡ g k) → v ≤ w → HasSums nets g w ps
sums_same nets f g v w ps s same less = record { rise = s.rise; below = s.below; value = λ k. s.value k ∙ same k; small = omega (arith, s.small, less) }

-- no sums
pub sums_none : (nets : List (List LabelNumber)) (w : ℕ) → HasSums nets (λ k. pos 0) w []
sums_none nets w = record { rise = tt; below = λ n few. All-nil (λ (p : ℕ × ℤ). p.0 < n); value = λ k. refl; small = omega arith }
