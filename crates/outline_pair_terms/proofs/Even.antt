-- Each list of edges has as many starts as ends.
use Rattle.std.proofs.Common.{◌≡◌, ℕ, zero, suc, ◌<◌, ◌⊎◌, inl, inr, Bool, true, false, cond, ◌==◌, ℤ, pos, negsuc, neg_ℤ, List, [], ◌∷◌, ◌++◌, length, map, filter, get_or, int_lt, count_by, refl, sym, ap, ◌∙◌, arith}
use Rattle.std.specs.Prelude.{◌-ℤ◌, ◌+ℤ◌, ◌*ℤ◌, nat_abs, replicate}
use Rattle.std.specs.List.{flat_map}
use Rattle.std.proofs.lemmas.Int.{ints}
use Rattle.std.proofs.lemmas.Bool.{cases_Bool, eqb-true, eq-eqb, le-ltb}
use Rattle.std.proofs.lemmas.List.Elements.{All-append, All-map}
use Rattle.chain_terms.specs.Chains.{one_if}
use Rattle.chain_terms.specs.Ranks.{start, finish}
use Rattle.chain_terms.specs.Sums.{total, upto}
use Rattle.chain_laws.specs.Counts.{count_by-cons, total-count_by}
use Rattle.chain_laws.specs.Products.{mul-add, mul-neg, mul-sub, neg-mul}
use Rattle.chain_laws.specs.Sums.{total-append, total-flat_map, total-map, total-same, total-sub, total-zero}
use Rattle.chain_laws.proofs.Places.{one_hit_of, total-places, where_same}
use Rattle.mb_base.specs.declared.op.Op.{Op}
use Rattle.face_loops.specs.Standings.{AreEven}
use Rattle.outline_pair_terms.specs.Balance.{AreConserved}
use Rattle.outline_pair_terms.specs.Lists.{EdgeP, EdgeQ, FlatCopy, FlatPrescription, FlatList, FlatOrigin, OfBoth, OfP, OfQ, at_end, at_same, constant, flat_copies, flat_copies_of, flat_incidence, flat_lists, flat_standing, hits_prescribed, no_flat_copy, p_prescribed, q_prescribed}
use Rattle.outline_pair_terms.specs.declared.FlatHit.{FlatHit}
use Rattle.outline_pair_terms.specs.Numbers.{FlatNumbers}
use Rattle.outline_terms.specs.Outlines.{Outline, outline_edges}
use Rattle.outline_pair_terms.proofs.Exchange.{all_upto}

-- -1, 0 or 1
abbrev IsUnit : ℤ → Type 0
IsUnit z = (z ≡ pos 1) ⊎ ((z ≡ pos 0) ⊎ (z ≡ negsuc 0))

-- such a number is whether it is above 0, less whether it is below
unit_parts : (z : ℤ) → IsUnit z → z ≡ pos (one_if (int_lt (pos 0) z)) -ℤ pos (one_if (int_lt z (pos 0)))
unit_parts z (inl e) = rw e refl
unit_parts z (inr (inl e)) = rw e refl
unit_parts z (inr (inr e)) = rw e refl

total_units : {X : Type 0} (f : X → ℤ) → ((x : X) → IsUnit (f x)) → (xs : List X) →
    total f xs ≡ pos (count_by (λ x. int_lt (pos 0) (f x)) xs) -ℤ pos (count_by (λ x. int_lt (f x) (pos 0)) xs)
total_units f unit [] = refl
total_units f unit (x ∷ xs) =
    omega (arith, ints, unit_parts (f x) (unit x), total_units f unit xs, count_by-cons (λ y. int_lt (pos 0) (f y)) x xs, count_by-cons (λ y. int_lt (f y) (pos 0)) x xs)

-- the places that pass are as many as the members
count_filter : {X : Type 0} (p : X → Bool) (xs : List X) → length (filter p xs) ≡ count_by p xs
count_filter p [] = refl
count_filter p (x ∷ xs) = elim (cases_Bool (p x)) as (λ _. length (filter p (x ∷ xs)) ≡ count_by p (x ∷ xs)) [
  | inl y ↦ ap (λ b. length (cond b (x ∷ filter p xs) (filter p xs))) y ∙ omega (arith, count_filter p xs, count_by-cons p x xs, ap one_if y)
  | inr m ↦ ap (λ b. length (cond b (x ∷ filter p xs) (filter p xs))) m ∙ omega (arith, count_filter p xs, count_by-cons p x xs, ap one_if m)
]

places_passing : {X : Type 0} (p : X → Bool) (d : X) (xs : List X) → length (filter (λ v. p (get_or xs v d)) (upto (length xs))) ≡ count_by p xs
places_passing p d xs =
    omega (
      arith,
      ints,
      count_filter (λ v. p (get_or xs v d)) (upto (length xs)),
      total-count_by p xs,
      total-count_by (λ v. p (get_or xs v d)) (upto (length xs)),
      total-places (λ x. pos (one_if (p x))) d xs,
    )

-- where numbers of -1, 0 and 1 add up to 0, as many are above as below
even_places : {X : Type 0} (f : X → ℤ) → ((x : X) → IsUnit (f x)) → (d : X) (xs : List X) → total f xs ≡ pos 0 →
    length (filter (λ v. int_lt (pos 0) (f (get_or xs v d))) (upto (length xs))) ≡ length (filter (λ v. int_lt (f (get_or xs v d)) (pos 0)) (upto (length xs)))
even_places f unit d xs sum =
    omega (arith, ints, sum, total_units f unit xs, places_passing (λ x. int_lt (pos 0) (f x)) d xs, places_passing (λ x. int_lt (f x) (pos 0)) d xs)

-- incidences are such numbers
same_unit : (a b : ℕ) → (at_same a b ≡ pos 1) ⊎ (at_same a b ≡ pos 0)
same_unit a b = by (a == b) where
  by : (t : Bool) → (cond t (pos 1) (pos 0) ≡ pos 1) ⊎ (cond t (pos 1) (pos 0) ≡ pos 0)
  by true = inl refl
  by false = inr refl

end_unit : (es : List (ℕ × ℕ)) (k v : ℕ) → IsUnit (at_end es k v)
end_unit es k v = by (same_unit (start es k) v) (same_unit (finish es k) v) where
  by : (at_same (start es k) v ≡ pos 1) ⊎ (at_same (start es k) v ≡ pos 0) → (at_same (finish es k) v ≡ pos 1) ⊎ (at_same (finish es k) v ≡ pos 0) → IsUnit (at_end es k v)
  by (inl a) (inl b) = inr (inl (omega (arith, ints, a, b)))
  by (inl a) (inr b) = inl (omega (arith, ints, a, b))
  by (inr a) (inl b) = inr (inr (omega (arith, ints, a, b)))
  by (inr a) (inr b) = inr (inl (omega (arith, ints, a, b)))

incidence_unit : (p q : List (ℕ × ℕ)) (x : FlatList) (o : FlatOrigin) → IsUnit (flat_incidence p q x o)
incidence_unit p q (EdgeP k) (OfP v) = end_unit p k v
incidence_unit p q (EdgeP k) (OfQ v) = inr (inl refl)
incidence_unit p q (EdgeP k) (OfBoth i j) = elim (same_unit i k) as (λ _. IsUnit (at_same i k)) [ inl e ↦ inl e | inr e ↦ inr (inl e) ]
incidence_unit p q (EdgeQ k) (OfP v) = inr (inl refl)
incidence_unit p q (EdgeQ k) (OfQ v) = end_unit q k v
incidence_unit p q (EdgeQ k) (OfBoth i j) = elim (same_unit j k) as (λ _. IsUnit (neg_ℤ (at_same j k)))
    [ inl e ↦ inr (inr (omega (arith, ints, e))) | inr e ↦ inr (inl (omega (arith, ints, e))) ]

signed_unit : (b : Bool) (z : ℤ) → IsUnit z → IsUnit (cond b (neg_ℤ z) z)
signed_unit true z (inl e) = inr (inr (omega (arith, ints, e)))
signed_unit true z (inr (inl e)) = inr (inl (omega (arith, ints, e)))
signed_unit true z (inr (inr e)) = inl (omega (arith, ints, e))
signed_unit false z h = h

-- how one copy stands
abbrev stands : (p q : List (ℕ × ℕ)) → FlatList → FlatCopy → ℤ
stands p q x c = let z = flat_incidence p q x c.origin in cond c.negative (neg_ℤ z) z

-- the copies of one thing add up to its number, times its incidence
total_replicate : {X : Type 0} (f : X → ℤ) (k : ℕ) (x : X) → total f (replicate k x) ≡ pos k *ℤ f x
total_replicate f zero x = omega (arith, ints)
total_replicate f (suc k) x = omega (arith, ints, total_replicate f k x)

signed_size : (n z : ℤ) → pos (nat_abs n) *ℤ cond (int_lt n (pos 0)) (neg_ℤ z) z ≡ n *ℤ z
signed_size (pos k) z = ap (λ b. pos k *ℤ cond b (neg_ℤ z) z) (le-ltb k 0 (omega arith))
signed_size (negsuc k) z = mul-neg (pos (suc k)) z ∙ sym (neg-mul (pos (suc k)) z)

-- a number times its incidence
abbrev weight : (p q : List (ℕ × ℕ)) → FlatList → FlatPrescription → ℤ
weight p q x i = i.number *ℤ flat_incidence p q x i.origin

copies_total : (p q : List (ℕ × ℕ)) (x : FlatList) (is : List FlatPrescription) → total (stands p q x) (flat_map flat_copies_of is) ≡ total (weight p q x) is
copies_total p q x is =
    total-flat_map (stands p q x) flat_copies_of is
    ∙ total-same (λ i. total (stands p q x) (flat_copies_of i)) (weight p q x)
    (λ i. total_replicate (stands p q x) (nat_abs i.number) (record { origin = i.origin; negative = int_lt i.number (pos 0); point = i.point })
    ∙ signed_size i.number (flat_incidence p q x i.origin)) is

-- a number times whether two are the same
times_same : (z : ℤ) (a b : ℕ) → z *ℤ at_same a b ≡ cond (a == b) z (pos 0)
times_same z a b = by (a == b) where
  by : (t : Bool) → z *ℤ cond t (pos 1) (pos 0) ≡ cond t z (pos 0)
  by true = omega (arith, ints)
  by false = omega (arith, ints)

same_turned_round : (z : ℤ) (a b : ℕ) → cond (a == b) z (pos 0) ≡ where_same b a z
same_turned_round z a b = elim (cases_Bool (a == b)) as (λ _. cond (a == b) z (pos 0) ≡ where_same b a z) [
  | inl y ↦ ap (λ t. cond t z (pos 0)) y ∙ sym (ap (λ t. cond t z (pos 0)) (eq-eqb b a (sym (eqb-true a b y))))
  | inr m ↦ elim (cases_Bool (b == a)) as (λ _. cond (a == b) z (pos 0) ≡ where_same b a z) [
    | inl y ↦ let w = eq-eqb a b (sym (eqb-true b a y)) in absurd (cc)
    | inr n ↦ ap (λ t. cond t z (pos 0)) m ∙ sym (ap (λ t. cond t z (pos 0)) n)
  ]
]

-- over the vertices: that of the start less that of the end
vertices_total : (es : List (ℕ × ℕ)) (k n : ℕ) (number : ℕ → ℤ) → start es k < n → finish es k < n →
    total (λ v. number v *ℤ at_end es k v) (upto n) ≡ number (start es k) -ℤ number (finish es k)
vertices_total es k n number s f =
    total-same (λ v. number v *ℤ at_end es k v) (λ v. where_same v (start es k) (number v) -ℤ where_same v (finish es k) (number v))
    (λ v. omega (
      arith,
      ints,
      mul-sub (number v) (at_same (start es k) v) (at_same (finish es k) v),
      times_same (number v) (start es k) v,
      times_same (number v) (finish es k) v,
      same_turned_round (number v) (start es k) v,
      same_turned_round (number v) (finish es k) v,
    )) (upto n)
    ∙ total-sub (λ v. where_same v (start es k) (number v)) (λ v. where_same v (finish es k) (number v)) (upto n)
    ∙ omega (arith, ints, one_hit_of number (start es k) n s, one_hit_of number (finish es k) n f)

-- nothing where the incidence is 0
none_total : {X : Type 0} (f : X → ℤ) (xs : List X) → total (λ x. f x *ℤ pos 0) xs ≡ pos 0
none_total f xs = total-same (λ x. f x *ℤ pos 0) (λ x. pos 0) (λ x. omega (arith, ints)) xs ∙ total-zero xs

-- a constant taken out of the hits' numbers
hits_total : (c : ℤ) (test : FlatHit → Bool) (hs : List FlatHit) →
    total (λ h. (c *ℤ h.number) *ℤ cond (test h) (pos 1) (pos 0)) hs ≡ c *ℤ total (λ h. cond (test h) h.number (pos 0)) hs
hits_total c test [] = omega (arith, ints)
hits_total c test (h ∷ hs) =
    omega (arith, ints, hits_total c test hs, one (test h), mul-add c (cond (test h) h.number (pos 0)) (total (λ g. cond (test g) g.number (pos 0)) hs))
  where
    one : (t : Bool) → (c *ℤ h.number) *ℤ cond t (pos 1) (pos 0) ≡ c *ℤ cond t h.number (pos 0)
    one true = omega (arith, ints)
    one false = omega (arith, ints)

hits_total_turned : (c : ℤ) (test : FlatHit → Bool) (hs : List FlatHit) →
    total (λ h. (c *ℤ h.number) *ℤ neg_ℤ (cond (test h) (pos 1) (pos 0))) hs ≡ neg_ℤ (c *ℤ total (λ h. cond (test h) h.number (pos 0)) hs)
hits_total_turned c test [] = omega (arith, ints)
hits_total_turned c test (h ∷ hs) =
    omega (arith, ints, hits_total_turned c test hs, one (test h), mul-add c (cond (test h) h.number (pos 0)) (total (λ g. cond (test g) g.number (pos 0)) hs))
  where
    one : (t : Bool) → (c *ℤ h.number) *ℤ neg_ℤ (cond t (pos 1) (pos 0)) ≡ neg_ℤ (c *ℤ cond t h.number (pos 0))
    one true = omega (arith, ints)
    one false = omega (arith, ints)

-- the three kinds one after the other
three_totals : (f : FlatPrescription → ℤ) (xs ys zs : List FlatPrescription) → total f (xs ++ (ys ++ zs)) ≡ total f xs +ℤ total f ys +ℤ total f zs
three_totals f xs ys zs = omega (arith, ints, total-append f xs (ys ++ zs), total-append f ys zs)

module _ (op : Op) (p q : Outline) (n : FlatNumbers) (keeps : AreConserved (outline_edges p) (outline_edges q) n) where
  abbrev es : List (ℕ × ℕ)
  es = outline_edges p

  abbrev fs : List (ℕ × ℕ)
  fs = outline_edges q

  p_number : ℕ → ℤ
  p_number v = constant op 0 +ℤ constant op 2 *ℤ get_or n.w02 v (pos 0)

  q_number : ℕ → ℤ
  q_number v = constant op 1 +ℤ constant op 2 *ℤ get_or n.w20 v (pos 0)

  p_even : (k : ℕ) → k < length es → start es k < length p.points → finish es k < length p.points → total (stands es fs (EdgeP k)) (flat_copies op p q n) ≡ pos 0
  unfolding p_number
  p_even k low s f =
      let c = constant op 2 in
      let m = length p.points in
      let x = EdgeP k in
      let by_vertices : total (weight es fs x) (p_prescribed op p n) ≡ p_number (start es k) -ℤ p_number (finish es k) =
      total-map (weight es fs x) (λ v. record { origin = OfP v; number = p_number v; point = get_or p.points v [] }) (upto m) ∙ vertices_total es k m p_number s f in
      let by_others : total (weight es fs x) (q_prescribed op q n) ≡ pos 0 =
      total-map (weight es fs x) (λ v. record { origin = OfQ v; number = constant op 1 +ℤ c *ℤ get_or n.w20 v (pos 0); point = get_or q.points v [] })
      (upto (length q.points)) ∙ none_total (λ v. constant op 1 +ℤ c *ℤ get_or n.w20 v (pos 0)) (upto (length q.points)) in
      let by_hits : total (weight es fs x) (hits_prescribed op n) ≡ c *ℤ total (λ h. cond (h.p_edge == k) h.number (pos 0)) n.hits =
      total-map (weight es fs x) (λ (h : FlatHit). record { origin = OfBoth h.p_edge h.q_edge; number = c *ℤ h.number; point = h.at }) n.hits
      ∙ hits_total c (λ h. h.p_edge == k) n.hits in
      let turn = total (λ h. cond (h.p_edge == k) h.number (pos 0)) n.hits in
      let change = ap (λ z. c *ℤ z) (keeps.p_edges k low) ∙ mul-add c (get_or n.w02 (start es k) (pos 0)) turn in
      copies_total es fs x (p_prescribed op p n ++ (q_prescribed op q n ++ hits_prescribed op n))
      ∙ three_totals (weight es fs x) (p_prescribed op p n) (q_prescribed op q n) (hits_prescribed op n) ∙ omega (arith, ints, by_vertices, by_others, by_hits, change)

  q_even : (k : ℕ) → k < length fs → start fs k < length q.points → finish fs k < length q.points → total (stands es fs (EdgeQ k)) (flat_copies op p q n) ≡ pos 0
  unfolding q_number
  q_even k low s f =
      let c = constant op 2 in
      let m = length q.points in
      let x = EdgeQ k in
      let by_vertices : total (weight es fs x) (q_prescribed op q n) ≡ q_number (start fs k) -ℤ q_number (finish fs k) =
      total-map (weight es fs x) (λ v. record { origin = OfQ v; number = q_number v; point = get_or q.points v [] }) (upto m) ∙ vertices_total fs k m q_number s f in
      let by_others : total (weight es fs x) (p_prescribed op p n) ≡ pos 0 =
      total-map (weight es fs x) (λ v. record { origin = OfP v; number = constant op 0 +ℤ c *ℤ get_or n.w02 v (pos 0); point = get_or p.points v [] })
      (upto (length p.points)) ∙ none_total (λ v. constant op 0 +ℤ c *ℤ get_or n.w02 v (pos 0)) (upto (length p.points)) in
      let by_hits : total (weight es fs x) (hits_prescribed op n) ≡ neg_ℤ (c *ℤ total (λ h. cond (h.q_edge == k) h.number (pos 0)) n.hits) =
      total-map (weight es fs x) (λ (h : FlatHit). record { origin = OfBoth h.p_edge h.q_edge; number = c *ℤ h.number; point = h.at }) n.hits
      ∙ hits_total_turned c (λ h. h.q_edge == k) n.hits in
      let turn = total (λ h. cond (h.q_edge == k) h.number (pos 0)) n.hits in
      let change = ap (λ z. c *ℤ z) (keeps.q_edges k low) ∙ mul-sub c (get_or n.w20 (start fs k) (pos 0)) turn in
      copies_total es fs x (p_prescribed op p n ++ (q_prescribed op q n ++ hits_prescribed op n))
      ∙ three_totals (weight es fs x) (p_prescribed op p n) (q_prescribed op q n) (hits_prescribed op n) ∙ omega (arith, ints, by_vertices, by_others, by_hits, change)

  -- so all lists of edges are even
  pub are_even : ((k : ℕ) → k < length es → (start es k < length p.points) × (finish es k < length p.points)) →
      ((k : ℕ) → k < length fs → (start fs k < length q.points) × (finish fs k < length q.points)) →
      AreEven (flat_standing es fs (flat_copies op p q n)) (length (flat_copies op p q n)) (flat_lists es fs)
  are_even p_ends q_ends =
      let cs = flat_copies op p q n in
      let even : FlatList → Type 0 = λ x. length (filter (λ v. int_lt (pos 0) (flat_standing es fs cs x v)) (upto (length cs)))
      ≡ length (filter (λ v. int_lt (flat_standing es fs cs x v) (pos 0)) (upto (length cs))) in
      let unit : (x : FlatList) (c : FlatCopy) → IsUnit (stands es fs x c) = λ x c. signed_unit c.negative (flat_incidence es fs x c.origin) (incidence_unit es fs x c.origin) in
      All-append even (map EdgeP (upto (length es))) (map EdgeQ (upto (length fs)))
      (All-map even EdgeP (upto (length es))
      (all_upto (λ k. even (EdgeP k)) (length es)
      (λ k low. even_places (stands es fs (EdgeP k)) (unit (EdgeP k)) no_flat_copy cs (p_even k low (p_ends k low).0 (p_ends k low).1))))
      (All-map even EdgeQ (upto (length fs))
      (all_upto (λ k. even (EdgeQ k)) (length fs)
      (λ k low. even_places (stands es fs (EdgeQ k)) (unit (EdgeQ k)) no_flat_copy cs (q_even k low (q_ends k low).0 (q_ends k low).1))))
