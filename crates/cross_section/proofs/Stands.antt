-- In which lists copies stand, by the lists' numbers.
use Rattle.std.proofs.Common.{◌≡◌, ◌≢◌, ℕ, ◌+◌, ◌<◌, ◌==◌, cond, Bool, true, false, ℤ, pos, neg_ℤ, List, length, get_or, int_lt, map, refl, sym, ap, ◌∙◌, arith}
use Rattle.std.specs.Prelude.{◌-ℤ◌}
use Rattle.std.specs.List.{All, filter}
use Rattle.std.proofs.lemmas.Bool.{eq-eqb, eqb-true, ne_eqb}
use Rattle.std.proofs.lemmas.Int.{ints}
use Rattle.std.proofs.lemmas.List.{get_or-map, length-map}
use Rattle.chain_terms.specs.Sums.{upto}
use Rattle.chain_laws.proofs.Ascending.{filter-upto_same}
use Rattle.places_by_key.specs.Buckets.{places_of}
use Rattle.face_loops.specs.Standings.{ends_in, starts_in}
use Rattle.outline_pair_terms.specs.Lists.{EdgeP, EdgeQ, FlatCopy, FlatList, FlatOrigin, OfBoth, OfP, OfQ, at_same, flat_incidence, flat_standing, no_flat_copy}
use Rattle.outline_pair_terms.specs.Laws.{IsOfBoth}
use Rattle.cross_section.specs.Copies.{end_list, entering, leaving, list_from, list_to, start_list}
use Rattle.cross_section.proofs.Placed.{IsAt, same_test}

-- the number of a list: P's edges first
abbrev pub list_number : List (ℕ × ℕ) → FlatList → ℕ
list_number p (EdgeP k) = k
list_number p (EdgeQ k) = length p + k

-- its edge is there
abbrev pub IsThere : (p q : List (ℕ × ℕ)) → FlatList → Type 0
IsThere p q (EdgeP k) = k < length p
IsThere p q (EdgeQ k) = k < length q

-- 0 for different numbers
other_same : (a b : ℕ) → a ≢ b → at_same a b ≡ pos 0
other_same a b d = ap (λ t. cond t (pos 1) (pos 0)) (ne_eqb a b d)

-- so many later it is the same
later_same : (n a b : ℕ) → at_same (n + a) (n + b) ≡ at_same a b
later_same n a b =
    ap (λ t. cond t (pos 1) (pos 0))
    (same_test (n + a == n + b) (a == b) (λ h. eq-eqb a b (omega (arith, eqb-true (n + a) (n + b) h))) (λ h. eq-eqb (n + a) (n + b) (omega (arith, eqb-true a b h))))

-- a number that is 1 at the first of two lists, -1 at the second, with the sign of a copy
signed_by : (b : Bool) (from to m : ℕ) (z : ℤ) → z ≡ at_same from m -ℤ at_same to m → cond b (neg_ℤ z) z ≡ at_same (cond b to from) m -ℤ at_same (cond b from to) m
signed_by true from to m z e = omega (arith, ints, e)
signed_by false from to m z e = e

-- above 0 at the first alone, below 0 at the second alone
above_first : (a b : Bool) → (a ≡ true → b ≡ true → ⊥) → int_lt (pos 0) (cond a (pos 1) (pos 0) -ℤ cond b (pos 1) (pos 0)) ≡ a
above_first true true other = absurd (other refl refl)
above_first true false other = refl
above_first false true other = refl
above_first false false other = refl

below_second : (a b : Bool) → (a ≡ true → b ≡ true → ⊥) → int_lt (cond a (pos 1) (pos 0) -ℤ cond b (pos 1) (pos 0)) (pos 0) ≡ b
below_second true true other = absurd (other refl refl)
below_second true false other = refl
below_second false true other = refl
below_second false false other = refl

-- two different numbers are not both a third
not_both : (f t m : ℕ) → f ≢ t → (f == m) ≡ true → (t == m) ≡ true → ⊥
not_both f t m d h k = d (eqb-true f m h ∙ sym (eqb-true t m k))

exchanged : (b : Bool) (f t : ℕ) → f ≢ t → cond b t f ≢ cond b f t
exchanged true f t d e = d (sym e)
exchanged false f t d e = d e

module _ (p q : List (ℕ × ℕ)) (m n : ℕ) (p_at : (v : ℕ) → v < m → IsAt p v) (q_at : (v : ℕ) → v < n → IsAt q v) where
  -- what a copy is a copy of is a start of one list and an end of another
  incidence_by : (x : FlatList) (o : FlatOrigin) → IsThere p q x → IsOfBoth p q m n o →
      flat_incidence p q x o ≡ at_same (list_from p q o) (list_number p x) -ℤ at_same (list_to p q o) (list_number p x)
  incidence_by (EdgeP k) (OfP v) low h = λ i. cond ((p_at v h).from k low i) (pos 1) (pos 0) -ℤ cond ((p_at v h).to k low i) (pos 1) (pos 0)
  incidence_by (EdgeP k) (OfQ v) low h =
      omega (arith, ints, other_same (length p + leaving q v) k (λ e. omega (arith, e, low)), other_same (length p + entering q v) k (λ e. omega (arith, e, low)))
  incidence_by (EdgeP k) (OfBoth i j) low h = omega (arith, ints, other_same (length p + j) k (λ e. omega (arith, e, low)))
  incidence_by (EdgeQ k) (OfP v) low h =
      let at = p_at v h in
      let leaves = at.leaves in
      let enters = at.enters in
      omega (arith, ints, other_same (leaving p v) (length p + k) (λ e. omega (arith, e, leaves)), other_same (entering p v) (length p + k) (λ e. omega (arith, e, enters)))
  incidence_by (EdgeQ k) (OfQ v) low h =
      let here : flat_incidence p q (EdgeQ k) (OfQ v) ≡ at_same (leaving q v) k -ℤ at_same (entering q v)
      k = λ i. cond ((q_at v h).from k low i) (pos 1) (pos 0) -ℤ cond ((q_at v h).to k low i) (pos 1) (pos 0) in
      omega (arith, ints, here, later_same (length p) (leaving q v) k, later_same (length p) (entering q v) k)
  incidence_by (EdgeQ k) (OfBoth i j) low h =
      let on_p = h.0 in
      omega (arith, ints, other_same i (length p + k) (λ e. omega (arith, e, on_p)), later_same (length p) j k)

  -- and these differ
  lists_differ : (o : FlatOrigin) → IsOfBoth p q m n o → list_from p q o ≢ list_to p q o
  lists_differ (OfP v) h = (p_at v h).apart
  lists_differ (OfQ v) h = λ e. (q_at v h).apart (omega (arith, e))
  lists_differ (OfBoth i j) h = λ e. let on_p = h.0 in omega (arith, e, on_p)

  -- how a copy stands in a list
  abbrev stands : FlatList → FlatCopy → ℤ
  stands x c = let z = flat_incidence p q x c.origin in cond c.negative (neg_ℤ z) z

  stands_by : (x : FlatList) (c : FlatCopy) → IsThere p q x → IsOfBoth p q m n c.origin →
      stands x c ≡ at_same (start_list p q c) (list_number p x) -ℤ at_same (end_list p q c) (list_number p x)
  stands_by x c low h =
      signed_by c.negative (list_from p q c.origin) (list_to p q c.origin) (list_number p x) (flat_incidence p q x c.origin) (incidence_by x c.origin low h)

  starts_where : (x : FlatList) (c : FlatCopy) → IsThere p q x → IsOfBoth p q m n c.origin → int_lt (pos 0) (stands x c) ≡ (start_list p q c == list_number p x)
  starts_where x c low h =
      let k = list_number p x in
      ap (λ z. int_lt (pos 0) z) (stands_by x c low h)
      ∙ above_first (start_list p q c == k) (end_list p q c == k)
      (not_both (start_list p q c) (end_list p q c) k (exchanged c.negative (list_from p q c.origin) (list_to p q c.origin) (lists_differ c.origin h)))

  ends_where : (x : FlatList) (c : FlatCopy) → IsThere p q x → IsOfBoth p q m n c.origin → int_lt (stands x c) (pos 0) ≡ (end_list p q c == list_number p x)
  ends_where x c low h =
      let k = list_number p x in
      ap (λ z. int_lt z (pos 0)) (stands_by x c low h)
      ∙ below_second (start_list p q c == k) (end_list p q c == k)
      (not_both (start_list p q c) (end_list p q c) k (exchanged c.negative (list_from p q c.origin) (list_to p q c.origin) (lists_differ c.origin h)))

  -- so the starts of a list are the places at which its number stands, and the ends likewise
  pub starts_are : (cs : List FlatCopy) → All (λ c. IsOfBoth p q m n c.origin) cs → (x : FlatList) → IsThere p q x →
      starts_in (flat_standing p q cs) (length cs) x ≡ places_of (map (start_list p q) cs) (list_number p x)
  starts_are cs known x low =
      let keys = map (start_list p q) cs in
      let k = list_number p x in
      filter-upto_same (λ v. int_lt (pos 0) (flat_standing p q cs x v)) (λ v. get_or keys v 0 == k) (length cs)
      (λ v below. starts_where x (get_or cs v no_flat_copy) low (known v no_flat_copy below) ∙ ap (λ l. l == k) (sym (get_or-map (start_list p q) cs v no_flat_copy 0 below)))
      ∙ ap (λ l. filter (λ v. get_or keys v 0 == k) (upto l)) (sym (length-map cs (start_list p q)))

  pub ends_are : (cs : List FlatCopy) → All (λ c. IsOfBoth p q m n c.origin) cs → (x : FlatList) → IsThere p q x →
      ends_in (flat_standing p q cs) (length cs) x ≡ places_of (map (end_list p q) cs) (list_number p x)
  ends_are cs known x low =
      let keys = map (end_list p q) cs in
      let k = list_number p x in
      filter-upto_same (λ v. int_lt (flat_standing p q cs x v) (pos 0)) (λ v. get_or keys v 0 == k) (length cs)
      (λ v below. ends_where x (get_or cs v no_flat_copy) low (known v no_flat_copy below) ∙ ap (λ l. l == k) (sym (get_or-map (end_list p q) cs v no_flat_copy 0 below)))
      ∙ ap (λ l. filter (λ v. get_or keys v 0 == k) (upto l)) (sym (length-map cs (end_list p q)))

  -- all lists that copies stand in are there
  pub list_below : (c : FlatCopy) → IsOfBoth p q m n c.origin → (start_list p q c < length p + length q) × (end_list p q c < length p + length q)
  list_below c h = by c.negative c.origin h where
    by : (b : Bool) (o : FlatOrigin) → IsOfBoth p q m n o →
        (cond b (list_to p q o) (list_from p q o) < length p + length q) × (cond b (list_from p q o) (list_to p q o) < length p + length q)
    by true (OfP v) h = let at = p_at v h in let l = at.leaves in let e = at.enters in (omega (arith, l, e), omega (arith, l, e))
    by false (OfP v) h = let at = p_at v h in let l = at.leaves in let e = at.enters in (omega (arith, l, e), omega (arith, l, e))
    by true (OfQ v) h = let at = q_at v h in let l = at.leaves in let e = at.enters in (omega (arith, l, e), omega (arith, l, e))
    by false (OfQ v) h = let at = q_at v h in let l = at.leaves in let e = at.enters in (omega (arith, l, e), omega (arith, l, e))
    by true (OfBoth i j) h = let l = h.0 in let e = h.1 in (omega (arith, l, e), omega (arith, l, e))
    by false (OfBoth i j) h = let l = h.0 in let e = h.1 in (omega (arith, l, e), omega (arith, l, e))
