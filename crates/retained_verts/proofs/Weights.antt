-- Sums of weights: what the copies of one item, of vertices and of hits add up to in a list.
use Rattle.std.proofs.Common.{◌≡◌, ℕ, zero, suc, ◌<◌, inl, inr, Bool, true, false, cond, ◌==◌, ℤ, pos, negsuc, neg_ℤ, ◌-ℤ◌, ◌*ℤ◌, List, [], ◌∷◌, filter, replicate, length, get_or, nat_abs, int_lt, count_by, refl, arith, ap, sym, ◌∙◌}
use Rattle.std.specs.List.{flat_map}
use Rattle.std.proofs.lemmas.Int.{ints}
use Rattle.std.proofs.lemmas.Bool.{cases_eq, eq-eqb, ne_eqb, le-ltb}
use Rattle.std.proofs.lemmas.List.Sums.{length-filter}
use Rattle.chain_terms.specs.Chains.{one_if}
use Rattle.chain_terms.specs.Ranks.{start, finish}
use Rattle.chain_terms.specs.Sums.{total, upto}
use Rattle.chain_laws.specs.Counts.{count_by-cons, total-count_by}
use Rattle.chain_laws.specs.Products.{mul-assoc, mul-neg, mul-sub, neg-mul, total-times}
use Rattle.chain_laws.specs.Sums.{IsWithin, total-flat_map, total-map, total-neg, total-same, total-sub, total-zero}
use Rattle.chain_laws.proofs.Places.{one_hit_of, total-places, where_same, where_same-apart, where_same-at}
use Rattle.mb_base.specs.declared.results.Hit.{Hit}
use Rattle.mb_base.specs.declared.results.Origin.{Origin}
use Rattle.mb_base.specs.declared.results.Origin.TheVariants.{PVertex, QVertex, PEdge, QEdge}
use Rattle.side_terms.specs.Lists.{Copy, ListName, HalfP, HalfQ, PairP, PairQ, at_end, at_same, ends, in_half_p, in_half_q, in_pair, incidence, no_copy, standing, starts, way, way_round}
use Rattle.side_terms.specs.Prescribed.{Prescription, copies_of, copy_of, prescribed_hits, prescribed_vertices}
use Rattle.retained_verts.proofs.Units.{unit_parts}
use Rattle.retained_verts.proofs.Ways.{at_same_is, same_few, way_round_within, way_within}

-- equal members
pub total-replicate : {X : Type 0} (f : X → ℤ) (n : ℕ) (x : X) → total f (replicate n x) ≡ pos n *ℤ f x
total-replicate f zero x = omega (arith, ints)
total-replicate f (suc n) x = omega (arith, ints, total-replicate f n x)

-- a size with its sign
signed_size : (n z : ℤ) → pos (nat_abs n) *ℤ cond (int_lt n (pos 0)) (neg_ℤ z) z ≡ n *ℤ z
signed_size (pos k) z = ap (λ t. pos k *ℤ cond t (neg_ℤ z) z) (le-ltb k 0 (omega arith))
signed_size (negsuc k) z = mul-neg (pos (suc k)) z ∙ sym (neg-mul (pos (suc k)) z)

-- what is prescribed counts by its number
abbrev pub weight : (p q : List (ℕ × ℕ)) → ListName → Prescription → ℤ
weight p q name i = i.number *ℤ incidence p q name i.origin

pub total-copies : (p q : List (ℕ × ℕ)) (name : ListName) (is : List Prescription) → total (standing p q name) (flat_map copies_of is) ≡ total (weight p q name) is
total-copies p q name is =
    total-flat_map (standing p q name) copies_of is
    ∙ total-same (λ i. total (standing p q name) (copies_of i)) (weight p q name)
    (λ i. total-replicate (standing p q name) (nat_abs i.number) (copy_of i) ∙ signed_size i.number (incidence p q name i.origin)) is

-- vertices, and hits
pub total-vertices : (p q : List (ℕ × ℕ)) (name : ListName) (origin : ℕ → Origin) (number : ℤ → ℤ) (ws : List ℤ) (ps : List (List ℤ)) (n : ℕ) →
    total (weight p q name) (prescribed_vertices origin number ws ps n) ≡ total (λ v. number (get_or ws v (pos 0)) *ℤ incidence p q name (origin v)) (upto n)
total-vertices p q name origin number ws ps n =
    total-map (weight p q name) (λ v. record { origin = origin v; number = number (get_or ws v (pos 0)); point = get_or ps v [] }) (upto n)

pub total-hits : (p q : List (ℕ × ℕ)) (name : ListName) (origin : ℕ → ℕ → Origin) (number : ℤ → ℤ) (hs : List Hit) →
    total (weight p q name) (prescribed_hits origin number hs) ≡ total (λ h. number h.number *ℤ incidence p q name (origin h.edge h.face)) hs
total-hits p q name origin number hs = total-map (weight p q name) (λ h. record { origin = origin h.edge h.face; number = number h.number; point = h.at }) hs

-- where the incidence is 0
pub no_weight : {X : Type 0} (number : X → ℤ) (xs : List X) → total (λ x. number x *ℤ pos 0) xs ≡ pos 0
no_weight number xs = total-same (λ x. number x *ℤ pos 0) (λ x. pos 0) (λ x. zero_times (number x)) xs ∙ total-zero xs
  where
    zero_times : (z : ℤ) → z *ℤ pos 0 ≡ pos 0
    zero_times z = omega (arith, ints)

-- one vertex alone
picked : (z : ℤ) (s v : ℕ) → z *ℤ at_same s v ≡ where_same v s z
picked z s v = elim (cases_eq s v) as (λ _. z *ℤ at_same s v ≡ where_same v s z) [
  | inl e ↦ ap (λ t. z *ℤ cond t (pos 1) (pos 0)) (eq-eqb s v e) ∙ omega (arith, ints, where_same-at v s z (sym e))
  | inr d ↦ ap (λ t. z *ℤ cond t (pos 1) (pos 0)) (ne_eqb s v d) ∙ omega (arith, ints, where_same-apart v s z (λ e. d (sym e)))
]

-- the two ends of a half-edge
pub total-ends : (number : ℕ → ℤ) (s f n : ℕ) → s < n → f < n → total (λ v. number v *ℤ (at_same s v -ℤ at_same f v)) (upto n) ≡ number s -ℤ number f
total-ends number s f n from to =
    let at : ℕ → ℕ → ℤ = λ c v. where_same v c (number v) in
    let each = total-same (λ v. number v *ℤ (at_same s v -ℤ at_same f v)) (λ v. at s v -ℤ at f v)
    (λ v. let m = mul-sub (number v) (at_same s v) (at_same f v) in omega (arith, ints, m, picked (number v) s v, picked (number v) f v)) (upto n) in
    let split = total-sub (at s) (at f) (upto n) in
    let first : total (at s) (upto n) ≡ number s = one_hit_of number s n from in
    let last : total (at f) (upto n) ≡ number f = one_hit_of number f n to in
    omega (arith, ints, each, split, first, last)

-- a common factor before a sum over hits
pub total-factor : {X : Type 0} (c : ℤ) (n w : X → ℤ) (xs : List X) → total (λ x. (c *ℤ n x) *ℤ w x) xs ≡ c *ℤ total (λ x. n x *ℤ w x) xs
total-factor c n w xs = total-same (λ x. (c *ℤ n x) *ℤ w x) (λ x. c *ℤ (n x *ℤ w x)) (λ x. mul-assoc c (n x) (w x)) xs ∙ total-times c (λ x. n x *ℤ w x) xs

-- the same with a minus
pub total-against : {X : Type 0} (c : ℤ) (n w u : X → ℤ) (xs : List X) → ((x : X) → u x ≡ neg_ℤ (w x)) → total (λ x. (c *ℤ n x) *ℤ u x) xs ≡ neg_ℤ (c *ℤ total (λ x. n x *ℤ w x) xs)
total-against c n w u xs turned =
    total-same (λ x. (c *ℤ n x) *ℤ u x) (λ x. neg_ℤ ((c *ℤ n x) *ℤ w x)) (λ x. ap (λ z. (c *ℤ n x) *ℤ z) (turned x) ∙ mul-neg (c *ℤ n x) (w x)) xs
    ∙ total-neg (λ x. (c *ℤ n x) *ℤ w x) xs ∙ ap neg_ℤ (total-factor c n w xs)

-- a minus within 1, and a choice
within_neg : (z : ℤ) → IsWithin z 1 → IsWithin (neg_ℤ z) 1
within_neg z h = record { low = omega (arith, ints, h.high); high = omega (arith, ints, h.low) }

within_cond : (t : Bool) (x y : ℤ) → IsWithin x 1 → IsWithin y 1 → IsWithin (cond t x y) 1
within_cond true x y h k = h
within_cond false x y h k = k

zero_within : IsWithin (pos 0) 1
zero_within = record { low = omega (arith, ints); high = omega (arith, ints) }

at_end_within : (es : List (ℕ × ℕ)) (h v : ℕ) → IsWithin (at_end es h v) 1
at_end_within es h v =
    let s = start es h in
    let f = finish es h in
    let a = at_same_is s v in
    let b = at_same_is f v in
    record { low = omega (arith, ints, a, b, same_few s v, same_few f v); high = omega (arith, ints, a, b, same_few s v, same_few f v) }

half_p_within : (p : List (ℕ × ℕ)) (h : ℕ) (x : Origin) → IsWithin (in_half_p p h x) 1
half_p_within p h (PVertex v) = at_end_within p h v
half_p_within p h (QVertex v) = zero_within
half_p_within p h (PEdge e face) = within_neg (way p h e) (way_within p h e)
half_p_within p h (QEdge e face) = zero_within

half_q_within : (q : List (ℕ × ℕ)) (h : ℕ) (x : Origin) → IsWithin (in_half_q q h x) 1
half_q_within q h (PVertex v) = zero_within
half_q_within q h (QVertex v) = at_end_within q h v
half_q_within q h (PEdge e face) = zero_within
half_q_within q h (QEdge e face) = within_neg (way q h e) (way_within q h e)

pair_within : (p q : List (ℕ × ℕ)) (f g : ℕ) (x : Origin) → IsWithin (in_pair p q f g x) 1
pair_within p q f g (PVertex v) = zero_within
pair_within p q f g (QVertex v) = zero_within
pair_within p q f g (PEdge e face) = within_cond (face == g) (way_round p f e) (pos 0) (way_round_within p f e) zero_within
pair_within p q f g (QEdge e face) = within_cond (face == f) (neg_ℤ (way_round q g e)) (pos 0) (within_neg (way_round q g e) (way_round_within q g e)) zero_within

incidence_within : (p q : List (ℕ × ℕ)) (name : ListName) (x : Origin) → IsWithin (incidence p q name x) 1
incidence_within p q (HalfP h) x = half_p_within p h x
incidence_within p q (HalfQ h) x = half_q_within q h x
incidence_within p q (PairP f g) x = pair_within p q f g x
incidence_within p q (PairQ g f) x = within_neg (in_pair p q f g x) (pair_within p q f g x)

pub standing_within : (p q : List (ℕ × ℕ)) (name : ListName) (c : Copy) → IsWithin (standing p q name c) 1
standing_within p q name c =
    within_cond c.negative (neg_ℤ (incidence p q name c.origin)) (incidence p q name c.origin)
    (within_neg (incidence p q name c.origin) (incidence_within p q name c.origin)) (incidence_within p q name c.origin)

-- a sum of such numbers is how many are above 0 less how many are below
total-units : {X : Type 0} (f : X → ℤ) → ((x : X) → IsWithin (f x) 1) → (xs : List X) →
    total f xs ≡ pos (count_by (λ x. int_lt (pos 0) (f x)) xs) -ℤ pos (count_by (λ x. int_lt (f x) (pos 0)) xs)
total-units f within [] = refl
total-units f within (x ∷ xs) =
    let parts = unit_parts (f x) (within x) in
    omega (arith, ints, parts.value, total-units f within xs, count_by-cons (λ y. int_lt (pos 0) (f y)) x xs, count_by-cons (λ y. int_lt (f y) (pos 0)) x xs)

-- the places that pass a test are as many as the members
pub length-places : {X : Type 0} (test : X → Bool) (d : X) (xs : List X) → length (filter (λ v. test (get_or xs v d)) (upto (length xs))) ≡ count_by test xs
length-places test d xs =
    omega (
      arith,
      ints,
      length-filter (λ v. test (get_or xs v d)) (upto (length xs)),
      total-count_by test xs,
      total-count_by (λ v. test (get_or xs v d))
          (upto (length xs)),
      total-places (λ x. pos (one_if (test x))) d xs,
    )

-- where the standings add up to 0, there are as many starts as ends
pub even_from_sum : (p q : List (ℕ × ℕ)) (cs : List Copy) (name : ListName) → total (standing p q name) cs ≡ pos 0 → length (starts p q cs name) ≡ length (ends p q cs name)
even_from_sum p q cs name sum =
    omega (
      arith,
      ints,
      sum,
      total-units (standing p q name) (standing_within p q name) cs,
      length-places (λ c. int_lt (pos 0) (standing p q name c)) no_copy
          cs,
      length-places (λ c. int_lt (standing p q name c) (pos 0)) no_copy cs,
    )
