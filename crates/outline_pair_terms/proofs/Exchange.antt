-- Two lists in which two copies both stand, each as what the other is not, would make an edge run back.
use Rattle.std.proofs.Common.{◌≡◌, ◌≢◌, ℕ, ◌<◌, ◌⊎◌, inl, inr, Bool, true, false, cond, ◌==◌, ℤ, pos, negsuc, neg_ℤ, List, length, map, get_or, int_lt, refl, sym, ap, ◌∙◌, arith}
use Rattle.std.specs.Prelude.{◌<ℤ◌}
use Rattle.std.specs.List.{All, Contains}
use Rattle.std.proofs.lemmas.Int.{ints}
use Rattle.std.proofs.lemmas.Bool.{both_ways, cases_Bool, eqb-true}
use Rattle.std.proofs.lemmas.Bool.Decides.{Decides-ltb}
use Rattle.std.proofs.lemmas.List.{get_or_default}
use Rattle.std.proofs.lemmas.List.Elements.{All-append, All-contains, All-from_get_or, All-map}
use Rattle.chain_terms.specs.Ranks.{start, finish}
use Rattle.chain_terms.specs.Sums.{upto}
use Rattle.chain_laws.proofs.Places.{get_or-up_from, length-up_from}
use Rattle.face_loops.specs.Standings.{NoneExchanged}
use Rattle.outline_pair_terms.specs.Lists.{EdgeP, EdgeQ, FlatCopy, FlatList, FlatOrigin, OfBoth, OfP, OfQ, at_end, at_same, flat_incidence, flat_lists, flat_standing, no_flat_copy}
use Rattle.outline_terms.proofs.Returning.{NoReturn}

-- above 0, and below
above : (z : ℤ) → int_lt (pos 0) z ≡ true → pos 0 <ℤ z
above (pos n) h = let l = (Decides-ltb 0 n).0 h in omega (arith, ints, l)
above (negsuc n) h = absurd (both_ways false refl h)

beneath : (z : ℤ) → int_lt z (pos 0) ≡ true → z <ℤ pos 0
beneath (pos n) h = let l = (Decides-ltb n 0).0 h in absurd (omega (arith, l))
beneath (negsuc n) h = omega (arith, ints)

-- one above and one below
abbrev Opposed : ℤ → ℤ → Type 0
Opposed y z = (pos 0 <ℤ y) × (z <ℤ pos 0) ⊎ (y <ℤ pos 0) × (pos 0 <ℤ z)

-- what a sign turns is opposed before it is turned
unturned : (b : Bool) (y z : ℤ) → Opposed (cond b (neg_ℤ y) y) (cond b (neg_ℤ z) z) → Opposed y z
unturned true y z (inl h) = inr (omega (arith, ints, h.0), omega (arith, ints, h.1))
unturned true y z (inr h) = inl (omega (arith, ints, h.0), omega (arith, ints, h.1))
unturned false y z h = h

-- 1 where two numbers are the same, else 0
same_or : (a b : ℕ) → (a ≡ b) × (at_same a b ≡ pos 1) ⊎ (at_same a b ≡ pos 0)
same_or a b = elim (cases_Bool (a == b)) as (λ _. (a ≡ b) × (at_same a b ≡ pos 1) ⊎ (at_same a b ≡ pos 0)) [
  | inl y ↦ inl (eqb-true a b y, ap (λ c. cond c (pos 1) (pos 0)) y)
  | inr m ↦ inr (ap (λ c. cond c (pos 1) (pos 0)) m)
]

same_some : (a b : ℕ) → at_same a b ≢ pos 0 → a ≡ b
same_some a b n = elim (same_or a b) as (λ _. a ≡ b) [ inl h ↦ h.0 | inr e ↦ absurd (n e) ]

not_below : (a b : ℕ) → at_same a b <ℤ pos 0 → ⊥
not_below a b l = elim (same_or a b) as (λ _. ⊥) [ inl h ↦ omega (arith, ints, l, h.1) | inr e ↦ omega (arith, ints, l, e) ]

-- a vertex that is a start of one edge and an end of another
abbrev Between : List (ℕ × ℕ) → ℕ → ℕ → ℕ → Type 0
Between es k m v = (start es k ≡ v) × (finish es m ≡ v) ⊎ (finish es k ≡ v) × (start es m ≡ v)

start_above : (es : List (ℕ × ℕ)) (k v : ℕ) → pos 0 <ℤ at_end es k v → start es k ≡ v
start_above es k v l = elim (same_or (start es k) v) as (λ _. start es k ≡ v) [
  | inl h ↦ h.0
  | inr e ↦ absurd (elim (same_or (finish es k) v) as (λ _. ⊥) [ inl g ↦ omega (arith, ints, l, e, g.1) | inr g ↦ omega (arith, ints, l, e, g) ])
]

finish_below : (es : List (ℕ × ℕ)) (k v : ℕ) → at_end es k v <ℤ pos 0 → finish es k ≡ v
finish_below es k v l = elim (same_or (finish es k) v) as (λ _. finish es k ≡ v) [
  | inl h ↦ h.0
  | inr e ↦ absurd (elim (same_or (start es k) v) as (λ _. ⊥) [ inl g ↦ omega (arith, ints, l, e, g.1) | inr g ↦ omega (arith, ints, l, e, g) ])
]

between : (es : List (ℕ × ℕ)) (k m v : ℕ) → Opposed (at_end es k v) (at_end es m v) → Between es k m v
between es k m v (inl h) = inl (start_above es k v h.0, finish_below es m v h.1)
between es k m v (inr h) = inr (finish_below es k v h.0, start_above es m v h.1)

-- what two lists tell of what stands in both, once as a start and once as an end
Told : (p q : List (ℕ × ℕ)) → FlatList → FlatList → FlatOrigin → Type 0
Told p q (EdgeP k) (EdgeP m) (OfP v) = Between p k m v
Told p q (EdgeP k) (EdgeP m) (OfQ v) = ⊥
Told p q (EdgeP k) (EdgeP m) (OfBoth i j) = ⊥
Told p q (EdgeP k) (EdgeQ m) (OfP v) = ⊥
Told p q (EdgeP k) (EdgeQ m) (OfQ v) = ⊥
Told p q (EdgeP k) (EdgeQ m) (OfBoth i j) = (i ≡ k) × (j ≡ m)
Told p q (EdgeQ k) (EdgeP m) (OfP v) = ⊥
Told p q (EdgeQ k) (EdgeP m) (OfQ v) = ⊥
Told p q (EdgeQ k) (EdgeP m) (OfBoth i j) = (i ≡ m) × (j ≡ k)
Told p q (EdgeQ k) (EdgeQ m) (OfP v) = ⊥
Told p q (EdgeQ k) (EdgeQ m) (OfQ v) = Between q k m v
Told p q (EdgeQ k) (EdgeQ m) (OfBoth i j) = ⊥

told : (p q : List (ℕ × ℕ)) (x y : FlatList) (o : FlatOrigin) → Opposed (flat_incidence p q x o) (flat_incidence p q y o) → Told p q x y o
unfolding Told
told p q (EdgeP k) (EdgeP m) (OfP v) h = between p k m v h
told p q (EdgeP k) (EdgeP m) (OfQ v) (inl h) = omega (arith, ints, h.0)
told p q (EdgeP k) (EdgeP m) (OfQ v) (inr h) = omega (arith, ints, h.0)
told p q (EdgeP k) (EdgeP m) (OfBoth i j) (inl h) = not_below i m h.1
told p q (EdgeP k) (EdgeP m) (OfBoth i j) (inr h) = not_below i k h.0
told p q (EdgeP k) (EdgeQ m) (OfP v) (inl h) = omega (arith, ints, h.1)
told p q (EdgeP k) (EdgeQ m) (OfP v) (inr h) = omega (arith, ints, h.1)
told p q (EdgeP k) (EdgeQ m) (OfQ v) (inl h) = omega (arith, ints, h.0)
told p q (EdgeP k) (EdgeQ m) (OfQ v) (inr h) = omega (arith, ints, h.0)
told p q (EdgeP k) (EdgeQ m) (OfBoth i j) (inl h) = (same_some i k (λ e. omega (arith, ints, h.0, e)), same_some j m (λ e. omega (arith, ints, h.1, e)))
told p q (EdgeP k) (EdgeQ m) (OfBoth i j) (inr h) = (same_some i k (λ e. omega (arith, ints, h.0, e)), same_some j m (λ e. omega (arith, ints, h.1, e)))
told p q (EdgeQ k) (EdgeP m) (OfP v) (inl h) = omega (arith, ints, h.0)
told p q (EdgeQ k) (EdgeP m) (OfP v) (inr h) = omega (arith, ints, h.0)
told p q (EdgeQ k) (EdgeP m) (OfQ v) (inl h) = omega (arith, ints, h.1)
told p q (EdgeQ k) (EdgeP m) (OfQ v) (inr h) = omega (arith, ints, h.1)
told p q (EdgeQ k) (EdgeP m) (OfBoth i j) (inl h) = (same_some i m (λ e. omega (arith, ints, h.1, e)), same_some j k (λ e. omega (arith, ints, h.0, e)))
told p q (EdgeQ k) (EdgeP m) (OfBoth i j) (inr h) = (same_some i m (λ e. omega (arith, ints, h.1, e)), same_some j k (λ e. omega (arith, ints, h.0, e)))
told p q (EdgeQ k) (EdgeQ m) (OfP v) (inl h) = omega (arith, ints, h.0)
told p q (EdgeQ k) (EdgeQ m) (OfP v) (inr h) = omega (arith, ints, h.0)
told p q (EdgeQ k) (EdgeQ m) (OfQ v) h = between q k m v h
told p q (EdgeQ k) (EdgeQ m) (OfBoth i j) (inl h) = not_below j k (omega (arith, ints, h.0))
told p q (EdgeQ k) (EdgeQ m) (OfBoth i j) (inr h) = not_below j m (omega (arith, ints, h.1))

-- the list is that of an edge
abbrev pub IsEdgeOf : (p q : List (ℕ × ℕ)) → FlatList → Type 0
IsEdgeOf p q (EdgeP k) = k < length p
IsEdgeOf p q (EdgeQ k) = k < length q

edge_here : (es : List (ℕ × ℕ)) (k v w : ℕ) → k < length es → start es k ≡ v → finish es k ≡ w → Contains es (v, w)
edge_here es k v w low e f = (k, low, get_or_default es k (v, w) (0, 0) low ∙ (λ i. (e i, f i)))

-- one vertex, where two stand so
same_between : (es : List (ℕ × ℕ)) → NoReturn es → (k m v w : ℕ) → k < length es → m < length es → Between es k m v → Between es k m w → v ≡ w
same_between es none k m v w kl ml (inl a) (inl b) = sym a.0 ∙ b.0
same_between es none k m v w kl ml (inr a) (inr b) = sym a.0 ∙ b.0
same_between es none k m v w kl ml (inl a) (inr b) = absurd (none v w (edge_here es k v w kl a.0 b.0) (edge_here es m w v ml b.1 a.1))
same_between es none k m v w kl ml (inr a) (inl b) = absurd (none w v (edge_here es k w v kl b.0 a.0) (edge_here es m v w ml a.1 b.1))

same_origin : (p q : List (ℕ × ℕ)) → NoReturn p → NoReturn q → (x y : FlatList) → IsEdgeOf p q x → IsEdgeOf p q y → (o r : FlatOrigin) → Told p q x y o → Told p q x y r → o ≡ r
unfolding Told
same_origin p q np nq (EdgeP k) (EdgeP m) kl ml (OfP v) (OfP w) a b = ap OfP (same_between p np k m v w kl ml a b)
same_origin p q np nq (EdgeP k) (EdgeP m) kl ml (OfP v) (OfQ w) a b = absurd b
same_origin p q np nq (EdgeP k) (EdgeP m) kl ml (OfP v) (OfBoth i j) a b = absurd b
same_origin p q np nq (EdgeP k) (EdgeP m) kl ml (OfQ v) r a b = absurd a
same_origin p q np nq (EdgeP k) (EdgeP m) kl ml (OfBoth i j) r a b = absurd a
same_origin p q np nq (EdgeP k) (EdgeQ m) kl ml (OfP v) r a b = absurd a
same_origin p q np nq (EdgeP k) (EdgeQ m) kl ml (OfQ v) r a b = absurd a
same_origin p q np nq (EdgeP k) (EdgeQ m) kl ml (OfBoth i j) (OfP w) a b = absurd b
same_origin p q np nq (EdgeP k) (EdgeQ m) kl ml (OfBoth i j) (OfQ w) a b = absurd b
same_origin p q np nq (EdgeP k) (EdgeQ m) kl ml (OfBoth i j) (OfBoth g h) a b = (λ t. OfBoth ((a.0 ∙ sym b.0) t) ((a.1 ∙ sym b.1) t))
same_origin p q np nq (EdgeQ k) (EdgeP m) kl ml (OfP v) r a b = absurd a
same_origin p q np nq (EdgeQ k) (EdgeP m) kl ml (OfQ v) r a b = absurd a
same_origin p q np nq (EdgeQ k) (EdgeP m) kl ml (OfBoth i j) (OfP w) a b = absurd b
same_origin p q np nq (EdgeQ k) (EdgeP m) kl ml (OfBoth i j) (OfQ w) a b = absurd b
same_origin p q np nq (EdgeQ k) (EdgeP m) kl ml (OfBoth i j) (OfBoth g h) a b = (λ t. OfBoth ((a.0 ∙ sym b.0) t) ((a.1 ∙ sym b.1) t))
same_origin p q np nq (EdgeQ k) (EdgeQ m) kl ml (OfP v) r a b = absurd a
same_origin p q np nq (EdgeQ k) (EdgeQ m) kl ml (OfQ v) (OfP w) a b = absurd b
same_origin p q np nq (EdgeQ k) (EdgeQ m) kl ml (OfQ v) (OfQ w) a b = ap OfQ (same_between q nq k m v w kl ml a b)
same_origin p q np nq (EdgeQ k) (EdgeQ m) kl ml (OfQ v) (OfBoth i j) a b = absurd b
same_origin p q np nq (EdgeQ k) (EdgeQ m) kl ml (OfBoth i j) r a b = absurd a

-- what holds of each number below n
pub all_upto : (P : ℕ → Type 0) (n : ℕ) → ((i : ℕ) → i < n → P i) → All P (upto n)
all_upto P n h = All-from_get_or P (upto n) 0 (λ i l. at i (omega (arith, length-up_from 0 n, l)))
  where
    at : (i : ℕ) → i < n → P (get_or (upto n) i 0)
    at i below = let e : get_or (upto n) i 0 ≡ i = omega (arith, get_or-up_from 0 n i 0 below) in rw e (h i below)

lists_known : (p q : List (ℕ × ℕ)) → All (IsEdgeOf p q) (flat_lists p q)
lists_known p q =
    All-append (IsEdgeOf p q) (map EdgeP (upto (length p))) (map EdgeQ (upto (length q)))
    (All-map (IsEdgeOf p q) EdgeP (upto (length p)) (all_upto (λ i. i < length p) (length p) (λ i l. l)))
    (All-map (IsEdgeOf p q) EdgeQ (upto (length q)) (all_upto (λ i. i < length q) (length q) (λ i l. l)))

-- copies of one thing have one sign
pub record AreSigned (cs : List FlatCopy) : Type 0 where
  pub sign : FlatOrigin → Bool
  pub signed : All (λ c. c.negative ≡ sign c.origin) cs

-- so no two copies are exchanged
pub none_exchanged : (p q : List (ℕ × ℕ)) (cs : List FlatCopy) → NoReturn p → NoReturn q → AreSigned cs → NoneExchanged (flat_standing p q cs) (length cs) (flat_lists p q)
none_exchanged p q cs np nq signs x y x_in y_in v w vl wl vx vy wx wy =
    let c = get_or cs v no_flat_copy in
    let d = get_or cs w no_flat_copy in
    let known = lists_known p q in
    let c_told = told p q x y c.origin
    (unturned c.negative (flat_incidence p q x c.origin) (flat_incidence p q y c.origin)
    (inl (above (flat_standing p q cs x v) vx, beneath (flat_standing p q cs y v) vy))) in
    let d_told = told p q x y d.origin
    (unturned d.negative (flat_incidence p q x d.origin) (flat_incidence p q y d.origin)
    (inr (beneath (flat_standing p q cs x w) wx, above (flat_standing p q cs y w) wy))) in
    let same = same_origin p q np nq x y (All-contains (IsEdgeOf p q) (flat_lists p q) x known x_in)
    (All-contains (IsEdgeOf p q) (flat_lists p q) y known y_in) c.origin d.origin c_told d_told in
    let turned : c.negative ≡ d.negative = signs.signed v no_flat_copy vl ∙ ap signs.sign same ∙ sym (signs.signed w no_flat_copy wl) in
    let alike : flat_standing p q cs x v ≡ flat_standing p q cs x w =
    ap (λ o. cond c.negative (neg_ℤ (flat_incidence p q x o)) (flat_incidence p q x o)) same
    ∙ ap (λ b. cond b (neg_ℤ (flat_incidence p q x d.origin)) (flat_incidence p q x d.origin)) turned in
    omega (arith, ints, alike, above (flat_standing p q cs x v) vx, beneath (flat_standing p q cs x w) wx)
