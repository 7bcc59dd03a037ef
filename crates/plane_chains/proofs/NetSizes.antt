-- The sizes of the numbers of a chain add up to no more than there are ways.
use Rattle.std.proofs.Common.{◌≡◌, ◌<◌, ◌≤◌, ◌+◌, ◌++◌, ◌∙◌, ◌==◌, ℕ, ℤ, Bool, List, [], ◌∷◌, Err, IfOk, Ok, Result, true, false, ap, arith, cond, filter, inl, inr, length, map, pos, refl, suc, sym, zero, ◌+ℤ◌}
use Rattle.std.specs.Prelude.{◌⊎◌, ◌||◌, count_by, not, unsigned_abs}
use Rattle.std.specs.List.{list_any, sum_by}
use Rattle.std.specs.Ordering.{int_eq}
use Rattle.std.proofs.lemmas.Bool.{cases_Bool, cases_eq, eq-eqb, ne_eqb}
use Rattle.std.proofs.lemmas.Bool.Decides.{Decides-int_eq}
use Rattle.std.proofs.lemmas.Int.{ints}
use Rattle.std.proofs.lemmas.List.Folds.{list_any-append}
use Rattle.std.proofs.lemmas.List.Sums.{sum_by-append, sum_by-cons}
use Rattle.chain_laws.specs.Counts.{count_by-cons}
use Rattle.chain_terms.specs.Chains.{one_if}
use Rattle.chain_terms.specs.Sums.{up_from, upto}
use Rattle.sheet_terms.specs.Chains.{ChainEdge, same_edge}
use Rattle.sheet_terms.specs.Places.{firsts, firsts_after}
use Rattle.plane_chains.specs.declared.chain.Way.{Way}
use Rattle.plane_chains.specs.declared.nets.LabelNumber.{LabelNumber}
use Rattle.plane_chains.specs.Nets.{IsStored, nonzero, nonzero_from}
use Rattle.plane_chains.specs.Sizes.{size_of, sizes}
use Rattle.plane_chains.specs.Ways.{counted, net_count, step, way_chain, way_edge, way_up}
use Rattle.plane_chains.proofs.WayLists.{edges_equal}

-- sums over what is mapped, filtered or added
sum_map : {X Y : Type 0} (f : Y → ℕ) (h : X → Y) (xs : List X) → sum_by f (map h xs) ≡ sum_by (λ x. f (h x)) xs
sum_map f h [] = refl
sum_map f h (x ∷ xs) = omega (arith, sum_by-cons f (h x) (map h xs), sum_by-cons (λ y. f (h y)) x xs, sum_map f h xs)

sum_filter : {X : Type 0} (f : X → ℕ) (p : X → Bool) (xs : List X) → sum_by f (filter p xs) ≤ sum_by f xs
sum_filter f p [] = omega arith
sum_filter f p (x ∷ xs) = by (p x) (sum_filter f p xs) where
  by : (b : Bool) → sum_by f (filter p xs) ≤ sum_by f xs → sum_by f (cond b (x ∷ filter p xs) (filter p xs)) ≤ sum_by f (x ∷ xs)
  by true rest = omega (arith, rest, sum_by-cons f x (filter p xs), sum_by-cons f x xs)
  by false rest = omega (arith, rest, sum_by-cons f x xs)

sum_added : {X : Type 0} (f g h : X → ℕ) → ((x : X) → f x ≤ g x + h x) → (xs : List X) → sum_by f xs ≤ sum_by g xs + sum_by h xs
sum_added f g h each [] = omega arith
sum_added f g h each (x ∷ xs) = omega (arith, each x, sum_added f g h each xs, sum_by-cons f x xs, sum_by-cons g x xs, sum_by-cons h x xs)

sum_nothing : {X : Type 0} (f : X → ℕ) → ((x : X) → f x ≡ 0) → (xs : List X) → sum_by f xs ≡ 0
sum_nothing f each [] = refl
sum_nothing f each (x ∷ xs) = omega (arith, each x, sum_nothing f each xs, sum_by-cons f x xs)

-- what is listed of numbers has their size
listed_size : (k : ℕ) (ns : List ℤ) → size_of (nonzero_from k ns) ≡ sum_by unsigned_abs ns
unfolding nonzero_from
listed_size k [] = refl
listed_size k (n ∷ ns) =
    sum_by-append (λ (e : LabelNumber). unsigned_abs e.number) (cond (int_eq n (pos 0)) [] (record { label = k; number = n } ∷ [])) (nonzero_from (suc k) ns)
    ∙ (λ i. by (int_eq n (pos 0)) refl i + listed_size (suc k) ns i) ∙ sym (sum_by-cons unsigned_abs n ns)
  where
    by : (b : Bool) → int_eq n (pos 0) ≡ b → size_of (cond b [] (record { label = k; number = n } ∷ [])) ≡ unsigned_abs n
    by true is = ap unsigned_abs (sym ((Decides-int_eq n (pos 0)).0 is))
    by false is = sum_by-cons (λ (e : LabelNumber). unsigned_abs e.number) (record { label = k; number = n }) [] ∙ omega arith

-- a way counts for one label at most
step_small : (w : Way) → unsigned_abs (step w) ≤ 1
step_small w = grind (arith, ints)

none_later : (l : ℕ) (s : ℤ) (k n : ℕ) → l < k → sum_by (λ j. unsigned_abs (cond (l == j) s (pos 0))) (up_from k n) ≡ 0
none_later l s k zero low = refl
none_later l s k (suc n) low =
    sum_by-cons (λ j. unsigned_abs (cond (l == j) s (pos 0))) k (up_from (suc k) n)
    ∙ (λ i. unsigned_abs (cond (ne_eqb l k (λ e. omega (arith, low, e)) i) s (pos 0)) + none_later l s (suc k) n (omega (arith, low)) i)

one_label : (l : ℕ) (s : ℤ) (k n : ℕ) → sum_by (λ j. unsigned_abs (cond (l == j) s (pos 0))) (up_from k n) ≤ unsigned_abs s
one_label l s k zero = omega arith
one_label l s k (suc n) = by (cases_eq l k) (one_label l s (suc k) n) where
  first : sum_by (λ j. unsigned_abs (cond (l == j) s (pos 0))) (k ∷ up_from (suc k) n)
      ≡ unsigned_abs (cond (l == k) s (pos 0)) + sum_by (λ j. unsigned_abs (cond (l == j) s (pos 0))) (up_from (suc k) n)
  first = sum_by-cons (λ j. unsigned_abs (cond (l == j) s (pos 0))) k (up_from (suc k) n)

  by : (l ≡ k) ⊎ (l ≡ k → ⊥) → sum_by (λ j. unsigned_abs (cond (l == j) s (pos 0))) (up_from (suc k) n) ≤ unsigned_abs s →
      sum_by (λ j. unsigned_abs (cond (l == j) s (pos 0))) (k ∷ up_from (suc k) n) ≤ unsigned_abs s
  by (inl e) rest =
      let here : unsigned_abs (cond (l == k) s (pos 0)) ≡ unsigned_abs s = ap (λ b. unsigned_abs (cond b s (pos 0))) (eq-eqb l k e) in
      omega (arith, first, here, none_later l s (suc k) n (omega (arith, e)))
  by (inr e) rest =
      let here : unsigned_abs (cond (l == k) s (pos 0)) ≡ 0 = ap (λ b. unsigned_abs (cond b s (pos 0))) (ne_eqb l k e) in
      omega (arith, first, here, rest)

-- and along one edge
edge_more : (n : ℕ) (w : Way) (ws : List Way) (e : ℕ × ℕ) →
    sum_by (λ k. unsigned_abs (net_count (w ∷ ws) e k)) (upto n) ≤ one_if (same_edge (way_up w) e) + sum_by (λ k. unsigned_abs (net_count ws e k)) (upto n)
edge_more n w ws e =
    let added = sum_added (λ k. unsigned_abs (net_count (w ∷ ws) e k)) (λ k. unsigned_abs (cond (same_edge (way_up w) e) (counted k w) (pos 0)))
    (λ k. unsigned_abs (net_count ws e k)) (λ k. both (cond (same_edge (way_up w) e) (counted k w) (pos 0)) (net_count ws e k)) (upto n) in
    omega (arith, added, by (same_edge (way_up w) e))
  where
    both : (x y : ℤ) → unsigned_abs (x +ℤ y) ≤ unsigned_abs x + unsigned_abs y
    both x y = omega (arith, ints)

    by : (b : Bool) → sum_by (λ k. unsigned_abs (cond b (counted k w) (pos 0))) (upto n) ≤ one_if b
    by true = omega (arith, one_label w.label (step w) 0 n, step_small w)
    by false = omega (arith, sum_nothing (λ (k : ℕ). unsigned_abs (pos 0)) (λ k. refl) (upto n))

-- so along edges of which no two are one
module _ (n : ℕ) (es : List (ℕ × ℕ)) (once : (x : ℕ × ℕ) → count_by (same_edge x) es ≤ 1) where
  all_few : (ws : List Way) → sum_by (λ e. sum_by (λ k. unsigned_abs (net_count ws e k)) (upto n)) es ≤ length ws
  all_few [] =
      omega (arith, sum_nothing (λ (e : ℕ × ℕ). sum_by (λ (k : ℕ). unsigned_abs (pos 0)) (upto n)) (λ e. sum_nothing (λ (k : ℕ). unsigned_abs (pos 0)) (λ k. refl) (upto n)) es)
  all_few (w ∷ ws) =
      let added = sum_added (λ e. sum_by (λ k. unsigned_abs (net_count (w ∷ ws) e k)) (upto n)) (λ e. one_if (same_edge (way_up w) e))
      (λ e. sum_by (λ k. unsigned_abs (net_count ws e k)) (upto n)) (edge_more n w ws) es in
      omega (arith, added, ones (same_edge (way_up w)) es, once (way_up w), all_few ws)
    where
      ones : {X : Type 0} (p : X → Bool) (xs : List X) → sum_by (λ x. one_if (p x)) xs ≡ count_by p xs
      ones p [] = refl
      ones p (x ∷ xs) = omega (arith, ones p xs, count_by-cons p x xs, sum_by-cons (λ y. one_if (p y)) x xs)

-- the first ones of edges are such
bound : Bool → ℕ
bound b = cond b 0 1

first_once : (x : ℕ × ℕ) (before xs : List (ℕ × ℕ)) → count_by (same_edge x) (firsts_after same_edge before xs) ≤ bound (list_any (same_edge x) before)
unfolding bound
first_once x before [] = omega arith
first_once x before (y ∷ ys) = by (list_any (same_edge y) before) refl (cases_Bool (same_edge x y)) (first_once x (before ++ y ∷ []) ys) where
  longer : list_any (same_edge x) (before ++ y ∷ []) ≡ (list_any (same_edge x) before || (same_edge x y || false))
  longer = list_any-append (same_edge x) before (y ∷ [])

  -- what is once more before
  kept : (b : Bool) → bound (b || false) ≡ bound b
  kept true = refl
  kept false = refl

  less : (b c : Bool) → bound (b || c) ≤ bound b
  less true c = omega arith
  less false true = omega arith
  less false false = omega arith

  zero_at : (b : Bool) → bound (b || true) ≡ 0
  zero_at true = refl
  zero_at false = refl

  by : (b : Bool) → list_any (same_edge y) before ≡ b → (same_edge x y ≡ true) ⊎ (same_edge x y ≡ false) →
      count_by (same_edge x) (firsts_after same_edge (before ++ y ∷ []) ys) ≤ bound (list_any (same_edge x) (before ++ y ∷ [])) →
      count_by (same_edge x) (cond b [] (y ∷ []) ++ firsts_after same_edge (before ++ y ∷ []) ys) ≤ bound (list_any (same_edge x) before)
  by true old _ later = omega (arith, later, ap bound longer, less (list_any (same_edge x) before) (same_edge x y || false))
  by false new (inl same) later =
      let none : bound (list_any (same_edge x) before) ≡ 1 = ap bound (ap (λ z. list_any (same_edge z) before) (edges_equal.same x y same) ∙ new) in
      let last : bound (list_any (same_edge x) (before ++ y ∷ [])) ≡ 0 =
      ap bound (longer ∙ ap (λ c. list_any (same_edge x) before || (c || false)) same) ∙ zero_at (list_any (same_edge x) before) in
      omega (arith, later, last, none, count_by-cons (same_edge x) y (firsts_after same_edge (before ++ y ∷ []) ys), ap one_if same)
  by false new (inr other) later =
      let same : bound (list_any (same_edge x) (before ++ y ∷ [])) ≡ bound (list_any (same_edge x) before) =
      ap bound (longer ∙ ap (λ c. list_any (same_edge x) before || (c || false)) other) ∙ kept (list_any (same_edge x) before) in
      omega (arith, later, same, count_by-cons (same_edge x) y (firsts_after same_edge (before ++ y ∷ []) ys), ap one_if other)

edges_once : (xs : List (ℕ × ℕ)) (x : ℕ × ℕ) → count_by (same_edge x) (firsts same_edge xs) ≤ 1
unfolding bound
edges_once xs x = first_once x [] xs

-- all in all
pub sizes_few : (n : ℕ) (ws : List Way) (es : List (List ℕ)) (ns : List (List LabelNumber)) → IsStored (way_chain n ws) es ns → sizes ns ≤ length ws
unfolding way_chain
sizes_few n ws es ns is =
    omega (
      arith,
      ap sizes is.nets,
      sum_map size_of (λ (c : ChainEdge). nonzero c.counts) (way_chain n ws),
      sum_same (λ (c : ChainEdge). size_of (nonzero c.counts)) (λ (c : ChainEdge). sum_by unsigned_abs c.counts) (λ c. listed_size 0 c.counts) (way_chain n ws),
      sum_filter (λ (c : ChainEdge). sum_by unsigned_abs c.counts) (λ (c : ChainEdge). list_any (λ k. not (int_eq k (pos 0))) c.counts) (map (way_edge n ws) (firsts same_edge (map way_up ws))),
      sum_map (λ (c : ChainEdge). sum_by unsigned_abs c.counts) (way_edge n ws) (firsts same_edge (map way_up ws)),
      sum_same (λ (e : ℕ × ℕ). sum_by unsigned_abs (map (net_count ws e) (upto n))) (λ (e : ℕ × ℕ). sum_by (λ k. unsigned_abs (net_count ws e k)) (upto n))
          (λ e. sum_map unsigned_abs (net_count ws e) (upto n)) (firsts same_edge (map way_up ws)),
      all_few n (firsts same_edge (map way_up ws)) (edges_once (map way_up ws)) ws,
    )
  where
    sum_same : {X : Type 0} (f g : X → ℕ) → ((x : X) → f x ≡ g x) → (xs : List X) → sum_by f xs ≡ sum_by g xs
    sum_same f g h xs = λ i. sum_by (λ x. h x i) xs

-- a fact where a result is Ok
pub if_ok_always : {T E : Type 0} {P : Type 0} (r : Result T E) → P → IfOk r (λ x. P)
if_ok_always (Ok x) p = p
if_ok_always (Err e) p = tt
