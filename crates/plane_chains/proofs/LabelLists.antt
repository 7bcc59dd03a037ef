-- Labels of triangles by numbers, in the order of their first ones.
use Rattle.std.proofs.Common.{◌≡◌, ◌<◌, ◌≤◌, ◌+◌, ◌++◌, ◌∙◌, ◌==◌, ℕ, Bool, List, [], ◌∷◌, true, false, ap, arith, cond, get_or, length, map, refl, replicate, subst, suc, sym, take}
use Rattle.std.specs.Prelude.{◌||◌, if◌then◌else◌, not}
use Rattle.std.specs.List.{All, list_any, position_or_len}
use Rattle.std.proofs.lemmas.Bool.{eq-eqb, eqb-true}
use Rattle.std.proofs.lemmas.List.{get_or-map, length-append, length-map, map-append, take_all, take_more}
use Rattle.std.proofs.lemmas.List.Elements.{All-nil, All-push}
use Rattle.std.proofs.lemmas.List.Folds.{list_any-append}
use Rattle.sheet_terms.specs.Places.{firsts, firsts_after}
use Rattle.plane_chains.specs.Listed.{first_places, picked}
use Rattle.plane_chains.specs.Placed.{ArePlaced}
use Rattle.plane_chains.proofs.FirstKeys.{IsEqual, place_here, placed_more, placed_none, with_key}

-- equal numbers
pub numbers_equal : IsEqual (λ (j k : ℕ). j == k)
numbers_equal = record { itself = λ n. eq-eqb n n refl; same = λ m n h. eqb-true m n h }

-- the label of one triangle more
picked_more : (labels numbers : List ℕ) (k : ℕ) → k < length numbers → picked labels (take (k + 1) numbers) ≡ picked labels (take k numbers) ++ get_or labels (get_or numbers k 0) 0 ∷ []
picked_more labels numbers k low =
    ap (picked labels) (take_more numbers k 0 low) ∙ map-append (λ t. get_or labels t 0) (take k numbers) (get_or numbers k 0 ∷ [])

pub first_label : (labels numbers : List ℕ) → 0 < length numbers → get_or (picked labels numbers) 0 0 ≡ get_or labels (get_or numbers 0 0) 0
first_label labels numbers some = get_or-map (λ t. get_or labels t 0) numbers 0 0 0 some

-- where it is the first one's all are still the same
pub same_more : (labels numbers : List ℕ) (k : ℕ) → k < length numbers → get_or labels (get_or numbers k 0) 0 ≡ get_or labels (get_or numbers 0 0) 0 →
    All (λ n. n ≡ get_or (picked labels numbers) 0 0) (picked labels (take k numbers)) → All (λ n. n ≡ get_or (picked labels numbers) 0 0) (picked labels (take (k + 1) numbers))
same_more labels numbers k low same all =
    subst (λ ns. All (λ n. n ≡ get_or (picked labels numbers) 0 0) ns) (sym (picked_more labels numbers k low))
    (All-push (λ n. n ≡ get_or (picked labels numbers) 0 0) (picked labels (take k numbers)) (get_or labels (get_or numbers k 0) 0) all
    (same ∙ sym (first_label labels numbers (omega (arith, low)))))

pub same_all : (labels numbers : List ℕ) (k : ℕ) → length numbers ≤ k → All (λ n. n ≡ get_or (picked labels numbers) 0 0) (picked labels (take k numbers)) →
    All (λ n. n ≡ get_or (picked labels numbers) 0 0) (picked labels numbers)
same_all labels numbers k end all = subst (λ ns. All (λ n. n ≡ get_or (picked labels numbers) 0 0) (picked labels ns)) (take_all k numbers end) all

-- then there is one label
none_after : (x : ℕ) (before xs : List ℕ) → list_any (λ k. x == k) before ≡ true → All (λ n. n ≡ x) xs → firsts_after (λ j k. j == k) before xs ≡ []
none_after x before [] there all = refl
none_after x before (y ∷ ys) there all =
    ap (λ b. cond b [] (y ∷ []) ++ firsts_after (λ j k. j == k) (before ++ y ∷ []) ys) (ap (λ n. list_any (λ k. n == k) before) (all 0 y (omega arith)) ∙ there)
    ∙ none_after x (before ++ y ∷ []) ys (list_any-append (λ k. x == k) before (y ∷ []) ∙ ap (λ b. b || ((x == y) || false)) there) (λ k d low. all (suc k) d (omega (arith, low)))

one_first : (ns : List ℕ) → All (λ n. n ≡ get_or ns 0 0) ns → firsts (λ j k. j == k) ns ≡ take 1 ns
one_first [] all = refl
one_first (n ∷ ns) all = ap (λ ms. n ∷ ms) (none_after n (n ∷ []) ns (ap (λ b. b || false) (eq-eqb n n refl)) (λ k d low. all (suc k) d (omega (arith, low))))

all_zero : (f : ℕ → ℕ) (ns : List ℕ) → All (λ n. f n ≡ 0) ns → map f ns ≡ replicate (length ns) 0
all_zero f [] h = refl
all_zero f (n ∷ ns) h = λ i. h 0 n (omega arith) i ∷ all_zero f ns (λ k d low. h (suc k) d (omega (arith, low))) i

one_place : (ns : List ℕ) → All (λ n. n ≡ get_or ns 0 0) ns → first_places ns ≡ replicate (length ns) 0
one_place [] all = refl
one_place (m ∷ ms) all =
    all_zero (λ n. position_or_len (λ k. n == k) (firsts (λ j k. j == k) (m ∷ ms))) (m ∷ ms)
    (λ k d low. ap (position_or_len (λ j. get_or (m ∷ ms) k d == j)) (one_first (m ∷ ms) all) ∙ place_here (λ j. get_or (m ∷ ms) k d == j) m [] (eq-eqb (get_or (m ∷ ms) k d) m (all k d low)))

pub alone_places : (labels numbers : List ℕ) (of : List ℕ) → All (λ n. n ≡ get_or (picked labels numbers) 0 0) (picked labels numbers) → of ≡ replicate (length numbers) 0 →
    of ≡ first_places (picked labels numbers)
alone_places labels numbers of all e =
    e ∙ ap (λ n. replicate n 0) (sym (length-map numbers (λ t. get_or labels t 0))) ∙ sym (one_place (picked labels numbers) all)

pub alone_firsts : (labels numbers some : List ℕ) → All (λ n. n ≡ get_or (picked labels numbers) 0 0) (picked labels numbers) → some ≡ take 1 numbers →
    picked labels some ≡ firsts (λ j k. j == k) (picked labels numbers)
alone_firsts labels numbers some all e = ap (picked labels) e ∙ first numbers ∙ sym (one_first (picked labels numbers) all) where
  first : (ns : List ℕ) → picked labels (take 1 ns) ≡ take 1 (picked labels ns)
  first [] = refl
  first (n ∷ ns) = refl

-- the first triangles with their labels, each numbered
pub record IsFilled (labels numbers : List ℕ) (k : ℕ) (keys of some : List ℕ) : Type 0 where
  pub placed : ArePlaced (λ (i j : ℕ). i == j) (picked labels (take k numbers)) keys of
  pub first : picked labels some ≡ keys
  pub few : length keys ≤ k
  pub low : (n : ℕ) → All (λ t. t < n) numbers → All (λ t. t < n) some

pub filled_none : (labels numbers : List ℕ) → IsFilled labels numbers 0 [] [] []
filled_none labels numbers = record { placed = placed_none (λ (i j : ℕ). i == j) numbers_equal; first = refl; few = omega arith; low = λ n h. All-nil (λ t. t < n) }

pub filled_start : (labels numbers keys of some : List ℕ) → keys ≡ [] → of ≡ [] → some ≡ [] → IsFilled labels numbers 0 keys of some
filled_start labels numbers keys of some e f g =
    subst (λ ks. IsFilled labels numbers 0 ks of some) (sym e) (subst (λ ns. IsFilled labels numbers 0 [] ns some) (sym f) (subst (λ ms. IsFilled labels numbers 0 [] [] ms) (sym g) (filled_none labels numbers)))

pub filled_more : (labels numbers : List ℕ) (k : ℕ) (keys new of more some : List ℕ) (at : ℕ) (is_new : Bool) (all : List ℕ) → k < length numbers → IsFilled labels numbers k keys of some →
    new ≡ with_key (λ (i j : ℕ). i == j) keys (get_or labels (get_or numbers k 0) 0) → at ≡ position_or_len (λ j. get_or labels (get_or numbers k 0) 0 == j) keys → more ≡ of ++ at ∷ [] →
    is_new ≡ not (list_any (λ j. get_or labels (get_or numbers k 0) 0 == j) keys) → all ≡ cond is_new (some ++ get_or numbers k 0 ∷ []) some → IsFilled labels numbers (k + 1) new more all
filled_more labels numbers k keys new of more some at is_new all low is pushed place listed told firsts_are = record {
  placed = subst (λ ns. ArePlaced (λ (i j : ℕ). i == j) (picked labels (take (k + 1) numbers)) new ns) (sym listed)
      (subst (λ xs. ArePlaced (λ (i j : ℕ). i == j) xs new (of ++ at ∷ [])) (sym (picked_more labels numbers k low))
      (placed_more (λ (i j : ℕ). i == j) numbers_equal (picked labels (take k numbers)) keys new of (get_or labels (get_or numbers k 0) 0) at is.placed pushed place));
  first = ap (picked labels) (firsts_are ∙ ap (λ b. cond b (some ++ get_or numbers k 0 ∷ []) some) told) ∙ by (list_any (λ j. get_or labels (get_or numbers k 0) 0 == j) keys) ∙ sym pushed;
  few = omega (arith, ap length pushed, long (list_any (λ j. get_or labels (get_or numbers k 0) 0 == j) keys), is.few);
  low = λ n h. subst (All (λ t. t < n)) (sym firsts_are) (inside n h is_new);
}
  where
    inside : (n : ℕ) → All (λ t. t < n) numbers → (b : Bool) → All (λ t. t < n) (cond b (some ++ get_or numbers k 0 ∷ []) some)
    inside n h true = All-push (λ t. t < n) some (get_or numbers k 0) (is.low n h) (h k 0 low)
    inside n h false = is.low n h

    x : ℕ
    x = get_or labels (get_or numbers k 0) 0

    by : (b : Bool) → picked labels (cond (not b) (some ++ get_or numbers k 0 ∷ []) some) ≡ (if b then keys else keys ++ get_or labels (get_or numbers k 0) 0 ∷ [])
    by true = is.first
    by false = map-append (λ t. get_or labels t 0) some (get_or numbers k 0 ∷ []) ∙ ap (λ ns. ns ++ get_or labels (get_or numbers k 0) 0 ∷ []) is.first

    long : (b : Bool) → length (if b then keys else keys ++ get_or labels (get_or numbers k 0) 0 ∷ []) ≤ length keys + 1
    long true = omega arith
    long false = omega (arith, length-append keys (get_or labels (get_or numbers k 0) 0 ∷ []))

pub filled_places : (labels numbers : List ℕ) (k : ℕ) (keys of some : List ℕ) → length numbers ≤ k → IsFilled labels numbers k keys of some → of ≡ first_places (picked labels numbers)
filled_places labels numbers k keys of some end is =
    is.placed.places
    ∙ (λ j. map (λ n. position_or_len (λ i. n == i) (is.placed.keys_are j)) (picked labels (take k numbers)))
    ∙ ap (λ ns. first_places (picked labels ns)) (take_all k numbers end)

pub filled_firsts : (labels numbers : List ℕ) (k : ℕ) (keys of some : List ℕ) → length numbers ≤ k → IsFilled labels numbers k keys of some →
    picked labels some ≡ firsts (λ i j. i == j) (picked labels numbers)
filled_firsts labels numbers k keys of some end is = is.first ∙ is.placed.keys_are ∙ ap (λ ns. firsts (λ i j. i == j) (picked labels ns)) (take_all k numbers end)
