-- Counts over pairs of numbers, and over numbers that pass a test.
use Rattle.std.specs.Prelude.{◌≡◌, ℕ, zero, suc, ◌+◌, ◌*◌, ◌-◌, ◌<◌, ◌≤◌, List, [], ◌∷◌, ◌++◌, Bool, true, false, cond, ◌&&◌, nat_lt, map, length, count_by, get_or}
use Rattle.std.specs.List.{filter, All, sum_by}
use Rattle.std.proofs.Common.{arith, refl, sym, ap, ◌∙◌, add-one}
use Rattle.std.proofs.lemmas.Bool.Decides.{nat_tests}
use Rattle.std.proofs.lemmas.List.Sums.{sum_by-cons, sum_by-append}
use Rattle.chain_terms.specs.Sums.{up_from, upto}
use Rattle.chain_laws.proofs.Places.{up_from-append}
use Rattle.box_tree.specs.Touching.{box_at, touches, touching_numbers}
use Rattle.mb_base.specs.declared.point.Box3.{Box3}
use Rattle.inspection_terms.specs.Inspected.{pairs_below}

-- a test as a number
one : Bool → ℕ
one b = cond b 1 0

-- the count of one more
pub count-cons : {X : Type 0} (p : X → Bool) (x : X) (xs : List X) → count_by p (x ∷ xs) ≡ cond (p x) 1 0 + count_by p xs
count-cons p x xs = sum_by-cons (λ y. cond (p y) 1 0) x xs

pub count-append : {X : Type 0} (p : X → Bool) (xs ys : List X) → count_by p (xs ++ ys) ≡ count_by p xs + count_by p ys
count-append p xs ys = sum_by-append (λ y. cond (p y) 1 0) xs ys

-- tests that say the same count the same
pub count-same : {X : Type 0} (p q : X → Bool) (xs : List X) → ((x : X) → p x ≡ q x) → count_by p xs ≡ count_by q xs
count-same p q [] h = refl
count-same p q (x ∷ xs) h = count-cons p x xs ∙ two (h x) (count-same p q xs h) ∙ sym (count-cons q x xs) where
  two : {a b : Bool} {m n : ℕ} → a ≡ b → m ≡ n → cond a 1 0 + m ≡ cond b 1 0 + n
  two e f = λ i. cond (e i) 1 0 + f i

pub count-map : {X Y : Type 0} (p : Y → Bool) (g : X → Y) (xs : List X) → count_by p (map g xs) ≡ count_by (λ x. p (g x)) xs
count-map p g [] = refl
count-map p g (x ∷ xs) = count-cons p (g x) (map g xs) ∙ ap (λ n. cond (p (g x)) 1 0 + n) (count-map p g xs) ∙ sym (count-cons (λ x. p (g x)) x xs)

-- pairs of numbers, one number more
pub pairs_more : (p : ℕ × ℕ → Bool) (n : ℕ) → count_by p (pairs_below (n + 1)) ≡ count_by p (pairs_below n) + count_by (λ s. p (s, n)) (upto n)
pairs_more p n =
    ap (λ m. count_by p (pairs_below m)) (add-one n) ∙ count-append p (pairs_below n) (map (λ s. (s, n)) (upto n))
    ∙ ap (λ m. count_by p (pairs_below n) + m) (count-map p (λ s. (s, n)) (upto n))

-- there are at most so many of them
pub count-up_from : (p : ℕ → Bool) (k n : ℕ) → count_by p (up_from k n) ≤ n
count-up_from p k zero = omega arith
count-up_from p k (suc n) = omega (arith, count-cons p k (up_from (suc k) n), count-up_from p (suc k) n, most (p k)) where
  most : (b : Bool) → cond b 1 0 ≤ 1
  most true = omega arith
  most false = omega arith

pub count-pairs : (p : ℕ × ℕ → Bool) (n : ℕ) → count_by p (pairs_below n) ≤ n * n
count-pairs p zero = omega arith
count-pairs p (suc n) =
    omega (arith, count-append p (pairs_below n) (map (λ s. (s, n)) (upto n)), count-map p (λ s. (s, n)) (upto n), count-up_from (λ s. p (s, n)) 0 n, count-pairs p n)

-- of those that pass a test
pub count-filter : {X : Type 0} (p q : X → Bool) (xs : List X) → count_by p (filter q xs) ≡ count_by (λ x. q x && p x) xs
count-filter p q [] = refl
count-filter p q (x ∷ xs) = by (q x) refl (count-filter p q xs) where
  by : (b : Bool) → q x ≡ b → count_by p (filter q xs) ≡ count_by (λ x. q x && p x) xs → count_by p (filter q (x ∷ xs)) ≡ count_by (λ x. q x && p x) (x ∷ xs)
  by true e more =
      let l : filter q (x ∷ xs) ≡ x ∷ filter q xs = ap (λ (b : Bool). cond b (x ∷ filter q xs) (filter q xs)) e in
      let r : (q x && p x) ≡ p x = ap (λ (b : Bool). b && p x) e in
      ap (count_by p) l ∙ count-cons p x (filter q xs) ∙ ap (λ n. cond (p x) 1 0 + n) more
      ∙ ap (λ (b : Bool). cond b 1 0 + count_by (λ x. q x && p x) xs) (sym r) ∙ sym (count-cons (λ x. q x && p x) x xs)
  by false e more =
      let l : filter q (x ∷ xs) ≡ filter q xs = ap (λ (b : Bool). cond b (x ∷ filter q xs) (filter q xs)) e in
      let r : (q x && p x) ≡ false = ap (λ (b : Bool). b && p x) e in
      ap (count_by p) l ∙ more ∙ sym (none (count_by (λ x. q x && p x) xs)) ∙ ap (λ (b : Bool). cond b 1 0 + count_by (λ x. q x && p x) xs) (sym r)
      ∙ sym (count-cons (λ x. q x && p x) x xs)
    where
      none : (n : ℕ) → cond false 1 0 + n ≡ n
      none n = omega arith

-- numbers below t, and others
below : (p : ℕ → Bool) (t k n : ℕ) → k + n ≤ t → count_by (λ s. nat_lt s t && p s) (up_from k n) ≡ count_by p (up_from k n)
below p t k zero h = refl
below p t k (suc n) h =
    let l : (nat_lt k t && p k) ≡ p k = ap (λ (b : Bool). b && p k) (yes k t (omega arith)) in
    count-cons (λ s. nat_lt s t && p s) k (up_from (suc k) n) ∙ (λ i. cond (l i) 1 0 + below p t (suc k) n (omega arith) i) ∙ sym (count-cons p k (up_from (suc k) n))
  where
    yes : (k t : ℕ) → k < t → nat_lt k t ≡ true
    yes k t h = grind (arith, nat_tests)

not_below : (p : ℕ → Bool) (t k n : ℕ) → t ≤ k → count_by (λ s. nat_lt s t && p s) (up_from k n) ≡ 0
not_below p t k zero h = refl
not_below p t k (suc n) h =
    let l : (nat_lt k t && p k) ≡ false = ap (λ (b : Bool). b && p k) (no k t h) in
    count-cons (λ s. nat_lt s t && p s) k (up_from (suc k) n) ∙ (λ i. cond (l i) 1 0 + not_below p t (suc k) n (omega arith) i)
  where
    no : (k t : ℕ) → t ≤ k → nat_lt k t ≡ false
    no k t h = grind (arith, nat_tests)

pub count-below : (p : ℕ → Bool) (t n : ℕ) → t ≤ n → count_by (λ s. nat_lt s t && p s) (upto n) ≡ count_by p (upto t)
count-below p t n h =
    let parts : upto n ≡ upto t ++ up_from t (n - t) = ap upto (omega arith) ∙ up_from-append 0 t (n - t) ∙ ap (λ m. upto t ++ up_from m (n - t)) (omega arith) in
    ap (count_by (λ s. nat_lt s t && p s)) parts ∙ count-append (λ s. nat_lt s t && p s) (upto t) (up_from t (n - t))
    ∙ ap (λ m. m + count_by (λ s. nat_lt s t && p s) (up_from t (n - t))) (below p t 0 t (omega arith))
    ∙ omega (arith, not_below p t t (n - t) (omega arith))

-- the numbers below t that pass a test are among those whose boxes touch an area, if the box of each touches it
pub count-near : (boxes : List Box3) (area : Box3) (p : ℕ → Bool) (t : ℕ) → t ≤ length boxes → ((s : ℕ) → s < t → p s ≡ true → touches (box_at boxes s) area ≡ true) →
    count_by (λ s. nat_lt s t && p s) (touching_numbers boxes area) ≡ count_by p (upto t)
count-near boxes area p t few near =
    count-filter (λ s. nat_lt s t && p s) (λ s. touches (box_at boxes s) area) (upto (length boxes))
    ∙ count-same (λ s. touches (box_at boxes s) area && (nat_lt s t && p s)) (λ s. nat_lt s t && p s) (upto (length boxes)) (λ s. by s (nat_lt s t) (p s) refl refl)
    ∙ count-below p t (length boxes) few
  where
    lower : (s : ℕ) → nat_lt s t ≡ true → s < t
    lower s e = grind (arith, nat_tests)

    by : (s : ℕ) (a b : Bool) → nat_lt s t ≡ a → p s ≡ b → (touches (box_at boxes s) area && (nat_lt s t && p s)) ≡ (nat_lt s t && p s)
    by s true true e f = ap (λ (c : Bool). c && (nat_lt s t && p s)) (near s (lower s e) f)
    by s true false e f = let n : (nat_lt s t && p s) ≡ false = cc in ap (λ (c : Bool). touches (box_at boxes s) area && c) n ∙ none (touches (box_at boxes s) area) ∙ sym n where
      none : (c : Bool) → (c && false) ≡ false
      none true = refl
      none false = refl
    by s false b e f = let n : (nat_lt s t && p s) ≡ false = ap (λ (c : Bool). c && p s) e in ap (λ (c : Bool). touches (box_at boxes s) area && c) n
        ∙ none (touches (box_at boxes s) area) ∙ sym n where
          none : (c : Bool) → (c && false) ≡ false
          none true = refl
          none false = refl
