-- Joined lists, one for each of some things.
use Rattle.std.proofs.Common.{◌≡◌, ℕ, zero, suc, ◌+◌, ◌<◌, ◌≤◌, List, [], ◌∷◌, ◌++◌, length, get_or, map, take, refl, sym, ap, ◌∙◌, append-nil, append_assoc, arith}
use Rattle.std.specs.Prelude.{◌*◌, replicate, Option, None, Some}
use Rattle.std.specs.List.{All, cons_option, filter_map, flat_map, sum_by}
use Rattle.std.proofs.lemmas.List.{get_or_default, map-append, same_lists, take_more}
use Rattle.std.proofs.lemmas.List.Concat.{flat_map-append, length-flat_map}
use Rattle.std.proofs.lemmas.List.Sums.{sum_by-cons, sum_by-le}
use Rattle.chain_terms.specs.Sums.{up_from, upto}
use Rattle.chain_laws.proofs.Places.{upto_more}
use Rattle.outlines.proofs.Written.{value_at, values_long}

-- the same lists, joined
same_from : {Y : Type 0} (f g : ℕ → List Y) (k n : ℕ) → ((v : ℕ) → k ≤ v → v < k + n → f v ≡ g v) → flat_map f (up_from k n) ≡ flat_map g (up_from k n)
same_from f g k zero each = refl
same_from f g k (suc n) each =
    ap (λ l. l ++ flat_map f (up_from (suc k) n)) (each k (omega arith) (omega arith))
    ∙ ap (λ l. g k ++ l) (same_from f g (suc k) n (λ v low high. each v (omega (arith, low)) (omega (arith, high))))

pub same_joined : {Y : Type 0} (f g : ℕ → List Y) (n : ℕ) → ((v : ℕ) → v < n → f v ≡ g v) → flat_map f (upto n) ≡ flat_map g (upto n)
same_joined f g n each = same_from f g 0 n (λ v low high. each v (omega (arith, high)))

-- lists of mapped things
pub joined_of : {X Y Z : Type 0} (f : Y → List Z) (h : X → Y) (xs : List X) → flat_map f (map h xs) ≡ flat_map (λ x. f (h x)) xs
joined_of f h [] = refl
joined_of f h (x ∷ xs) = ap (λ l. f (h x) ++ l) (joined_of f h xs)

pub mapped_joined : {X Y Z : Type 0} (g : Y → Z) (f : X → List Y) (xs : List X) → map g (flat_map f xs) ≡ flat_map (λ x. map g (f x)) xs
mapped_joined g f [] = refl
mapped_joined g f (x ∷ xs) = map-append g (f x) (flat_map f xs) ∙ ap (λ l. map g (f x) ++ l) (mapped_joined g f xs)

pub mapped_replicate : {X Y : Type 0} (g : X → Y) (k : ℕ) (x : X) → map g (replicate k x) ≡ replicate k (g x)
mapped_replicate g zero x = refl
mapped_replicate g (suc k) x = ap (λ l. g x ∷ l) (mapped_replicate g k x)

-- the lists of the numbers below n, and one more
pub joined_more : {Y : Type 0} (f : ℕ → List Y) (n : ℕ) (before : List Y) → (before ++ flat_map f (upto n)) ++ f n ≡ before ++ flat_map f (upto (n + 1))
joined_more f n before =
    append_assoc before (flat_map f (upto n)) (f n)
    ∙ ap (λ l. before ++ l) (ap (λ l. flat_map f (upto n) ++ l) (sym (append-nil (f n))) ∙ sym (flat_map-append f (upto n) (n ∷ [])) ∙ ap (flat_map f) (sym (upto_more n)))

-- the members of a list by their places
pub by_places : {X : Type 0} (xs : List X) (d : X) → map (λ i. get_or xs i d) (upto (length xs)) ≡ xs
by_places {X} xs d = same_lists (map (λ i. get_or xs i d) (upto (length xs))) xs (values_long (λ i. get_or xs i d) (length xs)) (λ k e low. by k e low)
  where
    by : (k : ℕ) (e : X) → k < length (map (λ i. get_or xs i d) (upto (length xs))) → get_or (map (λ i. get_or xs i d) (upto (length xs))) k e ≡ get_or xs k e
    by k e low =
        let inside : k < length xs = omega (arith, low, values_long (λ i. get_or xs i d) (length xs)) in
        value_at (λ i. get_or xs i d) (length xs) k e inside ∙ get_or_default xs k d e inside

-- a sum over mapped things
pub sum_of : {X Y : Type 0} (f : Y → ℕ) (h : X → Y) (xs : List X) → sum_by f (map h xs) ≡ sum_by (λ x. f (h x)) xs
sum_of f h [] = refl
sum_of f h (x ∷ xs) = omega (arith, sum_by-cons f (h x) (map h xs), sum_by-cons (λ y. f (h y)) x xs, sum_of f h xs)

-- no more are kept than there are
pub kept_few : {X Y : Type 0} (f : X → Option Y) (xs : List X) → length (filter_map f xs) ≤ length xs
kept_few f [] = omega arith
kept_few {Y = Y} f (x ∷ xs) = by (f x) (kept_few f xs) where
  by : (o : Option Y) → length (filter_map f xs) ≤ length xs → length (cons_option o (filter_map f xs)) ≤ length (x ∷ xs)
  by None h = omega (arith, h)
  by (Some y) h = omega (arith, h)

-- and lists of no more than m each have no more than m times as many members
pub joined_few : {X Y : Type 0} (f : X → List Y) (m : ℕ) (xs : List X) → All (λ x. length (f x) ≤ m) xs → length (flat_map f xs) ≤ length xs * m
joined_few f m xs few = omega (arith, length-flat_map f xs, sum_by-le (λ x. length (f x)) m xs few)

-- a list that has grown by the list of the next number, or of the next of some things
pub grown : {Y : Type 0} (f : ℕ → List Y) (n : ℕ) (before now new here : List Y) → new ≡ now ++ here →
    now ≡ before ++ flat_map f (upto n) → here ≡ f n → new ≡ before ++ flat_map f (upto (n + 1))
grown f n before now new here e h s = e ∙ (λ i. h i ++ s i) ∙ joined_more f n before

pub grown_by : {X Y : Type 0} (f : X → List Y) (xs : List X) (k : ℕ) (d : X) (before now new here : List Y) →
    k < length xs → new ≡ now ++ here → now ≡ before ++ flat_map f (take k xs) → here ≡ f (get_or xs k d) →
    new ≡ before ++ flat_map f (take (k + 1) xs)
grown_by f xs k d before now new here low e h s =
    let x = get_or xs k d in
    let more : flat_map f (take (k + 1) xs) ≡ flat_map f (take k xs) ++ f x = ap (flat_map f) (take_more xs k d low)
    ∙ flat_map-append f (take k xs) (x ∷ []) ∙ ap (λ l. flat_map f (take k xs) ++ l) (append-nil (f x)) in
    e ∙ (λ i. h i ++ s i) ∙ append_assoc before (flat_map f (take k xs)) (f x) ∙ ap (λ l. before ++ l) (sym more)
