-- Laws of sums of whole numbers over lists.
use Rattle.std.specs.Prelude.{◌≡◌, ℕ, zero, suc, ◌+◌, ◌<◌, ◌≤◌, ◌*◌, ℤ, pos, negsuc, nat_abs, neg_ℤ, ◌+ℤ◌, ◌-ℤ◌, ◌≤ℤ◌, List, [], ◌∷◌, ◌++◌, length, take, get_or, map, Option, Some, None}
use Rattle.std.specs.List.{flat_map, filter_map, cons_option, sum_by, All}
use Rattle.std.specs.List.Sorted.{IsPermutation}
use Rattle.std.proofs.Common.{arith, refl, add-one, ap, ◌∙◌}
use Rattle.std.proofs.lemmas.Int.{ints}
use Rattle.std.proofs.lemmas.List.Sums.{sum_by-cons}
use Rattle.std.proofs.lemmas.List.Elements.{All-head, All-tail}
use Rattle.std.proofs.lemmas.List.Sorted.{sum_by-IsPermutation}
use borrow.Author.Differences.{up, down}
use Rattle.chain_terms.specs.Sums.{total}

-- the sum over two lists, one after the other
pub total-append : {X : Type 0} (f : X → ℤ) → (xs ys : List X) → total f (xs ++ ys) ≡ total f xs +ℤ total f ys
total-append f [] ys = omega (arith, ints)
total-append f (x ∷ xs) ys = omega (arith, ints, total-append f xs ys)

-- the sum over a renamed list
pub total-map : {X Y : Type 0} (f : Y → ℤ) (h : X → Y) → (xs : List X) → total f (map h xs) ≡ total (λ x. f (h x)) xs
total-map f h [] = refl
total-map f h (x ∷ xs) = omega (arith, ints, total-map f h xs)

-- the sum over lists that are made one for each member
pub total-flat_map : {X Y : Type 0} (f : Y → ℤ) (h : X → List Y) → (xs : List X) → total f (flat_map h xs) ≡ total (λ x. total f (h x)) xs
total-flat_map f h [] = omega (arith, ints)
total-flat_map f h (x ∷ xs) = omega (arith, ints, total-append f (h x) (flat_map h xs), total-flat_map f h xs)

-- lists that are the same one by one, one after the other
pub flat_map-same : {X Y : Type 0} (g h : X → List Y) → ((x : X) → g x ≡ h x) → (xs : List X) → flat_map g xs ≡ flat_map h xs
flat_map-same g h same [] = refl
flat_map-same g h same (x ∷ xs) = ap (λ l. l ++ flat_map g xs) (same x) ∙ ap (λ l. h x ++ l) (flat_map-same g h same xs)

-- f of what is there, else 0
abbrev pub value_or_zero : {Y : Type 0} → (Y → ℤ) → Option Y → ℤ
value_or_zero f None = pos 0
value_or_zero f (Some y) = f y

-- a member that may be there, in front of a list
pub total-cons_option : {Y : Type 0} (f : Y → ℤ) → (o : Option Y) (ys : List Y) → total f (cons_option o ys) ≡ value_or_zero f o +ℤ total f ys
total-cons_option f None ys = omega (arith, ints)
total-cons_option f (Some y) ys = refl

-- the sum of what a filter_map keeps: a member that is left out counts 0
pub total-filter_map : {X Y : Type 0} (f : Y → ℤ) (h : X → Option Y) → (xs : List X) → total f (filter_map h xs) ≡ total (λ x. value_or_zero f (h x)) xs
total-filter_map f h [] = refl
total-filter_map f h (x ∷ xs) = omega (arith, ints, total-cons_option f (h x) (filter_map h xs), total-filter_map f h xs)

-- the sum of a sum
pub total-add : {X : Type 0} (f g : X → ℤ) → (xs : List X) → total (λ x. f x +ℤ g x) xs ≡ total f xs +ℤ total g xs
total-add f g [] = omega (arith, ints)
total-add f g (x ∷ xs) = omega (arith, ints, total-add f g xs)

-- the sum of a difference
pub total-sub : {X : Type 0} (f g : X → ℤ) → (xs : List X) → total (λ x. f x -ℤ g x) xs ≡ total f xs -ℤ total g xs
total-sub f g [] = omega (arith, ints)
total-sub f g (x ∷ xs) = omega (arith, ints, total-sub f g xs)

-- the sum of what is negated
pub total-neg : {X : Type 0} (f : X → ℤ) → (xs : List X) → total (λ x. neg_ℤ (f x)) xs ≡ neg_ℤ (total f xs)
total-neg f [] = omega (arith, ints)
total-neg f (x ∷ xs) = omega (arith, ints, total-neg f xs)

-- the sum of zeros
pub total-zero : {X : Type 0} → (xs : List X) → total (λ (x : X). pos 0) xs ≡ pos 0
total-zero [] = refl
total-zero (x ∷ xs) = omega (arith, ints, total-zero xs)

-- functions that agree have the same sum
pub total-same : {X : Type 0} (f g : X → ℤ) → ((x : X) → f x ≡ g x) → (xs : List X) → total f xs ≡ total g xs
total-same f g h [] = refl
total-same f g h (x ∷ xs) = omega (arith, ints, h x, total-same f g h xs)

-- functions that agree at every member have the same sum
pub total-same_all : {X : Type 0} (f g : X → ℤ) → (xs : List X) → All (λ x. f x ≡ g x) xs → total f xs ≡ total g xs
total-same_all f g [] h = refl
total-same_all f g (x ∷ xs) h =
    let head : f x ≡ g x = All-head (λ y. f y ≡ g y) x xs h in
    omega (arith, ints, head, total-same_all f g xs (All-tail (λ y. f y ≡ g y) x xs h))

-- a double sum may be taken in either order
pub total-swap : {X Y : Type 0} (f : X → Y → ℤ) → (xs : List X) (ys : List Y) → total (λ x. total (f x) ys) xs ≡ total (λ y. total (λ x. f x y) xs) ys
total-swap f [] [] = omega (arith, ints)
total-swap f [] (y ∷ ys) = omega (arith, ints, total-swap f [] ys)
total-swap f (x ∷ xs) ys = omega (arith, ints, total-swap f xs ys, total-add (f x) (λ y. total (λ x. f x y) xs) ys)

-- the first i + 1 members
pub total-take_suc : {X : Type 0} (f : X → ℤ) → (xs : List X) (i : ℕ) (d : X) → i < length xs → total f (take (suc i) xs) ≡ total f (take i xs) +ℤ f (get_or xs i d)
total-take_suc f [] i d h = absurd (omega (arith, h))
total-take_suc f (x ∷ xs) zero d h = omega (arith, ints)
total-take_suc f (x ∷ xs) (suc i) d h = omega (arith, ints, total-take_suc f xs i d (omega (arith, h)))

-- one more member, as at a step of a loop
pub total_more : {X : Type 0} (f : X → ℤ) → (xs : List X) (i : ℕ) (d : X) → i < length xs → total f (take (i + 1) xs) ≡ total f (take i xs) +ℤ f (get_or xs i d)
total_more f xs i d h = rw add-one (total-take_suc f xs i d h)

-- one more member at the end of the list
pub total_push : {X : Type 0} (f : X → ℤ) → (xs : List X) (y : X) → total f (xs ++ y ∷ []) ≡ total f xs +ℤ f y
total_push f xs y = omega (arith, ints, total-append f xs (y ∷ []))

-- z is at most b in size
pub record IsWithin (z : ℤ) (b : ℕ) : Type 0 where
  pub low : neg_ℤ (pos b) ≤ℤ z
  pub high : z ≤ℤ pos b

-- so is its size
pub size_within : (z : ℤ) (b : ℕ) → IsWithin z b → nat_abs z ≤ b
size_within (pos n) b h = omega (arith, ints, h.high)
size_within (negsuc n) b h = omega (arith, ints, h.low)

-- a sum of n terms that are at most b in size is at most b n in size
pub total_within : {X : Type 0} (f : X → ℤ) (b : ℕ) → (xs : List X) → All (λ x. IsWithin (f x) b) xs → IsWithin (total f xs) (b * length xs)
total_within f b [] h = record { low = omega (arith, ints); high = omega (arith, ints) }
total_within f b (x ∷ xs) h =
    let head : IsWithin (f x) b = All-head (λ y. IsWithin (f y) b) x xs h in
    let rest = total_within f b xs (All-tail (λ y. IsWithin (f y) b) x xs h) in
    record { low = omega (arith, ints, head.low, rest.low); high = omega (arith, ints, head.high, rest.high) }

-- a sum is a difference of two sums of natural numbers, so what std knows of those carries over
pub total-split : {X : Type 0} (f : X → ℤ) → (xs : List X) → total f xs ≡ pos (sum_by (λ x. up (f x)) xs) -ℤ pos (sum_by (λ x. down (f x)) xs)
total-split f [] = refl
total-split f (x ∷ xs) = omega (arith, ints, total-split f xs, sum_by-cons (λ y. up (f y)) x xs, sum_by-cons (λ y. down (f y)) x xs)

-- a list in another order has the same sum
pub total-permutation : {X : Type 0} (f : X → ℤ) → (xs ys : List X) → IsPermutation xs ys → total f ys ≡ total f xs
total-permutation f xs ys h =
    omega (arith, ints, total-split f xs, total-split f ys, sum_by-IsPermutation (λ x. up (f x)) xs ys h, sum_by-IsPermutation (λ x. down (f x)) xs ys h)
