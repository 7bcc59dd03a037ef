-- The spread of numbers, in whatever order they come.
use Rattle.std.proofs.Common.{◌≡◌, ◌⊎◌, ℕ, ℤ, ◌-ℤ◌, ◌≤ℤ◌, suc, zero, List, [], ◌∷◌, map, refl, sym, ap, ◌∙◌, arith, inl, inr}
use Rattle.std.specs.Int.{int_max, int_min}
use Rattle.std.specs.List.{All, Contains, fold}
use Rattle.std.specs.List.Sorted.{IsPermutation}
use Rattle.std.proofs.lemmas.Int.{ints, clamps}
use Rattle.std.proofs.lemmas.List.Elements.{All-cons, All-nil, All-head, All-tail, All-contains}
use Rattle.std.proofs.lemmas.List.Sorted.{Contains-permutation, IsPermutation-map, IsPermutation-sym, length_permutation}
use Rattle.mesh_terms.specs.Points.{coordinate_of}
use Rattle.edge_pairing.specs.Pairing.{spread, spread_on, spread_axis}

-- an order of numbers
record Orders (R : ℤ → ℤ → Type 0) : Type 0 where
  itself : (x : ℤ) → R x x
  through : (x y z : ℤ) → R x y → R y z → R x z
  both : (x y : ℤ) → R x y → R y x → x ≡ y

-- a choice of one of two numbers by an order
record Chooses (pick : ℤ → ℤ → ℤ) (R : ℤ → ℤ → Type 0) : Type 0 where
  one : (x y : ℤ) → (pick x y ≡ x) ⊎ (pick x y ≡ y)
  left : (x y : ℤ) → R (pick x y) x
  right : (x y : ℤ) → R (pick x y) y
  order : Orders R

-- a member that stands so to all
record IsBest (R : ℤ → ℤ → Type 0) (xs : List ℤ) (m : ℤ) : Type 0 where
  inside : Contains xs m
  best : All (R m) xs

-- what is chosen of the first two and the rest is a member
still_inside : (pick : ℤ → ℤ → ℤ) (a x m : ℤ) (xs : List ℤ) → (pick a x ≡ a) ⊎ (pick a x ≡ x) → Contains (pick a x ∷ xs) m → Contains (a ∷ x ∷ xs) m
still_inside pick a x m xs (inl e) (zero, l, same) = (0, omega arith, sym e ∙ same)
still_inside pick a x m xs (inr e) (zero, l, same) = (1, omega arith, sym e ∙ same)
still_inside pick a x m xs one (suc k, l, same) = (suc (suc k), omega (arith, l), same)

-- what is chosen of a number and a list is the best of them
best_of : (pick : ℤ → ℤ → ℤ) (R : ℤ → ℤ → Type 0) → Chooses pick R → (a : ℤ) (xs : List ℤ) → IsBest R (a ∷ xs) (fold pick a xs)
best_of pick R by a [] = record { inside = (0, omega arith, refl); best = All-cons (R a) a [] (by.order.itself a) (All-nil (R a)) }
best_of pick R by a (x ∷ xs) =
    let m = fold pick (pick a x) xs in
    let t = best_of pick R by (pick a x) xs in
    let top : R m (pick a x) = All-head (R m) (pick a x) xs t.best in
    record {
      inside = still_inside pick a x m xs (by.one a x) t.inside;
      best = All-cons (R m) a (x ∷ xs) (by.order.through m (pick a x) a top (by.left a x))
          (All-cons (R m) x xs (by.order.through m (pick a x) x top (by.right a x)) (All-tail (R m) (pick a x) xs t.best));
    }

-- so it is the same in every order
best_same : (pick : ℤ → ℤ → ℤ) (R : ℤ → ℤ → Type 0) → Chooses pick R → (x y : ℤ) (xs ys : List ℤ) → IsPermutation (x ∷ xs) (y ∷ ys) → fold pick x xs ≡ fold pick y ys
best_same pick R by x y xs ys moved =
    let m = fold pick x xs in
    let n = fold pick y ys in
    let one = best_of pick R by x xs in
    let other = best_of pick R by y ys in
    by.order.both m n
    (All-contains (R m) (x ∷ xs) n one.best (Contains-permutation (y ∷ ys) (x ∷ xs) n (IsPermutation-sym (x ∷ xs) (y ∷ ys) moved) other.inside))
    (All-contains (R n) (y ∷ ys) m other.best (Contains-permutation (x ∷ xs) (y ∷ ys) m moved one.inside))

-- numbers from the lesser to the greater
upward : Orders (λ m x. m ≤ℤ x)
upward = record {
  itself = λ x. omega (arith, ints);
  through = λ x y z h k. omega (arith, ints, h, k);
  both = λ x y h k. omega (arith, ints, h, k);
}

-- an order from its other end
reversed : (R : ℤ → ℤ → Type 0) → Orders R → Orders (λ x y. R y x)
reversed R up = record { itself = up.itself; through = λ x y z h k. up.through z y x k h; both = λ x y h k. up.both x y k h }

-- the greater of two
max_chooses : Chooses int_max (λ m x. x ≤ℤ m)
max_chooses = record {
  one = λ x y. grind (arith, ints, clamps);
  left = λ x y. omega (arith, ints, clamps);
  right = λ x y. omega (arith, ints, clamps);
  order = reversed (λ m x. m ≤ℤ x) upward;
}

-- and the lesser
min_chooses : Chooses int_min (λ m x. m ≤ℤ x)
min_chooses = record { one = λ x y. grind (arith, ints, clamps); left = λ x y. omega (arith, ints, clamps); right = λ x y. omega (arith, ints, clamps); order = upward }

-- the spread of a list in another order
pub spread-permutation : (xs ys : List ℤ) → IsPermutation xs ys → spread xs ≡ spread ys
spread-permutation [] [] moved = refl
spread-permutation [] (y ∷ ys) moved = absurd (omega (arith, length_permutation [] (y ∷ ys) moved))
spread-permutation (x ∷ xs) [] moved = absurd (omega (arith, length_permutation (x ∷ xs) [] moved))
spread-permutation (x ∷ xs) (y ∷ ys) moved =
    let high = best_same int_max (λ m z. z ≤ℤ m) max_chooses x y xs ys moved in
    let low = best_same int_min (λ m z. m ≤ℤ z) min_chooses x y xs ys moved in
    ap (λ h. h -ℤ fold int_min x xs) high ∙ ap (λ l. fold int_max y ys -ℤ l) low

pub spread_on-permutation : (axis : ℕ) (ps qs : List (List ℤ)) → IsPermutation ps qs → spread_on ps axis ≡ spread_on qs axis
spread_on-permutation axis ps qs moved =
    spread-permutation (map (λ p. coordinate_of p axis) ps) (map (λ p. coordinate_of p axis) qs) (IsPermutation-map (λ p. coordinate_of p axis) ps qs moved)

-- the axis of the greatest spread does not hang on the order
pub spread_axis-permutation : (ps qs : List (List ℤ)) → IsPermutation ps qs → spread_axis ps ≡ spread_axis qs
spread_axis-permutation ps qs moved = rw (spread_on-permutation 0 ps qs moved, spread_on-permutation 1 ps qs moved, spread_on-permutation 2 ps qs moved) refl
