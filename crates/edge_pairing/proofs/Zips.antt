-- Two lists side by side.
use Rattle.std.proofs.Common.{◌≡◌, ◌≤◌, ℕ, ℤ, List, [], ◌∷◌, length, map, refl, ap, arith}
use Rattle.std.specs.List.{zip}
use Rattle.chain_terms.specs.Odd.{backward}
use Rattle.edge_pairing.specs.Pairing.{pair_up}

-- exchanged, each pair is turned
pub zip-exchanged : (xs ys : List ℕ) → zip ys xs ≡ backward (zip xs ys)
zip-exchanged [] [] = refl
zip-exchanged [] (y ∷ ys) = refl
zip-exchanged (x ∷ xs) [] = refl
zip-exchanged (x ∷ xs) (y ∷ ys) = ap (λ l. (y, x) ∷ l) (zip-exchanged xs ys)

-- the first parts
pub zip-firsts : (xs ys : List ℕ) → length xs ≡ length ys → map (λ p. p.0) (zip xs ys) ≡ xs
zip-firsts [] ys e = refl
zip-firsts (x ∷ xs) [] e = absurd (omega (arith, e))
zip-firsts (x ∷ xs) (y ∷ ys) e = ap (λ l. x ∷ l) (zip-firsts xs ys (omega (arith, e)))

-- the second parts
pub zip-seconds : (xs ys : List ℕ) → length xs ≡ length ys → map (λ p. p.1) (zip xs ys) ≡ ys
zip-seconds [] [] e = refl
zip-seconds [] (y ∷ ys) e = absurd (omega (arith, e))
zip-seconds (x ∷ xs) [] e = absurd (omega (arith, e))
zip-seconds (x ∷ xs) (y ∷ ys) e = ap (λ l. y ∷ l) (zip-seconds xs ys (omega (arith, e)))

-- one start and one end are a pair, whatever their keys
pub pair_up-single : (key : ℕ → ℤ) (ss es : List ℕ) → length ss ≤ 1 → length es ≤ 1 → pair_up key ss es ≡ zip ss es
pair_up-single key [] [] h k = refl
pair_up-single key [] (e ∷ []) h k = refl
pair_up-single key [] (e ∷ f ∷ es) h k = absurd (omega (arith, k))
pair_up-single key (s ∷ []) [] h k = refl
pair_up-single key (s ∷ []) (e ∷ []) h k = refl
pair_up-single key (s ∷ []) (e ∷ f ∷ es) h k = absurd (omega (arith, k))
pair_up-single key (s ∷ t ∷ ss) es h k = absurd (omega (arith, h))

-- two keys that agree pair alike
same_function : (f g : ℕ → ℤ) → ((v : ℕ) → f v ≡ g v) → f ≡ g
same_function f g h = λ i. λ v. h v i

pub pair_up-same : (f g : ℕ → ℤ) (ss es : List ℕ) → ((v : ℕ) → f v ≡ g v) → pair_up f ss es ≡ pair_up g ss es
pair_up-same f g ss es h = ap (λ key. pair_up key ss es) (same_function f g h)
