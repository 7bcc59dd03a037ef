-- Texts whose bytes are all above some byte.
use Rattle.std.proofs.Common.{ℕ, ◌<◌, ◌≤◌, List, [], ◌∷◌, ◌++◌, length, arith}

-- each byte is above n
abbrev pub Above : ℕ → List ℕ → Type 0
Above n [] = Unit {0}
Above n (c ∷ cs) = (n < c) × Above n cs

-- one text after the other
pub Above-append : (n : ℕ) (xs ys : List ℕ) → Above n xs → Above n ys → Above n (xs ++ ys)
Above-append n [] ys a b = b
Above-append n (x ∷ xs) ys a b = (a.0, Above-append n xs ys a.1 b)

-- and so above anything lower
pub Above-lower : (m n : ℕ) (xs : List ℕ) → m ≤ n → Above n xs → Above m xs
Above-lower m n [] low a = tt
Above-lower m n (x ∷ xs) low a = (omega (arith, a.0), Above-lower m n xs low a.1)

-- a word: some bytes, each above a space
pub record IsWord (word : List ℕ) : Type 0 where
  pub some : 0 < length word
  pub marks : Above 32 word
