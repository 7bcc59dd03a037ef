-- Level lists of brackets: as many open as close, and at the front never more close than open.
use Rattle.std.proofs.Common.{◌≡◌, ◌<◌, ◌≤◌, ◌+◌, ◌-◌, ℕ, zero, suc, Bool, true, false, cond, List, [], ◌∷◌, ◌++◌, append_assoc, length, get_or, take, drop, refl, sym, ◌∙◌, ap, subst, arith, inl, inr, length-append}
use Rattle.std.specs.Prelude.{not, nat_lt, count_by, reverse}
use Rattle.std.specs.List.{position_or_len}
use Rattle.std.proofs.lemmas.Bool.{cases_lt, le-ltb, lt-ltb}
use Rattle.std.proofs.lemmas.List.{get_or-append_right, reverse-append, reverse-reverse, take_all, take-append-le, take-append-drop}
use Rattle.std.proofs.lemmas.List.Sorted.{IsPermutation-reverse, sum_by-IsPermutation}
use Rattle.std.proofs.lemmas.List.Sums.{position_or_len_is, sum_by-append}
use Rattle.chain_terms.specs.Chains.{one_if}
use Rattle.chain_terms.specs.Sums.{upto}
use Rattle.chain_laws.specs.Counts.{count_by-cons}
use Rattle.chain_laws.proofs.Places.{get_or-up_from, length-up_from}
use Rattle.sheet_terms.specs.Twins.{closing}

-- the front of two lists that is as long as the first
pub take_front : (xs ys : List ℕ) → take (length xs) (xs ++ ys) ≡ xs
take_front xs ys = take-append-le (length xs) xs ys (omega arith) ∙ take_all (length xs) xs (omega arith)

-- one more
pub take_front_more : (xs : List ℕ) (y : ℕ) (ys : List ℕ) → take (length xs + 1) (xs ++ y ∷ ys) ≡ xs ++ y ∷ []
take_front_more xs y ys =
    let many : length (xs ++ y ∷ []) ≡ length xs + 1 = length-append xs (y ∷ []) in
    let parts : xs ++ y ∷ ys ≡ (xs ++ y ∷ []) ++ ys = simp append_assoc in
    (λ i. take (sym many i) (parts i)) ∙ take_front (xs ++ y ∷ []) ys

-- a front that reaches into the second list
pub take_past : (k : ℕ) (xs ys : List ℕ) → length xs ≤ k → take k (xs ++ ys) ≡ xs ++ take (k - length xs) ys
take_past k [] ys low = let same : k ≡ k - 0 = omega arith in ap (λ n. take n ys) same
take_past zero (x ∷ xs) ys low = absurd (omega (arith, low))
take_past (suc k) (x ∷ xs) ys low =
    let less : suc k - suc (length xs) ≡ k - length xs = omega arith in
    ap (λ l. x ∷ l) (take_past k xs ys (omega (arith, low))) ∙ ap (λ n. x ∷ xs ++ take n ys) (sym less)

pub count_append : (p : ℕ → Bool) (xs ys : List ℕ) → count_by p (xs ++ ys) ≡ count_by p xs + count_by p ys
count_append p xs ys = sum_by-append (λ x. cond (p x) 1 0) xs ys

pub count_more : (p : ℕ → Bool) (xs : List ℕ) (y : ℕ) (ys : List ℕ) → count_by p (xs ++ y ∷ ys) ≡ count_by p xs + one_if (p y) + count_by p ys
count_more p xs y ys = omega (arith, count_append p xs (y ∷ ys), count_by-cons p y ys)

pub count_reverse : (p : ℕ → Bool) (xs : List ℕ) → count_by p (reverse xs) ≡ count_by p xs
count_reverse p xs = sum_by-IsPermutation (λ x. cond (p x) 1 0) xs (reverse xs) (IsPermutation-reverse xs)

pub count_twice : (p : ℕ → Bool) (xs : List ℕ) → count_by (λ x. not (not (p x))) xs ≡ count_by p xs
count_twice p [] = refl
count_twice p (x ∷ xs) = omega (arith, count_by-cons p x xs, count_by-cons (λ y. not (not (p y))) x xs, count_twice p xs, ap one_if (again (p x)))
  where
    again : (b : Bool) → not (not b) ≡ b
    again true = refl
    again false = refl

module _ (opens : ℕ → Bool) where
  abbrev pub closes : ℕ → Bool
  closes h = not (opens h)

  pub record IsLevel (xs : List ℕ) : Type 0 where
    pub even : count_by opens xs ≡ count_by closes xs
    pub up : (k : ℕ) → count_by closes (take k xs) ≤ count_by opens (take k xs)

  pub level_none : IsLevel []
  level_none = record { even = refl; up = λ k. up k }
    where
      up : (k : ℕ) → count_by closes (take k []) ≤ count_by opens (take k [])
      up zero = omega arith
      up (suc k) = omega arith

  pub level_append : (xs ys : List ℕ) → IsLevel xs → IsLevel ys → IsLevel (xs ++ ys)
  level_append xs ys one other = record {
    even = omega (arith, count_append opens xs ys, count_append closes xs ys, one.even, other.even);
    up = λ k. elim (cases_lt k (length xs)) as (λ _. count_by closes (take k (xs ++ ys)) ≤ count_by opens (take k (xs ++ ys))) [
      | inl less ↦ rw (take-append-le k xs ys (omega (arith, less))) (one.up k)
      | inr more ↦ rw (take_past k xs ys more)
          (omega (
            arith,
            count_append opens xs (take (k - length xs) ys),
            count_append closes xs (take (k - length xs) ys),
            one.even,
            other.up (k - length xs),
          ))
    ];
  }

  -- a level list between brackets
  pub level_wrap : (s : ℕ) (xs : List ℕ) (c : ℕ) → opens s ≡ true → opens c ≡ false → IsLevel xs → IsLevel (s ∷ xs ++ c ∷ [])
  level_wrap s xs c opened closed level = record {
    even = omega (
      arith,
      count_by-cons opens s (xs ++ c ∷ []),
      count_by-cons closes s (xs ++ c ∷ []),
      count_more opens xs c [],
      count_more closes xs c [],
      ap one_if opened,
      ap one_if closed,
      ap (λ b. one_if (not b)) opened,
      ap (λ b. one_if (not b)) closed,
      level.even,
    );
    up = up;
  }
    where
      up : (k : ℕ) → count_by closes (take k (s ∷ xs ++ c ∷ [])) ≤ count_by opens (take k (s ∷ xs ++ c ∷ []))
      up zero = omega arith
      up (suc k) = elim (cases_lt (length xs) k) as (λ _. count_by closes (take (suc k) (s ∷ xs ++ c ∷ [])) ≤ count_by opens (take (suc k) (s ∷ xs ++ c ∷ []))) [
        | inl all ↦
            let whole : take k (xs ++ c ∷ []) ≡ xs ++ c ∷ [] = take_all k (xs ++ c ∷ []) (omega (arith, all, length-append xs (c ∷ []))) in
            rw whole
            (omega (
              arith,
              count_by-cons opens s (xs ++ c ∷ []),
              count_by-cons closes s (xs ++ c ∷ []),
              count_more opens xs c [],
              count_more closes xs c [],
              ap one_if opened,
              ap one_if closed,
              ap (λ b. one_if (not b)) opened,
              ap (λ b. one_if (not b)) closed,
              level.even,
            ))
        | inr part ↦
            rw (take-append-le k xs (c ∷ []) part)
            (omega (
              arith,
              count_by-cons opens s (take k xs),
              count_by-cons closes s (take k xs),
              ap one_if opened,
              ap (λ b. one_if (not b)) opened,
              level.up k,
            ))
      ]

  -- behind a level list the first that closes more is the next that closes
  pub closing_at : (xs : List ℕ) (c : ℕ) (ys : List ℕ) → IsLevel xs → opens c ≡ false → closing opens (xs ++ c ∷ ys) ≡ c
  closing_at xs c ys level closed =
      ap (λ i. get_or whole i 0) place ∙ get_or-append_right xs (c ∷ ys) (length xs) (length xs) 0 refl (omega arith) ∙ ap (λ i. get_or (c ∷ ys) i 0) none
    where
      whole : List ℕ
      whole = xs ++ c ∷ ys

      none : length xs - length xs ≡ 0
      none = omega arith

      test : ℕ → Bool
      test i = nat_lt (count_by opens (take (i + 1) (xs ++ c ∷ ys))) (count_by closes (take (i + 1) (xs ++ c ∷ ys)))

      long : length (upto (length (xs ++ c ∷ ys))) ≡ length xs + 1 + length ys
      long = length-up_from 0 (length (xs ++ c ∷ ys)) ∙ omega (arith, length-append xs (c ∷ ys))

      at : (i : ℕ) → i < length xs + 1 + length ys → get_or (upto (length (xs ++ c ∷ ys))) i 0 ≡ i
      at i low =
          let all : i < length (xs ++ c ∷ ys) = omega (arith, low, length-append xs (c ∷ ys)) in
          let first : 0 + i ≡ i = omega arith in get_or-up_from 0 (length (xs ++ c ∷ ys)) i 0 all ∙ first

      fails : (k : ℕ) → k < length xs → test (get_or (upto (length (xs ++ c ∷ ys))) k 0) ≡ false
      fails k low =
          ap test (at k (omega (arith, low)))
          ∙ (λ i. nat_lt (count_by opens (front i)) (count_by closes (front i)))
          ∙ le-ltb (count_by opens (take (k + 1) xs)) (count_by closes (take (k + 1) xs)) (level.up (k + 1))
        where
          front : take (k + 1) (xs ++ c ∷ ys) ≡ take (k + 1) xs
          front = take-append-le (k + 1) xs (c ∷ ys) (omega (arith, low))

      passes : test (get_or (upto (length (xs ++ c ∷ ys))) (length xs) 0) ≡ true
      passes =
          ap test (at (length xs) (omega arith)) ∙ (λ i. nat_lt (count_by opens (front i)) (count_by closes (front i)))
          ∙ lt-ltb (count_by opens (xs ++ c ∷ [])) (count_by closes (xs ++ c ∷ []))
          (omega (arith, count_more opens xs c [], count_more closes xs c [], ap one_if closed, ap (λ b. one_if (not b)) closed, level.even))
        where
          front : take (length xs + 1) (xs ++ c ∷ ys) ≡ xs ++ c ∷ []
          front = take_front_more xs c ys

      place : position_or_len test (upto (length (xs ++ c ∷ ys))) ≡ length xs
      place = position_or_len_is test (upto (length (xs ++ c ∷ ys))) (length xs) 0 (omega (arith, long)) fails (λ _. passes)

-- seen from the back, brackets open where they close
pub level_reverse : (opens : ℕ → Bool) (xs : List ℕ) → IsLevel opens xs → IsLevel (closes opens) (reverse xs)
level_reverse opens xs level = record {
  even = count_reverse (closes opens) xs ∙ sym level.even ∙ sym (count_twice opens xs) ∙ sym (count_reverse (closes (closes opens)) xs);
  up = up;
}
  where
    up : (k : ℕ) → count_by (closes (closes opens)) (take k (reverse xs)) ≤ count_by (closes opens) (take k (reverse xs))
    up k =
        let front = take k (reverse xs) in
        let back = drop k (reverse xs) in
        let parts : xs ≡ reverse back ++ reverse front = sym (reverse-reverse xs) ∙ ap reverse (sym (take-append-drop k (reverse xs))) ∙ reverse-append front back in
        let ahead : take (length (reverse back)) xs ≡ reverse back = ap (take (length (reverse back))) parts ∙ take_front (reverse back) (reverse front) in
        let low = subst (λ l. count_by (closes opens) l ≤ count_by opens l) ahead (level.up (length (reverse back))) in
        omega (
          arith,
          low,
          level.even,
          ap (count_by opens) parts,
          ap (count_by (closes opens)) parts,
          count_append opens (reverse back) (reverse front),
          count_append (closes opens) (reverse back) (reverse front),
          count_reverse opens front,
          count_reverse (closes opens) front,
          count_twice opens front,
        )
