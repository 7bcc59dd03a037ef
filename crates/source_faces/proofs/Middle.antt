-- The copies of what is prescribed in the middle of a list.
use Rattle.std.proofs.Common.{◌≡◌, ℕ, zero, suc, ◌+◌, ◌<◌, ◌≤◌, List, [], ◌∷◌, ◌++◌, length, get_or, nat_abs, refl, sym, ap, ◌∙◌, arith}
use Rattle.std.proofs.lemmas.List.{get_or-append-add, get_or_append_left, length-append}
use Rattle.side_terms.specs.Lists.{no_copy}
use Rattle.side_terms.specs.Prescribed.{Prescription, copies_of, copy_of}
use Rattle.source_faces.proofs.Blocks.{all_copies, before, before_all, before_ascends, copy_in, length-copies_of, no_prescription}

-- blocks of a first part
pub before_left : (xs ys : List Prescription) (j : ℕ) → j ≤ length xs → before (xs ++ ys) j ≡ before xs j
before_left [] [] zero l = refl
before_left [] (y ∷ ys) zero l = refl
before_left [] ys (suc j) l = absurd (omega (arith, l))
before_left (x ∷ xs) ys zero l = refl
before_left (x ∷ xs) ys (suc j) l = omega (arith, before_left xs ys j (omega (arith, l)))

-- and of a second
pub before_right : (xs ys : List Prescription) (j : ℕ) → before (xs ++ ys) (length xs + j) ≡ length (all_copies xs) + before ys j
before_right [] ys j = let here : 0 + j ≡ j = omega arith in omega (arith, ap (before ys) here)
before_right (x ∷ xs) ys j =
    let more : suc (length xs) + j ≡ suc (length xs + j) = omega arith in
    omega (arith, ap (before (x ∷ xs ++ ys)) more, before_right xs ys j, length-append (copies_of x) (all_copies xs), length-copies_of x)

-- so in the middle
pub before_middle : (xs ms ys : List Prescription) (j : ℕ) → j ≤ length ms →
    before (xs ++ (ms ++ ys)) (length xs + j) ≡ length (all_copies xs) + before ms j
before_middle xs ms ys j l = omega (arith, before_right xs (ms ++ ys) j, before_left ms ys j l)

pub at_middle : (xs ms ys : List Prescription) (j : ℕ) → j < length ms → get_or (xs ++ (ms ++ ys)) (length xs + j) no_prescription ≡ get_or ms j no_prescription
at_middle xs ms ys j l = get_or-append-add xs (ms ++ ys) j no_prescription ∙ get_or_append_left ms ys no_prescription j l

-- a copy there
pub record IsCopyAt (is : List Prescription) (i : Prescription) (v : ℕ) : Type 0 where
  pub within : v < length (all_copies is)
  pub copy : get_or (all_copies is) v no_copy ≡ copy_of i

pub copy_middle : (xs ms ys : List Prescription) (j k : ℕ) → j < length ms → k < nat_abs (get_or ms j no_prescription).number →
    IsCopyAt (xs ++ (ms ++ ys)) (get_or ms j no_prescription) (length (all_copies xs) + (before ms j + k))
copy_middle xs ms ys j k l m =
    let is = xs ++ (ms ++ ys) in
    let inside : length xs + j < length is = omega (arith, l, length-append xs (ms ++ ys), length-append ms ys) in
    let item = at_middle xs ms ys j l in
    let size : k < nat_abs (get_or is (length xs + j) no_prescription).number = omega (arith, m, ap (λ i. nat_abs i.number) item) in
    let at : before is (length xs + j) + k ≡ length (all_copies xs) + (before ms j + k) =
    omega (arith, before_middle xs ms ys j (omega (arith, l))) in
    record {
      within = omega (arith, at, size, before_ascends is (length xs + j) (length is) inside (omega arith), before_all is);
      copy = sym (ap (λ n. get_or (all_copies is) n no_copy) at) ∙ copy_in is (length xs + j) k inside size ∙ ap copy_of item;
    }
