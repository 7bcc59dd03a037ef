-- Lists that lie one after the other: where each begins and ends, and what more members and ends change.
use Rattle.std.proofs.Common.{◌≡◌, ◌<◌, ◌≤◌, ◌-◌, ◌++◌, ◌∷◌, ◌∙◌, ℕ, List, [], ap, arith, drop, get_or, length, refl, suc, sym, take, true, zero}
use Rattle.std.specs.Prelude.{nat_le}
use Rattle.std.proofs.lemmas.Bool.{and_from, and_parts, le-leb, leb-true}
use Rattle.std.proofs.lemmas.List.{drop-append-le, drop_all, get_or_read, length-drop, take-append-le, take_rest}
use Rattle.plane_chains.specs.Lists.{are_ends, last_end, lists_of, pieces}

-- there is a list for each end
pub length-pieces : {X : Type 0} (b : ℕ) (ends : List ℕ) (xs : List X) → length (pieces b ends xs) ≡ length ends
length-pieces b [] xs = refl
length-pieces b (e ∷ ends) xs = ap suc (length-pieces e ends xs)

-- the last list begins no later than it ends, and ends among all
pub record IsLast (b last n : ℕ) : Type 0 where
  pub low : b ≤ last
  pub high : last ≤ n

pub last_within : (b : ℕ) (ends : List ℕ) (n : ℕ) → are_ends b ends n ≡ true → IsLast b (last_end b ends) n
last_within b [] n h = let low = leb-true b n h in record { low = omega arith; high = low }
last_within b (e ∷ ends) n h =
    let p = and_parts (nat_le b e) (are_ends e ends n) h in
    let r = last_within e ends n p.1 in
    let up = leb-true b e p.0 in record { low = omega (arith, up, r.low); high = r.high }

-- more members change nothing
pub ends_more : (b : ℕ) (ends : List ℕ) (n m : ℕ) → n ≤ m → are_ends b ends n ≡ true → are_ends b ends m ≡ true
ends_more b [] n m more h = le-leb b m (omega (arith, more, leb-true b n h))
ends_more b (e ∷ ends) n m more h =
    let p = and_parts (nat_le b e) (are_ends e ends n) h in and_from (nat_le b e) (are_ends e ends m) p.0 (ends_more e ends n m more p.1)

pub pieces-append : {X : Type 0} (b : ℕ) (ends : List ℕ) (xs ys : List X) → are_ends b ends (length xs) ≡ true → pieces b ends (xs ++ ys) ≡ pieces b ends xs
pieces-append b [] xs ys h = refl
pieces-append b (e ∷ ends) xs ys h =
    let p = and_parts (nat_le b e) (are_ends e ends (length xs)) h in
    let up = leb-true b e p.0 in
    let last = last_within e ends (length xs) p.1 in
    let front : take (e - b) (drop b (xs ++ ys)) ≡ take (e - b) (drop b xs) =
    ap (take (e - b)) (drop-append-le b xs ys (omega (arith, up, last.low, last.high)))
    ∙ take-append-le (e - b) (drop b xs) ys (omega (arith, length-drop b xs, up, last.low, last.high)) in
    λ i. front i ∷ pieces-append e ends xs ys p.1 i

pub last-append : {X : Type 0} (ends : List ℕ) (xs ys : List X) → are_ends 0 ends (length xs) ≡ true →
    drop (last_end 0 ends) (xs ++ ys) ≡ drop (last_end 0 ends) xs ++ ys
last-append ends xs ys h = drop-append-le (last_end 0 ends) xs ys (last_within 0 ends (length xs) h).high

-- one end more
pub ends_end : (b : ℕ) (ends : List ℕ) (n : ℕ) → are_ends b ends n ≡ true → are_ends b (ends ++ n ∷ []) n ≡ true
ends_end b [] n h = and_from (nat_le b n) (nat_le n n) h (le-leb n n (omega arith))
ends_end b (e ∷ ends) n h =
    let p = and_parts (nat_le b e) (are_ends e ends n) h in and_from (nat_le b e) (are_ends e (ends ++ n ∷ []) n) p.0 (ends_end e ends n p.1)

pub ends_ended : (ends : List ℕ) (n m : ℕ) → n ≡ m → are_ends 0 ends m ≡ true → are_ends 0 (ends ++ n ∷ []) m ≡ true
ends_ended ends n m e h = ap (λ k. are_ends 0 (ends ++ k ∷ []) m) e ∙ ends_end 0 ends m h

pub last-end : (b : ℕ) (ends : List ℕ) (n : ℕ) → last_end b (ends ++ n ∷ []) ≡ n
last-end b [] n = refl
last-end b (e ∷ ends) n = last-end e ends n

pub pieces-end : {X : Type 0} (b : ℕ) (ends : List ℕ) (xs : List X) → pieces b (ends ++ length xs ∷ []) xs ≡ pieces b ends xs ++ drop (last_end b ends) xs ∷ []
pieces-end b [] xs = ap (λ ys. ys ∷ []) (take_rest xs b)
pieces-end b (e ∷ ends) xs = ap (λ yss. take (e - b) (drop b xs) ∷ yss) (pieces-end e ends xs)

-- the list at a place
pub piece_at : {X : Type 0} (b : ℕ) (ends : List ℕ) (xs : List X) (i : ℕ) → i < length ends →
    get_or (pieces b ends xs) i [] ≡ take (get_or ends i 0 - get_or (b ∷ ends) i 0) (drop (get_or (b ∷ ends) i 0) xs)
piece_at b [] xs i low = absurd (omega (arith, low))
piece_at b (e ∷ ends) xs zero low = refl
piece_at b (e ∷ ends) xs (suc i) low = piece_at e ends xs i (omega (arith, low))

-- its begin and its end
pub record IsPart (n begin end : ℕ) : Type 0 where
  pub order : begin ≤ end
  pub within : end ≤ n

pub part_at : (b : ℕ) (ends : List ℕ) (n i : ℕ) → are_ends b ends n ≡ true → i < length ends → IsPart n (get_or (b ∷ ends) i 0) (get_or ends i 0)
part_at b [] n i h low = absurd (omega (arith, low))
part_at b (e ∷ ends) n zero h low =
    let p = and_parts (nat_le b e) (are_ends e ends n) h in
    let last = last_within e ends n p.1 in record { order = leb-true b e p.0; within = omega (arith, last.low, last.high) }
part_at b (e ∷ ends) n (suc i) h low = part_at e ends n i (and_parts (nat_le b e) (are_ends e ends n) h).1 (omega (arith, low))

-- another list is being made, and that list is done
abbrev pub with_last : {X : Type 0} → List (List X) × List X → List X → List (List X) × List X
with_last s ys = (s.0, ys)

abbrev pub with_end : {X : Type 0} → List (List X) × List X → List (List X) × List X
with_end s = (s.0 ++ s.1 ∷ [], [])

-- as they are read
module _ {X : Type 0} (ends : List ℕ) (xs : List X) (seen : List (List X) × List X) (is : lists_of ends xs ≡ seen) where
  pub many : length seen.0 ≡ length ends
  many = sym (ap (λ (s : List (List X) × List X). length s.0) is) ∙ length-pieces 0 ends xs

  pub part_read : (i begin end : ℕ) (read : List ℕ) → are_ends 0 ends (length xs) ≡ true → i < length ends → read ≡ ends → begin ≡ get_or (0 ∷ read) i 0 →
      end ≡ get_or ends i end → IsPart (length xs) begin end
  part_read i begin end read are low same first last =
      let here : end ≡ get_or ends i 0 = get_or_read ends i end low last 0 in
      let there : begin ≡ get_or (0 ∷ ends) i 0 = first ∙ ap (λ l. get_or (0 ∷ l) i 0) same in
      let p = part_at 0 ends (length xs) i are low in record { order = omega (arith, here, there, p.order); within = omega (arith, here, p.within) }

  pub piece_read : (i begin end : ℕ) (read : List ℕ) → i < length ends → read ≡ ends → begin ≡ get_or (0 ∷ read) i 0 →
      end ≡ get_or ends i end → take (end - begin) (drop begin xs) ≡ get_or seen.0 i []
  piece_read i begin end read low same first last =
      let here : end ≡ get_or ends i 0 = get_or_read ends i end low last 0 in
      let there : begin ≡ get_or (0 ∷ ends) i 0 = first ∙ ap (λ l. get_or (0 ∷ l) i 0) same in
      (λ k. take (here k - there k) (drop (there k) xs)) ∙ sym (piece_at 0 ends xs i low) ∙ ap (λ (s : List (List X) × List X). get_or s.0 i []) is

  pub pushed : (ys : List X) → are_ends 0 ends (length xs) ≡ true → lists_of ends (xs ++ ys) ≡ with_last seen (seen.1 ++ ys)
  pushed ys are =
      let front : lists_of ends (xs ++ ys) ≡ with_last (lists_of ends xs) ((lists_of ends xs).1 ++ ys) = λ k. (pieces-append 0 ends xs ys are k, last-append ends xs ys are k) in
      front ∙ ap (λ (s : List (List X) × List X). with_last s (s.1 ++ ys)) is

  pub ended : (n : ℕ) → n ≡ length xs → lists_of (ends ++ n ∷ []) xs ≡ with_end seen
  ended n long =
      let behind : drop (last_end 0 (ends ++ length xs ∷ [])) xs ≡ [] =
      ap (λ m. drop m xs) (last-end 0 ends (length xs)) ∙ drop_all (length xs) xs (omega arith) in
      let front : lists_of (ends ++ length xs ∷ []) xs ≡ with_end (lists_of ends xs) = λ k. (pieces-end 0 ends xs k, behind k) in
      ap (λ m. lists_of (ends ++ m ∷ []) xs) long ∙ front ∙ ap with_end is
