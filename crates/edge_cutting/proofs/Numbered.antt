-- Members numbered in the order in which they come first, as a set in the order of insertion has them.
use Rattle.std.specs.Prelude.{◌≡◌, ◌⊎◌, ℕ, zero, suc, ◌+◌, ◌<◌, ◌≤◌, List, [], ◌∷◌, ◌++◌, true, false, Bool, cond, not, ◌||◌, get_or, length, map}
use Rattle.std.specs.List.{All, AllPairs, list_any, position_or_len}
use Rattle.std.proofs.Common.{arith, refl, sym, ap, subst, ◌∙◌, inl, inr}
use Rattle.std.proofs.lemmas.Bool.{both_ways, cases_Bool, or_cases, or_from, or_left, or_parts, or_right}
use Rattle.std.proofs.lemmas.List.{append-nil, append_assoc, map-append}
use Rattle.std.proofs.lemmas.List.Elements.{All-cons, All-head, All-nil, All-push, All-tail}
use Rattle.std.proofs.lemmas.List.Folds.{list_any-append}
use Rattle.std.proofs.lemmas.List.Kept.{AllPairs-cons}
use Rattle.indexmap.specs.IndexSet.{insert_key}
use Rattle.sheet_terms.specs.Places.{firsts, firsts_after}

-- a test that tells like members: each is like itself, in both orders, and what is like a like one
pub record IsLike {X : Type 0} (like : X → X → Bool) : Type 0 where
  pub self : (x : X) → like x x ≡ true
  pub back : (x y : X) → like x y ≡ true → like y x ≡ true
  pub on : (x y z : X) → like x y ≡ true → like y z ≡ true → like x z ≡ true

-- a member in front of others
pub any_push : {X : Type 0} (p : X → Bool) (xs : List X) (y : X) → list_any p (xs ++ y ∷ []) ≡ (list_any p xs || p y)
any_push p xs y = list_any-append p xs (y ∷ []) ∙ ap (λ b. list_any p xs || b) (last (p y))
  where
    last : (b : Bool) → (b || false) ≡ b
    last true = refl
    last false = refl

module _ {X : Type 0} (like : X → X → Bool) (is : IsLike like) where
  -- what is like something that is like one of a list
  passed_on : (x y : X) (zs : List X) → like x y ≡ true → list_any (like y) zs ≡ true → list_any (like x) zs ≡ true
  passed_on x y [] h some = some
  passed_on x y (z ∷ zs) h some = elim (or_cases (like y z) (list_any (like y) zs) some) as (λ _. list_any (like x) (z ∷ zs) ≡ true) [
    | inl here ↦ or_left (like x z) (list_any (like x) zs) (is.on x y z h here)
    | inr later ↦ or_right (like x z) (list_any (like x) zs) (passed_on x y zs h later)
  ]

  -- what is like none before is like a first one where it is like a member
  any_after : (x : X) (before xs : List X) → list_any (like x) before ≡ false → list_any (like x) (firsts_after like before xs) ≡ list_any (like x) xs
  any_after x before [] none = refl
  any_after x before (y ∷ ys) none = by (cases_Bool (list_any (like y) before)) (cases_Bool (like x y)) (any_after x (before ++ y ∷ []) ys)
    where
      still : like x y ≡ false → list_any (like x) (before ++ y ∷ []) ≡ false
      still n = any_push (like x) before y ∙ or_from (list_any (like x) before) (like x y) none n

      by : (list_any (like y) before ≡ true) ⊎ (list_any (like y) before ≡ false) → (like x y ≡ true) ⊎ (like x y ≡ false) →
          (list_any (like x) (before ++ y ∷ []) ≡ false → list_any (like x) (firsts_after like (before ++ y ∷ []) ys) ≡ list_any (like x) ys) →
          list_any (like x) (cond (list_any (like y) before) [] (y ∷ []) ++ firsts_after like (before ++ y ∷ []) ys) ≡ (like x y || list_any (like x) ys)
      by (inl was) (inl h) go = absurd (both_ways (list_any (like x) before) none (passed_on x y before h was))
      by (inl was) (inr n) go =
          ap (λ b. list_any (like x) (cond b [] (y ∷ []) ++ firsts_after like (before ++ y ∷ []) ys)) was ∙ go (still n) ∙ ap (λ b. b || list_any (like x) ys) (sym n)
      by (inr new) (inl h) go =
          ap (λ b. list_any (like x) (cond b [] (y ∷ []) ++ firsts_after like (before ++ y ∷ []) ys)) new
          ∙ ap (λ b. b || list_any (like x) (firsts_after like (before ++ y ∷ []) ys)) h ∙ ap (λ b. b || list_any (like x) ys) (sym h)
      by (inr new) (inr n) go =
          ap (λ b. list_any (like x) (cond b [] (y ∷ []) ++ firsts_after like (before ++ y ∷ []) ys)) new ∙ ap (λ b. like x y || b) (go (still n))

  pub any_firsts : (x : X) (xs : List X) → list_any (like x) (firsts like xs) ≡ list_any (like x) xs
  any_firsts x xs = any_after x [] xs refl

  -- one more member
  after_push : (before xs : List X) (x : X) → firsts_after like before (xs ++ x ∷ []) ≡ firsts_after like before xs ++ cond (list_any (like x) (before ++ xs)) [] (x ∷ [])
  after_push before [] x =
      append-nil (cond (list_any (like x) before) [] (x ∷ [])) ∙ ap (λ l. cond (list_any (like x) l) [] (x ∷ [])) (sym (append-nil before))
  after_push before (y ∷ ys) x =
      let c = cond (list_any (like y) before) [] (y ∷ []) in
      ap (λ l. c ++ l) (after_push (before ++ y ∷ []) ys x)
      ∙ sym (append_assoc c (firsts_after like (before ++ y ∷ []) ys) (cond (list_any (like x) ((before ++ y ∷ []) ++ ys)) [] (x ∷ [])))
      ∙ ap (λ l. (c ++ firsts_after like (before ++ y ∷ []) ys) ++ cond (list_any (like x) l) [] (x ∷ [])) (append_assoc before (y ∷ []) ys)

  pub firsts_push : (xs : List X) (x : X) → firsts like (xs ++ x ∷ []) ≡ insert_key like (firsts like xs) x
  firsts_push xs x =
      after_push [] xs x ∙ ap (λ b. firsts like xs ++ cond b [] (x ∷ [])) (sym (any_firsts x xs)) ∙ by (list_any (like x) (firsts like xs))
    where
      by : (b : Bool) → firsts like xs ++ cond b [] (x ∷ []) ≡ cond b (firsts like xs) (firsts like xs ++ x ∷ [])
      by true = append-nil (firsts like xs)
      by false = refl

  -- where a member stands does not change by others behind
  stands_push : (x y : X) (ks : List X) → list_any (like x) ks ≡ true → position_or_len (like x) (ks ++ y ∷ []) ≡ position_or_len (like x) ks
  stands_push x y [] some = absurd cc
  stands_push x y (k ∷ ks) some = by (cases_Bool (like x k)) (stands_push x y ks)
    where
      by : (like x k ≡ true) ⊎ (like x k ≡ false) → (list_any (like x) ks ≡ true → position_or_len (like x) (ks ++ y ∷ []) ≡ position_or_len (like x) ks) →
          position_or_len (like x) ((k ∷ ks) ++ y ∷ []) ≡ position_or_len (like x) (k ∷ ks)
      by (inl h) go = ap (λ b. cond (not b) (1 + position_or_len (like x) (ks ++ y ∷ [])) 0) h ∙ sym (ap (λ b. cond (not b) (1 + position_or_len (like x) ks) 0) h)
      by (inr n) go =
          ap (λ b. cond (not b) (1 + position_or_len (like x) (ks ++ y ∷ [])) 0) n
          ∙ ap (λ m. 1 + m) (go (sym (ap (λ b. b || list_any (like x) ks) n) ∙ some))
          ∙ sym (ap (λ b. cond (not b) (1 + position_or_len (like x) ks) 0) n)

  -- a member that is added stands where the set says
  stands_new : (x : X) (ks : List X) → list_any (like x) ks ≡ false → position_or_len (like x) (ks ++ x ∷ []) ≡ position_or_len (like x) ks
  stands_new x [] none = ap (λ b. cond (not b) (1 + 0) 0) (is.self x)
  stands_new x (k ∷ ks) none =
      let both = or_parts (like x k) (list_any (like x) ks) none in
      ap (λ b. cond (not b) (1 + position_or_len (like x) (ks ++ x ∷ [])) 0) both.0 ∙ ap (λ m. 1 + m) (stands_new x ks both.1)
      ∙ sym (ap (λ b. cond (not b) (1 + position_or_len (like x) ks) 0) both.0)

  pub stands_inserted : (x : X) (ks : List X) → position_or_len (like x) (insert_key like ks x) ≡ position_or_len (like x) ks
  stands_inserted x ks = by (cases_Bool (list_any (like x) ks))
    where
      by : (list_any (like x) ks ≡ true) ⊎ (list_any (like x) ks ≡ false) → position_or_len (like x) (cond (list_any (like x) ks) ks (ks ++ x ∷ [])) ≡ position_or_len (like x) ks
      by (inl y) = ap (λ b. position_or_len (like x) (cond b ks (ks ++ x ∷ []))) y
      by (inr n) = ap (λ b. position_or_len (like x) (cond b ks (ks ++ x ∷ []))) n ∙ stands_new x ks n

  pub stands_other : (x y : X) (ks : List X) → list_any (like x) ks ≡ true → position_or_len (like x) (insert_key like ks y) ≡ position_or_len (like x) ks
  stands_other x y ks some = by (list_any (like y) ks)
    where
      by : (b : Bool) → position_or_len (like x) (cond b ks (ks ++ y ∷ [])) ≡ position_or_len (like x) ks
      by true = refl
      by false = stands_push x y ks some

  -- a member is like a member
  pub member_any : (ys : List X) (k : ℕ) (d : X) → k < length ys → list_any (like (get_or ys k d)) ys ≡ true
  member_any [] k d low = absurd (omega (arith, low))
  member_any (y ∷ ys) zero d low = or_left (like y y) (list_any (like y) ys) (is.self y)
  member_any (y ∷ ys) (suc k) d low = or_right (like (get_or ys k d) y) (list_any (like (get_or ys k d)) ys) (member_any ys k d (omega (arith, low)))

  -- the numbers of all members
  abbrev pub numbers : List X → List ℕ
  numbers xs = map (λ x. position_or_len (like x) (firsts like xs)) xs

  pub numbers_push : (xs : List X) (x : X) → numbers (xs ++ x ∷ []) ≡ numbers xs ++ position_or_len (like x) (firsts like xs) ∷ []
  numbers_push xs x =
      map-append at xs (x ∷ []) ∙ ap (λ l. l ++ at x ∷ []) (all_stay xs (λ k d low. member_any xs k d low)) ∙ ap (λ n. numbers xs ++ n ∷ []) last
    where
      at : X → ℕ
      at y = position_or_len (like y) (firsts like (xs ++ x ∷ []))

      last : position_or_len (like x) (firsts like (xs ++ x ∷ [])) ≡ position_or_len (like x) (firsts like xs)
      last = ap (position_or_len (like x)) (firsts_push xs x) ∙ stands_inserted x (firsts like xs)

      stays : (y : X) → list_any (like y) xs ≡ true → position_or_len (like y) (firsts like (xs ++ x ∷ [])) ≡ position_or_len (like y) (firsts like xs)
      stays y some = ap (position_or_len (like y)) (firsts_push xs x) ∙ stands_other y x (firsts like xs) (any_firsts y xs ∙ some)

      all_stay : (ys : List X) → All (λ y. list_any (like y) xs ≡ true) ys →
          map (λ y. position_or_len (like y) (firsts like (xs ++ x ∷ []))) ys ≡ map (λ y. position_or_len (like y) (firsts like xs)) ys
      all_stay [] all = refl
      all_stay (y ∷ ys) all =
          ap (λ n. n ∷ map (λ z. position_or_len (like z) (firsts like (xs ++ x ∷ []))) ys) (stays y (All-head (λ z. list_any (like z) xs ≡ true) y ys all))
          ∙ ap (λ l. position_or_len (like y) (firsts like xs) ∷ l) (all_stay ys (All-tail (λ z. list_any (like z) xs ≡ true) y ys all))

-- no more are first than there are
pub firsts_few : {X : Type 0} (like : X → X → Bool) (before xs : List X) → length (firsts_after like before xs) ≤ length xs
firsts_few like before [] = omega arith
firsts_few like before (x ∷ xs) = by (list_any (like x) before) (firsts_few like (before ++ x ∷ []) xs)
  where
    by : (b : Bool) → length (firsts_after like (before ++ x ∷ []) xs) ≤ length xs → length (cond b [] (x ∷ []) ++ firsts_after like (before ++ x ∷ []) xs) ≤ suc (length xs)
    by true h = omega (arith, h)
    by false h = omega (arith, h)

-- tests that agree on what a fact holds of
module _ {X : Type 0} (P : X → Type 0) (p q : X → X → Bool) (agree : (x y : X) → P x → P y → p x y ≡ q x y) where
  pub any_agree : (x : X) (ks : List X) → P x → All P ks → list_any (p x) ks ≡ list_any (q x) ks
  any_agree x [] h all = refl
  any_agree x (k ∷ ks) h all =
      ap (λ b. b || list_any (p x) ks) (agree x k h (All-head P k ks all)) ∙ ap (λ b. q x k || b) (any_agree x ks h (All-tail P k ks all))

  pub stands_agree : (x : X) (ks : List X) → P x → All P ks → position_or_len (p x) ks ≡ position_or_len (q x) ks
  stands_agree x [] h all = refl
  stands_agree x (k ∷ ks) h all =
      ap (λ b. cond (not b) (1 + position_or_len (p x) ks) 0) (agree x k h (All-head P k ks all))
      ∙ ap (λ n. cond (not (q x k)) (1 + n) 0) (stands_agree x ks h (All-tail P k ks all))

  after_agree : (before xs : List X) → All P before → All P xs → firsts_after p before xs ≡ firsts_after q before xs
  after_agree before [] was all = refl
  after_agree before (x ∷ xs) was all =
      let here = All-head P x xs all in
      ap (λ b. cond b [] (x ∷ []) ++ firsts_after p (before ++ x ∷ []) xs) (any_agree x before here was)
      ∙ ap (λ l. cond (list_any (q x) before) [] (x ∷ []) ++ l) (after_agree (before ++ x ∷ []) xs (All-push P before x was here) (All-tail P x xs all))

  pub firsts_agree : (xs : List X) → All P xs → firsts p xs ≡ firsts q xs
  firsts_agree xs all = after_agree [] xs (All-nil P) all

-- what holds of members holds of the first ones
pub firsts_all : {X : Type 0} (P : X → Type 0) (like : X → X → Bool) (before xs : List X) → All P xs → All P (firsts_after like before xs)
firsts_all P like before [] all = all
firsts_all P like before (x ∷ xs) all = by (list_any (like x) before) (firsts_all P like (before ++ x ∷ []) xs (All-tail P x xs all))
  where
    by : (b : Bool) → All P (firsts_after like (before ++ x ∷ []) xs) → All P (cond b [] (x ∷ []) ++ firsts_after like (before ++ x ∷ []) xs)
    by true rest = rest
    by false rest = All-cons P x (firsts_after like (before ++ x ∷ []) xs) (All-head P x xs all) rest

-- no first one is like one before it
module _ {X : Type 0} (like : X → X → Bool) where
  fresh : (before xs : List X) → All (λ y. list_any (like y) before ≡ false) (firsts_after like before xs)
  fresh before [] = λ k d low. absurd (omega (arith, low))
  fresh before (x ∷ xs) = by (cases_Bool (list_any (like x) before)) (fresh (before ++ x ∷ []) xs)
    where
      rest : List X
      rest = firsts_after like (before ++ x ∷ []) xs

      later : All (λ y. list_any (like y) (before ++ x ∷ []) ≡ false) rest → All (λ y. list_any (like y) before ≡ false) rest
      later h k d low = (or_parts (list_any (like (get_or rest k d)) before) (like (get_or rest k d) x) (sym (any_push (like (get_or rest k d)) before x) ∙ h k d low)).0

      by : (list_any (like x) before ≡ true) ⊎ (list_any (like x) before ≡ false) → All (λ y. list_any (like y) (before ++ x ∷ []) ≡ false) rest →
          All (λ y. list_any (like y) before ≡ false) (cond (list_any (like x) before) [] (x ∷ []) ++ rest)
      by (inl was) h = subst (λ b. All (λ y. list_any (like y) before ≡ false) (cond b [] (x ∷ []) ++ rest)) (sym was) (later h)
      by (inr new) h =
          subst (λ b. All (λ y. list_any (like y) before ≡ false) (cond b [] (x ∷ []) ++ rest)) (sym new)
          (All-cons (λ y. list_any (like y) before ≡ false) x rest new (later h))

  apart_after : (before xs : List X) → AllPairs (λ x y. like y x ≡ false) (firsts_after like before xs)
  apart_after before [] = λ i j d l low. absurd (omega (arith, low))
  apart_after before (x ∷ xs) = by (list_any (like x) before) (apart_after (before ++ x ∷ []) xs)
    where
      rest : List X
      rest = firsts_after like (before ++ x ∷ []) xs

      none : All (λ y. like y x ≡ false) rest
      none k d low =
          let y = get_or rest k d in
          (or_parts (list_any (like y) before) (like y x) (sym (any_push (like y) before x) ∙ fresh (before ++ x ∷ []) xs k d low)).1

      by : (b : Bool) → AllPairs (λ x y. like y x ≡ false) rest → AllPairs (λ x y. like y x ≡ false) (cond b [] (x ∷ []) ++ rest)
      by true h = h
      by false h = AllPairs-cons (λ x y. like y x ≡ false) x rest none h

  pub firsts_apart : (xs : List X) → AllPairs (λ x y. like y x ≡ false) (firsts like xs)
  firsts_apart xs = apart_after [] xs
