-- The first members of a list, kept as keys one after the other, and for each member the place of its key.
use Rattle.std.proofs.Common.{◌≡◌, ◌<◌, ◌≤◌, ◌+◌, ◌++◌, ◌∙◌, ℕ, Bool, List, [], ◌∷◌, true, false, ap, append_assoc, arith, cond, get_or, inl, inr, length, map, refl, sym, subst, suc}
use Rattle.std.specs.Prelude.{◌||◌, ◌⊎◌, ◌==◌, if◌then◌else◌, not}
use Rattle.std.specs.List.{All, list_any, position_or_len}
use Rattle.std.proofs.lemmas.Bool.{both_ways, cases_Bool, cases_eq, eq-eqb, false_from_ne_true, ne_eqb}
use Rattle.std.proofs.lemmas.List.{append-nil, get_or_append_left, get_or_push, length-append, length-map, map-append}
use Rattle.std.proofs.lemmas.List.Elements.{All-map, All-push}
use Rattle.std.proofs.lemmas.List.Folds.{list_any-append, list_any_at}
use Rattle.sheet_terms.specs.Places.{firsts, firsts_after}
use Rattle.plane_chains.specs.Placed.{ArePlaced}

-- the keys when one more comes
abbrev pub with_key : {X : Type 0} → (X → X → Bool) → List X → X → List X
with_key eq ks x = if list_any (eq x) ks then ks else ks ++ x ∷ []

-- a member goes last where none before is like it
firsts_after_push : {X : Type 0} (eq : X → X → Bool) (before xs : List X) (x : X) →
    firsts_after eq before (xs ++ x ∷ []) ≡ firsts_after eq before xs ++ cond (list_any (eq x) (before ++ xs)) [] (x ∷ [])
firsts_after_push eq before [] x =
    append-nil (cond (list_any (eq x) before) [] (x ∷ [])) ∙ ap (λ ys. cond (list_any (eq x) ys) [] (x ∷ [])) (sym (append-nil before))
firsts_after_push eq before (y ∷ ys) x =
    ap (λ zs. cond (list_any (eq y) before) [] (y ∷ []) ++ zs) (firsts_after_push eq (before ++ y ∷ []) ys x)
    ∙ ap (λ zs. cond (list_any (eq y) before) [] (y ∷ []) ++ (firsts_after eq (before ++ y ∷ []) ys ++ cond (list_any (eq x) zs) [] (x ∷ []))) (append_assoc before (y ∷ []) ys)
    ∙ sym (append_assoc (cond (list_any (eq y) before) [] (y ∷ [])) (firsts_after eq (before ++ y ∷ []) ys) (cond (list_any (eq x) (before ++ y ∷ ys)) [] (x ∷ [])))

or_new : (b y f r : Bool) → ((b || (y || false)) || f) ≡ ((b || (y || false)) || r) → (b || (y || f)) ≡ (b || (y || r))
or_new true y f r h = refl
or_new false true f r h = refl
or_new false false f r h = h

or_old : (b y f r : Bool) → (y ≡ true → b ≡ true) → ((b || (y || false)) || f) ≡ ((b || (y || false)) || r) → (b || f) ≡ (b || (y || r))
or_old true y f r s h = refl
or_old false true f r s h = absurd (both_ways false refl (s refl))
or_old false false f r s h = h

-- lists of keys whose test tells equal members
pub record IsEqual {X : Type 0} (eq : X → X → Bool) : Type 0 where
  pub itself : (x : X) → eq x x ≡ true
  pub same : (x y : X) → eq x y ≡ true → x ≡ y

module _ {X : Type 0} (eq : X → X → Bool) (equal : IsEqual eq) where
  -- what is before or among the members is before or among the firsts
  any_after : (x : X) (before xs : List X) →
      (list_any (eq x) before || list_any (eq x) (firsts_after eq before xs)) ≡ (list_any (eq x) before || list_any (eq x) xs)
  any_after x before [] = refl
  any_after x before (y ∷ ys) = by (cases_Bool (list_any (eq y) before)) (any_after x (before ++ y ∷ []) ys) where
    rest : List X
    rest = firsts_after eq (before ++ y ∷ []) ys

    by : (list_any (eq y) before ≡ true) ⊎ (list_any (eq y) before ≡ false) →
        (list_any (eq x) (before ++ y ∷ []) || list_any (eq x) rest) ≡ (list_any (eq x) (before ++ y ∷ []) || list_any (eq x) ys) →
        (list_any (eq x) before || list_any (eq x) (cond (list_any (eq y) before) [] (y ∷ []) ++ rest)) ≡ (list_any (eq x) before || (eq x y || list_any (eq x) ys))
    by (inl old) later =
        ap (λ b. list_any (eq x) before || list_any (eq x) (cond b [] (y ∷ []) ++ rest)) old
        ∙ or_old (list_any (eq x) before) (eq x y) (list_any (eq x) rest) (list_any (eq x) ys)
        (λ e. ap (λ z. list_any (eq z) before) (equal.same x y e) ∙ old)
        (ap (λ b. b || list_any (eq x) rest) (sym (list_any-append (eq x) before (y ∷ []))) ∙ later ∙ ap (λ b. b || list_any (eq x) ys) (list_any-append (eq x) before (y ∷ [])))
    by (inr new) later =
        ap (λ b. list_any (eq x) before || list_any (eq x) (cond b [] (y ∷ []) ++ rest)) new
        ∙ or_new (list_any (eq x) before) (eq x y) (list_any (eq x) rest) (list_any (eq x) ys)
        (ap (λ b. b || list_any (eq x) rest) (sym (list_any-append (eq x) before (y ∷ []))) ∙ later ∙ ap (λ b. b || list_any (eq x) ys) (list_any-append (eq x) before (y ∷ [])))

  pub any_first : (x : X) (xs : List X) → list_any (eq x) (firsts eq xs) ≡ list_any (eq x) xs
  any_first x xs = any_after x [] xs

  pub firsts_push : (xs : List X) (x : X) → firsts eq (xs ++ x ∷ []) ≡ with_key eq (firsts eq xs) x
  firsts_push xs x =
      firsts_after_push eq [] xs x ∙ ap (λ b. firsts eq xs ++ cond b [] (x ∷ [])) (sym (any_first x xs)) ∙ by (list_any (eq x) (firsts eq xs))
    where
      by : (b : Bool) → firsts eq xs ++ cond b [] (x ∷ []) ≡ (if b then firsts eq xs else firsts eq xs ++ x ∷ [])
      by true = append-nil (firsts eq xs)
      by false = refl

-- a place at the front, and one behind it
pub place_here : {X : Type 0} (p : X → Bool) (k : X) (ks : List X) → p k ≡ true → position_or_len p (k ∷ ks) ≡ 0
place_here p k ks e = ap (λ b. cond (not b) (1 + position_or_len p ks) 0) e

place_later : {X : Type 0} (p : X → Bool) (k : X) (ks : List X) → p k ≡ false → position_or_len p (k ∷ ks) ≡ 1 + position_or_len p ks
place_later p k ks e = ap (λ b. cond (not b) (1 + position_or_len p ks) 0) e

-- a place is at most behind all
pub place_bound : {X : Type 0} (p : X → Bool) (ks : List X) → position_or_len p ks ≤ length ks
place_bound p [] = omega arith
place_bound p (k ∷ ks) = by (cases_Bool (p k)) (place_bound p ks) where
  by : (p k ≡ true) ⊎ (p k ≡ false) → position_or_len p ks ≤ length ks → position_or_len p (k ∷ ks) ≤ suc (length ks)
  by (inl h) rest = omega (arith, place_here p k ks h)
  by (inr h) rest = omega (arith, place_later p k ks h, rest)

-- the place of a member that is there, and of one that is not
pub place_within : {X : Type 0} (p : X → Bool) (ks : List X) → list_any p ks ≡ true → position_or_len p ks < length ks
place_within p [] h = absurd (both_ways false refl h)
place_within p (k ∷ ks) h = by (cases_Bool (p k)) (place_within p ks) where
  by : (p k ≡ true) ⊎ (p k ≡ false) → (list_any p ks ≡ true → position_or_len p ks < length ks) → position_or_len p (k ∷ ks) < suc (length ks)
  by (inl e) rest = omega (arith, place_here p k ks e)
  by (inr e) rest = omega (arith, place_later p k ks e, rest (ap (λ b. b || list_any p ks) (sym e) ∙ h))

place_kept : {X : Type 0} (p : X → Bool) (ks ms : List X) → list_any p ks ≡ true → position_or_len p (ks ++ ms) ≡ position_or_len p ks
place_kept p [] ms h = absurd (both_ways false refl h)
place_kept p (k ∷ ks) ms h = by (cases_Bool (p k)) (place_kept p ks ms) where
  by : (p k ≡ true) ⊎ (p k ≡ false) → (list_any p ks ≡ true → position_or_len p (ks ++ ms) ≡ position_or_len p ks) →
      position_or_len p (k ∷ (ks ++ ms)) ≡ position_or_len p (k ∷ ks)
  by (inl e) rest = place_here p k (ks ++ ms) e ∙ sym (place_here p k ks e)
  by (inr e) rest = place_later p k (ks ++ ms) e ∙ ap (λ n. 1 + n) (rest (ap (λ b. b || list_any p ks) (sym e) ∙ h)) ∙ sym (place_later p k ks e)

place_new : {X : Type 0} (p : X → Bool) (ks ms : List X) → list_any p ks ≡ false → position_or_len p (ks ++ ms) ≡ length ks + position_or_len p ms
place_new p [] ms h = omega arith
place_new p (k ∷ ks) ms h = by (cases_Bool (p k)) (place_new p ks ms) where
  by : (p k ≡ true) ⊎ (p k ≡ false) → (list_any p ks ≡ false → position_or_len p (ks ++ ms) ≡ length ks + position_or_len p ms) →
      position_or_len p (k ∷ (ks ++ ms)) ≡ suc (length ks) + position_or_len p ms
  by (inl e) rest = absurd (both_ways (p k || list_any p ks) h (ap (λ b. b || list_any p ks) e))
  by (inr e) rest =
      let r = rest (ap (λ b. b || list_any p ks) (sym e) ∙ h) in omega (arith, r, place_later p k (ks ++ ms) e)

one_more : (n : ℕ) → 1 + n ≡ suc n
one_more n = omega arith

-- the member at its place passes
place_passes : {X : Type 0} (p : X → Bool) (ks : List X) (d : X) → list_any p ks ≡ true → p (get_or ks (position_or_len p ks) d) ≡ true
place_passes p [] d h = absurd (both_ways false refl h)
place_passes p (k ∷ ks) d h = by (cases_Bool (p k)) (place_passes p ks d) where
  by : (p k ≡ true) ⊎ (p k ≡ false) → (list_any p ks ≡ true → p (get_or ks (position_or_len p ks) d) ≡ true) →
      p (get_or (k ∷ ks) (position_or_len p (k ∷ ks)) d) ≡ true
  by (inl e) rest = ap (λ n. p (get_or (k ∷ ks) n d)) (place_here p k ks e) ∙ e
  by (inr e) rest =
      ap (λ n. p (get_or (k ∷ ks) n d)) (place_later p k ks e ∙ one_more (position_or_len p ks)) ∙ rest (ap (λ b. b || list_any p ks) (sym e) ∙ h)

-- two functions that agree on the members of a list give one list
pub map_agree : {X Y : Type 0} (f g : X → Y) (xs : List X) → All (λ x. f x ≡ g x) xs → map f xs ≡ map g xs
map_agree f g [] h = refl
map_agree f g (x ∷ xs) h = λ i. h 0 x (omega arith) i ∷ map_agree f g xs (λ k d low. h (suc k) d (omega (arith, low))) i

module _ {X : Type 0} (eq : X → X → Bool) (equal : IsEqual eq) where
  pub placed_none : ArePlaced eq [] [] []
  placed_none = record { keys_are = refl; places = refl; there = λ k d low. absurd (omega (arith, low)); own = λ k d low. absurd (omega (arith, low)) }

  -- where the key is there
  placed_old : (xs keys : List X) (of : List ℕ) (x : X) → ArePlaced eq xs keys of → list_any (eq x) keys ≡ true →
      ArePlaced eq (xs ++ x ∷ []) keys (of ++ position_or_len (eq x) keys ∷ [])
  placed_old xs keys of x are old = record {
    keys_are = are.keys_are
        ∙ sym (firsts_push eq equal xs x ∙ ap (λ b. if b then firsts eq xs else firsts eq xs ++ x ∷ []) (ap (λ ks. list_any (eq x) ks) (sym are.keys_are) ∙ old));
    places = ap (λ ns. ns ++ position_or_len (eq x) keys ∷ []) are.places ∙ sym (map-append (λ y. position_or_len (eq y) keys) xs (x ∷ []));
    there = All-push (λ y. list_any (eq y) keys ≡ true) xs x are.there old;
    own = are.own;
  }

  -- and where it is new
  placed_new : (xs keys : List X) (of : List ℕ) (x : X) → ArePlaced eq xs keys of → list_any (eq x) keys ≡ false →
      ArePlaced eq (xs ++ x ∷ []) (keys ++ x ∷ []) (of ++ position_or_len (eq x) keys ∷ [])
  placed_new xs keys of x are new = record {
    keys_are = ap (λ ks. ks ++ x ∷ []) are.keys_are
        ∙ sym (firsts_push eq equal xs x ∙ ap (λ b. if b then firsts eq xs else firsts eq xs ++ x ∷ []) (ap (λ ks. list_any (eq x) ks) (sym are.keys_are) ∙ new));
    places = (λ i. (are.places ∙ map_agree (λ y. position_or_len (eq y) keys) (λ y. position_or_len (eq y) (keys ++ x ∷ [])) xs
        (λ k d low. sym (place_kept (eq (get_or xs k d)) keys (x ∷ []) (are.there k d low)))) i ++ (at_end ∙ sym last) i ∷ [])
        ∙ sym (map-append (λ y. position_or_len (eq y) (keys ++ x ∷ [])) xs (x ∷ []));
    there = All-push (λ y. list_any (eq y) (keys ++ x ∷ []) ≡ true) xs x (λ k d low. more (get_or xs k d) (are.there k d low)) self;
    own = λ k d low. own k d low (cases_eq k (length keys));
  }
    where
      last : position_or_len (eq x) (keys ++ x ∷ []) ≡ length keys
      last = omega (arith, place_new (eq x) keys (x ∷ []) new, place_here (eq x) x [] (equal.itself x))

      at_end : position_or_len (eq x) keys ≡ length keys
      at_end = ap (position_or_len (eq x)) (sym (append-nil keys)) ∙ place_new (eq x) keys [] new ∙ omega arith

      more : (y : X) → list_any (eq y) keys ≡ true → list_any (eq y) (keys ++ x ∷ []) ≡ true
      more y h = list_any-append (eq y) keys (x ∷ []) ∙ ap (λ b. b || (eq y x || false)) h

      self : list_any (eq x) (keys ++ x ∷ []) ≡ true
      self = list_any-append (eq x) keys (x ∷ []) ∙ (λ i. new i || (equal.itself x i || false))

      own : (k : ℕ) (d : X) → k < length (keys ++ x ∷ []) → (k ≡ length keys) ⊎ (k ≡ length keys → ⊥) → position_or_len (eq (get_or (keys ++ x ∷ []) k d)) (keys ++ x ∷ []) ≡ k
      own k d low (inl e) = ap (λ y. position_or_len (eq y) (keys ++ x ∷ [])) (get_or_push keys x d k (sym e)) ∙ last ∙ sym e
      own k d low (inr e) =
          let inside : k < length keys = omega (arith, low, e, length-append keys (x ∷ [])) in
          let here = list_any_at (eq (get_or keys k d)) keys k d inside (equal.itself (get_or keys k d)) in
          ap (λ y. position_or_len (eq y) (keys ++ x ∷ [])) (get_or_append_left keys (x ∷ []) d k inside)
          ∙ place_kept (eq (get_or keys k d)) keys (x ∷ []) here ∙ are.own k d inside

  -- one member more
  pub placed_more : (xs keys new : List X) (of : List ℕ) (x : X) (at : ℕ) → ArePlaced eq xs keys of → new ≡ with_key eq keys x → at ≡ position_or_len (eq x) keys →
      ArePlaced eq (xs ++ x ∷ []) new (of ++ at ∷ [])
  placed_more xs keys new of x at are e f =
      subst (λ n. ArePlaced eq (xs ++ x ∷ []) new (of ++ n ∷ [])) (sym f)
      (subst (λ ks. ArePlaced eq (xs ++ x ∷ []) ks (of ++ position_or_len (eq x) keys ∷ [])) (sym e) (by (cases_Bool (list_any (eq x) keys))))
    where
      by : (list_any (eq x) keys ≡ true) ⊎ (list_any (eq x) keys ≡ false) → ArePlaced eq (xs ++ x ∷ []) (with_key eq keys x) (of ++ position_or_len (eq x) keys ∷ [])
      by (inl old) =
          subst (λ b. ArePlaced eq (xs ++ x ∷ []) (if b then keys else keys ++ x ∷ []) (of ++ position_or_len (eq x) keys ∷ [])) (sym old) (placed_old xs keys of x are old)
      by (inr new) =
          subst (λ b. ArePlaced eq (xs ++ x ∷ []) (if b then keys else keys ++ x ∷ []) (of ++ position_or_len (eq x) keys ∷ [])) (sym new) (placed_new xs keys of x are new)

  -- a place is k where the member is like key k
  pub placed_at : (xs keys : List X) (of : List ℕ) (x : X) (k : ℕ) (d : X) → ArePlaced eq xs keys of → list_any (eq x) keys ≡ true → k < length keys →
      (position_or_len (eq x) keys == k) ≡ eq x (get_or keys k d)
  placed_at xs keys of x k d are there low = by (cases_eq (position_or_len (eq x) keys) k) where
    by : (position_or_len (eq x) keys ≡ k) ⊎ (position_or_len (eq x) keys ≡ k → ⊥) → (position_or_len (eq x) keys == k) ≡ eq x (get_or keys k d)
    by (inl e) = eq-eqb (position_or_len (eq x) keys) k e ∙ sym (ap (λ n. eq x (get_or keys n d)) (sym e) ∙ place_passes (eq x) keys d there)
    by (inr e) = ne_eqb (position_or_len (eq x) keys) k e ∙ sym (false_from_ne_true (eq x (get_or keys k d)) (λ h. e (ap (λ y. position_or_len (eq y) keys) (equal.same x (get_or keys k d) h) ∙ are.own k d low)))

  -- all places are below the number of keys
  pub placed_below : (xs keys : List X) (of : List ℕ) → ArePlaced eq xs keys of → All (λ n. n < length keys) of
  placed_below xs keys of are =
      subst (λ ns. All (λ n. n < length keys) ns) (sym are.places)
      (All-map (λ n. n < length keys) (λ x. position_or_len (eq x) keys) xs (λ k d low. place_within (eq (get_or xs k d)) keys (are.there k d low)))

  -- as many places as members
  pub placed_long : (xs keys : List X) (of : List ℕ) → ArePlaced eq xs keys of → length of ≡ length xs
  placed_long xs keys of are = ap length are.places ∙ length-map xs (λ x. position_or_len (eq x) keys)
