-- The places on rims as ascending lists, and the numbers of these.
use Rattle.std.proofs.Common.{◌≡◌, ◌<◌, ◌≤◌, ◌+◌, ◌++◌, ◌∙◌, ◌==◌, ℕ, Bool, List, [], ◌∷◌, true, false, ap, arith, bytes_eq, cond, eqb, filter, get_or, inl, inr, length, map, refl, subst, suc, sym, take}
use Rattle.std.specs.Prelude.{◌&&◌, ◌||◌, if◌then◌else◌, not}
use Rattle.std.specs.Ordering.{nat_cmp}
use Rattle.std.specs.Bool.{Decides}
use Rattle.std.specs.Cmp.Lexicographic.{bytes_decides}
use Rattle.std.specs.List.{Contains, dedup, list_all, list_any, position_or_len}
use Rattle.std.specs.List.Retain.{DiffersFromLast, IsFiltered}
use Rattle.std.specs.List.Sorted.{IsPermutation, IsSorted}
use Rattle.std.proofs.lemmas.Bool.{and_from, and_parts, both_ways, cases_Bool, eq-eqb, eqb-true}
use Rattle.std.proofs.lemmas.Bool.Decides.{same_from_decides}
use Rattle.std.proofs.lemmas.List.{get_or-map, get_or_default, length-append, length-map, length-take-le, map-append, take_all, take_more}
use Rattle.std.proofs.lemmas.List.Filters.{dedup_is}
use Rattle.std.proofs.lemmas.List.Folds.{list_any_at}
use Rattle.std.proofs.lemmas.List.Kept.{AllPairs-from_increasing, Contains-dedup_nat, Contains-from_dedup}
use Rattle.std.proofs.lemmas.List.Sorted.{Contains-permutation, IsPermutation-sym}
use Rattle.std.proofs.lemmas.Map.Keys.{IsStrictlyIncreasing-dedup}
use Rattle.chain_laws.proofs.Ascending.{ascending_is_filter, ascending_same, filter-ascends, kept, kept_at}
use Rattle.chain_laws.specs.Ascending.{Ascends}
use Rattle.chain_terms.specs.Sums.{upto}
use Rattle.face_plane.specs.Rings.{in_list}
use Rattle.plane_chains.specs.Opposites.{AreSets, above_all, places_on, rim_at, same_places, some_at}
use Rattle.plane_chains.specs.Placed.{ArePlaced}
use Rattle.plane_chains.proofs.FirstKeys.{IsEqual, place_within, placed_at, placed_below, placed_long, placed_more, placed_none, with_key}

-- a member of a list, as a test and as a place
contains_in : (z : ℕ) (xs : List ℕ) → Contains xs z → in_list z xs ≡ true
contains_in z xs (i, l, e) = list_any_at (λ x. x == z) xs i z l (eq-eqb (get_or xs i z) z e)

in_contains : (z : ℕ) (xs : List ℕ) → in_list z xs ≡ true → Contains xs z
in_contains z [] h = absurd (both_ways false refl h)
in_contains z (x ∷ xs) h = elim (cases_Bool (x == z)) as (λ _. Contains (x ∷ xs) z) [
  | inl y ↦ (0, omega arith, eqb-true x z y)
  | inr other ↦
      let rest = in_contains z xs (ap (λ b. b || in_list z xs) (sym other) ∙ h) in (suc rest.0, omega (arith, rest.1), rest.2)
]

above : (z : ℕ) (xs : List ℕ) → in_list z xs ≡ true → z < above_all xs
above z [] h = absurd (both_ways false refl h)
above z (x ∷ xs) h = elim (cases_Bool (x == z)) as (λ _. z < above_all (x ∷ xs)) [
  | inl y ↦ let e = eqb-true x z y in omega (arith, e)
  | inr other ↦ let rest = above z xs (ap (λ b. b || in_list z xs) (sym other) ∙ h) in omega (arith, rest)
]

-- an ascending list of the members of a rim is its places
places_are : (rim xs : List ℕ) → Ascends xs → ((z : ℕ) → Contains xs z → Contains rim z) → ((z : ℕ) → Contains rim z → Contains xs z) → xs ≡ places_on rim
unfolding places_on
places_are rim xs up forth back =
    ascending_is_filter (λ v. in_list v rim) (above_all rim) xs up
    (λ z. (λ h. let there = contains_in z rim (forth z h) in (above z rim there, there), λ h. back z (in_contains z rim h.1)))

-- so it is when it is sorted, and each is left once
pub sorted_places : (rim read sorted short : List ℕ) → read ≡ rim → IsPermutation read sorted → IsSorted nat_cmp sorted → IsFiltered (DiffersFromLast eqb) [] sorted short →
    short ≡ places_on rim
sorted_places rim read sorted short e p s f =
    dedup_is eqb sorted short f
    ∙ places_are rim (dedup eqb sorted) (λ i j less low. AllPairs-from_increasing (dedup eqb sorted) (IsStrictlyIncreasing-dedup sorted s) i j 0 less low)
    (λ z h. subst (λ xs. Contains xs z) e (Contains-permutation sorted read z (IsPermutation-sym read sorted p) (Contains-from_dedup eqb sorted z h)))
    (λ z h. Contains-dedup_nat sorted z (Contains-permutation read sorted z p (subst (λ xs. Contains xs z) (sym e) h)))

-- what they contain
have_from : (r : List ℕ) (z : ℕ) → in_list z r ≡ true → Contains (places_on r) z
unfolding places_on
have_from r z h = kept (λ v. in_list v r) 0 (above_all r) z (record { low = omega arith; high = omega (arith, above z r h); passes = h })

have_to : (r : List ℕ) (z : ℕ) → Contains (places_on r) z → in_list z r ≡ true
unfolding places_on
have_to r z (k, l, e) =
    ap (λ v. in_list v r) (sym e ∙ get_or_default (filter (λ v. in_list v r) (upto (above_all r))) k z 0 l) ∙ (kept_at (λ v. in_list v r) 0 (above_all r) k l).passes

ascend : (r : List ℕ) → Ascends (places_on r)
unfolding places_on
ascend r = filter-ascends (λ v. in_list v r) 0 (above_all r)

-- what passes for all members passes for each
all_member : (p : ℕ → Bool) (xs : List ℕ) (z : ℕ) → list_all p xs ≡ true → in_list z xs ≡ true → p z ≡ true
all_member p [] z h i = absurd (both_ways false refl i)
all_member p (x ∷ xs) z h i =
    let both = and_parts (p x) (list_all p xs) h in
    elim (cases_Bool (x == z)) as (λ _. p z ≡ true) [
      | inl y ↦ subst (λ w. p w ≡ true) (eqb-true x z y) both.0
      | inr other ↦ all_member p xs z both.1 (ap (λ b. b || in_list z xs) (sym other) ∙ i)
    ]

or_right : (a b : Bool) → b ≡ true → (a || b) ≡ true
or_right true b h = refl
or_right false b h = h

all_made : (p : ℕ → Bool) (xs : List ℕ) → ((z : ℕ) → in_list z xs ≡ true → p z ≡ true) → list_all p xs ≡ true
all_made p [] h = refl
all_made p (x ∷ xs) h =
    and_from (p x) (list_all p xs) (h x (ap (λ b. b || in_list x xs) (eq-eqb x x refl))) (all_made p xs (λ z i. h z (or_right (x == z) (in_list z xs) i)))

-- rims have the same places where these are one list
same_decides : (a b : List ℕ) → Decides (same_places a b) (places_on a ≡ places_on b)
same_decides a b = (forth, back) where
  forth : same_places a b ≡ true → places_on a ≡ places_on b
  forth h =
      let both = and_parts (list_all (λ v. in_list v b) a) (list_all (λ v. in_list v a) b) h in
      ascending_same (places_on a) (places_on b) (ascend a) (ascend b)
      (λ z. (λ c. have_from b z (all_member (λ v. in_list v b) a z both.0 (have_to a z c)), λ c. have_from a z (all_member (λ v. in_list v a) b z both.1 (have_to b z c))))

  back : places_on a ≡ places_on b → same_places a b ≡ true
  back e =
      and_from (list_all (λ v. in_list v b) a) (list_all (λ v. in_list v a) b)
      (all_made (λ v. in_list v b) a (λ z i. have_to b z (subst (λ xs. Contains xs z) e (have_from a z i))))
      (all_made (λ v. in_list v a) b (λ z i. have_to a z (subst (λ xs. Contains xs z) (sym e) (have_from b z i))))

same_is : (a b : List ℕ) → bytes_eq (places_on a) (places_on b) ≡ same_places a b
same_is a b = same_from_decides (bytes_eq (places_on a) (places_on b)) (same_places a b) (bytes_decides (places_on a) (places_on b)) (same_decides a b)

lists_equal : IsEqual bytes_eq
lists_equal = record { itself = λ x. (bytes_decides x x).1 refl; same = λ x y h. (bytes_decides x y).0 h }

-- keys that are told apart by lists
abbrev pub mapped : {X : Type 0} → List X → (X → List ℕ) → List (List ℕ)
mapped keys f = map f keys

any_mapped : {X : Type 0} (f : X → List ℕ) (p : List ℕ → Bool) (keys : List X) → list_any (λ y. p (f y)) keys ≡ list_any p (map f keys)
any_mapped f p [] = refl
any_mapped f p (k ∷ ks) = ap (λ b. p (f k) || b) (any_mapped f p ks)

place_mapped : {X : Type 0} (f : X → List ℕ) (p : List ℕ → Bool) (keys : List X) → position_or_len (λ y. p (f y)) keys ≡ position_or_len p (map f keys)
place_mapped f p [] = refl
place_mapped f p (k ∷ ks) = by (p (f k)) (place_mapped f p ks) where
  by : (b : Bool) → position_or_len (λ y. p (f y)) ks ≡ position_or_len p (map f ks) →
      cond (not b) (1 + position_or_len (λ y. p (f y)) ks) 0 ≡ cond (not b) (1 + position_or_len p (map f ks)) 0
  by true rest = refl
  by false rest = ap (λ n. 1 + n) rest

keys_mapped : {X : Type 0} (f : X → List ℕ) (keys : List X) (v : X) → map f (with_key (λ x y. bytes_eq (f x) (f y)) keys v) ≡ with_key bytes_eq (map f keys) (f v)
keys_mapped f keys v =
    by (list_any (λ y. bytes_eq (f v) (f y)) keys)
    ∙ ap (λ b. if b then map f keys else map f keys ++ f v ∷ []) (any_mapped f (bytes_eq (f v)) keys)
  where
    by : (b : Bool) → map f (if b then keys else keys ++ v ∷ []) ≡ (if b then map f keys else map f keys ++ f v ∷ [])
    by true = refl
    by false = map-append f keys (v ∷ [])

-- the lists of the first rims, and their numbers
abbrev pub lists : List (List ℕ) → List (ℕ × Bool) → List (List ℕ)
lists rims some = map (λ s. places_on (rim_at rims s)) some

pub record HasSets (rims : List (List ℕ)) (some : List (ℕ × Bool)) (k : ℕ) (keys : List (List ℕ)) (sets : List ℕ) : Type 0 where
  pub placed : ArePlaced bytes_eq (lists rims (take k some)) keys sets
  pub few : length keys ≤ length sets

pub sets_none : (rims : List (List ℕ)) (some : List (ℕ × Bool)) (keys : List (List ℕ)) (sets : List ℕ) → keys ≡ [] → sets ≡ [] → HasSets rims some 0 keys sets
sets_none rims some keys sets e f =
    subst (λ ks. HasSets rims some 0 ks sets) (sym e)
    (subst (λ ns. HasSets rims some 0 [] ns) (sym f) (record { placed = placed_none bytes_eq lists_equal; few = omega arith }))

key_few : {X : Type 0} (eq : X → X → Bool) (keys : List X) (x : X) → length (with_key eq keys x) ≤ length keys + 1
key_few eq keys x = by (list_any (eq x) keys) where
  by : (b : Bool) → length (if b then keys else keys ++ x ∷ []) ≤ length keys + 1
  by true = omega arith
  by false = omega (arith, length-append keys (x ∷ []))

pub sets_more : {X : Type 0} (f : X → List ℕ) (rims : List (List ℕ)) (some : List (ℕ × Bool)) (k : ℕ) (keys new : List X) (sets more : List ℕ) (v : X) (at : ℕ) → k < length some →
    f v ≡ places_on (rim_at rims (some_at some k)) → HasSets rims some k (mapped keys f) sets → new ≡ with_key (λ x y. bytes_eq (f x) (f y)) keys v →
    at ≡ position_or_len (λ y. bytes_eq (f v) (f y)) keys → more ≡ sets ++ at ∷ [] → HasSets rims some (k + 1) (mapped new f) more
sets_more f rims some k keys new sets more v at low is has e place pushed = record {
  placed = subst (λ ns. ArePlaced bytes_eq (lists rims (take (k + 1) some)) (map f new) ns) (sym pushed)
      (subst (λ xs. ArePlaced bytes_eq xs (map f new) (sets ++ at ∷ [])) longer
      (placed_more bytes_eq lists_equal (lists rims (take k some)) (map f keys) (map f new) sets (f v) at has.placed keys_are (place ∙ place_mapped f (bytes_eq (f v)) keys)));
  few = omega (arith, ap length keys_are, key_few bytes_eq (map f keys) (f v), has.few, ap length pushed, length-append sets (at ∷ []));
}
  where
    keys_are : map f new ≡ with_key bytes_eq (map f keys) (f v)
    keys_are = ap (map f) e ∙ keys_mapped f keys v

    longer : lists rims (take k some) ++ f v ∷ [] ≡ lists rims (take (k + 1) some)
    longer =
        ap (λ y. lists rims (take k some) ++ y ∷ []) is
        ∙ sym (map-append (λ s. places_on (rim_at rims s)) (take k some) (some_at some k ∷ []))
        ∙ ap (map (λ s. places_on (rim_at rims s))) (sym (take_more some k (0, false) low))

-- how many keys there are at most
pub sets_few : (rims : List (List ℕ)) (some : List (ℕ × Bool)) (k : ℕ) (keys : List (List ℕ)) (sets : List ℕ) → k ≤ length some → HasSets rims some k keys sets → length keys ≤ k
sets_few rims some k keys sets low has =
    omega (
      arith,
      has.few,
      placed_long bytes_eq lists_equal (lists rims (take k some)) keys sets has.placed,
      length-map (take k some) (λ s. places_on (rim_at rims s)),
      length-take-le k some low,
    )

module _ (rims : List (List ℕ)) (some : List (ℕ × Bool)) (keys : List (List ℕ)) (sets : List ℕ) (are : ArePlaced bytes_eq (lists rims some) keys sets) where
  list_at : (i : ℕ) → i < length some → get_or (lists rims some) i [] ≡ places_on (rim_at rims (some_at some i))
  list_at i low = get_or-map (λ s. places_on (rim_at rims s)) some i (0, false) [] low

  there : (i : ℕ) → i < length some → list_any (bytes_eq (places_on (rim_at rims (some_at some i)))) keys ≡ true
  there i low = ap (λ x. list_any (bytes_eq x) keys) (sym (list_at i low)) ∙ are.there i [] (omega (arith, low, length-map some (λ s. places_on (rim_at rims s))))

  set_at : (i : ℕ) → i < length some → get_or sets i 0 ≡ position_or_len (bytes_eq (places_on (rim_at rims (some_at some i)))) keys
  set_at i low =
      ap (λ ns. get_or ns i 0) are.places
      ∙ get_or-map (λ x. position_or_len (bytes_eq x) keys) (lists rims some) i [] 0 (omega (arith, low, length-map some (λ s. places_on (rim_at rims s))))
      ∙ ap (λ x. position_or_len (bytes_eq x) keys) (list_at i low)

  and_turned : (a b : Bool) → (a && b) ≡ (b && a)
  and_turned true true = refl
  and_turned true false = refl
  and_turned false true = refl
  and_turned false false = refl

  pub sets_same : (i j : ℕ) → i < length some → j < length some →
      (get_or sets j 0 == get_or sets i 0) ≡ same_places (rim_at rims (some_at some i)) (rim_at rims (some_at some j))
  sets_same i j low inside =
      let a = rim_at rims (some_at some i) in
      let b = rim_at rims (some_at some j) in
      let place = position_or_len (bytes_eq (places_on a)) keys in
      let within : place < length keys = place_within (bytes_eq (places_on a)) keys (there i low) in
      let key : places_on a ≡ get_or keys place [] = (bytes_decides (places_on a) (get_or keys place [])).0 (sym (placed_at bytes_eq lists_equal (lists rims some) keys sets (places_on a) place [] are (there i low) within) ∙ eq-eqb place place refl) in
      (λ k. set_at j inside k == set_at i low k)
      ∙ placed_at bytes_eq lists_equal (lists rims some) keys sets (places_on b) place [] are (there j inside) within
      ∙ ap (bytes_eq (places_on b)) (sym key) ∙ same_is b a ∙ and_turned (list_all (λ v. in_list v a) b) (list_all (λ v. in_list v b) a)

pub sets_done : (rims : List (List ℕ)) (some : List (ℕ × Bool)) (k : ℕ) (keys : List (List ℕ)) (sets : List ℕ) → length some ≤ k → HasSets rims some k keys sets → AreSets rims some sets
sets_done rims some k keys sets end has =
    let are = subst (λ xs. ArePlaced bytes_eq (lists rims xs) keys sets) (take_all k some end) has.placed in
    let long : length sets ≡ length some = placed_long bytes_eq lists_equal (lists rims some) keys sets are ∙ length-map some (λ s. places_on (rim_at rims s)) in
    record {
      long = long;
      below = λ i d low. let h = placed_below bytes_eq lists_equal (lists rims some) keys sets are i d low in omega (arith, h, has.few, long);
      same = sets_same rims some keys sets are;
    }
