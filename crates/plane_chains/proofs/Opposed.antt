-- How many rims there are of each kind, and which of them stay.
use Rattle.std.proofs.Common.{◌≡◌, ◌<◌, ◌≤◌, ◌+◌, ◌*◌, ◌++◌, ◌∙◌, ◌==◌, ℕ, Bool, List, [], ◌∷◌, true, false, ap, arith, filter, get_or, inl, inr, length, map, refl, replicate, set, sym, take}
use Rattle.std.specs.Prelude.{◌⊎◌, ◌&&◌, count_by, if◌then◌else◌, nat_le, not}
use Rattle.std.specs.List.{All}
use Rattle.std.proofs.lemmas.Bool.{cases_eq, eq-eqb, ne_eqb}
use Rattle.std.proofs.lemmas.Bool.Decides.{nat_tests}
use Rattle.std.proofs.lemmas.List.{append-nil, get_or-map, get_or-replicate, get_or-set_other, get_or-set_same, get_or-take, get_or_default, length-map, length-replicate, length-set, length-take, map-append, same_lists, take_all}
use Rattle.std.proofs.lemmas.List.Elements.{All-map}
use Rattle.std.proofs.lemmas.List.Sums.{count_by_more_no, count_by_more_yes, count_by-le-length, length-filter}
use Rattle.chain_laws.proofs.Ascending.{filter-upto_no, filter-upto_same, filter-upto_yes}
use Rattle.chain_laws.proofs.Places.{get_or-up_from, length-up_from, upto_more}
use Rattle.chain_laws.specs.Counts.{count_by-map}
use Rattle.chain_terms.specs.Sums.{upto}
use Rattle.places_by_key.specs.Buckets.{places_of}
use Rattle.plane_chains.specs.Opposites.{AreSets, is_against, is_like, kind, kinds_of, rim_at, same_places, same_side, some_at, staying, stays}
use Rattle.plane_chains.proofs.GridPoints.{upto_below}

-- tests that agree below n count the same
pub count_upto_same : (p q : ℕ → Bool) (n : ℕ) → ((i : ℕ) → i < n → p i ≡ q i) → count_by p (upto n) ≡ count_by q (upto n)
count_upto_same p q n h = sym (length-filter p (upto n)) ∙ ap length (filter-upto_same p q n h) ∙ length-filter q (upto n)

-- the first members of a list by their places
take_upto : {X : Type 0} (xs : List X) (n : ℕ) (x : X) → n ≤ length xs → take n xs ≡ map (λ i. get_or xs i x) (upto n)
take_upto {X = X} xs n x low =
    same_lists (take n xs) (map (λ i. get_or xs i x) (upto n)) (omega (arith, low, length-take n xs, length-up_from 0 n, length-map (upto n) (λ i. get_or xs i x))) at
  where
    at : (k : ℕ) (d : X) → k < length (take n xs) → get_or (take n xs) k d ≡ get_or (map (λ i. get_or xs i x) (upto n)) k d
    at k d inside =
        let below : k < n = omega (arith, inside, length-take n xs) in
        get_or-take n xs k d below ∙ get_or_default xs k d x (omega (arith, below, low))
        ∙ ap (λ i. get_or xs i x) (sym (get_or-up_from 0 n k 0 below ∙ omega arith))
        ∙ sym (get_or-map (λ i. get_or xs i x) (upto n) k 0 d (omega (arith, below, length-up_from 0 n)))

pub count_take : {X : Type 0} (p : X → Bool) (xs : List X) (n : ℕ) (x : X) → n ≤ length xs → count_by p (take n xs) ≡ count_by (λ i. p (get_or xs i x)) (upto n)
count_take p xs n x low = ap (count_by p) (take_upto xs n x low) ∙ count_by-map p (λ i. get_or xs i x) (upto n)

-- kinds are one where the sets are, and the sides
kind_is : (m n : ℕ) (a b : Bool) → (kind m a == kind n b) ≡ ((m == n) && same_side b a)
kind_is m n true true = grind (arith, nat_tests)
kind_is m n true false = grind (arith, nat_tests)
kind_is m n false true = grind (arith, nat_tests)
kind_is m n false false = grind (arith, nat_tests)

side_turned : (a b : Bool) → same_side (not a) b ≡ not (same_side a b)
side_turned true b = refl
side_turned false true = refl
side_turned false false = refl

-- kinds of rims whose sets are below how many there are
module _ (some : List (ℕ × Bool)) (sets : List ℕ) where
  pub kinds_long : length (kinds_of sets some) ≡ length some
  kinds_long = length-map (upto (length some)) (λ j. kind (get_or sets j 0) (some_at some j).1) ∙ length-up_from 0 (length some)

  pub kind_at : (i : ℕ) → i < length some → get_or (kinds_of sets some) i 0 ≡ kind (get_or sets i 0) (some_at some i).1
  kind_at i low =
      get_or-map (λ j. kind (get_or sets j 0) (some_at some j).1) (upto (length some)) i 0 0 (omega (arith, low, length-up_from 0 (length some)))
      ∙ ap (λ j. kind (get_or sets j 0) (some_at some j).1) (get_or-up_from 0 (length some) i 0 low ∙ omega arith)

  module _ (long : length sets ≡ length some) (below : All (λ k. k < length some) sets) where
    pub kind_low : (i : ℕ) (b : Bool) → i < length some → kind (get_or sets i 0) b < 2 * length some
    kind_low i b low = let h = below i 0 (omega (arith, low, long)) in by b h where
      by : (c : Bool) → get_or sets i 0 < length some → kind (get_or sets i 0) c < 2 * length some
      by true h = omega (arith, h)
      by false h = omega (arith, h)

    pub kinds_low : All (λ k. k < 2 * length some) (kinds_of sets some)
    kinds_low =
        All-map (λ k. k < 2 * length some) (λ i. kind (get_or sets i 0) (some_at some i).1) (upto (length some))
        (λ k d low. kind_low (get_or (upto (length some)) k d) (some_at some (get_or (upto (length some)) k d)).1 (upto_below (length some) k d low))

module _ (rims : List (List ℕ)) (some : List (ℕ × Bool)) (sets : List ℕ) (are : AreSets rims some sets) where
  kind_same : (i j : ℕ) (b : Bool) → i < length some → j < length some →
      (get_or (kinds_of sets some) j 0 == kind (get_or sets i 0) b) ≡ (same_places (rim_at rims (some_at some i)) (rim_at rims (some_at some j)) && same_side b (some_at some j).1)
  kind_same i j b low inside =
      ap (λ k. k == kind (get_or sets i 0) b) (kind_at some sets j inside) ∙ kind_is (get_or sets j 0) (get_or sets i 0) (some_at some j).1 b
      ∙ ap (λ t. t && same_side b (some_at some j).1) (are.same i j low inside)

  -- so many are against one
  against_count : (i : ℕ) → i < length some →
      length (places_of (kinds_of sets some) (kind (get_or sets i 0) (not (some_at some i).1))) ≡ count_by (is_against rims (some_at some i)) some
  against_count i low =
      length-filter (λ j. get_or (kinds_of sets some) j 0 == kind (get_or sets i 0) (not (some_at some i).1)) (upto (length (kinds_of sets some)))
      ∙ ap (λ n. count_by (λ j. get_or (kinds_of sets some) j 0 == kind (get_or sets i 0) (not (some_at some i).1)) (upto n)) (kinds_long some sets)
      ∙ count_upto_same (λ j. get_or (kinds_of sets some) j 0 == kind (get_or sets i 0) (not (some_at some i).1)) (λ j. is_against rims (some_at some i) (some_at some j)) (length some)
      (λ j inside. kind_same i j (not (some_at some i).1) low inside
      ∙ ap (λ t. same_places (rim_at rims (some_at some i)) (rim_at rims (some_at some j)) && t) (side_turned (some_at some i).1 (some_at some j).1))
      ∙ sym (count_take (is_against rims (some_at some i)) some (length some) (0, false) (omega arith))
      ∙ ap (count_by (is_against rims (some_at some i))) (take_all (length some) some (omega arith))

  -- and so many like it stand before it
  like_count : (i : ℕ) → i < length some →
      count_by (λ k. k == kind (get_or sets i 0) (some_at some i).1) (take i (kinds_of sets some)) ≡ count_by (is_like rims (some_at some i)) (take i some)
  like_count i low =
      count_take (λ k. k == kind (get_or sets i 0) (some_at some i).1) (kinds_of sets some) i 0 (omega (arith, low, kinds_long some sets))
      ∙ count_upto_same (λ j. get_or (kinds_of sets some) j 0 == kind (get_or sets i 0) (some_at some i).1) (λ j. is_like rims (some_at some i) (some_at some j)) i
      (λ j below. kind_same i j (some_at some i).1 low (omega (arith, below, low)))
      ∙ sym (count_take (is_like rims (some_at some i)) some i (0, false) (omega (arith, low)))

  -- one stays where as many as are against it have been passed
  pub stays_is : (i against like : ℕ) → i < length some → against ≡ length (places_of (kinds_of sets some) (kind (get_or sets i 0) (not (some_at some i).1))) →
      like ≡ count_by (λ k. k == kind (get_or sets i 0) (some_at some i).1) (take i (kinds_of sets some)) → stays rims some i ≡ nat_le against like
  stays_is i against like low e f = λ j. nat_le (sym (e ∙ against_count i low) j) (sym (f ∙ like_count i low) j)

-- so many of each kind have been passed
pub record IsCounted (kinds : List ℕ) (n i : ℕ) (passed : List ℕ) : Type 0 where
  pub long : length passed ≡ n
  pub counts : (k : ℕ) → k < n → get_or passed k 0 ≡ count_by (λ j. j == k) (take i kinds)

pub counted_none : (kinds : List ℕ) (n : ℕ) (passed : List ℕ) → passed ≡ replicate n 0 → IsCounted kinds n 0 passed
counted_none kinds n passed e = record {
  long = ap length e ∙ length-replicate n 0;
  counts = λ k low. ap (λ ns. get_or ns k 0) e ∙ get_or-replicate n k 0 0 low;
}

pub counted_more : (kinds : List ℕ) (n i : ℕ) (passed new : List ℕ) (k : ℕ) → i < length kinds → get_or kinds i 0 ≡ k → k < n → IsCounted kinds n i passed →
    new ≡ set passed k (get_or passed k 0 + 1) → IsCounted kinds n (i + 1) new
counted_more kinds n i passed new k low is inside are e = record {
  long = ap length e ∙ length-set passed k (get_or passed k 0 + 1) ∙ are.long;
  counts = λ j below. ap (λ ns. get_or ns j 0) e ∙ by j below (cases_eq j k);
}
  where
    by : (j : ℕ) → j < n → (j ≡ k) ⊎ (j ≡ k → ⊥) → get_or (set passed k (get_or passed k 0 + 1)) j 0 ≡ count_by (λ m. m == j) (take (i + 1) kinds)
    by j below (inl e) =
        ap (λ m. get_or (set passed k (get_or passed k 0 + 1)) m 0) e ∙ get_or-set_same passed k (get_or passed k 0 + 1) 0 (omega (arith, inside, are.long))
        ∙ ap (λ m. m + 1) (are.counts k inside)
        ∙ sym (count_by_more_yes (λ m. m == k) kinds i 0 low (eq-eqb (get_or kinds i 0) k is))
        ∙ ap (λ z. count_by (λ m. m == z) (take (i + 1) kinds)) (sym e)
    by j below (inr e) =
        get_or-set_other passed k j (get_or passed k 0 + 1) 0 e ∙ are.counts j below
        ∙ sym (count_by_more_no (λ m. m == j) kinds i 0 low (ne_eqb (get_or kinds i 0) j (λ f. e (sym f ∙ is))))

-- at most as many as were passed in all
pub counted_few : (kinds : List ℕ) (n i : ℕ) (passed : List ℕ) (k : ℕ) → k < n → IsCounted kinds n i passed → get_or passed k 0 ≤ i
counted_few kinds n i passed k low are = omega (arith, are.counts k low, count_by-le-length (λ j. j == k) (take i kinds), length-take i kinds)

-- those that stay, with one more
pub left_more : (rims : List (List ℕ)) (some : List (ℕ × Bool)) (i : ℕ) (left more : List ℕ) (b : Bool) (face : ℕ) → stays rims some i ≡ b → face ≡ (some_at some i).0 →
    left ≡ map (λ j. (some_at some j).0) (filter (stays rims some) (upto i)) → more ≡ left ++ (if b then face ∷ [] else []) →
    more ≡ map (λ j. (some_at some j).0) (filter (stays rims some) (upto (i + 1)))
left_more rims some i left more true face holds is before pushed =
    pushed ∙ (λ k. before k ++ is k ∷ []) ∙ sym (map-append (λ j. (some_at some j).0) (filter (stays rims some) (upto i)) (i ∷ []))
    ∙ ap (map (λ j. (some_at some j).0)) (sym (filter-upto_yes (stays rims some) i holds))
left_more rims some i left more false face fails is before same =
    same ∙ append-nil left ∙ before ∙ ap (map (λ j. (some_at some j).0)) (sym (filter-upto_no (stays rims some) i fails))

pub left_all : (rims : List (List ℕ)) (some : List (ℕ × Bool)) (i : ℕ) (left : List ℕ) → i ≡ length some →
    left ≡ map (λ j. (some_at some j).0) (filter (stays rims some) (upto i)) → left ≡ staying rims some
unfolding staying
left_all rims some i left end is = is ∙ ap (λ n. map (λ j. (some_at some j).0) (filter (stays rims some) (upto n))) end

-- one kind more
pub kinds_more : (sets : List ℕ) (some : List (ℕ × Bool)) (i : ℕ) (kinds more : List ℕ) (k : ℕ) → kinds ≡ map (λ j. kind (get_or sets j 0) (some_at some j).1) (upto i) →
    k ≡ kind (get_or sets i 0) (some_at some i).1 → more ≡ kinds ++ k ∷ [] → more ≡ map (λ j. kind (get_or sets j 0) (some_at some j).1) (upto (i + 1))
kinds_more sets some i kinds more k before is pushed =
    pushed ∙ (λ m. before m ++ is m ∷ []) ∙ sym (map-append (λ j. kind (get_or sets j 0) (some_at some j).1) (upto i) (i ∷ []))
    ∙ ap (map (λ j. kind (get_or sets j 0) (some_at some j).1)) (sym (upto_more i))
