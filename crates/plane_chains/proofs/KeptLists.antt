-- The triangles that are kept, by the rims that stay.
use Rattle.std.proofs.Common.{◌≡◌, ◌<◌, ◌≤◌, ◌+◌, ◌++◌, ◌∙◌, ◌==◌, ℕ, Bool, List, [], ◌∷◌, true, false, ap, arith, cond, filter, get_or, inl, inr, length, map, refl, subst, suc, sym, take, zero}
use Rattle.std.specs.Prelude.{◌⊎◌, ◌&&◌, ◌||◌, count_by, if◌then◌else◌, nat_le, nat_lt, not}
use Rattle.std.specs.List.{All, list_any}
use Rattle.std.proofs.lemmas.Bool.{cases_Bool, cases_eq, cases_order, eq-eqb, le-ltb, lt-ltb, ne_eqb}
use Rattle.std.proofs.lemmas.List.{append-nil, get_or-map, length-append, length-map, map-append, map-id, take-map}
use Rattle.std.proofs.lemmas.List.Elements.{All-filter, All-map, All-take}
use Rattle.std.proofs.lemmas.List.Folds.{list_any_at, list_any_none}
use Rattle.chain_laws.proofs.Ascending.{filter-ascends, filter-upto_no, filter-upto_same, filter-upto_yes}
use Rattle.chain_laws.proofs.Places.{get_or-up_from, length-up_from}
use Rattle.chain_laws.specs.Counts.{count_by-cons, count_by-map}
use Rattle.chain_terms.specs.Chains.{one_if}
use Rattle.chain_terms.specs.Sums.{upto}
use Rattle.face_plane.specs.Planes.{Plane}
use Rattle.sheet_terms.specs.Faces.{Face, is_left}
use Rattle.sheet_terms.specs.Kept.{is_out, remains, same_rim}
use Rattle.plane_chains.specs.Listed.{AreListed, chosen, face_at, no_face}
use Rattle.plane_chains.specs.Opposites.{is_against, is_like, same_places, same_side, some_at, staying, stays}
use Rattle.plane_chains.specs.Tellings.{left_of}
use Rattle.plane_chains.specs.Ways.{marked}
use Rattle.plane_chains.proofs.FaceLists.{map_upto}
use Rattle.plane_chains.proofs.FirstKeys.{map_agree}
use Rattle.plane_chains.proofs.GridPoints.{upto_below}

-- filters of what is mapped, and of a list by its places
filter-mapped : {X Y : Type 0} (p : Y → Bool) (f : X → Y) (xs : List X) → filter p (map f xs) ≡ map f (filter (λ x. p (f x)) xs)
filter-mapped p f [] = refl
filter-mapped p f (x ∷ xs) = by (p (f x)) (filter-mapped p f xs) where
  by : (b : Bool) → filter p (map f xs) ≡ map f (filter (λ y. p (f y)) xs) → cond b (f x ∷ filter p (map f xs)) (filter p (map f xs)) ≡ map f (cond b (x ∷ filter (λ y. p (f y)) xs) (filter (λ y. p (f y)) xs))
  by true rest = ap (λ ys. f x ∷ ys) rest
  by false rest = rest

filter_upto : {X : Type 0} (p : X → Bool) (xs : List X) (d : X) → filter p xs ≡ map (λ i. get_or xs i d) (filter (λ i. p (get_or xs i d)) (upto (length xs)))
filter_upto p xs d = ap (filter p) (sym (map-id xs) ∙ map_upto (λ x. x) xs d) ∙ filter-mapped p (λ i. get_or xs i d) (upto (length xs))

any_mapped : {X Y : Type 0} (q : Y → Bool) (f : X → Y) (xs : List X) → list_any q (map f xs) ≡ list_any (λ x. q (f x)) xs
any_mapped q f [] = refl
any_mapped q f (x ∷ xs) = ap (λ b. q (f x) || b) (any_mapped q f xs)

any_filtered : {X : Type 0} (p q : X → Bool) (xs : List X) → list_any q (filter p xs) ≡ list_any (λ x. p x && q x) xs
any_filtered p q [] = refl
any_filtered p q (x ∷ xs) = by (p x) (any_filtered p q xs) where
  by : (b : Bool) → list_any q (filter p xs) ≡ list_any (λ y. p y && q y) xs → list_any q (cond b (x ∷ filter p xs) (filter p xs)) ≡ ((b && q x) || list_any (λ y. p y && q y) xs)
  by true rest = ap (λ b. q x || b) rest
  by false rest = rest

-- counts of tests that agree
count_agree : (p q : ℕ → Bool) (xs : List ℕ) → All (λ x. p x ≡ q x) xs → count_by p xs ≡ count_by q xs
count_agree p q xs h = sym (count_by-map (λ b. b) p xs) ∙ ap (count_by (λ b. b)) (map_agree p q xs h) ∙ count_by-map (λ b. b) q xs

-- where a test passes for the members before a place alone
and_true : (b : Bool) → (b && true) ≡ b
and_true true = refl
and_true false = refl

and_false : (b : Bool) → (b && false) ≡ false
and_false true = refl
and_false false = refl

count_before : (a b : ℕ → Bool) (xs : List ℕ) (p : ℕ) → ((k : ℕ) → k < p → k < length xs → b (get_or xs k 0) ≡ true) → ((k : ℕ) → p ≤ k → k < length xs → b (get_or xs k 0) ≡ false) →
    count_by (λ x. a x && b x) xs ≡ count_by a (take p xs)
count_before a b [] zero pass fail = refl
count_before a b [] (suc p) pass fail = refl
count_before a b (x ∷ xs) zero pass fail =
    count_by-cons (λ y. a y && b y) x xs
    ∙ (λ i. one_if ((ap (λ c. a x && c) (fail 0 (omega arith) (omega arith)) ∙ and_false (a x)) i)
    + count_before a b xs 0 (λ k less low. absurd (omega (arith, less))) (λ k more low. fail (suc k) (omega arith) (omega (arith, low))) i)
count_before a b (x ∷ xs) (suc p) pass fail =
    count_by-cons (λ y. a y && b y) x xs
    ∙ (λ i. one_if ((ap (λ c. a x && c) (pass 0 (omega arith) (omega arith)) ∙ and_true (a x)) i)
    + count_before a b xs p (λ k less low. pass (suc k) (omega (arith, less)) (omega (arith, low))) (λ k more low. fail (suc k) (omega (arith, more)) (omega (arith, low))) i)
    ∙ sym (count_by-cons a x (take p xs))

-- the rims without a mark, by their numbers, with their sides
abbrev pub unmarked_list : List Bool → ℕ → List ℕ
unmarked_list marks n = filter (λ i. not (get_or marks i false)) (upto n)

abbrev pub with_side : (ℕ → Bool) → ℕ → ℕ × Bool
with_side side i = (i, side i)

pub unmarked_more : (side : ℕ → Bool) (marks : List Bool) (i : ℕ) (out new : List (ℕ × Bool)) (b front : Bool) → get_or marks i false ≡ b → front ≡ side i →
    out ≡ map (with_side side) (unmarked_list marks i) → new ≡ out ++ (if b then [] else (i, front) ∷ []) → new ≡ map (with_side side) (unmarked_list marks (i + 1))
unmarked_more side marks i out new true front has is before same =
    same ∙ append-nil out ∙ before ∙ ap (map (with_side side)) (sym (filter-upto_no (λ j. not (get_or marks j false)) i (ap not has)))
unmarked_more side marks i out new false front none is before pushed =
    pushed ∙ (λ k. before k ++ (i, is k) ∷ []) ∙ sym (map-append (with_side side) (unmarked_list marks i) (i ∷ []))
    ∙ ap (map (with_side side)) (sym (filter-upto_yes (λ j. not (get_or marks j false)) i (ap not none)))

pub unmarked_low : (side : ℕ → Bool) (marks : List Bool) (n : ℕ) (out : List (ℕ × Bool)) → out ≡ map (with_side side) (unmarked_list marks n) → All (λ s. s.0 < n) out
unmarked_low side marks n out e =
    subst (λ ss. All (λ (s : ℕ × Bool). s.0 < n) ss) (sym e)
    (All-map (λ (s : ℕ × Bool). s.0 < n) (with_side side) (unmarked_list marks n)
    (λ k d low. All-filter (λ i. not (get_or marks i false)) (λ i. i < n) (upto n) (upto_below n) k d low))

-- those that stay are among them
pub staying_low : (n : ℕ) (rims : List (List ℕ)) (some : List (ℕ × Bool)) → All (λ s. s.0 < n) some → All (λ i. i < n) (staying rims some)
unfolding staying
staying_low n rims some all =
    All-map (λ i. i < n) (λ i. (some_at some i).0) (filter (stays rims some) (upto (length some)))
    (λ k d low. all (get_or (filter (stays rims some) (upto (length some))) k d) (0, false)
    (All-filter (stays rims some) (λ i. i < length some) (upto (length some)) (upto_below (length some)) k d low))

module _ (at : Plane) (fs : List Face) (rims : List (List ℕ)) (labels : List ℕ) (sides : List Bool) (listed : AreListed at rims labels sides fs) (marks : List Bool) where
  abbrev n : ℕ
  n = length fs

  abbrev js : List ℕ
  js = unmarked_list marks n

  below : All (λ j. j < n) js
  below = All-filter (λ i. not (get_or marks i false)) (λ i. i < n) (upto n) (upto_below n)

  -- triangles are told by their numbers
  apart : (i j : ℕ) → i < n → j < n → (j ≡ i → ⊥) → ((face_at fs j).number == (face_at fs i).number) ≡ false
  apart i j low inside other = ne_eqb (face_at fs j).number (face_at fs i).number (λ e. by e (cases_order i j)) where
    by : (face_at fs j).number ≡ (face_at fs i).number → (i ≡ j) ⊎ ((i < j) ⊎ (j < i)) → ⊥
    by e (inl same) = other (sym same)
    by e (inr (inl less)) = omega (arith, e, listed.order i j less inside)
    by e (inr (inr more)) = omega (arith, e, listed.order j i more low)

  zero_plus : (k : ℕ) → 0 + k ≡ k
  zero_plus k = omega arith

  is_marked : (i : ℕ) → i < n → list_any (λ (g : Face). g.number == (face_at fs i).number) (chosen marks fs) ≡ get_or marks i false
  is_marked i low =
      any_mapped (λ (g : Face). g.number == (face_at fs i).number) (face_at fs) (marked marks n)
      ∙ any_filtered (λ j. get_or marks j false) (λ j. (face_at fs j).number == (face_at fs i).number) (upto n)
      ∙ by (cases_Bool (get_or marks i false))
    where
      none : get_or marks i false ≡ false → (j : ℕ) → j < n → (j ≡ i) ⊎ (j ≡ i → ⊥) → (get_or marks j false && ((face_at fs j).number == (face_at fs i).number)) ≡ false
      none fails j inside (inl e) = ap (λ b. b && ((face_at fs j).number == (face_at fs i).number)) (ap (λ k. get_or marks k false) e ∙ fails)
      none fails j inside (inr other) = ap (λ b. get_or marks j false && b) (apart i j low inside other) ∙ and_false (get_or marks j false)

      by : (get_or marks i false ≡ true) ⊎ (get_or marks i false ≡ false) →
          list_any (λ j. get_or marks j false && ((face_at fs j).number == (face_at fs i).number)) (upto n) ≡ get_or marks i false
      by (inl holds) =
          list_any_at (λ j. get_or marks j false && ((face_at fs j).number == (face_at fs i).number)) (upto n) i 0 (omega (arith, low, length-up_from 0 n))
          (ap (λ j. get_or marks j false && ((face_at fs j).number == (face_at fs i).number)) (get_or-up_from 0 n i 0 low ∙ zero_plus i)
          ∙ (λ k. holds k && eq-eqb (face_at fs i).number (face_at fs i).number refl k)) ∙ sym holds
      by (inr fails) =
          list_any_none (λ j. get_or marks j false && ((face_at fs j).number == (face_at fs i).number)) (upto n)
          (λ k d inside. none fails (get_or (upto n) k d) (upto_below n k d inside) (cases_eq (get_or (upto n) k d) i)) ∙ sym fails

  out_is : filter (is_out (chosen marks fs)) fs ≡ map (face_at fs) js
  out_is =
      filter_upto (is_out (chosen marks fs)) fs no_face
      ∙ ap (map (face_at fs)) (filter-upto_same (λ i. is_out (chosen marks fs) (face_at fs i)) (λ i. not (get_or marks i false)) n (λ i low. ap not (is_marked i low)))

  -- what their rims and sides say
  rim_is : (i : ℕ) → i < n → get_or rims i [] ≡ (face_at fs i).rim
  rim_is i low = ap (λ rs. get_or rs i []) listed.rims ∙ get_or-map (λ (f : Face). f.rim) fs i no_face [] low

  side_is : (i : ℕ) → i < n → get_or sides i false ≡ is_left at (face_at fs i).corners
  side_is i low = ap (λ ss. get_or ss i false) listed.fronts ∙ get_or-map (λ (f : Face). is_left at f.corners) fs i no_face false low

  abbrev side : ℕ → Bool
  side i = get_or sides i false

  abbrev some : List (ℕ × Bool)
  some = map (with_side (λ i. get_or sides i false)) js

  abbrev like : ℕ → ℕ → Bool
  like i j = if is_left at (face_at fs i).corners then is_left at (face_at fs j).corners else not (is_left at (face_at fs j).corners)

  against_same : (i j : ℕ) → i < n → j < n → (same_rim (face_at fs i) (face_at fs j) && not (like i j)) ≡ is_against rims (i, side i) (j, side j)
  against_same i j low inside = λ k. same_places (sym (rim_is i low) k) (sym (rim_is j inside) k) && not (same_side (sym (side_is i low) k) (sym (side_is j inside) k))

  like_same : (i j : ℕ) → i < n → j < n → (same_rim (face_at fs i) (face_at fs j) && like i j) ≡ is_like rims (i, side i) (j, side j)
  like_same i j low inside = λ k. same_places (sym (rim_is i low) k) (sym (rim_is j inside) k) && same_side (sym (side_is i low) k) (sym (side_is j inside) k)

  module _ (p : ℕ) (low : p < length js) where
    abbrev i : ℕ
    i = get_or js p 0

    inside : i < n
    inside = below p 0 low

    some_is : some_at some p ≡ (i, side i)
    some_is = get_or-map (with_side (λ j. get_or sides j false)) js p 0 (0, false) low

    first : count_by (λ (g : Face). same_rim (face_at fs i) g && not (if is_left at (face_at fs i).corners then is_left at g.corners else not (is_left at g.corners))) (map (face_at fs) js)
        ≡ count_by (is_against rims (some_at some p)) some
    first =
        count_by-map (λ (g : Face). same_rim (face_at fs i) g && not (if is_left at (face_at fs i).corners then is_left at g.corners else not (is_left at g.corners))) (face_at fs) js
        ∙ count_agree (λ j. same_rim (face_at fs i) (face_at fs j) && not (like i j)) (λ j. is_against rims (i, side i) (j, side j)) js
        (λ k d there. against_same i (get_or js k d) inside (below k d there))
        ∙ sym (count_by-map (is_against rims (i, side i)) (with_side (λ j. get_or sides j false)) js)
        ∙ ap (λ s. count_by (is_against rims s) some) (sym some_is)

    before : (k : ℕ) → k < p → k < length js → nat_lt (face_at fs (get_or js k 0)).number (face_at fs i).number ≡ true
    before k less there =
        lt-ltb (face_at fs (get_or js k 0)).number (face_at fs i).number
        (listed.order (get_or js k 0) i (filter-ascends (λ j. not (get_or marks j false)) 0 n k p less low) inside)

    behind : (k : ℕ) → p ≤ k → k < length js → nat_lt (face_at fs (get_or js k 0)).number (face_at fs i).number ≡ false
    behind k more there = by (cases_order k p) where
      by : (k ≡ p) ⊎ ((k < p) ⊎ (p < k)) → nat_lt (face_at fs (get_or js k 0)).number (face_at fs i).number ≡ false
      by (inl e) = le-ltb (face_at fs (get_or js k 0)).number (face_at fs i).number (omega (arith, ap (λ m. (face_at fs (get_or js m 0)).number) e))
      by (inr (inl less)) = absurd (omega (arith, less, more))
      by (inr (inr less)) =
          let h = listed.order i (get_or js k 0) (filter-ascends (λ j. not (get_or marks j false)) 0 n p k less there) (below k 0 there) in
          le-ltb (face_at fs (get_or js k 0)).number (face_at fs i).number (omega (arith, h))

    second : count_by (λ (g : Face). same_rim (face_at fs i) g && (if is_left at (face_at fs i).corners then is_left at g.corners else not (is_left at g.corners))
        && nat_lt g.number (face_at fs i).number) (map (face_at fs) js) ≡ count_by (is_like rims (some_at some p)) (take p some)
    second =
        count_by-map (λ (g : Face). same_rim (face_at fs i) g && (if is_left at (face_at fs i).corners then is_left at g.corners else not (is_left at g.corners))
        && nat_lt g.number (face_at fs i).number) (face_at fs) js
        ∙ count_before (λ j. same_rim (face_at fs i) (face_at fs j) && like i j) (λ j. nat_lt (face_at fs j).number (face_at fs i).number) js p before behind
        ∙ count_agree (λ j. same_rim (face_at fs i) (face_at fs j) && like i j) (λ j. is_like rims (i, side i) (j, side j)) (take p js)
        (λ k d there. like_same i (get_or (take p js) k d) inside (All-take (λ j. j < n) p js below k d there))
        ∙ sym (count_by-map (is_like rims (i, side i)) (with_side (λ j. get_or sides j false)) (take p js))
        ∙ ap (count_by (is_like rims (i, side i))) (sym (take-map (with_side (λ j. get_or sides j false)) p js))
        ∙ ap (λ s. count_by (is_like rims s) (take p some)) (sym some_is)

    remains_is : remains at (map (face_at fs) js) (face_at fs i) ≡ stays rims some p
    remains_is = λ k. nat_le (first k) (second k)

  pub kept_is : (out : List (ℕ × Bool)) → out ≡ map (with_side (λ i. get_or sides i false)) (unmarked_list marks (length fs)) →
      map (face_at fs) (staying rims out) ≡ left_of at fs (chosen marks fs)
  unfolding staying
  kept_is out e =
      ap (λ ss. map (face_at fs) (map (λ p. (some_at ss p).0) (filter (stays rims ss) (upto (length ss))))) e
      ∙ ap (λ m. map (face_at fs) (map (λ p. (some_at some p).0) (filter (stays rims some) (upto m)))) (length-map js (with_side (λ i. get_or sides i false)))
      ∙ ap (map (face_at fs)) (map_agree (λ p. (some_at some p).0) (λ p. get_or js p 0) (filter (stays rims some) (upto (length js)))
      (λ k d low. ap (λ (s : ℕ × Bool). s.0) (some_is (get_or (filter (stays rims some) (upto (length js))) k d)
      (All-filter (stays rims some) (λ p. p < length js) (upto (length js)) (upto_below (length js)) k d low))))
      ∙ ap (λ ps. map (face_at fs) (map (λ p. get_or js p 0) ps))
      (filter-upto_same (stays rims some) (λ p. remains at (map (face_at fs) js) (face_at fs (get_or js p 0))) (length js) (λ p low. sym (remains_is p low)))
      ∙ ap (map (face_at fs)) (sym (filter_upto (λ j. remains at (map (face_at fs) js) (face_at fs j)) js 0))
      ∙ sym (filter-mapped (remains at (map (face_at fs) js)) (face_at fs) js)
      ∙ ap (λ out_fs. filter (remains at out_fs) out_fs) (sym out_is)

-- one more mark, set or not
pub marked_yes : (marks : List Bool) (i count : ℕ) → get_or marks i false ≡ true → count ≡ length (marked marks i) → count + 1 ≡ length (marked marks (i + 1))
marked_yes marks i count set so =
    omega (arith, so, ap length (filter-upto_yes (λ j. get_or marks j false) i set), length-append (marked marks i) (i ∷ []))

pub marked_no : (marks : List Bool) (i count : ℕ) → get_or marks i false ≡ false → count ≡ length (marked marks i) → count ≡ length (marked marks (i + 1))
marked_no marks i count unset so = so ∙ sym (ap length (filter-upto_no (λ j. get_or marks j false) i unset))
