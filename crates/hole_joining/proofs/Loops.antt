-- Loops that can be filled, told into rings and holes.
use Rattle.std.specs.Prelude.{◌≡◌, ◌≢◌, ℕ, suc, ◌<◌, ◌≤◌, ◌⊎◌, ℤ, pos, negsuc, neg_ℤ, ◌+ℤ◌, ◌-ℤ◌, ◌*ℤ◌}
use Rattle.std.specs.Prelude.{◌≤ℤ◌, ◌<ℤ◌, int_lt, int_le, List, [], ◌∷◌, ◌++◌, Bool, true, false, cond, ◌==◌, length}
use Rattle.std.specs.Prelude.{get_or, filter, map}
use Rattle.std.specs.List.{All, concat}
use Rattle.std.proofs.Common.{arith, refl, sym, ap, ◌∙◌, inl, inr}
use Rattle.std.proofs.Math.IntN.{*ℤ_comm}
use Rattle.std.proofs.lemmas.Int.{ints}
use Rattle.std.proofs.lemmas.Bool.{cases_eq, cases_lt, eq-eqb, ne_eqb, le-ltb, le-leb, cond_both}
use Rattle.std.proofs.lemmas.List.{length-append, nil_from_length}
use Rattle.std.proofs.lemmas.List.Elements.{All-cons, All-head, All-tail, All-nil}
use Rattle.chain_terms.specs.Sums.{total}
use Rattle.chain_terms.specs.Paths.{path, last_of, round_edges}
use Rattle.chain_laws.specs.Counts.{one_if-true, one_if-false}
use Rattle.chain_laws.specs.Sums.{total-append, total-map, total-same, total-neg}
use Rattle.face_plane.specs.Planes.{Plane, across, area, exchanged, settled_plane, is_turned}
use Rattle.face_plane.specs.Rings.{In, IsRing, vertex_at}
use Rattle.hole_joining.specs.Holes.{comes_first, from_start, is_ring, is_hole, ring_list, put_hole, put_all, hole_list}
use Rattle.face_loops.specs.Segments.{AreDifferent}
use Rattle.hole_joining.proofs.Turning.{often, often-append, often-cons, often_in, in_often}
use Rattle.hole_joining.proofs.Joins.{stutter, apart_from_none}

-- where a vertex of the list stands
in_place : (v : ℕ) (xs : List ℕ) → In v xs → (k : ℕ) × (k < length xs) × (get_or xs k 0 ≡ v)
in_place v [] h = elim h [ ]
in_place v (x ∷ xs) (inl e) = (0, omega arith, sym e)
in_place v (x ∷ xs) (inr m) = let p = in_place v xs m in (suc p.0, omega (arith, p.1), p.2)

-- of different vertices none stands twice
pub often_once : (xs : List ℕ) → AreDifferent xs → (v : ℕ) → often v xs ≤ 1
often_once [] h v = omega arith
often_once (x ∷ xs) h v =
    let rest = often_once xs (λ i j a b. h (suc i) (suc j) (omega (arith, a)) (omega (arith, b))) v in
    elim (cases_eq x v) as (λ _. often v (x ∷ xs) ≤ 1) [
      | inr n ↦ omega (arith, often-cons v x xs, one_if-false (x == v) (ne_eqb x v n), rest)
      | inl e ↦ elim (cases_lt 0 (often v xs)) as (λ _. often v (x ∷ xs) ≤ 1) [
        | inl some ↦ let p = in_place v xs (often_in v xs some) in absurd (h 0 (suc p.0) (omega arith) (omega (arith, p.1)) (e ∙ sym p.2))
        | inr none ↦ omega (arith, often-cons v x xs, none, one_if-true (x == v) (eq-eqb x v e))
      ]
    ]

-- what is added up over lists is that of the lists one after the other
pub total-often : (v : ℕ) (ls : List (List ℕ)) → total (λ l. pos (often v l)) ls ≡ pos (often v (concat ls))
total-often v [] = refl
total-often v (l ∷ ls) = omega (arith, ints, often-append v l (concat ls), total-often v ls)

pub total-length : (ls : List (List ℕ)) → total (λ l. pos (length l)) ls ≡ pos (length (concat ls))
total-length [] = refl
total-length (l ∷ ls) = omega (arith, ints, length-append l (concat ls), total-length ls)

-- no vertex stands twice in the list
abbrev pub IsOnce : List ℕ → Type 0
IsOnce l = (v : ℕ) → often v l ≤ 1

-- where none stands twice in all lists, none does in one
pub each_once : (ls : List (List ℕ)) → IsOnce (concat ls) → All IsOnce ls
each_once [] h = All-nil IsOnce
each_once (l ∷ ls) h =
    All-cons IsOnce l ls (λ v. omega (arith, h v, often-append v l (concat ls)))
    (each_once ls (λ v. omega (arith, h v, often-append v l (concat ls))))

-- two of the first vertices of such a list differ
two_differ : (x y : ℕ) (xs ys : List ℕ) → IsOnce (xs ++ x ∷ ys) → In y ys → x ≢ y
two_differ x y xs ys once m e =
    absurd (omega
    (arith, once x, often-append x xs (x ∷ ys), often-cons x x ys, one_if-true (x == x) (eq-eqb x x refl), in_often y ys m, ap (λ v. often v ys) e))

-- the last vertex stands in the list
last_in : (x : ℕ) (r : List ℕ) → In (last_of x r) (x ∷ r)
last_in x [] = inl refl
last_in x (y ∷ r) = inr (last_in y r)

-- the neighbours along such a list differ
path_apart : (x : ℕ) (r : List ℕ) → IsOnce (x ∷ r) → total stutter (path x r) ≡ pos 0
path_apart x [] once = refl
path_apart x (y ∷ r) once =
    let differ = two_differ x y [] (y ∷ r) once (inl refl) in
    let here = one_if-false (x == y) (ne_eqb x y differ) in
    omega (arith, ints, here, path_apart y r (λ v. omega (arith, once v, often-cons v x (y ∷ r))))

-- a loop of three vertices or more, none twice, is a ring
pub ringy_loop : (l : List ℕ) → 3 ≤ length l → IsOnce l → IsRing l
ringy_loop [] long once = absurd (omega (arith, long))
ringy_loop (a ∷ []) long once = absurd (omega (arith, long))
ringy_loop (a ∷ b ∷ []) long once = absurd (omega (arith, long))
ringy_loop (a ∷ b ∷ c ∷ r) long once = record {
  long = long;
  apart = apart_from_none (round_edges (a ∷ b ∷ c ∷ r))
      (let differ : last_of a (b ∷ c ∷ r) ≢ a = λ e. two_differ a (last_of c r) [] (b ∷ c ∷ r) once (inr (last_in c r)) (sym e) in
      omega (
        arith,
        ints,
        total-append stutter (path a (b ∷ c ∷ r)) ((last_of a (b ∷ c ∷ r), a) ∷ []),
        path_apart a (b ∷ c ∷ r) once,
        one_if-false (last_of a (b ∷ c ∷ r) == a) (ne_eqb (last_of a (b ∷ c ∷ r)) a differ),
      ));
  three = record {
    a = a;
    b = b;
    c = c;
    a_in = inl refl;
    b_in = inr (inl refl);
    c_in = inr (inr (inl refl));
    ab = two_differ a b [] (b ∷ c ∷ r) once (inl refl);
    bc = two_differ b c (a ∷ []) (c ∷ r) once (inl refl);
    ca = λ e. two_differ a c [] (b ∷ c ∷ r) once (inr (inl refl)) (sym e);
  };
}

-- so all loops are
pub ringy_loops : (ls : List (List ℕ)) → All (λ l. 3 ≤ length l) ls → All IsOnce ls → All IsRing ls
ringy_loops [] long once = All-nil IsRing
ringy_loops (l ∷ ls) long once =
    All-cons IsRing l ls (ringy_loop l (All-head (λ (l : List ℕ). 3 ≤ length l) l ls long) (All-head IsOnce l ls once))
    (ringy_loops ls (All-tail (λ (l : List ℕ). 3 ≤ length l) l ls long) (All-tail IsOnce l ls once))

-- a loop is a ring or a hole, by the sign of its area
ring_or_hole : (z : ℤ) → ((int_le (pos 0) z ≡ true) × (int_lt z (pos 0) ≡ false)) ⊎ ((int_le (pos 0) z ≡ false) × (int_lt z (pos 0) ≡ true))
ring_or_hole (pos n) = inl (le-leb 0 n (omega arith), le-ltb n 0 (omega arith))
ring_or_hole (negsuc n) = inr (refl, refl)

-- what is added up over rings and over holes is added up over all loops
told_apart : (at : Plane) (g : List ℕ → ℤ) (ls : List (List ℕ)) → total g (filter (is_ring at) ls) +ℤ total g (filter (is_hole at) ls) ≡ total g ls
told_apart at g [] = refl
told_apart at g (l ∷ ls) =
    let rest = told_apart at g ls in
    elim (ring_or_hole (area at l)) as (λ _. total g (filter (is_ring at) (l ∷ ls)) +ℤ total g (filter (is_hole at) (l ∷ ls)) ≡ total g (l ∷ ls)) [
      | inl p ↦ rw (p.0, p.1) (omega (arith, ints, rest))
      | inr p ↦ rw (p.0, p.1) (omega (arith, ints, rest))
    ]

-- a hole put among others
total-put_hole : (at : Plane) (g : List ℕ → ℤ) (h : List ℕ) (ks : List (List ℕ)) → total g (put_hole at h ks) ≡ g h +ℤ total g ks
total-put_hole at g h [] = refl
total-put_hole at g h (k ∷ ks) =
    let rest = total-put_hole at g h ks in
    cond_both (comes_first at (vertex_at h 0) (vertex_at k 0)) (h ∷ k ∷ ks) (k ∷ put_hole at h ks)
    (λ l. total g l ≡ g h +ℤ total g (k ∷ ks)) (λ y. refl) (λ n. omega (arith, ints, rest))

total-put_all : (at : Plane) (g : List ℕ → ℤ) (sorted ks : List (List ℕ)) → total g (put_all at sorted ks) ≡ total g sorted +ℤ total g ks
total-put_all at g sorted [] = omega (arith, ints)
total-put_all at g sorted (k ∷ ks) = omega (arith, ints, total-put_all at g (put_hole at k sorted) ks, total-put_hole at g k sorted)

-- what does not change where a loop begins elsewhere, added up over rings and holes
pub told_total : (at : Plane) (g : List ℕ → ℤ) → ((l : List ℕ) → g (from_start at l) ≡ g l) → (ls : List (List ℕ)) →
    total g (ring_list at ls) +ℤ total g (hole_list at ls) ≡ total g ls
told_total at g same ls =
    let holes = filter (is_hole at) ls in
    omega (
      arith,
      ints,
      told_apart at g ls,
      total-put_all at g [] (map (from_start at) holes),
      total-map g (from_start at) holes,
      total-same (λ l. g (from_start at l)) g same holes,
    )

-- ones added up
total-ones : {X : Type 0} → (xs : List X) → total (λ (x : X). pos 1) xs ≡ pos (length xs)
total-ones [] = refl
total-ones (x ∷ xs) = omega (arith, ints, total-ones xs)

-- no hole is lost
pub length-hole_list : (at : Plane) (ls : List (List ℕ)) → length (hole_list at ls) ≡ length (filter (is_hole at) ls)
length-hole_list at ls =
    let one : List ℕ → ℤ = λ l. pos 1 in
    omega (
      arith,
      ints,
      told_apart at one ls,
      told_total at one (λ l. refl) ls,
      total-ones (ring_list at ls),
      total-ones (hole_list at ls),
      total-ones (filter (is_hole at) ls),
    )

-- what holds of all members holds of those that are kept
pub All-kept : {X : Type 0} (P : X → Type 0) (p : X → Bool) (xs : List X) → All P xs → All P (filter p xs)
All-kept P p [] h = All-nil P
All-kept P p (x ∷ xs) h =
    let rest = All-kept P p xs (All-tail P x xs h) in
    cond_both (p x) (x ∷ filter p xs) (filter p xs) (λ l. All P l) (λ y. All-cons P x (filter p xs) (All-head P x xs h) rest) (λ n. rest)

-- of those that are put among others
All-put_hole : (at : Plane) (P : List ℕ → Type 0) (h : List ℕ) (ks : List (List ℕ)) → P h → All P ks → All P (put_hole at h ks)
All-put_hole at P h [] here all = All-cons P h [] here (All-nil P)
All-put_hole at P h (k ∷ ks) here all =
    let rest = All-put_hole at P h ks here (All-tail P k ks all) in
    cond_both (comes_first at (vertex_at h 0) (vertex_at k 0)) (h ∷ k ∷ ks) (k ∷ put_hole at h ks) (λ l. All P l)
    (λ y. All-cons P h (k ∷ ks) here all) (λ n. All-cons P k (put_hole at h ks) (All-head P k ks all) rest)

All-put_all : (at : Plane) (P : List ℕ → Type 0) (sorted ks : List (List ℕ)) → All P sorted → All P ks → All P (put_all at sorted ks)
All-put_all at P sorted [] here all = here
All-put_all at P sorted (k ∷ ks) here all =
    All-put_all at P (put_hole at k sorted) ks (All-put_hole at P k sorted (All-head P k ks all) here) (All-tail P k ks all)

All-starts : (at : Plane) (P : List ℕ → Type 0) → ((l : List ℕ) → P l → P (from_start at l)) → (ks : List (List ℕ)) → All P ks →
    All P (map (from_start at) ks)
All-starts at P turns [] all = All-nil P
All-starts at P turns (k ∷ ks) all =
    All-cons P (from_start at k) (map (from_start at) ks) (turns k (All-head P k ks all)) (All-starts at P turns ks (All-tail P k ks all))

-- of the holes in order
pub All-hole_list : (at : Plane) (P : List ℕ → Type 0) → ((l : List ℕ) → P l → P (from_start at l)) → (ls : List (List ℕ)) → All P ls →
    All P (hole_list at ls)
All-hole_list at P turns ls all =
    All-put_all at P [] (map (from_start at) (filter (is_hole at) ls)) (All-nil P)
    (All-starts at P turns (filter (is_hole at) ls) (All-kept P (is_hole at) ls all))

-- holes have areas below 0, so they add up to less
holes_low : (at : Plane) (ls : List (List ℕ)) → total (area at) (filter (is_hole at) ls) ≤ℤ neg_ℤ (pos (length (filter (is_hole at) ls)))
holes_low at [] = omega (arith, ints)
holes_low at (l ∷ ls) =
    let rest = holes_low at ls in
    let hs = filter (is_hole at) ls in
    cond_both (is_hole at l) (l ∷ hs) hs (λ k. total (area at) k ≤ℤ neg_ℤ (pos (length k)))
    (λ y. omega (arith, ints, rest, below (area at l) y)) (λ n. rest)
  where
    below : (z : ℤ) → int_lt z (pos 0) ≡ true → z <ℤ pos 0
    below z y = grind (arith, ints)

-- so where the areas of all loops add up to 0 or more, there is no hole without a ring
pub some_ring : (at : Plane) (ls : List (List ℕ)) → pos 0 ≤ℤ total (area at) ls → 0 < length (filter (is_hole at) ls) →
    0 < length (filter (is_ring at) ls)
some_ring at ls up some = elim (cases_lt 0 (length (filter (is_ring at) ls))) as (λ _. 0 < length (filter (is_ring at) ls)) [
  | inl h ↦ h
  | inr none ↦
      let e = ap (total (area at)) (nil_from_length (filter (is_ring at) ls) (omega (arith, none))) in
      absurd (omega (arith, ints, told_apart at (area at) ls, holes_low at ls, e, up, some))
]

-- exchanged, a loop has its area negated
pub area-exchanged : (at : Plane) (l : List ℕ) → area (exchanged at) l ≡ neg_ℤ (area at l)
area-exchanged at l =
    total-same (across (exchanged at)) (λ e. neg_ℤ (across at e)) (λ e. turned (at e.0).0 (at e.0).1 (at e.1).0 (at e.1).1) (round_edges l)
    ∙ total-neg (across at) (round_edges l)
  where
    turned : (a b c d : ℤ) → b *ℤ c -ℤ d *ℤ a ≡ neg_ℤ (a *ℤ d -ℤ c *ℤ b)
    turned a b c d = omega (arith, ints, *ℤ_comm b c, *ℤ_comm d a)

-- in the plane that is exchanged where the areas add up to less than 0 they add up to 0 or more
pub settled_up : (at : Plane) (ls : List (List ℕ)) → pos 0 ≤ℤ total (area (settled_plane at ls)) ls
settled_up at ls = by_sign (is_turned at ls) refl
  where
    below : (z : ℤ) → int_lt z (pos 0) ≡ true → z <ℤ pos 0
    below z y = grind (arith, ints)

    level : (z : ℤ) → int_lt z (pos 0) ≡ false → pos 0 ≤ℤ z
    level z n = grind (arith, ints)

    by_sign : (t : Bool) → is_turned at ls ≡ t → pos 0 ≤ℤ total (area (cond t (exchanged at) at)) ls
    by_sign true y =
        omega (
          arith,
          ints,
          below (total (area at) ls) y,
          total-same (area (exchanged at)) (λ l. neg_ℤ (area at l)) (area-exchanged at) ls,
          total-neg (area at) ls,
        )
    by_sign false n = level (total (area at) ls) n
