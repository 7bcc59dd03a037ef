-- The filling of loops of three vertices each, where the i-th vertices of all loops lie at one point.
use Rattle.std.specs.Prelude.{◌≡◌, ℕ, zero, suc, ◌+◌, ◌<◌, ℤ, pos, negsuc, neg_ℤ, ◌-ℤ◌, ◌≤ℤ◌, ◌<ℤ◌, List, [], ◌∷◌}
use Rattle.std.specs.Prelude.{true, false, Bool, cond, int_lt, int_le, filter, map}
use Rattle.std.proofs.Common.{arith, refl, sym, ap, subst, ◌∙◌, inl, inr}
use Rattle.std.proofs.lemmas.Int.{ints}
use Rattle.std.proofs.lemmas.Bool.{cases_Bool, false_from_ne_true, le-leb, le-ltb, lt-ltb}
use Rattle.std.proofs.lemmas.Bool.Decides.{Decides-int_eq}
use Rattle.std.proofs.Math.IntN.{*ℤ_comm}
use Rattle.std.specs.Ordering.{int_eq}
use Rattle.chain_terms.specs.Sums.{total}
use Rattle.mesh_terms.specs.Meshes.{Triple}
use Rattle.face_plane.specs.Planes.{Plane, area, exchanged, is_turned, orient, plane_of, point_at, settled_plane, swapped, turn}
use Rattle.hole_joining.specs.Bridges.{join_holes, joined}
use Rattle.hole_joining.specs.Holes.{from_start, is_hole, is_ring, put_all, ring_list}
use Rattle.hole_joining.proofs.Loops.{settled_up}
use Rattle.ring_cutting.specs.Cuts.{Cut, cut_ring}
use Rattle.triangulate.specs.Fills.{both, cuts, fill_of}
use Rattle.triangulate.proofs.Areas.{areas}

-- the loops of the first vertices from a, b and c on, of the second ones, and so on
abbrev pub loops_of : ℕ → ℕ → ℕ → ℕ → List (List ℕ)
loops_of a b c zero = []
loops_of a b c (suc n) = (a ∷ b ∷ c ∷ []) ∷ loops_of (suc a) (suc b) (suc c) n

-- the loops as triangles
abbrev pub loop_triples : ℕ → ℕ → ℕ → ℕ → List Triple
loop_triples a b c zero = []
loop_triples a b c (suc n) = (a, b, c) ∷ loop_triples (suc a) (suc b) (suc c) n

-- n vertices from a on lie at a point of the plane
abbrev pub AllLieAt : Plane → ℕ → ℕ → ℤ × ℤ → Type 0
AllLieAt at a n p = (i : ℕ) → i < n → at (a + i) ≡ p

-- the first does
lies-first : (at : Plane) (a n : ℕ) (p : ℤ × ℤ) → AllLieAt at a (suc n) p → at a ≡ p
lies-first at a n p h = ap at (omega arith) ∙ h 0 (omega arith)

-- and the others do
lies-rest : (at : Plane) (a n : ℕ) (p : ℤ × ℤ) → AllLieAt at a (suc n) p → AllLieAt at (suc a) n p
lies-rest at a n p h i l = ap at (omega arith) ∙ h (suc i) (omega (arith, l))

-- so do they in the exchanged plane
lies-exchanged : (at : Plane) (a n : ℕ) (p : ℤ × ℤ) → AllLieAt at a n p → AllLieAt (exchanged at) a n (swapped p)
lies-exchanged at a n p h i l = ap swapped (h i l)

-- three blocks of n vertices, each at a point
pub record AreAtPoints (at : Plane) (a b c n : ℕ) (p q r : ℤ × ℤ) : Type 0 where
  pub first : AllLieAt at a n p
  pub second : AllLieAt at b n q
  pub third : AllLieAt at c n r

-- but for the first of each
rest-at : (at : Plane) (a b c n : ℕ) (p q r : ℤ × ℤ) → AreAtPoints at a b c (suc n) p q r → AreAtPoints at (suc a) (suc b) (suc c) n p q r
rest-at at a b c n p q r h = record { first = lies-rest at a n p h.first; second = lies-rest at b n q h.second; third = lies-rest at c n r h.third }

-- in the exchanged plane
exchanged-at : (at : Plane) (a b c n : ℕ) (p q r : ℤ × ℤ) → AreAtPoints at a b c n p q r →
    AreAtPoints (exchanged at) a b c n (swapped p) (swapped q) (swapped r)
exchanged-at at a b c n p q r h =
    record { first = lies-exchanged at a n p h.first; second = lies-exchanged at b n q h.second; third = lies-exchanged at c n r h.third }

-- the turn of the first vertices is that of the points
turn_is : (at : Plane) (a b c n : ℕ) (p q r : ℤ × ℤ) → AreAtPoints at a b c (suc n) p q r → orient at a b c ≡ turn p q r
turn_is at a b c n p q r h =
    ap (λ x. turn x (at b) (at c)) (lies-first at a n p h.first) ∙ ap (λ y. turn p y (at c)) (lies-first at b n q h.second)
    ∙ ap (turn p q) (lies-first at c n r h.third)

-- the doubled area of a loop of three vertices is their turn
area_is_turn : (at : Plane) (a b c : ℕ) → area at (a ∷ b ∷ c ∷ []) ≡ orient at a b c
area_is_turn at a b c =
    let same = areas at ((a ∷ b ∷ c ∷ []) ∷ []) ((a, b, c) ∷ []) (λ f odd. refl) in
    omega (arith, ints, same)

-- so it is that of the points
area_is : (at : Plane) (a b c n : ℕ) (p q r : ℤ × ℤ) → AreAtPoints at a b c (suc n) p q r → area at (a ∷ b ∷ c ∷ []) ≡ turn p q r
area_is at a b c n p q r h = area_is_turn at a b c ∙ turn_is at a b c n p q r h

-- a number from 0 on, by its tests
ring_test : (z : ℤ) → pos 0 ≤ℤ z → int_le (pos 0) z ≡ true
ring_test (pos n) h = le-leb 0 n (omega arith)
ring_test (negsuc n) h = absurd (omega (arith, ints, h))

-- so it is not below 0
hole_test : (z : ℤ) → pos 0 ≤ℤ z → int_lt z (pos 0) ≡ false
hole_test (pos n) h = le-ltb n 0 (omega arith)
hole_test (negsuc n) h = absurd (omega (arith, ints, h))

-- where the turn is 0 or more all loops are rings
all_rings : (at : Plane) (a b c n : ℕ) (p q r : ℤ × ℤ) → AreAtPoints at a b c n p q r → pos 0 ≤ℤ turn p q r →
    ring_list at (loops_of a b c n) ≡ loops_of a b c n
all_rings at a b c zero p q r h up = refl
all_rings at a b c (suc n) p q r h up =
    let test : is_ring at (a ∷ b ∷ c ∷ []) ≡ true = ap (int_le (pos 0)) (area_is at a b c n p q r h) ∙ ring_test (turn p q r) up in
    ap (λ t. cond t ((a ∷ b ∷ c ∷ []) ∷ ring_list at (loops_of (suc a) (suc b) (suc c) n)) (ring_list at (loops_of (suc a) (suc b) (suc c) n))) test
    ∙ ap (λ l. (a ∷ b ∷ c ∷ []) ∷ l) (all_rings at (suc a) (suc b) (suc c) n p q r (rest-at at a b c n p q r h) up)

-- and none is a hole
no_holes : (at : Plane) (a b c n : ℕ) (p q r : ℤ × ℤ) → AreAtPoints at a b c n p q r → pos 0 ≤ℤ turn p q r →
    filter (is_hole at) (loops_of a b c n) ≡ []
no_holes at a b c zero p q r h up = refl
no_holes at a b c (suc n) p q r h up =
    let test : is_hole at (a ∷ b ∷ c ∷ []) ≡ false = ap (λ z. int_lt z (pos 0)) (area_is at a b c n p q r h) ∙ hole_test (turn p q r) up in
    ap (λ t. cond t ((a ∷ b ∷ c ∷ []) ∷ filter (is_hole at) (loops_of (suc a) (suc b) (suc c) n))
    (filter (is_hole at) (loops_of (suc a) (suc b) (suc c) n))) test
    ∙ no_holes at (suc a) (suc b) (suc c) n p q r (rest-at at a b c n p q r h) up

-- so there is nothing to join
nothing_joined : (at : Plane) (a b c n : ℕ) (p q r : ℤ × ℤ) → AreAtPoints at a b c n p q r → pos 0 ≤ℤ turn p q r →
    join_holes at (loops_of a b c n) ≡ loops_of a b c n
nothing_joined at a b c n p q r h up =
    ap (λ holes. joined at (ring_list at (loops_of a b c n)) (put_all at [] (map (from_start at) holes))) (no_holes at a b c n p q r h up)
    ∙ all_rings at a b c n p q r h up

-- the numbers of triangles that are forced, of one and of n, are those of n + 1
forced_more : (t : Bool) (n : ℕ) → cond t 0 1 + cond t 0 n ≡ cond t 0 (suc n)
forced_more true n = refl
forced_more false n = omega arith

-- cuttings of equal parts
pub same_cut : (ts us : List Triple) (n m : ℕ) → ts ≡ us → n ≡ m →
    ◌≡◌ {A = Cut} (record { triples = ts; forced = n }) (record { triples = us; forced = m })
same_cut ts us n m e f = λ i. record { triples = e i; forced = f i }

-- rings of three vertices are cut into one triangle each, all of them forced where they do not turn left
rings_cut : (at : Plane) (a b c n : ℕ) (p q r : ℤ × ℤ) → AreAtPoints at a b c n p q r →
    ◌≡◌ {A = Cut} (cuts at (loops_of a b c n)) (record { triples = loop_triples a b c n; forced = cond (int_lt (pos 0) (turn p q r)) 0 n })
rings_cut at a b c zero p q r h = same_cut [] [] 0 (cond (int_lt (pos 0) (turn p q r)) 0 0) refl (none (int_lt (pos 0) (turn p q r)))
  where
    none : (t : Bool) → ◌≡◌ {A = ℕ} 0 (cond t 0 0)
    none true = refl
    none false = refl
rings_cut at a b c (suc n) p q r h =
    let t = int_lt (pos 0) (turn p q r) in
    let here : ◌≡◌ {A = Cut} (cut_ring at (a ∷ b ∷ c ∷ [])) (record { triples = (a, b, c) ∷ []; forced = cond t 0 1 }) =
    same_cut ((a, b, c) ∷ []) ((a, b, c) ∷ []) (cond (int_lt (pos 0) (orient at a b c)) 0 1) (cond t 0 1) refl
    (ap (λ z. cond (int_lt (pos 0) z) 0 1) (turn_is at a b c n p q r h)) in
    let later = rings_cut at (suc a) (suc b) (suc c) n p q r (rest-at at a b c n p q r h) in
    ap (λ d. both d (cuts at (loops_of (suc a) (suc b) (suc c) n))) here ∙ ap (both (record { triples = (a, b, c) ∷ []; forced = cond t 0 1 })) later
    ∙ same_cut (loop_triples a b c (suc n)) (loop_triples a b c (suc n)) (cond t 0 1 + cond t 0 n) (cond t 0 (suc n)) refl (forced_more t n)

-- so the loops are filled where their turn is 0 or more
pub loops_filled : (at : Plane) (a b c n : ℕ) (p q r : ℤ × ℤ) → AreAtPoints at a b c n p q r → pos 0 ≤ℤ turn p q r →
    ◌≡◌ {A = Cut} (cuts at (join_holes at (loops_of a b c n)))
    (record { triples = loop_triples a b c n; forced = cond (int_lt (pos 0) (turn p q r)) 0 n })
loops_filled at a b c n p q r h up = ap (cuts at) (nothing_joined at a b c n p q r h up) ∙ rings_cut at a b c n p q r h

-- where the points turn right, the areas of the loops do not add up to more than 0
areas_low : (at : Plane) (a b c n : ℕ) (p q r : ℤ × ℤ) → AreAtPoints at a b c n p q r → turn p q r <ℤ pos 0 →
    total (area at) (loops_of a b c n) ≤ℤ pos 0
areas_low at a b c zero p q r h low = omega (arith, ints)
areas_low at a b c (suc n) p q r h low =
    omega (arith, ints, low, area_is at a b c n p q r h, areas_low at (suc a) (suc b) (suc c) n p q r (rest-at at a b c n p q r h) low)

-- a number is 0 or more where it cannot be below 0
at_least_none : (z : ℤ) → (z <ℤ pos 0 → ⊥) → pos 0 ≤ℤ z
at_least_none (pos n) h = omega (arith, ints)
at_least_none (negsuc n) h = absurd (h (omega (arith, ints)))

-- so where they add up to 0 or more, the points turn left or lie on a line
turn_up : (at : Plane) (a b c n : ℕ) (p q r : ℤ × ℤ) → AreAtPoints at a b c (suc n) p q r →
    pos 0 ≤ℤ total (area at) (loops_of a b c (suc n)) → pos 0 ≤ℤ turn p q r
turn_up at a b c n p q r h up =
    at_least_none (turn p q r)
    (λ low. omega (arith, ints, low, up, area_is at a b c n p q r h, areas_low at (suc a) (suc b) (suc c) n p q r (rest-at at a b c n p q r h) low))

-- a number that is not 0
not_none : (z : ℤ) → (z ≡ pos 0 → ⊥) → int_eq z (pos 0) ≡ false
not_none z h = false_from_ne_true (int_eq z (pos 0)) (λ t. h ((Decides-int_eq z (pos 0)).0 t))

-- as many are forced as where the turn is 0
forced_same : (z : ℤ) (n : ℕ) → pos 0 ≤ℤ z → cond (int_lt (pos 0) z) 0 n ≡ cond (int_eq z (pos 0)) n 0
forced_same (pos zero) n h = refl
forced_same (pos (suc m)) n h =
    ap (λ t. cond t 0 n) (lt-ltb 0 (suc m) (omega arith)) ∙ sym (ap (λ t. cond t n 0) (not_none (pos (suc m)) (λ e. omega (arith, ints, e))))
forced_same (negsuc m) n h = absurd (omega (arith, ints, h))

-- also where its negative is the turn
forced_turned : (z w : ℤ) (n : ℕ) → pos 0 ≤ℤ w → w ≡ neg_ℤ z → cond (int_lt (pos 0) w) 0 n ≡ cond (int_eq z (pos 0)) n 0
forced_turned (pos zero) w n h e = ap (λ u. cond (int_lt (pos 0) u) 0 n) e
forced_turned (pos (suc m)) w n h e = absurd (omega (arith, ints, h, e))
forced_turned (negsuc m) w n h e = ap (λ u. cond (int_lt (pos 0) u) 0 n) e ∙ ap (λ t. cond t 0 n) (lt-ltb 0 (suc m) (omega arith))

-- exchanged points turn the other way
turn_exchanged : (p q r : ℤ × ℤ) → turn (swapped p) (swapped q) (swapped r) ≡ neg_ℤ (turn p q r)
turn_exchanged p q r = omega (arith, ints, *ℤ_comm (q.1 -ℤ p.1) (r.0 -ℤ p.0), *ℤ_comm (q.0 -ℤ p.0) (r.1 -ℤ p.1))

-- the loops of three blocks of n vertices, each at a point of the plane, are filled by one triangle each; all of them are
-- forced where the points lie on a line
pub fill_of-loops : (drop_axis : ℕ) (points : List (List ℤ)) (a b c n : ℕ) (p q r : ℤ × ℤ) →
    AreAtPoints (plane_of drop_axis (point_at points)) a b c n p q r →
    ◌≡◌ {A = Cut} (fill_of drop_axis points (loops_of a b c n))
    (record { triples = loop_triples a b c n; forced = cond (int_eq (turn p q r) (pos 0)) n 0 })
fill_of-loops drop_axis points a b c zero p q r h =
    same_cut [] [] 0 (cond (int_eq (turn p q r) (pos 0)) 0 0) refl (none (int_eq (turn p q r) (pos 0)))
  where
    none : (t : Bool) → ◌≡◌ {A = ℕ} 0 (cond t 0 0)
    none true = refl
    none false = refl
fill_of-loops drop_axis points a b c (suc n) p q r h =
    let at = plane_of drop_axis (point_at points) in
    let loops = loops_of a b c (suc n) in
    let ts = loop_triples a b c (suc n) in
    let filled : Plane → Cut = λ s. cuts s (join_holes s loops) in
    elim (cases_Bool (is_turned at loops))
    as (λ _. ◌≡◌ {A = Cut} (filled (settled_plane at loops)) (record { triples = ts; forced = cond (int_eq (turn p q r) (pos 0)) (suc n) 0 })) [
      | inl y ↦
          let plane : settled_plane at loops ≡ exchanged at = ap (λ t. cond t (exchanged at) at) y in
          let there = exchanged-at at a b c (suc n) p q r h in
          let up =
          turn_up (exchanged at) a b c n (swapped p) (swapped q) (swapped r) there
          (subst (λ (s : Plane). pos 0 ≤ℤ total (area s) loops) plane (settled_up at loops)) in
          ap filled plane ∙ loops_filled (exchanged at) a b c (suc n) (swapped p) (swapped q) (swapped r) there up
          ∙ same_cut ts ts (cond (int_lt (pos 0) (turn (swapped p) (swapped q) (swapped r))) 0 (suc n))
          (cond (int_eq (turn p q r) (pos 0)) (suc n) 0) refl
          (forced_turned (turn p q r) (turn (swapped p) (swapped q) (swapped r)) (suc n) up (turn_exchanged p q r))
      | inr straight ↦
          let plane : settled_plane at loops ≡ at = ap (λ t. cond t (exchanged at) at) straight in
          let up = turn_up at a b c n p q r h (subst (λ (s : Plane). pos 0 ≤ℤ total (area s) loops) plane (settled_up at loops)) in
          ap filled plane ∙ loops_filled at a b c (suc n) p q r h up
          ∙ same_cut ts ts (cond (int_lt (pos 0) (turn p q r)) 0 (suc n)) (cond (int_eq (turn p q r) (pos 0)) (suc n) 0) refl
          (forced_same (turn p q r) (suc n) up)
    ]
