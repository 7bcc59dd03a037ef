-- A triangle that is alone in its plane fills itself.
use Rattle.std.specs.Prelude.{◌≡◌, ◌≢◌, ◌⊎◌, ℕ, zero, suc, ◌+◌, ◌<◌, ◌≤◌, ◌==◌, ℤ, pos, neg_ℤ, ◌+ℤ◌, ◌-ℤ◌, ◌*ℤ◌, ◌<ℤ◌, List, [], ◌∷◌, ◌++◌, Bool, true, false, not, ◌&&◌, ◌||◌, cond, if◌then◌else◌, int_lt, filter, get_or, nat_lt}
use Rattle.std.specs.List.{All, Contains, list_all, list_any, position_or_len}
use Rattle.std.specs.Ordering.{int_eq}
use Rattle.std.proofs.Common.{arith, refl, sym, ap, subst, ◌∙◌, inl, inr}
use Rattle.std.proofs.lemmas.Bool.{both_ways, cases_lt, eqb-true, false_from_ne_true, le-ltb, lt-ltb}
use Rattle.std.proofs.lemmas.Bool.Decides.{Decides-int_eq}
use Rattle.std.proofs.lemmas.Int.{ints}
use Rattle.std.proofs.lemmas.List.Elements.{All-contains, All-head, All-tail}
use Rattle.chain_terms.specs.Paths.{round_edges}
use Rattle.chain_terms.specs.Sums.{upto}
use Rattle.face_plane.specs.Planes.{Plane, area, face_plane, flat_at, flat_point, orient, plane_of, point_at, swapped, turn}
use Rattle.face_plane.proofs.Dropped.{drop_below, turn_on_axis}
use Rattle.hole_joining.specs.Holes.{is_hole, turned_to}
use Rattle.mesh_terms.specs.Meshes.{Triple}
use Rattle.mesh_terms.specs.OpenEdges.{is_lesser}
use Rattle.mesh_terms.specs.Points.{coordinate_of, cross_product}
use Rattle.ring_cutting.specs.Cuts.{Cut}
use Rattle.triangulate.specs.Fills.{fill_of}
use Rattle.triangulate.proofs.Rings.{fill_of-loops}
use Rattle.tidy_terms.specs.PointTriples.{same_point}
use Rattle.sheet_laws.proofs.Thinned.{IsKnown, all_known}
use Rattle.sheet_terms.specs.Cuts.{are_in_line, is_none}
use Rattle.sheet_terms.specs.Faces.{Face, drop_of, normal, seen}
use Rattle.sheet_terms.specs.Filled.{begun, filled, is_least_edge, looks_right, loops}
use Rattle.sheet_terms.specs.Needless.{are_two_in_line, is_needless, neighbours, thinned}
use Rattle.plan_laws.specs.Alone.{AloneFillsItself, IsAlone, alone_filling, alone_region, alone_side, from_least}
use Rattle.plan_laws.proofs.Alone.{keep_three, turns}
use Rattle.plan_laws.proofs.Beside.{placed, turn_area}
use Rattle.plan_laws.proofs.Edges.{no, three_edges, yes}

-- a number is not less than itself
not_self : (x : ℕ) → nat_lt x x ≡ false
not_self x = le-ltb x x (omega arith)

-- edges by their starts
lesser_by : (x u y v : ℕ) → x ≢ y → is_lesser (x, u) (y, v) ≡ nat_lt x y
lesser_by x u y v h = (λ i. nat_lt x y || (no x y h i && nat_lt u v)) ∙ none (nat_lt x y)
  where
    none : (t : Bool) → (t || false) ≡ t
    none true = refl
    none false = refl

lesser_self : (x u : ℕ) → is_lesser (x, u) (x, u) ≡ false
lesser_self x u = λ i. not_self x i || (yes x i && not_self u i)

-- three places once round, from the least
module _ (a b c : ℕ) (ab : a ≢ b) (bc : b ≢ c) (ca : c ≢ a) where
  abbrev es : List (ℕ × ℕ)
  es = three_edges a b c

  least_by : (e : ℕ × ℕ) (s t u : Bool) → is_lesser (a, b) e ≡ s → is_lesser (b, c) e ≡ t → is_lesser (c, a) e ≡ u → is_least_edge es e ≡ (not s && (not t && (not u && true)))
  least_by e s t u f g h = λ i. not (f i) && (not (g i) && (not (h i) && true))

  abbrev list_of : Triple → List ℕ
  list_of t = t.0 ∷ t.1 ∷ t.2 ∷ []

  -- where it begins, and so what it is from there
  abbrev Begins : Type 0
  Begins = turned_to (position_or_len (is_least_edge es) es) (a ∷ b ∷ c ∷ []) ≡ list_of (from_least (a, b, c))

  from_0 : a < b → a < c → Begins
  from_0 h k =
      let first : is_least_edge es (a, b) ≡ true =
      least_by (a, b) false false false (lesser_self a b) (lesser_by b c a b (λ e. ab (sym e)) ∙ le-ltb b a (omega (arith, h))) (lesser_by c a a b ca ∙ le-ltb c a (omega (arith, k))) in
      (λ i. turned_to (cond (not (first i)) (1 + position_or_len (is_least_edge es) ((b, c) ∷ (c, a) ∷ [])) 0) (a ∷ b ∷ c ∷ []))
      ∙ sym (λ i. list_of (if lt-ltb a b h i && lt-ltb a c k i then (a, b, c) else if nat_lt b c then (b, c, a) else (c, a, b)))

  from_1 : b < a → b < c → Begins
  from_1 h k =
      let first : is_least_edge es (a, b) ≡ false =
      least_by (a, b) false true (nat_lt c a) (lesser_self a b) (lesser_by b c a b (λ e. ab (sym e)) ∙ lt-ltb b a h) (lesser_by c a a b ca) in
      let second : is_least_edge es (b, c) ≡ true =
      least_by (b, c) false false false (lesser_by a b b c ab ∙ le-ltb a b (omega (arith, h))) (lesser_self b c) (lesser_by c a b c (λ e. bc (sym e)) ∙ le-ltb c b (omega (arith, k))) in
      (λ i. turned_to (cond (not (first i)) (1 + position_or_len (is_least_edge es) ((b, c) ∷ (c, a) ∷ [])) 0) (a ∷ b ∷ c ∷ []))
      ∙ (λ i. turned_to (1 + cond (not (second i)) (1 + position_or_len (is_least_edge es) ((c, a) ∷ [])) 0) (a ∷ b ∷ c ∷ []))
      ∙ sym (λ i. list_of (if le-ltb a b (omega (arith, h)) i && nat_lt a c then (a, b, c) else if lt-ltb b c k i then (b, c, a) else (c, a, b)))

  from_2 : c < a → c < b → Begins
  from_2 h k =
      let first : is_least_edge es (a, b) ≡ false =
      least_by (a, b) false (nat_lt b a) true (lesser_self a b) (lesser_by b c a b (λ e. ab (sym e))) (lesser_by c a a b ca ∙ lt-ltb c a h)
      ∙ by (nat_lt b a) in
      let second : is_least_edge es (b, c) ≡ false =
      least_by (b, c) (nat_lt a b) false true (lesser_by a b b c ab) (lesser_self b c) (lesser_by c a b c (λ e. bc (sym e)) ∙ lt-ltb c b k) ∙ by (nat_lt a b) in
      let third : is_least_edge es (c, a) ≡ true =
      least_by (c, a) false false false (lesser_by a b c a (λ e. ca (sym e)) ∙ le-ltb a c (omega (arith, h))) (lesser_by b c c a bc ∙ le-ltb b c (omega (arith, k))) (lesser_self c a) in
      (λ i. turned_to (cond (not (first i)) (1 + position_or_len (is_least_edge es) ((b, c) ∷ (c, a) ∷ [])) 0) (a ∷ b ∷ c ∷ []))
      ∙ (λ i. turned_to (1 + cond (not (second i)) (1 + position_or_len (is_least_edge es) ((c, a) ∷ [])) 0) (a ∷ b ∷ c ∷ []))
      ∙ (λ i. turned_to (1 + (1 + cond (not (third i)) 1 0)) (a ∷ b ∷ c ∷ []))
      ∙ sym (ap list_of (not_a (nat_lt a b) ∙ (λ i. if le-ltb b c (omega (arith, k)) i then (b, c, a) else (c, a, b))))
    where
      by : (t : Bool) → (not t && false) ≡ false
      by true = refl
      by false = refl

      not_a : (t : Bool) →
          ◌≡◌ {A = Triple} (if t && nat_lt a c then (a, b, c) else if nat_lt b c then (b, c, a) else (c, a, b)) (if nat_lt b c then (b, c, a) else (c, a, b))
      not_a true = λ i. if le-ltb a c (omega (arith, h)) i then (a, b, c) else if nat_lt b c then (b, c, a) else (c, a, b)
      not_a false = refl

  begins : Begins
  begins = elim (cases_lt a b) as (λ _. Begins) [
    | inl h ↦ elim (cases_lt a c) as (λ _. Begins) [
      | inl k ↦ from_0 h k
      | inr k ↦ (let l : c < a = less c a ca k in from_2 l (omega (arith, h, l)))
    ]
    | inr h ↦ elim (cases_lt b c) as (λ _. Begins) [
      | inl k ↦ from_1 (less b a (λ e. ab (sym e)) h) k
      | inr k ↦ (let l : b < a = less b a (λ e. ab (sym e)) h in let m : c < b = less c b (λ e. bc (sym e)) k in from_2 (omega (arith, l, m)) m)
    ]
  ]
    where
      less : (x y : ℕ) → x ≢ y → x ≤ y → x < y
      less x y h k = elim (cases_lt x y) as (λ _. x < y) [ inl l ↦ l | inr l ↦ (let e : x ≡ y = omega (arith, k, l) in absurd (h e)) ]

-- the doubled area of three places is their turn
area_turn : (at : Plane) (a b c : ℕ) → area at (a ∷ b ∷ c ∷ []) ≡ orient at a b c
area_turn at a b c = omega (arith, ints, turn_area (at a) (at b) (at c))

-- places that are no points of a line
and_left : (a b : Bool) → (a && b) ≡ true → a ≡ true
and_left true b h = refl
and_left false b h = h

and_right : (a b : Bool) → (a && b) ≡ true → b ≡ true
and_right true b h = h
and_right false b h = absurd (both_ways false refl h)

none_on : (n : List ℤ) (d : ℕ) → d < 3 → is_none n ≡ true → coordinate_of n d ≡ pos 0
none_on n zero low h =
    let a = int_eq (coordinate_of n 0) (pos 0) in
    let b = int_eq (coordinate_of n 1) (pos 0) in
    let c = int_eq (coordinate_of n 2) (pos 0) in (Decides-int_eq (coordinate_of n 0) (pos 0)).0 (and_left a b (and_left (a && b) c h))
none_on n (suc zero) low h =
    let a = int_eq (coordinate_of n 0) (pos 0) in
    let b = int_eq (coordinate_of n 1) (pos 0) in
    let c = int_eq (coordinate_of n 2) (pos 0) in (Decides-int_eq (coordinate_of n 1) (pos 0)).0 (and_right a b (and_left (a && b) c h))
none_on n (suc (suc zero)) low h =
    let a = int_eq (coordinate_of n 0) (pos 0) in
    let b = int_eq (coordinate_of n 1) (pos 0) in
    let c = int_eq (coordinate_of n 2) (pos 0) in (Decides-int_eq (coordinate_of n 2) (pos 0)).0 (and_right (a && b) c h)
none_on n (suc (suc (suc k))) low h = absurd (omega (arith, low))

not_in_line : (d : ℕ) (p q r : List ℤ) → d < 3 → turn (flat_point d p) (flat_point d q) (flat_point d r) ≢ pos 0 → are_in_line p q r ≡ false
not_in_line d p q r low some =
    false_from_ne_true (are_in_line p q r) (λ line. some (turn_on_axis d p q r low ∙ none_on (cross_product p q r) d low line))

-- two places that are apart, and not on a line with a third, are not its only neighbours on one
apart_members : (points : List (List ℤ)) (v y z : ℕ) (ns : List ℕ) → y ≢ z → are_in_line (point_at points v) (point_at points y) (point_at points z) ≡ false →
    are_in_line (point_at points v) (point_at points z) (point_at points y) ≡ false → list_any (λ n. y == n) ns ≡ true → list_any (λ n. z == n) ns ≡ true →
    are_two_in_line points v ns ≡ false
apart_members points v y z [] yz one other has_y has_z = refl
apart_members points v y z (a ∷ []) yz one other has_y has_z = refl
apart_members points v y z (a ∷ b ∷ []) yz one other has_y has_z = by (y == a) (y == b) (z == a) (z == b) refl refl refl refl has_y has_z
  where
    line : Bool
    line = are_in_line (point_at points v) (point_at points a) (point_at points b)

    ends : (s t u : Bool) → u ≡ false → (s && t && u) ≡ false
    ends true true u h = h
    ends true false u h = refl
    ends false t u h = refl

    out : (p q : ℕ) → p ≡ a → q ≡ b → are_in_line (point_at points v) (point_at points p) (point_at points q) ≡ false → are_two_in_line points v (a ∷ b ∷ []) ≡ false
    out p q e f h =
        ends (not (same_point (point_at points v) (point_at points a))) (not (same_point (point_at points v) (point_at points b)))
        (are_in_line (point_at points v) (point_at points a) (point_at points b))
        (sym (λ i. are_in_line (point_at points v) (point_at points (e i)) (point_at points (f i))) ∙ h)

    by : (ya yb za zb : Bool) → (y == a) ≡ ya → (y == b) ≡ yb → (z == a) ≡ za → (z == b) ≡ zb → (ya || (yb || false)) ≡ true → (za || (zb || false)) ≡ true →
        are_two_in_line points v (a ∷ b ∷ []) ≡ false
    by true yb true zb p q r s h k = absurd (yz (eqb-true y a p ∙ sym (eqb-true z a r)))
    by true yb false true p q r s h k = out y z (eqb-true y a p) (eqb-true z b s) one
    by true yb false false p q r s h k = absurd (both_ways false refl k)
    by false true true zb p q r s h k = out z y (eqb-true z a r) (eqb-true y b q) other
    by false true false true p q r s h k = absurd (yz (eqb-true y b q ∙ sym (eqb-true z b s)))
    by false true false false p q r s h k = absurd (both_ways false refl k)
    by false false za zb p q r s h k = absurd (both_ways false refl h)
apart_members points v y z (a ∷ b ∷ c ∷ ns) yz one other has_y has_z = refl

-- turns of exchanged places
turn_swapped : (a b c : ℤ × ℤ) → turn (swapped a) (swapped b) (swapped c) ≡ neg_ℤ (turn a b c)
turn_swapped a b c = omega (arith, ints)

turn_seen : (t : Bool) (a b c : ℤ × ℤ) → turn a b c ≡ pos 0 → turn (cond t (swapped a) a) (cond t (swapped b) b) (cond t (swapped c) c) ≡ pos 0
turn_seen true a b c h = turn_swapped a b c ∙ ap neg_ℤ h
turn_seen false a b c h = h

module _ (points : List (List ℤ)) (fs : List Face) (f : Face) (all : List (ℕ × ℕ)) (is : IsAlone points fs f) (has : All (Contains all) (round_edges f.rim)) where
  abbrev A : ℕ
  A = f.corners.0

  abbrev B : ℕ
  B = f.corners.1

  abbrev C : ℕ
  C = f.corners.2

  abbrev see : Plane
  see = seen points f

  abbrev axis : ℕ
  axis = drop_of points f

  abbrev flat : ℕ → ℤ × ℤ
  flat = plane_of axis (point_at points)

  axis_low : axis < 3
  axis_low = drop_below (point_at points A) (point_at points B) (point_at points C)

  -- its corners turn in the plane that drops the axis, in any order
  some : turn (flat A) (flat B) (flat C) ≢ pos 0
  some e =
      let l = turns points fs f is in
      let z = turn_seen (int_lt (coordinate_of (normal points f) axis) (pos 0)) (flat A) (flat B) (flat C) e in
      omega (arith, ints, l, z)

  some_acb : turn (flat A) (flat C) (flat B) ≢ pos 0
  some_acb e = some (omega (arith, ints, e, turn_area (flat A) (flat B) (flat C), turn_area (flat A) (flat C) (flat B)))

  some_bac : turn (flat B) (flat A) (flat C) ≢ pos 0
  some_bac e = some (omega (arith, ints, e, turn_area (flat A) (flat B) (flat C), turn_area (flat B) (flat A) (flat C)))

  some_bca : turn (flat B) (flat C) (flat A) ≢ pos 0
  some_bca e = some (omega (arith, ints, e, turn_area (flat A) (flat B) (flat C), turn_area (flat B) (flat C) (flat A)))

  some_cab : turn (flat C) (flat A) (flat B) ≢ pos 0
  some_cab e = some (omega (arith, ints, e, turn_area (flat A) (flat B) (flat C), turn_area (flat C) (flat A) (flat B)))

  some_cba : turn (flat C) (flat B) (flat A) ≢ pos 0
  some_cba e = some (omega (arith, ints, e, turn_area (flat A) (flat B) (flat C), turn_area (flat C) (flat B) (flat A)))

  -- its edges are known
  edges_has : All (Contains all) (three_edges A B C)
  edges_has = subst (λ (es : List (ℕ × ℕ)). All (Contains all) es) (ap round_edges is.rim) has

  knows : (e : ℕ × ℕ) → Contains all e → IsKnown all e
  knows e h = All-contains (IsKnown all) all e (all_known all) h

  known_ab : IsKnown all (A, B)
  known_ab = knows (A, B) (All-head (Contains all) (A, B) ((B, C) ∷ (C, A) ∷ []) edges_has)

  known_bc : IsKnown all (B, C)
  known_bc = knows (B, C) (All-head (Contains all) (B, C) ((C, A) ∷ []) (All-tail (Contains all) (A, B) ((B, C) ∷ (C, A) ∷ []) edges_has))

  known_ca : IsKnown all (C, A)
  known_ca =
      knows (C, A) (All-head (Contains all) (C, A) [] (All-tail (Contains all) (B, C) ((C, A) ∷ []) (All-tail (Contains all) (A, B) ((B, C) ∷ (C, A) ∷ []) edges_has)))

  -- so none of its corners is needless
  needs : (v y z : ℕ) → y ≢ z → turn (flat v) (flat y) (flat z) ≢ pos 0 → turn (flat v) (flat z) (flat y) ≢ pos 0 → list_any (λ n. y == n) (neighbours all v) ≡ true →
      list_any (λ n. z == n) (neighbours all v) ≡ true → not (is_needless points all v) ≡ true
  needs v y z yz one other has_y has_z =
      ap not (apart_members points v y z (neighbours all v) yz (not_in_line axis (point_at points v) (point_at points y) (point_at points z) axis_low one)
      (not_in_line axis (point_at points v) (point_at points z) (point_at points y) axis_low other) has_y has_z)

  whole : thinned points all f.rim ≡ A ∷ B ∷ C ∷ []
  whole =
      ap (thinned points all) is.rim
      ∙ keep_three (λ v. not (is_needless points all v)) A B C
      (needs A B C is.three.bc some some_acb known_ab.end_in known_ca.start_in) (needs B A C (λ e. is.three.ca (sym e)) some_bac some_bca known_ab.start_in known_bc.end_in)
      (needs C A B is.three.ab some_cab some_cba known_ca.end_in known_bc.start_in)

  -- its walk begins at its least corner
  no_hole : is_hole see (A ∷ B ∷ C ∷ []) ≡ false
  no_hole =
      let l = turns points fs f is in
      false_from_ne_true (is_hole see (A ∷ B ∷ C ∷ [])) (λ h. below (area see (A ∷ B ∷ C ∷ [])) h (omega (arith, ints, l, area_turn see A B C)))
    where
      below : (z : ℤ) → int_lt z (pos 0) ≡ true → pos 0 <ℤ z → ⊥
      below z h k = (let no : int_lt z (pos 0) ≡ false = grind (arith, ints) in both_ways (int_lt z (pos 0)) no h)

  walk_begun : begun see (A ∷ B ∷ C ∷ []) ≡ list_of A B C is.three.ab is.three.bc is.three.ca (from_least f.corners)
  walk_begun =
      let walk : List ℕ = A ∷ B ∷ C ∷ [] in
      let es = three_edges A B C in
      (λ i. turned_to (if no_hole i then position_or_len (looks_right see walk) (upto 3) else position_or_len (is_least_edge es) es) walk) ∙ begins A B C is.three.ab is.three.bc is.three.ca

  loops_are : loops points see all (alone_region f) ≡ list_of A B C is.three.ab is.three.bc is.three.ca (from_least f.corners) ∷ []
  loops_are = λ i. (ap (begun see) whole ∙ walk_begun) i ∷ []

  -- and is cut into one triangle
  cut_at : (x y z : ℕ) → turn (flat x) (flat y) (flat z) ≢ pos 0 → ◌≡◌ {A = Cut} (fill_of axis points ((x ∷ y ∷ z ∷ []) ∷ [])) (record { triples = (x, y, z) ∷ []; forced = 0 })
  cut_at x y z turned =
      let apart : int_eq (turn (flat x) (flat y) (flat z)) (pos 0) ≡ false =
      false_from_ne_true (int_eq (turn (flat x) (flat y) (flat z)) (pos 0)) (λ t. turned ((Decides-int_eq (turn (flat x) (flat y) (flat z)) (pos 0)).0 t)) in
      fill_of-loops axis points x y z 1 (flat x) (flat y) (flat z)
      (record { first = λ i l. ap flat (omega (arith, l)); second = λ i l. ap flat (omega (arith, l)); third = λ i l. ap flat (omega (arith, l)) })
      ∙ ap (λ t. record { triples = (x, y, z) ∷ []; forced = cond t 1 0 }) apart

  abbrev CutsTo : Triple → Type 0
  CutsTo t = ◌≡◌ {A = Cut} (fill_of axis points (list_of A B C is.three.ab is.three.bc is.three.ca t ∷ [])) (record { triples = t ∷ []; forced = 0 })

  cut_is : CutsTo (from_least f.corners)
  cut_is = by (nat_lt A B && nat_lt A C) (nat_lt B C)
    where
      by : (s t : Bool) → CutsTo (if s then f.corners else if t then (B, C, A) else (C, A, B))
      by true t = cut_at A B C some
      by false true = cut_at B C A some_bca
      by false false = cut_at C A B some_cab

  fills : filled points all (alone_side f) (alone_region f) ≡ alone_filling f
  fills =
      (λ i. let cut = fill_of axis points (loops_are i) in record { label = f.label; triples = cut.triples; forced = cut.forced })
      ∙ (λ i. record { label = f.label; triples = (cut_is i).triples; forced = (cut_is i).forced })

pub alone_fills_itself : AloneFillsItself
alone_fills_itself points fs f es is has = fills points fs f es is has
