-- A triangle that is alone in its plane is the region of its side.
use Rattle.std.specs.Prelude.{◌≡◌, ◌≢◌, ◌⊎◌, ℕ, zero, suc, ◌+◌, ◌<◌, ◌==◌, ℤ, pos, negsuc, neg_ℤ, ◌+ℤ◌, ◌-ℤ◌, ◌*ℤ◌, ◌<ℤ◌, List, [], ◌∷◌, ◌++◌, Bool, true, false, not, ◌&&◌, ◌||◌, cond, if◌then◌else◌, int_lt, bytes_eq, filter, get_or, length, map, nat_le, nat_lt}
use Rattle.std.specs.List.{All, flat_map, list_any, position_or_len}
use Rattle.std.specs.Ordering.{int_eq}
use Rattle.std.proofs.Common.{arith, refl, sym, ap, ◌∙◌, inl, inr}
use Rattle.std.proofs.lemmas.Int.{ints}
use Rattle.std.proofs.lemmas.List.Elements.{All-cons, All-head, All-nil, All-tail}
use Rattle.std.proofs.lemmas.List.Folds.{list_any_none}
use Rattle.std.proofs.lemmas.Slice.Eq.{bytes_eq-Decides}
use Rattle.chain_terms.specs.Chains.{boundary}
use Rattle.chain_terms.specs.Cycles.{cycles}
use Rattle.chain_terms.specs.Paths.{round_edges}
use Rattle.chain_terms.specs.Ranks.{start}
use Rattle.chain_terms.specs.Sums.{total, upto}
use Rattle.face_plane.specs.Planes.{Plane, orient}
use Rattle.sheet_terms.specs.Chains.{ChainEdge, chain, chain_edge, cross, crossed, crossing_point, grid_point, same_edge, upward}
use Rattle.sheet_terms.specs.Crossings.{coplanar, crossings_in, crossings_of}
use Rattle.sheet_terms.specs.Faces.{Face, is_left, labelled, labels_of, rim_edges, seen}
use Rattle.sheet_terms.specs.Kept.{free, free_after, has_edge, is_out, kept, remains}
use Rattle.sheet_terms.specs.Numbers.{Border, above_zero, border, crossing, dealt, differences, left_number, left_numbers, sheets}
use Rattle.sheet_terms.specs.Places.{firsts}
use Rattle.sheet_terms.specs.Regions.{Region, Side, edge_at, kept_region, region, regions, regions_within, side_of}
use Rattle.sheet_terms.specs.Walks.{ends_from, first_met, follower, goes_to, is_met_before, walks}
use Rattle.plan_laws.specs.Alone.{AloneHasNoCrossings, AloneIsItsRegion, IsAlone, alone_region, alone_side}
use Rattle.plan_laws.proofs.Beside.{crossing_back, from_inside, from_outside, turn_round}
use Rattle.plan_laws.proofs.Edges.{HasEnd, back_count, first_count, firsts_are, no, no_cross, three_edges, turned_count, up_from, up_is, up_to, yes}

-- lists of which no member passes
none_pass : {X : Type 0} (p : X → Bool) (xs : List X) → All (λ x. p x ≡ false) xs → filter p xs ≡ []
none_pass p [] all = refl
none_pass p (x ∷ xs) all =
    ap (λ b. cond b (x ∷ filter p xs) (filter p xs)) (All-head (λ y. p y ≡ false) x xs all) ∙ none_pass p xs (All-tail (λ y. p y ≡ false) x xs all)

keep_one : {X : Type 0} (p : X → Bool) (x : X) → p x ≡ true → filter p (x ∷ []) ≡ x ∷ []
keep_one p x h = λ i. cond (h i) (x ∷ []) []

pub keep_three : {X : Type 0} (p : X → Bool) (x y z : X) → p x ≡ true → p y ≡ true → p z ≡ true → filter p (x ∷ y ∷ z ∷ []) ≡ x ∷ y ∷ z ∷ []
keep_three p x y z e f g =
    (λ i. cond (e i) (x ∷ filter p (y ∷ z ∷ [])) (filter p (y ∷ z ∷ []))) ∙ (λ i. x ∷ cond (f i) (y ∷ filter p (z ∷ [])) (filter p (z ∷ []))) ∙ (λ i. x ∷ y ∷ cond (g i) (z ∷ []) [])

nothing : {X Y : Type 0} (h : X → List Y) (xs : List X) → All (λ x. h x ≡ []) xs → flat_map h xs ≡ []
nothing h [] all = refl
nothing h (x ∷ xs) all = (λ i. All-head (λ y. h y ≡ []) x xs all i ++ flat_map h xs) ∙ nothing h xs (All-tail (λ y. h y ≡ []) x xs all)

all_three : {X : Type 0} (P : X → Type 0) (x y z : X) → P x → P y → P z → All P (x ∷ y ∷ z ∷ [])
all_three P x y z p q r = All-cons P x (y ∷ z ∷ []) p (All-cons P y (z ∷ []) q (All-cons P z [] r (All-nil P)))

same_bytes : (l : List ℕ) → bytes_eq l l ≡ true
same_bytes l = (bytes_eq-Decides l l).1 refl

-- a triangle by its places
module _ (at : Plane) (a b c : ℕ) (ab : a ≢ b) (bc : b ≢ c) (ca : c ≢ a) where
  abbrev es : List (ℕ × ℕ)
  es = three_edges a b c

  -- the number of an edge of the chain
  abbrev num : (ℕ × ℕ) → ℤ
  num e = boundary es e.0 e.1

  -- an edge from its lesser place, with its number
  abbrev Runs : (ℕ × ℕ) → Type 0
  Runs d = ((upward d ≡ d) × (num (upward d) ≡ pos 1)) ⊎ ((upward d ≡ (d.1, d.0)) × (num (upward d) ≡ negsuc 0))

  runs_by : (d : ℕ × ℕ) → boundary es d.0 d.1 ≡ pos 1 → boundary es d.1 d.0 ≡ negsuc 0 → (upward d ≡ d) ⊎ (upward d ≡ (d.1, d.0)) → Runs d
  runs_by d one back (inl e) = inl (e, ap num e ∙ one)
  runs_by d one back (inr e) = inr (e, ap num e ∙ back)

  runs_ab : Runs (a, b)
  runs_ab = runs_by (a, b) (first_count a b c ab bc ca) (back_count a b c ab bc ca) (up_is a b)

  runs_bc : Runs (b, c)
  runs_bc = runs_by (b, c) (turned_count a b c b c ∙ first_count b c a bc ca ab) (turned_count a b c c b ∙ back_count b c a bc ca ab) (up_is b c)

  runs_ca : Runs (c, a)
  runs_ca = runs_by (c, a) (turned_count a b c c a ∙ turned_count b c a c a ∙ first_count c a b ca ab bc)
      (turned_count a b c a c ∙ turned_count b c a a c ∙ back_count c a b ca ab bc) (up_is c a)

  -- the chain of one label
  abbrev stored : (ℕ × ℕ) → ChainEdge
  stored d = record { edge = upward d; counts = num (upward d) ∷ [] }

  abbrev cs : List ChainEdge
  cs = stored (a, b) ∷ stored (b, c) ∷ stored (c, a) ∷ []

  abbrev some_count : ChainEdge → Bool
  some_count e = list_any (λ n. not (int_eq n (pos 0))) e.counts

  some_of : (d : ℕ × ℕ) → Runs d → some_count (stored d) ≡ true
  some_of d (inl r) = ap (λ n. not (int_eq n (pos 0)) || false) r.1
  some_of d (inr r) = ap (λ n. not (int_eq n (pos 0)) || false) r.1

  chain_is : filter some_count (map stored (firsts same_edge (upward (a, b) ∷ upward (b, c) ∷ upward (c, a) ∷ []))) ≡ filter some_count (map stored (upward (a, b) ∷ upward (b, c) ∷ upward (c, a) ∷ []))
  chain_is = ap (λ ds. filter some_count (map stored ds)) (firsts_are a b c ab bc ca)

  -- how often the ray from beside an edge crosses the chain
  one_crossing : (u v d : ℕ × ℕ) → Runs d → num (upward d) *ℤ crossing (at u.0) (at u.1) (at (upward d).0) (at (upward d).1) ≡ crossing (at u.0) (at u.1) (at d.0) (at d.1)
  one_crossing u v d (inl r) = (λ i. r.1 i *ℤ crossing (at u.0) (at u.1) (at (r.0 i).0) (at (r.0 i).1)) ∙ omega (arith, ints)
  one_crossing u v d (inr r) =
      let k = crossing_back (at u.0) (at u.1) (at d.0) (at d.1) in
      (λ i. r.1 i *ℤ crossing (at u.0) (at u.1) (at (r.0 i).0) (at (r.0 i).1)) ∙ omega (arith, ints, k)

  left_is : (u : ℕ × ℕ) →
      left_number at cs u 0 ≡ crossing (at u.0) (at u.1) (at a) (at b) +ℤ (crossing (at u.0) (at u.1) (at b) (at c) +ℤ (crossing (at u.0) (at u.1) (at c) (at a) +ℤ pos 0))
  left_is u = λ i. one_crossing u u (a, b) runs_ab i +ℤ (one_crossing u u (b, c) runs_bc i +ℤ (one_crossing u u (c, a) runs_ca i +ℤ pos 0))

  module _ (left : pos 0 <ℤ orient at a b c) where
    -- once from the left of an edge, not at all from its right
    abbrev ahead : (d : ℕ × ℕ) → Type 0
    ahead d = (left_number at cs d 0 ≡ pos 1) × (left_number at cs (d.1, d.0) 0 ≡ pos 0)

    ahead_ab : ahead (a, b)
    ahead_ab =
        let p = at a in
        let q = at b in
        let r = at c in
        (left_is (a, b) ∙ omega (arith, ints, from_inside p q r left), left_is (b, a) ∙ omega (arith, ints, from_outside p q r left))

    ahead_bc : ahead (b, c)
    ahead_bc =
        let p = at b in
        let q = at c in
        let r = at a in
        let l : pos 0 <ℤ orient at b c a = omega (arith, ints, left, turn_round (at a) (at b) (at c)) in
        (left_is (b, c) ∙ omega (arith, ints, from_inside p q r l), left_is (c, b) ∙ omega (arith, ints, from_outside p q r l))

    ahead_ca : ahead (c, a)
    ahead_ca =
        let p = at c in
        let q = at a in
        let r = at b in
        let l : pos 0 <ℤ orient at c a b = omega (arith, ints, left, turn_round (at a) (at b) (at c), turn_round (at b) (at c) (at a)) in
        (left_is (c, a) ∙ omega (arith, ints, from_inside p q r l), left_is (a, c) ∙ omega (arith, ints, from_outside p q r l))

    -- so one sheet lies at the left of each edge, and none at its right
    module _ (label : List ℕ) where
      abbrev labels : List (List ℕ)
      labels = label ∷ []

      border_of : (d : ℕ × ℕ) → Runs d → ahead d → edge_at 0 1 (border at labels cs (stored d)) ≡ d ∷ []
      border_of d (inl r) h =
          let n : left_number at cs (upward d) 0 ≡ pos 1 = ap (λ e. left_number at cs e 0) r.0 ∙ h.0 in
          (λ i. edge_at 0 1 (record { edge = r.0 i; left = sheets (n i ∷ []); right = sheets (differences (n i ∷ []) (r.1 i ∷ [])) }))
      border_of d (inr r) h =
          let n : left_number at cs (upward d) 0 ≡ pos 0 = ap (λ e. left_number at cs e 0) r.0 ∙ h.1 in
          (λ i. edge_at 0 1 (record { edge = r.0 i; left = sheets (n i ∷ []); right = sheets (differences (n i ∷ []) (r.1 i ∷ [])) }))

      borders_are : flat_map (edge_at 0 1) (map (border at labels cs) cs) ≡ es
      borders_are = λ i. border_of (a, b) runs_ab ahead_ab i ++ (border_of (b, c) runs_bc ahead_bc i ++ (border_of (c, a) runs_ca ahead_ca i ++ []))

  -- an edge is followed by the next one
  met_again : (s p n : ℕ) → first_met at s p n (n ∷ []) ≡ n
  met_again s p n = by (is_met_before at s p n n)
    where
      by : (t : Bool) → (if t then n else n) ≡ n
      by true = refl
      by false = refl

  from_a : ends_from es a ≡ b ∷ []
  from_a = ap (map (λ (e : ℕ × ℕ). e.1))
      ((λ i. cond (yes a i) ((a, b) ∷ filter (λ (e : ℕ × ℕ). e.0 == a) ((b, c) ∷ (c, a) ∷ [])) (filter (λ (e : ℕ × ℕ). e.0 == a) ((b, c) ∷ (c, a) ∷ [])))
      ∙ (λ i. (a, b) ∷ cond (no b a (λ e. ab (sym e)) i) ((b, c) ∷ filter (λ (e : ℕ × ℕ). e.0 == a) ((c, a) ∷ [])) (filter (λ (e : ℕ × ℕ). e.0 == a) ((c, a) ∷ [])))
      ∙ (λ i. (a, b) ∷ cond (no c a ca i) ((c, a) ∷ []) []))

  from_b : ends_from es b ≡ c ∷ []
  from_b = ap (map (λ (e : ℕ × ℕ). e.1))
      ((λ i. cond (no a b ab i) ((a, b) ∷ filter (λ (e : ℕ × ℕ). e.0 == b) ((b, c) ∷ (c, a) ∷ [])) (filter (λ (e : ℕ × ℕ). e.0 == b) ((b, c) ∷ (c, a) ∷ [])))
      ∙ (λ i. cond (yes b i) ((b, c) ∷ filter (λ (e : ℕ × ℕ). e.0 == b) ((c, a) ∷ [])) (filter (λ (e : ℕ × ℕ). e.0 == b) ((c, a) ∷ [])))
      ∙ (λ i. (b, c) ∷ cond (no c b (λ e. bc (sym e)) i) ((c, a) ∷ []) []))

  from_c : ends_from es c ≡ a ∷ []
  from_c = ap (map (λ (e : ℕ × ℕ). e.1))
      ((λ i. cond (no a c (λ e. ca (sym e)) i) ((a, b) ∷ filter (λ (e : ℕ × ℕ). e.0 == c) ((b, c) ∷ (c, a) ∷ [])) (filter (λ (e : ℕ × ℕ). e.0 == c) ((b, c) ∷ (c, a) ∷ [])))
      ∙ (λ i. cond (no b c bc i) ((b, c) ∷ filter (λ (e : ℕ × ℕ). e.0 == c) ((c, a) ∷ [])) (filter (λ (e : ℕ × ℕ). e.0 == c) ((c, a) ∷ [])))
      ∙ (λ i. cond (yes c i) ((c, a) ∷ []) []))

  goes : (p s n : ℕ) → ends_from es s ≡ n ∷ [] → goes_to at es (p, s) ≡ n
  goes p s n from = (λ i. first_met at s p (get_or (from i) 0 0) (from i)) ∙ met_again s p n

  place_0 : position_or_len (same_edge (a, b)) es ≡ 0
  place_0 = λ i. cond (not (yes a i && yes b i)) (1 + position_or_len (same_edge (a, b)) ((b, c) ∷ (c, a) ∷ [])) 0

  place_1 : position_or_len (same_edge (b, c)) es ≡ 1
  place_1 =
      (λ i. cond (not (no b a (λ e. ab (sym e)) i && (c == b))) (1 + position_or_len (same_edge (b, c)) ((b, c) ∷ (c, a) ∷ [])) 0)
      ∙ (λ i. 1 + cond (not (yes b i && yes c i)) (1 + position_or_len (same_edge (b, c)) ((c, a) ∷ [])) 0)

  place_2 : position_or_len (same_edge (c, a)) es ≡ 2
  place_2 =
      (λ i. cond (not (no c a ca i && (a == b))) (1 + position_or_len (same_edge (c, a)) ((b, c) ∷ (c, a) ∷ [])) 0)
      ∙ (λ i. 1 + cond (not (no c b (λ e. bc (sym e)) i && (a == c))) (1 + position_or_len (same_edge (c, a)) ((c, a) ∷ [])) 0)
      ∙ (λ i. 1 + (1 + cond (not (yes c i && yes a i)) 1 0))

  follows_0 : follower at es 0 ≡ 1
  follows_0 = ap (λ n. position_or_len (same_edge (b, n)) es) (goes a b c from_b) ∙ place_1

  follows_1 : follower at es 1 ≡ 2
  follows_1 = ap (λ n. position_or_len (same_edge (c, n)) es) (goes b c a from_c) ∙ place_2

  follows_2 : follower at es 2 ≡ 0
  follows_2 = ap (λ n. position_or_len (same_edge (a, n)) es) (goes c a b from_a) ∙ place_0

  -- so the walk goes once round
  pub walk_is : walks at es ≡ (a ∷ b ∷ c ∷ []) ∷ []
  walk_is = λ i. map (map (start es)) (cycles ((0, follows_0 i) ∷ (1, follows_1 i) ∷ (2, follows_2 i) ∷ []))

  -- none of its edges crosses another
  abbrev Misses : (ℕ × ℕ) → Type 0
  Misses d = All (λ (e : ChainEdge). cross at d e.edge ≡ false) cs

  misses_ab : Misses (upward (a, b))
  misses_ab = let d = upward (a, b) in
      all_three (λ (e : ChainEdge). cross at d e.edge ≡ false) (stored (a, b)) (stored (b, c)) (stored (c, a))
      (no_cross at d (upward (a, b)) a (up_from a b) (up_from a b)) (no_cross at d (upward (b, c)) b (up_to a b) (up_from b c)) (no_cross at d (upward (c, a)) a (up_from a b) (up_to c a))

  misses_bc : Misses (upward (b, c))
  misses_bc = let d = upward (b, c) in
      all_three (λ (e : ChainEdge). cross at d e.edge ≡ false) (stored (a, b)) (stored (b, c)) (stored (c, a))
      (no_cross at d (upward (a, b)) b (up_from b c) (up_to a b)) (no_cross at d (upward (b, c)) b (up_from b c) (up_from b c)) (no_cross at d (upward (c, a)) c (up_to b c) (up_from c a))

  misses_ca : Misses (upward (c, a))
  misses_ca = let d = upward (c, a) in
      all_three (λ (e : ChainEdge). cross at d e.edge ≡ false) (stored (a, b)) (stored (b, c)) (stored (c, a))
      (no_cross at d (upward (a, b)) a (up_to c a) (up_from a b)) (no_cross at d (upward (b, c)) c (up_from c a) (up_to b c)) (no_cross at d (upward (c, a)) c (up_from c a) (up_from c a))

  all_miss : All (λ (d : ChainEdge). Misses d.edge) cs
  all_miss = all_three (λ (d : ChainEdge). Misses d.edge) (stored (a, b)) (stored (b, c)) (stored (c, a)) misses_ab misses_bc misses_ca

  none_crossed : crossed at cs ≡ []
  none_crossed =
      let some : ChainEdge → Bool = λ d. list_any (λ (e : ChainEdge). cross at d.edge e.edge) cs in
      let none : All (λ (d : ChainEdge). some d ≡ false) cs =
      all_three (λ (d : ChainEdge). some d ≡ false) (stored (a, b)) (stored (b, c)) (stored (c, a))
      (list_any_none (λ (e : ChainEdge). cross at (upward (a, b)) e.edge) cs misses_ab)
      (list_any_none (λ (e : ChainEdge). cross at (upward (b, c)) e.edge) cs misses_bc)
      (list_any_none (λ (e : ChainEdge). cross at (upward (c, a)) e.edge) cs misses_ca) in
      ap (map (λ (d : ChainEdge). d.edge)) (none_pass some cs none)

  -- nor at a point of the grid
  module _ (points : List (List ℤ)) where
    no_point : (d e : ℕ × ℕ) → cross at d e ≡ false → crossing_point points at d e ≡ []
    no_point d e h = let n = orient at e.0 e.1 d.0 in
        (λ i. flat_map (λ (f : ℕ × ℕ). grid_point n (n -ℤ orient at e.0 e.1 d.1) (get_or points d.0 []) (get_or points d.1 [])) (cond (h i) (e ∷ []) []))

    no_points : (d : ℕ × ℕ) → Misses d → flat_map (λ (e : ChainEdge). crossing_point points at d e.edge) cs ≡ []
    no_points d h = nothing (λ (e : ChainEdge). crossing_point points at d e.edge) cs
        (λ k e low. no_point d (get_or cs k e).edge (h k e low))

    none_found : flat_map (λ (d : ChainEdge). flat_map (λ (e : ChainEdge). crossing_point points at d.edge e.edge) cs) cs ≡ []
    none_found = nothing (λ (d : ChainEdge). flat_map (λ (e : ChainEdge). crossing_point points at d.edge e.edge) cs) cs
        (λ k d low. no_points (get_or cs k d).edge (all_miss k d low))

-- a triangle alone
module _ (points : List (List ℤ)) (fs : List Face) (f : Face) (is : IsAlone points fs f) where
  abbrev A : ℕ
  A = f.corners.0

  abbrev B : ℕ
  B = f.corners.1

  abbrev C : ℕ
  C = f.corners.2

  abbrev see : Plane
  see = seen points f

  pub turns : pos 0 <ℤ orient see A B C
  turns = up (orient see A B C) is.left
    where
      up : (z : ℤ) → int_lt (pos 0) z ≡ true → pos 0 <ℤ z
      up z h = grind (arith, ints)

  -- its rim's edges, all of its label
  edges_are : rim_edges (f ∷ []) ≡ three_edges A B C
  edges_are = ap (λ r. round_edges r ++ []) is.rim

  own_label : labelled f.label (f ∷ []) ≡ f ∷ []
  own_label = keep_one (λ (g : Face). bytes_eq g.label f.label) f (same_bytes f.label)

  count_is : (e : ℕ × ℕ) → boundary (rim_edges (labelled f.label (f ∷ []))) e.0 e.1 ≡ boundary (three_edges A B C) e.0 e.1
  count_is e = ap (λ ds. boundary ds e.0 e.1) (ap rim_edges own_label ∙ edges_are)

  abbrev chain_alone : List ChainEdge
  chain_alone = cs see A B C is.three.ab is.three.bc is.three.ca

  chain_alone_is : chain (f.label ∷ []) (f ∷ []) ≡ chain_alone
  chain_alone_is =
      let ab = is.three.ab in
      let bc = is.three.bc in
      let ca = is.three.ca in
      let st = stored see A B C ab bc ca in
      (λ i. filter (λ (c : ChainEdge). list_any (λ n. not (int_eq n (pos 0))) c.counts)
      (map (λ (e : ℕ × ℕ). record { edge = e; counts = count_is e i ∷ [] }) (firsts same_edge (map upward (edges_are i)))))
      ∙ ap (λ ds. filter (some_count see A B C ab bc ca) (map (λ (e : ℕ × ℕ). record { edge = e; counts = num see A B C ab bc ca e ∷ [] }) ds)) (firsts_are A B C ab bc ca)
      ∙ keep_three (some_count see A B C ab bc ca) (st (A, B)) (st (B, C)) (st (C, A))
      (some_of see A B C ab bc ca (A, B) (runs_ab see A B C ab bc ca)) (some_of see A B C ab bc ca (B, C) (runs_bc see A B C ab bc ca))
      (some_of see A B C ab bc ca (C, A) (runs_ca see A B C ab bc ca))

  -- it is free, and not kept
  is_free : free see (f ∷ []) ≡ f ∷ []
  is_free =
      let bad = ap (crossed see) chain_alone_is ∙ none_crossed see A B C is.three.ab is.three.bc is.three.ca in
      let out : has_edge [] f ≡ false = list_any_none (λ (e : ℕ × ℕ). false) (round_edges f.rim) (λ k e low. refl) in
      (λ i. filter (λ (g : Face). not (has_edge (bad i) g)) (f ∷ [])) ∙ keep_one (λ (g : Face). not (has_edge [] g)) f (ap not out)

  none_kept : kept see (f ∷ []) ≡ []
  none_kept =
      let here : is_out (f ∷ []) f ≡ false = λ i. not (yes f.number i || false) in
      (λ i. let out = filter (is_out (is_free i)) (f ∷ []) in filter (remains see out) out)
      ∙ (λ i. let out : List Face = cond (here i) (f ∷ []) [] in filter (remains see out) out)

  -- so its side has one region, once round it
  region_is : regions see (f.label ∷ []) (f ∷ []) ≡ alone_region f ∷ []
  region_is =
      let ab = is.three.ab in
      let bc = is.three.bc in
      let ca = is.three.ca in
      (λ i. regions_within 1 see (f.label ∷ []) (map (border see (f.label ∷ []) (chain_alone_is i)) (chain_alone_is i)))
      ∙ (λ i. record { label = f.label; walks = walks see (borders_are see A B C ab bc ca turns f.label i) } ∷ [])
      ∙ (λ i. record { label = f.label; walks = walk_is see A B C ab bc ca i } ∷ [])
      ∙ (λ i. record { label = f.label; walks = sym is.rim i ∷ [] } ∷ [])

  side_alone : side_of points fs f ≡ alone_side f
  side_alone =
      (λ i. let own = is.own i in
      let stay = filter (λ (g : Face). is_left see g.corners) (kept see own) in
      record { face = f; regions = regions see (labels_of own) (free see own) ++ map kept_region stay; kept = length stay })
      ∙ (λ i. let stay = filter (λ (g : Face). is_left see g.corners) (none_kept i) in
      record { face = f; regions = regions see (f.label ∷ []) (is_free i) ++ map kept_region stay; kept = length stay })
      ∙ (λ i. record { face = f; regions = region_is i ++ []; kept = 0 })

  crossings_alone : crossings_in points fs f ≡ []
  crossings_alone =
      (λ i. crossings_of points f (chain (labels_of (is.own i)) (is.own i))) ∙ (λ i. crossings_of points f (chain_alone_is i))
      ∙ none_found see A B C is.three.ab is.three.bc is.three.ca points

pub alone_is_its_region : AloneIsItsRegion
alone_is_its_region points fs f is = side_alone points fs f is

pub alone_has_no_crossings : AloneHasNoCrossings
alone_has_no_crossings points fs f is = crossings_alone points fs f is
