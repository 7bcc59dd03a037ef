-- The corners of the triangles that fill planes are places of the rims: what holds of all places of the rims of a plane holds of them, where none is forced.
use Rattle.std.specs.Prelude.{◌≡◌, ◌⊎◌, ℕ, zero, suc, ◌+◌, ◌-◌, ◌%◌, ◌<◌, ◌≤◌, ◌==◌, ℤ, pos, min, max, List, [], ◌∷◌, ◌++◌, true, false, Bool, cond, not, ◌&&◌, if◌then◌else◌, nat_le, nat_lt, drop, filter, get_or, length, map, set, take, Option, Some, None}
use Rattle.std.specs.List.{All, flat_map, list_any, position_or_len}
use Rattle.std.proofs.Common.{arith, refl, sym, ap, subst, ◌∙◌, inl, inr, int_eq}
use Rattle.std.proofs.lemmas.Bool.{cases_Bool, cases_lt, cond_both, eqb-true}
use Rattle.std.proofs.lemmas.List.Elements.{All-append, All-cons, All-drop, All-filter, All-head, All-map, All-nil, All-set, All-tail, All-take, All-weaker}
use Rattle.chain_terms.specs.Cycles.{cycles, cycles_within, end_from, follow, on_end, put_first, without_from}
use Rattle.chain_terms.specs.Paths.{last_of, path, round_edges}
use Rattle.chain_terms.specs.Ranks.{start}
use Rattle.chain_terms.specs.Sums.{up_from, upto}
use Rattle.chain_laws.proofs.Places.{get_or-up_from, length-up_from}
use Rattle.face_plane.specs.Planes.{Plane}
use Rattle.face_plane.specs.Rings.{vertex_at, without_place}
use Rattle.hole_joining.specs.Bridges.{bridged, chosen_bridge, is_clear_bridge, join, join_holes, joined}
use Rattle.hole_joining.specs.Holes.{comes_first, from_start, hole_list, hole_start, is_hole, is_ring, put_all, put_hole, ring_list, turned_to}
use Rattle.hole_joining.specs.Laws.{settled_in}
use Rattle.hole_joining.specs.declared.bridge.Bridge.{Bridge}
use Rattle.hole_joining.proofs.Choice.{chosen_leads}
use Rattle.mesh_terms.specs.Meshes.{Triple}
use Rattle.ring_cutting.specs.Cuts.{cut_of, cut_place, cut_ring, triple_at}
use Rattle.triangulate.specs.Fills.{cuts, fill_of}
use Rattle.sheet_terms.specs.Chains.{chain, chain_edge, crossed, same_edge, upward}
use Rattle.sheet_terms.specs.Crossings.{coplanar}
use Rattle.sheet_terms.specs.Faces.{Face, drop_of, in_plane, is_left, labels_of, rim_edges, seen}
use Rattle.sheet_terms.specs.Filled.{begun, beginning, comes_before, filled, loops}
use Rattle.sheet_terms.specs.Kept.{free, free_after, has_edge, is_out, kept, remains}
use Rattle.sheet_terms.specs.Needless.{is_needless, thinned}
use Rattle.sheet_terms.specs.Numbers.{Border, border}
use Rattle.sheet_terms.specs.Places.{firsts, firsts_after}
use Rattle.sheet_terms.specs.Regions.{Region, Side, edge_at, kept_region, region, regions, regions_within, side_of}
use Rattle.sheet_terms.specs.Walks.{follower, walks}
use Rattle.sheet_laws.proofs.Joined.{hole_list_some}
use Rattle.sheet_laws.proofs.Rims.{All-ordered}
use Rattle.sheet_laws.proofs.Unforced.{rings_uncut}

-- numbers below n
pub upto_below : (n : ℕ) → All (λ k. k < n) (upto n)
upto_below n k d low = let inside : k < n = omega (arith, low, length-up_from 0 n) in omega (arith, get_or-up_from 0 n k d inside, inside)

-- what holds of all members of some lists holds of those that are put together
pub All-flat : {X Y : Type 0} (P : Y → Type 0) (h : X → List Y) (xs : List X) → All (λ x. All P (h x)) xs → All P (flat_map h xs)
All-flat P h [] all = All-nil P
All-flat {X = X} P h (x ∷ xs) all =
    let Q : X → Type 0 = λ x. All P (h x) in All-append P (h x) (flat_map h xs) (All-head Q x xs all) (All-flat P h xs (All-tail Q x xs all))

-- the first members of each kind are members
pub All-firsts : {X : Type 0} (P : X → Type 0) (like : X → X → Bool) (before xs : List X) → All P xs → All P (firsts_after like before xs)
All-firsts P like before [] all = All-nil P
All-firsts P like before (x ∷ xs) all =
    let rest = All-firsts P like (before ++ x ∷ []) xs (All-tail P x xs all) in
    cond_both (list_any (like x) before) [] (x ∷ []) (λ l. All P (l ++ firsts_after like (before ++ x ∷ []) xs)) (λ _. rest)
    (λ _. All-cons P x (firsts_after like (before ++ x ∷ []) xs) (All-head P x xs all) rest)

-- what holds of the starts of all edges holds of the members of their cycles
module _ (Q : ℕ → Type 0) where
  abbrev pub Starts : List (ℕ × ℕ) → Type 0
  Starts es = All (λ e. Q e.0) es

  found_on : (v : ℕ) (es : List (ℕ × ℕ)) → Starts es → (o : Option ℕ) → end_from v es ≡ o → (w : ℕ) → o ≡ Some w → Q v
  found_on v [] all o is w some = absurd cc
  found_on v (e ∷ es) all o is w some = by (cases_Bool (e.0 == v)) (λ p. found_on v es (All-tail (λ e. Q e.0) e es all) o p w some)
    where
      by : ((e.0 == v) ≡ true) ⊎ ((e.0 == v) ≡ false) → (end_from v es ≡ o → Q v) → Q v
      by (inl y) go = subst Q (eqb-true e.0 v y) (All-head (λ e. Q e.0) e es all)
      by (inr n) go = go (sym (ap (λ b. cond b (Some e.1) (end_from v es)) n) ∙ is)

  rest_on : (v : ℕ) (es : List (ℕ × ℕ)) → Starts es → Starts (without_from v es)
  rest_on v [] all = all
  rest_on v (e ∷ es) all =
      let more = All-tail (λ e. Q e.0) e es all in
      cond_both (e.0 == v) es (e ∷ without_from v es) Starts (λ _. more)
      (λ _. All-cons (λ e. Q e.0) e (without_from v es) (All-head (λ e. Q e.0) e es all) (rest_on v es more))

  -- the way, and the edges that are left
  abbrev pub IsWay : (List ℕ × List (ℕ × ℕ)) → Type 0
  IsWay r = All Q r.0 × Starts r.1

  follow_on : (n v : ℕ) (es : List (ℕ × ℕ)) → Starts es → IsWay (follow n v es)
  follow_on zero v es all = (All-nil Q, all)
  follow_on (suc n) v es all = by (end_from v es) refl (λ w. follow_on n w (without_from v es) (rest_on v es all))
    where
      by : (o : Option ℕ) → end_from v es ≡ o → ((w : ℕ) → IsWay (follow n w (without_from v es))) →
          IsWay (on_end o ([], es) (λ w. put_first v (follow n w (without_from v es))))
      by None is go = (All-nil Q, all)
      by (Some w) is go =
          let r = follow n w (without_from v es) in (All-cons Q v r.0 (found_on v es all (Some w) is w refl) (go w).0, (go w).1)

  cycles_on : (n : ℕ) (es : List (ℕ × ℕ)) → Starts es → All (All Q) (cycles_within n es)
  cycles_on zero es all = All-nil (All Q)
  cycles_on (suc n) [] all = All-nil (All Q)
  cycles_on (suc n) (e ∷ es) all =
      let r = follow (length es) e.1 es in
      let way = follow_on (length es) e.1 es (All-tail (λ e. Q e.0) e es all) in
      All-cons (All Q) (e.0 ∷ r.0) (cycles_within n r.1) (All-cons Q e.0 r.0 (All-head (λ e. Q e.0) e es all) way.0) (cycles_on n r.1 way.1)

-- a ring without one of its places, or as it was
shorter_by : (i : ℕ) (r : List ℕ) → length r ≤ length (without_place i r) + 1
shorter_by i [] = omega arith
shorter_by zero (x ∷ r) = omega arith
shorter_by (suc i) (x ∷ r) =
    let next : suc i + 1 ≡ suc (i + 1) = omega arith in
    let same : without_place (suc i) (x ∷ r) ≡ x ∷ without_place i r = ap (λ k. take (suc i) (x ∷ r) ++ drop k (x ∷ r)) next in
    omega (arith, shorter_by i r, ap length same)

module _ (P : ℕ → Type 0) where
  -- a member of a list, counted round it
  at_place : (r : List ℕ) → All P r → 0 < length r → (i : ℕ) → P (vertex_at r i)
  at_place r all some i = all (i % length r) 0 (round_below i (length r) some)
    where
      round_below : (i n : ℕ) → 0 < n → i % n < n
      round_below i zero some = absurd (omega (arith, some))
      round_below i (suc n) some = omega arith

  -- it holds of each corner
  pub record IsOn (t : Triple) : Type 0 where
    pub a : P t.0
    pub b : P t.1
    pub c : P t.2

  three_on : (r : List ℕ) → All P r → 0 < length r → (i : ℕ) → IsOn (triple_at r i)
  three_on r all some i = record { a = at_place r all some (i + (length r - 1)); b = at_place r all some i; c = at_place r all some (i + 1) }

  -- of the triangles of a ring
  cut_on : (at : Plane) (n : ℕ) (r : List ℕ) → n + 3 ≤ length r → All P r → All IsOn (cut_of at n r).triples
  cut_on at zero r long all =
      let some : 0 < length r = omega (arith, long) in
      All-cons IsOn (vertex_at r 0, vertex_at r 1, vertex_at r 2) []
      (record { a = at_place r all some 0; b = at_place r all some 1; c = at_place r all some 2 }) (All-nil IsOn)
  cut_on at (suc n) r long all =
      let i = cut_place at r in
      All-cons IsOn (triple_at r i) (cut_of at n (without_place i r)).triples (three_on r all (omega (arith, long)) i)
      (cut_on at n (without_place i r) (omega (arith, long, shorter_by i r)) (All-append P (take i r) (drop (i + 1) r) (All-take P i r all) (All-drop P (i + 1) r all)))

  cuts_on : (at : Plane) (rs : List (List ℕ)) → All (λ r. 3 ≤ length r) rs → All (All P) rs → All IsOn (cuts at rs).triples
  cuts_on at [] long all = All-nil IsOn
  cuts_on at (r ∷ rs) long all =
      let here = All-head (λ r. 3 ≤ length r) r rs long in
      All-append IsOn (cut_ring at r).triples (cuts at rs).triples (cut_on at (length r - 3) r (omega (arith, here)) (All-head (All P) r rs all))
      (cuts_on at rs (All-tail (λ r. 3 ≤ length r) r rs long) (All-tail (All P) r rs all))

  -- of the vertices of rings to which holes are joined
  turned_on : (i : ℕ) (l : List ℕ) → All P l → All P (turned_to i l)
  turned_on i l all = All-append P (drop i l) (take i l) (All-drop P i l all) (All-take P i l all)

  join_on : (ring : List ℕ) (i : ℕ) (hole : List ℕ) → 0 < length ring → 0 < length hole → All P ring → All P hole → All P (join ring i hole)
  join_on ring i hole some more here there =
      let front = take (i + 1) ring in
      let two = vertex_at hole 0 ∷ vertex_at ring i ∷ [] in
      let both = All-append P front hole (All-take P (i + 1) ring here) there in
      let bridge =
      All-cons P (vertex_at hole 0) (vertex_at ring i ∷ []) (at_place hole there more 0)
      (All-cons P (vertex_at ring i) [] (at_place ring here some i) (All-nil P)) in
      All-append P (front ++ hole ++ two) (drop (i + 1) ring) (All-append P (front ++ hole) two both bridge) (All-drop P (i + 1) ring here)

  joined_on : (at : Plane) (rings holes : List (List ℕ)) → All (λ h. 0 < length h) holes → All (All P) rings → All (All P) holes → All (All P) (joined at rings holes)
  joined_on at rings [] some all holed = all
  joined_on at rings (hole ∷ later) some all holed =
      by (chosen_bridge at rings hole later) refl
      (λ r more. joined_on at r later (All-tail (λ h. 0 < length h) hole later some) more (All-tail (All P) hole later holed))
    where
      by : (o : Option Bridge) → chosen_bridge at rings hole later ≡ o → ((r : List (List ℕ)) → All (All P) r → All (All P) (joined at r later)) →
          All (All P) (joined at (bridged hole rings o) later)
      by None is go = go rings all
      by (Some b) is go =
          let leads = chosen_leads at (vertex_at hole 0) rings (is_clear_bridge at rings hole later) b is in
          let ring = get_or rings b.ring [] in
          go (set rings b.ring (join ring b.place hole))
          (All-set (All P) rings b.ring (join ring b.place hole)
          (join_on ring b.place hole (omega (arith, leads.place)) (All-head (λ h. 0 < length h) hole later some)
          (all b.ring [] leads.ring) (All-head (All P) hole later holed)) all)

  put_on : (at : Plane) (hole : List ℕ) (ks : List (List ℕ)) → All P hole → All (All P) ks → All (All P) (put_hole at hole ks)
  put_on at hole [] here all = All-cons (All P) hole [] here all
  put_on at hole (k ∷ ks) here all =
      let rest = put_on at hole ks here (All-tail (All P) k ks all) in
      cond_both (comes_first at (vertex_at hole 0) (vertex_at k 0)) (hole ∷ k ∷ ks) (k ∷ put_hole at hole ks) (λ l. All (All P) l)
      (λ _. All-cons (All P) hole (k ∷ ks) here all) (λ _. All-cons (All P) k (put_hole at hole ks) (All-head (All P) k ks all) rest)

  puts_on : (at : Plane) (sorted ks : List (List ℕ)) → All (All P) sorted → All (All P) ks → All (All P) (put_all at sorted ks)
  puts_on at sorted [] all more = all
  puts_on at sorted (k ∷ ks) all more =
      puts_on at (put_hole at k sorted) ks (put_on at k sorted (All-head (All P) k ks more) all) (All-tail (All P) k ks more)

  holes_on : (at : Plane) (ls : List (List ℕ)) → All (All P) ls → All (All P) (hole_list at ls)
  holes_on at ls all =
      let holes = filter (is_hole at) ls in
      puts_on at [] (map (from_start at) holes) (All-nil (All P))
      (All-map (All P) (from_start at) holes (All-weaker (All P) (λ l. All P (from_start at l)) (λ l here. turned_on (position_or_len (λ v. v == hole_start at l) l) l here)
      holes (All-filter (is_hole at) (All P) ls all)))

  -- of the triangles of a filling
  pub fill_on : (drop_axis : ℕ) (points : List (List ℤ)) (ls : List (List ℕ)) → (fill_of drop_axis points ls).forced ≡ 0 → All (All P) ls →
      All IsOn (fill_of drop_axis points ls).triples
  fill_on drop_axis points ls none all =
      let at = settled_in drop_axis points ls in
      cuts_on at (join_holes at ls) (rings_uncut at (join_holes at ls) none).long
      (joined_on at (ring_list at ls) (hole_list at ls) (hole_list_some at ls) (All-filter (is_ring at) (All P) ls all) (holes_on at ls all))

  -- of the walks of a region as they are filled
  loops_on : (points : List (List ℤ)) (at : Plane) (es : List (ℕ × ℕ)) (r : Region) → All (All P) r.walks → All (All P) (loops points at es r)
  loops_on points at es r all =
      let start : List ℕ → List ℕ = λ walk. begun at (thinned points es walk) in
      All-ordered (All P) comes_before (map start r.walks)
      (All-map (All P) start r.walks (All-weaker (All P) (λ w. All P (start w))
      (λ w here. turned_on (beginning at (thinned points es w)) (thinned points es w) (All-filter (λ v. not (is_needless points es v)) P w here)) r.walks all))

  -- so of the triangles of a region
  pub region_on : (points : List (List ℤ)) (es : List (ℕ × ℕ)) (s : Side) (r : Region) → (filled points es s r).forced ≡ 0 → All (All P) r.walks →
      All IsOn (filled points es s r).triples
  region_on points es s r none all =
      let ls = loops points (seen points s.face) es r in fill_on (drop_of points s.face) points ls none (loops_on points (seen points s.face) es r all)

  -- of both ends
  pub record Ends (e : ℕ × ℕ) : Type 0 where
    pub from : P e.0
    pub to : P e.1

  -- walks along edges
  walks_on : (at : Plane) (es : List (ℕ × ℕ)) → All Ends es → All (All P) (walks at es)
  walks_on at es all =
      let n = length es in
      let pairs : List (ℕ × ℕ) = map (λ i. (i, follower at es i)) (upto n) in
      let low : All (λ (e : ℕ × ℕ). e.0 < n) pairs = All-map (λ (e : ℕ × ℕ). e.0 < n) (λ i. (i, follower at es i)) (upto n) (upto_below n) in
      All-map (All P) (map (start es)) (cycles pairs)
      (All-weaker (All (λ i. i < n)) (λ c. All P (map (start es) c))
      (λ c all_low. All-map P (start es) c (All-weaker (λ i. i < n) (λ i. P (start es i)) (λ i below. (all i (0, 0) below).from) c all_low)) (cycles pairs)
      (cycles_on (λ i. i < n) (length pairs) pairs low))

  edge_on : (j k : ℕ) (b : Border) → Ends b.edge → All Ends (edge_at j k b)
  edge_on j k b here =
      let x = get_or b.left j 0 in
      let y = get_or b.right j 0 in
      let back : ℕ × ℕ = (b.edge.1, b.edge.0) in
      let turned : All Ends (if nat_le k y && nat_lt x k then back ∷ [] else []) =
      cond_both (nat_le k y && nat_lt x k) (back ∷ []) [] (λ l. All Ends l)
      (λ _. All-cons Ends back [] (record { from = here.to; to = here.from }) (All-nil Ends)) (λ _. All-nil Ends) in
      cond_both (nat_le k x && nat_lt y k) (b.edge ∷ []) (if nat_le k y && nat_lt x k then back ∷ [] else []) (λ l. All Ends l)
      (λ _. All-cons Ends b.edge [] here (All-nil Ends)) (λ _. turned)

  -- the walks of all regions of a side
  abbrev pub HaveWalks : List Region → Type 0
  HaveWalks rs = All (λ r. All (All P) r.walks) rs

  within_on : (n : ℕ) (at : Plane) (labels : List (List ℕ)) (bs : List Border) → All (λ b. Ends b.edge) bs → HaveWalks (regions_within n at labels bs)
  within_on n at labels bs all =
      All-flat (λ r. All (All P) r.walks) (λ j. map (region at labels bs j) (up_from 1 n)) (upto (length labels))
      (λ j d low. All-map (λ r. All (All P) r.walks) (region at labels bs (get_or (upto (length labels)) j d)) (up_from 1 n)
      (λ k e below.
      let i = get_or (upto (length labels)) j d in
      let m = get_or (up_from 1 n) k e in
      walks_on at (flat_map (edge_at i m) bs)
      (All-flat Ends (edge_at i m) bs (All-weaker (λ b. Ends b.edge) (λ b. All Ends (edge_at i m b)) (λ b here. edge_on i m b here) bs all))))

  -- edges round a list
  path_on : (x : ℕ) (r : List ℕ) → P x → All P r → All Ends (path x r)
  path_on x [] here all = All-nil Ends
  path_on x (y ∷ r) here all =
      All-cons Ends (x, y) (path y r) (record { from = here; to = All-head P y r all }) (path_on y r (All-head P y r all) (All-tail P y r all))

  last_on : (x : ℕ) (r : List ℕ) → P x → All P r → P (last_of x r)
  last_on x [] here all = here
  last_on x (y ∷ r) here all = last_on y r (All-head P y r all) (All-tail P y r all)

  round_on : (r : List ℕ) → All P r → All Ends (round_edges r)
  round_on [] all = All-nil Ends
  round_on (x ∷ r) all =
      let here = All-head P x r all in
      let more = All-tail P x r all in
      All-append Ends (path x r) ((last_of x r, x) ∷ []) (path_on x r here more)
      (All-cons Ends (last_of x r, x) [] (record { from = last_on x r here more; to = here }) (All-nil Ends))

  -- the rims of triangles
  abbrev pub HaveRims : List Face → Type 0
  HaveRims fs = All (λ f. All P f.rim) fs

  upward_on : (e : ℕ × ℕ) → Ends e → Ends (upward e)
  upward_on e here = elim (cases_lt e.0 e.1) as (λ _. Ends (upward e)) [
    | inl low ↦ record { from = subst P (sym (min_below low)) here.from; to = subst P (sym (max_above low)) here.to }
    | inr past ↦ record { from = subst P (sym (min_other past)) here.to; to = subst P (sym (max_other past)) here.from }
  ]
    where
      min_below : e.0 < e.1 → min e.0 e.1 ≡ e.0
      min_below low = omega (arith, low)

      max_above : e.0 < e.1 → max e.0 e.1 ≡ e.1
      max_above low = omega (arith, low)

      min_other : e.1 ≤ e.0 → min e.0 e.1 ≡ e.1
      min_other past = omega (arith, past)

      max_other : e.1 ≤ e.0 → max e.0 e.1 ≡ e.0
      max_other past = omega (arith, past)

  pub chain_on : (labels : List (List ℕ)) (fs : List Face) → HaveRims fs → All (λ c. Ends c.edge) (chain labels fs)
  chain_on labels fs all =
      let es = rim_edges fs in
      let ups = map upward es in
      let rims = All-flat Ends (λ f. round_edges f.rim) fs (All-weaker (λ f. All P f.rim) (λ f. All Ends (round_edges f.rim)) (λ f here. round_on f.rim here) fs all) in
      let upped = All-map Ends upward es (All-weaker Ends (λ e. Ends (upward e)) upward_on es rims) in
      All-filter (λ c. list_any (λ n. not (int_eq n (pos 0))) c.counts) (λ c. Ends c.edge) (map (chain_edge labels fs) (firsts same_edge ups))
      (All-map (λ c. Ends c.edge) (chain_edge labels fs) (firsts same_edge ups) (All-firsts Ends same_edge [] ups upped))

  regions_on : (at : Plane) (labels : List (List ℕ)) (fs : List Face) → HaveRims fs → HaveWalks (regions at labels fs)
  regions_on at labels fs all =
      let cs = chain labels fs in
      within_on (length fs) at labels (map (border at labels cs) cs) (All-map (λ b. Ends b.edge) (border at labels cs) cs (chain_on labels fs all))

  free_on : (n : ℕ) (at : Plane) (labels : List (List ℕ)) (fs : List Face) → HaveRims fs → HaveRims (free_after n at labels fs)
  free_on zero at labels fs all = all
  free_on (suc n) at labels fs all =
      let bad = crossed at (chain labels fs) in
      let good : Face → Bool = λ f. not (has_edge bad f) in free_on n at labels (filter good fs) (All-filter good (λ f. All P f.rim) fs all)

  -- a side of a plane whose triangles have such rims
  pub side_in : (points : List (List ℤ)) (fs : List Face) (s : Face) → HaveRims (coplanar points fs s) → HaveWalks (side_of points fs s).regions
  side_in points fs s mine =
      let On : Face → Type 0 = λ f. All P f.rim in
      let at = seen points s in
      let own = coplanar points fs s in
      let out = filter (is_out (free at own)) own in
      let stay = filter (λ f. is_left at f.corners) (kept at own) in
      let stays : HaveRims stay =
      All-filter (λ f. is_left at f.corners) On (kept at own)
      (All-filter (remains at out) On out (All-filter (is_out (free at own)) On own mine)) in
      All-append (λ r. All (All P) r.walks) (regions at (labels_of own) (free at own)) (map kept_region stay)
      (regions_on at (labels_of own) (free at own) (free_on (length own) at (labels_of own) own mine))
      (All-map (λ r. All (All P) r.walks) kept_region stay
      (All-weaker On (λ f. All (All P) (kept_region f).walks) (λ f here. All-cons (All P) f.rim [] here (All-nil (All P))) stay stays))

  pub side_on : (points : List (List ℤ)) (fs : List Face) (s : Face) → HaveRims fs → HaveWalks (side_of points fs s).regions
  side_on points fs s all = side_in points fs s (All-filter (in_plane points s) (λ f. All P f.rim) fs all)
