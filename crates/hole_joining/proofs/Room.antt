-- Rings are so short that all holes fit into each.
use Rattle.std.specs.Prelude.{◌≡◌, ℕ, ◌+◌, ◌*◌, ◌^◌, ◌<◌, ◌≤◌, pos, List, [], ◌∷◌, ◌++◌, length, get_or, drop, Option, Some, None}
use Rattle.std.specs.List.{All, concat}
use Rattle.std.proofs.Common.{arith, refl, sym, subst, ap}
use Rattle.std.proofs.lemmas.Int.{ints}
use Rattle.std.proofs.lemmas.List.{length-append, length-set, at_drop_more}
use Rattle.std.proofs.lemmas.List.Elements.{All-cons, All-head, All-tail, All-nil, All-set, All-get_or, All-weaker}
use Rattle.chain_terms.specs.Paths.{round_edges}
use Rattle.chain_laws.proofs.Paths.{length-round_edges}
use Rattle.mesh_terms.specs.Limits.{most_halfedges}
use Rattle.face_plane.specs.Planes.{Plane}
use Rattle.face_plane.specs.Rings.{vertex_at}
use Rattle.hole_joining.specs.declared.bridge.Bridge.{Bridge}
use Rattle.hole_joining.specs.Bridges.{edges_of, join, bridged, chosen_bridge, is_clear_bridge, joined_one}
use Rattle.hole_joining.specs.Holes.{is_ring, ring_list, hole_list}
use Rattle.hole_joining.specs.Laws.{AreLoops}
use Rattle.hole_joining.specs.Room.{added}
use Rattle.hole_joining.proofs.Choice.{chosen_leads}
use Rattle.hole_joining.proofs.Turning.{length-turned}
use Rattle.hole_joining.proofs.Joins.{length-join}
use Rattle.hole_joining.proofs.Loops.{total-length, told_total, All-kept, All-hole_list}

-- what the holes from one on add
added_on : (holes : List (List ℕ)) (k : ℕ) → k < length holes → added (drop k holes) ≡ length (get_or holes k []) + 2 + added (drop (k + 1) holes)
added_on holes k within = at_drop_more added holes k [] within

-- room for all holes from one on is room for that one
pub room_here : (m : ℕ) (rings holes : List (List ℕ)) (k : ℕ) → k < length holes → All (λ r. length r + added (drop k holes) < m) rings →
    All (λ r. length r + length (get_or holes k []) + 2 < m) rings
room_here m rings holes k within few =
    All-weaker (λ r. length r + added (drop k holes) < m) (λ r. length r + length (get_or holes k []) + 2 < m)
    (λ r h. omega (arith, h, added_on holes k within)) rings few

-- and once that one is joined there is room for the others
pub room_next : (m : ℕ) (at : Plane) (rings holes now : List (List ℕ)) (k : ℕ) → k < length holes →
    All (λ r. length r + added (drop k holes) < m) rings → now ≡ joined_one at rings (get_or holes k []) (drop (k + 1) holes) →
    All (λ r. length r + added (drop (k + 1) holes) < m) now
room_next m at rings holes now k within few e = subst (All Later) (sym e) (by_bridge (chosen_bridge at rings hole later) refl)
  where
    hole : List ℕ
    hole = get_or holes k []

    later : List (List ℕ)
    later = drop (k + 1) holes

    Later : List ℕ → Type 0
    Later r = length r + added (drop (k + 1) holes) < m

    others : All Later rings
    others = All-weaker (λ r. length r + added (drop k holes) < m) Later (λ r h. omega (arith, h, added_on holes k within)) rings few

    by_bridge : (o : Option Bridge) → chosen_bridge at rings hole later ≡ o → All Later (bridged hole rings o)
    by_bridge None c = others
    by_bridge (Some b) c =
        let leads = chosen_leads at (vertex_at hole 0) rings (is_clear_bridge at rings hole later) b c in
        let ring = get_or rings b.ring [] in
        let here = All-get_or (λ r. length r + added (drop k holes) < m) rings b.ring [] leads.ring few in
        let there : Later (join ring b.place hole) = omega (arith, here, added_on holes k within, length-join ring b.place hole) in
        All-set Later rings b.ring (join ring b.place hole) there others

-- and there is still a ring, and none is empty
pub some_next : (at : Plane) (rings later now : List (List ℕ)) (hole : List ℕ) → now ≡ joined_one at rings hole later → 0 < length rings →
    All (λ r. 0 < length r) rings → (0 < length now) × All (λ r. 0 < length r) now
some_next at rings later now hole e one long =
    subst (λ (l : List (List ℕ)). (0 < length l) × All (λ r. 0 < length r) l) (sym e) (by_bridge (chosen_bridge at rings hole later))
  where
    by_bridge : (o : Option Bridge) → (0 < length (bridged hole rings o)) × All (λ r. 0 < length r) (bridged hole rings o)
    by_bridge None = (one, long)
    by_bridge (Some b) =
        let next = join (get_or rings b.ring []) b.place hole in (
          omega (arith, one, length-set rings b.ring next),
          All-set (λ r. 0 < length r) rings b.ring next (omega (arith, length-join (get_or rings b.ring []) b.place hole)) long,
        )

-- all that holes add
added_is : (holes : List (List ℕ)) → added holes ≡ length (concat holes) + 2 * length holes
added_is [] = refl
added_is (h ∷ hs) = omega (arith, length-append h (concat hs), added_is hs)

three_each : (ls : List (List ℕ)) → All (λ l. 3 ≤ length l) ls → 3 * length ls ≤ length (concat ls)
three_each [] long = omega arith
three_each (l ∷ ls) long =
    let here = All-head (λ (l : List ℕ). 3 ≤ length l) l ls long in
    omega (arith, here, length-append l (concat ls), three_each ls (All-tail (λ (l : List ℕ). 3 ≤ length l) l ls long))

all_within : (ls : List (List ℕ)) (n : ℕ) → length (concat ls) ≤ n → All (λ r. length r ≤ n) ls
all_within [] n h = All-nil (λ (r : List ℕ). length r ≤ n)
all_within (l ∷ ls) n h =
    let all =
    length-append l (concat ls) in All-cons (λ (r : List ℕ). length r ≤ n) l ls (omega (arith, all, h)) (all_within ls n (omega (arith, all, h)))

long_holes : (p : Plane) (loops : List (List ℕ)) → All (λ l. 3 ≤ length l) loops → All (λ l. 3 ≤ length l) (hole_list p loops)
long_holes p loops long = All-hole_list p (λ l. 3 ≤ length l) (λ l h. subst (λ n. 3 ≤ n) (sym (length-turned _ l)) h) loops long

-- loops leave room
pub room : (p : Plane) (loops : List (List ℕ)) (points : ℕ) → AreLoops loops points →
    All (λ r. length r + added (hole_list p loops) ≤ 100000000) (ring_list p loops)
room p loops points f =
    let rings = ring_list p loops in let holes = hole_list p loops in
    let told = told_total p (λ r. pos (length r)) (λ l. ap pos (length-turned _ l)) loops in
    let three = three_each holes (long_holes p loops f.long) in
    let sum : length (concat rings) + length (concat holes) ≡ length (concat loops) =
    omega (arith, ints, told, total-length rings, total-length holes, total-length loops) in
    let few : length (concat rings) + added holes ≤ 100000000 = omega (arith, added_is holes, three, sum, f.few) in
    All-weaker (λ r. length r ≤ length (concat rings)) (λ r. length r + added holes ≤ 100000000) (λ r h. omega (arith, h, few)) rings
    (all_within rings (length (concat rings)) (omega arith))

pub has_room : (p : Plane) (loops rings holes : List (List ℕ)) (points : ℕ) → AreLoops loops points → rings ≡ ring_list p loops →
    holes ≡ hole_list p loops → All (λ r. length r + added holes < 2 ^ 32) rings
has_room p loops rings holes points f e g =
    subst (λ (rs : List (List ℕ)). All (λ r. length r + added holes < 2 ^ 32) rs) (sym e)
    (All-weaker (λ r. length r + added (hole_list p loops) ≤ 100000000) (λ r. length r + added holes < 2 ^ 32)
    (λ r h. omega (arith, h, ap added g)) (ring_list p loops) (room p loops points f))

-- and no ring or hole is empty
pub some_rings : (p : Plane) (loops : List (List ℕ)) (points : ℕ) → AreLoops loops points → All (λ r. 0 < length r) (ring_list p loops)
some_rings p loops points f =
    All-weaker (λ r. 3 ≤ length r) (λ r. 0 < length r) (λ r h. omega (arith, h)) (ring_list p loops)
    (All-kept (λ (l : List ℕ). 3 ≤ length l) (is_ring p) loops f.long)

pub some_holes : (p : Plane) (loops : List (List ℕ)) (points : ℕ) → AreLoops loops points → All (λ h. 0 < length h) (hole_list p loops)
some_holes p loops points f =
    All-weaker (λ r. 3 ≤ length r) (λ r. 0 < length r) (λ r h. omega (arith, h)) (hole_list p loops) (long_holes p loops f.long)

-- there is an edge for each place
length-edges : (ls : List (List ℕ)) → length (edges_of ls) ≡ length (concat ls)
length-edges [] = refl
length-edges (l ∷ ls) = omega (arith, length-append (round_edges l) (edges_of ls), length-append l (concat ls), length-round_edges l, length-edges ls)

-- loops have few edges
pub few_edges : (p : Plane) (loops rings holes : List (List ℕ)) (points : ℕ) → AreLoops loops points → rings ≡ ring_list p loops →
    holes ≡ hole_list p loops → length (edges_of rings ++ edges_of holes) ≤ most_halfedges
few_edges p loops rings holes points f e g =
    let told = told_total p (λ r. pos (length r)) (λ l. ap pos (length-turned _ l)) loops in
    omega (
      arith,
      ints,
      told,
      total-length (ring_list p loops),
      total-length (hole_list p loops),
      total-length loops,
      length-append (edges_of rings) (edges_of holes),
      length-edges rings,
      length-edges holes,
      ap (λ (ls : List (List ℕ)). length (concat ls)) e,
      ap (λ (ls : List (List ℕ)). length (concat ls)) g,
      f.few,
    )
