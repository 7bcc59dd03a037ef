-- What rings keep while holes are joined to them, one after the other.
use Rattle.std.specs.Prelude.{◌≡◌, ◌≢◌, ℕ, zero, suc, ◌+◌, ◌*◌, ◌<◌, ◌≤◌, ◌⊎◌, ℤ, pos, ◌+ℤ◌, ◌≤ℤ◌, List, [], ◌∷◌}
use Rattle.std.specs.Prelude.{◌++◌, ◌==◌, length, get_or, set, take, drop, Option, Some, None}
use Rattle.std.specs.List.{All, concat}
use Rattle.std.proofs.Common.{arith, refl, sym, ap, subst, ◌∙◌, inl, inr}
use Rattle.std.proofs.lemmas.Int.{ints}
use Rattle.std.proofs.lemmas.Bool.{cases_eq, cases_lt, ne_eqb}
use Rattle.std.proofs.lemmas.List.{length-set, take_at, drop_at}
use Rattle.std.proofs.lemmas.List.Elements.{All-cons, All-head, All-tail, All-nil, All-set, All-get_or, All-same}
use Rattle.std.proofs.lemmas.List.Elements.{All-append, All-take, All-drop, All-weaker}
use Rattle.chain_terms.specs.Chains.{one_if}
use Rattle.chain_terms.specs.Odd.{IsOdd, along}
use Rattle.chain_terms.specs.Sums.{total}
use Rattle.chain_terms.specs.Paths.{round_edges}
use Rattle.chain_laws.specs.Counts.{one_if-false}
use Rattle.chain_laws.specs.Sums.{total-flat_map}
use Rattle.face_loops.specs.Segments.{AreDifferent}
use Rattle.face_plane.specs.Planes.{Plane, settled_plane}
use Rattle.face_plane.specs.Rings.{In, IsRing, vertex_at}
use Rattle.hole_joining.specs.declared.bridge.Bridge.{Bridge}
use Rattle.hole_joining.specs.Bridges.{is_clear_bridge, chosen_bridge, join, bridged, joined, join_holes}
use Rattle.hole_joining.specs.Holes.{is_ring, ring_list, hole_list}
use Rattle.hole_joining.specs.Laws.{AreFillable, AreLoops, IsJoining, KeepsLoops}
use Rattle.hole_joining.proofs.Choice.{LeadsTo, chosen_leads, no_bridge}
use Rattle.hole_joining.proofs.Turning.{once_round, round_turned, length-turned, often, often-cons, often-turned, in_often}
use Rattle.hole_joining.proofs.Joins.{vertex_within, join_total, length-join, often-join, ringy_join, ringy_turned}
use Rattle.hole_joining.proofs.Loops.{often_once, total-often, total-length, each_once, ringy_loops, told_total}
use Rattle.hole_joining.proofs.Loops.{length-hole_list, All-kept, All-hole_list, some_ring, settled_up}

-- how often a vertex stands in the lists
abbrev pub tally : ℕ → List (List ℕ) → ℤ
tally v ls = total (λ r. pos (often v r)) ls

tally_low : (v : ℕ) (ls : List (List ℕ)) → pos 0 ≤ℤ tally v ls
tally_low v [] = omega (arith, ints)
tally_low v (l ∷ ls) = omega (arith, ints, tally_low v ls)

-- no less than in one of them
tally_one : (v : ℕ) (ls : List (List ℕ)) (i : ℕ) → i < length ls → pos (often v (get_or ls i [])) ≤ℤ tally v ls
tally_one v [] i h = absurd (omega (arith, h))
tally_one v (l ∷ ls) zero h = omega (arith, ints, tally_low v ls)
tally_one v (l ∷ ls) (suc i) h = omega (arith, ints, tally_one v ls i (omega (arith, h)))

-- one list put in the place of another
pub total-set : (g : List ℕ → ℤ) (ls : List (List ℕ)) (i : ℕ) (x : List ℕ) → i < length ls →
    total g (set ls i x) +ℤ g (get_or ls i []) ≡ total g ls +ℤ g x
total-set g [] i x h = absurd (omega (arith, h))
total-set g (l ∷ ls) zero x h = omega (arith, ints)
total-set g (l ∷ ls) (suc i) x h = omega (arith, ints, total-set g ls i x (omega (arith, h)))

-- the vertex at a place stands in the list
get_in : (r : List ℕ) (i : ℕ) → i < length r → In (get_or r i 0) r
get_in [] i h = absurd (omega (arith, h))
get_in (x ∷ r) zero h = inl refl
get_in (x ∷ r) (suc i) h = inr (get_in r i (omega (arith, h)))

vertex_in : (r : List ℕ) (i : ℕ) → i < length r → In (vertex_at r i) r
vertex_in r i h = subst (λ v. In v r) (sym (vertex_within r i h)) (get_in r i h)

-- a vertex that stands in neither list is neither of two that do
ends_none : (v a b : ℕ) (xs ys : List ℕ) → In a xs → In b ys → often v xs ≡ 0 → often v ys ≡ 0 → often v (a ∷ b ∷ []) ≡ 0
ends_none v a b xs ys p q none less = omega (arith, often-cons v a (b ∷ []), often-cons v b [], other a xs p none, other b ys q less)
  where
    other : (a : ℕ) (xs : List ℕ) → In a xs → often v xs ≡ 0 → one_if (a == v) ≡ 0
    other a xs p none = elim (cases_eq a v) as (λ _. one_if (a == v) ≡ 0) [
      | inl e ↦ absurd (omega (arith, in_often a xs p, ap (λ u. often u xs) e, none))
      | inr n ↦ one_if-false (a == v) (ne_eqb a v n)
    ]

-- rings, and holes that can be joined to them: none without a ring, and no vertex of a hole in a ring or in another hole
pub record CanJoin (rings holes : List (List ℕ)) : Type 0 where
  pub ringy : All IsRing rings
  pub ringy_holes : All IsRing holes
  pub some : 0 < length holes → 0 < length rings
  pub apart : (v : ℕ) → (tally v holes ≡ pos 0) ⊎ ((tally v holes ≡ pos 1) × (tally v rings ≡ pos 0))

-- a bridge's end is not the hole's start
ends_differ : (rings later : List (List ℕ)) (hole : List ℕ) (b : Bridge) → CanJoin rings (hole ∷ later) → LeadsTo rings b →
    vertex_at (get_or rings b.ring []) b.place ≢ vertex_at hole 0
ends_differ rings later hole b can leads e =
    let h = vertex_at hole 0 in
    let long = (All-head IsRing hole later can.ringy_holes).long in
    let here = in_often h hole (vertex_in hole 0 (omega (arith, long))) in
    let there =
    in_often (vertex_at (get_or rings b.ring []) b.place) (get_or rings b.ring []) (vertex_in (get_or rings b.ring []) b.place leads.place) in
    let same = ap (λ v. often v (get_or rings b.ring [])) e in
    elim (can.apart h) as (λ _. ⊥) [
      | inl none ↦ omega (arith, ints, none, here, tally_low h later)
      | inr one ↦ omega (arith, ints, one.1, tally_one h rings b.ring leads.ring, there, same)
    ]

-- the rings after a hole is joined
abbrev pub after_join : List (List ℕ) → List ℕ → Bridge → List (List ℕ)
after_join rings hole b = set rings b.ring (join (get_or rings b.ring []) b.place hole)

-- rings and holes with a place or more, and no hole without a ring: there always is a bridge
pub record HaveBridges (rings holes : List (List ℕ)) : Type 0 where
  pub full_rings : All (λ r. 0 < length r) rings
  pub full_holes : All (λ h. 0 < length h) holes
  pub some : 0 < length holes → 0 < length rings

always_bridge : (at : Plane) (rings later : List (List ℕ)) (hole : List ℕ) → HaveBridges rings (hole ∷ later) →
    chosen_bridge at rings hole later ≡ None → ⊥
always_bridge at rings later hole have e =
    no_bridge at (vertex_at hole 0) (is_clear_bridge at rings hole later) rings (have.some (omega arith)) have.full_rings e

-- also for the next hole
have_next : (rings later : List (List ℕ)) (hole : List ℕ) (b : Bridge) → HaveBridges rings (hole ∷ later) → LeadsTo rings b →
    HaveBridges (after_join rings hole b) later
have_next rings later hole b have leads =
    let next = join (get_or rings b.ring []) b.place hole in
    record {
      full_rings = All-set (λ r. 0 < length r) rings b.ring next (omega (arith, length-join (get_or rings b.ring []) b.place hole)) have.full_rings;
      full_holes = All-tail (λ h. 0 < length h) hole later have.full_holes;
      some = λ h. omega (arith, length-set rings b.ring next, leads.ring);
    }

-- rings have places
bridges_of_can : (rings holes : List (List ℕ)) → CanJoin rings holes → HaveBridges rings holes
bridges_of_can rings holes can = record {
  full_rings = All-weaker IsRing (λ r. 0 < length r) (λ r h. omega (arith, h.long)) rings can.ringy;
  full_holes = All-weaker IsRing (λ r. 0 < length r) (λ r h. omega (arith, h.long)) holes can.ringy_holes;
  some = can.some;
}

-- the next hole can be joined to them
can_join_next : (rings later : List (List ℕ)) (hole : List ℕ) (b : Bridge) → CanJoin rings (hole ∷ later) → LeadsTo rings b →
    CanJoin (after_join rings hole b) later
can_join_next rings later hole b can leads =
    let ring = get_or rings b.ring [] in
    let is_ring = All-get_or IsRing rings b.ring [] leads.ring can.ringy in
    let is_hole = All-head IsRing hole later can.ringy_holes in
    record {
      ringy = All-set IsRing rings b.ring (join ring b.place hole)
          (ringy_join ring b.place hole is_ring is_hole leads.place (ends_differ rings later hole b can leads)) can.ringy;
      ringy_holes = All-tail IsRing hole later can.ringy_holes;
      some = λ h. omega (arith, length-set rings b.ring (join ring b.place hole), leads.ring);
      apart = λ v.
          (let put = total-set (λ r. pos (often v r)) rings b.ring (join ring b.place hole) leads.ring in
          let in_join = often-join v ring b.place hole in
          let one = tally_one v rings b.ring leads.ring in
          let none =
          ends_none v (vertex_at hole 0) (vertex_at ring b.place) hole ring (vertex_in hole 0 (omega (arith, is_hole.long)))
          (vertex_in ring b.place leads.place) in
          elim (can.apart v) as (λ _. (tally v later ≡ pos 0) ⊎ ((tally v later ≡ pos 1) × (tally v (after_join rings hole b) ≡ pos 0))) [
            | inl empty ↦ inl (omega (arith, ints, empty, tally_low v later))
            | inr full ↦
                elim (cases_lt 0 (often v hole))
                as (λ _. (tally v later ≡ pos 0) ⊎ ((tally v later ≡ pos 1) × (tally v (after_join rings hole b) ≡ pos 0))) [
                  | inl here ↦ inl (omega (arith, ints, full.0, here, tally_low v later))
                  | inr gone ↦
                      let no_hole : often v hole ≡ 0 = omega (arith, gone) in
                      let no_ring : often v ring ≡ 0 = omega (arith, ints, one, full.1) in
                      inr (omega (arith, ints, full.0, no_hole), omega (arith, ints, put, in_join, none no_hole no_ring, no_hole, no_ring, full.1))
                ]
          ]);
    }

-- what joining keeps of rings and holes
pub record Keeps (rings holes out : List (List ℕ)) : Type 0 where
  pub count : length out ≡ length rings
  pub below : (n : ℕ) → All (λ r. All (λ v. v < n) r) rings → All (λ r. All (λ v. v < n) r) holes → All (λ r. All (λ v. v < n) r) out
  pub places : total (λ r. pos (length r)) out ≡ (total (λ r. pos (length r)) rings +ℤ total (λ r. pos (length r)) holes) +ℤ pos (2 * length holes)
  pub sums : (f : ℕ → ℕ → ℤ) → IsOdd f → total (once_round (along f)) out ≡ total (once_round (along f)) rings +ℤ total (once_round (along f)) holes

-- a sum once round a ring with a hole joined
join_sum : (f : ℕ → ℕ → ℤ) → IsOdd f → (r : List ℕ) (i : ℕ) (hole : List ℕ) → i < length r → 0 < length hole →
    once_round (along f) (join r i hole) ≡ once_round (along f) hole +ℤ once_round (along f) r
join_sum f odd r i [] within some = absurd (omega (arith, some))
join_sum f odd r i (h ∷ k) within some = omega (arith, ints, join_total (along f) r i h k within, odd.turns (get_or r i 0) h)

-- vertices that a ring and a hole have, the joined ring has
All-join : (P : ℕ → Type 0) (r : List ℕ) (i : ℕ) (hole : List ℕ) → i < length r → 0 < length hole → All P r → All P hole → All P (join r i hole)
All-join P r i hole within some ring all =
    let start = subst P (sym (vertex_within hole 0 some)) (All-get_or P hole 0 0 some all) in
    let end = subst P (sym (vertex_within r i within)) (All-get_or P r i 0 within ring) in
    All-append P (take (i + 1) r ++ hole ++ (vertex_at hole 0 ∷ vertex_at r i ∷ [])) (drop (i + 1) r)
    (All-append P (take (i + 1) r ++ hole) (vertex_at hole 0 ∷ vertex_at r i ∷ [])
    (All-append P (take (i + 1) r) hole (All-take P (i + 1) r ring) all)
    (All-cons P (vertex_at hole 0) (vertex_at r i ∷ []) start (All-cons P (vertex_at r i) [] end (All-nil P))))
    (All-drop P (i + 1) r ring)

-- one hole more
keeps_one : (rings later out : List (List ℕ)) (hole : List ℕ) (b : Bridge) → 0 < length hole → LeadsTo rings b →
    Keeps (after_join rings hole b) later out → Keeps rings (hole ∷ later) out
keeps_one rings later out hole b some leads k =
    let ring = get_or rings b.ring [] in
    let next = join ring b.place hole in
    record {
      count = k.count ∙ length-set rings b.ring next;
      below = λ n all more.
          (let P : ℕ → Type 0 = λ v. v < n in
          let Q : List ℕ → Type 0 = λ r. All (λ v. v < n) r in
          k.below n (All-set Q rings b.ring next
          (All-join P ring b.place hole leads.place some (All-get_or Q rings b.ring [] leads.ring all) (All-head Q hole later more)) all)
          (All-tail Q hole later more));
      places = omega (arith, ints, k.places, total-set (λ r. pos (length r)) rings b.ring next leads.ring, length-join ring b.place hole);
      sums = λ f odd.
          omega (
            arith,
            ints,
            k.sums f odd,
            total-set (once_round (along f)) rings b.ring next leads.ring,
            join_sum f odd ring b.place hole leads.place some,
          );
    }

-- every hole joined
pub joined_keeps : (at : Plane) (rings holes : List (List ℕ)) → HaveBridges rings holes → Keeps rings holes (joined at rings holes)
joined_keeps at rings [] have = record { count = refl; below = λ n all more. all; places = omega (arith, ints); sums = λ f odd. omega (arith, ints) }
joined_keeps at rings (hole ∷ later) have = by_bridge (chosen_bridge at rings hole later) refl (λ r h. joined_keeps at r later h)
  where
    by_bridge : (o : Option Bridge) → chosen_bridge at rings hole later ≡ o →
        ((r : List (List ℕ)) → HaveBridges r later → Keeps r later (joined at r later)) →
        Keeps rings (hole ∷ later) (joined at (bridged hole rings o) later)
    by_bridge None e rest = absurd (always_bridge at rings later hole have e)
    by_bridge (Some b) e rest =
        let leads = chosen_leads at (vertex_at hole 0) rings (is_clear_bridge at rings hole later) b e in
        keeps_one rings later (joined at (after_join rings hole b) later) hole b (All-head (λ h. 0 < length h) hole later have.full_holes) leads
        (rest (after_join rings hole b) (have_next rings later hole b have leads))

-- where no vertex of a hole stands anywhere else, the rings stay rings
pub joined_ringy : (at : Plane) (rings holes : List (List ℕ)) → CanJoin rings holes → All IsRing (joined at rings holes)
joined_ringy at rings [] can = can.ringy
joined_ringy at rings (hole ∷ later) can = by_bridge (chosen_bridge at rings hole later) refl (λ r c. joined_ringy at r later c)
  where
    by_bridge : (o : Option Bridge) → chosen_bridge at rings hole later ≡ o →
        ((r : List (List ℕ)) → CanJoin r later → All IsRing (joined at r later)) → All IsRing (joined at (bridged hole rings o) later)
    by_bridge None e rest = absurd (always_bridge at rings later hole (bridges_of_can rings (hole ∷ later) can) e)
    by_bridge (Some b) e rest =
        let leads = chosen_leads at (vertex_at hole 0) rings (is_clear_bridge at rings hole later) b e in
        rest (after_join rings hole b) (can_join_next rings later hole b can leads)

-- the lists of which one list is made have what it has
All-parts : (P : ℕ → Type 0) (ls : List (List ℕ)) → All P (concat ls) → All (λ l. All P l) ls
All-parts P [] all = All-nil (λ (l : List ℕ). All P l)
All-parts P (l ∷ ls) all =
    let rest = concat ls in
    let front = All-same P l (take (length l) (l ++ rest)) (sym (take_at l rest (length l) refl)) (All-take P (length l) (l ++ rest) all) in
    let back = All-same P rest (drop (length l) (l ++ rest)) (sym (drop_at l rest (length l) refl)) (All-drop P (length l) (l ++ rest) all) in
    All-cons (λ (l : List ℕ). All P l) l ls front (All-parts P ls back)

-- rings and holes of loops that can be filled can be joined
pub can_join : (at : Plane) (loops : List (List ℕ)) (points : ℕ) → AreFillable loops points →
    CanJoin (ring_list (settled_plane at loops) loops) (hole_list (settled_plane at loops) loops)
can_join at loops points f =
    let p = settled_plane at loops in
    let ringy = ringy_loops loops f.long (each_once loops (often_once (concat loops) f.different)) in
    record {
      ringy = All-kept IsRing (is_ring p) loops ringy;
      ringy_holes = All-hole_list p IsRing (λ l h. ringy_turned _ l h) loops ringy;
      some = λ h. some_ring p loops (settled_up at loops) (omega (arith, h, length-hole_list p loops));
      apart = λ v.
          (let told = told_total p (λ r. pos (often v r)) (λ l. ap pos (often-turned v _ l)) loops in
          let once = often_once (concat loops) f.different v in
          let all = total-often v loops in
          let rings = total-often v (ring_list p loops) in
          let holes = total-often v (hole_list p loops) in
          elim (cases_lt 0 (often v (concat (hole_list p loops))))
          as (λ _. (tally v (hole_list p loops) ≡ pos 0) ⊎ ((tally v (hole_list p loops) ≡ pos 1) × (tally v (ring_list p loops) ≡ pos 0))) [
            | inl some ↦ inr (omega (arith, ints, told, once, all, rings, holes, some), omega (arith, ints, told, once, all, rings, holes, some))
            | inr none ↦ inl (omega (arith, ints, holes, none))
          ]);
    }

-- there is a bridge for each hole among loops of three vertices or more
have_bridges : (at : Plane) (loops : List (List ℕ)) → All (λ l. 3 ≤ length l) loops →
    HaveBridges (ring_list (settled_plane at loops) loops) (hole_list (settled_plane at loops) loops)
have_bridges at loops long =
    let p = settled_plane at loops in
    let some = All-weaker (λ l. 3 ≤ length l) (λ l. 0 < length l) (λ l h. omega (arith, h)) loops long in
    record {
      full_rings = All-kept (λ l. 0 < length l) (is_ring p) loops some;
      full_holes = All-hole_list p (λ l. 0 < length l) (λ l h. subst (λ n. 0 < n) (sym (length-turned _ l)) h) loops some;
      some = λ h. some_ring p loops (settled_up at loops) (omega (arith, h, length-hole_list p loops));
    }

-- what joining makes of any loops
pub keeps_loops : (at : Plane) (loops : List (List ℕ)) (points : ℕ) → AreLoops loops points →
    KeepsLoops (settled_plane at loops) loops (join_holes (settled_plane at loops) loops) points
keeps_loops at loops points f =
    let p = settled_plane at loops in
    let out = join_holes p loops in
    let k = joined_keeps p (ring_list p loops) (hole_list p loops) (have_bridges at loops f.long) in
    let Q : List ℕ → Type 0 = λ r. All (λ v. v < points) r in
    let below = All-parts (λ v. v < points) loops f.below in
    record {
      count = k.count;
      below = k.below points (All-kept Q (is_ring p) loops below)
          (All-hole_list p Q
          (λ l h. All-append (λ v. v < points) (drop _ l) (take _ l) (All-drop (λ v. v < points) _ l h) (All-take (λ v. v < points) _ l h)) loops below);
      places = omega (
        arith,
        ints,
        k.places,
        total-length out,
        total-length loops,
        told_total p (λ r. pos (length r)) (λ l. ap pos (length-turned _ l)) loops,
        length-hole_list p loops,
      );
      chain = λ g odd. total-flat_map (along g) round_edges out ∙ k.sums g odd
          ∙ told_total p (once_round (along g)) (λ l. round_turned (along g) _ l) loops ∙ sym (total-flat_map (along g) round_edges loops);
    }

-- loops that can be filled are such loops
pub loops_of : (loops : List (List ℕ)) (points : ℕ) → AreFillable loops points → AreLoops loops points
loops_of loops points f = record { long = f.long; below = f.below; few = f.few }

-- and loops whose vertices differ can be filled
pub fillable_of : (loops : List (List ℕ)) (points : ℕ) → AreLoops loops points → AreDifferent (concat loops) → AreFillable loops points
fillable_of loops points f different = record { long = f.long; different = different; below = f.below; few = f.few }

-- what joining makes of these
pub is_joining : (at : Plane) (loops : List (List ℕ)) (points : ℕ) → AreFillable loops points →
    IsJoining (settled_plane at loops) loops (join_holes (settled_plane at loops) loops) points
is_joining at loops points f =
    let p = settled_plane at loops in
    let k = keeps_loops at loops points (loops_of loops points f) in
    record {
      count = k.count;
      ringy = joined_ringy p (ring_list p loops) (hole_list p loops) (can_join at loops points f);
      below = k.below;
      places = k.places;
      chain = k.chain;
    }
