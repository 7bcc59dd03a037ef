-- Where no triangle of a filling is forced, each of its loops has three places or more.
use Rattle.std.specs.Prelude.{◌≡◌, ℕ, ◌<◌, ◌≤◌, ℤ, pos, ◌+ℤ◌, ◌<ℤ◌, ◌≤ℤ◌, List, [], ◌∷◌, Bool, true, cond, length, get_or, set, filter, map}
use Rattle.std.specs.Prelude.{int_le, int_lt, Option, Some, None}
use Rattle.std.specs.List.{All}
use Rattle.std.proofs.Common.{arith, refl, sym, ap, subst, ◌∙◌, inl, inr}
use Rattle.std.proofs.lemmas.Bool.{cases_Bool, cases_eq, cond_both}
use Rattle.std.proofs.lemmas.Int.{ints}
use Rattle.std.proofs.lemmas.List.{get_or-set_other, get_or-set_same, get_or_default, length-set}
use Rattle.std.proofs.lemmas.List.Elements.{All-cons, All-head, All-nil, All-tail}
use Rattle.chain_terms.specs.Sums.{total}
use Rattle.mesh_terms.specs.Meshes.{Triple}
use Rattle.face_plane.specs.Planes.{Plane, across, area, orient}
use Rattle.face_plane.specs.Rings.{vertex_at}
use Rattle.hole_joining.specs.declared.bridge.Bridge.{Bridge}
use Rattle.hole_joining.specs.Bridges.{bridged, chosen_bridge, is_clear_bridge, join, join_holes, joined}
use Rattle.hole_joining.specs.Holes.{from_start, hole_list, is_hole, is_ring, put_all, ring_list}
use Rattle.hole_joining.specs.Laws.{settled_in}
use Rattle.hole_joining.proofs.Choice.{LeadsTo, chosen_leads}
use Rattle.hole_joining.proofs.Joins.{join_total}
use Rattle.hole_joining.proofs.Loops.{All-hole_list}
use Rattle.hole_joining.proofs.Turning.{round_turned}
use Rattle.ring_cutting.specs.Cuts.{cut_ring}
use Rattle.ring_cutting.specs.Laws.{TurnsLeft}
use Rattle.ring_cutting.proofs.Areas.{areas}
use Rattle.ring_cutting.proofs.WholeCuts.{cutting}
use Rattle.triangulate.specs.Fills.{cuts, fill_of}
use Rattle.plane_filling.proofs.Unforced.{ring_unforced}

-- triangles that turn left have an area above 0
left_up : (at : Plane) (ts : List Triple) → All (TurnsLeft at) ts → pos 0 ≤ℤ total (λ t. orient at t.0 t.1 t.2) ts
left_up at [] all = omega (arith, ints)
left_up at (t ∷ ts) all =
    let here : pos 0 <ℤ orient at t.0 t.1 t.2 = All-head (TurnsLeft at) t ts all in
    omega (arith, ints, here, left_up at ts (All-tail (TurnsLeft at) t ts all))

some_up : (at : Plane) (ts : List Triple) → 0 < length ts → All (TurnsLeft at) ts → pos 0 <ℤ total (λ t. orient at t.0 t.1 t.2) ts
some_up at [] some all = absurd (omega (arith, some))
some_up at (t ∷ ts) some all =
    let here : pos 0 <ℤ orient at t.0 t.1 t.2 = All-head (TurnsLeft at) t ts all in
    omega (arith, ints, here, left_up at ts (All-tail (TurnsLeft at) t ts all))

-- an area above 0, and one below
abbrev IsUp : Plane → List ℕ → Type 0
IsUp at r = pos 0 <ℤ area at r

abbrev IsDown : Plane → List ℕ → Type 0
IsDown at r = area at r <ℤ pos 0

-- a ring without a forced triangle has an area above 0
ring_up : (at : Plane) (r : List ℕ) → (cut_ring at r).forced ≡ 0 → IsUp at r
ring_up at r none =
    let ringy = ring_unforced at r none in
    let cut = cutting at r ringy in
    let ts = (cut_ring at r).triples in
    let count = cut.count in
    let long = ringy.long in
    let up = some_up at ts (omega (arith, count, long)) (cut.left none) in
    subst (λ (z : ℤ). pos 0 <ℤ z) (areas at r ts cut.chain) up

rings_up : (at : Plane) (rs : List (List ℕ)) → (cuts at rs).forced ≡ 0 → All (IsUp at) rs
rings_up at [] none = All-nil (IsUp at)
rings_up at (r ∷ rs) none = All-cons (IsUp at) r rs (ring_up at r (omega (arith, none))) (rings_up at rs (omega (arith, none)))

-- the area of a ring with a hole joined is that of both
join_area : (at : Plane) (r : List ℕ) (i : ℕ) (hole : List ℕ) → i < length r → IsDown at hole → area at (join r i hole) ≡ area at hole +ℤ area at r
join_area at r i [] low down = absurd (omega (arith, ints, down))
join_area at r i (h ∷ k) low down = omega (arith, ints, join_total (across at) r i h k low)

-- the rings after a hole is joined
abbrev after_join : List (List ℕ) → List ℕ → Bridge → List (List ℕ)
after_join rings hole b = set rings b.ring (join (get_or rings b.ring []) b.place hole)

-- rings with areas above 0 after a hole was joined had such before
up_before : (at : Plane) (rings : List (List ℕ)) (hole : List ℕ) (b : Bridge) → LeadsTo rings b → IsDown at hole → All (IsUp at) (after_join rings hole b) →
    All (IsUp at) rings
up_before at rings hole b leads down all i d low = elim (cases_eq i b.ring) as (λ _. IsUp at (get_or rings i d)) [
  | inl e ↦
      let ring = get_or rings b.ring [] in
      let next = join ring b.place hole in
      let there : IsUp at next =
      subst (IsUp at) (get_or-set_same rings b.ring next [] leads.ring) (all b.ring [] (omega (arith, leads.ring, length-set rings b.ring next))) in
      let here : IsUp at ring = omega (arith, ints, there, down, join_area at ring b.place hole leads.place down) in
      subst (IsUp at) (ap (λ k. get_or rings k []) (sym e) ∙ get_or_default rings i [] d low) here
  | inr n ↦
      let next = join (get_or rings b.ring []) b.place hole in
      subst (IsUp at) (get_or-set_other rings b.ring i next d n) (all i d (omega (arith, low, length-set rings b.ring next)))
]

-- before all holes were joined
all_before : (at : Plane) (rings holes : List (List ℕ)) → All (IsDown at) holes → All (IsUp at) (joined at rings holes) → All (IsUp at) rings
all_before at rings [] down all = all
all_before at rings (hole ∷ later) down all =
    by_bridge (chosen_bridge at rings hole later) refl (λ r. all_before at r later (All-tail (IsDown at) hole later down)) all
  where
    by_bridge : (o : Option Bridge) → chosen_bridge at rings hole later ≡ o → ((r : List (List ℕ)) → All (IsUp at) (joined at r later) → All (IsUp at) r) →
        All (IsUp at) (joined at (bridged hole rings o) later) → All (IsUp at) rings
    by_bridge None e rest all = rest rings all
    by_bridge (Some b) e rest all =
        up_before at rings hole b (chosen_leads at (vertex_at hole 0) rings (is_clear_bridge at rings hole later) b e) (All-head (IsDown at) hole later down)
        (rest (after_join rings hole b) all)

-- what a test shows of the members that it keeps
All-tested : {X : Type 0} (P : X → Type 0) (p : X → Bool) → ((x : X) → p x ≡ true → P x) → (xs : List X) → All P (filter p xs)
All-tested P p shows [] = All-nil P
All-tested P p shows (x ∷ xs) =
    cond_both (p x) (x ∷ filter p xs) (filter p xs) (λ l. All P l) (λ y. All-cons P x (filter p xs) (shows x y) (All-tested P p shows xs)) (λ n. All-tested P p shows xs)

filter_again : {X : Type 0} (p : X → Bool) (xs : List X) → filter p (filter p xs) ≡ filter p xs
filter_again p [] = refl
filter_again p (x ∷ xs) = elim (cases_Bool (p x)) as (λ _. filter p (filter p (x ∷ xs)) ≡ filter p (x ∷ xs)) [
  | inl y ↦ rw y (ap (λ b. cond b (x ∷ filter p (filter p xs)) (filter p (filter p xs))) y ∙ ap (λ l. x ∷ l) (filter_again p xs))
  | inr n ↦ rw n (filter_again p xs)
]

-- holes have areas below 0
down_of : (z : ℤ) → int_lt z (pos 0) ≡ true → z <ℤ pos 0
down_of z y = grind (arith, ints)

holes_down : (at : Plane) (loops : List (List ℕ)) → All (IsDown at) (hole_list at loops)
holes_down at loops =
    let holes = filter (is_hole at) loops in
    let all = All-hole_list at (IsDown at) (λ l h. subst (λ (z : ℤ). z <ℤ pos 0) (sym (round_turned (across at) _ l)) h) holes
    (All-tested (IsDown at) (is_hole at) (λ l y. down_of (area at l) y) loops) in
    subst (λ hs. All (IsDown at) (put_all at [] hs)) (ap (map (from_start at)) (filter_again (is_hole at) loops)) all

-- a loop with an area has three places or more
long_of : (at : Plane) (l : List ℕ) → (area at l ≡ pos 0 → ⊥) → 3 ≤ length l
long_of at [] some = absurd (some refl)
long_of at (a ∷ []) some = absurd (some (omega (arith, ints)))
long_of at (a ∷ b ∷ []) some = absurd (some (omega (arith, ints)))
long_of at (a ∷ b ∷ c ∷ l) some = omega arith

-- a member that a test keeps
kept_member : {X : Type 0} (P : X → Type 0) (p : X → Bool) (x : X) (xs : List X) → p x ≡ true → All P (filter p (x ∷ xs)) → P x
kept_member P p x xs y all = All-head P x (filter p xs) (subst (All P) (ap (λ b. cond b (x ∷ filter p xs) (filter p xs)) y) all)

kept_rest : {X : Type 0} (P : X → Type 0) (p : X → Bool) (x : X) (xs : List X) → All P (filter p (x ∷ xs)) → All P (filter p xs)
kept_rest P p x xs all = elim (cases_Bool (p x)) as (λ _. All P (filter p xs)) [
  | inl y ↦ All-tail P x (filter p xs) (subst (All P) (ap (λ b. cond b (x ∷ filter p xs) (filter p xs)) y) all)
  | inr n ↦ subst (All P) (ap (λ b. cond b (x ∷ filter p xs) (filter p xs)) n) all
]

-- where all rings have areas above 0 all loops have three places or more
loops_long : (at : Plane) (loops : List (List ℕ)) → All (IsUp at) (ring_list at loops) → All (λ l. 3 ≤ length l) loops
loops_long at [] all = All-nil (λ (l : List ℕ). 3 ≤ length l)
loops_long at (l ∷ ls) all =
    All-cons (λ (l : List ℕ). 3 ≤ length l) l ls (long_of at l (λ flat. none flat)) (loops_long at ls (kept_rest (IsUp at) (is_ring at) l ls all))
  where
    level : (z : ℤ) → z ≡ pos 0 → int_le (pos 0) z ≡ true
    level z e = grind (arith, ints)

    none : area at l ≡ pos 0 → ⊥
    none flat =
        let up : pos 0 <ℤ area at l = kept_member (IsUp at) (is_ring at) l ls (level (area at l) flat) all in omega (arith, ints, up, flat)

-- so the loops of a filling without a forced triangle have
pub unforced_long : (drop_axis : ℕ) (points : List (List ℤ)) (loops : List (List ℕ)) → (fill_of drop_axis points loops).forced ≡ 0 →
    All (λ l. 3 ≤ length l) loops
unforced_long drop_axis points loops none =
    let at = settled_in drop_axis points loops in
    loops_long at loops (all_before at (ring_list at loops) (hole_list at loops) (holes_down at loops) (rings_up at (join_holes at loops) none))
