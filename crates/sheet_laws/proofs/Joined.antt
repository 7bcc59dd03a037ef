-- Holes joined to rings, whatever the loops are: where no ring is left empty, every odd sum stays.
use Rattle.std.specs.Prelude.{◌≡◌, ℕ, ◌<◌, ◌≤◌, ℤ, pos, ◌+ℤ◌, List, [], ◌∷◌, true, ◌==◌, length, get_or, set, map, filter, int_lt, Option, Some, None}
use Rattle.std.specs.List.{All, flat_map, position_or_len}
use Rattle.std.proofs.Common.{arith, refl, sym, ap, subst, ◌∙◌, inl, inr}
use Rattle.std.proofs.lemmas.Bool.{both_ways, cases_eq, cond_both}
use Rattle.std.proofs.lemmas.Int.{ints}
use Rattle.std.proofs.lemmas.List.{get_or-set_other, get_or_default, length-set}
use Rattle.std.proofs.lemmas.List.Elements.{All-cons, All-head, All-nil, All-set, All-tail, All-weaker}
use Rattle.chain_terms.specs.Odd.{IsOdd, along}
use Rattle.chain_terms.specs.Paths.{round_edges}
use Rattle.chain_terms.specs.Sums.{total}
use Rattle.chain_laws.specs.Sums.{total-flat_map}
use Rattle.face_plane.specs.Planes.{Plane, point_at, plane_of, settled_plane}
use Rattle.face_plane.specs.Rings.{vertex_at}
use Rattle.hole_joining.specs.declared.bridge.Bridge.{Bridge}
use Rattle.hole_joining.specs.Bridges.{bridged, chosen_bridge, is_clear_bridge, join, join_holes, joined}
use Rattle.hole_joining.specs.Holes.{comes_first, from_start, hole_list, hole_start, is_hole, put_all, put_hole, ring_list}
use Rattle.hole_joining.specs.Laws.{settled_in}
use Rattle.hole_joining.proofs.Choice.{LeadsTo, chosen_leads, no_bridge}
use Rattle.hole_joining.proofs.Joins.{join_total, length-join}
use Rattle.hole_joining.proofs.Keeps.{total-set}
use Rattle.hole_joining.proofs.Loops.{length-hole_list, settled_up, some_ring, told_total}
use Rattle.hole_joining.proofs.Turning.{length-turned, once_round, round_turned}
use Rattle.triangulate.specs.Fills.{fill_of}
use Rattle.sheet_laws.proofs.Unforced.{Covers, rings_uncut}

-- some place
abbrev IsSome : List ℕ → Type 0
IsSome l = 0 < length l

-- a hole has an area, so it has a place
hole_some : (at : Plane) (l : List ℕ) → is_hole at l ≡ true → IsSome l
hole_some at [] h = absurd (both_ways (int_lt (pos 0) (pos 0)) refl h)
hole_some at (x ∷ l) h = omega arith

holes_some : (at : Plane) (ls : List (List ℕ)) → All IsSome (map (from_start at) (filter (is_hole at) ls))
holes_some at [] = All-nil IsSome
holes_some at (l ∷ ls) =
    let rest = holes_some at ls in
    cond_both (is_hole at l) (l ∷ filter (is_hole at) ls) (filter (is_hole at) ls) (λ hs. All IsSome (map (from_start at) hs))
    (λ y. All-cons IsSome (from_start at l) (map (from_start at) (filter (is_hole at) ls))
    (omega (arith, hole_some at l y, length-turned (position_or_len (λ v. v == hole_start at l) l) l)) rest) (λ n. rest)

put_some : (at : Plane) (h : List ℕ) (ks : List (List ℕ)) → IsSome h → All IsSome ks → All IsSome (put_hole at h ks)
put_some at h [] here all = All-cons IsSome h [] here (All-nil IsSome)
put_some at h (k ∷ ks) here all =
    let rest = put_some at h ks here (All-tail IsSome k ks all) in
    cond_both (comes_first at (vertex_at h 0) (vertex_at k 0)) (h ∷ k ∷ ks) (k ∷ put_hole at h ks) (λ l. All IsSome l)
    (λ y. All-cons IsSome h (k ∷ ks) here all) (λ n. All-cons IsSome k (put_hole at h ks) (All-head IsSome k ks all) rest)

put_all_some : (at : Plane) (sorted ks : List (List ℕ)) → All IsSome sorted → All IsSome ks → All IsSome (put_all at sorted ks)
put_all_some at sorted [] here all = here
put_all_some at sorted (k ∷ ks) here all =
    put_all_some at (put_hole at k sorted) ks (put_some at k sorted (All-head IsSome k ks all) here) (All-tail IsSome k ks all)

pub hole_list_some : (at : Plane) (ls : List (List ℕ)) → All IsSome (hole_list at ls)
hole_list_some at ls = put_all_some at [] (map (from_start at) (filter (is_hole at) ls)) (All-nil IsSome) (holes_some at ls)

-- the rings after a hole is joined
abbrev after_join : List (List ℕ) → List ℕ → Bridge → List (List ℕ)
after_join rings hole b = set rings b.ring (join (get_or rings b.ring []) b.place hole)

-- a ring that a bridge leads to has a place, so where none is empty afterwards none was
some_before : (rings : List (List ℕ)) (hole : List ℕ) (b : Bridge) → LeadsTo rings b → All IsSome (after_join rings hole b) → All IsSome rings
some_before rings hole b leads all i d low = elim (cases_eq i b.ring) as (λ _. IsSome (get_or rings i d)) [
  | inl e ↦ omega (arith, leads.place, ap length (get_or_default rings i d [] low), ap (λ k. length (get_or rings k [])) e)
  | inr n ↦
      let next = join (get_or rings b.ring []) b.place hole in
      subst IsSome (get_or-set_other rings b.ring i next d n) (all i d (omega (arith, low, length-set rings b.ring next)))
]

-- and none is afterwards where none was
some_after : (rings : List (List ℕ)) (hole : List ℕ) (b : Bridge) → All IsSome rings → All IsSome (after_join rings hole b)
some_after rings hole b all =
    let ring = get_or rings b.ring [] in
    All-set IsSome rings b.ring (join ring b.place hole) (omega (arith, length-join ring b.place hole)) all

-- where no ring is empty after all holes were joined, none was
rings_some : (at : Plane) (rings holes : List (List ℕ)) → All IsSome (joined at rings holes) → All IsSome rings
rings_some at rings [] all = all
rings_some at rings (hole ∷ later) all = by_bridge (chosen_bridge at rings hole later) refl (λ r. rings_some at r later) all
  where
    by_bridge : (o : Option Bridge) → chosen_bridge at rings hole later ≡ o →
        ((r : List (List ℕ)) → All IsSome (joined at r later) → All IsSome r) → All IsSome (joined at (bridged hole rings o) later) → All IsSome rings
    by_bridge None e rest all = rest rings all
    by_bridge (Some b) e rest all =
        some_before rings hole b (chosen_leads at (vertex_at hole 0) rings (is_clear_bridge at rings hole later) b e) (rest (after_join rings hole b) all)

-- the sum once round a ring with a hole joined
join_sum : (f : ℕ → ℕ → ℤ) → IsOdd f → (r : List ℕ) (i : ℕ) (hole : List ℕ) → i < length r → IsSome hole →
    once_round (along f) (join r i hole) ≡ once_round (along f) hole +ℤ once_round (along f) r
join_sum f odd r i [] within some = absurd (omega (arith, some))
join_sum f odd r i (h ∷ k) within some = omega (arith, ints, join_total (along f) r i h k within, odd.turns (get_or r i 0) h)

-- the sums stay, hole by hole
joined_sums : (f : ℕ → ℕ → ℤ) → IsOdd f → (at : Plane) (rings holes : List (List ℕ)) → All IsSome rings → All IsSome holes → (0 < length holes → 0 < length rings) →
    total (once_round (along f)) (joined at rings holes) ≡ total (once_round (along f)) rings +ℤ total (once_round (along f)) holes
joined_sums f odd at rings [] long holes_long some = omega (arith, ints)
joined_sums f odd at rings (hole ∷ later) long holes_long some =
    by_bridge (chosen_bridge at rings hole later) refl (λ r all more. joined_sums f odd at r later all (All-tail IsSome hole later holes_long) (λ _. more))
  where
    g : List ℕ → ℤ
    g = once_round (along f)

    by_bridge : (o : Option Bridge) → chosen_bridge at rings hole later ≡ o →
        ((r : List (List ℕ)) → All IsSome r → 0 < length r → total g (joined at r later) ≡ total g r +ℤ total g later) →
        total g (joined at (bridged hole rings o) later) ≡ total g rings +ℤ (g hole +ℤ total g later)
    by_bridge None e rest =
        absurd (no_bridge at (vertex_at hole 0) (is_clear_bridge at rings hole later) rings (some (omega arith)) long e)
    by_bridge (Some b) e rest =
        let leads = chosen_leads at (vertex_at hole 0) rings (is_clear_bridge at rings hole later) b e in
        let ring = get_or rings b.ring [] in
        let next = join ring b.place hole in
        omega (
          arith,
          ints,
          rest (after_join rings hole b) (some_after rings hole b long) (omega (arith, leads.ring, length-set rings b.ring next)),
          total-set g rings b.ring next leads.ring,
          join_sum f odd ring b.place hole leads.place (All-head IsSome hole later holes_long),
        )

-- a filling without a forced triangle covers its loops
pub filled_unforced : (drop_axis : ℕ) (points : List (List ℤ)) (loops : List (List ℕ)) → (fill_of drop_axis points loops).forced ≡ 0 →
    Covers (settled_in drop_axis points loops) (flat_map round_edges loops) (fill_of drop_axis points loops).triples
filled_unforced drop_axis points loops none =
    let base = plane_of drop_axis (point_at points) in
    let at = settled_plane base loops in
    let rings = ring_list at loops in
    let holes = hole_list at loops in
    let out = join_holes at loops in
    let cut = rings_uncut at out none in
    let out_some = All-weaker (λ (r : List ℕ). 3 ≤ length r) IsSome (λ r h. omega (arith, h)) out cut.long in
    let some : 0 < length holes → 0 < length rings = λ h. some_ring at loops (settled_up base loops) (omega (arith, h, length-hole_list at loops)) in
    record {
      chain = λ f odd.
          cut.covers.chain f odd ∙ total-flat_map (along f) round_edges out
          ∙ joined_sums f odd at rings holes (rings_some at rings holes out_some) (hole_list_some at loops) some
          ∙ told_total at (once_round (along f)) (λ l. round_turned (along f) _ l) loops ∙ sym (total-flat_map (along f) round_edges loops);
      left = cut.covers.left;
    }
