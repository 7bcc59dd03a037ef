use Rattle.std.proofs.Common.{◌≡◌, ◌+◌, ◌^◌, ◌<◌, ◌∙◌, ℕ, List, [], Some, sym, ap, subst, arith, length, get_or, set}
use Rattle.std.proofs.lemmas.List.{get_or-set_same, length-set}
use Rattle.std.proofs.lemmas.List.Elements.{All-get_or}
use Rattle.face_plane.specs.Planes.{Plane}
use Rattle.face_plane.specs.Rings.{vertex_at}
use Rattle.hole_joining.specs.declared.bridge.Bridge.{Bridge}
use Rattle.hole_joining.specs.Seen.{plane_at}
use Rattle.hole_joining.specs.Bridges.{join, bridged, is_clear_bridge, chosen_bridge}
use Rattle.hole_joining.specs.Obstacles.{all_edges}
use Rattle.hole_joining.specs.Runs.{AreRuns, without}
use Rattle.hole_joining.proofs.Choice.{LeadsTo, chosen_leads, no_bridge}
use Rattle.hole_joining.proofs.Joins.{length-join}
use Rattle.hole_joining.proofs.Lists.{joined_none}
use Rattle.hole_joining.proofs.Barring.{same_joined}
use Rattle.hole_joining.proofs.Following.{without_join}
use Rattle.hole_joining.proofs.splice.join_one.Goals as goal

-- the bridge that was chosen leads to a place
leads_of : (at : Plane) (rings seen later : List (List ℕ)) (hole : List ℕ) (b : Bridge) → seen ≡ rings →
    Some b ≡ chosen_bridge at seen hole later → LeadsTo rings b
leads_of at rings seen later hole b same choice =
    chosen_leads at (vertex_at hole 0) rings (is_clear_bridge at rings hole later) b (sym (choice ∙ ap (λ s. chosen_bridge at s hole later) same))

pub end_of-end-requires : goal.end_of-end-requires
end_of-end-requires c =
    let rings : List (List ℕ) = c.args.rings.now.items in let b = c.in-Some.bridge in
    let leads =
    leads_of (plane_at c.args.flat.now) rings c.as_slice.result.now c.args.later.now c.args.hole.now b c.as_slice.ensures.value
    c.in-Some.ensures in
    record { ring = omega (arith, leads.ring, ap length c.as_slice-in-Some.ensures.value) }

pub join_places-requires-clause-ring : goal.join_places-requires-clause-ring
join_places-requires-clause-ring c =
    let rings : List (List ℕ) = c.args.rings.now.items in let b = c.in-Some.bridge in
    let leads =
    leads_of (plane_at c.args.flat.now) rings c.as_slice.result.now c.args.later.now c.args.hole.now b c.as_slice.ensures.value
    c.in-Some.ensures in
    leads.ring

pub join_places-requires-clause-place : goal.join_places-requires-clause-place
join_places-requires-clause-place c =
    let rings : List (List ℕ) = c.args.rings.now.items in let b = c.in-Some.bridge in
    let leads =
    leads_of (plane_at c.args.flat.now) rings c.as_slice.result.now c.args.later.now c.args.hole.now b c.as_slice.ensures.value
    c.in-Some.ensures in
    leads.place

pub follow_join-requires-clause-ring : goal.follow_join-requires-clause-ring
follow_join-requires-clause-ring c =
    let rings : List (List ℕ) = c.args.rings.now.items in let b = c.in-Some.bridge in
    let leads =
    leads_of (plane_at c.args.flat.now) rings c.as_slice.result.now c.args.later.now c.args.hole.now b c.as_slice.ensures.value
    c.in-Some.ensures in
    let next = join (get_or rings b.ring []) b.place c.args.hole.now in
    let now : c.as_slice-in-Some-2.result.now ≡ set rings b.ring next = c.as_slice-in-Some-2.ensures.value ∙ c.in_ok-join_places.ensures in
    omega (arith, leads.ring, ap length now, length-set rings b.ring next)

pub follow_join-requires-clause-same : goal.follow_join-requires-clause-same
follow_join-requires-clause-same c =
    let rings : List (List ℕ) = c.args.rings.now.items in let b = c.in-Some.bridge in
    let leads =
    leads_of (plane_at c.args.flat.now) rings c.as_slice.result.now c.args.later.now c.args.hole.now b c.as_slice.ensures.value
    c.in-Some.ensures in
    omega (arith, leads.ring, c.requires.runs.count)

pub follow_join-requires-clause-within : goal.follow_join-requires-clause-within
follow_join-requires-clause-within c =
    let rings : List (List ℕ) = c.args.rings.now.items in let b = c.in-Some.bridge in
    let leads =
    leads_of (plane_at c.args.flat.now) rings c.as_slice.result.now c.args.later.now c.args.hole.now b c.as_slice.ensures.value
    c.in-Some.ensures in
    let next = join (get_or rings b.ring []) b.place c.args.hole.now in
    let now : c.as_slice-in-Some-2.result.now ≡ set rings b.ring next = c.as_slice-in-Some-2.ensures.value ∙ c.in_ok-join_places.ensures in
    let ring = ap (λ l. get_or l b.ring []) now ∙ get_or-set_same rings b.ring next [] leads.ring in
    omega (arith, ap length ring, length-join (get_or rings b.ring []) b.place c.args.hole.now, leads.place)

pub follow_join-requires-clause-small : goal.follow_join-requires-clause-small
follow_join-requires-clause-small c =
    let rings : List (List ℕ) = c.args.rings.now.items in let b = c.in-Some.bridge in
    let leads =
    leads_of (plane_at c.args.flat.now) rings c.as_slice.result.now c.args.later.now c.args.hole.now b c.as_slice.ensures.value
    c.in-Some.ensures in
    let next = join (get_or rings b.ring []) b.place c.args.hole.now in
    let now : c.as_slice-in-Some-2.result.now ≡ set rings b.ring next = c.as_slice-in-Some-2.ensures.value ∙ c.in_ok-join_places.ensures in
    let ring = ap (λ l. get_or l b.ring []) now ∙ get_or-set_same rings b.ring next [] leads.ring in
    let Fits : List ℕ → Type 0 = λ r. length r + length c.args.hole.now + 2 < 2 ^ 32 in
    let fits = All-get_or Fits rings b.ring [] leads.ring c.requires.few in
    omega (arith, fits, ap length ring, length-join (get_or rings b.ring []) b.place c.args.hole.now)

pub follow_join-requires-clause-runs : goal.follow_join-requires-clause-runs
follow_join-requires-clause-runs c =
    let rings : List (List ℕ) = c.args.rings.now.items in let b = c.in-Some.bridge in
    let leads =
    leads_of (plane_at c.args.flat.now) rings c.as_slice.result.now c.args.later.now c.args.hole.now b c.as_slice.ensures.value
    c.in-Some.ensures in
    let next = join (get_or rings b.ring []) b.place c.args.hole.now in
    let now : c.as_slice-in-Some-2.result.now ≡ set rings b.ring next = c.as_slice-in-Some-2.ensures.value ∙ c.in_ok-join_places.ensures in
    let ring = ap (λ l. get_or l b.ring []) now ∙ get_or-set_same rings b.ring next [] leads.ring in
    let hole = c.args.hole.now in
    subst (AreRuns (plane_at c.args.flat.now) (get_or c.args.runs.now.items b.ring []))
    (sym (ap (without (b.place + 1) (length hole + 2)) ring ∙ without_join (get_or rings b.ring []) hole b.place leads.place))
    (c.requires.runs.each b.ring)

pub join_circle-requires-clause-ring : goal.join_circle-requires-clause-ring
join_circle-requires-clause-ring c =
    let rings : List (List ℕ) = c.args.rings.now.items in let b = c.in-Some.bridge in
    let leads =
    leads_of (plane_at c.args.flat.now) rings c.as_slice.result.now c.args.later.now c.args.hole.now b c.as_slice.ensures.value
    c.in-Some.ensures in
    omega (arith, leads.ring, ap length c.requires.same)

pub join_circle-requires-clause-place : goal.join_circle-requires-clause-place
join_circle-requires-clause-place c =
    let rings : List (List ℕ) = c.args.rings.now.items in let b = c.in-Some.bridge in
    let leads =
    leads_of (plane_at c.args.flat.now) rings c.as_slice.result.now c.args.later.now c.args.hole.now b c.as_slice.ensures.value
    c.in-Some.ensures in
    omega (arith, leads.place, ap (λ (l : List (List ℕ)). length (get_or l b.ring [])) c.requires.same)

pub join_circle-requires-clause-few : goal.join_circle-requires-clause-few
join_circle-requires-clause-few c =
    let rings : List (List ℕ) = c.args.rings.now.items in let b = c.in-Some.bridge in
    let leads =
    leads_of (plane_at c.args.flat.now) rings c.as_slice.result.now c.args.later.now c.args.hole.now b c.as_slice.ensures.value
    c.in-Some.ensures in
    let Fits : List ℕ → Type 0 = λ r. length r + length c.args.hole.now + 2 < 2 ^ 32 in
    let fits = All-get_or Fits rings b.ring [] leads.ring c.requires.few in
    omega (arith, fits, ap (λ (l : List (List ℕ)). length (get_or l b.ring [])) c.requires.same)

pub returns-in_ok-add-clause-rings : goal.returns-in_ok-add-clause-rings
returns-in_ok-add-clause-rings c =
    let at = plane_at c.args.flat.now in
    c.in_ok-join_places.ensures
    ∙ ap (bridged c.args.hole.now c.args.rings.now.items)
    (c.in-Some.ensures ∙ ap (λ s. chosen_bridge at s c.args.hole.now c.args.later.now) c.as_slice.ensures.value)

pub returns-in_ok-add-clause-edges : goal.returns-in_ok-add-clause-edges
returns-in_ok-add-clause-edges c =
    let rings : List (List ℕ) = c.args.rings.now.items in let b = c.in-Some.bridge in
    let leads =
    leads_of (plane_at c.args.flat.now) rings c.as_slice.result.now c.args.later.now c.args.hole.now b c.as_slice.ensures.value
    c.in-Some.ensures in
    let end = c.end_of-end.ensures ∙ ap (λ (l : List (List ℕ)). vertex_at (get_or l b.ring []) b.place) c.as_slice-in-Some.ensures.value in
    same_joined rings c.join_places.new.rings.items c.args.later.now c.args.hole.now b.ring b.place c.end_of-end.result c.vertex_at.result
    (all_edges c.args.obstacles.now) (all_edges c.add.new.self)
    leads.ring leads.place c.requires.some c.in_ok-join_places.ensures end c.vertex_at.ensures c.in_ok-add.ensures.all c.requires.edges

pub returns-in_default-clause-rings : goal.returns-in_default-clause-rings
returns-in_default-clause-rings c =
    joined_none (plane_at c.args.flat.now) c.args.rings.now.items c.as_slice.result.now c.args.later.now c.args.hole.now
    c.as_slice.ensures.value c.in_default.ensures

pub returns-in_default-clause-edges : goal.returns-in_default-clause-edges
returns-in_default-clause-edges c =
    let rings : List (List ℕ) = c.args.rings.now.items in let hole = c.args.hole.now in let at = plane_at c.args.flat.now in
    absurd (no_bridge at (vertex_at hole 0) (is_clear_bridge at rings hole c.args.later.now) rings c.requires.one c.requires.long
    (sym (c.in_default.ensures ∙ ap (λ s. chosen_bridge at s hole c.args.later.now) c.as_slice.ensures.value)))
