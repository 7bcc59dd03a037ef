use Rattle.std.proofs.Common.{◌≡◌, ◌<◌, ◌*◌, ℕ, ℤ, List, [], length, get_or, map, refl, sym, ◌∙◌, ap, subst, arith}
use Rattle.std.specs.List.{All}
use Rattle.std.proofs.lemmas.List.{length-map}
use Rattle.chain_terms.specs.Chains.{all_edges}
use Rattle.chain_terms.specs.Ranks.{start}
use Rattle.mesh_terms.specs.Meshes.{triple_of, triples_of, IsAccepted, IsMesh}
use Rattle.mesh_terms.specs.Twins.{IsTwinned}
use Rattle.halfedge.specs.Laws.{AreSingle}
use Rattle.halfedge.proofs.Edges.{length-all_edges}
use Rattle.pinch_split.specs.Back.{ComeFrom, named_by}
use Rattle.pinch_split.specs.Given.{corners, points_of, starts_of}
use Rattle.pinch_split.proofs.Anew.{HasFans}
use Rattle.pinch_split.proofs.Back.{fans_come_from, triples_back}
use Rattle.pinch_split.proofs.Clean.{few_fans}
use Rattle.pinch_split.proofs.Corners.{length-corners}
use Rattle.pinch_split.proofs.Whole.{has_fans, firsts_below, starts_below, as_many_fans, twinned_anew, mesh_anew, single_anew}
use Rattle.pinch_split.proofs.splitting.split_by.Goals as goal

-- as many triples as triangles
count : (xs : List (List ℕ)) (ts : List (ℕ × ℕ × ℕ)) → triples_of xs ≡ ts → length xs ≡ length ts
count xs ts same = sym (length-map xs triple_of) ∙ ap length same

pub starts-requires : goal.starts-requires
starts-requires c =
    let ts = c.args.twins.triples in
    let known = has_fans (length c.args.points.now) ts c.args.fans.of.items c.args.fans.first.items c.requires.accepted c.requires.fans in
    subst (λ l. All (λ h. h < 3 * length c.triples.result.now) l) (sym c.deref.ensures.value)
    (subst (λ n. All (λ h. h < 3 * n) c.args.fans.first.items) (sym (count c.triples.result.now ts c.triples.ensures.value))
    (firsts_below ts c.args.fans.of.items c.args.fans.first.items known))

-- the old vertices
from_is : (from read first heads : List ℕ) (xs : List (List ℕ)) (ts : List (ℕ × ℕ × ℕ)) → read ≡ from → from ≡ starts_of (triples_of xs) heads →
    triples_of xs ≡ ts → heads ≡ first → read ≡ starts_of ts first
from_is from read first heads xs ts is made known same = is ∙ made ∙ (λ i. starts_of (known i) (same i))

-- the new triangles
triples_are : (made xs : List (List ℕ)) (of read : List ℕ) (ts : List (ℕ × ℕ × ℕ)) → triples_of made ≡ corners read (length xs) → triples_of xs ≡ ts →
    read ≡ of → triples_of made ≡ corners of (length ts)
triples_are made xs of read ts is known same = is ∙ (λ i. corners (same i) (count xs ts known i))

pub points_at-requires : goal.points_at-requires
points_at-requires c =
    let ts = c.args.twins.triples in
    let known = has_fans (length c.args.points.now) ts c.args.fans.of.items c.args.fans.first.items c.requires.accepted c.requires.fans in
    subst (λ l. All (λ v. v < length c.args.points.now) l)
    (sym (from_is c.in_ok-from.from.items c.deref-2.result.now c.args.fans.first.items c.deref.result.now c.triples.result.now ts c.deref-2.ensures.value
    c.in_ok-from.ensures c.triples.ensures.value c.deref.ensures.value))
    (starts_below (length c.args.points.now) ts c.args.fans.of.items c.args.fans.first.items c.requires.accepted known)

pub corners-requires-clause-full : goal.corners-requires-clause-full
corners-requires-clause-full c =
    let ts = c.args.twins.triples in
    let known = has_fans (length c.args.points.now) ts c.args.fans.of.items c.args.fans.first.items c.requires.accepted c.requires.fans in
    ap length c.deref-3.ensures.value ∙ as_many_fans ts c.args.fans.of.items c.args.fans.first.items known
    ∙ ap (λ n. 3 * n) (sym (count c.triples-2.result.now ts c.triples-2.ensures.value))

pub renamed-requires-clause-twinned : goal.renamed-requires-clause-twinned
renamed-requires-clause-twinned c =
    let ts = c.args.twins.triples in
    let known = has_fans (length c.args.points.now) ts c.args.fans.of.items c.args.fans.first.items c.requires.accepted c.requires.fans in
    subst (λ l. IsTwinned l c.args.twins.twins)
    (sym (triples_are c.in_ok-triples.triples.items c.triples-2.result.now c.args.fans.of.items c.deref-3.result.now ts c.in_ok-triples.ensures
    c.triples-2.ensures.value c.deref-3.ensures.value)) (twinned_anew ts c.args.fans.of.items c.args.fans.first.items c.args.twins.twins known c.triples.ensures.twinned)

pub renamed-requires-clause-single : goal.renamed-requires-clause-single
renamed-requires-clause-single c single =
    let ts = c.args.twins.triples in
    let known = has_fans (length c.args.points.now) ts c.args.fans.of.items c.args.fans.first.items c.requires.accepted c.requires.fans in
    subst (λ l. AreSingle (all_edges l))
    (sym (triples_are c.in_ok-triples.triples.items c.triples-2.result.now c.args.fans.of.items c.deref-3.result.now ts c.in_ok-triples.ensures
    c.triples-2.ensures.value c.deref-3.ensures.value)) (single_anew ts c.args.fans.of.items c.args.fans.first.items known single)

pub of_twins-requires : goal.of_twins-requires
of_twins-requires c =
    let ts = c.args.twins.triples in
    let first = c.args.fans.first.items in
    let known = has_fans (length c.args.points.now) ts c.args.fans.of.items first c.requires.accepted c.requires.fans in
    let from = c.deref-2.result.now in
    let as_many : length c.in_ok-points.points.items ≡ length first =
    ap length c.in_ok-points.ensures ∙ length-map from (λ v. get_or c.args.points.now v [])
    ∙ ap length (from_is c.in_ok-from.from.items c.deref-2.result.now c.args.fans.first.items c.deref.result.now c.triples.result.now ts c.deref-2.ensures.value
    c.in_ok-from.ensures c.triples.ensures.value c.deref.ensures.value) ∙ length-map first (start (all_edges ts)) in
    subst (λ n. IsMesh n c.in_ok-twins.twins.triples) (sym as_many)
    (subst (λ l. IsMesh (length first) l)
    (sym (c.in_ok-twins.ensures.triples ∙ triples_are c.in_ok-triples.triples.items c.triples-2.result.now c.args.fans.of.items c.deref-3.result.now ts
    c.in_ok-triples.ensures c.triples-2.ensures.value c.deref-3.ensures.value))
    (mesh_anew (length c.args.points.now) ts c.args.fans.of.items first c.requires.accepted known))

pub returns-clause-few : goal.returns-clause-few
returns-clause-few c =
    let ts = c.args.twins.triples in
    let of = c.args.fans.of.items in
    let first = c.args.fans.first.items in
    let known = has_fans (length c.args.points.now) ts of first c.requires.accepted c.requires.fans in
    let from = c.deref-2.result.now in
    let points : length c.of_twins.result.points ≡ length first =
    ap length (c.of_twins.ensures.points ∙ c.in_ok-points.ensures) ∙ length-map from (λ v. get_or c.args.points.now v [])
    ∙ ap length (from_is c.in_ok-from.from.items c.deref-2.result.now first c.deref.result.now c.triples.result.now ts c.deref-2.ensures.value
    c.in_ok-from.ensures c.triples.ensures.value c.deref.ensures.value)
    ∙ length-map first (start (all_edges ts)) in
    let triples : length c.of_twins.result.triples ≡ length ts =
    ap length (c.of_twins.ensures.triples ∙ c.in_ok-twins.ensures.triples
    ∙ triples_are c.in_ok-triples.triples.items c.triples-2.result.now of c.deref-3.result.now ts c.in_ok-triples.ensures c.triples-2.ensures.value c.deref-3.ensures.value)
    ∙ length-corners (λ h. get_or of h 0) (length ts) in
    omega (arith, points, triples, few_fans ts of first known, length-all_edges ts)

-- the new vertices come from the old ones
come_from : (made chosen points : List (List ℤ)) (read from : List ℕ) (ts : List (ℕ × ℕ × ℕ)) (of first : List ℕ) → IsAccepted (length points) ts →
    HasFans ts of first → made ≡ chosen → chosen ≡ points_of points read → read ≡ starts_of ts first → from ≡ starts_of ts first →
    ComeFrom made points from
come_from made chosen points read from ts of first accepted known is taken was same =
    subst (λ l. ComeFrom l points from) (sym (is ∙ taken ∙ ap (points_of points) was))
    (subst (ComeFrom (points_of points (starts_of ts first)) points) (sym same) (fans_come_from points ts of first accepted known))

pub returns-clause-there : goal.returns-clause-there
returns-clause-there c =
    let ts = c.args.twins.triples in
    let of = c.args.fans.of.items in
    let first = c.args.fans.first.items in
    let known = has_fans (length c.args.points.now) ts of first c.requires.accepted c.requires.fans in
    come_from c.of_twins.result.points c.in_ok-points.points.items c.args.points.now c.deref-2.result.now c.in_ok-from.from.items ts of first
    c.requires.accepted known c.of_twins.ensures.points c.in_ok-points.ensures
    (from_is c.in_ok-from.from.items c.deref-2.result.now first c.deref.result.now c.triples.result.now ts c.deref-2.ensures.value c.in_ok-from.ensures
    c.triples.ensures.value c.deref.ensures.value)
    (from_is c.in_ok-from.from.items c.in_ok-from.from.items first c.deref.result.now c.triples.result.now ts refl c.in_ok-from.ensures c.triples.ensures.value
    c.deref.ensures.value)

-- and put for them they give the triangles again
back : (made : List (ℕ × ℕ × ℕ)) (from : List ℕ) (ts : List (ℕ × ℕ × ℕ)) (of first : List ℕ) → HasFans ts of first → made ≡ corners of (length ts) →
    from ≡ starts_of ts first → map (named_by from) made ≡ ts
back made from ts of first known is same = (λ i. map (named_by (same i)) (is i)) ∙ triples_back ts of first known

pub returns-clause-back : goal.returns-clause-back
returns-clause-back c =
    let ts = c.args.twins.triples in
    let of = c.args.fans.of.items in
    let first = c.args.fans.first.items in
    let known = has_fans (length c.args.points.now) ts of first c.requires.accepted c.requires.fans in
    back c.of_twins.result.triples c.in_ok-from.from.items ts of first known
    (c.of_twins.ensures.triples ∙ c.in_ok-twins.ensures.triples ∙ triples_are c.in_ok-triples.triples.items c.triples-2.result.now of c.deref-3.result.now ts
    c.in_ok-triples.ensures c.triples-2.ensures.value c.deref-3.ensures.value)
    (from_is c.in_ok-from.from.items c.in_ok-from.from.items first c.deref.result.now c.triples.result.now ts refl c.in_ok-from.ensures c.triples.ensures.value
    c.deref.ensures.value)
