use Rattle.std.proofs.Common.{arith, ◌≡◌, ℕ, ◌<◌, ◌≤◌, List, [], ◌∷◌, ◌++◌, get_or, length, map, take, refl, sym, ap, subst, ◌∙◌}
use Rattle.std.specs.List.{All}
use Rattle.std.proofs.lemmas.List.{map-append, take_all, take_more}
use Rattle.std.proofs.lemmas.List.Elements.{All-map}
use Rattle.plane_chains.specs.EdgeBoxes.{pair_of}
use Rattle.sheet_terms.specs.Walks.{walks}
use Rattle.plane_sheets.specs.declared.borders.RegionEdge.{RegionEdge}
use Rattle.plane_sheets.specs.Seen.{seen_in}
use Rattle.plane_sheets.proofs.Making.{no_border}
use Rattle.plane_sheets.proofs.Outcomes.{if_ok}
use Rattle.plane_sheets.proofs.regions.region_walks.Goals as goal

-- the ends of all, where the loop has come to the end
all_ends : (es : List RegionEdge) (i : ℕ) (ends : List (List ℕ)) → length es ≤ i → ends ≡ map (λ (e : RegionEdge). e.ends) (take i es) → ends ≡ map (λ e. e.ends) es
all_ends es i ends end value = value ∙ ap (map (λ (e : RegionEdge). e.ends)) (take_all i es end)

-- their pairs
pairs_of_ends : (es : List RegionEdge) → map pair_of (map (λ e. e.ends) es) ≡ map (λ e. pair_of e.ends) es
pairs_of_ends [] = refl
pairs_of_ends (e ∷ es) = ap (λ l. pair_of e.ends ∷ l) (pairs_of_ends es)

pub loop-edge-preserved : goal.loop-edge-preserved
loop-edge-preserved c =
    let es = c.args.edges.now in
    let i = c.loop-edge.edge-index in
    let e = get_or es i no_border in
    c.in_ok-push.ensures.items ∙ ap (λ l. l ++ e.ends ∷ []) c.loop-edge.invariant
    ∙ sym (ap (map (λ (e : RegionEdge). e.ends)) (take_more es i no_border c.loop-edge-test.true) ∙ map-append (λ (e : RegionEdge). e.ends) (take i es) (e ∷ []))

pub walks_of-requires : goal.walks_of-requires
walks_of-requires c =
    let inside : List ℕ → Type 0 = λ e. All (λ v. v < length c.args.flat.points.now) e in
    let whole = all_ends c.args.edges.now c.loop-edge.edge-index c.loop-edge.ends.items (omega arith) c.loop-edge.invariant in
    subst (All inside) (sym (c.deref.ensures.value ∙ whole)) (All-map inside (λ (e : RegionEdge). e.ends) c.args.edges.now c.requires)

pub returns : goal.returns
returns c =
    let at = seen_in c.args.flat in
    let whole = all_ends c.args.edges.now c.loop-edge.edge-index c.loop-edge.ends.items (omega arith) c.loop-edge.invariant in
    if_ok c.walks_of.result _ _
    (λ all made. made ∙ ap (λ l. walks at (map pair_of l)) (c.deref.ensures.value ∙ whole) ∙ ap (walks at) (pairs_of_ends c.args.edges.now)) c.walks_of.ensures
