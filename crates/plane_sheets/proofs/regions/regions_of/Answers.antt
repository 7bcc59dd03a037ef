use Rattle.std.proofs.Common.{◌≡◌, ℕ, length, map, subst}
use Rattle.std.specs.List.{All}
use Rattle.sheet_terms.specs.Numbers.{border}
use Rattle.plane_chains.specs.EdgeBoxes.{pair_of}
use Rattle.plane_sheets.specs.Found.{IsWithin, shown, side_regions}
use Rattle.plane_sheets.specs.Seen.{seen_in}
use Rattle.plane_sheets.proofs.Bordering.{as_read, stored_below}
use Rattle.plane_sheets.proofs.Naming.{labels_below, regions_are}
use Rattle.plane_sheets.proofs.Outcomes.{if_ok}
use Rattle.plane_sheets.proofs.regions.regions_of.Goals as goal

pub grouped-requires-clause-places : goal.grouped-requires-clause-places
grouped-requires-clause-places c = rw c.deref.ensures.value c.in_ok-edges.ensures.places

pub grouped-requires-clause-grouped : goal.grouped-requires-clause-grouped
grouped-requires-clause-grouped c = rw c.deref.ensures.value c.in_ok-edges.ensures.grouped

pub returns-clause-regions : goal.returns-clause-regions
returns-clause-regions c =
    let at = seen_in c.args.flat in
    let nets = c.args.chain.now.nets.0 in
    if_ok c.grouped.result _ _
    (λ rs made labels cs stored counted.
    regions_are at labels (map (border at labels cs) cs) c.args.most c.in_ok-edges.edges.items rs.items (c.in_ok-edges.ensures.borders labels cs stored counted)
    (subst (λ found. (n most : ℕ) → All (IsWithin n most) found → map shown rs.items ≡ side_regions at most n found) c.deref.ensures.value made (length labels) c.args.most
    (c.in_ok-edges.ensures.within (length labels)
    (stored_below labels cs (map pair_of c.args.chain.now.edges.items) nets (as_read cs c.args.chain.now.edges.items nets stored) counted)))) c.grouped.ensures

pub returns-clause-labels : goal.returns-clause-labels
returns-clause-labels c =
    let at = seen_in c.args.flat in
    let nets = c.args.chain.now.nets.0 in
    if_ok c.grouped.result _ _
    (λ rs made labels cs stored counted.
    labels_below at c.args.most (length labels) c.in_ok-edges.edges.items rs.items
    (subst (λ found. (n most : ℕ) → All (IsWithin n most) found → map shown rs.items ≡ side_regions at most n found) c.deref.ensures.value made (length labels) c.args.most
    (c.in_ok-edges.ensures.within (length labels)
    (stored_below labels cs (map pair_of c.args.chain.now.edges.items) nets (as_read cs c.args.chain.now.edges.items nets stored) counted)))) c.grouped.ensures
