use Rattle.std.proofs.Common.{drop}
use Rattle.std.specs.List.{flat_map}
use Rattle.std.proofs.lemmas.Bool.Decides.{same_from_decides}
use Rattle.std.proofs.lemmas.Slice.Eq.{slice_eq-Decides}
use Rattle.chain_terms.specs.Paths.{round_edges}
use Rattle.sheet_terms.specs.Filled.{same_boundary}
use Rattle.plane_remesh.proofs.Rising.{AreGathered, pair_decides, tests_lists}
use Rattle.plane_remesh.proofs.boundary.have_same_boundary.Goals as goal

pub returns : goal.returns
returns c =
    let rims = flat_map round_edges c.args.rims.now.0 in
    let walks = flat_map round_edges (drop c.args.first c.args.walks.now.0) in
    let ups = c.in_ok-ups.ups.items in
    let downs = c.in_ok-downs.downs.items in
    let are : AreGathered rims walks ups downs = record {
      ups_moved = c.in_ok-ups.ensures.moved;
      ups_sorted = c.in_ok-ups.ensures.sorted;
      downs_moved = c.in_ok-downs.ensures.moved;
      downs_sorted = c.in_ok-downs.ensures.sorted;
    } in
    same_from_decides c.eq.result (same_boundary walks rims) (slice_eq-Decides pair_decides ups downs c.eq.result c.eq.ensures) (tests_lists rims walks ups downs are)
