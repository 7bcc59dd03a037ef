use Rattle.std.proofs.Common.{arith, length, map, subst, suc, sym, ◌<◌, ◌≤◌, ◌∙◌, ap}
use Rattle.std.specs.List.{All}
use Rattle.box_tree.specs.declared.TheConstants.{MOST_BOXES}
use Rattle.face_plane.specs.Planes.{face_plane}
use Rattle.plane_chains.specs.EdgeBoxes.{pair_of}
use Rattle.plane_chains.specs.Nets.{IsStored}
use Rattle.plane_chains.specs.Pairs.{crossing_pairs}
use Rattle.plane_chains.specs.Ways.{way_chain, ways_of}
use Rattle.plane_chains.proofs.NetSizes.{sizes_few}
use Rattle.plane_chains.proofs.PlaceLists.{below_sum, chain_places, sum_of}
use Rattle.plane_chains.proofs.telling.Web.of.Goals as goal

pub crossings-requires : goal.crossings-requires
crossings-requires c =
    let labels = c.deref.result.now in
    let points = c.args.flat.points.now in
    subst (λ es. All (λ e. All (λ v. v < length points) e) es) (sym c.deref-2.ensures.value)
    (chain_places (length points) (suc (sum_of labels)) c.args.faces.now.rims.0 labels c.args.marks.now c.in_ok-chain.chain.edges.items c.in_ok-chain.chain.nets.0
    c.requires.places (c.in_ok-chain.ensures.stored (suc (sum_of labels)) (below_sum labels)))

pub returns : goal.returns
returns c =
    let labels = c.deref.result.now in
    let at = face_plane c.args.flat.plane.drop c.args.flat.turned c.args.flat.points.now in
    record {
      chain = λ n h.
          subst (λ ls. IsStored (way_chain n (ways_of c.args.faces.now.rims.0 ls c.args.marks.now)) c.in_ok-chain.chain.edges.items c.in_ok-chain.chain.nets.0) c.deref.ensures.value
          (c.in_ok-chain.ensures.stored n (subst (λ ls. All (λ l. l < n) ls) (sym c.deref.ensures.value) h));
      pairs = c.in_ok-pairs.ensures.pairs ∙ ap (λ es. crossing_pairs at (map pair_of es)) c.deref-2.ensures.value;
      few = subst (λ es. length es ≤ MOST_BOXES) c.deref-2.ensures.value c.in_ok-pairs.ensures.few;
      small = omega (
        arith,
        sizes_few (suc (sum_of labels)) (ways_of c.args.faces.now.rims.0 labels c.args.marks.now) c.in_ok-chain.chain.edges.items c.in_ok-chain.chain.nets.0
            (c.in_ok-chain.ensures.stored (suc (sum_of labels)) (below_sum labels)),
        c.in_ok-chain.ensures.few,
      );
    }
