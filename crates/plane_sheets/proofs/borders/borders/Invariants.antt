use Rattle.std.proofs.Common.{◌≡◌, ◌<◌, ◌≤◌, ℕ, List, length, map, take}
use Rattle.std.specs.List.{All, flat_map}
use Rattle.plane_chains.specs.EdgeBoxes.{pair_of}
use Rattle.plane_chains.specs.Nets.{IsStored}
use Rattle.sheet_terms.specs.Chains.{ChainEdge}
use Rattle.sheet_terms.specs.Numbers.{border}
use Rattle.sheet_terms.specs.Regions.{edge_at}
use Rattle.plane_sheets.specs.Dealt.{edges_in}
use Rattle.plane_sheets.specs.Found.{AreCounted, AreWithin}
use Rattle.plane_sheets.specs.Seen.{seen_in}
use Rattle.plane_sheets.proofs.borders.borders.Given as goal

abbrev pub invariant-loop-edge : goal.invariant-loop-edge
invariant-loop-edge l = record {
  borders : (labels : List (List ℕ)) (cs : List ChainEdge) → IsStored cs l.chain.edges.items l.chain.nets.0 → AreCounted labels cs →
      (j k : ℕ) → j < length labels → 0 < k → k ≤ l.most → edges_in j k l.found.items ≡ flat_map (edge_at j k) (map (border (seen_in l.flat) labels cs) (take l.edge cs));
  within : AreWithin l.most l.chain.nets.0 l.found.items;
  places : All (λ e. All (λ v. v < length l.flat.points.now) e.ends) l.found.items;
}
