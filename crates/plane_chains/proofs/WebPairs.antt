-- The pairs of edges of a chain that cross, and the chain's edges, as code reads them.
use Rattle.std.proofs.Common.{◌≡◌, ◌<◌, ◌∙◌, ℕ, Bool, List, [], ◌∷◌, ap, arith, get_or, length, map, refl, subst, suc, sym}
use Rattle.std.specs.List.{All}
use Rattle.std.proofs.lemmas.List.{length-map}
use Rattle.chain_laws.proofs.Places.{length-up_from}
use Rattle.chain_terms.specs.Sums.{upto}
use Rattle.face_plane.specs.Planes.{Plane}
use Rattle.plane_chains.specs.declared.telling.Web.{Web}
use Rattle.plane_chains.specs.EdgeBoxes.{pair_of}
use Rattle.plane_chains.specs.Pairs.{IsCrossingPair, crossing_pairs}
use Rattle.plane_chains.specs.Tellings.{has_key, unmarked}
use Rattle.plane_chains.specs.Ways.{ways_of}
use Rattle.plane_chains.specs.Webs.{IsWeb}
use Rattle.std.specs.Prelude.{◌&&◌, false, not}
use Rattle.plane_chains.proofs.GridPoints.{pairs_cross}
use Rattle.plane_chains.proofs.PartWays.{crossing_first}
use Rattle.plane_chains.proofs.PlaceLists.{below_sum, chain_full, chain_places, sum_of}

module _ (at : Plane) (rims : List (List ℕ)) (numbers : List ℕ) (marks : List Bool) (web : Web) (is : IsWeb at rims numbers marks web) where
  module _ (edges pairs : List (List ℕ)) (edges_are : edges ≡ web.chain.edges.items) (pairs_are : pairs ≡ web.pairs.items) where
    read_pairs : map pair_of pairs ≡ crossing_pairs at (map pair_of edges)
    read_pairs = ap (map pair_of) pairs_are ∙ is.pairs ∙ ap (λ es. crossing_pairs at (map pair_of es)) (sym edges_are)

    pub web_crossing : All (IsCrossingPair at (map pair_of edges)) (map pair_of pairs)
    web_crossing = subst (λ ps. All (IsCrossingPair at (map pair_of edges)) ps) (sym read_pairs) (pairs_cross at (map pair_of edges))

    pub web_firsts : All (λ (p : ℕ × ℕ). p.0 < length edges) (map pair_of pairs)
    web_firsts k d low = crossing_first at edges (get_or (map pair_of pairs) k d) (web_crossing k d low)

  pub web_places : (m : ℕ) → All (λ rim. All (λ v. v < m) rim) rims → All (λ e. All (λ v. v < m) e) web.chain.edges.items
  web_places m all =
      chain_places m (suc (sum_of numbers)) rims numbers marks web.chain.edges.items web.chain.nets.0 all (is.chain (suc (sum_of numbers)) (below_sum numbers))

  pub web_full : length web.chain.nets.0 ≡ length web.chain.edges.items
  web_full =
      chain_full (suc (sum_of numbers)) (ways_of rims numbers marks) web.chain.edges.items web.chain.nets.0 (is.chain (suc (sum_of numbers)) (below_sum numbers))

-- there are as many marks as rims
pub unmarked_long : (rims : List (List ℕ)) (keys : List (ℕ × ℕ)) (marks : List Bool) → length (unmarked rims keys marks) ≡ length rims
unmarked_long rims keys marks =
    length-map (upto (length rims)) (λ i. get_or marks i false && not (has_key keys (get_or rims i []))) ∙ length-up_from 0 (length rims)

pub nothing_of : {X : Type 0} (xs : List X) → length xs ≡ 0 → xs ≡ []
nothing_of [] h = refl
nothing_of (x ∷ xs) h = absurd (omega (arith, h))
