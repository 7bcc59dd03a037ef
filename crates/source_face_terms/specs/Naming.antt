-- How copies name what they are copies of.
use Rattle.std.specs.Prelude.{◌≡◌, ◌<◌, Bool, List}
use Rattle.std.specs.List.{All}
use Rattle.chain_terms.specs.Chains.{all_edges}
use Rattle.chain_terms.specs.Ranks.{twin}
use Rattle.mb_base.specs.declared.results.Origin.{Origin}
use Rattle.mb_base.specs.declared.results.Origin.TheVariants.{PVertex, QVertex, PEdge, QEdge}
use Rattle.side_terms.specs.Sides.{Side}
use Rattle.side_terms.specs.Lists.{Copy}

-- an edge is named by that of its half-edges which comes before its twin
abbrev pub NamesLower : Side → Side → Origin → Type 0
NamesLower p q (PVertex v) = Unit {0}
NamesLower p q (QVertex v) = Unit {0}
NamesLower p q (PEdge e face) = e < twin (all_edges p.triples) e
NamesLower p q (QEdge e face) = e < twin (all_edges q.triples) e

-- all copies name edges so, and whether one is prescribed a negative number of times depends only on what it is a copy of
pub record AreNamed (p q : Side) (cs : List Copy) : Type 0 where
  pub lower : All (λ c. NamesLower p q c.origin) cs
  pub sign : Origin → Bool
  pub signed : All (λ c. c.negative ≡ sign c.origin) cs
