-- The hits of two sides agree.
use Rattle.std.specs.Prelude.{List, length}
use Rattle.chain_terms.specs.Chains.{all_edges}
use Rattle.mb_base.specs.declared.results.Hit.{Hit}
use Rattle.side_terms.specs.Conservation.{half_number, PairIdentity}
use Rattle.side_terms.specs.Sides.{Side}

-- for a face of each side, the numbers of the one's half-edges with the other add up to those of the other's with the one
abbrev pub PairsAgree : Side → Side → List Hit → List Hit → Type 0
PairsAgree p q p_hits q_hits =
    PairIdentity (length p.triples) (length q.triples) (half_number (all_edges p.triples) p_hits) (half_number (all_edges q.triples) q_hits)
