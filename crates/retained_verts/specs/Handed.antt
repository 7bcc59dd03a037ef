-- Winding numbers and hits as they are handed over, and the copies that they prescribe.
use Rattle.std.specs.Prelude.{◌≡◌, List, length}
use Rattle.side_terms.specs.Lists.{Copy}
use Rattle.side_terms.specs.Prescribed.{Numbers, prescribed}
use Rattle.side_terms.specs.Standing.{IsBalanced}
use Rattle.chain_terms.specs.Chains.{all_edges}
use Rattle.mb_base.specs.declared.op.Op.{Op}
use Rattle.mb_base.specs.declared.results.Hits.{Hits}
use Rattle.mb_base.specs.declared.results.Windings.{Windings}
use Rattle.retained_verts.specs.Small.{AreSmallWindings}
use Rattle.side_terms.specs.Hits.{AreHits}
use Rattle.side_terms.specs.Sides.{Side}

-- they fit two sides: a small winding number for each corner, and hits of the edges of each side with the faces of the other
pub record FitSides (p q : Side) (windings : Windings) (hits : Hits) : Type 0 where
  pub w03 : length windings.w03.items ≡ length p.corners
  pub w30 : length windings.w30.items ≡ length q.corners
  pub w03_small : AreSmallWindings windings.w03.items
  pub w30_small : AreSmallWindings windings.w30.items
  pub x12 : AreHits (all_edges p.triples) (length q.triples) hits.x12.items
  pub x21 : AreHits (all_edges q.triples) (length p.triples) hits.x21.items

-- their lists
abbrev pub numbers : Windings → Hits → Numbers
numbers windings hits = record { w03 = windings.w03.items; w30 = windings.w30.items; x12 = hits.x12.items; x21 = hits.x21.items }

-- the prescribed vertices
abbrev pub copies : Op → Side → Side → Windings → Hits → List Copy
copies op p q windings hits = prescribed op p q (numbers windings hits)

-- each list has as many starts as ends among them
abbrev pub AreBalanced : Op → Side → Side → Windings → Hits → Type 0
AreBalanced op p q windings hits = IsBalanced p q (copies op p q windings hits)
