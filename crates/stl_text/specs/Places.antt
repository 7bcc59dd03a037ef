-- Places in the grammar of STL as the definitions have them, and what is known of a facet there.
use Rattle.std.specs.Prelude.{◌≡◌, ℕ, ◌<◌}
use Rattle.format_terms.specs.StlGrammar as terms
use Rattle.stl_text.specs.declared.grammar.Place.{Place}
use Rattle.stl_text.specs.declared.grammar.Place.TheVariants.{BeforeSolid, InSolid, Normal, NormalX, NormalY, NormalZ, Outer, Loop, Vertex, Number, EndLoop, EndFacet, AfterSolid}

abbrev pub place_of : Place → terms.Place
place_of BeforeSolid = terms.BeforeSolid
place_of InSolid = terms.InSolid
place_of Normal = terms.Normal
place_of NormalX = terms.NormalX
place_of NormalY = terms.NormalY
place_of NormalZ = terms.NormalZ
place_of Outer = terms.Outer
place_of Loop = terms.Loop
place_of Vertex = terms.Vertex
place_of Number = terms.Number
place_of EndLoop = terms.EndLoop
place_of EndFacet = terms.EndFacet
place_of AfterSolid = terms.AfterSolid

-- a facet has three corners where it ends, and before that fewer
abbrev pub HasCorners : terms.Place → ℕ → Type 0
HasCorners terms.EndLoop count = count ≡ 3
HasCorners terms.EndFacet count = count ≡ 3
HasCorners _ count = count < 3
