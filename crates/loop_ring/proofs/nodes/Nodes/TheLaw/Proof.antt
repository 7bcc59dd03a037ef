-- A `&` to the nodes is a `&` to each. Assumes `Logic`.
use denote.Param.Shared.{copy_shared}
use denote.Struct.Field.{unit-field}
use denote.Struct.Laws.{unit-copy}
use denote.Struct.Lending.{of_Lends}
use Rattle.loop_ring.specs.contracts.nodes.Nodes.{struct, the_codes, the_heap, the_lent, the_row}
use Rattle.loop_ring.proofs.nodes.Nodes.TheLaw.Statement.{statement}
use Rattle.loop_ring.proofs.Lending.{lends_nodes-laws, lends_nodes-Lends}

pub shares : statement
shares =
    of_Lends struct the_codes the_heap the_lent (λ nodes p. lends_nodes-laws nodes.list) (copy_shared unit-field unit-copy, tt)
    (λ M 𝓤 𝓛 nodes p. lends_nodes-Lends 𝓛 (the_row).lives nodes.list)
