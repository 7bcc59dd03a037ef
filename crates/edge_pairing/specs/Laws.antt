-- Laws of the pairing.
use Rattle.std.specs.Prelude.{◌≡◌, ℕ, ℤ, List}
use Rattle.chain_terms.specs.Odd.{backward}
use Rattle.edge_pairing.specs.Pairing.{paired_along, paired_across}

-- along an edge, starts and ends exchanged give each segment the other way
abbrev pub ExchangeReversesAlong : Type 0
ExchangeReversesAlong =
    (a b : List ℤ) (place : ℕ → List ℤ) (starts ends : List ℕ) →
    paired_along a b place ends starts ≡ backward (paired_along a b place starts ends)

-- and so where two faces cross
abbrev pub ExchangeReversesAcross : Type 0
ExchangeReversesAcross = (place : ℕ → List ℤ) (starts ends : List ℕ) → paired_across place ends starts ≡ backward (paired_across place starts ends)
