use Rattle.chain_laws.specs.Signs.{number_within}
use Rattle.chain_laws.specs.Counted.{entry_at, counts_at-parts}
use Rattle.chain_laws.proofs.laws.numbers_are_small.Goals as goal

pub returns-clause-within : goal.returns-clause-within
returns-clause-within c = λ es. let h = number_within es in (h.low, h.high)

pub returns-clause-sides : goal.returns-clause-sides
returns-clause-sides c = λ es none some b.
    let found = entry_at es none some b in
    let parts = counts_at-parts b found.member found.passes in
    (found.member, found.inside, parts.0, parts.1)
