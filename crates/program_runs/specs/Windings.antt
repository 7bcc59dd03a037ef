-- The winding number that a command says.
use Rattle.play_terms.specs.Commands.{Meanings}
use Rattle.winding.specs.Windings.{winding_at}

-- the winding number is that under the kernels of the grid and rounding to the nearest
abbrev pub windings : Meanings
windings = record { winding = λ point soup. winding_at point (record { points = soup.points; triples = soup.triples; labels = soup.labels }) }
