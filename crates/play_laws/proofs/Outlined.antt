-- Outlines at points of the grid: one without points, and one of one loop.
use Rattle.std.proofs.Common.{◌≡◌, ◌≤◌, ℤ, pos, List, [], length, refl, arith}
use Rattle.std.proofs.lemmas.Int.{ints}
use Rattle.std.proofs.lemmas.List.Elements.{All-map, All-nil}
use Rattle.std.proofs.lemmas.List.Sorted.{IsPermutation-refl}
use Rattle.mesh_terms.specs.Points.{IsPoint, coordinate_of}
use Rattle.outline_terms.specs.Outlines.{flat_at_zero, ring_of}
use Rattle.outlines.proofs.Rounds.{ring_outline}
use Rattle.play_terms.specs.Sound.{IsRing}
use Rattle.play_laws.specs.ScriptsReadingBack.{IsGivenOutline}

pub empty_outline : IsGivenOutline (record { points = []; loops = [] })
empty_outline = record {
  outline = record { each = IsPermutation-refl []; long = All-nil (λ loop. 3 ≤ length loop); flat = All-nil (λ p. coordinate_of p 2 ≡ pos 0); few = omega arith };
  on_grid = All-nil IsPoint;
}

pub ring_given : (ring : List (List ℤ)) → IsRing ring → IsGivenOutline (ring_of ring)
ring_given ring is = record {
  outline = ring_outline ring is.some is.few;
  on_grid = All-map IsPoint flat_at_zero ring (λ k d low. record { three = refl; x = (is.on_grid k d low).0; y = (is.on_grid k d low).1; z = omega (arith, ints) });
}
