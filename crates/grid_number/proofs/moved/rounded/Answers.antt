use Rattle.std.proofs.Common.{◌≡◌, ◌+◌, ◌<◌, ◌≤◌, ◌⊎◌, ℕ, inl, inr, get_or, arith}
use Rattle.std.proofs.lemmas.Grind.{common_steps}
use Rattle.grid_number.specs.Reading.{carry_of, saturated, saturation}
use Rattle.grid_number.proofs.moved.rounded.Goals as goal

-- a size stays as it is where a low digit is dropped, or where it is full
same : (kept dropped : ℕ) → kept ≤ saturation → (dropped < 53) ⊎ ((53 ≤ dropped) × (kept ≡ saturation)) → kept ≡ saturated (kept + carry_of dropped)
same kept dropped within (inl low) = grind (arith, common_steps)
same kept dropped within (inr full) = grind (arith, common_steps)

pub returns-then-kept-eq-FULL : goal.returns-then-kept-eq-FULL
returns-then-kept-eq-FULL c = same c.args.kept (get_or c.args.lost.now 0 0) c.requires.kept c.if-kept-eq-FULL.either
