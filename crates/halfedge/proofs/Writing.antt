-- Partners that are written into a list, pair by pair.
use Rattle.std.proofs.Common.{◌≡◌, ◌<◌, ℕ, List, get_or}
use Rattle.halfedge.specs.Pairing.{Half, half_at}

-- the first i pairs are written, and what stood right has stayed
pub record AreWrittenTo (partner : ℕ → ℕ) (ups downs : List Half) (i : ℕ) (old new : List ℕ) : Type 0 where
  pub up : (j : ℕ) → j < i → get_or new (half_at ups j) 0 ≡ partner (half_at ups j)
  pub down : (j : ℕ) → j < i → get_or new (half_at downs j) 0 ≡ partner (half_at downs j)
  pub kept : (h : ℕ) → get_or old h 0 ≡ partner h → get_or new h 0 ≡ partner h
