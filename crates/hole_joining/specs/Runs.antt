-- Runs of a ring's places with a box round each.
use Rattle.std.specs.Prelude.{◌≡◌, ℕ, ◌+◌, ◌-◌, ◌≤◌, ℤ, pos, ◌≤ℤ◌, List, [], ◌∷◌, ◌++◌, cond, nat_lt, length, get_or}
use Rattle.std.specs.Prelude.{take, drop, Option, Some, None}
use Rattle.std.specs.Int.{int_min, int_max}
use Rattle.std.specs.List.{All}
use Rattle.face_plane.specs.Planes.{Plane}
use Rattle.hole_joining.specs.declared.bridge.Bridge.{Bridge}
use Rattle.hole_joining.specs.declared.runs.Run.{Run}

-- the point lies in the run's box
pub record IsRound (r : Run) (p : ℤ × ℤ) : Type 0 where
  pub left : r.low.0 ≤ℤ p.0
  pub right : p.0 ≤ℤ r.high.0
  pub bottom : r.low.1 ≤ℤ p.1
  pub top : p.1 ≤ℤ r.high.1

-- runs of a list's first places, each with its points in its box
abbrev pub AreRuns : Plane → List Run → List ℕ → Type 0
AreRuns at [] vs = Unit {0}
AreRuns at (r ∷ rs) vs = (r.count ≤ length vs) × All (λ v. IsRound r (at v)) (take r.count vs) × AreRuns at rs (drop r.count vs)

-- each ring has its own
pub record HaveRuns (at : Plane) (rings : List (List ℕ)) (runs : List (List Run)) : Type 0 where
  pub count : length runs ≡ length rings
  pub each : (i : ℕ) → AreRuns at (get_or runs i []) (get_or rings i [])

-- the best bridge so far, if there is one, is at most that long
abbrev pub IsFar : Option Bridge → ℤ → Type 0
IsFar None d = ⊥
IsFar (Some b) d = pos b.squared_length ≤ℤ d

-- as many places as both have, and a box round both boxes
abbrev pub both : Run → Run → Run
both r s =
    record {
      count = r.count + s.count;
      low = (int_min r.low.0 s.low.0, int_min r.low.1 s.low.1);
      high =
          (int_max r.high.0 s.high.0, int_max r.high.1 s.high.1);
    }

-- one place
abbrev pub run_at : ℤ × ℤ → Run
run_at p = record { count = 1; low = p; high = p }

-- the run with a place made wider
abbrev pub spread : List Run → ℕ → Run → List Run
spread [] place more = []
spread (r ∷ rs) place more = cond (nat_lt place r.count) (both r more ∷ rs) (r ∷ spread rs (place - r.count) more)

-- a list without so many members from one on
abbrev pub without : ℕ → ℕ → List ℕ → List ℕ
without i count vs = take i vs ++ drop (i + count) vs
