-- Labels of half-edges, fan by fan.
use Rattle.std.specs.Prelude.{◌≡◌, ℕ, ◌<◌, ◌⊎◌, ◌&&◌, ◌==◌, List, [], ◌∷◌, Bool, Option, None, Some, if◌then◌else◌, length, get_or}
use Rattle.mesh_terms.specs.Halves.{next_half}
use Rattle.sheet_terms.specs.Vertices.{around_by}
use Rattle.fan_laws.specs.Pairs.{Reaches}

-- half-edges of one fan have one label, which is one of them
pub record AreLabels (twins labels : List ℕ) : Type 0 where
  pub full : length labels ≡ length twins
  pub kept : (h : ℕ) → h < length twins → get_or labels (around_by twins h) 0 ≡ get_or labels h 0
  pub one : (h : ℕ) → h < length twins → Reaches twins h (get_or labels h 0)

-- the fan of a half-edge has it as its label, others have the labels that they had
pub record IsLabelled (twins : List ℕ) (h : ℕ) (old new : List ℕ) : Type 0 where
  pub full : length new ≡ length twins
  pub each : (x : ℕ) → x < length twins → ((get_or new x 0 ≡ h) × Reaches twins h x) ⊎ ((get_or new x 0 ≡ get_or old x 0) × (Reaches twins h x → ⊥))

-- two half-edges run between the same labels
abbrev pub run_alike : List ℕ → ℕ → ℕ → Bool
run_alike labels g h = (get_or labels g 0 == get_or labels h 0) && (get_or labels (next_half g) 0 == get_or labels (next_half h) 0)

-- the first of a list that runs as h, where it comes before h
abbrev pub first_between : List ℕ → List ℕ → ℕ → Option ℕ
first_between labels [] h = None
first_between labels (g ∷ gs) h = if g == h then None else if run_alike labels g h then Some g else first_between labels gs h
