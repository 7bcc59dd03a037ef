-- What a split mesh has to do with the one that it was made from.
use Rattle.std.specs.Prelude.{◌≡◌, ℕ, ◌<◌, ℤ, List, [], length, get_or}
use Rattle.std.specs.List.{Contains}
use Rattle.mesh_terms.specs.Meshes.{Triple}

-- a triangle with its vertices named as others
abbrev pub named_by : List ℕ → Triple → Triple
named_by from t = (get_or from t.0 0, get_or from t.1 0, get_or from t.2 0)

-- each vertex is one of the old vertices and lies where that one does, and each of these occurs
pub record ComeFrom (points old : List (List ℤ)) (from : List ℕ) : Type 0 where
  pub each : length from ≡ length points
  pub there : (v : ℕ) → v < length points → (get_or from v 0 < length old) × (get_or points v [] ≡ get_or old (get_or from v 0) [])
  pub all : (w : ℕ) → w < length old → Contains from w
