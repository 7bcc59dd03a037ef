-- The half-edges in doubt: of those that can be collapsed and their twins the lesser ones are among them.
use Rattle.std.specs.Prelude.{◌≡◌, ◌*◌, ◌<◌, ℕ, ℤ, List, [], Bool, true, get_or, length, min}
use Rattle.std.specs.List.{All, Contains}
use Rattle.chain_terms.specs.Chains.{all_edges}
use Rattle.chain_terms.specs.Ranks.{start, finish, twin}
use Rattle.mesh_terms.specs.Meshes.{Triple}
use Rattle.tidy_terms.specs.Collapsible.{is_collapsible}
use Rattle.tidy_terms.specs.PointTriples.{same_point}
use Rattle.mesh_tidy.specs.TidySurface.{TidySurface, Has, IsTwin, left_of, number_of}

-- half-edges of so many triangles
abbrev pub AreHalves : List Triple → List ℕ → Type 0
AreHalves ts doubts = All (λ h. h < 3 * length ts) doubts

-- the ends of the half-edge lie at one point
abbrev pub lies_at_one : List (List ℤ) → List Triple → ℕ → Bool
lies_at_one points ts h = same_point (get_or points (start (all_edges ts) h) []) (get_or points (finish (all_edges ts) h) [])

-- of each half-edge whose ends do and its twin the lesser is in the list
abbrev pub HasLesserAtOne : List (List ℤ) → List Triple → List ℕ → Type 0
HasLesserAtOne points ts doubts = (h : ℕ) → h < 3 * length ts → lies_at_one points ts h ≡ true → Contains doubts (min h (twin (all_edges ts) h))

-- of a half-edge that is left and its twin the lesser is in the list
pub record HasLesser (s : TidySurface) (doubts : List ℕ) (h : ℕ) : Type 0 where
  pub other : ℕ
  pub pair : IsTwin s h other
  pub among : Contains doubts (min h other)

-- it is where the half-edge can be collapsed
abbrev pub AreDoubted : List (List ℤ) → TidySurface → List ℕ → Type 0
AreDoubted points s doubts = (h : ℕ) → Has s h → is_collapsible points (left_of s) (number_of s h) ≡ true → HasLesser s doubts h
