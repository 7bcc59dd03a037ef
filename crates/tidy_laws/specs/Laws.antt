-- What a collapse keeps, as statements.
use Rattle.std.specs.Prelude.{◌+◌, ◌≡◌, ◌≢◌, ℕ, ℤ, List, [], ◌⊎◌, ◌*◌, ◌/◌, ◌<◌, true, false, get_or, length}
use Rattle.std.specs.List.{All}
use Rattle.chain_terms.specs.Chains.{all_edges, IsClosed}
use Rattle.chain_terms.specs.Ranks.{start, finish, twin}
use Rattle.mesh_check.specs.Opposites.{third_vertex}
use Rattle.mesh_terms.specs.Halves.{next_half}
use Rattle.mesh_terms.specs.Meshes.{Mesh, Triple, HasThree, IsAccepted, IsBelow, is_used}
use Rattle.mesh_terms.specs.Volume.{volume6_of}
use Rattle.halfedge.specs.Clean.{IsClean}
use Rattle.tidy_terms.specs.Collapse.{collapsed, merged, stays}
use Rattle.tidy_terms.specs.Collapsible.{is_collapsible}
use Rattle.tidy_terms.specs.PointTriples.{count_at, same_point}
use Rattle.tidy_terms.specs.Tidy.{tidied, tidy_mesh}
use Rattle.tidy_laws.specs.Conditions.{CanCollapse, number_after}

-- closed triangles of three different vertices stay so, whichever two vertices are joined
abbrev pub StaysClosed : Type 0
StaysClosed = (a b : ℕ) → a ≢ b → (ts : List Triple) → IsClosed (all_edges ts) → IsClosed (all_edges (collapsed a b ts))

abbrev pub StaysThree : Type 0
StaysThree = (a b : ℕ) → a ≢ b → (ts : List Triple) → All HasThree ts → All HasThree (collapsed a b ts)

-- where both lie at one point, the volume stays
abbrev pub KeepsVolume : Type 0
KeepsVolume =
    (points : List (List ℤ)) (a b : ℕ) → a ≢ b → get_or points a [] ≡ get_or points b [] → (ts : List Triple) → volume6_of points (collapsed a b ts) ≡ volume6_of points ts

-- where the edge can be collapsed, one fan at each vertex stays one fan
abbrev pub StaysClean : Type 0
StaysClean = (ts : List Triple) (h a b c d : ℕ) → CanCollapse ts h a b c d → IsClean (all_edges ts) → IsClean (all_edges (collapsed a b ts))

-- and as many triangles lie at three different points, in this order up to the corner that one begins with
abbrev pub KeepsPoints : Type 0
KeepsPoints =
    (points : List (List ℤ)) (a b : ℕ) → a ≢ b → get_or points a [] ≡ get_or points b [] → (p q r : List ℤ) → same_point p q ≡ false → same_point q r ≡ false →
    same_point r p ≡ false → (ts : List Triple) → count_at points (p, q, r) (collapsed a b ts) ≡ count_at points (p, q, r) ts

-- the half-edges across the other four of the two triangles: from a to c and to d, and back
abbrev pub IsAcross : List Triple → ℕ → ℕ → Type 0
IsAcross ts h x =
    let es = all_edges ts in
    let g = twin es h in (x ≡ twin es (next_half h)) ⊎ ((x ≡ twin es (next_half (next_half h))) ⊎ ((x ≡ twin es (next_half g)) ⊎ (x ≡ twin es (next_half (next_half g)))))

-- any other half-edge that stays and does not run between c and d: if it can be collapsed afterwards, it could before
abbrev pub NothingElseOpens : Type 0
NothingElseOpens = (ts : List Triple) (h a b c d : ℕ) → CanCollapse ts h a b c d →
    (x u v : ℕ) → x < 3 * length ts → stays a b (get_or ts (x / 3) (0, 0, 0)) ≡ true → start (all_edges ts) x ≡ u → finish (all_edges ts) x ≡ v →
    (IsAcross ts h x → ⊥) → ((u ≡ c) × (v ≡ d) → ⊥) → ((u ≡ d) × (v ≡ c) → ⊥) →
    CanCollapse (collapsed a b ts) (number_after a b ts x) (merged a b u) (merged a b v) (merged a b (third_vertex ts x)) (merged a b (third_vertex ts (twin (all_edges ts) x))) →
    CanCollapse ts x u v (third_vertex ts x) (third_vertex ts (twin (all_edges ts) x))

-- what tidying keeps of triangles over so many points: three different vertices, closed, one fan at each vertex where it was so,
-- the volume, how many lie at three different points; and nothing is left that can be collapsed
pub record IsTidy (points : List (List ℤ)) (ts us : List Triple) : Type 0 where
  pub three : All HasThree us
  pub closed : IsClosed (all_edges us)
  pub below : All (IsBelow (length points)) us
  pub clean : IsClean (all_edges ts) → IsClean (all_edges us)
  pub none : (h : ℕ) → h < 3 * length us → is_collapsible points us h ≡ false
  pub volume : volume6_of points us ≡ volume6_of points ts
  pub at_points : (p q r : List ℤ) → same_point p q ≡ false → same_point q r ≡ false → same_point r p ≡ false → count_at points (p, q, r) us ≡ count_at points (p, q, r) ts

abbrev pub TidyingTidies : Type 0
TidyingTidies =
    (points : List (List ℤ)) (ts : List Triple) (labels : List (List ℕ)) → All (λ p. length p ≡ 3) points → All HasThree ts → IsClosed (all_edges ts) →
    All (IsBelow (length points)) ts → IsTidy points ts (tidied points ts labels).triples

-- triangles of two meshes lie at the same points: as many at each three different ones, in this order up to the corner that one begins with
abbrev pub LieAtSame : Mesh → Mesh → Type 0
LieAtSame m t =
    (p q r : List ℤ) → same_point p q ≡ false → same_point q r ≡ false → same_point r p ≡ false → count_at t.points (p, q, r) t.triples
    ≡ count_at m.points (p, q, r) m.triples

-- no half-edge can be collapsed
abbrev pub NoneCollapsible : Mesh → Type 0
NoneCollapsible m = (h : ℕ) → h < 3 * length m.triples → is_collapsible m.points m.triples h ≡ false

-- what the tidied mesh has to do with the given one: accepted, clean where that is, nothing left to collapse, the same volume and place
pub record IsTidyMesh (m t : Mesh) : Type 0 where
  pub accepted : IsAccepted (length t.points) t.triples
  pub clean : IsClean (all_edges m.triples) → IsClean (all_edges t.triples)
  pub none : NoneCollapsible t
  pub volume : volume6_of t.points t.triples ≡ volume6_of m.points m.triples
  pub at_points : LieAtSame m t

abbrev pub TidyMeshes : Type 0
TidyMeshes = (m : Mesh) → All (λ p. length p ≡ 3) m.points → IsAccepted (length m.points) m.triples → IsTidyMesh m (tidy_mesh m)

-- where the edge can be collapsed, exactly two triangles go, no triangle has b any more, and all other vertices in use stay so
pub record DropsOne (a b : ℕ) (ts : List Triple) : Type 0 where
  pub two_go : length (collapsed a b ts) + 2 ≡ length ts
  pub gone : is_used (collapsed a b ts) b ≡ false
  pub stay : (v : ℕ) → is_used ts v ≡ true → v ≢ b → is_used (collapsed a b ts) v ≡ true

abbrev pub CollapsesDropOne : Type 0
CollapsesDropOne = (ts : List Triple) (h a b c d : ℕ) → CanCollapse ts h a b c d → DropsOne a b ts
