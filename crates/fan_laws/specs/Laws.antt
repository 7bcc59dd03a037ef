-- The laws of fans, as statements.
use Rattle.std.specs.Prelude.{◌≡◌, ℕ, ◌<◌, ◌≤◌, ◌*◌, ℤ, List, None, length, map}
use Rattle.std.specs.List.{All}
use Rattle.chain_terms.specs.Chains.{IsClosed, all_edges, dir}
use Rattle.halfedge.specs.Clean.{IsClean}
use Rattle.mesh_terms.specs.Limits.{most_triangles}
use Rattle.mesh_terms.specs.Meshes.{HasThree, IsAccepted, IsBelow, Triple}
use Rattle.pinch_split.specs.Back.{named_by}
use Rattle.sheet_terms.specs.Twins.{twins_by_angle}
use Rattle.sheet_terms.specs.Vertices.{Parted, fans_by, over_fans, parted_by, repeated, settled}
use Rattle.fan_laws.specs.Pairs.{ArePaired}

-- twins by angle are twins: each runs back along the other
abbrev pub TwinsByAngleArePaired : Type 0
TwinsByAngleArePaired =
    (points : List (List ℤ)) (ts : List Triple) → All HasThree ts → IsClosed (all_edges ts) → ArePaired (all_edges ts) (twins_by_angle points ts)

-- the edges of triangles over their fans
abbrev pub fan_edges : ℕ → List Triple → List ℕ → List (ℕ × ℕ)
fan_edges n ts twins = all_edges (over_fans (fans_by n ts twins).of (length ts))

-- changes of twins come to an end: they leave twins, and no half-edge runs between the same two fans as another
pub record AreSettled (n : ℕ) (ts : List Triple) (twins : List ℕ) : Type 0 where
  pub paired : ArePaired (all_edges ts) twins
  pub none : repeated (fan_edges n ts twins) ≡ None
  pub once : (a b : ℕ) → dir (fan_edges n ts twins) a b ≤ 1

abbrev pub ChangesSettle : Type 0
ChangesSettle =
    (n : ℕ) (ts : List Triple) (twins : List ℕ) → All HasThree ts → All (IsBelow n) ts → ArePaired (all_edges ts) twins → AreSettled n ts (settled n ts twins)

-- triangles whose fans can be parted: each has three of so many places, the edges are closed, and they are not too many
pub record CanPart (n : ℕ) (ts : List Triple) : Type 0 where
  pub three : All HasThree ts
  pub below : All (IsBelow n) ts
  pub closed : IsClosed (all_edges ts)
  pub few_triples : length ts ≤ most_triangles

-- closed triangles with one vertex for each fan, by the angles round their edges
abbrev pub parted : List (List ℤ) → List Triple → Parted
parted points ts = parted_by (length points) ts (settled (length points) ts (twins_by_angle points ts))

-- they make a closed mesh with one fan at each vertex and each directed edge once; each vertex was one of the given ones
pub record IsParted (n : ℕ) (ts : List Triple) (p : Parted) : Type 0 where
  pub accepted : IsAccepted (length p.from) p.triples
  pub clean : IsClean (all_edges p.triples)
  pub once : (a b : ℕ) → dir (all_edges p.triples) a b ≤ 1
  pub from : All (λ v. v < n) p.from
  pub back : map (named_by p.from) p.triples ≡ ts
  pub few : 2 * length p.from ≤ 3 * length ts

abbrev pub FansPart : Type 0
FansPart = (points : List (List ℤ)) (ts : List Triple) → CanPart (length points) ts → IsParted (length points) ts (parted points ts)
