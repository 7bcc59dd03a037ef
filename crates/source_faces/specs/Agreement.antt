-- What runs and records say of copies: which copies each vertex has, and in which lists the copies of hits stand.
use Rattle.std.specs.Prelude.{◌≡◌, ◌↔◌, ℕ, ◌+◌, ◌-◌, ◌*◌, ◌<◌, ◌≤◌, ℤ, pos, ◌<ℤ◌, List, true, false, Bool, filter}
use Rattle.std.specs.Prelude.{◌==◌, if◌then◌else◌, nat_lt, length, get_or}
use Rattle.std.specs.List.{All, Contains}
use Rattle.chain_terms.specs.Chains.{all_edges}
use Rattle.mb_base.specs.declared.results.Origin.{Origin}
use Rattle.mb_base.specs.declared.results.Origin.TheVariants.{PEdge, PVertex, QEdge, QVertex}
use Rattle.side_terms.specs.Sides.{IsSide, Side}
use Rattle.source_face_terms.specs.Segments.{vertex_point}
use Rattle.side_terms.specs.Lists.{Copy, HalfP, HalfQ, IsListOf, ListName, PairP, PairQ, no_copy, standing}
use Rattle.source_faces.specs.declared.lists.runs.CopyRange.{CopyRange}
use Rattle.source_faces.specs.declared.lists.stands.Stand.{Stand}
use Rattle.source_faces.specs.ListParts.{no_run}
use Rattle.source_faces.specs.Stands.{stands_before}

-- the copies of this origin are those of the run, and lie at this point
pub record IsRunOf (cs : List Copy) (o : Origin) (at : List ℤ) (r : CopyRange) : Type 0 where
  pub within : r.first + r.count ≤ length cs
  pub there : (v : ℕ) → v < length cs → ((get_or cs v no_copy).origin ≡ o) ↔ ((r.first ≤ v) × (v < r.first + r.count))
  pub signed : (v : ℕ) → r.first ≤ v → v < r.first + r.count → (get_or cs v no_copy).negative ≡ r.negative
  pub lies : (v : ℕ) → r.first ≤ v → v < r.first + r.count → (get_or cs v no_copy).point ≡ at

-- so for each vertex of a side
pub record AreRunsOf (cs : List Copy) (origin : ℕ → Origin) (side : Side) (runs : List CopyRange) : Type 0 where
  pub long : length runs ≡ length side.corners
  pub each : (v : ℕ) → v < length side.corners → IsRunOf cs (origin v) (vertex_point side v) (get_or runs v no_run)

-- runs follow one another, and all of them end by number k
pub record AreInOrder (k : ℕ) (runs : List CopyRange) : Type 0 where
  pub each : (v w : ℕ) → v < w → w < length runs → (get_or runs v no_run).first + (get_or runs v no_run).count ≤ (get_or runs w no_run).first
  pub last : All (λ r. r.first + r.count ≤ k) runs

-- list l of source face x, where the first side has so many faces
abbrev pub list_name : ℕ → ℕ → ℕ → ListName
list_name p_faces x l =
    if nat_lt x p_faces then (if nat_lt l 3 then HalfP (3 * x + l) else PairP x (l - 3)) else
    (if nat_lt l 3 then HalfQ (3 * (x - p_faces) + l) else PairQ (x - p_faces) (l - 3))

-- a copy of a hit, not of a vertex
abbrev pub IsHitCopy : Origin → Type 0
IsHitCopy (PVertex v) = ⊥
IsHitCopy (QVertex v) = ⊥
IsHitCopy (PEdge e f) = Unit {0}
IsHitCopy (QEdge e f) = Unit {0}

-- the copy stands in the list above 0, or below
abbrev pub StandsAs : Bool → ℤ → Type 0
StandsAs true n = pos 0 <ℤ n
StandsAs false n = n <ℤ pos 0

-- the records say how each copy of a hit stands in each list of each source face, and nothing else
pub record AreStandsOf (es ds : List (ℕ × ℕ)) (p_faces : ℕ) (cs : List Copy) (stands : List Stand) : Type 0 where
  pub each : (x l v : ℕ) (start : Bool) → v < length cs → IsHitCopy (get_or cs v no_copy).origin →
      StandsAs start (standing es ds (list_name p_faces x l) (get_or cs v no_copy)) →
      Contains stands (record { face = x; list = l; copy = v; start = start })
  pub only : (s : Stand) → Contains stands s →
      (s.copy < length cs) × IsHitCopy (get_or cs s.copy no_copy).origin
      × StandsAs s.start (standing es ds (list_name p_faces s.face s.list) (get_or cs s.copy no_copy))

abbrev pub no_stand : Stand
no_stand = record { face = 0; list = 0; copy = 0; start = false }

-- each record comes before those that follow it
abbrev pub Ascend : List Stand → Type 0
Ascend stands = (i j : ℕ) → i < j → j < length stands → stands_before (get_or stands i no_stand) (get_or stands j no_stand) ≡ true

-- the records of a source face
abbrev pub records_of : List Stand → ℕ → List Stand
records_of stands x = filter (λ s. s.face == x) stands

-- runs and records that tell all copies: those of vertices come before number k, those of hits from there on, in lists of the two sides
pub record HaveLists (p q : Side) (cs : List Copy) (k : ℕ) (p_runs q_runs : List CopyRange) (stands : List Stand) : Type 0 where
  pub p_side : IsSide p
  pub q_side : IsSide q
  pub p_copies : AreRunsOf cs PVertex p p_runs
  pub q_copies : AreRunsOf cs QVertex q q_runs
  pub p_order : AreInOrder k p_runs
  pub q_order : AreInOrder k q_runs
  pub hit_copies : AreStandsOf (all_edges p.triples) (all_edges q.triples) (length p.triples) cs stands
  pub later : All (λ s. k ≤ s.copy) stands
  pub listed : All (λ s. IsListOf (length p.triples) (length q.triples) (list_name (length p.triples) s.face s.list)) stands
  pub ascend : Ascend stands
