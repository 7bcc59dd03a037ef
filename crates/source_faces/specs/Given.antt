-- What the triangles of source faces are made from.
use Rattle.std.specs.Prelude.{◌≡◌, ◌+◌, ◌≤◌, List, ◌∷◌, [], map, length}
use Rattle.mb_base.specs.declared.op.Op.{Op}
use Rattle.mb_base.specs.declared.results.Hits.{Hits}
use Rattle.mb_base.specs.declared.results.Windings.{Windings}
use Rattle.mesh_check.specs.Reduced.{NoOpposite}
use Rattle.side_terms.specs.Sides.{Side}
use Rattle.side_terms.specs.Lists.{Copy}
use Rattle.side_terms.specs.Prescribed.{Numbers, crossing_count, p_kept, p_number, q_kept, q_number}
use Rattle.side_terms.specs.Standing.{StandInLists, count_all_starts}
use Rattle.source_faces.specs.declared.lists.runs.CopyRange.{CopyRange}
use Rattle.source_faces.specs.declared.lists.stands.Stand.{Stand}
use Rattle.source_faces.specs.Runs.{runs_from}
use Rattle.source_faces.specs.Stands.{sorted_stands}
use Rattle.source_face_terms.specs.Filled.{all_filled, points_of_copies}
use Rattle.retained_verts.specs.Handed.{AreBalanced, FitSides, copies, numbers}
use Rattle.retained_verts.specs.declared.list.Prescribed.{Prescribed}
use Rattle.source_faces.specs.Parts.{HaveParts, both_parts}

-- windings and hits of two sides without opposite triangles, and the vertices that they prescribe, which balance every list
pub record AreGiven (op : Op) (p q : Side) (windings : Windings) (hits : Hits) (r : Prescribed) : Type 0 where
  pub fit : FitSides p q windings hits
  pub p_apart : NoOpposite p.triples
  pub q_apart : NoOpposite q.triples
  pub points : r.points.items ≡ map (λ c. c.point) (copies op p q windings hits)
  pub kept : r.kept ≡ p_kept op (numbers windings hits) ∷ q_kept op (numbers windings hits) ∷ []
  pub two_lists : StandInLists p q (copies op p q windings hits)
  pub balance : AreBalanced op p q windings hits
  pub few : count_all_starts p q (copies op p q windings hits) ≤ 60000000

-- the faces of both sides are filled from runs and records, P's first, and these fillings are those of all source faces
pub record HaveAllParts (p q : Side) (cs : List Copy) (p_runs q_runs : List CopyRange) (stands : List Stand) : Type 0 where
  pub p_parts : HaveParts p p_runs (points_of_copies cs) 0 stands
  pub q_parts : HaveParts q q_runs (points_of_copies cs) (length p.triples) stands
  pub all : both_parts p q p_runs q_runs (points_of_copies cs) stands ≡ all_filled p q cs

-- the records of what is given
abbrev pub given_stands : Op → Side → Side → Numbers → List Stand
given_stands op p q n = sorted_stands op p q n.x12 n.x21 (p_kept op n + q_kept op n)

-- the runs of P's vertices, and of Q's
abbrev pub given_p_runs : Op → Numbers → List CopyRange
given_p_runs op n = runs_from 0 (map (p_number op) n.w03)

abbrev pub given_q_runs : Op → Numbers → List CopyRange
given_q_runs op n = runs_from (p_kept op n) (map (q_number op) n.w30)

-- so they are from the runs and records of what is given
abbrev pub GivenHaveParts : Op → Side → Side → Windings → Hits → Type 0
GivenHaveParts op p q windings hits =
    let n = numbers windings hits in HaveAllParts p q (copies op p q windings hits) (given_p_runs op n) (given_q_runs op n) (given_stands op p q n)

-- and there are few copies
abbrev pub AreFewGiven : Op → Windings → Hits → Type 0
AreFewGiven op windings hits = let n = numbers windings hits in p_kept op n + q_kept op n + crossing_count op n ≤ 60000000
