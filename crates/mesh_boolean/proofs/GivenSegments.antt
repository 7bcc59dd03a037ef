-- The segments of both sides' faces, from what is given.
use Rattle.std.proofs.Common.{◌≡◌, ℕ, ℤ, ◌+◌, List, sym, ap, subst, ◌∙◌, arith}
use Rattle.mb_base.specs.declared.op.Op.{Op}
use Rattle.mb_base.specs.declared.results.Hits.{Hits}
use Rattle.mb_base.specs.declared.results.Windings.{Windings}
use Rattle.mb_base.specs.declared.results.Origin.TheVariants.{PVertex, QVertex}
use Rattle.side_terms.specs.Sides.{IsSide, Side}
use Rattle.side_terms.specs.Prescribed.{p_kept, q_kept}
use Rattle.retained_verts.specs.Handed.{copies, numbers}
use Rattle.retained_verts.specs.declared.list.Prescribed.{Prescribed}
use Rattle.source_faces.specs.declared.lists.runs.CopyRange.{CopyRange}
use Rattle.source_faces.specs.declared.lists.stands.Stand.{Stand}
use Rattle.source_faces.specs.Agreement.{records_of}
use Rattle.source_faces.specs.Laws.{ListsCanBeSegments, ListsGiveSegments, PrescribedHaveLists}
use Rattle.source_faces.specs.ListParts.{CanBeSegments, segments_by}
use Rattle.source_face_terms.specs.Filled.{points_of_copies}
use Rattle.source_faces.specs.Given.{given_p_runs, given_q_runs, given_stands}
use Rattle.source_faces.proofs.FromLists.{have_copies}
use Rattle.mesh_boolean.specs.BoundedFaces.{HaveSegments}
use Rattle.mesh_boolean.specs.GivenSegments.{AreGiven, GivenHaveSegments}

-- the laws that this stands on
pub record HaveLaws : Type 0 where
  pub lists : PrescribedHaveLists
  pub segments : ListsGiveSegments
  pub paired : ListsCanBeSegments

pub given_segments : (laws : HaveLaws) (op : Op) (p q : Side) (windings : Windings) (hits : Hits) (r : Prescribed) → IsSide p → IsSide q →
    AreGiven op p q windings hits r → GivenHaveSegments op p q windings hits
given_segments laws op p q windings hits r p_side q_side h =
    let n = numbers windings hits in
    let cs = copies op p q windings hits in
    let k = p_kept op n + q_kept op n in
    let p_runs = given_p_runs op n in
    let q_runs = given_q_runs op n in
    let stands = given_stands op p q n in
    let lists = laws.lists op p q n p_side q_side h.fit.w03 h.fit.w30 h.fit.x12 h.fit.x21 in
    let segments = laws.segments p q cs k p_runs q_runs stands lists in
    let paired = laws.paired p q cs k p_runs q_runs stands lists h.balance in
    let from_0 : (f : ℕ) → f ≡ 0 + f = λ f. omega arith in
    record {
      p_faces = record {
        copies = have_copies p p_runs cs PVertex k lists.p_copies lists.p_order h.few;
        ascend = lists.ascend;
        each = λ f low. subst (λ (x : ℕ). CanBeSegments p p_runs (points_of_copies cs) f (records_of stands x)) (from_0 f) (paired.0 f low);
      };
      q_faces = record { copies = have_copies q q_runs cs QVertex k lists.q_copies lists.q_order h.few; ascend = lists.ascend; each = paired.1 };
      p_same = λ f low. ap (λ x. segments_by p p_runs (points_of_copies cs) f (records_of stands x)) (sym (from_0 f)) ∙ segments.0 f low;
      q_same = segments.1;
    }

-- a side has its segments from the same lists
pub segments_same : (side : Side) (rs us : List CopyRange) (ps ts : List (List ℤ)) (x : ℕ) (ss vs : List Stand) → rs ≡ us → ps ≡ ts → ss ≡ vs →
    HaveSegments side us ts x vs → HaveSegments side rs ps x ss
segments_same side rs us ps ts x ss vs e f g h =
    subst (λ (l : List CopyRange). HaveSegments side l ps x ss) (sym e)
    (subst (λ (l : List (List ℤ)). HaveSegments side us l x ss) (sym f) (subst (λ (l : List Stand). HaveSegments side us ts x l) (sym g) h))
