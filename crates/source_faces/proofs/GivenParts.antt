-- The faces of both sides, from what is given.
use Rattle.std.proofs.Common.{◌≡◌, ℕ, zero, suc, ◌+◌, ◌-◌, ◌<◌, ◌≤◌, List, ◌∷◌, ◌++◌, map, length, refl, arith, sym, ap, subst, ◌∙◌}
use Rattle.std.specs.Prelude.{if◌then◌else◌}
use Rattle.std.proofs.lemmas.Bool.{le-ltb, lt-ltb}
use Rattle.std.proofs.lemmas.List.{map-append}
use Rattle.chain_terms.specs.Sums.{up_from, upto}
use Rattle.chain_laws.proofs.Places.{up_from-append}
use Rattle.mb_base.specs.declared.op.Op.{Op}
use Rattle.mb_base.specs.declared.results.Hits.{Hits}
use Rattle.mb_base.specs.declared.results.Windings.{Windings}
use Rattle.mb_base.specs.declared.results.Origin.TheVariants.{PVertex, QVertex}
use Rattle.mesh_terms.specs.Limits.{most_points}
use Rattle.side_terms.specs.Sides.{IsSide, Side}
use Rattle.side_terms.specs.Lists.{Copy}
use Rattle.side_terms.specs.Prescribed.{p_kept, q_kept}
use Rattle.retained_verts.proofs.AllStarts.{all_starts}
use Rattle.retained_verts.proofs.Lengths.{all_copies_counted, few_copies}
use Rattle.retained_verts.specs.Handed.{copies, numbers}
use Rattle.retained_verts.specs.declared.list.Prescribed.{Prescribed}
use Rattle.source_face_laws.specs.SegmentLaws.{PrescribedAreNamed}
use Rattle.source_face_terms.specs.Planes.{plane_drop_of}
use Rattle.source_faces.specs.declared.lists.runs.CopyRange.{CopyRange}
use Rattle.source_faces.specs.declared.lists.stands.Stand.{Stand}
use Rattle.source_faces.specs.Agreement.{HaveLists, records_of}
use Rattle.source_faces.specs.Laws.{ListsCanBeSegments, ListsGiveSegments, PrescribedHaveLists}
use Rattle.source_face_laws.specs.FillingLaws.{FacesFormLoops}
use Rattle.source_face_terms.specs.Assembling.{CanBeAssembled}
use Rattle.source_face_terms.specs.Filled.{filled_face, points_of_copies, source_drop}
use Rattle.source_faces.specs.Adding.{filled_by}
use Rattle.source_faces.specs.Given.{AreFewGiven, AreGiven, GivenHaveParts, HaveAllParts, given_p_runs, given_q_runs, given_stands}
use Rattle.source_faces.specs.Parts.{CanBePart}
use Rattle.source_faces.proofs.FromLists.{have_copies, part_same, part_there}

-- the laws that this stands on
pub record HaveLaws : Type 0 where
  pub lists : PrescribedHaveLists
  pub segments : ListsGiveSegments
  pub paired : ListsCanBeSegments
  pub named : PrescribedAreNamed
  pub loops : FacesFormLoops

-- functions that agree on some numbers give the same lists
same_on : {X : Type 0} (f g : ℕ → X) (k n : ℕ) → ((i : ℕ) → k ≤ i → i < k + n → f i ≡ g i) → map f (up_from k n) ≡ map g (up_from k n)
same_on f g k zero h = refl
same_on f g k (suc n) h =
    let here = h k (omega arith) (omega arith) in
    let rest = same_on f g (suc k) n (λ i a b. h i (omega (arith, a)) (omega (arith, b))) in cc

-- numbers from m on are those from 0 on, m added to each
shifted : {X : Type 0} (f : ℕ → X) (m k n : ℕ) → map f (up_from (m + k) n) ≡ map (λ i. f (m + i)) (up_from k n)
shifted f m k zero = refl
shifted f m k (suc n) =
    let e : suc (m + k) ≡ m + suc k = omega arith in
    ap (λ j. f (m + k) ∷ map f (up_from j n)) e ∙ ap (λ l. f (m + k) ∷ l) (shifted f m (suc k) n)

-- a list in two parts
in_two : {X : Type 0} (f g h : ℕ → X) (m n : ℕ) → ((i : ℕ) → i < m → f i ≡ h i) → ((i : ℕ) → i < n → g i ≡ h (m + i)) →
    map f (upto m) ++ map g (upto n) ≡ map h (upto (m + n))
in_two f g h m n first second =
    let one = same_on f h 0 m (λ i a b. first i (omega (arith, b))) in
    let two : map g (upto n) ≡ map h (up_from (0 + m) n) =
    same_on g (λ i. h (m + i)) 0 n (λ i a b. second i (omega (arith, b))) ∙ sym (shifted h m 0 n)
    ∙ ap (λ k. map h (up_from k n)) (let e : m + 0 ≡ 0 + m = omega arith in e) in
    let all = ap (map h) (up_from-append 0 m n) ∙ map-append h (upto m) (up_from (0 + m) n) in cc

-- the axis that a face of P drops, and one of Q
drop_of_p : (p q : Side) (f : ℕ) → f < length p.triples → plane_drop_of p f ≡ source_drop p q f
drop_of_p p q f h = sym (ap (λ b. if b then plane_drop_of p f else plane_drop_of q (f - length p.triples)) (lt-ltb f (length p.triples) h))

drop_of_q : (p q : Side) (g : ℕ) → plane_drop_of q g ≡ source_drop p q (length p.triples + g)
drop_of_q p q g =
    let x = length p.triples + g in
    let back : g ≡ x - length p.triples = omega arith in
    ap (plane_drop_of q) back
    ∙ sym (ap (λ b. if b then plane_drop_of p x else plane_drop_of q (x - length p.triples)) (le-ltb x (length p.triples) (omega arith)))

-- runs and records that tell all copies, which can be assembled
pub all_parts : (laws : HaveLaws) (p q : Side) (cs : List Copy) (k : ℕ) (p_runs q_runs : List CopyRange) (stands : List Stand) →
    HaveLists p q cs k p_runs q_runs stands → CanBeAssembled p q cs → length cs ≤ most_points → HaveAllParts p q cs p_runs q_runs stands
all_parts laws p q cs k p_runs q_runs stands lists can few =
    let points = points_of_copies cs in
    let m = length p.triples in
    let segments = laws.segments p q cs k p_runs q_runs stands lists in
    let paired = laws.paired p q cs k p_runs q_runs stands lists can.balance in
    let of_p : (f : ℕ) → f < m → CanBePart p p_runs points f (records_of stands f) =
    λ f h. part_there p q cs f p p_runs f (records_of stands f) (paired.0 f h) (segments.0 f h) (laws.loops p q cs can f (omega (arith, h))) in
    let of_q : (g : ℕ) → g < length q.triples → CanBePart q q_runs points g (records_of stands (m + g)) =
    λ g h. part_there p q cs (m + g) q q_runs g (records_of stands (m + g)) (paired.1 g h) (segments.1 g h)
    (laws.loops p q cs can (m + g) (omega (arith, h))) in
    let from_0 : (f : ℕ) → f ≡ 0 + f = λ f. omega arith in
    record {
      p_parts = record {
        copies = have_copies p p_runs cs PVertex k lists.p_copies lists.p_order few;
        ascend = lists.ascend;
        each = λ f h. subst (λ (x : ℕ). CanBePart p p_runs points f (records_of stands x)) (from_0 f) (of_p f h);
      };
      q_parts = record { copies = have_copies q q_runs cs QVertex k lists.q_copies lists.q_order few; ascend = lists.ascend; each = of_q };
      all =
          in_two (λ f. filled_by p p_runs points f (records_of stands (0 + f)))
          (λ g. filled_by q q_runs points g (records_of stands (m + g))) (filled_face p q cs) m (length q.triples)
          (λ f h. ap (λ x. filled_by p p_runs points f (records_of stands x)) (sym (from_0 f))
          ∙ part_same p q cs f p p_runs f (records_of stands f) (segments.0 f h) (drop_of_p p q f h))
          (λ g h. part_same p q cs (m + g) q q_runs g (records_of stands (m + g)) (segments.1 g h) (drop_of_q p q g));
    }

-- there are few copies
pub few_given : (op : Op) (p q : Side) (windings : Windings) (hits : Hits) (r : Prescribed) → IsSide p → IsSide q →
    AreGiven op p q windings hits r → AreFewGiven op windings hits
few_given op p q windings hits r p_side q_side h =
    let n =
    numbers windings hits in
    omega (arith, few_copies op p q n p_side q_side h.fit.w03 h.fit.w30, all_starts op p q n p_side q_side h.fit.w03 h.fit.w30 h.fit.x12 h.fit.x21, h.few)

-- what is given is such
pub given_parts : (laws : HaveLaws) (op : Op) (p q : Side) (windings : Windings) (hits : Hits) (r : Prescribed) → IsSide p → IsSide q →
    AreGiven op p q windings hits r → GivenHaveParts op p q windings hits
given_parts laws op p q windings hits r p_side q_side h =
    let n = numbers windings hits in
    let cs = copies op p q windings hits in
    let lists = laws.lists op p q n p_side q_side h.fit.w03 h.fit.w30 h.fit.x12 h.fit.x21 in
    let can : CanBeAssembled p q cs = record {
      p_side = p_side;
      q_side = q_side;
      p_apart = h.p_apart;
      q_apart = h.q_apart;
      two_lists = h.two_lists;
      balance = h.balance;
      named = laws.named op p q n h.fit.x12 h.fit.x21;
      few = h.few;
    } in
    let few : length cs ≤ most_points = omega (arith, all_copies_counted op p q n h.fit.w03 h.fit.w30, few_given op p q windings hits r p_side q_side h) in
    all_parts laws p q cs (p_kept op n + q_kept op n) (given_p_runs op n) (given_q_runs op n) (given_stands op p q n) lists can few
