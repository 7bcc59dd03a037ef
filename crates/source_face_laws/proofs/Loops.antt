-- The loops of a face can be filled.
use Rattle.std.proofs.Common.{◌≡◌, ℕ, ◌<◌, List, [], ◌∷◌, length, refl, arith}
use Rattle.std.specs.List.{concat, flat_map}
use Rattle.std.proofs.lemmas.List.{length-append}
use Rattle.std.proofs.lemmas.List.Sorted.{length_permutation}
use Rattle.chain_terms.specs.Cycles.{Balanced, cycles}
use Rattle.chain_terms.specs.Paths.{round_edges}
use Rattle.chain_laws.proofs.Cycles.{cycles_edges}
use Rattle.chain_laws.proofs.Paths.{length-round_edges}
use Rattle.face_loops.specs.Segments.{IsOneToOne}
use Rattle.face_loops.proofs.Vertices.{different_vertices}
use Rattle.side_terms.specs.Sides.{Side}
use Rattle.side_terms.specs.Lists.{Copy}
use Rattle.source_face_terms.specs.Segments.{place_of, source_count}
use Rattle.source_face_laws.proofs.LongLoops.{loops_are_long, loops_have_copies}
use Rattle.source_face_laws.proofs.OneToOne.{one_to_one}
use Rattle.source_face_terms.specs.Assembling.{CanBeAssembled, FormLoops}
use Rattle.source_face_terms.specs.Filled.{face_segments}
use Rattle.source_face_laws.proofs.Counted.{all_counted, face_few}

-- loops have as many edges as vertices
loops_even : (loops : List (List ℕ)) → length (flat_map round_edges loops) ≡ length (concat loops)
loops_even [] = refl
loops_even (l ∷ ls) = omega (arith, length-append (round_edges l) (flat_map round_edges ls), length-append l (concat ls), length-round_edges l, loops_even ls)

-- so the cycles of a balanced list have as many vertices as it has edges
pub cycles_counted : (es : List (ℕ × ℕ)) → Balanced es → length (concat (cycles es)) ≡ length es
cycles_counted es balanced =
    omega (arith, loops_even (cycles es), length_permutation es (flat_map round_edges (cycles es)) (cycles_edges (length es) es (omega arith) balanced))

-- the segments of a face are one to one
pub face_once : (p q : Side) (cs : List Copy) → CanBeAssembled p q cs → (x : ℕ) → x < source_count p q → IsOneToOne (face_segments p q cs x)
face_once p q cs can x below = one_to_one p q cs (place_of cs) can.two_lists can.balance x below

-- and form loops that can be filled
pub form_loops : (p q : Side) (cs : List Copy) → CanBeAssembled p q cs → (x : ℕ) → x < source_count p q → FormLoops p q cs x
form_loops p q cs can x below =
    let place = place_of cs in
    let es = face_segments p q cs x in
    let once = face_once p q cs can x below in
    record {
      once = once;
      fillable = record {
        long = loops_are_long p q cs place can.p_side can.q_side can.p_apart can.q_apart can.two_lists can.balance can.named x below;
        different = different_vertices es once;
        below = loops_have_copies p q cs place can.two_lists can.balance x below;
        few = omega (arith, cycles_counted es once.balanced, face_few p q cs place x below, all_counted p q cs place can.balance, can.few);
      };
    }
