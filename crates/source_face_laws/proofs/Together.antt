-- All fillings together are a closed mesh that uses each copy.
use Rattle.std.proofs.Common.{◌≡◌, ℕ, zero, suc, ◌<◌, true, List, [], ◌∷◌, length, arith, ap, sym, subst, ◌∙◌}
use Rattle.std.specs.List.{All, Contains, flat_map}
use Rattle.std.proofs.lemmas.Bool.{or_left, or_right}
use Rattle.std.proofs.lemmas.List.Folds.{list_any-append}
use Rattle.chain_terms.specs.Chains.{IsClosed, all_edges}
use Rattle.chain_terms.specs.Sums.{upto}
use Rattle.mesh_terms.specs.Meshes.{HasThree, IsAccepted, IsBelow, Triple, has, is_used}
use Rattle.side_terms.specs.Sides.{Side}
use Rattle.side_terms.specs.Lists.{Copy}
use Rattle.source_face_terms.specs.Segments.{place_of, source_count}
use Rattle.source_face_laws.proofs.Assembled.{parts_closed, starts_somewhere, vertices_stay}
use Rattle.source_face_laws.proofs.FaceLists.{all_upto}
use Rattle.source_face_terms.specs.Assembling.{CanBeAssembled}
use Rattle.source_face_terms.specs.Filled.{all_filled, all_triples}
use Rattle.source_face_laws.proofs.Counted.{all_counted}
use Rattle.source_face_laws.proofs.Fillings.{fill_face}
use Rattle.source_face_laws.proofs.Few.{few_copies, few_triples}
use Rattle.source_face_laws.proofs.Parts.{all_parts, among, part_of, parts}

-- what one face uses all use
used_part : (part : ℕ → List Triple) (xs : List ℕ) (x v : ℕ) → Contains xs x → is_used (part x) v ≡ true → is_used (flat_map part xs) v ≡ true
used_part part [] x v (k, l, e) used = absurd (omega (arith, l))
used_part part (y ∷ xs) x v (zero, l, e) used =
    list_any-append (λ t. has t v) (part y) (flat_map part xs) ∙ or_left (is_used (part y) v) (is_used (flat_map part xs) v) (ap (λ z. is_used (part z) v) e ∙ used)
used_part part (y ∷ xs) x v (suc k, l, e) used =
    list_any-append (λ t. has t v) (part y) (flat_map part xs) ∙ or_right (is_used (part y) v) (is_used (flat_map part xs) v) (used_part part xs x v (k, omega (arith, l), e) used)

-- each copy is a vertex of some triangle
each_used : (p q : Side) (cs : List Copy) → CanBeAssembled p q cs → (v : ℕ) → v < length cs → is_used (flat_map (part_of p q cs) (upto (source_count p q))) v ≡ true
each_used p q cs can v inside =
    let place = place_of cs in
    let s = starts_somewhere p q cs place can.two_lists can.balance v inside in
    let fills = fill_face p q cs can s.face s.known in
    used_part (part_of p q cs) (upto (source_count p q)) s.face v (among (source_count p q) s.face s.known)
    (vertices_stay p q cs place can.p_side can.q_side can.p_apart can.q_apart can.named s.face s.known (part_of p q cs s.face) fills.chain v (omega (arith, s.once)))

-- all together they are an accepted mesh of the copies
pub all_accepted : (p q : Side) (cs : List Copy) → CanBeAssembled p q cs → IsAccepted (length cs) (all_triples (all_filled p q cs))
all_accepted p q cs can =
    let n = source_count p q in
    let part = part_of p q cs in
    let e = parts p q cs in
    let three = all_parts HasThree part (upto n) (all_upto (λ x. All HasThree (part x)) n (λ x below. (fill_face p q cs can x below).three)) in
    let inside = all_parts (IsBelow (length cs)) part (upto n) (all_upto (λ x. All (IsBelow (length cs)) (part x)) n (λ x below. (fill_face p q cs can x below).below)) in
    record {
      mesh = record {
        three = subst (λ ts. All HasThree ts) (sym e) three;
        below = subst (λ ts. All (IsBelow (length cs)) ts) (sym e) inside;
        used = λ v v_inside. ap (λ ts. is_used ts v) e ∙ each_used p q cs can v v_inside;
        few_points = omega (arith, few_copies p q cs can, all_counted p q cs (place_of cs) can.balance, can.few);
        few_triples = omega (arith, few_triples p q cs can, can.few);
      };
      closed = subst (λ ts. IsClosed (all_edges ts)) (sym e) (parts_closed p q cs (place_of cs) can.p_side can.q_side part (λ x below. (fill_face p q cs can x below).chain));
    }
