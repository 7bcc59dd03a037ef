-- No two segments of a face run both ways between two vertices.
use Rattle.std.proofs.Common.{◌≡◌, ℕ, ◌+◌, ◌*◌, ◌-◌, ◌/◌, ◌<◌, Bool, true, false, cond, ℤ, pos, negsuc, neg_ℤ, List, map, length, get_or, int_lt, refl, arith, ap, sym, subst, ◌∙◌}
use Rattle.std.specs.List.{All, Contains}
use Rattle.std.proofs.lemmas.Bool.{both_ways, le-ltb}
use Rattle.std.proofs.lemmas.List.Elements.{All-append, All-contains, All-map}
use Rattle.chain_terms.specs.Chains.{all_edges}
use Rattle.chain_terms.specs.Sums.{upto}
use Rattle.mesh_check.specs.Reduced.{NoOpposite}
use Rattle.mb_base.specs.declared.results.Origin.{Origin}
use Rattle.side_terms.specs.Sides.{Side, IsSide}
use Rattle.side_terms.specs.Lists.{Copy, ListName, HalfP, HalfQ, PairP, PairQ, incidence, lists_of_p, lists_of_q, no_copy, standing}
use Rattle.source_face_terms.specs.Naming.{AreNamed, NamesLower}
use Rattle.source_face_terms.specs.Segments.{lists_of, segments_of, source_count}
use Rattle.face_loops.specs.Standings.{NoneExchanged}
use Rattle.face_loops.proofs.LongLoops as lists
use Rattle.source_face_laws.proofs.Distinct.{InBoth, IsOfFaceP, same_origin}
use Rattle.source_face_laws.proofs.FaceLists.{all_upto, face_case}
use Rattle.source_face_laws.proofs.OtherSide.{IsOfFaceQ, same_origin_q}
use Rattle.source_face_laws.proofs.Standing.{face_same, key_of, stand_of}

-- the lists of a face are of that face
of_face_p : (n f : ℕ) → All (IsOfFaceP n f) (lists_of_p n f)
of_face_p n f =
    All-append (IsOfFaceP n f) (map (λ i. HalfP (3 * f + i)) (upto 3)) (map (PairP f) (upto n))
    (All-map (IsOfFaceP n f) (λ i. HalfP (3 * f + i)) (upto 3) (all_upto (λ i. (3 * f + i) / 3 ≡ f) 3 (λ i l. omega (arith, l))))
    (All-map (IsOfFaceP n f) (PairP f) (upto n) (all_upto (λ g. (f ≡ f) × (g < n)) n (λ g l. (refl, l))))

of_face_q : (m g : ℕ) → All (IsOfFaceQ m g) (lists_of_q m g)
of_face_q m g =
    All-append (IsOfFaceQ m g) (map (λ i. HalfQ (3 * g + i)) (upto 3)) (map (PairQ g) (upto m))
    (All-map (IsOfFaceQ m g) (λ i. HalfQ (3 * g + i)) (upto 3) (all_upto (λ i. (3 * g + i) / 3 ≡ g) 3 (λ i l. omega (arith, l))))
    (All-map (IsOfFaceQ m g) (PairQ g) (upto m) (all_upto (λ f. (g ≡ g) × (f < m)) m (λ f l. (refl, l))))

-- two of the lists tell what stands in both
abbrev Distinguish : Side → Side → List ListName → Type 0
Distinguish p q names = (one two : ListName) → Contains names one → Contains names two → (one ≡ two → ⊥) → (x y : Origin) → NamesLower p q x → NamesLower p q y →
    InBoth (all_edges p.triples) (all_edges q.triples) one two x → InBoth (all_edges p.triples) (all_edges q.triples) one two y → x ≡ y

distinguish : (p q : Side) → IsSide p → IsSide q → NoOpposite p.triples → NoOpposite q.triples → (x : ℕ) → x < source_count p q → Distinguish p q (lists_of p q x)
distinguish p q p_known q_known p_none q_none x below =
    let m = length p.triples in
    let n = length q.triples in
    face_case p q (Distinguish p q) x
    (λ l one two a b. same_origin p q p_known q_known q_none x l one two (All-contains (IsOfFaceP n x) (lists_of_p n x) one (of_face_p n x) a)
    (All-contains (IsOfFaceP n x) (lists_of_p n x) two (of_face_p n x) b))
    (λ l one two a b. same_origin_q p q p_known q_known p_none (x - m) (omega (arith, below, l)) one two
    (All-contains (IsOfFaceQ m (x - m)) (lists_of_q m (x - m)) one (of_face_q m (x - m)) a)
    (All-contains (IsOfFaceQ m (x - m)) (lists_of_q m (x - m)) two (of_face_q m (x - m)) b))

-- a number is not both above and below 0
one_sign : (z : ℤ) → int_lt (pos 0) z ≡ true → int_lt z (pos 0) ≡ true → ⊥
one_sign (pos n) a b = both_ways (int_lt (pos n) (pos 0)) (le-ltb n 0 (omega arith)) b
one_sign (negsuc n) a b = both_ways false refl a

-- and is not 0 where it is one of the two
above_some : (z : ℤ) → int_lt (pos 0) z ≡ true → z ≡ pos 0 → ⊥
above_some z y e = both_ways (int_lt (pos 0) z) (ap (int_lt (pos 0)) e) y

below_some : (z : ℤ) → int_lt z (pos 0) ≡ true → z ≡ pos 0 → ⊥
below_some z y e = both_ways (int_lt z (pos 0)) (ap (λ w. int_lt w (pos 0)) e) y

-- a copy that stands in a list, whatever its sign
unsigned : (b : Bool) (z : ℤ) → (cond b (neg_ℤ z) z ≡ pos 0 → ⊥) → z ≡ pos 0 → ⊥
unsigned true z some e = some (ap neg_ℤ e)
unsigned false z some e = some e

-- no two copies stand in two lists of a face the one as the other does not
pub none_exchanged : (p q : Side) (cs : List Copy) → IsSide p → IsSide q → NoOpposite p.triples → NoOpposite q.triples → AreNamed p q cs → (x : ℕ) → x < source_count p q →
    NoneExchanged (stand_of p q cs) (length cs) (lists_of p q x)
none_exchanged p q cs p_known q_known p_none q_none named x below one two one_listed two_listed v w v_below w_below v_starts v_ends w_ends w_starts =
    let P = all_edges p.triples in
    let Q = all_edges q.triples in
    let c = get_or cs v no_copy in
    let d = get_or cs w no_copy in
    let apart : one ≡ two → ⊥ = λ e. one_sign (standing P Q two c) (subst (λ name. int_lt (pos 0) (standing P Q name c) ≡ true) e v_starts) v_ends in
    let c_in : InBoth P Q one two c.origin = record {
      first = unsigned c.negative (incidence P Q one c.origin) (above_some (standing P Q one c) v_starts);
      second = unsigned c.negative (incidence P Q two c.origin) (below_some (standing P Q two c) v_ends);
    } in
    let d_in : InBoth P Q one two d.origin = record {
      first = unsigned d.negative (incidence P Q one d.origin) (below_some (standing P Q one d) w_ends);
      second = unsigned d.negative (incidence P Q two d.origin) (above_some (standing P Q two d) w_starts);
    } in
    let same = distinguish p q p_known q_known p_none q_none x below one two one_listed two_listed
    apart c.origin d.origin (named.lower v no_copy v_below) (named.lower w no_copy w_below) c_in d_in in
    let signs : c.negative ≡ d.negative = named.signed v no_copy v_below ∙ ap named.sign same ∙ sym (named.signed w no_copy w_below) in
    let alike : standing P Q one c ≡ standing P Q one d =
    ap (λ o. cond c.negative (neg_ℤ (incidence P Q one o)) (incidence P Q one o)) same ∙ ap (λ t. cond t (neg_ℤ (incidence P Q one d.origin)) (incidence P Q one d.origin)) signs in
    one_sign (standing P Q one d) (ap (int_lt (pos 0)) (sym alike) ∙ v_starts) w_ends

-- so a segment of a face and the one that runs back cannot both be
pub no_return : (p q : Side) (cs : List Copy) (place : ℕ → List ℤ) → IsSide p → IsSide q →
    NoOpposite p.triples → NoOpposite q.triples → AreNamed p q cs → (x : ℕ) → x < source_count p q →
    (v w : ℕ) → Contains (segments_of p q cs place x) (v, w) → Contains (segments_of p q cs place x) (w, v) → ⊥
no_return p q cs place p_known q_known p_none q_none named x below v w there back =
    let same = face_same p q cs place x in
    lists.no_return (stand_of p q cs) (key_of p q cs place) (length cs) (lists_of p q x) (none_exchanged p q cs p_known q_known p_none q_none named x below) v w
    (subst (λ es. Contains es (v, w)) same there) (subst (λ es. Contains es (w, v)) same back)
