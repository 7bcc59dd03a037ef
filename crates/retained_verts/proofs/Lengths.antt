-- How many copies there are: as many as are kept and crossings, and no more than half-edges.
use Rattle.std.proofs.Common.{◌≡◌, ℕ, zero, suc, ◌+◌, ◌*◌, ◌<◌, ◌≤◌, true, cond, ℤ, pos, List, [], ◌∷◌, ◌++◌, length, get_or, nat_abs, refl, arith, ap, sym}
use Rattle.std.specs.List.{flat_map, sum_by}
use Rattle.std.proofs.Math.Nat.{mul-le-mul_left}
use Rattle.std.proofs.lemmas.Int.{ints}
use Rattle.std.proofs.lemmas.List.{length-append, length-replicate}
use Rattle.std.proofs.lemmas.List.Sums.{get_or-le-sum_by, sum_by-append, sum_by-cons}
use Rattle.chain_terms.specs.Sums.{total, up_from, upto}
use Rattle.chain_laws.specs.Sums.{total-map}
use Rattle.chain_laws.proofs.Places.{total-places}
use Rattle.mb_base.specs.declared.op.Op.{Op}
use Rattle.mb_base.specs.declared.results.Hit.{Hit}
use Rattle.mb_base.specs.declared.results.Origin.{Origin}
use Rattle.mesh_terms.specs.Meshes.{Triple, has, is_used}
use Rattle.side_terms.specs.Sides.{Side, IsSide}
use Rattle.side_terms.specs.Prescribed.{Prescription, Numbers, copies_of, copy_of, crossing_count, hit_count, hit_number_of, prescribed_hits, prescribed_vertices, p_hits, p_kept, p_number, p_vertices, prescribed, prescribed_halfedges, q_hits, q_kept, q_number, q_vertices, triples_at, vertex_count, vertex_halfedges}
use Rattle.retained_verts.proofs.Corners.{total_pos}
use Rattle.retained_verts.proofs.Origins.{passes}

-- the sizes of the numbers
abbrev sizes : List Prescription → ℕ
sizes is = sum_by (λ i. nat_abs i.number) is

length-copies : (is : List Prescription) → length (flat_map copies_of is) ≡ sizes is
length-copies [] = refl
length-copies (i ∷ is) =
    omega (
      arith,
      length-append (copies_of i) (flat_map copies_of is),
      length-replicate (nat_abs i.number) (copy_of i),
      length-copies is,
      sum_by-cons (λ k. nat_abs k.number) i is,
    )

-- those of vertices, where each has a winding number
sizes-vertices : (origin : ℕ → Origin) (number : ℤ → ℤ) (ws : List ℤ) (ps : List (List ℤ)) (n : ℕ) → n ≡ length ws →
    sizes (prescribed_vertices origin number ws ps n) ≡ vertex_count number ws
sizes-vertices origin number ws ps n long =
    let is = prescribed_vertices origin number ws ps n in
    let size : Prescription → ℤ = λ i. pos (nat_abs i.number) in
    let by_number = total-map size (λ v. record { origin = origin v; number = number (get_or ws v (pos 0)); point = get_or ps v [] }) (upto n) in
    let all = ap (λ m. total (λ v. pos (nat_abs (number (get_or ws v (pos 0))))) (upto m)) long in
    omega (arith, ints, total_pos (λ i. nat_abs i.number) is, by_number, all, total-places (λ w. pos (nat_abs (number w))) (pos 0) ws, total_pos (λ w. nat_abs (number w)) ws)

-- and of hits
sizes-hits : (op : Op) (origin : ℕ → ℕ → Origin) (hs : List Hit) → sizes (prescribed_hits origin (hit_number_of op) hs) ≡ hit_count op hs
sizes-hits op origin hs =
    let is = prescribed_hits origin (hit_number_of op) hs in
    let by_hit = total-map (λ (i : Prescription). pos (nat_abs i.number)) (λ h. record { origin = origin h.edge h.face; number = hit_number_of op h.number; point = h.at }) hs in
    omega (arith, ints, total_pos (λ i. nat_abs i.number) is, by_hit, total_pos (λ h. nat_abs (hit_number_of op h.number)) hs)

-- all copies
pub all_copies_counted : (op : Op) (p q : Side) (n : Numbers) → length n.w03 ≡ length p.corners → length n.w30 ≡ length q.corners →
    length (prescribed op p q n) ≡ p_kept op n + q_kept op n + crossing_count op n
all_copies_counted op p q n p_long q_long =
    let pv = p_vertices op p n in
    let qv = q_vertices op q n in
    let ph = p_hits op n in
    let qh = q_hits op n in
    let size : Prescription → ℕ = λ i. nat_abs i.number in
    let one : sizes pv ≡ p_kept op n = sizes-vertices _ (p_number op) n.w03 _ (length p.corners) (sym p_long) in
    let two : sizes qv ≡ q_kept op n = sizes-vertices _ (q_number op) n.w30 _ (length q.corners) (sym q_long) in
    let three : sizes ph ≡ hit_count op n.x12 = sizes-hits op _ n.x12 in
    let four : sizes qh ≡ hit_count op n.x21 = sizes-hits op _ n.x21 in
    omega (
      arith,
      length-copies (pv ++ (qv ++ (ph ++ qh))),
      sum_by-append size pv (qv ++ (ph ++ qh)),
      sum_by-append size qv (ph ++ qh),
      sum_by-append size ph qh,
      one,
      two,
      three,
      four,
    )

-- a sum of larger terms
larger : (f g : ℕ → ℕ) (k n : ℕ) → ((i : ℕ) → k ≤ i → i < k + n → f i ≤ g i) → sum_by f (up_from k n) ≤ sum_by g (up_from k n)
larger f g k zero h = omega arith
larger f g k (suc n) h =
    let here = h k (omega arith) (omega arith) in
    let rest = larger f g (suc k) n (λ i a b. h i (omega (arith, a)) (omega (arith, b))) in
    omega (arith, here, rest, sum_by-cons f k (up_from (suc k) n), sum_by-cons g k (up_from (suc k) n))

-- a vertex that is used has a triangle
some_triple : (ts : List Triple) (v : ℕ) → is_used ts v ≡ true → 1 ≤ triples_at ts v
some_triple ts v used =
    let found = passes (λ t. has t v) ts (0, 0, 0) used in
    let one : ◌≡◌ {A = ℕ} (cond (has (get_or ts found.place (0, 0, 0)) v) 1 0) 1 = ap (λ b. cond b 1 0) found.holds in
    omega (arith, get_or-le-sum_by (λ t. cond (has t v) 1 0) ts found.place (0, 0, 0) found.within, one)

-- so there are no more kept vertices than half-edges at them
kept_at_most : (number : ℤ → ℤ) (ws : List ℤ) (side : Side) → IsSide side → length ws ≡ length side.corners → vertex_count number ws ≤ vertex_halfedges number ws side.triples
kept_at_most number ws side known long =
    let s : ℕ → ℕ = λ v. nat_abs (number (get_or ws v (pos 0))) in
    let each = larger s (λ v. s v * triples_at side.triples v) 0 (length ws)
    (λ v a b. let m = mul-le-mul_left (s v) (some_triple side.triples v (known.accepted.mesh.used v (omega (arith, b, long)))) in omega (arith, m)) in
    omega (arith, ints, each, total_pos (λ w. nat_abs (number w)) ws, total-places (λ w. pos (nat_abs (number w))) (pos 0) ws, total_pos s (upto (length ws)))

-- and no more copies than half-edges
pub few_copies : (op : Op) (p q : Side) (n : Numbers) → IsSide p → IsSide q → length n.w03 ≡ length p.corners → length n.w30 ≡ length q.corners →
    p_kept op n + q_kept op n + crossing_count op n ≤ prescribed_halfedges op p q n
few_copies op p q n p_known q_known p_long q_long =
    omega (arith, kept_at_most (p_number op) n.w03 p p_known p_long, kept_at_most (q_number op) n.w30 q q_known q_long)
