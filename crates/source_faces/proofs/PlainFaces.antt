-- A face without records whose vertices have one number of copies each is filled by copies of it.
use Rattle.std.proofs.Common.{◌≡◌, ◌≢◌, ◌+◌, ◌*◌, ◌<◌, ℕ, ℤ, pos, zero, suc, true, false, Bool, cond, ◌==◌, List, []}
use Rattle.std.proofs.Common.{◌∷◌, ◌++◌, map, length, get_or, refl, sym, ap, ◌∙◌, arith, inl, inr}
use Rattle.std.specs.Ordering.{int_eq}
use Rattle.std.proofs.lemmas.Bool.{and_parts, cases_lt, eqb-true, not-true}
use Rattle.chain_terms.specs.Cycles.{cycles}
use Rattle.chain_terms.specs.Sums.{up_from, upto}
use Rattle.mesh_terms.specs.Meshes.{HasThree, IsBelow, Triple}
use Rattle.side_terms.specs.Sides.{IsSide, Side}
use Rattle.lean.proofs.Triangles.{half_of_face}
use Rattle.face_plane.specs.Planes.{flat_point, plane_of, point_at, turn}
use Rattle.ring_cutting.specs.Cuts.{Cut}
use Rattle.source_face_terms.specs.Planes.{plane_drop_of}
use Rattle.source_face_terms.specs.Segments.{vertex_point}
use Rattle.triangulate.specs.Fills.{fill_of}
use Rattle.source_faces.specs.declared.lists.runs.CopyRange.{CopyRange}
use Rattle.source_faces.specs.Agreement.{AreInOrder}
use Rattle.source_faces.specs.ListParts.{AreRuns, half_segments, segments_by}
use Rattle.source_faces.specs.Adding.{are_equal_runs, copy_triple, face_copies, filled_by, is_flat, same_run, same_sign}
use Rattle.source_faces.specs.Plain.{LieAtVertices, PlainFacesAreCopied}
use Rattle.source_faces.proofs.Copies.{AreApart, apart-sym, cycles-blocks, cycles-exchanged_blocks}
use Rattle.source_faces.proofs.Flat.{turn_tells, turned_tells}
use Rattle.source_faces.proofs.Halves.{IsRunAt, half_of_ends, joined_as, run_of}
use Rattle.triangulate.proofs.Rings.{AreAtPoints, fill_of-loops, loop_triples, loops_of, same_cut}

-- the vertices of a face
abbrev pub face : Side → ℕ → Triple
face side f = get_or side.triples f (0, 0, 0)

-- a vertex of a side has n copies of this sign, which lie where it does
abbrev pub HasCopies : Side → List CopyRange → List (List ℤ) → ℕ → Bool → ℕ → Type 0
HasCopies side runs points n negative v = IsRunAt points n negative (vertex_point side v) (run_of runs v)

-- three vertices of a side that have n copies each, no copy of two of them
pub record IsPlain (side : Side) (runs : List CopyRange) (points : List (List ℤ)) (n : ℕ) (negative : Bool) (t : Triple) : Type 0 where
  pub first : HasCopies side runs points n negative t.0
  pub second : HasCopies side runs points n negative t.1
  pub third : HasCopies side runs points n negative t.2
  pub one_two : AreApart (run_of runs t.0).first (run_of runs t.1).first n
  pub two_three : AreApart (run_of runs t.1).first (run_of runs t.2).first n
  pub three_one : AreApart (run_of runs t.2).first (run_of runs t.0).first n

-- the segments of a face with these vertices
pub segments : (side : Side) (runs : List CopyRange) (points : List (List ℤ)) (f n : ℕ) (negative : Bool) → f < length side.triples →
    IsPlain side runs points n negative (face side f) →
    segments_by side runs points f []
    ≡ joined_as negative (run_of runs (face side f).0).first (run_of runs (face side f).1).first n
    ++ (joined_as negative (run_of runs (face side f).1).first (run_of runs (face side f).2).first n
    ++ (joined_as negative (run_of runs (face side f).2).first (run_of runs (face side f).0).first n ++ []))
segments side runs points f n negative below plain =
    let t = face side f in
    let half : ℕ → List (ℕ × ℕ) = λ h. half_segments side runs points h [] in
    let a = (run_of runs t.0).first in
    let b = (run_of runs t.1).first in
    let c = (run_of runs t.2).first in
    let none : 3 * f ≡ 3 * f + 0 = omega arith in
    let one : half (3 * f) ≡ joined_as negative a b n =
    ap half none ∙ half_of_ends side runs points (3 * f + 0) n negative (t.0, t.1) (half_of_face side.triples f 0 below (omega arith))
    plain.first plain.second in
    let two =
    half_of_ends side runs points (3 * f + 1) n negative (t.1, t.2) (half_of_face side.triples f 1 below (omega arith)) plain.second
    plain.third in
    let three =
    half_of_ends side runs points (3 * f + 2) n negative (t.2, t.0) (half_of_face side.triples f 2 below (omega arith)) plain.third plain.first in
    ap (λ l. l ++ (half (3 * f + 1) ++ (half (3 * f + 2) ++ []))) one
    ∙ ap (λ l. joined_as negative a b n ++ l) (ap (λ l. l ++ (half (3 * f + 2) ++ [])) two ∙ ap (λ l. joined_as negative b c n ++ (l ++ [])) three)

-- three blocks joined this way form loops, which begin with the first vertex, or with the second where the number is below 0
loops : (negative : Bool) (a b c n : ℕ) → AreApart a b n → AreApart b c n → AreApart c a n →
    cycles (joined_as negative a b n ++ (joined_as negative b c n ++ (joined_as negative c a n ++ []))) ≡
    cond negative (loops_of b a c n) (loops_of a b c n)
loops false a b c n ab bc ca = cycles-blocks a b c n ab bc ca
loops true a b c n ab bc ca = cycles-exchanged_blocks b a c n (apart-sym a b n ab) (apart-sym c a n ca) (apart-sym b c n bc)

-- the copies of a vertex in the plane that drops an axis
lie : (side : Side) (runs : List CopyRange) (points : List (List ℤ)) (n : ℕ) (negative : Bool) (axis v : ℕ) →
    HasCopies side runs points n negative v →
    (i : ℕ) → i < n → plane_of axis (point_at points) ((run_of runs v).first + i) ≡ flat_point axis (vertex_point side v)
lie side runs points n negative axis v has i l = ap (flat_point axis) (has.lies i l)

-- triangles of the i-th vertices from a, b and c on
numbered : (a b c k n : ℕ) → map (λ i. (a + i, b + i, c + i)) (up_from k n) ≡ loop_triples (a + k) (b + k) (c + k) n
numbered a b c k zero = refl
numbered a b c k (suc n) =
    let one : a + suc k ≡ suc (a + k) = omega arith in
    let two : b + suc k ≡ suc (b + k) = omega arith in
    let three : c + suc k ≡ suc (c + k) = omega arith in
    ap (λ l. (a + k, b + k, c + k) ∷ l)
    (numbered a b c (suc k) n ∙ ap (λ x. loop_triples x (b + suc k) (c + suc k) n) one
    ∙ ap (λ y. loop_triples (suc (a + k)) y (c + suc k) n) two ∙ ap (λ z. loop_triples (suc (a + k)) (suc (b + k)) z n) three)

-- from the first ones
all_numbered : (a b c n : ℕ) → map (λ i. (a + i, b + i, c + i)) (upto n) ≡ loop_triples a b c n
all_numbered a b c n =
    let one : a + 0 ≡ a = omega arith in
    let two : b + 0 ≡ b = omega arith in
    let three : c + 0 ≡ c = omega arith in
    numbered a b c 0 n ∙ ap (λ x. loop_triples x (b + 0) (c + 0) n) one ∙ ap (λ y. loop_triples a y (c + 0) n) two
    ∙ ap (λ z. loop_triples a b z n) three

-- the copies of three vertices as triangles, turned over where the number is below 0
pub all_copies : (negative : Bool) (r s u : CopyRange) (n : ℕ) → r.negative ≡ negative →
    map (copy_triple r s u) (upto n) ≡ cond negative (loop_triples s.first r.first u.first n) (loop_triples r.first s.first u.first n)
all_copies negative r s u n e =
    ap (λ t. map (λ i. cond t (s.first + i, r.first + i, u.first + i) (r.first + i, s.first + i, u.first + i)) (upto n)) e ∙ by_sign negative
  where
    by_sign : (t : Bool) →
        ◌≡◌ {A = List Triple} (map (λ i. cond t (s.first + i, r.first + i, u.first + i) (r.first + i, s.first + i, u.first + i)) (upto n))
        (cond t (loop_triples s.first r.first u.first n) (loop_triples r.first s.first u.first n))
    by_sign true = all_numbered s.first r.first u.first n
    by_sign false = all_numbered r.first s.first u.first n

-- three blocks of copies filled, with the three points of the face in its plane
filled : (side : Side) (points : List (List ℤ)) (f : ℕ) (negative : Bool) (a b c n : ℕ) →
    AreAtPoints (plane_of (plane_drop_of side f) (point_at points)) a b c n
    (flat_point (plane_drop_of side f) (vertex_point side (face side f).0)) (flat_point (plane_drop_of side f) (vertex_point side (face side f).1))
    (flat_point (plane_drop_of side f) (vertex_point side (face side f).2)) →
    ◌≡◌ {A = Cut} (fill_of (plane_drop_of side f) points (cond negative (loops_of b a c n) (loops_of a b c n)))
    (record { triples = cond negative (loop_triples b a c n) (loop_triples a b c n); forced = cond (is_flat side f) n 0 })
filled side points f false a b c n at =
    let t = face side f in
    let d = plane_drop_of side f in
    let p = flat_point d (vertex_point side t.0) in
    let q = flat_point d (vertex_point side t.1) in
    let r = flat_point d (vertex_point side t.2) in
    fill_of-loops d points a b c n p q r at
    ∙ same_cut (loop_triples a b c n) (loop_triples a b c n) (cond (int_eq (turn p q r) (pos 0)) n 0) (cond (is_flat side f) n 0) refl
    (ap (λ x. cond x n 0) (turn_tells (vertex_point side t.0) (vertex_point side t.1) (vertex_point side t.2)))
filled side points f true a b c n at =
    let t = face side f in
    let d = plane_drop_of side f in
    let p = flat_point d (vertex_point side t.0) in
    let q = flat_point d (vertex_point side t.1) in
    let r = flat_point d (vertex_point side t.2) in
    fill_of-loops d points b a c n q p r (record { first = at.second; second = at.first; third = at.third })
    ∙ same_cut (loop_triples b a c n) (loop_triples b a c n) (cond (int_eq (turn q p r) (pos 0)) n 0) (cond (is_flat side f) n 0) refl
    (ap (λ x. cond x n 0) (turned_tells p q r ∙ turn_tells (vertex_point side t.0) (vertex_point side t.1) (vertex_point side t.2)))

-- so a face whose vertices have n copies each is filled by these
pub plain_filled : (side : Side) (runs : List CopyRange) (points : List (List ℤ)) (f n : ℕ) (negative : Bool) → f < length side.triples →
    IsPlain side runs points n negative (face side f) →
    filled_by side runs points f [] ≡ face_copies side runs f
plain_filled side runs points f n negative below plain =
    let t = face side f in
    let d = plane_drop_of side f in
    let r = run_of runs t.0 in
    let s = run_of runs t.1 in
    let u = run_of runs t.2 in
    ap (λ es. fill_of d points (cycles es)) (segments side runs points f n negative below plain)
    ∙ ap (fill_of d points) (loops negative r.first s.first u.first n plain.one_two plain.two_three plain.three_one)
    ∙ filled side points f negative r.first s.first u.first n
    (record {
      first = lie side runs points n negative d t.0 plain.first;
      second = lie side runs points n negative d t.1 plain.second;
      third = lie side runs points n negative d t.2 plain.third;
    })
    ∙ same_cut (cond negative (loop_triples s.first r.first u.first n) (loop_triples r.first s.first u.first n))
    (map (copy_triple r s u) (upto r.count)) (cond (is_flat side f) n 0) (cond (is_flat side f) r.count 0)
    (sym (ap (λ m. map (copy_triple r s u) (upto m)) plain.first.counted ∙ all_copies negative r s u n plain.first.signed))
    (sym (ap (λ m. cond (is_flat side f) m 0) plain.first.counted))

-- the runs of two vertices have no copy of both
runs_apart : (k : ℕ) (runs : List CopyRange) → AreInOrder k runs → (v w n : ℕ) → v < length runs → w < length runs → v ≢ w →
    (run_of runs v).count ≡ n → (run_of runs w).count ≡ n → AreApart (run_of runs v).first (run_of runs w).first n
runs_apart k runs order v w n v_in w_in differ one other i j l m e =
    elim (cases_lt v w) as (λ _. ⊥) [
      | inl before ↦ omega (arith, order.each v w before w_in, one, l, e)
      | inr not_before ↦ elim (cases_lt w v) as (λ _. ⊥) [
        | inl after ↦ omega (arith, order.each w v after v_in, other, m, e)
        | inr not_after ↦ differ (omega (arith, not_before, not_after))
      ]
    ]

-- signs that agree are one
same_signs : (a b : Bool) → same_sign a b ≡ true → b ≡ a
same_signs true b h = h
same_signs false b h = not-true b h

-- runs of one number have one count and one sign
one_number : (r s : CopyRange) → same_run r s ≡ true → (s.count ≡ r.count) × (s.negative ≡ r.negative)
one_number r s h =
    let p = and_parts (r.count == s.count) (same_sign r.negative s.negative) h in
    (sym (eqb-true r.count s.count p.0), same_signs r.negative s.negative p.1)

-- the three vertices of a face with equal runs have copies in common numbers
pub plain_face : (side : Side) (runs : List CopyRange) (points : List (List ℤ)) (k : ℕ) → IsSide side → AreRuns side (length points) runs →
    AreInOrder k runs → LieAtVertices side runs points → (f : ℕ) → f < length side.triples →
    are_equal_runs runs (face side f) ≡ true →
    IsPlain side runs points (run_of runs (face side f).0).count (run_of runs (face side f).0).negative (face side f)
plain_face side runs points k known are order there f below equal =
    let t = face side f in
    let r = run_of runs t.0 in
    let s = run_of runs t.1 in
    let u = run_of runs t.2 in
    let three : HasThree t = known.accepted.mesh.three f (0, 0, 0) below in
    let within : IsBelow (length side.corners) t = known.accepted.mesh.below f (0, 0, 0) below in
    let both = and_parts (same_run r s) (same_run s u) equal in
    let rs = one_number r s both.0 in
    let su = one_number s u both.1 in
    let first_in : t.0 < length runs = omega (arith, within.a, are.each) in
    let second_in : t.1 < length runs = omega (arith, within.b, are.each) in
    let third_in : t.2 < length runs = omega (arith, within.c, are.each) in
    record {
      first = record { counted = refl; signed = refl; lies = λ i l. there.lies t.0 i within.a l };
      second = record { counted = rs.0; signed = rs.1; lies = λ i l. there.lies t.1 i within.b (omega (arith, l, rs.0)) };
      third = record { counted = su.0 ∙ rs.0; signed = su.1 ∙ rs.1; lies = λ i l. there.lies t.2 i within.c (omega (arith, l, rs.0, su.0)) };
      one_two = runs_apart k runs order t.0 t.1 r.count first_in second_in three.ab refl rs.0;
      two_three = runs_apart k runs order t.1 t.2 r.count second_in third_in three.bc rs.0 (su.0 ∙ rs.0);
      three_one = runs_apart k runs order t.2 t.0 r.count third_in first_in three.ca (su.0 ∙ rs.0) refl;
    }

-- so its filling is copies of it
pub copied : PlainFacesAreCopied
copied side runs points k known are order there f below equal =
    plain_filled side runs points f (run_of runs (face side f).0).count (run_of runs (face side f).0).negative below
    (plain_face side runs points k known are order there f below equal)
