-- The sums of cross products at the vertices, one triangle more.
use Rattle.std.proofs.Common.{◌≡◌, ◌≢◌, ℕ, ◌+◌, ◌<◌, ◌≤◌, ◌==◌, ◌||◌, ℤ, pos, ◌+ℤ◌, List, [], ◌∷◌, ◌++◌, Bool, true, false, cond, length, get_or, replicate, refl, sym, ap, ◌∙◌, arith, inl, inr, unsigned_abs}
use Rattle.std.proofs.lemmas.Int.{ints}
use Rattle.std.proofs.lemmas.Bool.{eqb-true, eqb-false, cases_Bool, cases_lt, cond_both}
use Rattle.std.proofs.lemmas.List.{get_or-map, length-map, length-set, ext_get_or, get_or-set_same, get_or-set_other, get_or-replicate, length-replicate, get_or_past}
use Rattle.chain_terms.specs.Sums.{upto}
use Rattle.chain_laws.specs.Sums.{total_push}
use Rattle.chain_laws.proofs.Places.{get_or-up_from, length-up_from}
use Rattle.mesh_terms.specs.Meshes.{Triple, HasThree, has}
use Rattle.mesh_terms.specs.Points.{coordinate_of}
use Rattle.lean.specs.Leans.{face_normal, normal_on, vertex_normal, normals_of}
use Rattle.lean.specs.Vectors.{added, added_at, added_at_corners, AreSmall, AllSmall}

-- at a vertex: it is added there alone
one_at : (sums : List (List ℤ)) (a v : ℕ) (n : List ℤ) → v < length sums → get_or (added_at sums a n) v [] ≡ cond (a == v) (added (get_or sums v []) n) (get_or sums v [])
one_at sums a v n h = elim (cases_Bool (a == v)) as (λ _. get_or (added_at sums a n) v [] ≡ cond (a == v) (added (get_or sums v []) n) (get_or sums v [])) [
  | inl y ↦
      let e : a ≡ v = eqb-true a v y in
      rw y (ap (λ k. get_or (added_at sums k n) v []) e ∙ get_or-set_same sums v (added (get_or sums v []) n) [] h)
  | inr y ↦
      let e = eqb-false a v y in
      rw y (get_or-set_other sums a v (added (get_or sums a []) n) [] (λ f. e (sym f)))
]

-- three tests, of which at most one holds, each adding where it holds
chosen_once : (f : List ℤ → List ℤ) (s : List ℤ) (x y z : Bool) → (x ≡ true → y ≡ true → ⊥) → (y ≡ true → z ≡ true → ⊥) → (z ≡ true → x ≡ true → ⊥) →
    cond z (f (cond y (f (cond x (f s) s)) (cond x (f s) s))) (cond y (f (cond x (f s) s)) (cond x (f s) s)) ≡ cond (x || y || z) (f s) s
chosen_once f s true true z h k l = absurd (h refl refl)
chosen_once f s true false true h k l = absurd (l refl refl)
chosen_once f s true false false h k l = refl
chosen_once f s false true true h k l = absurd (k refl refl)
chosen_once f s false true false h k l = refl
chosen_once f s false false true h k l = refl
chosen_once f s false false false h k l = refl

-- one number is not two different ones
not_both : (a b v : ℕ) → a ≢ b → (a == v) ≡ true → (b == v) ≡ true → ⊥
not_both a b v d x y = d (eqb-true a v x ∙ sym (eqb-true b v y))

-- at a vertex: it is added where the triangle has it
three_at : (sums : List (List ℤ)) (t : Triple) (v : ℕ) (n : List ℤ) → HasThree t → v < length sums →
    get_or (added_at_corners sums t n) v [] ≡ cond (has t v) (added (get_or sums v []) n) (get_or sums v [])
three_at sums t v n three h =
    let first = added_at sums t.0 n in
    let second = added_at first t.1 n in
    let f : List ℤ → List ℤ = λ s. added s n in
    let h1 : v < length first = omega (arith, h, length-set sums t.0 (added (get_or sums t.0 []) n)) in
    let h2 : v < length second = omega (arith, h1, length-set first t.1 (added (get_or first t.1 []) n)) in
    one_at second t.2 v n h2
    ∙ ap (λ s. cond (t.2 == v) (f s) s) (one_at first t.1 v n h1 ∙ ap (λ s. cond (t.1 == v) (f s) s) (one_at sums t.0 v n h))
    ∙ chosen_once f (get_or sums v []) (t.0 == v) (t.1 == v) (t.2 == v) (not_both t.0 t.1 v three.ab) (not_both t.1 t.2 v three.bc) (not_both t.2 t.0 v three.ca)

-- the sum at a vertex, one triangle more
sum_more : (points : List (List ℤ)) (ts : List Triple) (t : Triple) (v : ℕ) →
    vertex_normal points (ts ++ t ∷ []) v ≡ cond (has t v) (added (vertex_normal points ts v) (face_normal points t)) (vertex_normal points ts v)
sum_more points ts t v =
    let n = face_normal points t in
    let push : (axis : ℕ) → normal_on axis points (ts ++ t ∷ []) v ≡ normal_on axis points ts v +ℤ cond (has t v) (coordinate_of n axis) (pos 0) =
    λ axis. total_push (λ u. cond (has u v) (coordinate_of (face_normal points u) axis) (pos 0)) ts t in
    by (has t v) (coordinate_of n 0) (coordinate_of n 1) (coordinate_of n 2) (normal_on 0 points ts v) (normal_on 1 points ts v) (normal_on 2 points ts v)
    (push 0) (push 1) (push 2)
  where
    by : (b : Bool) (x y z a c d : ℤ) {a' c' d' : ℤ} → a' ≡ a +ℤ cond b x (pos 0) → c' ≡ c +ℤ cond b y (pos 0) → d' ≡ d +ℤ cond b z (pos 0) →
        a' ∷ c' ∷ d' ∷ [] ≡ cond b ((a +ℤ x) ∷ (c +ℤ y) ∷ (d +ℤ z) ∷ []) (a ∷ c ∷ d ∷ [])
    by true x y z a c d e f g = cc
    by false x y z a c d e f g =
        let ea : a +ℤ pos 0 ≡ a = omega (arith, ints) in
        let ec : c +ℤ pos 0 ≡ c = omega (arith, ints) in
        let ed : d +ℤ pos 0 ≡ d = omega (arith, ints) in cc

-- as many sums as points
pub length-normals : (points : List (List ℤ)) (ts : List Triple) → length (normals_of points ts) ≡ length points
length-normals points ts = length-map (upto (length points)) (vertex_normal points ts) ∙ length-up_from 0 (length points)

-- the sum at a place
pub normals_read : (points : List (List ℤ)) (ts : List Triple) (v : ℕ) → v < length points → get_or (normals_of points ts) v [] ≡ vertex_normal points ts v
normals_read points ts v h =
    let place : 0 + v ≡ v = omega arith in
    let long : v < length (upto (length points)) = omega (arith, h, length-up_from 0 (length points)) in
    get_or-map (vertex_normal points ts) (upto (length points)) v 0 [] long ∙ ap (vertex_normal points ts) (get_or-up_from 0 (length points) v 0 h ∙ place)

-- the sums before the first triangle
pub normals_none : (points : List (List ℤ)) → replicate (length points) (pos 0 ∷ pos 0 ∷ pos 0 ∷ []) ≡ normals_of points []
normals_none points =
    let n = length points in
    let zeros : List ℤ = pos 0 ∷ pos 0 ∷ pos 0 ∷ [] in
    ext_get_or [] (replicate n zeros) (normals_of points []) (length-replicate n zeros ∙ sym (length-normals points []))
    (λ v h. let k : v < n = omega (arith, h, length-replicate n zeros) in get_or-replicate n v zeros [] k ∙ sym (normals_read points [] v k))

-- the sums, one triangle more
pub normals_more : (points : List (List ℤ)) (ts : List Triple) (t : Triple) → HasThree t →
    added_at_corners (normals_of points ts) t (face_normal points t) ≡ normals_of points (ts ++ t ∷ [])
normals_more points ts t three =
    let n = face_normal points t in
    let sums = normals_of points ts in
    let first = added_at sums t.0 n in
    let second = added_at first t.1 n in
    let long : length (added_at_corners sums t n) ≡ length points =
    length-set second t.2 (added (get_or second t.2 []) n) ∙ length-set first t.1 (added (get_or first t.1 []) n)
    ∙ length-set sums t.0 (added (get_or sums t.0 []) n) ∙ length-normals points ts in
    ext_get_or [] (added_at_corners sums t n) (normals_of points (ts ++ t ∷ [])) (long ∙ sym (length-normals points (ts ++ t ∷ [])))
    (λ v h.
    let k : v < length points = omega (arith, h, long) in
    let l : v < length sums = omega (arith, k, length-normals points ts) in
    three_at sums t v n three l ∙ ap (λ s. cond (has t v) (added s n) s) (normals_read points ts v k) ∙ sym (sum_more points ts t v)
    ∙ sym (normals_read points (ts ++ t ∷ []) v k))

-- a sum of small vectors
pub small_added : (m n : ℕ) (a b : List ℤ) → AreSmall m a → AreSmall n b → AreSmall (m + n) (added a b)
small_added m n a b h k =
    record {
      x = size_sum (coordinate_of a 0) (coordinate_of b 0) m n h.x k.x;
      y = size_sum (coordinate_of a 1) (coordinate_of b 1) m n h.y k.y;
      z = size_sum (coordinate_of a 2) (coordinate_of b 2) m n h.z k.z;
    }
  where
    size_sum : (x y : ℤ) (m n : ℕ) → unsigned_abs x ≤ m → unsigned_abs y ≤ n → unsigned_abs (x +ℤ y) ≤ m + n
    size_sum x y m n h k = omega (arith, ints)

-- a bound may grow
pub small_below : (m n : ℕ) (a : List ℤ) → m ≤ n → AreSmall m a → AreSmall n a
small_below m n a l h = record { x = omega (arith, h.x); y = omega (arith, h.y); z = omega (arith, h.z) }

-- a vector added at one vertex
pub small_one : (m n : ℕ) (sums : List (List ℤ)) (a : ℕ) (b : List ℤ) → AllSmall m sums → AreSmall n b → AllSmall (m + n) (added_at sums a b)
small_one m n sums a b h k v = elim (cases_lt v (length sums)) as (λ _. AreSmall (m + n) (get_or (added_at sums a b) v [])) [
  | inl l ↦ rw (one_at sums a v b l)
      (cond_both (a == v) (added (get_or sums v []) b) (get_or sums v []) (AreSmall (m + n)) (λ _. small_added m n (get_or sums v []) b (h v) k)
      (λ _. small_below m (m + n) (get_or sums v []) (omega arith) (h v)))
  | inr l ↦ rw (get_or_past (added_at sums a b) v [] (omega (arith, l, length-set sums a (added (get_or sums a []) b))))
      (small_below 0 (m + n) [] (omega arith) (record { x = omega arith; y = omega arith; z = omega arith }))
]

-- and at three
pub small_three : (m n : ℕ) (sums : List (List ℤ)) (t : Triple) (b : List ℤ) → AllSmall m sums → AreSmall n b → AllSmall (m + n + n + n) (added_at_corners sums t b)
small_three m n sums t b h k =
    let first = added_at sums t.0 b in
    small_one (m + n + n) n (added_at first t.1 b) t.2 b (small_one (m + n) n first t.1 b (small_one m n sums t.0 b h k) k) k

-- the sums before the first triangle are 0
pub small_none : (points : List (List ℤ)) → AllSmall 0 (normals_of points [])
small_none points v = elim (cases_lt v (length points)) as (λ _. AreSmall 0 (get_or (normals_of points []) v [])) [
  | inl l ↦ rw (normals_read points [] v l) (record { x = omega arith; y = omega arith; z = omega arith })
  | inr l ↦ rw (get_or_past (normals_of points []) v [] (omega (arith, l, length-normals points []))) (record { x = omega arith; y = omega arith; z = omega arith })
]
