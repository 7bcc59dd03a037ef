-- A place that is left, as a place of the ring that is left.
use Rattle.std.specs.Prelude.{◌≡◌, ◌≢◌, ℕ, suc, ◌+◌, ◌-◌, ◌<◌, pos, List, [], ◌∷◌, Bool, true, false, not, ◌&&◌, ◌||◌}
use Rattle.std.specs.Prelude.{◌==◌, nat_lt, int_lt, length, get_or, set}
use Rattle.std.specs.List.{list_any}
use Rattle.std.proofs.Common.{arith, refl, sym, subst, ap, ◌∙◌, inl, inr}
use Rattle.std.proofs.lemmas.Bool.{cases_lt, cases_eq, eq-eqb, ne_eqb}
use Rattle.std.proofs.lemmas.List.{get_or_default}
use Rattle.mesh_terms.specs.Meshes.{Triple}
use Rattle.face_plane.specs.Planes.{Plane, turn, orient}
use Rattle.face_plane.specs.Rings.{different, vertex_at, vertex_before, vertex_after, without_place}
use Rattle.ring_cutting.specs.declared.place.Place.{Place}
use Rattle.ring_cutting.specs.Cuts.{is_allowed, is_ear, blocks, triple_at}
use Rattle.ring_cutting.specs.Placed.{vertices_of, IsPlaced, is_third, place_blocks}
use Rattle.ring_cutting.specs.Left.{lives, no_place, place_of, left_of, rank, after_of, before_of, IsNext, IsLinked}
use Rattle.ring_cutting.specs.Left.{third_place, goes_left, may_go_at, is_ear_at}
use Rattle.ring_cutting.proofs.Reading.{IsRead, AreRead, length-vertices, read_as, here_read, before_first}
use Rattle.ring_cutting.proofs.Reading.{before_other, after_last, after_other, blocks_of, without_vertices}
use Rattle.ring_cutting.proofs.Thirds.{allowed_by_third}
use Rattle.ring_cutting.proofs.Lefts.{lives_within, rank_read, rank_within, rank_first, rank_last, rank_next, left_without}

-- the vertices of what is left
abbrev pub ring_left : List Bool → List Place → List ℕ
ring_left bs ps = vertices_of (left_of bs ps)

-- a place that is left is read there
read_left : (bs : List Bool) (ps : List Place) (i v : ℕ) → length bs ≡ length ps → lives bs i ≡ true →
    get_or (ring_left bs ps) (rank bs i) 0 ≡ v → IsRead (left_of bs ps) v (place_of ps i)
read_left bs ps i v many h is =
    let x = place_of ps i in
    let same : get_or (left_of bs ps) (rank bs i) x ≡ x =
    rank_read bs ps i x many h ∙ get_or_default ps i x no_place (omega (arith, lives_within bs i h, many)) in
    read_as (left_of bs ps) (rank bs i) v x (sym same) (rank_within bs ps i many h) is

-- the place that follows one stands after it
after_left : (bs : List Bool) (ps : List Place) (i j : ℕ) → length bs ≡ length ps → lives bs i ≡ true → IsNext bs i j →
    get_or (ring_left bs ps) (rank bs j) 0 ≡ vertex_after (ring_left bs ps) (rank bs i)
after_left bs ps i j many h next =
    let r = ring_left bs ps in
    let within = rank_within bs ps j many next.stays in
    elim (cases_lt i j) as (λ _. get_or r (rank bs j) 0 ≡ vertex_after r (rank bs i)) [
      | inl l ↦
          let one : rank bs j ≡ rank bs i + 1 = omega (arith, rank_next bs i j h l (next.between l)) in
          ap (λ (k : ℕ). get_or r k 0) one ∙ after_other (left_of bs ps) (rank bs i) (omega (arith, one, within))
      | inr l ↦
          ap (λ (k : ℕ). get_or r k 0) (rank_first bs j (next.first l))
          ∙ after_last (left_of bs ps) (rank bs i) (omega (arith, rank_last bs ps i many h (next.last l)))
    ]

-- and one that it follows before it
before_left : (bs : List Bool) (ps : List Place) (p i : ℕ) → length bs ≡ length ps → lives bs p ≡ true → IsNext bs p i →
    get_or (ring_left bs ps) (rank bs p) 0 ≡ vertex_before (ring_left bs ps) (rank bs i)
before_left bs ps p i many h next =
    let r = ring_left bs ps in
    let within = rank_within bs ps i many next.stays in
    elim (cases_lt p i) as (λ _. get_or r (rank bs p) 0 ≡ vertex_before r (rank bs i)) [
      | inl l ↦
          let one : rank bs i ≡ suc (rank bs p) = rank_next bs p i h l (next.between l) in
          let less : rank bs p ≡ rank bs i - 1 = omega (arith, one) in
          ap (λ (k : ℕ). get_or r k 0) less ∙ before_other (left_of bs ps) (rank bs i) (omega (arith, one)) within
      | inr l ↦
          let none : rank bs i ≡ 0 = rank_first bs i (next.first l) in
          let end : rank bs p ≡ length (left_of bs ps) - 1 = omega (arith, rank_last bs ps p many h (next.last l)) in
          ap (λ (k : ℕ). get_or r k 0) end ∙ before_first (left_of bs ps) (omega (arith, within)) ∙ ap (vertex_before r) (sym none)
    ]

-- a place that is left and its neighbours by the links
pub around : (ps : List Place) (nx bf : List ℕ) (bs : List Bool) (i : ℕ) → IsLinked (length ps) nx bf bs → lives bs i ≡ true →
    AreRead (left_of bs ps) (rank bs i) (place_of ps (before_of bf i)) (place_of ps i) (place_of ps (after_of nx i))
around ps nx bf bs i h here =
    let r = ring_left bs ps in
    let p = before_of bf i in
    let n = after_of nx i in
    let to : IsNext bs p i = subst (IsNext bs p) (h.forth i here) (h.goes p (h.stays i here)) in
    record {
      before = read_left bs ps p (vertex_before r (rank bs i)) h.living_long (h.stays i here)
          (before_left bs ps p i h.living_long (h.stays i here) to);
      here = read_left bs ps i (vertex_at r (rank bs i)) h.living_long here
          (here_read (left_of bs ps) (rank bs i) (rank_within bs ps i h.living_long here));
      after = read_left bs ps n (vertex_after r (rank bs i)) h.living_long (h.goes i here).stays
          (after_left bs ps i n h.living_long here (h.goes i here));
    }

-- a test of the vertices
any_vertices : (f : ℕ → Bool) (ps : List Place) → list_any f (vertices_of ps) ≡ list_any (λ (q : Place). f q.vertex) ps
any_vertices f [] = refl
any_vertices f (p ∷ ps) = ap (λ (b : Bool). f p.vertex || b) (any_vertices f ps)

-- where both pairs are equal, neither test holds
neither : (a b c d : ℕ) (x y : Bool) → a ≡ b → c ≡ d → (not (a == b) && x) ≡ (not (c == d) && y)
neither a b c d x y e f = rw (eq-eqb a b e, eq-eqb c d f) refl

differ : (c d : ℕ) (y : Bool) → c ≢ d → y ≡ (not (c == d) && y)
differ c d y n = rw (ne_eqb c d n) refl

-- it may be cut by the links where it may be in the ring
pub allowed_left : (ps : List Place) (nx bf : List ℕ) (bs : List Bool) (i : ℕ) → IsLinked (length ps) nx bf bs → lives bs i ≡ true →
    is_allowed (ring_left bs ps) (rank bs i) ≡ may_go_at ps nx bf bs i
allowed_left ps nx bf bs i h here =
    let r = ring_left bs ps in
    let k = rank bs i in
    let a = (place_of ps (before_of bf i)).vertex in
    let c = (place_of ps (after_of nx i)).vertex in
    let all = around ps nx bf bs i h here in
    let within : k < length r = omega (arith, rank_within bs ps i h.living_long here, length-vertices (left_of bs ps)) in
    let rest : List Place = left_of (set bs i false) ps in
    let without : without_place k r ≡ vertices_of rest =
    sym (ap vertices_of (left_without bs ps i h.living_long here) ∙ without_vertices (left_of bs ps) k) in
    elim (cases_eq a c) as (λ _. is_allowed r k ≡ may_go_at ps nx bf bs i) [
      | inl e ↦
          neither (vertex_before r k) (vertex_after r k) a c (nat_lt 2 (different (without_place k r))) (list_any (third_place a c) rest)
          (sym all.before.vertex ∙ e ∙ all.after.vertex) e
      | inr d ↦
          sym (allowed_by_third r k within (λ e. d (all.before.vertex ∙ e ∙ sym all.after.vertex)))
          ∙ (λ j. list_any (is_third (sym all.before.vertex j) (sym all.after.vertex j)) (without j)) ∙ any_vertices (is_third a c) rest
          ∙ differ a c (list_any (third_place a c) rest) d
    ]

-- it turns left where it does in the ring
pub left_read : (at : Plane) (ps : List Place) (k : ℕ) (p x n : Place) → IsPlaced at ps → AreRead ps k p x n →
    int_lt (pos 0) (orient at (vertex_before (vertices_of ps) k) (vertex_at (vertices_of ps) k) (vertex_after (vertices_of ps) k)) ≡
    int_lt (pos 0) (turn p.at x.at n.at)
left_read at ps k p x n placed all = sym (rw (all.before.at at placed, all.here.at at placed, all.after.at at placed) refl)

three : (a b c d e f : Bool) → a ≡ b → c ≡ d → e ≡ f → ((a && c) && not e) ≡ ((b && d) && not f)
three a b c d e f x y z = rw (x, y, z) refl

-- it is an ear where it is one of the ring
pub ear_left : (at : Plane) (ps : List Place) (nx bf : List ℕ) (bs : List Bool) (i : ℕ) → IsPlaced at (left_of bs ps) →
    IsLinked (length ps) nx bf bs → lives bs i ≡ true → is_ear at (ring_left bs ps) (rank bs i) ≡ is_ear_at ps nx bf bs i
ear_left at ps nx bf bs i placed h here =
    let r = ring_left bs ps in
    let k = rank bs i in
    let p = place_of ps (before_of bf i) in
    let x = place_of ps i in
    let n = place_of ps (after_of nx i) in
    let all = around ps nx bf bs i h here in
    three (is_allowed r k) (may_go_at ps nx bf bs i) (int_lt (pos 0) (orient at (vertex_before r k) (vertex_at r k) (vertex_after r k)))
    (goes_left ps (before_of bf i) i (after_of nx i))
    (list_any (blocks at (vertex_before r k) (vertex_at r k) (vertex_after r k)) r) (list_any (place_blocks p x n) (left_of bs ps))
    (allowed_left ps nx bf bs i h here) (left_read at (left_of bs ps) k p x n placed all) (sym (blocks_of at (left_of bs ps) k p x n placed all))

-- its triangle is that of the ring
pub triple_left : (ps : List Place) (nx bf : List ℕ) (bs : List Bool) (i : ℕ) → IsLinked (length ps) nx bf bs → lives bs i ≡ true →
    ◌≡◌ {A = Triple} ((place_of ps (before_of bf i)).vertex, (place_of ps i).vertex, (place_of ps (after_of nx i)).vertex)
    (triple_at (ring_left bs ps) (rank bs i))
triple_left ps nx bf bs i h here = let all = around ps nx bf bs i h here in (λ j. (all.before.vertex j, all.here.vertex j, all.after.vertex j))
