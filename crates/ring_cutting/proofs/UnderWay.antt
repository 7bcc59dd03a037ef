-- A cutting under way: the triangles so far, and the places that are left.
use Rattle.std.specs.Prelude.{◌≡◌, ℕ, suc, ◌+◌, ◌-◌, ◌<◌, ◌≤◌, pos, List, [], ◌∷◌, ◌++◌, Bool, cond, int_lt, length}
use Rattle.std.specs.List.{remove}
use Rattle.std.proofs.Common.{arith, refl, sym, subst, ap, ◌∙◌}
use Rattle.std.proofs.lemmas.List.{append_assoc}
use Rattle.std.proofs.lemmas.List.Edits.{length-remove}
use Rattle.mesh_terms.specs.Meshes.{Triple}
use Rattle.face_plane.specs.Planes.{Plane, orient}
use Rattle.face_plane.specs.Rings.{vertex_at, vertex_before, vertex_after, without_place}
use Rattle.ring_cutting.specs.declared.place.Place.{Place}
use Rattle.ring_cutting.specs.Cuts.{Cut, with_triple, triple_at, last_triple, cut_place, forced_here, cut_of, cut_ring}
use Rattle.ring_cutting.specs.Placed.{vertices_of, IsPlaced}
use Rattle.ring_cutting.proofs.Reading.{length-vertices, without_vertices, placed_without}

-- triangles that were cut before, with how many of them were forced
abbrev pub after : List Triple → ℕ → Cut → Cut
after ts n c = record { triples = ts ++ c.triples; forced = n + c.forced }

same_cut : (ts us : List Triple) (n m : ℕ) → ts ≡ us → n ≡ m →
    ◌≡◌ {A = Cut} (record { triples = ts; forced = n }) (record { triples = us; forced = m })
same_cut ts us n m e f = λ i. record { triples = e i; forced = f i }

-- one more of them
after_more : (ts : List Triple) (n : ℕ) (t : Triple) (k : ℕ) (c : Cut) → after ts n (with_triple t k c) ≡ after (ts ++ t ∷ []) (n + k) c
after_more ts n t k c =
    let e : n + (k + c.forced) ≡ n + k + c.forced = omega arith in
    same_cut (ts ++ t ∷ c.triples) ((ts ++ t ∷ []) ++ c.triples) (n + (k + c.forced)) (n + k + c.forced) (sym (append_assoc ts (t ∷ []) c.triples)) e

-- the triangles so far and the cutting of the places left are the whole cutting
pub record IsUnderWay (at : Plane) (whole : List ℕ) (ps : List Place) (ts : List Triple) (n : ℕ) : Type 0 where
  pub placed : IsPlaced at ps
  pub cut : cut_ring at whole ≡ after ts n (cut_of at (length (vertices_of ps) - 3) (vertices_of ps))

pub begun : (at : Plane) (ps : List Place) → IsPlaced at ps → IsUnderWay at (vertices_of ps) ps [] 0
begun at ps placed =
    let c = cut_ring at (vertices_of ps) in
    let e : c.forced ≡ 0 + c.forced = omega arith in
    record { placed = placed; cut = same_cut c.triples c.triples c.forced (0 + c.forced) refl e }

-- one place more is cut
pub cut_more : (at : Plane) (whole : List ℕ) (ps new : List Place) (ts : List Triple) (n i k : ℕ) (t : Triple) →
    IsUnderWay at whole ps ts n → 4 ≤ length ps → i < length ps →
    i ≡ cut_place at (vertices_of ps) → k ≡ forced_here at (vertices_of ps) → t ≡ triple_at (vertices_of ps) i → new ≡ remove ps i →
    IsUnderWay at whole new (ts ++ t ∷ []) (n + k)
cut_more at whole ps new ts n i k t h four within place forced triple is =
    let r = vertices_of ps in
    let m = length r - 4 in
    let one : length r - 3 ≡ suc m = omega (arith, four, length-vertices ps) in
    let left : without_place i r ≡ vertices_of new = sym (ap vertices_of is ∙ without_vertices ps i) in
    let fewer : m ≡ length (vertices_of new) - 3 =
    omega (arith, four, length-vertices ps, length-vertices new, ap length is, length-remove ps i within) in
    let here : cut_of at (suc m) r ≡ with_triple t k (cut_of at m (without_place i r)) = rw (triple, forced, place) refl in
    record {
      placed = subst (IsPlaced at) (sym is) (placed_without at ps i h.placed);
      cut =
          h.cut ∙ ap (λ (j : ℕ). after ts n (cut_of at j r)) one ∙ ap (after ts n) here ∙ after_more ts n t k (cut_of at m (without_place i r))
          ∙ ap (λ (l : List ℕ). after (ts ++ t ∷ []) (n + k) (cut_of at m l)) left
          ∙ ap (λ (j : ℕ). after (ts ++ t ∷ []) (n + k) (cut_of at j (vertices_of new))) fewer;
    }

-- of three places the second with its neighbours is the triangle of all
three_places : (r : List ℕ) → length r ≡ 3 → triple_at r 1 ≡ (vertex_at r 0, vertex_at r 1, vertex_at r 2)
three_places [] h = absurd (omega (arith, h))
three_places (a ∷ []) h = absurd (omega (arith, h))
three_places (a ∷ b ∷ []) h = absurd (omega (arith, h))
three_places (a ∷ b ∷ c ∷ []) h = refl
three_places (a ∷ b ∷ c ∷ d ∷ r) h = absurd (omega (arith, h))

-- one where a test fails
abbrev pub one_unless : Bool → ℕ
one_unless b = cond b 0 1

-- the last triangle
pub cut_last : (at : Plane) (whole : List ℕ) (ps : List Place) (ts us : List Triple) (n m : ℕ) (t : Triple) (left : Bool) →
    IsUnderWay at whole ps ts n → length ps ≡ 3 →
    t ≡ triple_at (vertices_of ps) 1 →
    left ≡ int_lt (pos 0) (orient at (vertex_before (vertices_of ps) 1) (vertex_at (vertices_of ps) 1) (vertex_after (vertices_of ps) 1)) →
    us ≡ ts ++ t ∷ [] → m ≡ n + one_unless left → ◌≡◌ {A = Cut} (record { triples = us; forced = m }) (cut_ring at whole)
cut_last at whole ps ts us n m t left h three triple turns more count =
    let r = vertices_of ps in
    let none : length r - 3 ≡ 0 = omega (arith, three, length-vertices ps) in
    let corners = three_places r (omega (arith, three, length-vertices ps)) in
    let test : left ≡ int_lt (pos 0) (orient at (vertex_at r 0) (vertex_at r 1) (vertex_at r 2)) =
    turns ∙ ap (λ (u : Triple). int_lt (pos 0) (orient at u.0 u.1 u.2)) corners in
    let l : Cut = last_triple at r in
    same_cut us (ts ++ l.triples) m (n + l.forced) (more ∙ ap (λ (u : Triple). ts ++ u ∷ []) (triple ∙ corners))
    (count ∙ ap (λ (b : Bool). n + one_unless b) test)
    ∙ sym (h.cut ∙ ap (λ (j : ℕ). after ts n (cut_of at j r)) none)
