-- What is read of the places of a ring.
use Rattle.std.specs.Prelude.{◌≡◌, ℕ, suc, ◌+◌, ◌-◌, ◌<◌, List, [], ◌∷◌, ◌++◌, length, get_or, map, take, drop}
use Rattle.std.specs.List.{list_any, remove}
use Rattle.std.proofs.Common.{arith, refl, sym, subst, ap, ◌∙◌}
use Rattle.std.proofs.lemmas.List.{get_or-map, length-map, map-append, take-map, drop-map}
use Rattle.std.proofs.lemmas.List.Elements.{All-append, All-take, All-drop}
use Rattle.face_plane.specs.Planes.{Plane}
use Rattle.face_plane.specs.Rings.{vertex_at, vertex_before, vertex_after, without_place}
use Rattle.ring_cutting.specs.declared.place.Place.{Place}
use Rattle.ring_cutting.specs.Cuts.{blocks}
use Rattle.ring_cutting.specs.Placed.{vertices_of, IsPlaced, place_blocks}
use Rattle.ring_cutting.proofs.Turned.{at_within, at_round}

-- a place that was read has a vertex, and in each plane that vertex's point
pub record IsRead (ps : List Place) (v : ℕ) (x : Place) : Type 0 where
  pub vertex : x.vertex ≡ v
  pub at : (at : Plane) → IsPlaced at ps → x.at ≡ at v

-- as many vertices as places
pub length-vertices : (ps : List Place) → length (vertices_of ps) ≡ length ps
length-vertices ps = length-map ps (λ (p : Place). p.vertex)

-- the place at an index
pub read : (ps : List Place) (k : ℕ) (x : Place) → x ≡ get_or ps k x → k < length ps → IsRead ps (get_or (vertices_of ps) k 0) x
read ps k x e h =
    let v : x.vertex ≡ get_or (vertices_of ps) k 0 = ap (λ (p : Place). p.vertex) e ∙ sym (get_or-map (λ (p : Place). p.vertex) ps k x 0 h) in
    record {
      vertex = v;
      at = λ at placed. ap (λ (p : Place). p.at) e ∙ placed k x h ∙ ap at (ap (λ (p : Place). p.vertex) (sym e) ∙ v);
    }

-- the same where the index is that of a place counted round the ring
pub read_as : (ps : List Place) (k v : ℕ) (x : Place) → x ≡ get_or ps k x → k < length ps → get_or (vertices_of ps) k 0 ≡ v → IsRead ps v x
read_as ps k v x e h is = subst (λ w. IsRead ps w x) is (read ps k x e h)

pub here_read : (ps : List Place) (i : ℕ) → i < length ps → get_or (vertices_of ps) i 0 ≡ vertex_at (vertices_of ps) i
here_read ps i h = sym (at_within (vertices_of ps) i (omega (arith, h, length-vertices ps)))

pub before_first : (ps : List Place) → 0 < length ps → get_or (vertices_of ps) (length ps - 1) 0 ≡ vertex_before (vertices_of ps) 0
before_first ps h =
    let n = length-vertices ps in
    let e : 0 + (length (vertices_of ps) - 1) ≡ length ps - 1 = omega (arith, n) in
    sym (ap (vertex_at (vertices_of ps)) e ∙ at_within (vertices_of ps) (length ps - 1) (omega (arith, h, n)))

pub before_other : (ps : List Place) (i : ℕ) → 0 < i → i < length ps → get_or (vertices_of ps) (i - 1) 0 ≡ vertex_before (vertices_of ps) i
before_other ps i some h =
    let n = length-vertices ps in
    let e : i + (length (vertices_of ps) - 1) ≡ (i - 1) + length (vertices_of ps) = omega (arith, n, some, h) in
    sym (ap (vertex_at (vertices_of ps)) e ∙ at_round (vertices_of ps) (i - 1) (omega (arith, n, some, h)))

pub after_last : (ps : List Place) (i : ℕ) → i + 1 ≡ length ps → get_or (vertices_of ps) 0 0 ≡ vertex_after (vertices_of ps) i
after_last ps i h =
    let n = length-vertices ps in
    let e : i + 1 ≡ 0 + length (vertices_of ps) = omega (arith, n, h) in
    sym (ap (vertex_at (vertices_of ps)) e ∙ at_round (vertices_of ps) 0 (omega (arith, n, h)))

pub after_other : (ps : List Place) (i : ℕ) → i + 1 < length ps → get_or (vertices_of ps) (i + 1) 0 ≡ vertex_after (vertices_of ps) i
after_other ps i h = sym (at_within (vertices_of ps) (i + 1) (omega (arith, length-vertices ps, h)))

-- a place of a ring and its neighbours were read
pub record AreRead (ps : List Place) (i : ℕ) (p x n : Place) : Type 0 where
  pub before : IsRead ps (vertex_before (vertices_of ps) i) p
  pub here : IsRead ps (vertex_at (vertices_of ps) i) x
  pub after : IsRead ps (vertex_after (vertices_of ps) i) n

-- a place blocks where its vertex does
pub blocks_of : (at : Plane) (ps : List Place) (i : ℕ) (p x n : Place) → IsPlaced at ps → AreRead ps i p x n →
    list_any (place_blocks p x n) ps ≡
    list_any (blocks at (vertex_before (vertices_of ps) i) (vertex_at (vertices_of ps) i) (vertex_after (vertices_of ps) i)) (vertices_of ps)
blocks_of at ps i p x n placed read = along ps placed
  where
    a : ℕ
    a = vertex_before (vertices_of ps) i

    b : ℕ
    b = vertex_at (vertices_of ps) i

    c : ℕ
    c = vertex_after (vertices_of ps) i

    one : (w : Place) → w.at ≡ at w.vertex → place_blocks p x n w ≡ blocks at a b c w.vertex
    one w e =
        rw (
          read.before.vertex,
          read.here.vertex,
          read.after.vertex,
          read.before.at at placed,
          read.here.at at placed,
          read.after.at at placed,
          e,
        ) refl

    along : (qs : List Place) → IsPlaced at qs → list_any (place_blocks p x n) qs ≡ list_any (blocks at a b c) (vertices_of qs)
    along [] h = refl
    along (w ∷ qs) h = rw (one w (h 0 w (omega arith)), along qs (λ k d l. h (suc k) d (omega (arith, l)))) refl

-- a place taken out
pub without_vertices : (ps : List Place) (i : ℕ) → vertices_of (remove ps i) ≡ without_place i (vertices_of ps)
without_vertices ps i =
    let f : Place → ℕ = λ p. p.vertex in
    let next : suc i ≡ i + 1 = omega arith in
    map-append f (take i ps) (drop (suc i) ps) ∙ ap (λ l. l ++ map f (drop (suc i) ps)) (sym (take-map f i ps))
    ∙ ap (λ l. take i (map f ps) ++ l) (sym (drop-map f (suc i) ps)) ∙ ap (λ k. take i (map f ps) ++ drop k (map f ps)) next

pub placed_without : (at : Plane) (ps : List Place) (i : ℕ) → IsPlaced at ps → IsPlaced at (remove ps i)
placed_without at ps i h =
    let P : Place → Type 0 = λ p. p.at ≡ at p.vertex in All-append P (take i ps) (drop (suc i) ps) (All-take P i ps h) (All-drop P (suc i) ps h)
