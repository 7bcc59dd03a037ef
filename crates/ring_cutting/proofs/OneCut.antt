-- One place more is cut: the ring that is left, the triangles, and how many were forced.
use Rattle.std.proofs.Common.{◌≡◌, ◌+◌, ◌<◌, ◌≤◌, ℕ, List, [], ◌∷◌, ◌++◌, true, false, Bool, cond, length, sym, ap, subst, ◌∙◌, arith}
use Rattle.std.specs.List.{remove}
use Rattle.std.proofs.lemmas.List.{map_push}
use Rattle.mesh_terms.specs.Meshes.{Triple, triple_of, triples_of}
use Rattle.face_plane.specs.Planes.{Plane}
use Rattle.face_plane.specs.Rings.{IsRing}
use Rattle.ring_cutting.specs.declared.place.Place.{Place}
use Rattle.ring_cutting.specs.Cuts.{is_allowed, triple_at, cut_place, forced_here}
use Rattle.ring_cutting.specs.Placed.{vertices_of}
use Rattle.ring_cutting.proofs.Reading.{length-vertices, without_vertices}
use Rattle.ring_cutting.proofs.Steps.{step}
use Rattle.ring_cutting.proofs.UnderWay.{IsUnderWay, cut_more, one_unless}

-- the places left are a ring
pub still_ringy : (ps new : List Place) (i : ℕ) → IsRing (vertices_of ps) → 4 ≤ length ps → i < length ps →
    is_allowed (vertices_of ps) i ≡ true → new ≡ remove ps i → IsRing (vertices_of new)
still_ringy ps new i ringy four within allowed is =
    let n = length-vertices ps in
    let left = (step (vertices_of ps) i ringy (omega (arith, four, n)) (omega (arith, within, n)) allowed).ringy in
    subst IsRing (sym (ap vertices_of is ∙ without_vertices ps i)) left

-- one triangle more
pub triples_more : (ts new : List (List ℕ)) (t : List ℕ) → new ≡ ts ++ t ∷ [] → triples_of new ≡ triples_of ts ++ triple_of t ∷ []
triples_more ts new t e = ap triples_of e ∙ map_push triple_of ts t

-- the count after a branch
abbrev pub one_where : Bool → ℕ
one_where b = cond b 1 0

pub record IsCounted (n m : ℕ) (b : Bool) : Type 0 where
  pub is : m ≡ n + one_where b

pub counted_true : (n m : ℕ) (b : Bool) → b ≡ true → m ≡ n + 1 → IsCounted n m b
counted_true n m b e f = record { is = rw e f }

pub counted_false : (n m : ℕ) (b : Bool) → b ≡ false → m ≡ n → IsCounted n m b
counted_false n m b e f = record { is = rw e (omega (arith, f)) }

pub counted_most : (n m : ℕ) (b : Bool) → IsCounted n m b → m ≤ n + 1
counted_most n m true h = omega (arith, h.is)
counted_most n m false h = omega (arith, h.is)

-- where the last triangle does not turn left
pub turned_true : (n m : ℕ) (b : Bool) → b ≡ false → m ≡ n + 1 → m ≡ n + one_unless b
turned_true n m b e f = rw e f

pub turned_false : (n m : ℕ) (b : Bool) → b ≡ true → m ≡ n → m ≡ n + one_unless b
turned_false n m b e f = rw e (omega (arith, f))

-- the place that is cut, and the count, by the definition
pub record Chosen (at : Plane) (ps : List Place) (i : ℕ) (b : Bool) : Type 0 where
  pub place : i ≡ cut_place at (vertices_of ps)
  pub forced : one_where b ≡ forced_here at (vertices_of ps)

pub moved : (at : Plane) (whole : List ℕ) (ps new : List Place) (i : ℕ) (b : Bool) (ts us : List (List ℕ)) (t : List ℕ) (n m : ℕ) →
    IsUnderWay at whole ps (triples_of ts) n → 4 ≤ length ps → i < length ps → Chosen at ps i b →
    triple_of t ≡ triple_at (vertices_of ps) i → new ≡ remove ps i → us ≡ ts ++ t ∷ [] → IsCounted n m b → IsUnderWay at whole new (triples_of us) m
moved at whole ps new i b ts us t n m h four within chosen triple is more counted =
    subst (λ (l : List Triple). IsUnderWay at whole new l m) (sym (triples_more ts us t more))
    (subst (IsUnderWay at whole new (triples_of ts ++ triple_of t ∷ [])) (sym counted.is)
    (cut_more at whole ps new (triples_of ts) n i (one_where b) (triple_of t) h four within chosen.place chosen.forced triple is))
