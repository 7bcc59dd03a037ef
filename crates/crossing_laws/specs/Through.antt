-- Whether a segment goes through a face: by the common sign of five volumes.
use Rattle.std.specs.Prelude.{◌≢◌, ℕ, ℤ, pos, neg_ℤ, ◌+ℤ◌, ◌<ℤ◌, List, [], ◌∷◌}
use Rattle.std.specs.List.{All}
use Rattle.chain_terms.specs.Sums.{total}
use Rattle.mesh_terms.specs.Meshes.{Triple}
use Rattle.plane_laws.specs.Above.{opposite}
use Rattle.plane_laws.specs.Decisions.{Vector, edges_normal, face_normal}
use Rattle.solid_terms.specs.Solids.{volume}
use Rattle.space_laws.specs.Crossed.{five_sign}
use Rattle.space_laws.specs.Lexical.{height_or_lead}
use Rattle.solid_laws.specs.Moved.{moved_volume}

-- 1 where the segment from a to b goes through the face u, v, t from behind to the front, which is where the face turns left; -1 where it comes back;
-- else 0: a lies behind the face, b in front of it, and the line of a and b passes all three edges on the same side
abbrev pub goes_through : Vector → Vector → Vector → Vector → Vector → ℤ
goes_through a b u v t = five_sign (volume a u v t) (neg_ℤ (volume b u v t)) (volume a b u v) (volume a b v t) (volume a b t u)

-- the volume of a, b, c and d where a and b are moved by a hair in x, by a lesser one in y and by a still lesser one in z
abbrev pub moved_pair : Vector → Vector → Vector → Vector → ℤ
moved_pair a b c d = height_or_lead (edges_normal a b c d) (volume a b c d)

-- the same of a segment that is moved so
abbrev pub moved_through : Vector → Vector → Vector → Vector → Vector → ℤ
moved_through a b u v t = five_sign (moved_volume a u v t) (neg_ℤ (moved_volume b u v t)) (moved_pair a b u v) (moved_pair a b v t) (moved_pair a b t u)

-- the volumes where the face is moved so, and not the segment
abbrev pub volume_back : Vector → Vector → Vector → Vector → ℤ
volume_back p u v t = height_or_lead (face_normal u v t) (volume p u v t)

-- of the segment and an edge of the face
abbrev pub pair_back : Vector → Vector → Vector → Vector → ℤ
pair_back a b c d = height_or_lead (opposite (edges_normal a b c d)) (volume a b c d)

-- whether a segment goes through a face that is moved by the hair
abbrev pub through_moved : Vector → Vector → Vector → Vector → Vector → ℤ
through_moved a b u v t = five_sign (volume_back a u v t) (neg_ℤ (volume_back b u v t)) (pair_back a b u v) (pair_back a b v t) (pair_back a b t u)

-- none of the five volumes is 0
pub record IsPlain (a b u v t : Vector) : Type 0 where
  pub start : volume a u v t ≢ pos 0
  pub end : volume b u v t ≢ pos 0
  pub first : volume a b u v ≢ pos 0
  pub second : volume a b v t ≢ pos 0
  pub third : volume a b t u ≢ pos 0

-- how often a moved segment goes through the faces of a mesh to the front, less how often it comes back
abbrev pub moved_throughs : (ℕ → Vector) → List Triple → Vector → Vector → ℤ
moved_throughs at ts a b = total (λ t. moved_through a b (at t.0) (at t.1) (at t.2)) ts

-- how often a segment goes through the faces of a moved mesh to the front, less how often it comes back
abbrev pub throughs_moved : (ℕ → Vector) → List Triple → Vector → Vector → ℤ
throughs_moved at ts a b = total (λ t. through_moved a b (at t.0) (at t.1) (at t.2)) ts

-- the same of both where nothing is moved
abbrev pub throughs : (ℕ → Vector) → List Triple → Vector → Vector → ℤ
throughs at ts a b = total (λ t. goes_through a b (at t.0) (at t.1) (at t.2)) ts

-- the segment makes a volume of 0 with no face
abbrev pub IsPlainTo : (ℕ → Vector) → List Triple → Vector → Vector → Type 0
IsPlainTo at ts a b = All (λ t. IsPlain a b (at t.0) (at t.1) (at t.2)) ts

-- where a way ends that leads from p to each of the others in turn
abbrev pub way_end : {X : Type 0} → X → List X → X
way_end p [] = p
way_end p (q ∷ qs) = way_end q qs

-- the sum of the numbers of the segments of a way
abbrev pub way_total : {X : Type 0} → (X → X → ℤ) → X → List X → ℤ
way_total number p [] = pos 0
way_total number p (q ∷ qs) = number p q +ℤ way_total number q qs

-- what holds of all segments of a way
abbrev pub AreSteps : {X : Type 0} → (X → X → Type 0) → X → List X → Type 0
AreSteps P p [] = Unit {0}
AreSteps P p (q ∷ qs) = P p q × AreSteps P q qs

-- a place that all corners of a mesh have on their right: it is far outside
abbrev pub IsLeftOf : Vector → (ℕ → Vector) → List Triple → Type 0
IsLeftOf p at ts = All (λ t. (p.x <ℤ (at t.0).x) × (p.x <ℤ (at t.1).x) × (p.x <ℤ (at t.2).x)) ts
