-- The triangles that are left of a mesh while edges are collapsed, under the numbers that they had in it.
use Rattle.std.specs.Prelude.{◌≡◌, ◌+◌, ◌*◌, ◌/◌, ◌%◌, ◌<◌, ◌≤◌, ◌⊎◌, ℕ, ℤ, List, [], Bool, true, false, ◌==◌, count_by, get_or, length}
use Rattle.std.specs.List.{All, Contains}
use Rattle.chain_terms.specs.Chains.{all_edges, one_if, IsClosed}
use Rattle.chain_terms.specs.Ranks.{rank, start, finish, twin}
use Rattle.mesh_check.specs.Reduced.{picked}
use Rattle.mesh_terms.specs.Limits.{most_triangles}
use Rattle.mesh_terms.specs.Meshes.{HasThree, IsBelow, Triple}
use Rattle.tidy_terms.specs.Collapse.{collapsed_at, labels_left_at, merged, stays}
use Rattle.tidy_terms.specs.Tidy.{tidied}
use Rattle.tidy_laws.specs.Conditions.{number_after}

-- triangles, of each whether it is left, and how many vertices there are
pub record TidySurface : Type 0 where
  pub triples : List Triple
  pub left : List Bool
  pub vertices : ℕ

-- those that are left
abbrev pub left_of : TidySurface → List Triple
left_of s = picked s.left s.triples

-- their labels, out of a list with one for each triangle
abbrev pub labels_of : TidySurface → List (List ℕ) → List (List ℕ)
labels_of s labels = picked s.left labels

-- the half-edge is one of a triangle that is left
abbrev pub Has : TidySurface → ℕ → Type 0
Has s h = (h < 3 * length s.triples) × (get_or s.left (h / 3) false ≡ true)

-- the number of a half-edge among those that are left
abbrev pub number_of : TidySurface → ℕ → ℕ
number_of s h = 3 * rank (λ m. m) s.left (h / 3) + h % 3

-- t is the twin of h among those that are left
pub record IsTwin (s : TidySurface) (h t : ℕ) : Type 0 where
  pub there : Has s t
  pub is : twin (all_edges (left_of s)) (number_of s h) ≡ number_of s t

-- a half-edge that is left stands once in the star of its start, and in no other
abbrev pub StandsOnce : TidySurface → List (List ℕ) → ℕ → Type 0
StandsOnce s stars h = (v : ℕ) → v < s.vertices → count_by (λ x. x == h) (get_or stars v []) ≡ one_if (start (all_edges s.triples) h == v)

-- what is left is closed, and each of its triangles has three different vertices
pub record IsSurface (s : TidySurface) : Type 0 where
  pub marks : length s.left ≡ length s.triples
  pub few : length s.triples ≤ most_triangles
  pub below : All (IsBelow s.vertices) s.triples
  pub three : All HasThree (left_of s)
  pub closed : IsClosed (all_edges (left_of s))

-- what is left is closed, with twins and stars
pub record IsKept (s : TidySurface) (list : List ℕ) (stars : List (List ℕ)) : Type 0 where
  pub marks : length s.left ≡ length s.triples
  pub few : length s.triples ≤ most_triangles
  pub below : All (IsBelow s.vertices) s.triples
  pub three : All HasThree (left_of s)
  pub closed : IsClosed (all_edges (left_of s))
  pub full : length list ≡ 3 * length s.triples
  pub twins : (h : ℕ) → Has s h → IsTwin s h (get_or list h 0)
  pub within : All (All (λ h. h < 3 * length s.triples)) stars
  pub stand : (h : ℕ) → Has s h → StandsOnce s stars h

-- the second is the first after the collapse of a half-edge: what is left follows the definition, and so do the numbers
pub record HasCollapsed (old new : TidySurface) (h : ℕ) : Type 0 where
  pub left : left_of new ≡ collapsed_at (left_of old) (number_of old h)
  pub labels : (labels : List (List ℕ)) → length labels ≡ length old.triples → labels_of new labels ≡ labels_left_at (left_of old) (number_of old h) (labels_of old labels)
  pub count : length new.triples ≡ length old.triples
  pub vertices : new.vertices ≡ old.vertices
  pub had : (x : ℕ) → Has new x → Has old x
  pub stay : (x : ℕ) → Has new x →
      (number_of old x < 3 * length (left_of old)) × (stays (start (all_edges (left_of old)) (number_of old h))
      (finish (all_edges (left_of old)) (number_of old h)) (get_or (left_of old) (number_of old x / 3) (0, 0, 0)) ≡ true)
  pub has : (x : ℕ) → Has old x → stays (start (all_edges (left_of old)) (number_of old h)) (finish (all_edges (left_of old)) (number_of old h))
      (get_or (left_of old) (number_of old x / 3) (0, 0, 0)) ≡ true → Has new x
  pub numbers : (x : ℕ) → Has new x →
      number_of new x ≡ number_after (start (all_edges (left_of old)) (number_of old h)) (finish (all_edges (left_of old)) (number_of old h)) (left_of old) (number_of old x)

-- the second is what is left of the first, whatever the labels, when so many collapses were made and no more can be
abbrev pub HasTidied : List (List ℤ) → TidySurface → TidySurface → ℕ → Type 0
HasTidied points old new n = (labels : List (List ℕ)) → length labels ≡ length old.triples →
    tidied points (left_of old) (labels_of old labels) ≡ record { triples = left_of new; labels = labels_of new labels; collapses = n }

-- where one of the half-edges started at the old vertex it starts at the new one, and all others start where they did
pub record IsRenamed (before after : List Triple) (halves : List ℕ) (old new : ℕ) : Type 0 where
  pub listed : (h : ℕ) → Contains halves h → start (all_edges after) h ≡ merged new old (start (all_edges before) h)
  pub either : (h : ℕ) → (start (all_edges after) h ≡ start (all_edges before) h) ⊎ (start (all_edges after) h ≡ merged new old (start (all_edges before) h))
