-- Files of the ASCII STL profile, spelled out, and what they give.
use Rattle.std.specs.Prelude.{◌≡◌, ℕ, ◌^◌, ℤ, pos, List, [], ◌∷◌, ◌++◌, Result, Ok, Err, codes}
use Rattle.mesh_terms.specs.Faults.{Fault, Points, Triangles, Bad, Over}
use Rattle.mesh_terms.specs.Labels.{no_labels}
use Rattle.mesh_terms.specs.Limits.{Limits, IsLawful}
use Rattle.mesh_terms.specs.Meshes.{Triple, Soup}
use Rattle.format_terms.specs.Stl.{stl}
use Rattle.format_laws.specs.Welding.{welded_mesh}

-- limits of an ordinary run
abbrev pub wide_limits : Limits
wide_limits = record { file_bytes = 2 ^ 40; points = 150000000; triangles = 100000000; halfedges = 60000000 }

-- room for so many points and triangles
abbrev pub room_for : ℕ → ℕ → Limits
room_for points triangles = record { file_bytes = 1000; points = points; triangles = triangles; halfedges = 1 }

abbrev pub point : ℕ → ℕ → ℕ → List ℤ
point x y z = pos x ∷ pos y ∷ pos z ∷ []

-- the first point, and those one step from it along x, y and z
abbrev pub o : List ℤ
o = point 0 0 0

abbrev pub x : List ℤ
x = point 1 0 0

abbrev pub y : List ℤ
y = point 0 1 0

abbrev pub z : List ℤ
z = point 0 0 1

abbrev pub read_as : List (List ℤ) → List Triple → ℕ → Result Soup Fault
read_as points triples unused = Ok (record { points = points; triples = triples; labels = no_labels triples; unused = unused })

-- a facet with these corners, on seven lines
abbrev pub facet : List ℕ → List ℕ → List ℕ → List ℕ
facet a b c = codes "facet normal 0 0 0\nouter loop\nvertex " ++ a ++ codes "\nvertex " ++ b ++ codes "\nvertex " ++ c ++ codes "\nendloop\nendfacet\n"

-- a facet up to its corners, on one line
abbrev pub opened : List ℕ
opened = codes "solid\nfacet normal 0 0 1 outer loop "

-- three facets of a tetrahedron, and one that has a corner of its own in place of the last
abbrev pub with_last : List ℕ → List ℕ
with_last e =
    codes "solid t\n" ++ facet (codes "0 0 0") (codes "0 1 0") (codes "1 0 0") ++ facet (codes "0 0 0") (codes "1 0 0") (codes "0 0 1")
    ++ facet (codes "1 0 0") (codes "0 1 0") (codes "0 0 1") ++ facet (codes "0 1 0") (codes "0 0 0") e

-- one triangle, in other forms
abbrev pub spaced_text : List ℕ
spaced_text =
    239 ∷ 187 ∷ 191 ∷ codes
    "\r\n \tSOLID a b facet\r\n\n\tFacet  NORMAL nan\tinf -\r\nOuter\nloop vertex 0 0\r\n\r\n0 VERTEX 1 0 0 Vertex\n0 1\t\n0 endLoop EndFacet EndSolid endsolid solid\r\n\r\n"

pub record FilesRead : Type 0 where
  -- under lawful limits
  pub lawful : IsLawful wide_limits
  -- points in the order in which they come first
  pub tetrahedron : stl 4 wide_limits (with_last (codes "0 0 1") ++ codes "endsolid t\n")
      ≡ read_as (o ∷ point 0 10000 0 ∷ point 10000 0 0 ∷ point 0 0 10000 ∷ []) ((0, 1, 2) ∷ (0, 2, 3) ∷ (2, 1, 3) ∷ (1, 0, 3) ∷ []) 0
  -- corners a step apart are two points
  pub apart : stl 4 wide_limits (with_last (codes "0 0 1.0001") ++ codes "endsolid t\n")
      ≡ read_as (o ∷ point 0 10000 0 ∷ point 10000 0 0 ∷ point 0 0 10000 ∷ point 0 0 10001 ∷ []) ((0, 1, 2) ∷ (0, 2, 3) ∷ (2, 1, 3) ∷ (1, 0, 4) ∷ []) 0
  -- and after rounding to one step they are one
  pub welded : stl 4 wide_limits (with_last (codes "0 0 1.00001") ++ codes "endsolid t\n")
      ≡ read_as (o ∷ point 0 10000 0 ∷ point 10000 0 0 ∷ point 0 0 10000 ∷ []) ((0, 1, 2) ∷ (0, 2, 3) ∷ (2, 1, 3) ∷ (1, 0, 3) ∷ []) 0
  -- a triangle that has one point twice is dropped
  pub dropped : stl 4 wide_limits (with_last (codes "0 0 1.00001") ++ facet (codes "0 0 0") (codes "0.00001 0 0") (codes "1 0 0") ++ codes "endsolid t\n")
      ≡ read_as (o ∷ point 0 10000 0 ∷ point 10000 0 0 ∷ point 0 0 10000 ∷ []) ((0, 1, 2) ∷ (0, 2, 3) ∷ (2, 1, 3) ∷ (1, 0, 3) ∷ []) 0
  -- with its points, where no other triangle has them
  pub unused : stl 0 wide_limits
      (codes "solid\n" ++ facet (codes "9 9 9") (codes "0 0 0") (codes "9 9 9") ++ facet (codes "0 0 0") (codes "1 0 0") (codes "0 1 0") ++ codes "endsolid")
      ≡ read_as (o ∷ x ∷ y ∷ []) ((0, 1, 2) ∷ []) 1
  -- whichever two of its corners are the same
  pub first_two : stl 0 wide_limits (codes "solid\n" ++ facet (codes "0 0 0") (codes "0 0 0") (codes "1 0 0") ++ codes "endsolid") ≡ read_as [] [] 2
  pub last_two : stl 0 wide_limits (codes "solid\n" ++ facet (codes "1 0 0") (codes "0 0 0") (codes "0 0 0") ++ codes "endsolid") ≡ read_as [] [] 2
  -- a mark at the start, CR LF, tabs, keywords in any case, blanks and line ends between any words, names that look like keywords
  pub spaced : stl 0 wide_limits spaced_text ≡ read_as (o ∷ x ∷ y ∷ []) ((0, 1, 2) ∷ []) 0
  -- several solids, which share their points
  pub several : stl 0 wide_limits
      (codes "solid a\n" ++ facet (codes "0 0 0") (codes "1 0 0") (codes "0 1 0") ++ codes "endsolid a\n\nsolid b\nendsolid b\nsolid\n"
      ++ facet (codes "0 0 1") (codes "1 0 0") (codes "0 0 0") ++ codes "endsolid") ≡ read_as (o ∷ x ∷ y ∷ z ∷ []) ((0, 1, 2) ∷ (3, 1, 0) ∷ []) 0
  -- a solid without facets
  pub empty : stl 0 wide_limits (codes "solid\nendsolid") ≡ read_as [] [] 0
  -- the first fault decides: another word than the grammar wants, on that word's line
  pub no_solid : stl 0 wide_limits (codes "\n v 0 0 0\n") ≡ Err (Bad 2 10)
  pub no_facet : stl 0 wide_limits (codes "solid\nnormal") ≡ Err (Bad 2 10)
  pub no_normal : stl 0 wide_limits (codes "solid\nfacet\n\nnormals 0 0 0") ≡ Err (Bad 4 10)
  pub no_loop : stl 0 wide_limits (codes "solid\nfacet normal 0 0 outer\nloop") ≡ Err (Bad 3 10)
  pub no_vertex : stl 0 wide_limits (opened ++ codes "vertex 0 0 0\n0") ≡ Err (Bad 3 10)
  pub no_end : stl 0 wide_limits (opened ++ codes "vertex 0 0 0 vertex 0 0 0 vertex 0 0 0\nendfacet") ≡ Err (Bad 3 10)
  pub no_other : stl 0 wide_limits (codes "solid\nendsolid\n\nfacet normal") ≡ Err (Bad 4 10)
  -- a keyword that goes on is no keyword
  pub longer : stl 0 wide_limits (codes "solids\nendsolid") ≡ Err (Bad 1 10)
  -- a number that is none, also where a keyword stands there; or off the grid
  pub no_number : stl 0 wide_limits (opened ++ codes "vertex 0\nendloop") ≡ Err (Bad 3 3)
  pub off_grid : stl 0 wide_limits (opened ++ codes "vertex 0 1073741825 x") ≡ Err (Bad 2 4)
  -- or the file's end, on the last line
  pub nothing : stl 0 wide_limits [] ≡ Err (Bad 1 10)
  pub blank : stl 0 wide_limits (codes "\n \n") ≡ Err (Bad 3 10)
  pub cut_solid : stl 0 wide_limits (codes "solid t\n") ≡ Err (Bad 2 10)
  pub cut_facet : stl 0 wide_limits (codes "solid t\n" ++ facet (codes "0 0 0") (codes "0 1 0") (codes "1 0 0")) ≡ Err (Bad 9 10)
  pub cut_number : stl 0 wide_limits (opened ++ codes "vertex 0\n0") ≡ Err (Bad 3 10)
  -- the limit on points, at each new one, before the word after it
  pub over_points : stl 0 (room_for 2 9)
      (opened ++ codes "vertex 0 0 0 vertex 1 0 0 vertex 1 0 0 endloop endfacet facet normal 0 0 1 outer loop\nvertex 0 1 0 x") ≡ Err (Over Points 3)
  -- the limit on triangles, where one is kept
  pub over_triangles : stl 0 (room_for 9 1)
      (codes "solid\n" ++ facet (codes "0 0 0") (codes "0 1 0") (codes "1 0 0") ++ facet (codes "0 0 0") (codes "0 0 0") (codes "1 0 0")
      ++ facet (codes "0 0 0") (codes "0 1 0") (codes "1 0 0") ++ codes "x") ≡ Err (Over Triangles 2)
  pub within : stl 0 (room_for 3 1)
      (codes "solid\n" ++ facet (codes "0 0 0") (codes "0 1 0") (codes "1 0 0") ++ facet (codes "0 0 0") (codes "0 0 0") (codes "1 0 0") ++ codes "endsolid")
      ≡ read_as (o ∷ y ∷ x ∷ []) ((0, 1, 2) ∷ []) 0
  -- the text of a mesh reads welded: points in the order in which the corners have them
  pub renumbered : welded_mesh (o ∷ x ∷ y ∷ z ∷ []) ((0, 2, 1) ∷ (0, 1, 3) ∷ (1, 2, 3) ∷ (2, 0, 3) ∷ [])
      ≡ record { points = o ∷ y ∷ x ∷ z ∷ []; triples = (0, 1, 2) ∷ (0, 2, 3) ∷ (2, 1, 3) ∷ (1, 0, 3) ∷ [] }
  -- those at one place as one, and without a triangle that then has a point twice
  pub joined : welded_mesh (o ∷ x ∷ y ∷ o ∷ z ∷ []) ((3, 1, 2) ∷ (0, 2, 1) ∷ (0, 3, 4) ∷ []) ≡ record { points = o ∷ x ∷ y ∷ z ∷ []; triples = (0, 1, 2) ∷ (0, 2, 1) ∷ [] }
