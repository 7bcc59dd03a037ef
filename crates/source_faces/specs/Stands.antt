-- Where copies of hits stand: their source faces and lists.
use Rattle.std.specs.Prelude.{ℕ, suc, ◌+◌, ◌/◌, ◌%◌, ◌≤◌, pos, List, [], ◌∷◌, ◌++◌, Bool, not, cond, ◌==◌, length, nat_abs, int_lt, drop}
use Rattle.std.specs.List.{flat_map}
use Rattle.std.specs.Ordering.{is_lt, nat_cmp, ordering_then}
use Rattle.chain_terms.specs.Chains.{all_edges}
use Rattle.chain_terms.specs.Ranks.{twin}
use Rattle.chain_terms.specs.Sums.{up_from}
use Rattle.mesh_terms.specs.Limits.{most_triangles}
use Rattle.chain_laws.specs.Sorting.{sorted_by}
use Rattle.mb_base.specs.declared.op.Op.{Op}
use Rattle.mb_base.specs.declared.results.Hit.{Hit}
use Rattle.side_terms.specs.Sides.{Side}
use Rattle.side_terms.specs.Prescribed.{hit_count, hit_number_of}
use Rattle.source_faces.specs.declared.lists.stands.Stand.{Stand}

-- the first source face of a mesh and of the other, such that all have numbers of 32 bits
pub record AreFewFaces (own other : ℕ) : Type 0 where
  pub edges_few : own ≤ most_triangles
  pub faces_few : other ≤ most_triangles

-- copy v of a hit of an edge, with these half-edges, and a face of the other mesh; own and other are the first source faces of
-- the mesh of the edge and of that of the face
abbrev pub six_stands : (own other : ℕ) → (lower upper face : ℕ) → Bool → ℕ → List Stand
six_stands own other lower upper face positive v =
    record { face = own + lower / 3; list = lower % 3; copy = v; start = not positive }
    ∷ record { face = own + upper / 3; list = upper % 3; copy = v; start = positive }
    ∷ record { face = own + lower / 3; list = 3 + face; copy = v; start = positive }
    ∷ record { face = own + upper / 3; list = 3 + face; copy = v; start = not positive }
    ∷ record { face = other + face; list = 3 + lower / 3; copy = v; start = not positive }
    ∷ record { face = other + face; list = 3 + upper / 3; copy = v; start = positive }
    ∷ []

-- all copies of a hit, the first of them number k
abbrev pub copy_stands : (own other : ℕ) → (lower upper face : ℕ) → Bool → ℕ → ℕ → List Stand
copy_stands own other lower upper face positive k n = flat_map (six_stands own other lower upper face positive) (up_from k n)

-- the copies of one hit of a chain's edges
abbrev pub one_hit_stands : Op → List (ℕ × ℕ) → (own other : ℕ) → ℕ → Hit → List Stand
one_hit_stands op es own other k h =
    copy_stands own other h.edge (twin es h.edge) h.face (int_lt (pos 0) (hit_number_of op h.number)) k (nat_abs (hit_number_of op h.number))

-- those of all hits, in order
abbrev pub hit_stands : Op → List (ℕ × ℕ) → (own other : ℕ) → ℕ → List Hit → List Stand
hit_stands op es own other k [] = []
hit_stands op es own other k (h ∷ hs) = one_hit_stands op es own other k h ++ hit_stands op es own other (k + nat_abs (hit_number_of op h.number)) hs

-- those of the edges of both sides, copies numbered from k
abbrev pub all_stands : Op → Side → Side → List Hit → List Hit → ℕ → List Stand
all_stands op p q x12 x21 k =
    hit_stands op (all_edges p.triples) 0 (length p.triples) k x12
    ++ hit_stands op (all_edges q.triples) (length p.triples) 0 (k + hit_count op x12) x21

-- by the face, then the list, then the copy
abbrev pub stands_before : Stand → Stand → Bool
stands_before s t = is_lt (ordering_then (nat_cmp s.face t.face) (ordering_then (nat_cmp s.list t.list) (nat_cmp s.copy t.copy)))

abbrev pub sorted_stands : Op → Side → Side → List Hit → List Hit → ℕ → List Stand
sorted_stands op p q x12 x21 k = sorted_by stands_before (all_stands op p q x12 x21 k)

-- how many records from the front are of this face
abbrev pub face_count : List Stand → ℕ → ℕ
face_count [] x = 0
face_count (s ∷ ss) x = cond (s.face == x) (suc (face_count ss x)) 0

-- where those of this face end, if they begin at that place
abbrev pub group_end : List Stand → ℕ → ℕ → ℕ
group_end ss begin x = begin + face_count (drop begin ss) x
