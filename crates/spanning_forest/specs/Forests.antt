-- Spanning forests: an order in which all vertices are entered, each as a root or along an edge from one that was entered before.
use Rattle.std.specs.Prelude.{◌≡◌, ℕ, ◌<◌, ◌==◌, Option, Some, None, List, length, get_or, map, take, count_by}
use Rattle.std.specs.List.{All, Contains, filter_map}
use Rattle.chain_terms.specs.Ranks.{start, finish}
use Rattle.chain_laws.specs.Ascending.{Ascends}
use Rattle.component_terms.specs.Components.{IsLeast}
use Rattle.component_terms.specs.Counts.{component_count}
use Rattle.spanning_forest.specs.declared.entrance.Entrance.{Entrance}
use Rattle.spanning_forest.specs.declared.entrance.Entrance.TheVariants.{Root, Along}

-- the vertex that is entered
abbrev pub entered : List (ℕ × ℕ) → Entrance → ℕ
entered es (Root v) = v
entered es (Along h) = finish es h

-- the vertices that are entered, in order
abbrev pub vertices_of : List (ℕ × ℕ) → List Entrance → List ℕ
vertices_of es entrances = map (entered es) entrances

-- a root may come at any place, the end of an edge once the edge's start was entered
abbrev pub Follows : List (ℕ × ℕ) → List Entrance → Entrance → Type 0
Follows es before (Root v) = Unit {0}
Follows es before (Along h) = (h < length es) × Contains (vertices_of es before) (start es h)

-- a root's vertex
abbrev pub root_of : Entrance → Option ℕ
root_of (Root v) = Some v
root_of (Along h) = None

-- the roots, in order
abbrev pub roots_of : List Entrance → List ℕ
roots_of entrances = filter_map root_of entrances

-- each vertex below a number is entered once, and no other; each comes after the start of its edge; and the roots are the least vertices of the components, in ascending order
pub record IsSpanningForest (points : ℕ) (es : List (ℕ × ℕ)) (entrances : List Entrance) : Type 0 where
  pub below : All (λ v. v < points) (vertices_of es entrances)
  pub once : (v : ℕ) → v < points → count_by (λ w. w == v) (vertices_of es entrances) ≡ 1
  pub follow : (i : ℕ) → i < length entrances → Follows es (take i entrances) (get_or entrances i (Root 0))
  pub least : All (IsLeast es) (roots_of entrances)
  pub ascending : Ascends (roots_of entrances)
  pub components : length (roots_of entrances) ≡ component_count points es
