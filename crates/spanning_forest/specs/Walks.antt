-- Marks on the vertices that were entered, and a walk that goes on from them along edges.
use Rattle.std.specs.Prelude.{◌≡◌, ℕ, ◌+◌, ◌<◌, ◌==◌, ◌&&◌, ◌⊎◌, List, [], ◌∷◌, ◌++◌, Bool, true, false, not, length, get_or, map, take, count_by}
use Rattle.std.specs.List.{All}
use Rattle.chain_terms.specs.Chains.{dir, one_if}
use Rattle.chain_terms.specs.Ranks.{finish}
use Rattle.mesh_terms.specs.Meshes.{Triple}
use Rattle.spanning_forest.specs.declared.entrance.Entrance.{Entrance}
use Rattle.spanning_forest.specs.declared.entrance.Entrance.TheVariants.{Root, Along}
use Rattle.spanning_forest.specs.Forests.{entered, vertices_of, roots_of, Follows}

-- where each edge starts
abbrev pub starts_of : List (ℕ × ℕ) → List ℕ
starts_of es = map (λ e. e.0) es

-- an entrance along an edge is along one of these
abbrev pub Lies : List (ℕ × ℕ) → Entrance → Type 0
Lies es (Root v) = Unit {0}
Lies es (Along h) = h < length es

-- the vertex has a mark
abbrev pub IsMarked : List Bool → ℕ → Type 0
IsMarked seen v = get_or seen v false ≡ true

-- the vertex has none
abbrev pub IsUnmarked : List Bool → ℕ → Type 0
IsUnmarked seen v = get_or seen v false ≡ false

-- how many vertices have no mark
abbrev pub unmarked : List Bool → ℕ
unmarked seen = count_by not seen

-- edges from marked vertices end at marked vertices
abbrev pub AreWhole : List (ℕ × ℕ) → List Bool → Type 0
AreWhole es seen = (a b : ℕ) → IsMarked seen a → 0 < dir es a b → IsMarked seen b

-- the marked vertices are those that were entered, each once, and each after the start of its edge
pub record AreEntered (es : List (ℕ × ℕ)) (seen : List Bool) (entrances : List Entrance) : Type 0 where
  pub once : (v : ℕ) → count_by (λ w. w == v) (vertices_of es entrances) ≡ one_if (get_or seen v false)
  pub as_many : unmarked seen + length entrances ≡ length seen
  pub follow : (i : ℕ) → i < length entrances → Follows es (take i entrances) (get_or entrances i (Root 0))

-- the ends of the edges at these places are marked, and those that had no mark were entered along them
pub record AreReached (es : List (ℕ × ℕ)) (places : List ℕ) (old : List Bool) (before : List Entrance) (new : List Bool) (entrances : List Entrance) : Type 0 where
  pub entered : AreEntered es new entrances
  pub full : length new ≡ length old
  pub kept : (w : ℕ) → IsMarked old w → IsMarked new w
  pub ends : All (λ h. IsMarked new (finish es h)) places
  pub more : List Entrance
  pub grown : entrances ≡ before ++ more
  pub roots : roots_of entrances ≡ roots_of before

-- the vertex was entered as a root, and all that edges lead to from there
pub record IsComponentEntered (es : List (ℕ × ℕ)) (v : ℕ) (old : List Bool) (before : List Entrance) (new : List Bool) (entrances : List Entrance) : Type 0 where
  pub entered : AreEntered es new entrances
  pub full : length new ≡ length old
  pub kept : (w : ℕ) → IsMarked old w → IsMarked new w
  pub here : IsMarked new v
  pub whole : AreWhole es new
  pub roots : roots_of entrances ≡ roots_of before ++ v ∷ []

-- a step from one vertex to another enters the other: the one has a mark and the other none
abbrev pub leads : List Bool → ℕ → ℕ → Bool
leads seen from to = get_or seen from false && not (get_or seen to false)

-- more vertices may have been entered, each along an edge
abbrev pub AreMore : List (ℕ × ℕ) → List Bool → List Entrance → List Bool → List Entrance → Type 0
AreMore es old before new entrances = AreReached es [] old before new entrances

-- one of the triangle's vertices has a mark
abbrev pub IsMet : List Bool → Triple → Type 0
IsMet seen t = IsMarked seen t.0 ⊎ IsMarked seen t.1 ⊎ IsMarked seen t.2

-- the vertices of a triangle of which one had a mark are entered, along its edges
pub record IsFaceEntered (es : List (ℕ × ℕ)) (t : Triple) (old : List Bool) (before : List Entrance) (new : List Bool) (entrances : List Entrance) : Type 0 where
  pub more : AreMore es old before new entrances
  pub all : IsMet old t → IsMarked new t.0 × IsMarked new t.1 × IsMarked new t.2

-- of so many vertices the first was entered as the only root, and others along edges
pub record AreBegun (es : List (ℕ × ℕ)) (points : ℕ) (seen : List Bool) (entrances : List Entrance) : Type 0 where
  pub entered : AreEntered es seen entrances
  pub full : length seen ≡ points
  pub first : IsMarked seen 0
  pub roots : roots_of entrances ≡ 0 ∷ []

-- edges from the vertices that were entered at the first places end at marked vertices
abbrev pub AreLeft : List (ℕ × ℕ) → List Bool → List Entrance → ℕ → Type 0
AreLeft es seen entrances next = (i b : ℕ) → i < next → 0 < dir es (entered es (get_or entrances i (Root 0))) b → IsMarked seen b

-- all that edges lead to from what was entered is entered, along them
pub record AreAllEntered (es : List (ℕ × ℕ)) (old : List Bool) (before : List Entrance) (new : List Bool) (entrances : List Entrance) : Type 0 where
  pub entered : AreEntered es new entrances
  pub full : length new ≡ length old
  pub kept : (w : ℕ) → IsMarked old w → IsMarked new w
  pub whole : AreWhole es new
  pub roots : roots_of entrances ≡ roots_of before
