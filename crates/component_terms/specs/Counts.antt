-- The number of components, computed. Each vertex has a label, at first its own number. An edge joins two classes of vertices with one label
-- each: all of both get the lesser of the two labels. After all edges the vertices of a component have one label, its least vertex.
use Rattle.std.specs.Prelude.{ℕ, min, List, [], ◌∷◌, map, count_by, get_or, if◌then◌else◌, ◌==◌, ◌||◌}
use Rattle.chain_terms.specs.Sums.{upto}

-- a label, once the classes with the labels a and b are one
abbrev pub joined_label : ℕ → ℕ → ℕ → ℕ
joined_label a b l = if l == a || l == b then min a b else l

-- the labels, once the classes of the ends of an edge are one
abbrev pub joined_by : List ℕ → (ℕ × ℕ) → List ℕ
joined_by old e = map (joined_label (get_or old e.0 0) (get_or old e.1 0)) old

-- the labels of the vertices below n after all edges
abbrev pub labels : ℕ → List (ℕ × ℕ) → List ℕ
labels n [] = upto n
labels n (e ∷ es) = joined_by (labels n es) e

-- so many vertices below n keep their own number
abbrev pub component_count : ℕ → List (ℕ × ℕ) → ℕ
component_count n es = let last = labels n es in count_by (λ v. get_or last v 0 == v) (upto n)
