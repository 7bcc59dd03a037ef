-- The segments of a source face: the starts and the ends of each of its lists, paired.
use Rattle.std.specs.Prelude.{ℕ, ◌+◌, ◌-◌, ℤ, List, [], map, length, get_or, min, nat_lt, if◌then◌else◌}
use Rattle.std.specs.List.{flat_map}
use Rattle.chain_terms.specs.Chains.{all_edges}
use Rattle.chain_terms.specs.Ranks.{start, finish, twin}
use Rattle.chain_terms.specs.Sums.{upto}
use Rattle.side_terms.specs.Sides.{Side}
use Rattle.side_terms.specs.Lists.{Copy, ListName, HalfP, HalfQ, PairP, PairQ, ends, lists_of_p, lists_of_q, starts}
use Rattle.side_terms.specs.Points.{points_of}
use Rattle.edge_pairing.specs.Pairing.{paired_across, paired_along}

-- of a half-edge and its twin the one that comes first
abbrev pub lower_half : List (ℕ × ℕ) → ℕ → ℕ
lower_half es h = min h (twin es h)

-- the points of a side's vertices
abbrev pub vertex_point : Side → ℕ → List ℤ
vertex_point side v = get_or (points_of side.corners) v []

-- the pairing on the edge of a half-edge, whichever of the two it is: along the lower one
abbrev pub paired_on_edge : Side → ℕ → (ℕ → List ℤ) → List ℕ → List ℕ → List (ℕ × ℕ)
paired_on_edge side h place from to =
    let es = all_edges side.triples in
    let low = lower_half es h in paired_along (vertex_point side (start es low)) (vertex_point side (finish es low)) place from to

-- the pairing of starts and ends of a list, where the copies lie at such places
abbrev pub paired_in : Side → Side → (ℕ → List ℤ) → ListName → List ℕ → List ℕ → List (ℕ × ℕ)
paired_in p q place (HalfP h) from to = paired_on_edge p h place from to
paired_in p q place (HalfQ h) from to = paired_on_edge q h place from to
paired_in p q place (PairP f g) from to = paired_across place from to
paired_in p q place (PairQ g f) from to = paired_across place from to

-- where each copy lies
abbrev pub place_of : List Copy → ℕ → List ℤ
place_of cs v = get_or (map (λ c. c.point) cs) v []

-- the segments of one list
abbrev pub segments_in : Side → Side → List Copy → (ℕ → List ℤ) → ListName → List (ℕ × ℕ)
segments_in p q cs place name =
    let es = all_edges p.triples in
    let ds = all_edges q.triples in paired_in p q place name (starts es ds cs name) (ends es ds cs name)

-- how many source faces there are: those of P, then those of Q
abbrev pub source_count : Side → Side → ℕ
source_count p q = length p.triples + length q.triples

-- the lists of source face x
abbrev pub lists_of : Side → Side → ℕ → List ListName
lists_of p q x = if nat_lt x (length p.triples) then lists_of_p (length q.triples) x else lists_of_q (length p.triples) (x - length p.triples)

-- its segments: first along its half-edges, then on its crossings with faces 0, 1, .. of the other side
abbrev pub segments_of : Side → Side → List Copy → (ℕ → List ℤ) → ℕ → List (ℕ × ℕ)
segments_of p q cs place x = flat_map (segments_in p q cs place) (lists_of p q x)

-- those of all source faces together
abbrev pub all_segments : Side → Side → List Copy → (ℕ → List ℤ) → List (ℕ × ℕ)
all_segments p q cs place = flat_map (segments_of p q cs place) (upto (source_count p q))
