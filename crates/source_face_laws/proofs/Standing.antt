-- A source face's segments as segments of lists in which copies stand, so that what holds of those holds of faces.
use Rattle.std.proofs.Common.{◌≡◌, ℕ, ◌<◌, ℤ, List, ◌++◌, map, length, get_or, refl, sym, subst}
use Rattle.std.specs.List.{All}
use Rattle.chain_terms.specs.Chains.{all_edges}
use Rattle.chain_terms.specs.Ranks.{start, finish}
use Rattle.chain_laws.specs.Sums.{flat_map-same}
use Rattle.mesh_terms.specs.Points.{coordinate_of}
use Rattle.side_terms.specs.Sides.{Side}
use Rattle.side_terms.specs.Lists.{Copy, ListName, HalfP, HalfQ, PairP, PairQ, ends, no_copy, standing, starts}
use Rattle.edge_pairing.specs.Pairing.{scalar_product, spread_axis, step}
use Rattle.source_face_terms.specs.Segments.{lists_of, lower_half, segments_in, segments_of, vertex_point}
use Rattle.face_loops.specs.Standings as lists
use Rattle.face_loops.proofs.Members.{join_below}

-- how a copy stands in a list, by its number
abbrev pub stand_of : Side → Side → List Copy → ListName → ℕ → ℤ
stand_of p q cs name v = standing (all_edges p.triples) (all_edges q.triples) name (get_or cs v no_copy)

-- along an edge copies are ordered by their places on it
abbrev key_along : Side → ℕ → (ℕ → List ℤ) → ℕ → ℤ
key_along side h place v =
    let es = all_edges side.triples in
    let low = lower_half es h in scalar_product (step (vertex_point side (start es low)) (vertex_point side (finish es low))) (place v)

-- those of two faces by the coordinate in which they are spread most
abbrev key_across : Side → Side → List Copy → (ℕ → List ℤ) → ListName → ℕ → ℤ
key_across p q cs place name v =
    let es = all_edges p.triples in
    let ds = all_edges q.triples in coordinate_of (place v) (spread_axis (map place (starts es ds cs name ++ ends es ds cs name)))

abbrev pub key_of : Side → Side → List Copy → (ℕ → List ℤ) → ListName → ℕ → ℤ
key_of p q cs place (HalfP h) = key_along p h place
key_of p q cs place (HalfQ h) = key_along q h place
key_of p q cs place (PairP f g) = key_across p q cs place (PairP f g)
key_of p q cs place (PairQ g f) = key_across p q cs place (PairQ g f)

-- the segments of a list, and those of a face
list_same : (p q : Side) (cs : List Copy) (place : ℕ → List ℤ) (name : ListName) →
    segments_in p q cs place name ≡ lists.segments_in (stand_of p q cs) (key_of p q cs place) (length cs) name
list_same p q cs place (HalfP h) = refl
list_same p q cs place (HalfQ h) = refl
list_same p q cs place (PairP f g) = refl
list_same p q cs place (PairQ g f) = refl

abbrev pub face_segments : Side → Side → List Copy → (ℕ → List ℤ) → ℕ → List (ℕ × ℕ)
face_segments p q cs place x = lists.segments_of (stand_of p q cs) (key_of p q cs place) (length cs) (lists_of p q x)

pub face_same : (p q : Side) (cs : List Copy) (place : ℕ → List ℤ) (x : ℕ) → segments_of p q cs place x ≡ face_segments p q cs place x
face_same p q cs place x =
    flat_map-same (segments_in p q cs place) (lists.segments_in (stand_of p q cs) (key_of p q cs place) (length cs)) (list_same p q cs place) (lists_of p q x)

-- so the segments of a face run from copies to copies
pub join_copies : (p q : Side) (cs : List Copy) (place : ℕ → List ℤ) (x : ℕ) → All (λ e. (e.0 < length cs) × (e.1 < length cs)) (segments_of p q cs place x)
join_copies p q cs place x =
    subst (All (λ e. (e.0 < length cs) × (e.1 < length cs))) (sym (face_same p q cs place x)) (join_below (stand_of p q cs) (key_of p q cs place) (length cs) (lists_of p q x))
