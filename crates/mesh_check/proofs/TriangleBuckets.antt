-- Triangles in buckets by their least vertices: what lies in one, its two ways, and the marks once it is done.
use Rattle.std.proofs.Common.{◌≡◌, ◌<◌, ◌+◌, ◌/◌, ◌%◌, ℕ, Bool, true, List, length, get_or, map, replicate, nat_lt, sym, ◌∙◌, ap, subst, arith}
use Rattle.std.specs.List.{All, filter}
use Rattle.std.proofs.lemmas.Bool.{cond_both}
use Rattle.std.proofs.lemmas.List.{get_or-map, get_or-replicate, get_or_default, length-map, length-replicate, same_lists}
use Rattle.chain_terms.specs.Sums.{upto}
use Rattle.chain_laws.proofs.Places.{get_or-up_from, length-up_from}
use Rattle.mesh_terms.specs.Meshes.{Triple}
use Rattle.halfedge.specs.Pairing.{Half, half_at, turned, IsSortOf}
use Rattle.halfedge.specs.Ways.{half_of, lesser_end, lesser_end_at, EndsDiffer, runs_up, AreWays}
use Rattle.halfedge.proofs.BucketContents.{IsBucket, bucket_sides}
use Rattle.halfedge.proofs.Split.{AreKeys}
use Rattle.halfedge.proofs.TwinWays.{halves_of_ways}
use Rattle.mesh_check.specs.declared.oriented.Oriented.{Oriented}
use Rattle.mesh_check.specs.Cancelling.{as_half, halves_of, is_left, left_marks, bucket_of_triple, bucket_of_end, AreMarked}
use Rattle.mesh_check.specs.Orientations.{least_first, edge_of, pair_number, orientation_edge, orientation_edges, IsNarrow, IsTriangle}
use Rattle.mesh_check.proofs.Orientations.{from_least, least_narrow}

-- of two vertices written as one number, the first
first_vertex : (a b : ℕ) → b < 4294967296 → pair_number a b / 4294967296 ≡ a
first_vertex a b low = omega (arith, low)

-- both ends of the edge of a triple have its first vertex
first_of_lesser : (t : Triple) → IsNarrow t → lesser_end (edge_of t) / 4294967296 ≡ t.0
first_of_lesser t narrow =
    cond_both (nat_lt (edge_of t).0 (edge_of t).1) (edge_of t).0 (edge_of t).1 (λ a. a / 4294967296 ≡ t.0) (λ up. first_vertex t.0 t.1 narrow.b)
    (λ down. first_vertex t.0 t.2 narrow.c)

-- so a triangle lies in the bucket of the lesser end of its orientation
bucket_of_lesser : (ts : List Triple) (n h : ℕ) → All IsTriangle ts → h < length ts →
    get_or (map (bucket_of_triple n) ts) h 0 ≡ bucket_of_end n (lesser_end_at (orientation_edges ts) h)
bucket_of_lesser ts n h all low =
    let t = get_or ts h (0, 0, 0) in
    let edge : edge_of (least_first t) ≡ get_or (orientation_edges ts) h (0, 0) = sym (get_or-map orientation_edge ts h (0, 0, 0) (0, 0) low) in
    get_or-map (bucket_of_triple n) ts h (0, 0, 0) 0 low
    ∙ ap (λ a. a % n) (sym (first_of_lesser (least_first t) (least_narrow t (all h (0, 0, 0) low).narrow)))
    ∙ ap (λ (e : ℕ × ℕ). bucket_of_end n (lesser_end e)) edge

-- the bucket of each triangle is the key of its orientation
triangle_keys : (ts : List Triple) (n : ℕ) → All IsTriangle ts → AreKeys (orientation_edges ts) (bucket_of_end n) (map (bucket_of_triple n) ts)
triangle_keys ts n all = record {
  full = length-map ts (bucket_of_triple n) ∙ sym (length-map ts orientation_edge);
  each = λ h below. bucket_of_lesser ts n h all (omega (arith, below, length-map ts orientation_edge));
}

-- no orientation is an edge from a number to itself
pub orientations_differ : (ts : List Triple) → All IsTriangle ts → EndsDiffer (orientation_edges ts)
orientations_differ ts all h below same =
    let low : h < length ts = omega (arith, below, length-map ts orientation_edge) in
    let t = get_or ts h (0, 0, 0) in
    let triangle = all h (0, 0, 0) low in
    let edge : get_or (orientation_edges ts) h (0, 0) ≡ orientation_edge t = get_or-map orientation_edge ts h (0, 0, 0) (0, 0) low in
    let ends : (orientation_edge t).0 ≡ (orientation_edge t).1 = sym (ap (λ (e : ℕ × ℕ). e.0) edge) ∙ same ∙ ap (λ (e : ℕ × ℕ). e.1) edge in
    from_least (λ u. u.1 ≡ u.2 → ⊥) t triangle.three.bc triangle.three.ca triangle.three.ab (omega (arith, ends))

-- the triangles of one orientation in a bucket, sorted, and the other sides of the rest, sorted, are its two ways; us and vs are these lists as they are read later
pub ways_read : (ts : List Triple) (n k : ℕ) (bucket : List ℕ) (ones others us vs : List Oriented) → All IsTriangle ts → k < n → IsBucket (map (bucket_of_triple n) ts) n k bucket
    → IsSortOf (filter runs_up (map (half_of (orientation_edges ts)) bucket)) (halves_of ones) →
    IsSortOf (filter runs_up (map turned (map (half_of (orientation_edges ts)) bucket))) (halves_of others) → us ≡ ones → vs ≡ others
    → AreWays (orientation_edges ts) (bucket_of_end n) k (halves_of us) (halves_of vs)
ways_read ts n k bucket ones others us vs all low is sorted back_sorted first second =
    let es = orientation_edges ts in
    bucket_sides es (bucket_of_end n) (map (bucket_of_triple n) ts) n k bucket (halves_of us) (halves_of vs) (triangle_keys ts n all) low is
    (subst (λ l. IsSortOf (filter runs_up (map (half_of es) bucket)) (halves_of l)) (sym first) sorted)
    (subst (λ l. IsSortOf (filter runs_up (map turned (map (half_of es) bucket))) (halves_of l)) (sym second) back_sorted)

-- triangles that are half-edges of a chain have places of it
halves_placed : (es : List (ℕ × ℕ)) (os : List Oriented) → ((i : ℕ) → i < length (halves_of os) → half_at (halves_of os) i < length es) → All (λ o. o.place < length es) os
halves_placed es os each i d low =
    let read = ap (λ (h : Half). h.2) (get_or-map as_half os i d (0, 0, 0) low) in omega (arith, read, each i (omega (arith, low, length-map os as_half)))

-- one way of a bucket has places of triangles only
pub ones_placed : (ts : List Triple) (key : ℕ → ℕ) (k : ℕ) (ones others : List Oriented) →
    AreWays (orientation_edges ts) key k (halves_of ones) (halves_of others) → All (λ o. o.place < length ts) ones
ones_placed ts key k ones others ways =
    subst (λ n. All (λ (o : Oriented). o.place < n) ones) (length-map ts orientation_edge)
    (halves_placed (orientation_edges ts) ones (halves_of_ways (orientation_edges ts) key k (halves_of ones) (halves_of others) ways).0)

-- and so has the other
pub others_placed : (ts : List Triple) (key : ℕ → ℕ) (k : ℕ) (ones others : List Oriented) →
    AreWays (orientation_edges ts) key k (halves_of ones) (halves_of others) → All (λ o. o.place < length ts) others
others_placed ts key k ones others ways =
    subst (λ n. All (λ (o : Oriented). o.place < n) others) (length-map ts orientation_edge)
    (halves_placed (orientation_edges ts) others (halves_of_ways (orientation_edges ts) key k (halves_of ones) (halves_of others) ways).1)

-- no bucket is done yet: all marks are set
pub marks_none : (es : List (ℕ × ℕ)) (key : ℕ → ℕ) → AreMarked es key 0 (replicate (length es) true)
marks_none es key = record {
  full = length-replicate (length es) true;
  done = λ h below low. absurd (omega (arith, low));
  rest = λ h below high. get_or-replicate (length es) h true true below;
}

-- all buckets are done: the marks say which edges are left
pub marks_all : (es : List (ℕ × ℕ)) (key : ℕ → ℕ) (n : ℕ) (left : List Bool) → AreMarked es key n left → ((a : ℕ) → key a < n) → left ≡ left_marks es
marks_all es key n left marked low =
    same_lists left (left_marks es) (omega (arith, marked.full, length-map (upto (length es)) (is_left es), length-up_from 0 (length es)))
    (λ h d below.
    let within : h < length es = omega (arith, below, marked.full) in
    get_or_default left h d true below ∙ marked.done h within (low (lesser_end_at es h)) ∙ sym (listed h d within))
  where
    listed : (h : ℕ) (d : Bool) → h < length es → get_or (left_marks es) h d ≡ is_left es h
    listed h d below =
        let first : 0 + h ≡ h = omega arith in
        get_or-map (is_left es) (upto (length es)) h h d (omega (arith, below, length-up_from 0 (length es))) ∙ ap (is_left es) (get_or-up_from 0 (length es) h h below ∙ first)
