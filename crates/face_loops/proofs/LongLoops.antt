-- Each loop of the segments has at least three vertices.
use Rattle.std.proofs.Common.{ℕ, zero, suc, ◌<◌, ◌≤◌, ℤ, List, [], ◌∷◌, ◌++◌, length, get_or, refl, arith, ap}
use Rattle.std.specs.List.{All, Contains, concat, flat_map}
use Rattle.std.proofs.lemmas.List.Elements.{All-append, All-cons, All-contains, All-head, All-nil, All-tail, Contains-get_or}
use Rattle.std.proofs.lemmas.List.Sorted.{Contains-permutation, IsPermutation-sym}
use Rattle.chain_terms.specs.Cycles.{Balanced, cycles, cycles_within, follow}
use Rattle.chain_terms.specs.Paths.{last_of, path, round_edges}
use Rattle.chain_laws.proofs.Ascending.{contains_later}
use Rattle.chain_laws.proofs.Cycles.{cycles_edges}
use Rattle.face_loops.specs.Standings.{AreEven, NoneExchanged, StandOnce, segments_in, segments_of}
use Rattle.face_loops.proofs.Members.{in_all, in_some, join_below, segment_joins}
use Rattle.face_loops.proofs.OneToOne.{one_to_one}

-- a cycle has a vertex
not_empty : (n : ℕ) (es : List (ℕ × ℕ)) → All (λ loop. 0 < length loop) (cycles_within n es)
not_empty zero es = All-nil (λ loop. 0 < length loop)
not_empty (suc n) [] = All-nil (λ loop. 0 < length loop)
not_empty (suc n) (e ∷ es) = let r = follow (length es) e.1 es in All-cons (λ loop. 0 < length loop) (e.0 ∷ r.0) (cycles_within n r.1) (omega arith) (not_empty n r.1)

-- where no two edges run both ways between two vertices, a loop of them is long
long : (es : List (ℕ × ℕ)) → ((v w : ℕ) → Contains es (v, w) → Contains es (w, v) → ⊥) → (loop : List ℕ) →
    0 < length loop → ((e : ℕ × ℕ) → Contains (round_edges loop) e → Contains es e) → 3 ≤ length loop
long es none [] some inside = absurd (omega (arith, some))
long es none (v ∷ []) some inside = let here = inside (v, v) (0, omega arith, refl) in absurd (none v v here here)
long es none (v ∷ w ∷ []) some inside = absurd (none v w (inside (v, w) (0, omega arith, refl)) (inside (w, v) (1, omega arith, refl)))
long es none (v ∷ w ∷ u ∷ loop) some inside = omega arith

-- an edge round a cycle is one of the edges
cycle_edge : (es : List (ℕ × ℕ)) → Balanced es → (loop : List ℕ) → Contains (cycles es) loop → (e : ℕ × ℕ) → Contains (round_edges loop) e → Contains es e
cycle_edge es balanced loop listed e inside =
    Contains-permutation (flat_map round_edges (cycles es)) es e (IsPermutation-sym es (flat_map round_edges (cycles es)) (cycles_edges (length es) es (omega arith) balanced))
    (in_all round_edges (cycles es) loop e listed inside)

long_cycles : (es : List (ℕ × ℕ)) → Balanced es → ((v w : ℕ) → Contains es (v, w) → Contains es (w, v) → ⊥) → All (λ loop. 3 ≤ length loop) (cycles es)
long_cycles es balanced none k d below =
    let loop = get_or (cycles es) k d in long es none loop (not_empty (length es) es k d below) (cycle_edge es balanced loop (Contains-get_or (cycles es) k d below))

-- each vertex on a path, and each of a round, starts an edge of it
record StartsIn (es : List (ℕ × ℕ)) (v : ℕ) : Type 0 where
  to : ℕ
  inside : Contains es (v, to)

path_starts : (x : ℕ) (r : List ℕ) (y v : ℕ) → Contains (x ∷ r) v → StartsIn (path x r ++ (last_of x r, y) ∷ []) v
path_starts x [] y v (zero, l, e) = record { to = y; inside = (0, omega arith, ap (λ u. (u, y)) e) }
path_starts x [] y v (suc k, l, e) = absurd (omega (arith, l))
path_starts x (z ∷ s) y v (zero, l, e) = record { to = z; inside = (0, omega arith, ap (λ u. (u, z)) e) }
path_starts x (z ∷ s) y v (suc k, l, e) =
    let r = path_starts z s y v (k, omega (arith, l), e) in record { to = r.to; inside = contains_later (v, r.to) (x, z) (path z s ++ (last_of z s, y) ∷ []) r.inside }

round_starts : (loop : List ℕ) (v : ℕ) → Contains loop v → StartsIn (round_edges loop) v
round_starts [] v (k, l, e) = absurd (omega (arith, l))
round_starts (x ∷ r) v inside = path_starts x r x v inside

-- what holds of all members of all lists
all_joined : (P : ℕ → Type 0) (loops : List (List ℕ)) → All (λ loop. All P loop) loops → All P (concat loops)
all_joined P [] h = All-nil P
all_joined P (l ∷ ls) h = All-append P l (concat ls) (All-head (λ loop. All P loop) l ls h) (all_joined P ls (All-tail (λ loop. All P loop) l ls h))

-- where none are exchanged, no segment has one that runs back
pub no_return : {X : Type 0} (stand key : X → ℕ → ℤ) (n : ℕ) (xs : List X) → NoneExchanged stand n xs →
    (v w : ℕ) → Contains (segments_of stand key n xs) (v, w) → Contains (segments_of stand key n xs) (w, v) → ⊥
no_return stand key n xs none v w there back =
    let s = in_some (segments_in stand key n) xs (v, w) there in
    let t = in_some (segments_in stand key n) xs (w, v) back in
    let a = segment_joins stand key n s.from (v, w) s.inside in
    let b = segment_joins stand key n t.from (w, v) t.inside in
    none s.from t.from s.listed t.listed v w a.from_below a.to_below a.from_start b.to_end a.to_end b.from_start

pub loops_are_long : {X : Type 0} (stand key : X → ℕ → ℤ) (n : ℕ) (xs : List X) → AreEven stand n xs →
    StandOnce stand n xs → NoneExchanged stand n xs → All (λ loop. 3 ≤ length loop) (cycles (segments_of stand key n xs))
loops_are_long stand key n xs even once none =
    long_cycles (segments_of stand key n xs) (one_to_one stand key n xs even once).balanced (no_return stand key n xs none)

-- the vertices of the loops are below n
pub loops_below : {X : Type 0} (stand key : X → ℕ → ℤ) (n : ℕ) (xs : List X) → AreEven stand n xs →
    StandOnce stand n xs → All (λ v. v < n) (concat (cycles (segments_of stand key n xs)))
loops_below stand key n xs even once =
    let es = segments_of stand key n xs in
    let loops = cycles es in
    let balanced = (one_to_one stand key n xs even once).balanced in
    all_joined (λ v. v < n) loops (λ k d k_below i c i_below.
    let loop = get_or loops k d in
    let v = get_or loop i c in
    let s = round_starts loop v (Contains-get_or loop i c i_below) in
    let inside = cycle_edge es balanced loop (Contains-get_or loops k d k_below) (v, s.to) s.inside in
    (All-contains (λ e. (e.0 < n) × (e.1 < n)) es (v, s.to) (join_below stand key n xs) inside).0)
