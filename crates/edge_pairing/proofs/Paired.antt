-- Segments that pair starts with ends.
use Rattle.std.proofs.Common.{◌≡◌, ◌<◌, ◌+◌, ◌≤◌, ℕ, ℤ, pos, List, [], ◌∷◌, ◌++◌, length, map, take, get_or, sym, ap, ◌∙◌, subst, arith}
use Rattle.std.specs.List.{zip}
use Rattle.std.specs.List.Sorted.{IsPermutation}
use Rattle.std.proofs.lemmas.List.{take_more, map-append, length-map, get_or-map, take_all}
use Rattle.std.proofs.lemmas.List.Sorted.{length_permutation}
use Rattle.std.proofs.lemmas.Simd.{map-map}
use Rattle.std.proofs.lemmas.Slice.Zip.{get_or-zip, length-zip}
use Rattle.mb_base.specs.declared.results.Segment.{Segment}
use Rattle.chain_laws.specs.Sorting.{sorted_by}
use Rattle.edge_pairing.specs.Entries.{edge_of}
use Rattle.edge_pairing.specs.Pairing.{comes_before, pair_up}
use Rattle.edge_pairing.specs.declared.pairs.Keyed.{Keyed}
use Rattle.edge_pairing.proofs.Ordered.{sorted_moved}
use Rattle.edge_pairing.proofs.Zips.{zip-firsts, zip-seconds}

-- as many sorted starts as sorted ends
same_length : (key : ℕ → ℤ) (ss es : List ℕ) → length ss ≡ length es → length (sorted_by (comes_before key) ss) ≡ length (sorted_by (comes_before key) es)
same_length key ss es e =
    length_permutation ss (sorted_by (comes_before key) ss) (sorted_moved key ss) ∙ e ∙ sym (length_permutation es (sorted_by (comes_before key) es) (sorted_moved key es))

-- each start is where a segment starts
pub starts_moved : (key : ℕ → ℤ) (ss es : List ℕ) (segments : List Segment) → length ss ≡ length es → map edge_of segments ≡ pair_up key ss es →
    IsPermutation ss (map (λ x. x.from) segments)
starts_moved key ss es segments even is =
    let first = sym (map-map (λ (p : ℕ × ℕ). p.0) edge_of segments) ∙ ap (map (λ (p : ℕ × ℕ). p.0)) is
    ∙ zip-firsts (sorted_by (comes_before key) ss) (sorted_by (comes_before key) es) (same_length key ss es even) in
    subst (IsPermutation ss) (sym first) (sorted_moved key ss)

-- and each end is where one ends
pub ends_moved : (key : ℕ → ℤ) (ss es : List ℕ) (segments : List Segment) → length ss ≡ length es → map edge_of segments ≡ pair_up key ss es →
    IsPermutation es (map (λ x. x.to) segments)
ends_moved key ss es segments even is =
    let second = sym (map-map (λ (p : ℕ × ℕ). p.1) edge_of segments) ∙ ap (map (λ (p : ℕ × ℕ). p.1)) is
    ∙ zip-seconds (sorted_by (comes_before key) ss) (sorted_by (comes_before key) es) (same_length key ss es even) in
    subst (IsPermutation es) (sym second) (sorted_moved key es)

-- the value that is read where there is none
abbrev pub no_vertex : Keyed
no_vertex = record { key = pos 0; vertex = 0 }

-- the vertices of values with keys
abbrev pub vertices : List Keyed → List ℕ
vertices order = map (λ x. x.vertex) order

-- one segment more
pub joined_more : (starts ends : List Keyed) (i : ℕ) (segments : List Segment) → i < length starts → i < length ends →
    map edge_of segments ≡ take i (zip (vertices starts) (vertices ends)) →
    map edge_of (segments ++ record { from = (get_or starts i no_vertex).vertex; to = (get_or ends i no_vertex).vertex } ∷ [])
    ≡ take (i + 1) (zip (vertices starts) (vertices ends))
joined_more starts ends i segments below ending is =
    let all = zip (vertices starts) (vertices ends) in
    let s : i < length (vertices starts) = omega (arith, below, length-map starts (λ (x : Keyed). x.vertex)) in
    let e : i < length (vertices ends) = omega (arith, ending, length-map ends (λ (x : Keyed). x.vertex)) in
    let last : Segment = record { from = (get_or starts i no_vertex).vertex; to = (get_or ends i no_vertex).vertex } in
    let read : get_or all i (0, 0) ≡ edge_of last =
    get_or-zip (vertices starts) (vertices ends) i (0, 0) s e ∙ ap (λ v. (v, get_or (vertices ends) i 0)) (get_or-map (λ (x : Keyed). x.vertex) starts i no_vertex 0 below)
    ∙ ap (λ w. ((get_or starts i no_vertex).vertex, w)) (get_or-map (λ (x : Keyed). x.vertex) ends i no_vertex 0 ending) in
    map-append edge_of segments (last ∷ []) ∙ ap (λ l. l ++ edge_of last ∷ []) is ∙ ap (λ p. take i all ++ p ∷ []) (sym read)
    ∙ sym (take_more all i (0, 0) (omega (arith, s, e, length-zip (vertices starts) (vertices ends))))

-- and all of them
pub joined_all : (starts ends : List Keyed) (i : ℕ) (segments : List Segment) → length starts ≤ i →
    map edge_of segments ≡ take i (zip (vertices starts) (vertices ends)) → map edge_of segments ≡ zip (vertices starts) (vertices ends)
joined_all starts ends i segments past is =
    is ∙ take_all i (zip (vertices starts) (vertices ends)) (omega (arith, past, length-zip (vertices starts) (vertices ends), length-map starts (λ (x : Keyed). x.vertex)))
