-- The parts of a face's records: those of each half-edge, and those of each pair.
use Rattle.std.proofs.Common.{◌≡◌, ℕ, suc, ◌+◌, ◌-◌, ◌<◌, ◌==◌, List, [], ◌∷◌, ◌++◌, Bool, true, false, cond, map}
use Rattle.std.proofs.Common.{length, take, drop, get_or, ℤ, refl, sym, ap, ◌∙◌, arith, subst}
use Rattle.std.specs.List.{All, flat_map}
use Rattle.std.proofs.lemmas.Bool.{eqb-true}
use Rattle.std.proofs.lemmas.List.Concat.{flat_map-cons}
use Rattle.std.proofs.lemmas.List.Elements.{All-head, All-tail}
use Rattle.std.proofs.lemmas.List.{drop-drop, drop_more, map-append}
use Rattle.edge_pairing.specs.Entries.{edge_of}
use Rattle.mb_base.specs.declared.results.Segment.{Segment}
use Rattle.source_faces.specs.Entries.{list_count, list_end}
use Rattle.source_faces.specs.ListParts.{front, groups, pair_segments, pairs_segments, rest, with_stand}
use Rattle.source_faces.specs.declared.lists.stands.Stand.{Stand}
use Rattle.source_faces.proofs.Tests.{same}

-- the edges of a list of segments that grew
pub edges_more : (new old slice more : List Segment) (made : List (ℕ × ℕ)) → new ≡ old ++ slice → slice ≡ more → map edge_of more ≡ made →
    map edge_of new ≡ map edge_of old ++ made
edges_more new old slice more made e f g = ap (map edge_of) e ∙ map-append edge_of old slice ∙ ap (λ l. map edge_of old ++ l) (ap (map edge_of) f ∙ g)

-- the first record is of its list
pub count_first : (s : Stand) (ss : List Stand) → list_count (s ∷ ss) s.list ≡ suc (list_count ss s.list)
count_first s ss = ap (λ b. cond b (suc (list_count ss s.list)) 0) (same s.list)

-- a record in front of groups, the first of which begins with t
in_front : (s t : Stand) (ts : List Stand) (m : ℕ) (b : Bool) → (b ≡ true → m ≡ list_count ts s.list) →
    groups (t ∷ ts) ≡ (t ∷ take m ts) ∷ groups (drop m ts) →
    cond b ((s ∷ t ∷ take m ts) ∷ groups (drop m ts)) ((s ∷ []) ∷ (t ∷ take m ts) ∷ groups (drop m ts))
    ≡ take (suc (cond b (suc (list_count ts s.list)) 0)) (s ∷ t ∷ ts) ∷ groups (drop (suc (cond b (suc (list_count ts s.list)) 0)) (s ∷ t ∷ ts))
in_front s t ts m true same one = ap (λ n. (s ∷ t ∷ take n ts) ∷ groups (drop n ts)) (same refl)
in_front s t ts m false same one = ap (λ gs. (s ∷ []) ∷ gs) (sym one)

-- the first group is what is of the first record's list
pub groups_front : (s : Stand) (ss : List Stand) → groups (s ∷ ss) ≡ front (s ∷ ss) s.list ∷ groups (rest (s ∷ ss) s.list)
groups_front s [] = ap (λ n. take n (s ∷ []) ∷ groups (drop n (s ∷ []))) (sym (count_first s []))
groups_front s (t ∷ ts) =
    let m = list_count ts t.list in
    let one : groups (t ∷ ts) ≡ (t ∷ take m ts) ∷ groups (drop m ts) =
    groups_front t ts ∙ ap (λ n. take n (t ∷ ts) ∷ groups (drop n (t ∷ ts))) (count_first t ts) in
    ap (with_stand s) one ∙ in_front s t ts m (t.list == s.list) (λ b. ap (list_count ts) (eqb-true t.list s.list b)) one
    ∙ ap (λ n. take n (s ∷ t ∷ ts) ∷ groups (drop n (s ∷ t ∷ ts))) (sym (count_first s (t ∷ ts)))

-- from a place on, the first group ends where the list of the record there does
pub group_here : (ss : List Stand) (begin : ℕ) (d : Stand) → begin < length ss →
    groups (drop begin ss) ≡ front (drop begin ss) (get_or ss begin d).list ∷ groups (rest (drop begin ss) (get_or ss begin d).list)
group_here ss begin d below =
    let first = drop_more ss begin d below in
    let s = get_or ss begin d in
    ap groups first ∙ groups_front s (drop (begin + 1) ss) ∙ ap (λ ts. front ts s.list ∷ groups (rest ts s.list)) (sym first)

-- so many records as the first group has
pub group_long : (ss : List Stand) (begin : ℕ) (d : Stand) → begin < length ss → 0 < list_count (drop begin ss) (get_or ss begin d).list
group_long ss begin d below =
    let s = get_or ss begin d in omega (arith, count_first s (drop (begin + 1) ss), ap (λ ts. list_count ts s.list) (drop_more ss begin d below))

-- the records from a place to the end of a list, and those behind
pub slice_front : (ss : List Stand) (begin l : ℕ) → take (list_end ss begin l - begin) (drop begin ss) ≡ front (drop begin ss) l
slice_front ss begin l =
    let size : list_end ss begin l - begin ≡ list_count (drop begin ss) l = omega arith in ap (λ n. take n (drop begin ss)) size

pub slice_rest : (ss : List Stand) (begin l : ℕ) → drop (list_end ss begin l) ss ≡ rest (drop begin ss) l
slice_rest ss begin l = sym (drop-drop (list_count (drop begin ss) l) begin ss)

-- what holds of all groups from a place on holds of the first, and of those behind it
pub group_by_group : (P : List Stand → Type 0) (ss : List Stand) (begin end : ℕ) (d : Stand) → begin < length ss →
    end ≡ list_end ss begin (get_or ss begin d).list → All P (groups (drop begin ss)) →
    P (take (end - begin) (drop begin ss)) × All P (groups (drop end ss))
group_by_group P ss begin end d below is all =
    let l = (get_or ss begin d).list in
    let both = subst (All P) (group_here ss begin d below) all in
    let first : P (front (drop begin ss) l) = All-head P (front (drop begin ss) l) (groups (rest (drop begin ss) l)) both in
    let later : All P (groups (rest (drop begin ss) l)) = All-tail P (front (drop begin ss) l) (groups (rest (drop begin ss) l)) both in (
      subst P (sym (ap (λ n. take (n - begin) (drop begin ss)) is ∙ slice_front ss begin l)) first,
      subst (λ ts. All P (groups ts)) (sym (ap (λ n. drop n ss) is ∙ slice_rest ss begin l)) later,
    )

-- and the segments of the pairs are those of the first, then those of the others
pub pair_by_pair : (points : List (List ℤ)) (ss : List Stand) (begin end : ℕ) (d : Stand) → begin < length ss →
    end ≡ list_end ss begin (get_or ss begin d).list →
    pairs_segments points (drop begin ss) ≡ pair_segments points (take (end - begin) (drop begin ss)) ++ pairs_segments points (drop end ss)
pair_by_pair points ss begin end d below is =
    let l = (get_or ss begin d).list in
    ap (flat_map (pair_segments points)) (group_here ss begin d below)
    ∙ flat_map-cons (pair_segments points) (front (drop begin ss) l) (groups (rest (drop begin ss) l))
    ∙ ap (λ ts. pair_segments points ts ++ pairs_segments points (rest (drop begin ss) l))
    (sym (ap (λ n. take (n - begin) (drop begin ss)) is ∙ slice_front ss begin l))
    ∙ ap (λ ts. pair_segments points (take (end - begin) (drop begin ss)) ++ pairs_segments points ts)
    (sym (ap (λ n. drop n ss) is ∙ slice_rest ss begin l))
