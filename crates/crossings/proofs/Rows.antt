-- The lists of hits, step by step.
use Rattle.std.proofs.Common.{◌≡◌, ℕ, ◌+◌, ◌<◌, ◌≤◌, List, [], ◌∷◌, ◌++◌, length, get_or, take, Option, None, nat_lt, filter, ap, sym, ◌∙◌, append-nil, append_assoc}
use Rattle.std.specs.List.{cons_option, filter_map, flat_map}
use Rattle.std.proofs.lemmas.Bool.{lt-ltb, le-ltb}
use Rattle.std.proofs.lemmas.List.{take_more}
use Rattle.std.proofs.lemmas.List.Elements.{filter_map-append}
use Rattle.std.proofs.lemmas.List.Concat.{flat_map-append}
use Rattle.chain_terms.specs.Chains.{all_edges}
use Rattle.chain_terms.specs.Sums.{upto}
use Rattle.chain_terms.specs.Ranks.{twin}
use Rattle.chain_laws.proofs.Ascending.{filter-upto_yes, filter-upto_no}
use Rattle.mb_base.specs.declared.results.Hit.{Hit}
use Rattle.side_terms.specs.Sides.{Side, edge_at, face_at}
use Rattle.crossings.specs.Hits.{CrossingTest, hit_of, hits_along, hits_before}
use Rattle.crossings.specs.Near.{hits_with}

-- one face more
pub along_more : (test : CrossingTest) (edges faces : Side) (h : ℕ) (fs : List ℕ) (i : ℕ) → i < length fs →
    hits_with test edges faces h (take (i + 1) fs) ≡ hits_with test edges faces h (take i fs)
    ++ cons_option (hit_of h (get_or fs i 0) (test (edge_at edges h) (face_at faces (get_or fs i 0)))) []
along_more test edges faces h fs i below =
    let f : ℕ → Option Hit = λ g. hit_of h g (test (edge_at edges h) (face_at faces g)) in
    ap (filter_map f) (take_more fs i 0 below) ∙ filter_map-append f (take i fs) (get_or fs i 0 ∷ [])

-- one without an answer
pub along_none : (test : CrossingTest) (edges faces : Side) (h : ℕ) (fs : List ℕ) (i : ℕ) → i < length fs → None ≡ test (edge_at edges h) (face_at faces (get_or fs i 0)) →
    hits_with test edges faces h (take (i + 1) fs) ≡ hits_with test edges faces h (take i fs)
along_none test edges faces h fs i below e =
    along_more test edges faces h fs i below ∙ ap (λ o. hits_with test edges faces h (take i fs) ++ cons_option (hit_of h (get_or fs i 0) o) []) (sym e)
    ∙ append-nil (hits_with test edges faces h (take i fs))

-- an addition after what stands already
pub more_added : (new old before row row' part : List Hit) → new ≡ old ++ part → old ≡ before ++ row → row' ≡ row ++ part → new ≡ before ++ row'
more_added new old before row row' part e f g = let a = append_assoc before row part in cc

-- one more, which is the lower one of its edge
pub hits_lower : (test : CrossingTest) (edges faces : Side) (n : ℕ) → n < twin (all_edges edges.triples) n →
    hits_before test edges faces (n + 1) ≡ hits_before test edges faces n ++ hits_along test edges faces n
hits_lower test edges faces n h =
    let lower = λ (k : ℕ). nat_lt k (twin (all_edges edges.triples) k) in
    ap (flat_map (hits_along test edges faces)) (filter-upto_yes lower n (lt-ltb n (twin (all_edges edges.triples) n) h))
    ∙ flat_map-append (hits_along test edges faces) (filter lower (upto n)) (n ∷ [])
    ∙ ap (λ r. hits_before test edges faces n ++ r) (append-nil (hits_along test edges faces n))

-- one more, which is the upper one
pub hits_upper : (test : CrossingTest) (edges faces : Side) (n : ℕ) → twin (all_edges edges.triples) n ≤ n → hits_before test edges faces (n + 1) ≡ hits_before test edges faces n
hits_upper test edges faces n h =
    let lower = λ (k : ℕ). nat_lt k (twin (all_edges edges.triples) k) in
    ap (flat_map (hits_along test edges faces)) (filter-upto_no lower n (le-ltb n (twin (all_edges edges.triples) n) h))
