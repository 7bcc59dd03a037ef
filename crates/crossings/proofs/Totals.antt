-- The number that all hits give an edge and a face is the one that was answered.
use Rattle.std.proofs.Common.{◌≡◌, ℕ, ◌<◌, ◌==◌, ◌&&◌, ℤ, pos, List, Bool, true, false, cond, nat_lt, Option, Some, None, length, refl, ap, ◌∙◌}
use Rattle.std.proofs.lemmas.Bool.{lt-ltb}
use Rattle.chain_terms.specs.Chains.{all_edges}
use Rattle.chain_terms.specs.Sums.{total, upto}
use Rattle.chain_terms.specs.Ranks.{twin}
use Rattle.chain_laws.specs.Sums.{total-same, total-zero, total-flat_map, total-filter_map, value_or_zero}
use Rattle.chain_laws.proofs.Ascending.{total-filter}
use Rattle.chain_laws.proofs.Places.{where_same, one_hit_of}
use Rattle.mb_base.specs.declared.results.Hit.{Hit}
use Rattle.edge_face.specs.declared.Cross.{Cross}
use Rattle.edge_face.specs.Crossings.{number_of}
use Rattle.side_terms.specs.Sides.{Side, edge_at, face_at}
use Rattle.crossings.specs.Hits.{CrossingTest, hit_of, hits_along, hits_of}
use Rattle.side_terms.specs.Hits.{lower_halves}
use Rattle.side_terms.specs.Conservation.{hit_number}

-- what a hit adds to the number of an edge and a face
abbrev pub added : ℕ → ℕ → Hit → ℤ
added e f h = cond ((h.edge == e) && (h.face == f)) h.number (pos 0)

-- where both tests hold, in turn
both : (a b : Bool) (z : ℤ) → cond (a && b) z (pos 0) ≡ cond a (cond b z (pos 0)) (pos 0)
both true b z = refl
both false b z = refl

-- 0 in any case
never : (a b : Bool) → pos 0 ≡ cond a (cond b (pos 0) (pos 0)) (pos 0)
never true true = refl
never true false = refl
never false b = refl

-- what an answer adds
answer_added : (e f e' f' : ℕ) (o : Option Cross) → value_or_zero (added e f) (hit_of e' f' o) ≡ where_same e' e (where_same f' f (number_of o))
answer_added e f e' f' None = never (e' == e) (f' == f)
answer_added e f e' f' (Some c) = both (e' == e) (f' == f) c.number

-- a test that does not depend on the member
all_or_none : (b : Bool) (g : ℕ → ℤ) (xs : List ℕ) → total (λ x. cond b (g x) (pos 0)) xs ≡ cond b (total g xs) (pos 0)
all_or_none true g xs = refl
all_or_none false g xs = total-zero xs

-- two tests, in either order
exchanged : (a b : Bool) (z : ℤ) → cond a (cond b z (pos 0)) (pos 0) ≡ cond b (cond a z (pos 0)) (pos 0)
exchanged true true z = refl
exchanged true false z = refl
exchanged false true z = refl
exchanged false false z = refl

-- what the hits of one half-edge add
along_added : (test : CrossingTest) (edges faces : Side) (e f h : ℕ) → f < length faces.triples →
    total (added e f) (hits_along test edges faces h) ≡ where_same h e (number_of (test (edge_at edges h) (face_at faces f)))
along_added test edges faces e f h below =
    let n = length faces.triples in
    let answer : ℕ → Option Cross = λ g. test (edge_at edges h) (face_at faces g) in
    total-filter_map (added e f) (λ g. hit_of h g (answer g)) (upto n)
    ∙ total-same (λ g. value_or_zero (added e f) (hit_of h g (answer g))) (λ g. where_same h e (where_same g f (number_of (answer g))))
    (λ g. answer_added e f h g (answer g)) (upto n)
    ∙ all_or_none (h == e) (λ g. where_same g f (number_of (answer g))) (upto n)
    ∙ ap (where_same h e) (one_hit_of (λ g. number_of (answer g)) f n below)

-- what all hits add: for the lower half-edge of an edge and a face, the number that was answered
pub hits_number : (test : CrossingTest) (edges faces : Side) (e f : ℕ) → e < length (all_edges edges.triples) → e < twin (all_edges edges.triples) e → f < length faces.triples →
    hit_number (hits_of test edges faces) e f ≡ number_of (test (edge_at edges e) (face_at faces f))
hits_number test edges faces e f inside lower below =
    let es = all_edges edges.triples in
    let is_lower : ℕ → Bool = λ h. nat_lt h (twin es h) in
    let number : ℕ → ℤ = λ h. number_of (test (edge_at edges h) (face_at faces f)) in
    total-flat_map (added e f) (hits_along test edges faces) (lower_halves es)
    ∙ total-same (λ h. total (added e f) (hits_along test edges faces h)) (λ h. where_same h e (number h)) (λ h. along_added test edges faces e f h below) (lower_halves es)
    ∙ total-filter (λ h. where_same h e (number h)) is_lower (upto (length es))
    ∙ total-same (λ h. cond (is_lower h) (where_same h e (number h)) (pos 0)) (λ h. where_same h e (cond (is_lower h) (number h) (pos 0)))
    (λ h. exchanged (is_lower h) (h == e) (number h)) (upto (length es))
    ∙ one_hit_of (λ h. cond (is_lower h) (number h) (pos 0)) e (length es) inside
    ∙ ap (λ b. cond b (number e) (pos 0)) (lt-ltb e (twin es e) lower)
