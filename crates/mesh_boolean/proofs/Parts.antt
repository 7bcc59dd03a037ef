-- The triangles of a source face, picked out of those of all fillings.
use Rattle.std.proofs.Common.{◌≡◌, ◌<◌, ◌+◌, ◌==◌, ℕ, zero, suc, Bool, true, false, cond, List, [], ◌∷◌, ◌++◌, map, filter, length, get_or, replicate, refl, ◌∙◌, ap, arith}
use Rattle.std.specs.List.{All, zip}
use Rattle.std.proofs.lemmas.Bool.{eq-eqb, ne_eqb}
use Rattle.std.proofs.lemmas.List.{length-append, length-replicate}
use Rattle.std.proofs.lemmas.List.Elements.{All-append, All-replicate, All-weaker}
use Rattle.mesh_terms.specs.Meshes.{Triple}
use Rattle.pinch_split.specs.Back.{named_by}
use Rattle.ring_cutting.specs.Cuts.{Cut}
use Rattle.source_face_terms.specs.Filled.{all_triples, sources_of}
use Rattle.mesh_boolean.specs.Picked.{triples_of_face}

-- the filling of no face
abbrev pub no_part : Cut
no_part = record { triples = []; forced = 0 }

-- naming what was picked is picking from what was named
pub named_at : (names : List ℕ) (x : ℕ) (source : List ℕ) (ts : List Triple) →
    map (named_by names) (triples_of_face x source ts) ≡ triples_of_face x source (map (named_by names) ts)
named_at names x [] ts = refl
named_at names x (s ∷ ss) [] = refl
named_at names x (s ∷ ss) (t ∷ ts) = by (s == x) (named_at names x ss ts)
  where
    by : (b : Bool) → map (named_by names) (triples_of_face x ss ts) ≡ triples_of_face x ss (map (named_by names) ts) →
        map (named_by names) (map (λ m. m.1) (cond b ((s, t) ∷ filter (λ m. m.0 == x) (zip ss ts)) (filter (λ m. m.0 == x) (zip ss ts))))
        ≡ map (λ m. m.1) (cond b ((s, named_by names t) ∷ filter (λ m. m.0 == x) (zip ss (map (named_by names) ts))) (filter (λ m. m.0 == x) (zip ss (map (named_by names) ts))))
    by true rest = ap (λ l. named_by names t ∷ l) rest
    by false rest = rest

-- triangles of the face that is picked come first, where they stand first
block_taken : (x k : ℕ) → (k == x) ≡ true → (ts us : List Triple) (ss : List ℕ) → triples_of_face x (replicate (length ts) k ++ ss) (ts ++ us) ≡ ts ++ triples_of_face x ss us
block_taken x k same [] us ss = refl
block_taken x k same (t ∷ ts) us ss =
    let rest : List (ℕ × Triple) = filter (λ m. m.0 == x) (zip (replicate (length ts) k ++ ss) (ts ++ us)) in
    ap (λ b. map (λ m. m.1) (cond b ((k, t) ∷ rest) rest)) same ∙ ap (λ l. t ∷ l) (block_taken x k same ts us ss)

-- those of another face are left out
block_left : (x k : ℕ) → (k == x) ≡ false → (ts us : List Triple) (ss : List ℕ) → triples_of_face x (replicate (length ts) k ++ ss) (ts ++ us) ≡ triples_of_face x ss us
block_left x k other [] us ss = refl
block_left x k other (t ∷ ts) us ss =
    let rest : List (ℕ × Triple) = filter (λ m. m.0 == x) (zip (replicate (length ts) k ++ ss) (ts ++ us)) in
    ap (λ b. map (λ m. m.1) (cond b ((k, t) ∷ rest) rest)) other ∙ block_left x k other ts us ss

-- fillings from number k on have no triangles of a face before
none_before : (x k : ℕ) → x < k → (parts : List Cut) → triples_of_face x (sources_of k parts) (all_triples parts) ≡ []
none_before x k less [] = refl
none_before x k less (c ∷ cs) =
    block_left x k (ne_eqb k x (λ e. omega (arith, less, e))) c.triples (all_triples cs) (sources_of (k + 1) cs) ∙ none_before x (k + 1) (omega (arith, less)) cs

-- nothing after a list is the list
append_none : {X : Type 0} (xs ys : List X) → ys ≡ [] → xs ++ ys ≡ xs
append_none [] ys none = none
append_none (x ∷ xs) ys none = ap (λ l. x ∷ l) (append_none xs ys none)

-- of the fillings from number k on, those of face k + i are the i-th one's
part_from : (i x k : ℕ) → x ≡ k + i → (parts : List Cut) → triples_of_face x (sources_of k parts) (all_triples parts) ≡ (get_or parts i no_part).triples
part_from i x k at [] = refl
part_from zero x k at (c ∷ cs) =
    block_taken x k (eq-eqb k x (omega (arith, at))) c.triples (all_triples cs) (sources_of (k + 1) cs)
    ∙ append_none c.triples (triples_of_face x (sources_of (k + 1) cs) (all_triples cs)) (none_before x (k + 1) (omega (arith, at)) cs)
part_from (suc i) x k at (c ∷ cs) =
    block_left x k (ne_eqb k x (λ e. omega (arith, at, e))) c.triples (all_triples cs) (sources_of (k + 1) cs) ∙ part_from i x (k + 1) (omega (arith, at)) cs

-- the triangles of face x are those of the x-th filling
pub part_at : (x : ℕ) (parts : List Cut) → triples_of_face x (sources_of 0 parts) (all_triples parts) ≡ (get_or parts x no_part).triples
part_at x parts = part_from x x 0 (omega arith) parts

-- as many numbers as triangles
pub length-sources : (k : ℕ) (parts : List Cut) → length (sources_of k parts) ≡ length (all_triples parts)
length-sources k [] = refl
length-sources k (c ∷ cs) =
    omega (
      arith,
      length-append (replicate (length c.triples) k) (sources_of (k + 1) cs),
      length-replicate (length c.triples) k,
      length-append c.triples
          (all_triples cs),
      length-sources (k + 1) cs,
    )

-- each is the number of a filling
pub sources_below : (k : ℕ) (parts : List Cut) → All (λ x. x < k + length parts) (sources_of k parts)
sources_below k [] = λ i d low. absurd (omega (arith, low))
sources_below k (c ∷ cs) =
    All-append (λ x. x < k + length (c ∷ cs)) (replicate (length c.triples) k) (sources_of (k + 1) cs)
    (All-replicate (λ x. x < k + length (c ∷ cs)) (length c.triples) k (omega arith))
    (All-weaker (λ x. x < k + 1 + length cs) (λ x. x < k + length (c ∷ cs)) (λ x low. omega (arith, low)) (sources_of (k + 1) cs) (sources_below (k + 1) cs))
