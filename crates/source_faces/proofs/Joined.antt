-- Fillings that are added one after the other.
use Rattle.std.proofs.Common.{◌≡◌, ℕ, ◌+◌, List, [], ◌∷◌, ◌++◌, map, replicate, length, arith, sym, ap, subst, ◌∙◌, append-nil, append_assoc}
use Rattle.std.proofs.lemmas.List.{length-map, map_push}
use Rattle.std.proofs.lemmas.List.Concat.{flat_map-append}
use Rattle.std.proofs.lemmas.List.Sums.{sum_by-append, sum_by-cons}
use Rattle.chain_terms.specs.Sums.{upto}
use Rattle.chain_laws.proofs.Places.{length-up_from, upto_more}
use Rattle.mesh_terms.specs.Meshes.{triples_of}
use Rattle.ring_cutting.specs.Cuts.{Cut}
use Rattle.source_face_terms.specs.Filled.{all_triples, sources_of}
use Rattle.source_faces.specs.Adding.{IsAdded}
use Rattle.source_faces.specs.Parts.{AreAdded, AreAll}
use Rattle.source_faces.specs.declared.triangles.SourceTriangles.{SourceTriangles}

-- one filling was added
one_joined : (x : ℕ) (c : Cut) (old new : SourceTriangles) → IsAdded x c old new → AreAdded x (c ∷ []) old new
one_joined x c old new h = record {
  triples = h.triples ∙ ap (λ l. triples_of old.triples.items ++ l) (sym (append-nil c.triples));
  source = h.source ∙ ap (λ l. old.source.items ++ l) (sym (append-nil (replicate (length c.triples) x)));
  forced = omega (arith, h.forced, sum_by-cons (λ (d : Cut). d.forced) c []);
}

-- the numbers of the source faces of fillings one after the other
sources-append : (x : ℕ) (cs ds : List Cut) → sources_of x (cs ++ ds) ≡ sources_of x cs ++ sources_of (x + length cs) ds
sources-append x [] ds = let e : x ≡ x + 0 = omega arith in ap (λ n. sources_of n ds) e
sources-append x (c ∷ cs) ds =
    let here = replicate (length c.triples) x in
    let e : (x + 1) + length cs ≡ x + length (c ∷ cs) = omega arith in
    ap (λ l. here ++ l) (sources-append (x + 1) cs ds) ∙ ap (λ n. here ++ (sources_of (x + 1) cs ++ sources_of n ds)) e
    ∙ sym (append_assoc here (sources_of (x + 1) cs) (sources_of (x + length (c ∷ cs)) ds))

-- fillings were added, and then others
pub joined : (x y : ℕ) (cs ds : List Cut) (old mid new : SourceTriangles) → y ≡ x + length cs → AreAdded x cs old mid →
    AreAdded y ds mid new → AreAdded x (cs ++ ds) old new
joined x y cs ds old mid new e h k = record {
  triples =
      k.triples ∙ ap (λ l. l ++ all_triples ds) h.triples ∙ append_assoc (triples_of old.triples.items) (all_triples cs) (all_triples ds)
      ∙ ap (λ l. triples_of old.triples.items ++ l) (sym (flat_map-append (λ (c : Cut). c.triples) cs ds));
  source =
      k.source ∙ ap (λ l. l ++ sources_of y ds) h.source ∙ append_assoc old.source.items (sources_of x cs) (sources_of y ds)
      ∙ ap (λ l. old.source.items ++ l) (ap (λ n. sources_of x cs ++ sources_of n ds) e ∙ sym (sources-append x cs ds));
  forced = omega (arith, h.forced, k.forced, sum_by-append (λ (c : Cut). c.forced) cs ds);
}

-- the filling of one more face was added
pub one_more : (x n : ℕ) (part : ℕ → Cut) (c : Cut) (old mid new : SourceTriangles) → c ≡ part n → AreAdded x (map part (upto n)) old mid →
    IsAdded (x + n) c mid new → AreAdded x (map part (upto (n + 1))) old new
one_more x n part c old mid new is h k =
    let long : x + n ≡ x + length (map part (upto n)) = omega (arith, length-map (upto n) part, length-up_from 0 n) in
    let more : map part (upto n) ++ c ∷ [] ≡ map part (upto (n + 1)) =
    ap (λ d. map part (upto n) ++ d ∷ []) is ∙ sym (ap (map part) (upto_more n) ∙ map_push part (upto n) n) in
    subst (λ (cs : List Cut). AreAdded x cs old new) more
    (joined x (x + n) (map part (upto n)) (c ∷ []) old mid new long h (one_joined (x + n) c mid new k))

-- what was added to nothing is all
pub all_joined : (cs : List Cut) (old new : SourceTriangles) → old.triples.items ≡ [] → old.source.items ≡ [] → old.forced ≡ 0 →
    AreAdded 0 cs old new → AreAll cs new
all_joined cs old new triples source forced h = record {
  triples = h.triples ∙ ap (λ l. triples_of l ++ all_triples cs) triples;
  source = h.source ∙ ap (λ l. l ++ sources_of 0 cs) source;
  forced = omega (arith, h.forced, forced);
}
