-- Triangles that are added one by one.
use Rattle.std.proofs.Common.{◌≡◌, ℕ, ◌+◌, [], ◌∷◌, ◌++◌, replicate, length, sym, ap, ◌∙◌, append-nil, append_assoc}
use Rattle.std.proofs.lemmas.List.{length-append, replicate-append-replicate}
use Rattle.mesh_terms.specs.Meshes.{Triple, triples_of}
use Rattle.ring_cutting.specs.Cuts.{Cut}
use Rattle.source_faces.specs.Adding.{IsAdded}
use Rattle.source_faces.specs.declared.triangles.SourceTriangles.{SourceTriangles}

-- a triangle more at the end of a cutting
abbrev pub cut_then : Cut → Triple → Cut
cut_then c t = record { triples = c.triples ++ t ∷ []; forced = c.forced }

-- triangles that were forced, and none of them yet
abbrev pub none_of : ℕ → Cut
none_of n = record { triples = []; forced = n }

-- no triangle was added
pub none_added : (x n : ℕ) (old new : SourceTriangles) → new.triples.items ≡ old.triples.items → new.source.items ≡ old.source.items →
    new.forced ≡ old.forced + n → IsAdded x (none_of n) old new
none_added x n old new triples source forced = record {
  triples = ap triples_of triples ∙ sym (append-nil (triples_of old.triples.items));
  source = source ∙ sym (append-nil old.source.items);
  forced = forced;
}

-- one more number of a source face
replicate_more : (n x : ℕ) → replicate (n + 1) x ≡ replicate n x ++ x ∷ []
replicate_more n x = sym (replicate-append-replicate n 1 x)

-- one triangle more was added
pub one_added : (x : ℕ) (c : Cut) (t : Triple) (old mid new : SourceTriangles) → IsAdded x c old mid →
    triples_of new.triples.items ≡ triples_of mid.triples.items ++ t ∷ [] → new.source.items ≡ mid.source.items ++ x ∷ [] → new.forced ≡ mid.forced →
    IsAdded x (cut_then c t) old new
one_added x c t old mid new h triples source forced =
    let long : length (c.triples ++ t ∷ []) ≡ length c.triples + 1 = length-append c.triples (t ∷ []) in
    record {
      triples = triples ∙ ap (λ l. l ++ t ∷ []) h.triples ∙ append_assoc (triples_of old.triples.items) c.triples (t ∷ []);
      source =
          source ∙ ap (λ l. l ++ x ∷ []) h.source ∙ append_assoc old.source.items (replicate (length c.triples) x) (x ∷ [])
          ∙ ap (λ r. old.source.items ++ r) (sym (replicate_more (length c.triples) x) ∙ ap (λ n. replicate n x) (sym long));
      forced = forced ∙ h.forced;
    }
