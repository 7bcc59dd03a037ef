-- Pieces added one after the other.
use Rattle.std.specs.Prelude.{◌≡◌, ℕ, ◌+◌, ◌<◌, Bool, true, false, List, [], ◌∷◌, ◌++◌, length, replicate}
use Rattle.std.specs.Bool.{MatchBool}
use Rattle.std.proofs.Common.{arith, sym, ap, ◌∙◌}
use Rattle.std.proofs.lemmas.List.{append-nil, append_assoc, length-map}
use Rattle.std.proofs.lemmas.List.Concat.{flat_map-append}
use Rattle.std.proofs.lemmas.List.Sums.{sum_by-append}
use Rattle.mesh_terms.specs.Meshes.{triple_of, triples_of}
use Rattle.plane_filling.specs.declared.filling.Filled.{Filled}
use Rattle.plane_filling.specs.Pieces.{Adds, AreFilled, Piece, forced_of, new_labels, new_triples}

pub forced_append : (ps qs : List Piece) → forced_of (ps ++ qs) ≡ forced_of ps + forced_of qs
forced_append ps qs = sum_by-append (λ (p : Piece). p.forced) ps qs

-- nothing
pub adds_none : (f : Filled) → Adds [] f f
adds_none f = record { triples = sym (append-nil (triples_of f.triples.items)); labels = sym (append-nil f.labels.items) }

-- pieces and then others
pub adds_both : (ps qs : List Piece) (a b c : Filled) → Adds ps a b → Adds qs b c → Adds (ps ++ qs) a c
adds_both ps qs a b c h k = record {
  triples = k.triples ∙ ap (λ l. l ++ new_triples qs) h.triples ∙ append_assoc (triples_of a.triples.items) (new_triples ps) (new_triples qs)
      ∙ ap (λ l. triples_of a.triples.items ++ l) (sym (flat_map-append (λ (p : Piece). p.triples) ps qs));
  labels = k.labels ∙ ap (λ l. l ++ new_labels qs) h.labels ∙ append_assoc a.labels.items (new_labels ps) (new_labels qs)
      ∙ ap (λ l. a.labels.items ++ l) (sym (flat_map-append (λ (p : Piece). replicate (length p.triples) p.label) ps qs));
}

-- one piece
pub adds_one : (p : Piece) (a b : Filled) (ts : List (List ℕ)) (label : ℕ) → triples_of ts ≡ p.triples → label ≡ p.label →
    triples_of b.triples.items ≡ triples_of a.triples.items ++ triples_of ts → b.labels.items ≡ a.labels.items ++ replicate (length ts) label → Adds (p ∷ []) a b
adds_one p a b ts label made name triples labels =
    let many : length ts ≡ length p.triples = sym (length-map ts triple_of) ∙ ap length made in
    record {
      triples = triples ∙ ap (λ l. triples_of a.triples.items ++ l) (made ∙ sym (append-nil p.triples));
      labels = labels ∙ (λ j. a.labels.items ++ replicate (many j) (name j))
          ∙ ap (λ l. a.labels.items ++ l) (sym (append-nil (replicate (length p.triples) p.label)));
    }

-- pieces of which none is forced, and then others, of which some may be
pub then_others : (ps qs : List Piece) (a b c : Filled) (t : Bool) → forced_of ps ≡ 0 → Adds ps a b →
    MatchBool t ((forced_of qs ≡ 0) × Adds qs b c) (0 < forced_of qs) → MatchBool t ((forced_of (ps ++ qs) ≡ 0) × Adds (ps ++ qs) a c) (0 < forced_of (ps ++ qs))
then_others ps qs a b c true none adds h = (omega (arith, forced_append ps qs, none, h.0), adds_both ps qs a b c adds h.1)
then_others ps qs a b c false none adds h = omega (arith, forced_append ps qs, h)

-- pieces added to filled ones
pub filled_more : (ps qs : List Piece) (a b : Filled) → AreFilled ps a → forced_of qs ≡ 0 → Adds qs a b → AreFilled (ps ++ qs) b
filled_more ps qs a b are none adds = record {
  unforced = let unforced = are.unforced in omega (arith, forced_append ps qs, unforced, none);
  triples = adds.triples ∙ ap (λ l. l ++ new_triples qs) are.triples ∙ sym (flat_map-append (λ (p : Piece). p.triples) ps qs);
  labels = adds.labels ∙ ap (λ l. l ++ new_labels qs) are.labels ∙ sym (flat_map-append (λ (p : Piece). replicate (length p.triples) p.label) ps qs);
}
