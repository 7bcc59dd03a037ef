-- The ends of the edges of a triangle, put behind a list.
use Rattle.std.specs.Prelude.{◌≡◌, ℕ, List, [], ◌++◌, Bool, true, false, cond, get_or, map}
use Rattle.std.proofs.Common.{sym, ap, ◌∙◌, append-nil}
use Rattle.mesh_terms.specs.Meshes.{Mesh}
use Rattle.inspection_terms.specs.Triangles.{corners_at, is_flat}
use Rattle.inspection_laws.specs.Sharing.{edges_between, full_edges}

module _ (m : Mesh) (firsts : List ℕ) (t : ℕ) (end : ℕ × ℕ → ℕ) (old : List ℕ) where
  abbrev edges_if : Bool → List (ℕ × ℕ)
  edges_if flat =
      cond flat []
      (edges_between (get_or firsts (get_or m.triples t (0, 0, 0)).0 0) (get_or firsts (get_or m.triples t (0, 0, 0)).1 0) (get_or firsts (get_or m.triples t (0, 0, 0)).2 0))

  -- a flat triangle has none
  pub flat_ends : true ≡ is_flat (corners_at m t) → old ≡ old ++ map end (full_edges m firsts t)
  flat_ends e = sym (append-nil old) ∙ ap (λ (f : Bool). old ++ map end (edges_if f)) e

  -- another has three
  pub full_ends : (a b c : ℕ) (new : List ℕ) → false ≡ is_flat (corners_at m t) → a ≡ (get_or m.triples t (0, 0, 0)).0 → b ≡ (get_or m.triples t (0, 0, 0)).1 →
      c ≡ (get_or m.triples t (0, 0, 0)).2 → new ≡ old ++ map end (edges_between (get_or firsts a 0) (get_or firsts b 0) (get_or firsts c 0)) →
      new ≡ old ++ map end (full_edges m firsts t)
  full_ends a b c new e ea eb ec is =
      is ∙ (λ i. old ++ map end (edges_between (get_or firsts (ea i) 0) (get_or firsts (eb i) 0) (get_or firsts (ec i) 0))) ∙ ap (λ (f : Bool). old ++ map end (edges_if f)) e
