-- What the chain of marked rims tells of triangles.
use Rattle.std.proofs.Common.{◌≡◌, ◌<◌, ◌∙◌, ℕ, ℤ, Bool, List, [], ◌∷◌, true, ap, filter, length, map, refl, replicate, subst, sym}
use Rattle.std.specs.Prelude.{not}
use Rattle.std.specs.List.{All, flat_map, list_any}
use Rattle.std.proofs.lemmas.List.Elements.{All-map}
use Rattle.std.proofs.lemmas.List.Folds.{flat_map-map}
use Rattle.face_plane.specs.Planes.{Plane}
use Rattle.sheet_terms.specs.Chains.{ChainEdge, chain, crossed, crossing_point, same_edge}
use Rattle.sheet_terms.specs.Faces.{Face, labels_of}
use Rattle.sheet_terms.specs.Kept.{has_edge}
use Rattle.plane_chains.specs.declared.telling.Web.{Web}
use Rattle.plane_chains.specs.EdgeBoxes.{pair_of}
use Rattle.plane_chains.specs.Listed.{chosen, label_number}
use Rattle.plane_chains.specs.Nets.{IsStored, edge_list}
use Rattle.plane_chains.specs.Pairs.{crossing_pairs, edge_at, grid_crossings}
use Rattle.plane_chains.specs.Tellings.{unmarked}
use Rattle.plane_chains.specs.Webs.{IsWeb}
use Rattle.plane_chains.proofs.FaceLists.{chosen_chain, label_below}
use Rattle.plane_chains.proofs.Freeing.{chosen_all, chosen_unmarked, crossed_any, points_found}

-- the pairs of places of edges
pairs_of : (cs : List ChainEdge) → map pair_of (map (λ (c : ChainEdge). edge_list c.edge) cs) ≡ map (λ (c : ChainEdge). c.edge) cs
pairs_of [] = refl
pairs_of (c ∷ cs) = λ i. c.edge ∷ pairs_of cs i

module _ (at : Plane) (fs : List Face) (rims : List (List ℕ)) (numbers : List ℕ) (same : rims ≡ map (λ f. f.rim) fs) (labels : numbers ≡ map (label_number fs) fs) where
  numbers_below : All (λ l. l < length (labels_of fs)) numbers
  numbers_below =
      subst (λ ns. All (λ l. l < length (labels_of fs)) ns) (sym labels)
      (All-map (λ l. l < length (labels_of fs)) (label_number fs) fs (λ k d low. label_below fs k d low))

  pub web_chain : (marks : List Bool) (web : Web) → IsWeb at rims numbers marks web → IsStored (chain (labels_of fs) (chosen marks fs)) web.chain.edges.items web.chain.nets.0
  web_chain marks web is =
      subst (λ cs. IsStored cs web.chain.edges.items web.chain.nets.0) (chosen_chain fs rims numbers marks same labels) (is.chain (length (labels_of fs)) numbers_below)

  pub web_edges : (marks : List Bool) (web : Web) → IsWeb at rims numbers marks web →
      map pair_of web.chain.edges.items ≡ map (λ (c : ChainEdge). c.edge) (chain (labels_of fs) (chosen marks fs))
  web_edges marks web is = ap (map pair_of) (web_chain marks web is).edges ∙ pairs_of (chain (labels_of fs) (chosen marks fs))

  pub web_points : (points : List (List ℤ)) (marks : List Bool) (web : Web) (found : List (List ℤ)) → IsWeb at rims numbers marks web → marks ≡ replicate (length fs) true →
      found ≡ flat_map (λ p. crossing_point points at (edge_at (map pair_of web.chain.edges.items) (pair_of p).0) (edge_at (map pair_of web.chain.edges.items) (pair_of p).1)) web.pairs.items →
      found ≡ grid_crossings points at (chain (labels_of fs) fs)
  web_points points marks web found is all e =
      e
      ∙ sym (flat_map-map (λ (p : ℕ × ℕ). crossing_point points at (edge_at (map pair_of web.chain.edges.items) p.0) (edge_at (map pair_of web.chain.edges.items) p.1)) pair_of web.pairs.items)
      ∙ ap (flat_map (λ (p : ℕ × ℕ). crossing_point points at (edge_at (map pair_of web.chain.edges.items) p.0) (edge_at (map pair_of web.chain.edges.items) p.1))) is.pairs
      ∙ ap (λ es. flat_map (λ (p : ℕ × ℕ). crossing_point points at (edge_at es p.0) (edge_at es p.1)) (crossing_pairs at es)) (web_edges marks web is)
      ∙ points_found points at (chain (labels_of fs) (chosen marks fs))
      ∙ ap (λ cs. grid_crossings points at (chain (labels_of fs) cs)) (chosen_all fs marks all)

  -- the keys are the edges that cross others
  pub web_crossed : (marks : List Bool) (web : Web) (keys : List (ℕ × ℕ)) → IsWeb at rims numbers marks web →
      ((e : ℕ × ℕ) → list_any (same_edge e) keys ≡ list_any (λ p. same_edge e (edge_at (map pair_of web.chain.edges.items) p.0)) (map pair_of web.pairs.items)) →
      chosen (unmarked rims keys marks) fs ≡ filter (λ f. not (has_edge (crossed at (chain (labels_of fs) (chosen marks fs))) f)) (chosen marks fs)
  web_crossed marks web keys is told =
      chosen_unmarked fs rims keys (crossed at (chain (labels_of fs) (chosen marks fs))) marks same
      (λ e. told e
      ∙ ap (list_any (λ (p : ℕ × ℕ). same_edge e (edge_at (map pair_of web.chain.edges.items) p.0))) is.pairs
      ∙ ap (λ es. list_any (λ (p : ℕ × ℕ). same_edge e (edge_at es p.0)) (crossing_pairs at es)) (web_edges marks web is)
      ∙ crossed_any at (chain (labels_of fs) (chosen marks fs)) e)

  pub web_none : (marks : List Bool) (web : Web) → IsWeb at rims numbers marks web → web.pairs.items ≡ [] →
      crossing_pairs at (map (λ (c : ChainEdge). c.edge) (chain (labels_of fs) (chosen marks fs))) ≡ []
  web_none marks web is none = ap (crossing_pairs at) (sym (web_edges marks web is)) ∙ sym is.pairs ∙ ap (map pair_of) none
