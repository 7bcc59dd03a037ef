-- What a mesh of a text is.
use Rattle.std.proofs.Common.{◌≡◌, ℕ, List, ap, refl, ◌∙◌, Result, Ok, ℤ}
use Rattle.chain_terms.specs.Chains.{all_edges, IsClosed}
use Rattle.mesh_terms.specs.Faults.{Fault}
use Rattle.mesh_terms.specs.Meshes.{Soup, Triple}
use Rattle.mesh_check.proofs.OpenPair.{open_pair_closed}
use Rattle.run_terms.specs.Files.{Bytes}
use Rattle.play_terms.specs.Commands.{checked, if_closed}

-- a closed mesh of a text without a fault is what is expected of it
pub checked_closed : (name : Bytes) (given : Result Soup Fault) (soup : Soup) (points : List (List ℤ)) (triples : List Triple) (labels : List Bytes) (unused : ℕ)
    → given ≡ Ok soup → IsClosed (all_edges soup.triples) → points ≡ soup.points → triples ≡ soup.triples → labels ≡ soup.labels → unused ≡ soup.unused
    → checked name given ≡ Ok (record { points = points; triples = triples; labels = labels; unused = unused })
checked_closed name given soup points triples labels unused is closed same_points same_triples same_labels same_unused =
    let none = open_pair_closed (all_edges soup.triples) closed in
    ap (checked name) is ∙ ap (if_closed name soup) none ∙ ap Ok (same points triples labels unused soup same_points same_triples same_labels same_unused) where
      same : (points : List (List ℤ)) (triples : List Triple) (labels : List Bytes) (unused : ℕ) (soup : Soup) → points ≡ soup.points →
          triples ≡ soup.triples → labels ≡ soup.labels → unused ≡ soup.unused
          → soup ≡ record { points = points; triples = triples; labels = labels; unused = unused }
      same points triples labels unused soup p t l u = rw (p, t, l, u) refl
