-- Half-edges of a closed mesh are paired.
use Rattle.std.proofs.Common.{◌≡◌, ◌≢◌, ◌<◌, ℕ, List, map, length, refl, sym, ◌∙◌, ap}
use Rattle.std.specs.List.{All}
use Rattle.chain_terms.specs.Chains.{IsClosed, all_edges}
use Rattle.chain_terms.specs.Ranks.{finish, start, twin}
use Rattle.chain_laws.proofs.Twins.{twin_runs_back, twin_twin}
use Rattle.halfedge.proofs.Edges.{not_back}
use Rattle.mesh_terms.specs.Meshes.{HasThree, IsAccepted, Triple}
use Rattle.mesh_terms.specs.Twins.{twins_of}
use Rattle.halfedge.specs.Clean.{IsClean}
use Rattle.pinch_split.specs.Back.{named_by}
use Rattle.mesh_boolean.specs.Results.{ArePaired, IsCleanOver}

-- no half-edge of triangles with three vertices runs back along itself
another : (ts : List Triple) → All HasThree ts → IsClosed (all_edges ts) → (h : ℕ) → h < length (all_edges ts) → twin (all_edges ts) h ≢ h
another ts three closed h below same =
    let back = twin_runs_back (all_edges ts) closed h below in
    let meets : start (all_edges ts) h ≡ finish (all_edges ts) h = ap (start (all_edges ts)) (sym same) ∙ back.from in
    not_back ts three h h below refl (meets, sym meets)

pub are_paired : (ts : List Triple) → All HasThree ts → IsClosed (all_edges ts) → ArePaired (all_edges ts)
are_paired ts three closed = record {
  within = λ h below. (twin_runs_back (all_edges ts) closed h below).within;
  another = another ts three closed;
  back = λ h below. let back = twin_runs_back (all_edges ts) closed h below in (back.from, back.to);
  again = twin_twin (all_edges ts) closed;
}

-- a clean mesh with the twins of the triangles that the old vertices give
pub is_clean_over : (n : ℕ) (from : List ℕ) (ts us : List Triple) → IsAccepted n ts → IsClean (all_edges ts) → twins_of ts ≡ twins_of us →
    map (named_by from) ts ≡ us → IsCleanOver from ts
is_clean_over n from ts us accepted clean twins back = record {
  closed = accepted.closed;
  paired = are_paired ts accepted.mesh.three accepted.closed;
  clean = clean;
  twins = twins ∙ ap twins_of (sym back);
}
