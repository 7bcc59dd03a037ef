-- Twins in other triangles, and going around a vertex.
use Rattle.std.proofs.Common.{◌≡◌, ◌≢◌, ◌<◌, ◌/◌, ℕ, zero, suc, List, length, refl, sym, ◌∙◌, ap, arith}
use Rattle.std.specs.List.{All}
use Rattle.chain_terms.specs.Chains.{all_edges, IsClosed}
use Rattle.chain_terms.specs.Permutations.{AreInverse, times}
use Rattle.chain_terms.specs.Ranks.{start, twin}
use Rattle.chain_laws.proofs.Twins.{twin_runs_back, twin_twin, twin_keeps_order}
use Rattle.chain_laws.proofs.Walks.{times_below}
use Rattle.mesh_terms.specs.Meshes.{Triple, HasThree}
use Rattle.mesh_terms.specs.Halves.{next_half, prev_half, around}
use Rattle.halfedge.specs.Laws.{PairUp, GoAround}
use Rattle.halfedge.proofs.Edges.{next_below, next_starts, prev_below, prev_next, next_prev, not_back}

-- the twin lies in another triangle
twin_other : (ts : List Triple) → All HasThree ts → IsClosed (all_edges ts) → (h : ℕ) → h < length (all_edges ts) → twin (all_edges ts) h / 3 ≢ h / 3
twin_other ts three closed h below same =
    let back = twin_runs_back (all_edges ts) closed h below in
    not_back ts three h (twin (all_edges ts) h) below (sym same) (back.from, back.to)

-- what twins of closed triangles keep
pub pair_up : (ts : List Triple) → All HasThree ts → IsClosed (all_edges ts) → PairUp (all_edges ts)
pair_up ts three closed = record {
  run_back = twin_runs_back (all_edges ts) closed;
  pairs = twin_twin (all_edges ts) closed;
  apart = λ h below same. twin_other ts three closed h below (ap (λ g. g / 3) same);
  other = twin_other ts three closed;
  order = twin_keeps_order (all_edges ts) closed;
}

-- going around stays at the half-edges
around_below : (ts : List Triple) → IsClosed (all_edges ts) → (h : ℕ) → h < length (all_edges ts) → around (all_edges ts) h < length (all_edges ts)
around_below ts closed h below = next_below ts (twin (all_edges ts) h) (twin_runs_back (all_edges ts) closed h below).within

-- going around has a way back
pub around_inverse : (ts : List Triple) → IsClosed (all_edges ts) → AreInverse (around (all_edges ts)) (λ h. twin (all_edges ts) (prev_half h)) (length (all_edges ts))
around_inverse ts closed = record {
  below = around_below ts closed;
  above = λ h below. (twin_runs_back (all_edges ts) closed (prev_half h) (prev_below ts h below)).within;
  back = λ h below. ap next_half (twin_twin (all_edges ts) closed (prev_half h) (prev_below ts h below)) ∙ next_prev h;
  forth = λ h below. ap (twin (all_edges ts)) (prev_next (twin (all_edges ts) h)) ∙ twin_twin (all_edges ts) closed h below;
}

-- and keeps the start
around_start : (ts : List Triple) → IsClosed (all_edges ts) → (h : ℕ) → h < length (all_edges ts) → start (all_edges ts) (around (all_edges ts) h) ≡ start (all_edges ts) h
around_start ts closed h below =
    let back = twin_runs_back (all_edges ts) closed h below in
    next_starts ts (twin (all_edges ts) h) back.within ∙ back.to

-- what going around keeps
pub go_around : (ts : List Triple) → All HasThree ts → IsClosed (all_edges ts) → GoAround (all_edges ts)
go_around ts three closed = record {
  inverse = around_inverse ts closed;
  start_stays = around_start ts closed;
  moves = λ h below same. twin_other ts three closed h below (in_one (twin (all_edges ts) h) h same);
}
  where
    in_one : (g h : ℕ) → next_half g ≡ h → g / 3 ≡ h / 3
    in_one g h same = omega (arith, same)

-- however often
pub times_start : (ts : List Triple) → IsClosed (all_edges ts) → (h : ℕ) → h < length (all_edges ts) → (n : ℕ) →
    start (all_edges ts) (times (around (all_edges ts)) n h) ≡ start (all_edges ts) h
times_start ts closed h below zero = refl
times_start ts closed h below (suc n) =
    around_start ts closed (times (around (all_edges ts)) n h)
    (times_below (around (all_edges ts)) (λ g. twin (all_edges ts) (prev_half g)) (length (all_edges ts)) (around_inverse ts closed) n h below)
    ∙ times_start ts closed h below n
