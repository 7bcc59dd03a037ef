-- Twins after a collapse: those of the half-edges that stay, but where two edges become one.
use Rattle.std.proofs.Common.{◌≡◌, ℕ, List, sym, ap, ◌∙◌}
use Rattle.chain_terms.specs.Chains.{all_edges, is_edge}
use Rattle.chain_terms.specs.Ranks.{rank, start, finish, twin, runs_against}
use Rattle.chain_laws.proofs.Ranks.{same_place}
use Rattle.chain_laws.proofs.Twins.{twin_place}
use Rattle.halfedge.proofs.Edges.{next_starts}
use Rattle.mesh_terms.specs.Halves.{next_half}
use Rattle.mesh_terms.specs.Meshes.{Triple}
use Rattle.tidy_terms.specs.Collapse.{merged, stays}
use Rattle.tidy_laws.specs.Conditions.{CanCollapse}
use Rattle.tidy_laws.proofs.Closed.{stays_closed}
use Rattle.tidy_laws.proofs.Kept.{Stays, down, down_below, left, next_down, next_stays, start_down}
use Rattle.tidy_laws.proofs.Same.{rank_stays}
use Rattle.tidy_laws.proofs.Six.{Runs, runs}

module _ (ts : List Triple) (h a b c d : ℕ) (can : CanCollapse ts h a b c d) where
  abbrev es : List (ℕ × ℕ)
  es = all_edges ts

  -- the half-edges afterwards, and the number that one has there
  abbrev new : List (ℕ × ℕ)
  new = all_edges (left (stays a b) (merged a b) ts)

  abbrev at : ℕ → ℕ
  at w = down (stays a b) ts w

  -- how one that stays runs afterwards
  pub runs_down : (w x y : ℕ) → Stays (stays a b) ts w → Runs es w x y → Runs new (at w) (merged a b x) (merged a b y)
  runs_down w x y s r =
      let low = down_below (stays a b) (merged a b) ts w s in
      let n = next_stays (stays a b) ts w s in
      record {
        low = low;
        from = start_down (stays a b) (merged a b) ts w s ∙ ap (merged a b) r.from;
        to = sym (next_starts (left (stays a b) (merged a b) ts) (at w) low) ∙ ap (start new) (sym (next_down (stays a b) ts w))
            ∙ start_down (stays a b) (merged a b) ts (next_half w) n
            ∙ ap (merged a b) (next_starts ts w r.low ∙ r.to);
      }

  -- two that stay, run against each other afterwards, and had the same rank, become twins
  pub twins_down : (w z x y u v : ℕ) → Stays (stays a b) ts w → Stays (stays a b) ts z → Runs es w x y → Runs es z u v → merged a b u ≡ merged a b y → merged a b v ≡ merged a b x →
      rank (λ e. is_edge e x y) es w ≡ rank (λ e. is_edge e u v) es z → twin new (at w) ≡ at z
  twins_down w z x y u v s t r q e f same =
      let wr = runs_down w x y s r in
      let zr = runs_down z u v t q in
      let mx = merged a b x in
      let my = merged a b y in
      let mu = merged a b u in
      let mv = merged a b v in
      let closed = stays_closed a b can.distinct ts can.closed in
      let against : rank (runs_against new (at w)) new (at z) ≡ rank (λ e. is_edge e mu mv) new (at z) =
      ap (λ i. rank (λ e. is_edge e i (start new (at w))) new (at z)) (wr.to ∙ sym e) ∙ ap (λ j. rank (λ e. is_edge e mu j) new (at z)) (wr.from ∙ sym f) in
      let own : rank (λ e. is_edge e (start new (at w)) (finish new (at w))) new (at w) ≡ rank (λ e. is_edge e mx my) new (at w) =
      ap (λ i. rank (λ e. is_edge e i (finish new (at w))) new (at w)) wr.from ∙ ap (λ j. rank (λ e. is_edge e mx j) new (at w)) wr.to in
      same_place (runs_against new (at w)) new (rank (λ e. is_edge e (start new (at w)) (finish new (at w))) new (at w)) (twin new (at w)) (at z)
      (twin_place new closed (at w) wr.low)
      (record {
        within = zr.low;
        holds = runs new (finish new (at w)) (start new (at w)) (at z) zr.low (zr.from ∙ e ∙ sym wr.to) (zr.to ∙ f ∙ sym wr.from);
        earlier = against ∙ rank_stays ts h a b c d can z u v t q ∙ sym same ∙ sym (rank_stays ts h a b c d can w x y s r) ∙ sym own;
      })
