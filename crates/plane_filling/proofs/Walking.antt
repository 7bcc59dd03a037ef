-- A ring whose cursor goes from place to place: the edge at the cursor.
use Rattle.std.specs.Prelude.{◌≡◌, ℕ, ◌+◌, ◌<◌, ◌≤◌, List, Bool, length, get_or, ◌&&◌, not, ◌==◌, take, ◌++◌}
use Rattle.std.specs.List.{list_all}
use Rattle.std.proofs.Common.{arith, sym, ap, ◌∙◌, inl, inr}
use Rattle.std.proofs.lemmas.Bool.{cases_lt}
use Rattle.std.proofs.lemmas.List.{drop_all, take_all}
use Rattle.std.proofs.lemmas.List.Folds.{list_all_more}
use Rattle.chain_laws.proofs.Paths.{length-round_edges}
use Rattle.chain_terms.specs.Paths.{round_edges}
use Rattle.face_plane.specs.Rings.{vertex_after, vertex_at}
use Rattle.loop_ring.specs.Turning.{turned_to}
use Rattle.loop_ring.proofs.Reading.{read_turned, turned_more}
use Rattle.ring_cutting.proofs.Turned.{at_round, at_within}
use Rattle.plane_filling.specs.Cuttings.{differ}
use Rattle.plane_filling.proofs.Edges.{edge_at}

-- once round
pub turned_all : (r : List ℕ) (n : ℕ) → n ≡ length r → turned_to n r ≡ r
turned_all r n e = let none = drop_all n r (omega (arith, e)) in ap (λ l. l ++ take n r) none ∙ take_all n r (omega (arith, e))

-- what is read at the cursor
pub read_here : (r : List ℕ) (i : ℕ) → i < length r → get_or (turned_to i r) 0 0 ≡ vertex_at r i
read_here r i low = read_turned i r low ∙ sym (at_within r i low)

-- and ahead of it
pub read_ahead : (r : List ℕ) (i : ℕ) → i < length r → get_or (turned_to 1 (turned_to i r)) 0 0 ≡ vertex_after r i
read_ahead r i low =
    ap (λ l. get_or l 0 0) (turned_more i r low) ∙ elim (cases_lt (i + 1) (length r)) as (λ _. get_or (turned_to (i + 1) r) 0 0 ≡ vertex_after r i) [
      | inl more ↦ read_turned (i + 1) r more ∙ sym (at_within r (i + 1) more)
      | inr end ↦
          let round : i + 1 ≡ length r = omega (arith, low, end) in
          let on : i + 1 ≡ 0 + length r = omega (arith, round) in
          ap (λ l. get_or l 0 0) (turned_all r (i + 1) round) ∙ sym (ap (vertex_at r) on ∙ at_round r 0 (omega (arith, low)))
    ]

-- one edge more
pub differ_more : (r : List ℕ) (i a b : ℕ) (t : Bool) → i < length r → a ≡ vertex_at r i → b ≡ vertex_after r i → t ≡ list_all differ (take i (round_edges r)) →
    (t && not (a == b)) ≡ list_all differ (take (i + 1) (round_edges r))
differ_more r i a b t low here ahead so_far =
    let edge = edge_at r i (0, 0) low in
    (λ j. so_far j && not (here j == ahead j)) ∙ (λ j. list_all differ (take i (round_edges r)) && differ (sym edge j))
    ∙ sym (list_all_more differ (round_edges r) i (0, 0) (omega (arith, low, length-round_edges r)))

-- all edges
pub differ_whole : (r : List ℕ) (i : ℕ) (t : Bool) → length r ≤ i → t ≡ list_all differ (take i (round_edges r)) → t ≡ list_all differ (round_edges r)
differ_whole r i t end so_far = so_far ∙ ap (list_all differ) (take_all i (round_edges r) (omega (arith, end, length-round_edges r)))
