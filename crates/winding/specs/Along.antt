-- The sums of numbers along edges, by the list of hits, and marks on the triangles whose edges have hits.
use Rattle.std.specs.Prelude.{◌≡◌, ℕ, ◌*◌, ◌/◌, ◌==◌, ℤ, neg_ℤ, Bool, true, false, List, length, get_or, filter, nat_lt, if◌then◌else◌}
use Rattle.std.specs.List.{All}
use Rattle.chain_terms.specs.Ranks.{twin}
use Rattle.chain_terms.specs.Sums.{total}
use Rattle.mb_base.specs.declared.results.Hit.{Hit}

-- the hits of an edge
abbrev pub hits_on : List Hit → ℕ → List Hit
hits_on hits e = filter (λ h. h.edge == e) hits

-- the sum of their numbers
abbrev pub edge_total : List Hit → ℕ → ℤ
edge_total hits e = total (λ h. h.number) (hits_on hits e)

-- the sum along a half-edge: that of its edge, turned where it is not the lower one
abbrev pub half_total : List (ℕ × ℕ) → List Hit → ℕ → ℤ
half_total es hits h = if nat_lt h (twin es h) then edge_total hits h else neg_ℤ (edge_total hits (twin es h))

-- of each hit the triangles on both sides of its edge are marked
pub record AreCrossed (es : List (ℕ × ℕ)) (hits : List Hit) (crossed : List Bool) : Type 0 where
  pub full : 3 * length crossed ≡ length es
  pub here : All (λ h. get_or crossed (h.edge / 3) false ≡ true) hits
  pub beyond : All (λ h. get_or crossed (twin es h.edge / 3) false ≡ true) hits
