-- An edge of either side and a vertex of the other.
use Rattle.std.specs.Prelude.{◌≡◌, ◌≤ℤ◌, Bool, true, false, not, ℤ, Option, List, [], ◌∷◌}
use Rattle.std.proofs.Common.{refl, sym}
use Rattle.mb_base.specs.declared.point.Corner.{Corner}
use Rattle.side_terms.specs.Corners.{axis}
use Rattle.shadow_kernels.specs.declared.Edge.{Edge}
use Rattle.shadow_kernels.specs.declared.Edge.TheVariants.{OfP, OfQ}
use Rattle.shadow_kernels.specs.declared.Spot.{Spot}
use Rattle.shadow_kernels.specs.declared.Meet.{Meet}
use Rattle.shadow_kernels.specs.Spots.{Between}
use Rattle.shadow_kernels.specs.Rules.{Rule, spot_and_side}
use Rattle.shadow_kernels.specs.Counts.{by_ends}
use Rattle.shadow_kernels.specs.Shadows.{meet01, meet10}
use Rattle.shadow_kernels.specs.Order.{IsOrdered}
use Rattle.shadow_kernels.specs.Ends.{ends_not}

-- of the lists of P's and of Q's corners that of the edge's side, and the other
abbrev pub own : Edge → List Corner → List Corner → List Corner
own OfP ps qs = ps
own OfQ ps qs = qs

abbrev pub other : Edge → List Corner → List Corner → List Corner
other OfP ps qs = qs
other OfQ ps qs = ps

-- the answer of the vertex and the edge from c to d
abbrev pub edge_meet : Edge → Rule → Between → Corner → Corner → Corner → Option Meet
edge_meet OfP k w v c d = meet10 k w c d v
edge_meet OfQ k w v c d = meet01 k w v c d

-- an answer of a count, at a spot with its mark
abbrev pub met_at : ℤ → Bool × Spot → Meet
met_at n s = record { count = n; above = s.0; spot = s.1 }

-- the answers of a vertex with the three edges of a face of the other side
abbrev pub rim : Edge → Rule → Between → Corner → Corner → Corner → Corner → List (Option Meet)
rim e k w v a b c = edge_meet e k w v a b ∷ edge_meet e k w v b c ∷ edge_meet e k w v c a ∷ []

-- whether the vertex counts as past an end in x
abbrev pub past : Edge → Rule → Corner → Corner → Bool
past OfP k v c = not (k.beyond_in_x c v)
past OfQ k v c = k.beyond_in_x v c

-- the answer is that of the tests at the two ends
pub edge_ends : (e : Edge) (k : Rule) (w : Between) (v c d : Corner) →
    edge_meet e k w v c d ≡ by_ends (past e k v c) (past e k v d) (spot_and_side k w e v c d) (spot_and_side k w e v d c)
unfolding meet01 meet10
edge_ends OfP k w v c d = sym (ends_not (k.beyond_in_x c v) (k.beyond_in_x d v) (spot_and_side k w OfP v c d) (spot_and_side k w OfP v d c))
edge_ends OfQ k w v c d = refl

-- a test that fails
not_true : (b : Bool) → not b ≡ true → b ≡ false
not_true true e = absurd (cc)
not_true false e = refl

not_false : (b : Bool) → not b ≡ false → b ≡ true
not_false true e = refl
not_false false e = absurd (cc)

-- an end that the vertex is past has no greater x, and one that it is not past no smaller
module _ {k : Rule} (o : IsOrdered k) where
  pub past_le : (e : Edge) (v c : Corner) → past e k v c ≡ true → axis 0 c ≤ℤ axis 0 v
  past_le OfP v c h = o.before c v (not_true (k.beyond_in_x c v) h)
  past_le OfQ v c h = o.after v c h

  pub not_past_le : (e : Edge) (v c : Corner) → past e k v c ≡ false → axis 0 v ≤ℤ axis 0 c
  not_past_le OfP v c h = o.after c v (not_false (k.beyond_in_x c v) h)
  not_past_le OfQ v c h = o.before v c h
