-- What the branches of an edge's answer return.
use Rattle.std.proofs.Common.{◌≡◌, ℤ, Bool, true, false, not, pos, negsuc, if◌then◌else◌, Option, Some, None, refl, ap, sym, ◌∙◌}
use mathlib.Core.Bool.{beq}
use Rattle.shadow_kernels.specs.declared.Spot.{Spot}
use Rattle.shadow_kernels.specs.declared.Meet.{Meet}
use Rattle.shadow_kernels.specs.Spots.{Between}
use Rattle.shadow_kernels.specs.Rules.{Rule, spot_and_side}
use Rattle.mb_base.specs.declared.point.Corner.{Corner}
use Rattle.shadow_kernels.specs.declared.Edge.{Edge}
use Rattle.shadow_kernels.specs.Edges.{past, edge_meet, edge_ends, met_at}
use Rattle.shadow_kernels.specs.Counts.{shadow_of}
use Rattle.shadow_kernels.specs.Ends.{ends_same, ends_first, ends_second}

-- tests that were found equal are
beq_same : (a b : Bool) → beq a b ≡ true → a ≡ b
beq_same true true e = refl
beq_same true false e = absurd (cc)
beq_same false true e = absurd (cc)
beq_same false false e = refl

-- of two tests that were found different one holds where the other does not
beq_other : (a b : Bool) → beq a b ≡ false → b ≡ not a
beq_other true true e = absurd (cc)
beq_other true false e = refl
beq_other false true e = refl
beq_other false false e = absurd (cc)

-- of two ends whose tests were found different the vertex is past one and not past the other
pub first_alone : {a b s t : Bool} → a ≡ s → b ≡ t → beq a b ≡ false → a ≡ true → (s ≡ true) × (t ≡ false)
first_alone {a} {b} e f h is = let k = beq_other a b h in (sym e ∙ is, sym f ∙ k ∙ ap not is)

pub second_alone : {a b s t : Bool} → a ≡ s → b ≡ t → beq a b ≡ false → a ≡ false → (t ≡ true) × (s ≡ false)
second_alone {a} {b} e f h is = let k = beq_other a b h in (sym f ∙ k ∙ ap not is, sym e ∙ is)

module _ (e : Edge) (k : Rule) (w : Between) (v c d : Corner) where
  -- the tests at both ends answer alike
  pub at_neither : {a b : Bool} → a ≡ past e k v c → b ≡ past e k v d → beq a b ≡ true → None ≡ edge_meet e k w v c d
  at_neither {a} {b} f g h =
      let j = beq_same a b h in sym (edge_ends e k w v c d ∙ ends_same (past e k v c) (past e k v d) (spot_and_side k w e v c d) (spot_and_side k w e v d c) (cc))

  -- the vertex is past the first end alone, or past the second
  pub at_first : (past e k v c ≡ true) × (past e k v d ≡ false) → edge_meet e k w v c d ≡ Some (met_at (pos 1) (spot_and_side k w e v c d))
  at_first h = edge_ends e k w v c d ∙ ends_first (past e k v c) (past e k v d) (spot_and_side k w e v c d) (spot_and_side k w e v d c) h.0 h.1

  pub at_second : (past e k v d ≡ true) × (past e k v c ≡ false) → edge_meet e k w v c d ≡ Some (met_at (negsuc 0) (spot_and_side k w e v d c))
  at_second h = edge_ends e k w v c d ∙ ends_second (past e k v c) (past e k v d) (spot_and_side k w e v c d) (spot_and_side k w e v d c) h.1 h.0

-- such an answer as the code makes it
pub made_at : {n : ℤ} {s : Bool × Spot} {m : Meet} {o : Option Meet} → o ≡ Some (met_at n s) → m ≡ met_at n s → Some m ≡ o
made_at h made = ap (λ (x : Meet). Some x) made ∙ sym h

-- and its shadow
pub shadow_at : {n r : ℤ} {above : Bool} {o : Option Meet} (s : Bool × Spot) → o ≡ Some (met_at n s) → above ≡ s.0 → r ≡ (if above then n else pos 0) → r ≡ shadow_of o
shadow_at {n} s h same made = made ∙ ap (λ (u : Bool). if u then n else pos 0) same ∙ sym (ap shadow_of h)

-- an answer of equal count at an equal spot with an equal mark
pub at_spot : (n k : ℤ) (s z : Spot) (t u : Bool) → k ≡ n → z ≡ s → u ≡ t →
    ◌≡◌ {A = Option Meet} (Some (record { count = k; above = u; spot = z })) (Some (record { count = n; above = t; spot = s }))
at_spot n k s z t u e f g =
    ap (λ (i : ℤ). Some (record { count = i; above = u; spot = z })) e
    ∙ ap (λ (x : Spot). Some (record { count = n; above = u; spot = x })) f
    ∙ ap (λ (b : Bool). Some (record { count = n; above = b; spot = s })) g
