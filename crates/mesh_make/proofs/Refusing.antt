-- Answers to reasons.
use Rattle.std.proofs.Common.{◌≡◌, ℕ, ℤ, Bool, List, subst, Result}
use Rattle.made_terms.specs.Refusals.{solid_fault}
use Rattle.mesh_terms.specs.Limits.{Limits}
use Rattle.mesh_make.specs.declared.fault.MakeFault.{MakeFault}
use Rattle.mesh_make.specs.Refused.{IsRefusedFor}

-- an answer that is right of a solid is right where its parts are known otherwise
pub same_refused : {X : Type 0} (limits : Limits) (flat known : Bool) (rows points : List (List ℤ)) (n : ℕ) (r : Result X MakeFault) → flat ≡ known →
    rows ≡ points → IsRefusedFor (solid_fault flat limits rows n) r →
    IsRefusedFor (solid_fault known limits points n) r
same_refused limits flat known rows points n r e f h = subst (λ b. IsRefusedFor (solid_fault b limits points n) r) e (subst (λ l. IsRefusedFor (solid_fault flat limits l n) r) f h)
