-- The fault that a reader answers beside the one that a definition gives.
use Rattle.std.specs.Prelude.{◌≡◌, Result, Err, IfSome}
use Rattle.mesh_terms.specs.Faults.{Fault}
use Rattle.mb_base.specs.Faults.{fault_of}
use Rattle.mb_base.specs.declared.fault.TextFault.{TextFault}

-- the fault is the one that the definition gives, or want of memory, of which a definition says nothing
abbrev pub IsFaultOf : {A : Type 0} → Result A Fault → TextFault → Type 0
IsFaultOf given e = IfSome (fault_of e) (λ f. given ≡ Err f)
