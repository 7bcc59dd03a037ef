-- The fault that the reader answers beside the one that the definition gives.
use Rattle.std.specs.Prelude.{◌≡◌, Option, Some, None, Result, Err, IfSome}
use Rattle.mesh_terms.specs.Faults as faults
use Rattle.mesh_terms.specs.Faults.{Fault}
use Rattle.script_lang.specs.declared.fault.ScriptFault.{ScriptFault}
use Rattle.script_lang.specs.declared.fault.ScriptFault.TheVariants.{Bad, NoMemory}

-- the fault of the script; want of memory is none
abbrev pub fault_of : ScriptFault → Option Fault
fault_of (Bad line kind) = Some (faults.Bad line kind)
fault_of NoMemory = None

-- the fault is the one that the definition gives, or want of memory, of which a definition says nothing
abbrev pub IsFaultOf : {A : Type 0} → Result A Fault → ScriptFault → Type 0
IsFaultOf given e = IfSome (fault_of e) (λ f. given ≡ Err f)
