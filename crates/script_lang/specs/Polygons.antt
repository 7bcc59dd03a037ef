-- The places of a polygon as they are read: two numbers each, and the first fault of numbers.
use Rattle.std.specs.Prelude.{◌≡◌, ℕ, ℤ, List, [], ◌∷◌, Option, None, Some, IfSome}
use Rattle.mesh_terms.specs.Faults as faults
use Rattle.run_terms.specs.Files.{Bytes}
use Rattle.play_terms.specs.Operands.{number_of, number_fault, or_later}
use Rattle.script_lang.specs.Faults.{fault_of}
use Rattle.script_lang.specs.declared.fault.ScriptFault.{ScriptFault}

-- the numbers of two words
abbrev pub pair_of : ℕ → Bytes → Bytes → List ℤ
pair_of k x y = number_of k x ∷ number_of k y ∷ []

-- the first fault of two words as numbers
abbrev pub pair_fault : ℕ → Bytes → Bytes → Option ℕ
pair_fault k x y = or_later (number_fault k x) (number_fault k y)

-- the first fault of words as numbers
abbrev pub numbers_fault : ℕ → List Bytes → Option ℕ
numbers_fault k [] = None
numbers_fault k (w ∷ ws) = or_later (number_fault k w) (numbers_fault k ws)

-- the fault is of this line and of this kind, or memory was wanting
abbrev pub IsBadAs : ℕ → Option ℕ → ScriptFault → Type 0
IsBadAs line reason e = IfSome (fault_of e) (λ f. (kind : ℕ) × (reason ≡ Some kind) × (f ≡ faults.Bad line kind))
