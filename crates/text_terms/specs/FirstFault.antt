-- Reading on until the first fault.
use Rattle.std.specs.Prelude.{ℕ, List, [], ◌∷◌, Result, Ok, Err}
use Rattle.mesh_terms.specs.Faults.{Fault, Bad}

-- go on where nothing is wrong
abbrev pub then_read : {A B : Type 0} → Result A Fault → (A → Result B Fault) → Result B Fault
then_read (Err e) go = Err e
then_read (Ok a) go = go a

-- line after line, until the first fault
abbrev pub read_each : {L S : Type 0} → (L → S → Result S Fault) → List L → S → Result S Fault
read_each line [] s = Ok s
read_each line (l ∷ ls) s = then_read (line l s) (λ t. read_each line ls t)

abbrev pub put_read : {Y E : Type 0} → Result Y E → Result (List Y) E → Result (List Y) E
put_read (Err e) r = Err e
put_read (Ok y) (Err e) = Err e
put_read (Ok y) (Ok ys) = Ok (y ∷ ys)

-- what each word reads as, or the fault of the first that has one
abbrev pub each_read : {X Y E : Type 0} → (X → Result Y E) → List X → Result (List Y) E
each_read f [] = Ok []
each_read f (x ∷ xs) = put_read (f x) (each_read f xs)

-- a fault of this kind on line n
abbrev pub on_line : {A : Type 0} → ℕ → Result A ℕ → Result A Fault
on_line n (Err kind) = Err (Bad n kind)
on_line n (Ok a) = Ok a
