-- The commands of a script: the word of each, its operands, and its step.
use Rattle.std.specs.Prelude.{ℕ, ◌+◌, ◌-◌, ◌*◌, ◌/◌, ◌%◌, ◌==◌, Bool, ◌&&◌, nat_le, length, map, ℤ, List, [], ◌∷◌, ◌++◌, get_or, replicate, if◌then◌else◌, codes, bytes_eq, Option, Some, None, unwrap_or}
use Rattle.chain_terms.specs.Sums.{upto}
use Rattle.text_terms.specs.Numbers.{digits_value}
use Rattle.made_terms.specs.Solids.{point}
use Rattle.run_terms.specs.Files.{Bytes}
use Rattle.mb_base.specs.declared.op.Op.{Op}
use Rattle.mb_base.specs.declared.op.Op.TheVariants.{Union, Intersect, Subtract}
use Rattle.made_terms.specs.declared.motion.Motion.{Motion}
use Rattle.made_terms.specs.declared.motion.Motion.TheVariants.{Shift, Scale, Mirror, Turn}
use Rattle.made_terms.specs.declared.solid.Solid.{Solid}
use Rattle.made_terms.specs.declared.solid.Solid.TheVariants.{Box, Tetra, Prism, Lattice}
use Rattle.play_terms.specs.Operands.{Operand, NewName, OldMesh, OldOutline, FileName, Number, Within, Axis, axis, number_of}
use Rattle.play_terms.specs.Steps.{Step, Load, Save, Measure, Inspect, Combine, Make, Move, Tidy, Remesh, Polygon, Combine2, Extrude, Exact}

-- a command: its word, what words stand after it where they are so many, and the step of such words under so many digits
pub record ScriptCommand : Type 0 where
  pub word : Bytes
  pub operands : ℕ → List Operand
  pub step : ℕ → List Bytes → Step

-- the word at a place
abbrev pub at : List Bytes → ℕ → Bytes
at ws i = get_or ws i []

-- the number at a place under k digits
abbrev pub number_at : ℕ → List Bytes → ℕ → ℤ
number_at k ws i = number_of k (at ws i)

-- the point of three numbers
abbrev pub point_at : ℕ → List Bytes → ℕ → List ℤ
point_at k ws i = point (number_at k ws i) (number_at k ws (i + 1)) (number_at k ws (i + 2))

-- the whole number at a place
abbrev pub whole_at : List Bytes → ℕ → ℕ
whole_at ws i = digits_value (at ws i)

abbrev pub axis_at : List Bytes → ℕ → ℕ
axis_at ws i = unwrap_or (axis (at ws i)) 0

abbrev pub load : ScriptCommand
load = record { word = codes "load"; operands = λ n. NewName ∷ FileName ∷ []; step = λ k ws. Load (at ws 0) (at ws 1) }

abbrev pub save : ScriptCommand
save = record { word = codes "save"; operands = λ n. OldMesh ∷ FileName ∷ []; step = λ k ws. Save (at ws 0) (at ws 1) }

abbrev pub measure : ScriptCommand
measure = record { word = codes "measure"; operands = λ n. OldMesh ∷ []; step = λ k ws. Measure (at ws 0) }

abbrev pub inspect : ScriptCommand
inspect = record { word = codes "inspect"; operands = λ n. OldMesh ∷ []; step = λ k ws. Inspect (at ws 0) }

-- the word of an operation
abbrev pub op_word : Op → Bytes
op_word Union = codes "union"
op_word Intersect = codes "intersect"
op_word Subtract = codes "subtract"

abbrev pub combine : Op → ScriptCommand
combine op = record { word = op_word op; operands = λ n. NewName ∷ OldMesh ∷ OldMesh ∷ []; step = λ k ws. Combine op (at ws 0) (at ws 1) (at ws 2) }

abbrev pub tidy : ScriptCommand
tidy = record { word = codes "tidy"; operands = λ n. NewName ∷ OldMesh ∷ []; step = λ k ws. Tidy (at ws 0) (at ws 1) }

abbrev pub remesh : ScriptCommand
remesh = record { word = codes "remesh"; operands = λ n. NewName ∷ OldMesh ∷ []; step = λ k ws. Remesh (at ws 0) (at ws 1) }

-- so many words are a name and from 3 to 64 pairs of numbers
abbrev pub are_pairs : ℕ → Bool
are_pairs n = nat_le 7 n && nat_le n 129 && (n % 2 == 1)

-- so many numbers stand after the name of a polygon: three pairs are asked for where the words are no such
abbrev pub ring_numbers : ℕ → ℕ
ring_numbers n = if are_pairs n then n - 1 else 6

-- the numbers at a place and after it
abbrev pub pair_at : ℕ → List Bytes → ℕ → List ℤ
pair_at k ws i = number_at k ws i ∷ number_at k ws (i + 1) ∷ []

-- the pairs of numbers after the name
abbrev pub ring_at : ℕ → List Bytes → List (List ℤ)
ring_at k ws = map (λ i. pair_at k ws (2 * i + 1)) (upto ((length ws - 1) / 2))

abbrev pub polygon : ScriptCommand
polygon = record { word = codes "polygon"; operands = λ n. NewName ∷ replicate (ring_numbers n) Number; step = λ k ws. Polygon (at ws 0) (ring_at k ws) }

-- the word of an operation on outlines
abbrev pub op2_word : Op → Bytes
op2_word Union = codes "union2"
op2_word Intersect = codes "intersect2"
op2_word Subtract = codes "subtract2"

abbrev pub combine2 : Op → ScriptCommand
combine2 op = record { word = op2_word op; operands = λ n. NewName ∷ OldOutline ∷ OldOutline ∷ []; step = λ k ws. Combine2 op (at ws 0) (at ws 1) (at ws 2) }

-- a low height and a high one
abbrev pub extrude : ScriptCommand
extrude = record {
  word = codes "extrude";
  operands = λ n. NewName ∷ OldOutline ∷ Number ∷ Number ∷ [];
  step = λ k ws. Extrude (at ws 0) (at ws 1) (number_at k ws 2) (number_at k ws 3);
}

abbrev pub exact : ScriptCommand
exact = record { word = codes "exact"; operands = λ n. []; step = λ k ws. Exact }

-- a command that makes a solid
abbrev pub making : Bytes → List Operand → (ℕ → List Bytes → Solid) → ScriptCommand
making word operands solid = record { word = word; operands = λ n. NewName ∷ operands; step = λ k ws. Make (at ws 0) (solid k ws) }

-- the two corners of a box
abbrev pub box : ScriptCommand
box = making (codes "box") (replicate 6 Number) (λ k ws. Box (point_at k ws 1) (point_at k ws 4))

-- a corner, and a size
abbrev pub tetra : ScriptCommand
tetra = making (codes "tetra") (replicate 4 Number) (λ k ws. Tetra (point_at k ws 1) (number_at k ws 4))

-- a corner, a size and a height
abbrev pub prism : ScriptCommand
prism = making (codes "prism") (replicate 5 Number) (λ k ws. Prism (point_at k ws 1) (number_at k ws 4) (number_at k ws 5))

-- the boxes along each axis, and a seed
abbrev pub lattice : ScriptCommand
lattice = making (codes "lattice") (Within 1 60 ∷ Within 0 999999 ∷ []) (λ k ws. Lattice (whole_at ws 1) (whole_at ws 2))

-- a command that moves a mesh
abbrev pub moving : Bytes → List Operand → (ℕ → List Bytes → Motion) → ScriptCommand
moving word operands motion = record { word = word; operands = λ n. NewName ∷ OldMesh ∷ operands; step = λ k ws. Move (at ws 0) (at ws 1) (motion k ws) }

abbrev pub shift : ScriptCommand
shift = moving (codes "shift") (replicate 3 Number) (λ k ws. Shift (point_at k ws 2))

abbrev pub scale : ScriptCommand
scale = moving (codes "scale") (Within 1 1000000 ∷ []) (λ k ws. Scale (whole_at ws 2))

abbrev pub mirror : ScriptCommand
mirror = moving (codes "mirror") (Axis ∷ []) (λ k ws. Mirror (axis_at ws 2))

abbrev pub turn : ScriptCommand
turn = moving (codes "turn") (Axis ∷ []) (λ k ws. Turn (axis_at ws 2))

-- those that make a solid
abbrev pub solids : List ScriptCommand
solids = box ∷ tetra ∷ prism ∷ lattice ∷ []

-- those that move a mesh
abbrev pub motions : List ScriptCommand
motions = shift ∷ scale ∷ mirror ∷ turn ∷ []

-- those of outlines
abbrev pub outlines : List ScriptCommand
outlines = polygon ∷ combine2 Union ∷ combine2 Intersect ∷ combine2 Subtract ∷ extrude ∷ []

abbrev pub commands : List ScriptCommand
commands =
    load ∷ save ∷ measure ∷ inspect ∷ combine Union ∷ combine Intersect ∷ combine Subtract ∷ tidy ∷ remesh ∷ exact ∷
    (solids ++ (motions ++ outlines))

-- the first of some commands whose word is this
abbrev pub named_in : List ScriptCommand → Bytes → Option ScriptCommand
named_in [] w = None
named_in (c ∷ cs) w = if bytes_eq w c.word then Some c else named_in cs w

abbrev pub command_named : Bytes → Option ScriptCommand
command_named w = named_in commands w
