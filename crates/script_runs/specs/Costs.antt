-- The most sums that a script counts.
use Rattle.std.specs.Prelude.{ℕ, ◌+◌, List, [], ◌∷◌, Result, Ok, Err}
use Rattle.mb_base.specs.declared.kernel_kind.KernelKind.{KernelKind}
use Rattle.mb_base.specs.declared.op.Op.{Op}
use Rattle.mesh_boolean.specs.Operation.{first_side, second_side}
use Rattle.mesh_terms.specs.Limits.{Limits}
use Rattle.mesh_terms.specs.Meshes.{Mesh}
use Rattle.run_terms.specs.Files.{Bytes, Files}
use Rattle.run_terms.specs.Tasks.{Part, Refusal, Task, changed_all}
use Rattle.play_terms.specs.Commands.{ask_file}
use Rattle.play_terms.specs.Plays.{Meanings, Named, State, at_first, line_task, mesh_at, script_checked}
use Rattle.play_terms.specs.Scripts.{script}
use Rattle.play_terms.specs.Steps.{Combine, Combine2, Exact, Extrude, Inspect, Line, Load, Make, Measure, Move, Polygon, Remesh, Save, Step, Tidy}
use Rattle.winding.specs.Windings.{components_of}

-- an operation counts at most one for each connected component of its two reduced meshes
abbrev pub operation_cost : Op → Mesh → Mesh → ℕ
operation_cost op p q = components_of (first_side op p) + components_of (second_side q)

-- only operations on meshes count
abbrev pub step_cost : Step → Named → ℕ
step_cost (Load name file) named = 0
step_cost (Save name file) named = 0
step_cost (Measure name) named = 0
step_cost (Inspect name) named = 0
step_cost (Combine op name left right) named = operation_cost op (mesh_at named left) (mesh_at named right)
step_cost (Make name solid) named = 0
step_cost (Move name old motion) named = 0
step_cost (Tidy name old) named = 0
step_cost (Remesh name old) named = 0
step_cost (Polygon name ring) named = 0
step_cost (Combine2 op name left right) named = 0
step_cost (Extrude name old low high) named = 0
step_cost Exact named = 0

-- where there is no value nothing comes after
abbrev pub cost_of_value : {A : Type 0} → Result A Refusal → (A → ℕ) → ℕ
cost_of_value (Err why) later = 0
cost_of_value (Ok a) later = later a

-- what comes after a part, over the files as they are by then
abbrev pub cost_after : {A : Type 0} → Part A → Files → (A → Files → ℕ) → ℕ
cost_after p files later = cost_of_value p.result (λ a. later a (changed_all p.actions files))

-- tasks in order, each of which costs what it does for the value that the one before handed on
abbrev pub cost_in_order : {L A : Type 0} → (L → A → ℕ) → (L → A → Task A) → List L → A → Files → ℕ
cost_in_order cost task [] a files = 0
cost_in_order cost task (l ∷ ls) a files = cost l a + cost_after (task l a files) files (λ b now. cost_in_order cost task ls b now)

-- these lines of the script in order
abbrev pub lines_cost : (KernelKind → Meanings) → ℕ → Limits → Bytes → List Line → State → Files → ℕ
lines_cost means k limits script lines state files = cost_in_order (λ l s. step_cost l.1 s.named) (line_task means k limits script) lines state files

-- the text of a script of this name
abbrev pub text_cost : (KernelKind → Meanings) → ℕ → Limits → Bytes → Bytes → Files → ℕ
text_cost means k limits name text files = cost_of_value (script_checked name (script k text)) (λ lines. lines_cost means k limits name lines at_first files)

-- the script in the file of this name
abbrev pub script_cost : (KernelKind → Meanings) → ℕ → Limits → Bytes → Files → ℕ
script_cost means k limits name files = cost_after (ask_file limits name files) files (text_cost means k limits name)
