-- A step of a script met its task where the call that does it did, whose words are equal to the step's.
use Rattle.std.proofs.Common.{◌≡◌, ◌∙◌, ◌+◌, ◌≤◌, ℕ, ℤ, List, Result, ap, subst, sym}
use Rattle.mb_base.specs.declared.op.Op.{Op}
use Rattle.mesh_terms.specs.Limits.{Limits}
use Rattle.mesh_terms.specs.Meshes.{Mesh}
use Rattle.run_terms.specs.Files.{Bytes}
use Rattle.run_terms.specs.Meets.{Meets, Seen, Why}
use Rattle.play_terms.specs.Plays.{Meanings, Named, step_task}
use Rattle.made_terms.specs.declared.motion.Motion.{Motion}
use Rattle.made_terms.specs.declared.solid.Solid.{Solid}
use Rattle.made_terms.specs.declared.solid.Solid.TheVariants.{Prism}
use Rattle.play_terms.specs.Steps.{Extrude, Make, Move, Polygon, Step}
use Rattle.script_runs.specs.Costs.{operation_cost, step_cost}

pub stepped : (means : Meanings) (k : ℕ) (limits : Limits) (script : Bytes) (line : ℕ) (named : Named) {before now : Seen} {r : Result Named Why} {step other : Step} →
    step ≡ other → Meets (step_task means k limits script line other named) before now r → Meets (step_task means k limits script line step named) before now r
stepped means k limits script line named {before} {now} {r} same met = subst (λ s. Meets (step_task means k limits script line s named) before now r) (sym same) met

-- what a step counts is what its equal does
pub counted : (named : Named) (old : ℕ) {new : ℕ} {step other : Step} → step ≡ other → new ≤ old + step_cost other named → new ≤ old + step_cost step named
counted named old {new} same most = subst (λ s. new ≤ old + step_cost s named) (sym same) most

-- what an operation on the meshes of two names counts is what it counts on these meshes
pub combined : (op : Op) (left right p q : Mesh) (old new : ℕ) → left ≡ p → right ≡ q → new ≤ old + operation_cost op p q → new ≤ old + operation_cost op left right
combined op left right p q old new is_p is_q most =
    subst (λ m. new ≤ old + operation_cost op m right) (sym is_p) (subst (λ m. new ≤ old + operation_cost op p m) (sym is_q) most)

-- a step of some words is that of their equals: of one, of two, of an operation and three
pub with_one : (F : Bytes → Step) {step : Step} {name n : Bytes} → step ≡ F name → n ≡ name → step ≡ F n
with_one F is same = is ∙ ap F (sym same)

pub with_two : (F : Bytes → Bytes → Step) {step : Step} {one other m n : Bytes} → step ≡ F one other → m ≡ one → n ≡ other → step ≡ F m n
with_two F is first second = is ∙ sym (λ i. F (first i) (second i))

pub with_words : (F : Op → Bytes → Bytes → Bytes → Step) {step : Step} {op o : Op} {name left right n l r : Bytes} → step ≡ F op name left right → o ≡ op →
    n ≡ name → l ≡ left → r ≡ right → step ≡ F o n l r
with_words F is by named first second = is ∙ sym (λ i. F (by i) (named i) (first i) (second i))

-- of a solid, a motion, an outline of places, and a solid between two heights
pub made_with : {step : Step} {solid s : Solid} {name n : Bytes} → step ≡ Make name solid → n ≡ name → s ≡ solid → step ≡ Make n s
made_with is named same = is ∙ sym (λ i. Make (named i) (same i))

pub moved_with : {step : Step} {motion : Motion} {name old n o : Bytes} → step ≡ Move name old motion → n ≡ name → o ≡ old → step ≡ Move n o motion
moved_with {motion = motion} is named from = is ∙ sym (λ i. Move (named i) (from i) motion)

pub drawn_with : {step : Step} {name n : Bytes} {ring r : List (List ℤ)} → step ≡ Polygon name ring → n ≡ name → r ≡ ring → step ≡ Polygon n r
drawn_with is named places = is ∙ sym (λ i. Polygon (named i) (places i))

pub between_with : {step : Step} {name old n o : Bytes} {low high l h : ℤ} → step ≡ Extrude name old low high → n ≡ name → o ≡ old → l ≡ low → h ≡ high →
    step ≡ Extrude n o l h
between_with is named from is_low is_high = is ∙ sym (λ i. Extrude (named i) (from i) (is_low i) (is_high i))

-- a prism of sizes is that of their equals
pub same_prism : (corner : List ℤ) {size height s h : ℤ} → s ≡ size → h ≡ height → Prism corner s h ≡ Prism corner size height
same_prism corner one other = λ i. Prism corner (one i) (other i)
