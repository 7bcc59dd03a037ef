-- Remeshed meshes that are within the limits, or refused.
use Rattle.std.proofs.Common.{◌≡◌, ℕ, Bool, true, false, Option, Some, None, Result, Ok, Err, refl, subst}
use Rattle.std.specs.Prelude.{nat_lt, length, if◌then◌else◌}
use Rattle.made_terms.specs.Refusals.{Exceeds, MadeFault, excess}
use Rattle.mesh_terms.specs.Faults.{Points, Triangles}
use Rattle.mesh_terms.specs.Limits.{Limits}
use Rattle.mb_outside.specs.Seen.{OnOutput, OutputMeets}
use Rattle.play_laws.proofs.Tasks.{meets_given}
use Rattle.play_terms.specs.Combined.{Remeshed}
use Rattle.play_terms.specs.Commands.{say_line}
use Rattle.play_terms.specs.Plays.{within_remeshed}
use Rattle.play_terms.specs.ScriptLines.{remesh_line}
use Rattle.run_terms.specs.Files.{Bytes}
use Rattle.run_terms.specs.Meets.{Why}
use Rattle.run_terms.specs.Tasks.{PastLimit, Refusal}
use Rattle.script_runs.proofs.Stages.{Ends}

-- what two counts exceed, and what is given then
abbrev excess_by : Bool → Bool → ℕ → ℕ → Option MadeFault
excess_by b c points triangles = if b then Some (Exceeds Points points) else if c then Some (Exceeds Triangles triangles) else None

abbrev given_by : Bool → Bool → ℕ → ℕ → Remeshed → Result Remeshed Refusal
given_by b c points triangles r = if b then Err (PastLimit Points points) else if c then Err (PastLimit Triangles triangles) else Ok r

module _ (limits : Limits) (r : Remeshed) where
  abbrev many : ℕ
  many = length r.mesh.points

  abbrev filling : ℕ
  filling = length r.mesh.triples

  -- what exceeds nothing is given
  pub is_remeshed : excess limits many filling ≡ None → Ends (within_remeshed limits r) (Ok r)
  is_remeshed none now = meets_given (within_remeshed limits r) r now (by (nat_lt limits.points many) (nat_lt limits.triangles filling) many filling none)
    where
      by : (b c : Bool) (points triangles : ℕ) → excess_by b c points triangles ≡ None → given_by b c points triangles r ≡ Ok r
      by true c points triangles e = absurd (cc)
      by false true points triangles e = absurd (cc)
      by false false points triangles e = refl

-- a line with these numbers is that with their equals
pub remeshed_as : (name old : Bytes) (planes kept : ℕ) (r : Remeshed) (out told : OnOutput) (ended : Result (Unit {0}) Why) →
    planes ≡ r.planes → kept ≡ r.kept → OutputMeets (say_line (remesh_line name old planes kept)) out told ended
    → OutputMeets (say_line (remesh_line name old r.planes r.kept)) out told ended
remeshed_as name old planes kept r out told ended planes_are kept_are met =
    let P : ℕ × ℕ → Type 0 = λ n. OutputMeets (say_line (remesh_line name old n.0 n.1)) out told ended in
    let same : (planes, kept) ≡ (r.planes, r.kept) = λ i. (planes_are i, kept_are i) in
    subst P same met
