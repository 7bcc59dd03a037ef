-- Solids of outlines, or why they are not made.
use Rattle.std.proofs.Common.{◌≡◌, ℕ, ℤ, Bool, true, false, Option, Some, None, Result, Ok, inl, inr, refl, subst}
use Rattle.std.specs.Prelude.{int_le, nat_lt, length, if◌then◌else◌}
use Rattle.std.specs.Option.{option_map}
use Rattle.cross_section.specs.Extruded as extrusion
use Rattle.cross_section.specs.declared.extrusion.fault.ExtrudeFault.{ExtrudeFault}
use Rattle.cross_section.specs.declared.extrusion.fault.ExtrudeFault.TheVariants.{FlatSolid, NoMemory, Over}
use Rattle.made_terms.specs.Refusals.{MadeFault, Exceeds, Flat}
use Rattle.mb_base.specs.Faults.{counted_of}
use Rattle.mb_base.specs.declared.fault.Counted.TheVariants as counts
use Rattle.mesh_terms.specs.Faults as faults
use Rattle.mesh_terms.specs.Limits.{Limits}
use Rattle.mb_outside.specs.Seen.{OnOutput, OutputMeets}
use Rattle.outline_terms.specs.Outlines.{Outline}
use Rattle.play_laws.proofs.Tasks.{meets_given}
use Rattle.play_terms.specs.Combined.{Extruded}
use Rattle.play_terms.specs.Commands.{say_line}
use Rattle.play_terms.specs.Plays.{extruded, extrusion_fault}
use Rattle.play_terms.specs.ScriptLines.{extrude_line}
use Rattle.run_terms.specs.Files.{Bytes}
use Rattle.run_terms.specs.Meets.{Meets, Seen, Why}
use Rattle.run_terms.specs.Tasks.{Refusal, give}
use Rattle.script_runs.specs.Made.{solid_of}
use Rattle.script_runs.proofs.Stages.{Ends}

-- the fault of an extrusion, as a play has it
abbrev made_of : ExtrudeFault → MadeFault
made_of FlatSolid = Flat
made_of (Over what seen) = Exceeds (counted_of what) seen
made_of NoMemory = Flat

same_fault : (limits : Limits) (o : Outline) (low high : ℤ) →
    extrusion_fault limits low high (extrusion.extruded o low high) ≡ option_map made_of (extrusion.extrusion_fault limits o low high)
same_fault limits o low high =
    let m = extrusion.extruded o low high in by (int_le high low) (nat_lt limits.points (length m.points))
    (nat_lt limits.triangles (length m.triples)) (length m.points) (length m.triples)
  where
    by : (a b c : Bool) (points triangles : ℕ)
        → (if a then Some Flat else (if b then Some (Exceeds faults.Points points) else if c then Some (Exceeds faults.Triangles triangles) else None))
        ≡ option_map made_of
        (extrusion.first_reason (if a then Some FlatSolid else (if b then Some (Over counts.Points points) else None))
        (if c then Some (Over counts.Triangles triangles) else None))
    by true b c points triangles = refl
    by false true c points triangles = refl
    by false false true points triangles = refl
    by false false false points triangles = refl

-- a solid of an outline is refused, or not, or ended otherwise
abbrev pub solid_given : Limits → Bytes → ℕ → ℤ → ℤ → Extruded → Result Extruded Refusal
solid_given limits script line low high e = extruded script line (extrusion_fault limits low high e.mesh) e

abbrev pub Extrudes : Limits → Bytes → ℕ → ℤ → ℤ → Extruded → Result Extruded Why → Type 0
Extrudes limits script line low high e r = Ends (solid_given limits script line low high e) r

module _ (limits : Limits) (script : Bytes) (line : ℕ) (o : Outline) (low high : ℤ) where
  pub is_extruded : {X : Type 0} (x : X) → extrusion.IsRefusedFor (extrusion.extrusion_fault limits o low high) (Ok x) →
      Extrudes limits script line low high (solid_of o low high) (Ok (solid_of o low high))
  is_extruded {X} x is now = by (extrusion.extrusion_fault limits o low high) (extrusion_fault limits low high (extrusion.extruded o low high)) (same_fault limits o low high) is
    where
      by : (reason : Option ExtrudeFault) (fault : Option MadeFault) → fault ≡ option_map made_of reason → extrusion.IsRefusedFor {X = X} reason (Ok x)
          → Meets (give (extruded script line fault (solid_of o low high))) now now (Ok (solid_of o low high))
      by (Some why) fault same (inl is) = absurd (cc)
      by (Some why) fault same (inr is) = absurd (cc)
      by None fault same is = rw same (meets_given (Ok (solid_of o low high)) (solid_of o low high) now refl)

-- a line with this number is that with its equal
pub forced_as : (name old : Bytes) (forced other : ℕ) (out told : OnOutput) (r : Result (Unit {0}) Why) →
    forced ≡ other → OutputMeets (say_line (extrude_line name old forced)) out told r
    → OutputMeets (say_line (extrude_line name old other)) out told r
forced_as name old forced other out told r same met = let P : ℕ → Type 0 = λ n. OutputMeets (say_line (extrude_line name old n)) out told r in subst P same met
