-- Meshes that are made or moved, or why they are not.
use Rattle.std.proofs.Common.{◌≡◌, ℕ, Option, Some, None, Ok, Err, inl, inr, refl, ap, sym, subst}
use Rattle.made_terms.specs.Refusals.{MadeFault, Flat, Outside, Exceeds}
use Rattle.mb_base.specs.Faults.{counted_of}
use Rattle.mesh_make.specs.Refused.{IsRefusedFor, counted, fault}
use Rattle.mesh_make.specs.declared.fault.MakeFault.{MakeFault}
use Rattle.mesh_make.specs.declared.fault.MakeFault.TheVariants.{NoMemory}
use Rattle.mesh_terms.specs.Faults as terms
use Rattle.mesh_terms.specs.Meshes.{Mesh}
use Rattle.play_laws.proofs.Tasks.{meets_given, meets_refused, meets_starved, meets_stop, meets_then}
use Rattle.run_terms.specs.Files.{Bytes}
use Rattle.run_terms.specs.Meets.{Meets, Refused, Seen}
use Rattle.run_terms.specs.Tasks.{PastLimit, Task, give, then_task}
use Rattle.made_terms.specs.Motions.{motion_fault, moved_mesh}
use Rattle.made_terms.specs.declared.motion.Motion.{Motion}
use Rattle.play_terms.specs.Plays.{Named, made, made_refusal, mesh_at, move_task, with_name}
use Rattle.script_runs.specs.Made.{why_unmade}

-- what is counted stays the same
same_counted : (what : terms.Counted) → counted_of (counted what) ≡ what
same_counted terms.FileBytes = refl
same_counted terms.Points = refl
same_counted terms.Triangles = refl
same_counted terms.Halfedges = refl

-- the answer of a reason is told as the reason is
told : (script : Bytes) (line : ℕ) (why : MadeFault) → why_unmade script line (fault why) ≡ Refused (made_refusal script line why)
told script line Flat = refl
told script line Outside = refl
told script line (Exceeds what seen) = ap (λ w. Refused (PastLimit w seen)) (same_counted what)

module _ (script : Bytes) (line : ℕ) (name : Bytes) (mesh : Mesh) (named : Named) where
  -- a name gets the mesh, where there is no reason against it
  abbrev giving : Option MadeFault → Task Named
  giving reason = then_task (give (made script line reason mesh)) (λ m. give (Ok (with_name name m named)))

  pub unmade : (X : Type 0) (reason : Option MadeFault) (e : MakeFault) → IsRefusedFor {X = X} reason (Err e) → (now : Seen)
      → Meets (giving reason) now now (Err (why_unmade script line e))
  unmade X (Some why) e is now =
      let same : e ≡ fault why = cc in
      let refusal = made_refusal script line why in
      let stopped = meets_stop (give (made script line (Some why) mesh)) (λ m. give (Ok (with_name name m named))) (Refused refusal) now now
      (meets_refused (Err refusal) refusal now refl) in
      rw (same, told script line why) stopped
  unmade X None e (inl done) now = absurd (cc)
  unmade X None e (inr is) now =
      let same : e ≡ NoMemory = cc in
      rw same (meets_starved (giving None) now)

  pub made_so : {X : Type 0} (reason : Option MadeFault) (x : X) → IsRefusedFor reason (Ok x) → (after : Named) → after ≡ with_name name mesh named → (now : Seen)
      → Meets (giving reason) now now (Ok after)
  made_so (Some why) x is after same now = absurd (cc)
  made_so None x is after same now =
      rw same
      (meets_then (give (Ok mesh)) (λ m. give (Ok (with_name name m named))) mesh (Ok (with_name name mesh named)) now now now
      (meets_given (Ok mesh) mesh now refl) (meets_given (Ok (with_name name mesh named)) (with_name name mesh named) now refl))

-- the mesh of a name, which is this one, after a motion
module _ (script : Bytes) (line : ℕ) (name old : Bytes) (motion : Motion) (named : Named) (m : Mesh) (is : mesh_at named old ≡ m) where
  pub unmoved : (X : Type 0) (e : MakeFault) → IsRefusedFor {X = X} (motion_fault motion m.points) (Err e) → (now : Seen)
      → Meets (move_task script line name old motion named) now now (Err (why_unmade script line e))
  unmoved X e why now =
      let P : Mesh → Type 0 = λ n. IsRefusedFor {X = X} (motion_fault motion n.points) (Err e) in
      unmade script line name (moved_mesh motion (mesh_at named old)) named X (motion_fault motion (mesh_at named old).points) e (subst P (sym is) why) now

  pub moved_so : {X : Type 0} (x : X) → IsRefusedFor (motion_fault motion m.points) (Ok x) → (after : Named) → after ≡ with_name name (moved_mesh motion m) named → (now : Seen)
      → Meets (move_task script line name old motion named) now now (Ok after)
  moved_so x why after same now =
      let P : Mesh → Type 0 = λ n. Meets
      (then_task (give (made script line (motion_fault motion n.points) (moved_mesh motion n))) (λ m. give (Ok (with_name name m named)))) now now (Ok after) in
      subst P (sym is) (made_so script line name (moved_mesh motion m) named (motion_fault motion m.points) x why after same now)
