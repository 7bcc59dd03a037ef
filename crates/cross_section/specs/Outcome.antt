-- What an operation on two outlines gives, and when it is refused.
use Rattle.std.specs.Prelude.{◌⊎◌, ℕ, ◌+◌, ℤ, nat_lt, min, if◌then◌else◌, Option, Some, None, Result, IsOk, IsErrOf}
use Rattle.mesh_terms.specs.Limits.{Limits}
use Rattle.mb_base.specs.declared.fault.Counted.TheVariants.{Points}
use Rattle.mb_base.specs.declared.op.Op.{Op}
use Rattle.face_loops.specs.Segments.{IsOneToOne}
use Rattle.outline_pair_terms.specs.Lists.{copy_count, flat_copies, flat_segments, hits_prescribed, outline_of, p_prescribed, q_prescribed}
use Rattle.outline_pair_terms.specs.Numbers.{FlatNumbers}
use Rattle.outline_terms.specs.Outlines.{IsOutline, Outline, most_vertices}
use Rattle.cross_section.specs.declared.fault.OutlineFault.{OutlineFault}
use Rattle.cross_section.specs.declared.fault.OutlineFault.TheVariants.{NoMemory, Over}

-- an outline, how many copies of P's and of Q's vertices it has, and how many of crossings
pub record Outcome : Type 0 where
  pub outline : Outline
  pub p_kept : ℕ
  pub q_kept : ℕ
  pub crossings : ℕ

-- the outcome of an operation with these numbers
abbrev pub outcome_of : Op → Outline → Outline → FlatNumbers → Outcome
outcome_of op p q n =
    record {
      outline = outline_of p q (flat_copies op p q n);
      p_kept = copy_count (p_prescribed op p n);
      q_kept = copy_count (q_prescribed op q n);
      crossings = copy_count (hits_prescribed op n);
    }

-- the segments form loops, and these and the copies' points are an outline
pub record GivesOutline (op : Op) (p q : Outline) (n : FlatNumbers) : Type 0 where
  pub once : IsOneToOne (flat_segments p q (flat_copies op p q n))
  pub outline : IsOutline (outline_of p q (flat_copies op p q n))

-- too many vertices for the limit on points, or for an outline
abbrev pub outcome_fault : Limits → Outcome → Option OutlineFault
outcome_fault limits o = let seen = o.p_kept + o.q_kept + o.crossings in if nat_lt (min limits.points most_vertices) seen then Some (Over Points seen) else None

-- where there is a reason it is the answer, and otherwise all is done; or memory is wanting
abbrev pub IsRefusedFor : {X : Type 0} → Option OutlineFault → Result X OutlineFault → Type 0
IsRefusedFor (Some why) r = IsErrOf r why ⊎ IsErrOf r NoMemory
IsRefusedFor None r = IsOk r ⊎ IsErrOf r NoMemory
