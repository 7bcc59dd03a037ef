-- The names that the walks cite.
pub use Rattle.std.proofs.Common.{◌≡◌, ℕ, zero, suc, ◌+◌, ◌-◌, ◌^◌, ◌<◌, ◌≤◌, List, [], ◌∷◌, ◌++◌, length, take, drop, set, get_or, refl, sym, ap, subst, ◌∙◌, w32, w64, MutBor, arith}
pub use Rattle.std.proofs.raw_atomic.Walks.{proved, proved_at}
pub use Rattle.std.proofs.VecSteps.Shapes.{after}
pub use Rattle.std.proofs.alloc.Calls.{Goes-blank}
pub use Rattle.std_alloc.proofs.RcSteps.{Good, Ptr-Good}
pub use Rattle.std_alloc.proofs.RawLayout.{as_raw, as_written}
pub use seplogic.Ra.Ura.{Ura}
pub use base.Fraction.{full_share}
pub use base.Logic.{SProp, ent, sep, fst∗, never}
pub use base.Fml.{Lft, Share, Fml, ftrue, fsep, fat, froom, flft, fobs, fauth, fbor, fobor}
pub use mir.Syntax.{Ty, ty_ptr, named}
pub use mir.Val.{Val, vunit, vint, vptr, vstruct, vcons, vnil}
pub use prog.Wp.{WpFn}
pub use contract.Monad.{fact}
pub use contract.Running.{tables}
pub use types.Logic.{Logic, sem}
pub use types.Kit.{Item, Goal, Seq, Step, Soaks, step, ‵, raw, ◌⊛◌, some, prop, at_ret, ◌$◌, ◌∵◌, !, qed, done, move, keep, drop as leave, use1, use2, use3, split, split3, join, fsplit, fsplit3, fjoin, fjoin3, fpick, fpack, feq_i, feq_l, pick, rewrite, regoal, suffices, frame, group}
pub use types.Run.{enter, of_opd, unit_lit, addr, init, store, stop, fld, no_more, and_then, assigns_last, first, blocks, exec, returns}
pub use types.ByLocal.{alloc_all, pass_all, free_all, look_at, take_at, give_at, get, get_in, through, sets, sets_last, env}
pub use types.Part.{whole, sub, agg}
pub use types.SemTy.{Body}
pub use denote.RattleType.{RattleType, Valss, owns}
pub use denote.Builtin.{u32, usize, unit}
pub use denote.Exit.{yes}
pub use denote.Laws.{Is, shows, Typed}
pub use denote.Memory.{cell_at, part_at, lone, mem}
pub use denote.Plain.{uint_vals, uint_Tells}
pub use denote.RawPtr.{Ptr, RawPtr, block_ptr, null_ptr, ptr_val, in_a_block, rawptr_vals, rawptr_Tells}
pub use denote.Ref.{MutRef, ShrRef, mut_at, mut_vals, mut_Tells, shr_vals, shr_Tells}
pub use denote.Signature.{plain}
pub use denote.Steps.{nothing, owned, opens, closes, heard, peeks, only}
pub use denote.Struct.Struct.{Struct, within}
pub use denote.Struct.Owning.{shape}
pub use denote.Triple.Walked.{Stays, walk_of, says, stay_dropped, stay_ref, Goes-dropped, Goes-ref, ends_at}
