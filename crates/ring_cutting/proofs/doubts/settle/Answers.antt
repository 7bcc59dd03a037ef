use Rattle.std.proofs.Common.{◌≡◌, ℕ, List, ◌∷◌, ◌++◌, [], ◌<◌, length, get_or, set, sym, ap, inr, ◌∙◌, arith}
use Rattle.std.proofs.lemmas.List.{get_or_default}
use Rattle.ring_cutting.specs.Left.{after_of, before_of, IsBlocked}
use Rattle.ring_cutting.proofs.Linking.{low}
use Rattle.ring_cutting.proofs.Waiting.{waits_now, waits_still}
use Rattle.ring_cutting.proofs.Doubting.{refuses, clear_ear}
use Rattle.ring_cutting.proofs.doubts.settle.Goals.{In_ok-push-in-Some}
use Rattle.ring_cutting.proofs.doubts.settle.Goals as goal

within : (c : In_ok-push-in-Some) → c.in-Some.w < length c.args.waiting.now.items
within c =
    let links = c.args.links.now in
    omega (
      arith,
      low (length c.args.places.now) links.after.items links.before.items links.living.items c.in-Some.w c.requires.linked
          c.in-Some.ensures.some,
      c.requires.many,
    )

written : (c : In_ok-push-in-Some) → c.push.new.self ≡ get_or c.args.waiting.now.items c.in-Some.w [] ++ c.args.i ∷ []
written c =
    c.in_ok-push-in-Some.ensures
    ∙ ap (λ (l : List ℕ). l ++ c.args.i ∷ []) (c.index_mut.ensures.value ∙ get_or_default c.args.waiting.now.items c.in-Some.w _ [] (within c))

blocked : (c : In_ok-push-in-Some) →
    IsBlocked c.args.places.now c.args.links.now.living.items (before_of c.args.links.now.before.items c.args.i) c.args.i
    (after_of c.args.links.now.after.items c.args.i)
    (set c.args.waiting.now.items c.in-Some.w c.push.new.self)
blocked c = record {
  number = c.in-Some.w;
  living = c.in-Some.ensures.some;
  blocks = c.in-Some.ensures.blocks;
  waits =
      waits_now c.args.waiting.now.items (set c.args.waiting.now.items c.in-Some.w c.push.new.self) c.in-Some.w c.args.i (within c)
      (ap (set c.args.waiting.now.items c.in-Some.w) (written c));
}

pub returns-in_ok-push-in-Some-clause-kept : goal.returns-in_ok-push-in-Some-clause-kept
returns-in_ok-push-in-Some-clause-kept c =
    waits_still c.args.waiting.now.items (set c.args.waiting.now.items c.in-Some.w c.push.new.self) c.in-Some.w c.args.i (within c)
    (ap (set c.args.waiting.now.items c.in-Some.w) (written c))

pub returns-in_ok-push-in-Some-clause-ear : goal.returns-in_ok-push-in-Some-clause-ear
returns-in_ok-push-in-Some-clause-ear c =
    let links = c.args.links.now in
    sym (refuses c.args.places.now links.living.items (before_of links.before.items c.args.i) c.args.i (after_of links.after.items c.args.i)
    (set c.args.waiting.now.items c.in-Some.w c.push.new.self) c.requires.linked.living_long (inr (blocked c)))

pub returns-in_ok-push-in-Some-clause-reason : goal.returns-in_ok-push-in-Some-clause-reason
returns-in_ok-push-in-Some-clause-reason c = λ e. inr (blocked c)

pub returns-in-None-clause-ear : goal.returns-in-None-clause-ear
returns-in-None-clause-ear c =
    let links = c.args.links.now in
    sym (clear_ear c.args.places.now links.living.items (before_of links.before.items c.args.i) c.args.i (after_of links.after.items c.args.i)
    (sym c.is_open.ensures ∙ c.if-not-is_open.false) c.in-None.ensures.none)
