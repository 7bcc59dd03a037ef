use Rattle.std.proofs.Common.{ℕ, ◌<◌, ◌≡◌, ◌+◌, ◌-◌, ◌==◌, List, [], ◌∷◌, ◌++◌, true, cond, length, get_or}
use Rattle.std.proofs.Common.{length-append, ap, refl, ◌∙◌, arith}
use Rattle.std.proofs.lemmas.Bool.{eq-eqb, ne_eqb}
use Rattle.std.proofs.lemmas.List.{get_or_append_left, get_or_at}
use borrow.Author.Count.{below_more}
use Rattle.ring_cutting.proofs.links.linked.Goals.{then-i-len, else-i-len, then-i-eq0, else-i-eq0}
use Rattle.ring_cutting.proofs.links.linked.Goals as goal

-- one more is written, by the same rule
written : {X : Type 0} (xs ys : List X) (d v : X) (f : ℕ → X) (n : ℕ) → ys ≡ xs ++ v ∷ [] → length xs ≡ n → v ≡ f n →
    ((k : ℕ) → k < n → get_or xs k d ≡ f k) → (k : ℕ) → k < n + 1 → get_or ys k d ≡ f k
written xs ys d v f n e many here before =
    below_more (λ k. get_or ys k d ≡ f k) n
    (λ k l. ap (λ zs. get_or zs k d) e ∙ get_or_append_left xs (v ∷ []) d k (omega (arith, l, many)) ∙ before k l)
    (ap (λ zs. get_or zs n d) e ∙ get_or_at xs v [] d n many ∙ here)

longer : {X : Type 0} (xs ys : List X) (v : X) (n : ℕ) → ys ≡ xs ++ v ∷ [] → length xs ≡ n → length ys ≡ n + 1
longer xs ys v n e many = omega (arith, ap length e, length-append xs (v ∷ []), many)

cond_true : (a b x y : ℕ) → a ≡ b → x ≡ cond (a == b) x y
cond_true a b x y e = rw (eq-eqb a b e) refl

cond_false : (a b x y : ℕ) → (a ≡ b → ⊥) → y ≡ cond (a == b) x y
cond_false a b x y n = rw (ne_eqb a b n) refl

pub loop-i-preserved : goal.loop-i-preserved
loop-i-preserved c =
    let i = c.loop-i.i in
    let len = c.args.len in
    let h = c.loop-i.invariant in
    let next : c.if-i-len.push ≡ cond (i + 1 == len) 0 (i + 1) = elim c.if-i-len.branch as (λ _. c.if-i-len.push ≡ cond (i + 1 == len) 0 (i + 1)) [
      | then-i-len w ↦ w.push-is ∙ cond_true (i + 1) len 0 (i + 1) w.if-i-len.true
      | else-i-len w ↦ w.push-is ∙ cond_false (i + 1) len 0 (i + 1) w.if-i-len.false
    ] in
    let last : c.if-i-eq0.push ≡ cond (i == 0) (len - 1) (i - 1) =
    elim c.if-i-eq0.branch as (λ _. c.if-i-eq0.push ≡ cond (i == 0) (len - 1) (i - 1)) [
      | then-i-eq0 w ↦ w.push-is ∙ cond_true i 0 (len - 1) (i - 1) w.if-i-eq0.true
      | else-i-eq0 w ↦ w.push-is ∙ cond_false i 0 (len - 1) (i - 1) (λ e. absurd (omega (arith, e, w.if-i-eq0.false)))
    ] in
    record {
      after_long = longer c.loop-i.after.items c.push.new.self.items c.if-i-len.push i c.in_ok-push.ensures.items h.after_long;
      before_long = longer c.loop-i.before.items c.push-in-loop-i.new.self.items c.if-i-eq0.push i c.in_ok-push-2.ensures.items h.before_long;
      living_long = longer c.loop-i.living.items c.push-in-loop-i-2.new.self.items true i c.in_ok-push-3.ensures.items h.living_long;
      living = written c.loop-i.living.items c.push-in-loop-i-2.new.self.items _ true (λ _. true) i c.in_ok-push-3.ensures.items
          h.living_long refl h.living;
      after = written c.loop-i.after.items c.push.new.self.items 0 c.if-i-len.push (λ k. cond (k + 1 == len) 0 (k + 1)) i
          c.in_ok-push.ensures.items h.after_long next h.after;
      before = written c.loop-i.before.items c.push-in-loop-i.new.self.items 0 c.if-i-eq0.push (λ k. cond (k == 0) (len - 1) (k - 1)) i
          c.in_ok-push-2.ensures.items h.before_long last h.before;
    }
