use Rattle.std.proofs.Common.{◌≡◌, ℕ, Bool, true, false, List, ◌+◌, ◌*◌, ◌/◌, ◌<◌, length, ap, subst, ◌∙◌, arith}
use Rattle.std.proofs.lemmas.List.{get_or-set_other, get_or_default, length-set}
use Rattle.ring_cutting.specs.declared.span.Span.{Span}
use Rattle.ring_cutting.specs.Spans.{IsWithin, no_span, span_of, below}
use Rattle.ring_cutting.proofs.Trees.{nested_on}
use Rattle.ring_cutting.proofs.hulls.put_span.Goals as goal

-- the node above one
above : (b : Bool) (j k : ℕ) → below b j ≡ k → j ≡ k / 2
above true j k e = omega (arith, e)
above false j k e = omega (arith, e)

-- what holds of both nodes below one
both : (ss : List Span) (h : ℕ) (s : Span) → IsWithin (span_of ss (below false h)) s → IsWithin (span_of ss (below true h)) s → (b : Bool) →
    IsWithin (span_of ss (below b h)) s
both ss h s f t true = t
both ss h s f t false = f

pub loop-k-preserved : goal.loop-k-preserved
loop-k-preserved c =
    let ss = c.loop-k.spans in
    let k = c.loop-k.k in
    let h = k / 2 in
    let s = c.joined.result in
    let inv = c.loop-k.invariant in
    let long = length-set ss h s in
    let within : h < length ss = omega (arith, inv.many, inv.up, c.requires.within) in
    let low : h < c.args.node = omega (arith, inv.up, c.loop-k-test.true) in
    let even : 2 * h + 1 < length ss = omega (arith, inv.many, inv.up, c.requires.within, c.requires.even) in
    let first : c.index-spans-k.result ≡ span_of ss (below false h) =
    c.index-spans-k.is ∙ get_or_default ss (2 * h) c.index-spans-k.result no_span (omega (arith, even)) ∙ ap (span_of ss) (omega arith) in
    let second : c.index-spans-k-in-loop-k.result ≡ span_of ss (below true h) =
    c.index-spans-k-in-loop-k.is ∙ get_or_default ss (2 * h + 1) c.index-spans-k-in-loop-k.result no_span even ∙ ap (span_of ss) (omega arith) in
    let round : (b : Bool) → IsWithin (span_of ss (below b h)) s =
    both ss h s (subst (λ (t : Span). IsWithin t s) first c.joined.ensures.first)
    (subst (λ (t : Span). IsWithin t s) second c.joined.ensures.second) in
    record {
      many = long ∙ inv.many;
      up = omega (arith, inv.up);
      nested = nested_on ss k h s (omega (arith, c.loop-k-test.true)) within (λ j b e. above b j k e) round inv.nested;
      here = get_or-set_other ss h c.args.node s no_span (λ e. absurd (omega (arith, e, low))) ∙ inv.here;
      others = λ j last apart. get_or-set_other ss h j s no_span (λ e. absurd (omega (arith, e, last, inv.up, c.requires.within)))
          ∙ inv.others j last apart;
    }
