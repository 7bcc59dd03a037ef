use Rattle.std.proofs.Common.{◌≡◌, ℕ, List, ◌*◌, ◌≤◌, length, get_or, refl, sym, subst, ap, ◌∙◌, arith}
use Rattle.std.specs.Vec.{with_items}
use Rattle.std.proofs.lemmas.List.{with_items_is}
use Rattle.ring_cutting.specs.declared.hulls.Hulls.{Hulls}
use Rattle.ring_cutting.specs.declared.span.Span.{Span}
use Rattle.ring_cutting.specs.Spans.{span_of, node_of, AreNested}
use Rattle.ring_cutting.proofs.Trees.{hulls_without}
use Rattle.ring_cutting.proofs.hulls.forget.Goals as goal

pub returns : goal.returns
returns c = λ ps bs h.
    let old = c.args.hulls.now in
    let i = c.args.i in
    let new : Hulls = record { spans = with_items old.spans c.put_span.new.spans; order = old.order; nodes = old.nodes } in
    let e : c.deref_mut.result.now ≡ old.spans.items = c.deref_mut.ensures.value in
    let node : c.number_at-node.result ≡ node_of old.nodes.items i =
    c.number_at-node.ensures ∙ ap (λ (l : List ℕ). get_or l i 0) c.deref.ensures.value in
    let full : length c.put_span.new.spans ≡ old.spans.len = c.put_span.ensures.many ∙ ap length e ∙ sym old.spans.ok.0 in
    let items : new.spans.items ≡ c.put_span.new.spans = with_items_is old.spans c.put_span.new.spans full in
    hulls_without ps bs old new i (omega (arith, c.requires.within, h.tree.ordered)) h refl refl
    (ap length items ∙ c.put_span.ensures.many ∙ ap length e)
    (subst AreNested (sym items) c.put_span.ensures.nested)
    (λ k l apart. ap (λ (s : List Span). span_of s k) items
    ∙ c.put_span.ensures.others k (subst (λ (s : List Span). length s ≤ 2 * k) (sym e) l) (λ same. apart (same ∙ node))
    ∙ ap (λ (s : List Span). span_of s k) e)
