use Rattle.std.proofs.Common.{◌++◌, ◌∷◌, [], ◌<◌, length, get_or, ap, sym, subst, ◌∙◌}
use Rattle.std.specs.List.{All}
use Rattle.std.proofs.lemmas.List.{take_all}
use Rattle.mb_base.specs.Boxes.{box_of}
use Rattle.outline_pair_terms.specs.Numbers.{edge_at, ends_of, flat_hit}
use Rattle.cross_section.proofs.NearHits.{along_none, along_some, hits_near, hits_with, many_boxes}
use Rattle.cross_section.specs.Apart.{axis_low}
use Rattle.cross_section.specs.Sides.{edge_boxes}
use Rattle.box_tree.proofs.NearNumbers.{touching_below}
use Rattle.cross_section.proofs.numbers.hits.push_hits.Goals as goal
use Rattle.cross_section.proofs.numbers.hits.push_hits.Goals.{in-Some+in_ok-push, in_default}

pub edge-requires : goal.edge-requires
edge-requires g c =
    let q = c.args.q.now in
    let below = subst (λ n. All (λ f. f < n) c.deref-other-items.result.now) (many_boxes q)
    (subst (All (λ f. f < length (edge_boxes q))) (sym c.loop-other.invariant.near)
    (touching_below (edge_boxes q) (box_of (ends_of c.args.p.now (edge_at c.args.p.now c.args.edge))))) in
    below c.loop-other.other-index 0 c.loop-other-test.true

pub loop-other-preserved : goal.loop-other-preserved
loop-other-preserved g c =
    let test = g.K.Meets.meet_of c.args.kernels.now in
    let settle = g.R.Rounding.settle_of c.args.rounding.now in
    let p = c.args.p.now in
    let q = c.args.q.now in
    let i = c.args.edge in
    let near = c.deref-other-items.result.now in
    let k = c.loop-other.other-index in
    let j = get_or near k 0 in
    let before = c.args.hits.now.items in
    let asked = c.hit_of.ensures ∙ ap (λ e. flat_hit settle i j (test e c.edge.result)) c.edge-own.ensures.value
    ∙ ap (λ f. flat_hit settle i j (test (ends_of p (edge_at p i)) f)) c.edge.ensures.value in
    record {
      hits = elim c.match-hit_of.branch [
        | in-Some+in_ok-push w ↦ ap (λ v. v.items) w.hits-is ∙ w.in_ok-push.ensures.items ∙ ap (λ l. l ++ w.in-Some.hit ∷ []) c.loop-other.invariant.hits
            ∙ along_some test settle p q i near k before w.in-Some.hit c.loop-other-test.true (sym w.in-Some.is ∙ asked)
        | in_default w ↦ ap (λ v. v.items) w.hits-is ∙ c.loop-other.invariant.hits ∙ along_none test settle p q i near k before c.loop-other-test.true (sym w.in_default.is ∙ asked)
      ];
      near = c.loop-other.invariant.near;
    }

pub returns : goal.returns
returns g c =
    let test = g.K.Meets.meet_of c.args.kernels.now in
    let settle = g.R.Rounding.settle_of c.args.rounding.now in
    let p = c.args.p.now in
    let q = c.args.q.now in
    let i = c.args.edge in
    let before = c.args.hits.now.items in
    let all = take_all c.loop-other.other-index c.deref-other-items.result.now c.loop-other-test.false ∙ c.loop-other.invariant.near in
    c.loop-other.invariant.hits ∙ ap (λ js. before ++ hits_with test settle p q i js) all
    ∙ ap (λ r. before ++ r) (hits_near test settle p q
    (λ a b k l m f h low apart. (g.met.K.Meets.laws c.args.kernels.now).apart a b k l m f h (axis_low k low) apart) c.corners.ensures.side c.tree.ensures.side i)
