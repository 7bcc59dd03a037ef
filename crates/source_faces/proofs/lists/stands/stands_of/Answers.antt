use Rattle.std.proofs.Common.{◌≡◌, ℕ, ◌+◌, ◌++◌, List, [], length, ap, subst, sym, ◌∙◌}
use Rattle.std.specs.List.Sorted.{IsPermutation}
use Rattle.std.proofs.lemmas.List.{length-map}
use Rattle.chain_terms.specs.Chains.{all_edges}
use Rattle.side_terms.specs.Prescribed.{hit_count}
use Rattle.mb_base.specs.declared.op.Op.{Op}
use Rattle.mb_base.specs.declared.results.Hit.{Hit}
use Rattle.mesh_terms.specs.Meshes.{Triple, triple_of}
use Rattle.side_terms.specs.Sides.{Side}
use Rattle.source_faces.specs.Stands.{all_stands, hit_stands}
use Rattle.source_faces.specs.declared.lists.stands.Stand.{Stand}
use Rattle.source_faces.proofs.OneWay.{all_one_way}
use Rattle.source_faces.proofs.RecordOrder.{sorted_records}
use Rattle.source_faces.proofs.lists.stands.stands_of.Goals as goal

-- the records of the first mesh's edges, and behind them those of the second's
both : (op : Op) (p q : Side) (x12 x21 : List Hit) (k : ℕ) (ts us : List Triple) (n next : ℕ) (hs gs : List Hit) (none first all : List Stand) →
    none ≡ [] → ts ≡ p.triples → us ≡ q.triples → n ≡ length p.triples → hs ≡ x12 → gs ≡ x21 →
    first ≡ none ++ hit_stands op (all_edges ts) 0 n k hs → next ≡ k + hit_count op hs →
    all ≡ first ++ hit_stands op (all_edges us) n 0 next gs → all ≡ all_stands op p q x12 x21 k
both op p q x12 x21 k ts us n next hs gs none first all empty of_p of_q long his its one at two = cc

pub returns : goal.returns
returns c =
    let op = c.args.op in
    let p = c.args.p.now in
    let q = c.args.q.now in
    let x12 = c.args.hits.now.x12.items in
    let x21 = c.args.hits.now.x21.items in
    let one = all_one_way op p q x12 x21 c.args.first c.twins-p_twins.ensures.side c.twins-q_twins.ensures.side c.requires.x12 c.requires.x21 in
    let long : length c.triples.result.now ≡ length p.triples = sym (length-map c.triples.result.now triple_of) ∙ ap length c.triples.ensures.value in
    let made =
    both op p q x12 x21 c.args.first c.twins-p_twins.result.now.triples c.twins-q_twins.result.now.triples (length c.triples.result.now)
    c.in_ok-next.next c.deref.result.now c.deref-2.result.now
    c.new-stands.result.items c.push_hits.new.stands.items c.push_hits-2.new.stands.items c.new-stands.ensures.items
    c.twins-p_twins.ensures.triples c.twins-q_twins.ensures.triples long
    c.deref.ensures.value c.deref-2.ensures.value c.in_ok-next.ensures.stands c.in_ok-next.ensures.next c.in_ok-push_hits.ensures.stands in
    sorted_records (all_stands op p q x12 x21 c.args.first) c.sort_unstable.new.self.items one
    (subst (λ l. IsPermutation l c.sort_unstable.new.self.items) made c.sort_unstable.ensures.permutation) c.sort_unstable.ensures.sorted
