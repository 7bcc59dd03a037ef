use Rattle.std.proofs.lemmas.Bool.Decides.{nat_tests}
use Rattle.std.proofs.Common.{arith, ◌≡◌, ◌+◌, ◌^◌, ◌<◌, ℕ, List, [], ◌∷◌, ◌++◌, length, get_or, drop, sym, ap, subst, ◌∙◌}
use Rattle.std.specs.List.{All}
use Rattle.std.proofs.lemmas.List.{drop_more, get_or_default, nil_from_length, take_rest}
use Rattle.hole_joining.specs.Seen.{plane_at}
use Rattle.hole_joining.specs.Bridges.{edges_of, joined_one, joined}
use Rattle.hole_joining.specs.Obstacles.{SameEdges, all_edges}
use Rattle.hole_joining.proofs.Lists.{joined_more, joined_no_ring}
use Rattle.hole_joining.proofs.Room.{room_here, room_next, some_next}
use Rattle.hole_joining.proofs.splice.join_all.Goals as goal
use Rattle.hole_joining.proofs.splice.join_all.Goals.{then-is_empty-via-then-is_empty, then-is_empty-via-else-is_empty+then-is_empty-2}

pub loop-k-preserved : goal.loop-k-preserved
loop-k-preserved c =
    let at =
    plane_at c.args.flat.now in let rings : List (List ℕ) = c.loop-k.rings.items in let holes : List (List ℕ) = c.args.holes.now in
    let k : ℕ = c.loop-k.k in
    let within = c.loop-k-test.true in
    let read : c.deref.result.now ≡ get_or holes k [] =
    c.deref.ensures.value ∙ c.hole.view_is ∙ c.index-holes-k.is ∙ get_or_default holes k c.index-holes-k.result [] within in
    let next : c.join_one.new.rings.items ≡ joined_one at rings (get_or holes k []) (drop (k + 1) holes) =
    c.in_ok-join_one.ensures.rings ∙ (λ j. joined_one at rings (read j) (take_rest holes (k + 1) j)) in
    let some =
    some_next at rings (drop (k + 1) holes) c.join_one.new.rings.items (get_or holes k []) next c.loop-k.invariant.one c.loop-k.invariant.long in
    record {
      joins = joined_more at rings c.join_one.new.rings.items holes k within next ∙ c.loop-k.invariant.joins;
      same = c.in_ok-join_one.ensures.circles;
      few = room_next (2 ^ 32) at rings holes c.join_one.new.rings.items k within c.loop-k.invariant.few next;
      one = some.0;
      long = some.1;
      runs = c.in_ok-join_one.ensures.runs;
      boxed = c.in_ok-join_one.ensures.boxed;
      edges = subst (λ (l : List (List ℕ)). SameEdges (edges_of (c.join_one.new.rings.items ++ l)) (all_edges c.join_one.new.obstacles))
          (take_rest holes (k + 1)) c.in_ok-join_one.ensures.edges;
    }

pub join_one-requires-clause-few : goal.join_one-requires-clause-few
join_one-requires-clause-few c =
    let rings : List (List ℕ) =
    c.loop-k.rings.items in let holes : List (List ℕ) = c.args.holes.now in let k : ℕ = c.loop-k.k in let within = c.loop-k-test.true in
    let read : c.deref.result.now ≡ get_or holes k [] =
    c.deref.ensures.value ∙ c.hole.view_is ∙ c.index-holes-k.is ∙ get_or_default holes k c.index-holes-k.result [] within in
    subst (λ (h : List ℕ). All (λ r. length r + length h + 2 < 2 ^ 32) rings) (sym read)
    (room_here (2 ^ 32) rings holes k within c.loop-k.invariant.few)

pub join_one-requires-clause-edges : goal.join_one-requires-clause-edges
join_one-requires-clause-edges c =
    let rings : List (List ℕ) =
    c.loop-k.rings.items in let holes : List (List ℕ) = c.args.holes.now in let k : ℕ = c.loop-k.k in let within = c.loop-k-test.true in
    let read : c.deref.result.now ≡ get_or holes k [] =
    c.deref.ensures.value ∙ c.hole.view_is ∙ c.index-holes-k.is ∙ get_or_default holes k c.index-holes-k.result [] within in
    subst (λ (l : List (List ℕ)). SameEdges (edges_of (rings ++ l)) (all_edges c.loop-k.obstacles))
    (drop_more holes k [] within ∙ sym (λ j. read j ∷ take_rest holes (k + 1) j)) c.loop-k.invariant.edges

pub returns-then-is_empty : goal.returns-then-is_empty
returns-then-is_empty c =
    let at = plane_at c.args.flat.now in
    let rings : List (List ℕ) = c.args.rings.now.items in
    let holes : List (List ℕ) = c.args.holes.now in
    elim c.then-is_empty.branch [
      | then-is_empty-via-then-is_empty w ↦
          let none : length rings ≡ 0 = grind (arith, nat_tests, c.is_empty.ensures, w.if-is_empty.true, c.args.rings.now.ok) in
          let no_ring = nil_from_length rings none in
          c.requires.same ∙ no_ring ∙ sym (ap (λ r. joined at r holes) no_ring ∙ joined_no_ring at holes)
      | then-is_empty-via-else-is_empty+then-is_empty-2 w ↦
          let none : length holes ≡ 0 = grind (arith, nat_tests, w.is_empty-else-is_empty.ensures, w.if-is_empty-2.true) in
          c.requires.same ∙ sym (ap (joined at rings) (nil_from_length holes none))
    ]
