use Rattle.std.proofs.Common.{◌≡◌, ◌≢◌, ◌<◌, ◌≤◌, ◌*◌, inl, inr, ℕ, Bool, true, false, List, length, get_or, replicate, slice_set, refl, sym, subst, ap, ◌∙◌, arith, ◌+◌, Vec, Global}
use Rattle.std.specs.List.{All}
use Rattle.std.proofs.lemmas.Bool.{cases_eq, false≢true}
use Rattle.std.proofs.lemmas.List.{get_or_default, length-map, with_items_is, length-replicate, length-set}
use Rattle.chain_terms.specs.Chains.{all_edges, IsClosed}
use Rattle.chain_terms.specs.Ranks.{start}
use Rattle.halfedge.specs.Numbering.{no_fan, IsFanNumbered}
use Rattle.halfedge.specs.Clean.{IsMarked, AreMarked}
use Rattle.mesh_terms.specs.Limits.{most_points}
use Rattle.mesh_terms.specs.Meshes.{IsBelow, triple_of, triples_of}
use Rattle.halfedge.proofs.Edges.{length-all_edges}
use Rattle.halfedge.proofs.Marks.{no_marks, marks_more, marked_after, not_clean, clean_from_marks}
use Rattle.halfedge.proofs.Starts.{start_below}
use Rattle.halfedge.proofs.twins.Twins.are_clean.Goals as goal
use Rattle.halfedge.proofs.twins.Twins.are_clean.Goals.{then-index+else-index-2, else-index}

pub loop-half-init : goal.loop-half-init
loop-half-init c =
    let ts = c.args.self.now.triples in
    let numbers : c.in_ok-of.of.items ≡ replicate (3 * length c.triples-triples.result.now) no_fan = c.in_ok-of.ensures.items_if_clones_equal (λ y same. same) in
    let marks : c.in_ok-seen.seen.items ≡ replicate c.args.points false = c.in_ok-seen.ensures.items_if_clones_equal (λ y same. same) in
    let count : 3 * length c.triples-triples.result.now ≡ length (all_edges ts) =
    omega (arith, length-map c.triples-triples.result.now triple_of, ap length c.triples-triples.ensures.value, length-all_edges ts) in
    record {
      marks = subst (λ of. AreMarked (all_edges ts) of c.in_ok-seen.seen.items) (sym numbers)
          (subst (λ seen. AreMarked (all_edges ts) (replicate (3 * length c.triples-triples.result.now) no_fan) seen) (sym marks)
          (no_marks ts c.triples-triples.ensures.twinned.closed (3 * length c.triples-triples.result.now) c.args.points count));
      room = ap length marks ∙ length-replicate c.args.points false;
      done = λ x low none. omega (arith, low);
    }

-- a number below three times the triples is a half-edge
half_below : (xs : List (List ℕ)) (ts : List (ℕ × ℕ × ℕ)) → triples_of xs ≡ ts → (h : ℕ) → h < 3 * length xs → h < length (all_edges ts)
half_below xs ts same h low = omega (arith, low, length-map xs triple_of, ap length same, length-all_edges ts)

-- its start is the one that was read off the triples
start_is : (xs : List (List ℕ)) (ts : List (ℕ × ℕ × ℕ)) → triples_of xs ≡ ts → (h v : ℕ) → v ≡ start (all_edges (triples_of xs)) h → v ≡ start (all_edges ts) h
start_is xs ts same h v is = is ∙ ap (λ l. start (all_edges l) h) same

-- its start is a point
vertex_below : (n : ℕ) (ts : List (ℕ × ℕ × ℕ)) → All (IsBelow n) ts → (h v : ℕ) → h < length (all_edges ts) → v ≡ start (all_edges ts) h → v < n
vertex_below n ts below h v low is = subst (λ u. u < n) (sym is) (start_below n ts below h low)

-- so the vertex that was read off is a point
vertex_low : (n : ℕ) (xs : List (List ℕ)) (ts : List (ℕ × ℕ × ℕ)) → triples_of xs ≡ ts → All (IsBelow n) ts → (h v : ℕ) → h < 3 * length xs →
    v ≡ start (all_edges (triples_of xs)) h → v < n
vertex_low n xs ts same below h v low is = vertex_below n ts below h v (half_below xs ts same h low) (start_is xs ts same h v is)

pub index-requires-then-index : goal.index-requires-then-index
index-requires-then-index c =
    let low = vertex_low c.args.points c.triples-triples.result.now c.args.self.now.triples c.triples-triples.ensures.value c.requires.below c.loop-half.half
    c.start-vertex.result c.loop-half-test.true c.start-vertex.ensures in
    omega (arith, low, c.loop-half.seen.ok.0, c.loop-half.invariant.room)

-- the vertex is not the number for none
vertex_number : (n : ℕ) (v : ℕ) → v < n → n ≤ most_points → v < no_fan
vertex_number n v low few = omega (arith, low, few)

-- an entry read with any default
entry : {X : Type 0} (xs : List X) (i : ℕ) (x d y : X) → i < length xs → x ≡ get_or xs i x → x ≡ y → get_or xs i d ≡ y
entry xs i x d y low is same = get_or_default xs i d x low ∙ sym is ∙ same

pub returns-then-index-2 : goal.returns-then-index-2
returns-then-index-2 c =
    let ts = c.args.self.now.triples in
    let es = all_edges ts in
    let h = c.loop-half.half in
    let inv = c.loop-half.invariant in
    let below = half_below c.triples-triples.result.now ts c.triples-triples.ensures.value h c.loop-half-test.true in
    let starts = start_is c.triples-triples.result.now ts c.triples-triples.ensures.value h c.start-vertex.result c.start-vertex.ensures in
    let low = vertex_below c.args.points ts c.requires.below h c.start-vertex.result below starts in
    let none : get_or c.loop-half.of.items h 0 ≡ no_fan = entry c.loop-half.of.items h c.index.result.now 0 no_fan (omega (arith, below, inv.marks.full))
    c.index.ensures c.if-index.true in
    let is : get_or c.loop-half.seen.items c.start-vertex.result false ≡ true =
    entry c.loop-half.seen.items c.start-vertex.result c.index-then-index.result.now false true (omega (arith, low, inv.room)) c.index-then-index.ensures c.if-index-2.true in (
      (λ wrong. absurd (false≢true wrong)),
      (λ clean. absurd (not_clean ts c.triples-triples.ensures.twinned.closed c.loop-half.of.items c.loop-half.seen.items inv.marks h below none
          (ap (λ v. get_or c.loop-half.seen.items v false) (sym starts) ∙ is) clean)),
    )

pub index_mut-requires : goal.index_mut-requires
index_mut-requires c =
    let low = vertex_low c.args.points c.triples-triples.result.now c.args.self.now.triples c.triples-triples.ensures.value c.requires.below c.loop-half.half
    c.start-vertex.result c.loop-half-test.true c.start-vertex.ensures in
    omega (arith, low, c.loop-half.seen.ok.0, c.loop-half.invariant.room)

pub number_fan-requires-clause-number : goal.number_fan-requires-clause-number
number_fan-requires-clause-number c =
    let low = vertex_low c.args.points c.triples-triples.result.now c.args.self.now.triples c.triples-triples.ensures.value c.requires.below c.loop-half.half
    c.start-vertex.result c.loop-half-test.true c.start-vertex.ensures in
    vertex_number c.args.points c.start-vertex.result low c.requires.few

-- one half-edge more is marked
record IsMore (es : List (ℕ × ℕ)) (points half : ℕ) (of : List ℕ) (seen : List Bool) : Type 0 where
  marks : AreMarked es of seen
  room : length seen ≡ points
  done : (x : ℕ) → x < half → IsMarked of x

-- where the fan was marked
step : (ts : List (ℕ × ℕ × ℕ)) → IsClosed (all_edges ts) → (points h v : ℕ) (of new : List ℕ) (seen : List Bool) → h < length (all_edges ts) →
    v ≡ start (all_edges ts) h → v < points → points ≤ most_points →
    AreMarked (all_edges ts) of seen → length seen ≡ points → ((x : ℕ) → x < h → IsMarked of x) → get_or seen v false ≡ false →
    IsFanNumbered (all_edges ts) h v of new → IsMore (all_edges ts) points (h + 1) new (slice_set seen v true)
step ts closed points h v of new seen below is low few marks room done fresh numbered =
    let number : v ≢ no_fan = λ e. omega (arith, e, vertex_number points v low few) in
    record {
      marks = more v is low number fresh numbered;
      room = length-set seen v true ∙ room;
      done = λ x less. elim (cases_eq x h) as (λ _. IsMarked new x) [
        | inl e ↦ λ none. number (sym numbered.here ∙ ap (λ y. get_or new y 0) (sym e) ∙ none)
        | inr d ↦ marked_after (all_edges ts) h v of new number numbered x (omega (arith, less, below)) (done x (omega (arith, less, d)))
      ];
    }
  where
    more : (v : ℕ) → v ≡ start (all_edges ts) h → v < points → v ≢ no_fan → get_or seen v false ≡ false → IsFanNumbered (all_edges ts) h v of new →
        AreMarked (all_edges ts) new (slice_set seen v true)
    more v is low number fresh numbered =
        subst (λ u. u < points → u ≢ no_fan → get_or seen u false ≡ false → IsFanNumbered (all_edges ts) h u of new → AreMarked (all_edges ts) new (slice_set seen u true)) (sym is)
        (λ l other unseen filled. marks_more ts closed h below of new seen (omega (arith, l, room)) other marks unseen filled) low number fresh numbered

-- where it was marked before
all_but_one : (of : List ℕ) (h : ℕ) → ((x : ℕ) → x < h → IsMarked of x) → IsMarked of h → (x : ℕ) → x < h + 1 → IsMarked of x
all_but_one of h done has x less = elim (cases_eq x h) as (λ _. IsMarked of x) [
  | inl e ↦ subst (IsMarked of) (sym e) has
  | inr d ↦ done x (omega (arith, less, d))
]

pub loop-half-preserved : goal.loop-half-preserved
loop-half-preserved c = elim c.if-index.branch [
  | then-index+else-index-2 w ↦
      let ts = c.args.self.now.triples in
      let es = all_edges ts in
      let h = c.loop-half.half in
      let v = w.start-vertex.result in
      let new = w.number_fan.new.of in
      let inv = c.loop-half.invariant in
      let below = half_below c.triples-triples.result.now ts c.triples-triples.ensures.value h c.loop-half-test.true in
      let starts = start_is c.triples-triples.result.now ts c.triples-triples.ensures.value h v w.start-vertex.ensures in
      let low = vertex_below c.args.points ts c.requires.below h v below starts in
      let fresh : get_or c.loop-half.seen.items v false ≡ false =
      entry c.loop-half.seen.items v w.index-then-index.result.now false false (omega (arith, low, inv.room)) w.index-then-index.ensures w.if-index-2.false in
      let numbered = subst (λ l. IsFanNumbered es h v l new) w.deref_mut.ensures.value w.number_fan.ensures in
      let more = step ts c.triples-triples.ensures.twinned.closed c.args.points h v c.loop-half.of.items new c.loop-half.seen.items below starts low
      c.requires.few inv.marks inv.room inv.done fresh numbered in
      let full : length new ≡ c.loop-half.of.len = numbered.full ∙ sym inv.marks.full ∙ sym c.loop-half.of.ok.0 in
      let of_is : c.if-index.of.items ≡ new = ap (λ (x : Vec ℕ Global). x.items) w.of-is ∙ with_items_is c.loop-half.of new full in
      let seen_is : c.if-index.seen.items ≡ slice_set c.loop-half.seen.items v true = ap (λ (x : Vec Bool Global). x.items) w.seen-is in
      record {
        marks = subst (λ o. AreMarked es o c.if-index.seen.items) (sym of_is) (subst (λ s. AreMarked es new s) (sym seen_is) more.marks);
        room = ap length seen_is ∙ more.room;
        done = subst (λ o. (x : ℕ) → x < h + 1 → IsMarked o x) (sym of_is) more.done;
      }
  | else-index w ↦
      let ts = c.args.self.now.triples in
      let es = all_edges ts in
      let h = c.loop-half.half in
      let inv = c.loop-half.invariant in
      let below = half_below c.triples-triples.result.now ts c.triples-triples.ensures.value h c.loop-half-test.true in
      let has : IsMarked c.loop-half.of.items h =
      λ none. w.if-index.false (c.index.ensures ∙ get_or_default c.loop-half.of.items h c.index.result.now 0 (omega (arith, below, inv.marks.full)) ∙ none) in
      let of_is : c.if-index.of.items ≡ c.loop-half.of.items = ap (λ (x : Vec ℕ Global). x.items) w.of-is in
      let seen_is : c.if-index.seen.items ≡ c.loop-half.seen.items = ap (λ (x : Vec Bool Global). x.items) w.seen-is in
      record {
        marks = subst (λ o. AreMarked es o c.if-index.seen.items) (sym of_is) (subst (λ s. AreMarked es c.loop-half.of.items s) (sym seen_is) inv.marks);
        room = ap length seen_is ∙ inv.room;
        done = subst (λ o. (x : ℕ) → x < h + 1 → IsMarked o x) (sym of_is) (all_but_one c.loop-half.of.items h inv.done has);
      }
]

pub returns : goal.returns
returns c =
    let ts = c.args.self.now.triples in
    let inv = c.loop-half.invariant in (
      (λ _. clean_from_marks (all_edges ts) c.loop-half.of.items c.loop-half.seen.items inv.marks
          (λ h below. inv.done h
          (omega (
            arith,
            below,
            c.loop-half-test.false,
            length-map c.triples-triples.result.now triple_of,
            ap length c.triples-triples.ensures.value,
            length-all_edges ts,
          )))),
      (λ _. refl),
    )
