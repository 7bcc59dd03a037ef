use Rattle.std.proofs.Common.{◌≡◌, ◌+◌, ◌*◌, ◌<◌, ℕ, List, false, length, get_or, sym, ap, subst, ◌∙◌, arith}
use Rattle.std.specs.BTreeSet.{BTreeSet}
use Rattle.std.specs.List.{All}
use Rattle.std.proofs.lemmas.Bool.{both_ways}
use Rattle.std.proofs.lemmas.List.{length-map}
use Rattle.std.proofs.lemmas.List.Elements.{All-nil}
use Rattle.chain_terms.specs.Chains.{all_edges}
use Rattle.chain_terms.specs.Ranks.{twin}
use Rattle.halfedge.proofs.Listed.{length-twins, twin_listed}
use Rattle.mesh_terms.specs.Meshes.{IsBelow, triple_of, triples_of}
use Rattle.mesh_tidy.specs.Doubts.{AreHalves, lies_at_one}
use Rattle.mesh_tidy.proofs.DoubtSet.{all_added}
use Rattle.mesh_tidy.proofs.Doubted.{AreListedTo, listed_added, listed_all, listed_passed}
use Rattle.mesh_tidy.proofs.doubts.first_doubts.Goals as goal
use Rattle.mesh_tidy.proofs.doubts.first_doubts.Goals.{then-half-twins+then-lies_at_one+in_ok-insert, else-half-twins, else-half-twins-via-then-half-twins+else-lies_at_one, else-half-twins-via-else-half-twins}

pub overflow_cast-half-end : goal.overflow_cast-half-end
overflow_cast-half-end c =
    omega (
      arith,
      ap length c.twins-twins.ensures.value,
      length-twins c.twins.result.now.triples c.twins.result.now.twins c.twins-twins.ensures.twinned,
      ap length c.twins.ensures.triples,
      c.twins.ensures.accepted.mesh.few_triples,
    )

pub loop-half-init : goal.loop-half-init
loop-half-init c = record {
  halves = subst (AreHalves c.args.mesh.now.triples) (sym c.new-doubts.ensures.empty) (All-nil (λ h. h < 3 * length c.args.mesh.now.triples));
  listed = λ h low. absurd (omega (arith, low));
}

pub loop-half-preserved : goal.loop-half-preserved
loop-half-preserved c =
    let points = c.args.mesh.now.points in
    let ts = c.args.mesh.now.triples in
    let half = c.loop-half.half in
    let old = c.loop-half.doubts.keys in
    let halves = c.loop-half.invariant.halves in
    let listed = c.loop-half.invariant.listed in
    let low : half < 3 * length ts =
    omega (
      arith,
      c.loop-half-test.true,
      ap length c.twins-twins.ensures.value,
      length-twins c.twins.result.now.triples c.twins.result.now.twins
          c.twins-twins.ensures.twinned,
      ap length c.twins.ensures.triples,
    ) in
    let twin_is : get_or c.twins-twins.result.now half 0 ≡ twin (all_edges ts) half =
    ap (λ l. get_or l half 0) c.twins-twins.ensures.value ∙ twin_listed ts c.twins.result.now.twins c.twins.ensures.twins half 0 low in
    elim c.if-half-twins.branch [
      | then-half-twins+then-lies_at_one+in_ok-insert w ↦
          let is = ap (λ (d : BTreeSet ℕ). d.keys) w.doubts-is ∙ w.in_ok-insert.ensures.keys in
          record {
            halves = subst (AreHalves ts) (sym is) (all_added (λ h. h < 3 * length ts) old half halves low);
            listed = subst (AreListedTo points ts (half + 1)) (sym is) (listed_added points ts half old listed);
          }
      | else-half-twins w ↦
          let is = ap (λ (d : BTreeSet ℕ). d.keys) w.doubts-is in
          elim w.else-half-twins.branch [
            | else-half-twins-via-then-half-twins+else-lies_at_one v ↦
                let lies = v.lies_at_one.ensures ∙ (λ i. lies_at_one (v.points.ensures.value i) (v.triples.ensures.value i) half) in
                record {
                  halves = subst (AreHalves ts) (sym is) halves;
                  listed = subst (AreListedTo points ts (half + 1)) (sym is)
                      (listed_passed points ts half old listed (λ less one. both_ways v.lies_at_one.result v.if-lies_at_one.false (lies ∙ one)));
                }
            | else-half-twins-via-else-half-twins v ↦ record {
              halves = subst (AreHalves ts) (sym is) halves;
              listed = subst (AreListedTo points ts (half + 1)) (sym is)
                  (listed_passed points ts half old listed (λ less one. absurd (omega (arith, less, twin_is, v.if-half-twins.false))));
            }
          ]
    ]

pub lies_at_one-requires-clause-half : goal.lies_at_one-requires-clause-half
lies_at_one-requires-clause-half c =
    omega (
      arith,
      c.loop-half-test.true,
      ap length c.twins-twins.ensures.value,
      length-twins c.twins.result.now.triples c.twins.result.now.twins c.twins-twins.ensures.twinned,
      ap length c.twins.ensures.triples,
      ap length c.triples.ensures.value,
      length-map c.triples.result.now triple_of,
    )

pub lies_at_one-requires-clause-few : goal.lies_at_one-requires-clause-few
lies_at_one-requires-clause-few c = omega (arith, c.triples.ensures.accepted.mesh.few_triples, ap length c.triples.ensures.value, length-map c.triples.result.now triple_of)

pub lies_at_one-requires-clause-below : goal.lies_at_one-requires-clause-below
lies_at_one-requires-clause-below c =
    subst (λ n. All (IsBelow n) (triples_of c.triples.result.now)) (sym (ap length c.points.ensures.value))
    (subst (All (IsBelow (length c.args.mesh.now.points))) (sym c.triples.ensures.value) c.triples.ensures.accepted.mesh.below)

pub returns-clause-lesser : goal.returns-clause-lesser
returns-clause-lesser c =
    let m = c.args.mesh.now in
    let accepted = c.twins.ensures.accepted in
    let end : c.loop-half.half ≡ 3 * length m.triples =
    omega (
      arith,
      c.loop-half-test.false,
      c.loop-half.auto.half-end,
      ap length c.twins-twins.ensures.value,
      length-twins c.twins.result.now.triples c.twins.result.now.twins c.twins-twins.ensures.twinned,
      ap length c.twins.ensures.triples,
    ) in
    listed_all m.points m.triples c.loop-half.doubts.keys accepted.mesh.three accepted.closed
    (subst (λ n. AreListedTo m.points m.triples n c.loop-half.doubts.keys) end c.loop-half.invariant.listed)
