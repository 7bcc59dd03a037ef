use Rattle.std.proofs.Common.{◌≡◌, ℕ, List, [], ◌+◌, ◌*◌, ◌/◌, ◌%◌, ◌<◌, arith, length, get_or, refl, set, sym, ap, subst, take, ◌∙◌}
use Rattle.std.proofs.lemmas.List.{length-set, take_all}
use Rattle.std.proofs.lemmas.List.Elements.{All-from_get_or, All-get_or, All-set}
use Rattle.mesh_terms.specs.Meshes.{triples_of}
use Rattle.mesh_tidy.specs.TidySurface.{IsRenamed}
use Rattle.mesh_tidy.proofs.Renaming.{none_renamed, renamed_more, renamed_same, start_other, start_written, written}
use Rattle.mesh_tidy.proofs.surface.collapsing.rename.Goals as goal
use Rattle.mesh_tidy.proofs.surface.collapsing.rename.Goals.{then-start-old, else-start-old}

pub loop-half-init : goal.loop-half-init
loop-half-init c = record {
  count = refl;
  rows = All-from_get_or (λ row. length row ≡ 3) c.args.triples.now [] c.told-triples;
  renamed = none_renamed (triples_of c.args.triples.now) c.args.halves.now c.args.old c.args.new;
}

pub loop-half-preserved : goal.loop-half-preserved
loop-half-preserved c =
    let xs = c.loop-half.triples in
    let halves = c.args.halves.now in
    let i = c.loop-half.half-index in
    let h = get_or halves i 0 in
    let before = triples_of c.args.triples.now in
    let rows = c.loop-half.invariant.rows in
    let so_far = c.loop-half.invariant.renamed in
    let Renamed : List (List ℕ) → Type 0 = λ us. IsRenamed before (triples_of us) (take (i + 1) halves) c.args.old c.args.new in
    elim c.if-start-old.branch [
      | then-start-old w ↦
          let row = get_or xs (h / 3) [] in
          let low : h < 3 * length xs = omega (
            arith,
            All-get_or (λ x. x < 3 * length c.args.triples.now) halves i 0 c.loop-half-test.true c.requires,
            c.loop-half.invariant.count,
          ) in
          let three : length row ≡ 3 = All-get_or (λ r. length r ≡ 3) xs (h / 3) [] (omega (arith, low)) rows in
          let within : h % 3 < length row = omega (arith, three) in
          let put = set row (h % 3) c.args.new in
          record {
            count = omega (arith, ap length w.triples-is, length-set xs (h / 3) put, c.loop-half.invariant.count);
            rows = subst (λ (us : List (List ℕ)). (k : ℕ) (d : List ℕ) → k < length us → length (get_or us k d) ≡ 3) (sym w.triples-is)
                (All-set (λ r. length r ≡ 3) xs (h / 3) put (length-set row (h % 3) c.args.new ∙ three) rows);
            renamed = subst Renamed (sym w.triples-is)
                (renamed_more before (triples_of xs) halves i c.args.old c.args.new c.loop-half-test.true so_far (triples_of (written xs h c.args.new row low refl within))
                (sym c.start.ensures ∙ w.if-start-old.true) (start_written xs h c.args.new row low refl within) (start_other xs h c.args.new row low refl within));
          }
      | else-start-old w ↦ record {
        count = ap length w.triples-is ∙ c.loop-half.invariant.count;
        rows = subst (λ (us : List (List ℕ)). (k : ℕ) (d : List ℕ) → k < length us → length (get_or us k d) ≡ 3) (sym w.triples-is) rows;
        renamed = subst Renamed (sym w.triples-is)
            (renamed_same before (triples_of xs) halves i c.args.old c.args.new c.loop-half-test.true so_far (λ e. w.if-start-old.false (c.start.ensures ∙ e)));
      }
    ]

pub returns-clause-renamed : goal.returns-clause-renamed
returns-clause-renamed c =
    subst (λ hs. IsRenamed (triples_of c.args.triples.now) (triples_of c.loop-half.triples) hs c.args.old c.args.new)
    (take_all c.loop-half.half-index c.args.halves.now c.loop-half-test.false) c.loop-half.invariant.renamed
