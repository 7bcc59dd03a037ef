use Rattle.std.proofs.Common.{◌≡◌, ◌≢◌, ◌<◌, ℕ, Bool, List, [], Option, Some, None, is_some, true, false, map, length, refl, sym, ap, not, ◌∙◌, arith}
use Rattle.std.specs.Cmp.Lexicographic.{pointwise}
use Rattle.std.proofs.lemmas.Bool.{false≢true, true≢false}
use Rattle.std.proofs.lemmas.Bool.Decides.{Decides-eqb}
use Rattle.std.proofs.lemmas.List.{get_or-map, get_or_default, length-map, same_lists}
use Rattle.std.proofs.lemmas.Slice.Eq.{slice_eq-Decides}
use lib.Dec.{eqb}
use Rattle.mesh_terms.specs.Labels.{label_at}
use Rattle.mesh_boolean.specs.declared.labels.FaceLabels.{FaceLabels}
use Rattle.mesh_boolean.specs.Labels.{any_face_label}
use Rattle.mesh_boolean.proofs.Labelled.{all_empty, map-same_everywhere}
use Rattle.mesh_boolean.proofs.labels.have_labels.Goals as goal

-- where there are none, each is empty
empty : (l : Option FaceLabels) → is_some l ≡ false → (x : ℕ) → [] ≡ any_face_label l x
empty None none x = refl
empty (Some l) none x = absurd (true≢false none)

-- labels that differ are not the same
differ : (a b : List ℕ) (r : Bool) → r ≡ not (pointwise eqb a b) → r ≡ true → a ≢ b
differ a b r is told e = false≢true (ap not (sym ((slice_eq-Decides Decides-eqb a b (pointwise eqb a b) refl).1 e)) ∙ sym is ∙ told)

pub returns-then-has_none : goal.returns-then-has_none
returns-then-has_none c =
    let source = c.args.source.now in
    let labels = c.args.faces.now in (
      (λ e. c.has_none.ensures c.if-has_none.true ∙ sym (all_empty source c.args.mesh.now.triples c.requires)
          ∙ map-same_everywhere source (λ x. []) (any_face_label labels) (empty labels (c.is_none.ensures ∙ ap not c.if-is_none.true))),
      (λ e. refl),
    )

pub returns-then-ne : goal.returns-then-ne
returns-then-ne c =
    let source = c.args.source.now in
    let f = any_face_label c.args.faces.now in
    let t = c.loop-triangle.triangle in
    let low : t < length source = omega arith in (
      (λ e. absurd (false≢true e)),
      (λ s. absurd (differ c.label.result.now c.label_of.result.now c.ne.result c.ne.ensures c.if-ne.true
          (c.label.ensures.value ∙ ap (λ l. label_at l t) s ∙ get_or-map f source t 0 [] low ∙ sym c.label_of.ensures))),
    )

pub returns : goal.returns
returns c =
    let source = c.args.source.now in
    let labels = c.args.mesh.now.labels in
    let f = any_face_label c.args.faces.now in
    let many : length (map f source) ≡ length source = length-map source f in
    let same : length labels ≡ length source = c.labels.ensures.labels.one_each ∙ sym c.requires in (
      (λ e. same_lists labels (map f source) (same ∙ sym many)
          (λ k d low. let below : k < length source = omega (arith, low, same) in
          get_or_default labels k d [] low ∙ c.loop-triangle.invariant k (omega (arith, below))
          ∙ sym (get_or-map f source k 0 [] below) ∙ get_or_default (map f source) k [] d (omega (arith, below, many)))),
      (λ e. refl),
    )
