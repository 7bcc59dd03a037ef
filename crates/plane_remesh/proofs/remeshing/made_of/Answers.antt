use Rattle.std.proofs.Common.{Option, ◌<◌, ◌≡◌, ◌∙◌, ap, arith, false, get_or, length, map, subst, sym, true, ℕ, ℤ, List}
use Rattle.std.specs.List.{All}
use Rattle.std.specs.Prelude.{MatchOption}
use Rattle.std.proofs.lemmas.List.{length-map}
use Rattle.chain_terms.specs.Chains.{all_edges}
use Rattle.mesh_terms.specs.Labels.{label_at}
use Rattle.mesh_terms.specs.Meshes.{IsBelow, Mesh, Triple, triples_of}
use Rattle.sheet_terms.specs.Faces.{Face}
use Rattle.sheet_terms.specs.Remesh.{is_closed, new_labels, new_triples}
use Rattle.plan_laws.specs.Placed.{placed_faces}
use Rattle.plane_remesh.specs.Plans.{fillings_of}
use Rattle.plane_remesh.specs.Rules.{IsFanned}
use Rattle.plane_remesh.proofs.Fans.{made_long, made_unlabelled}
use Rattle.plane_remesh.proofs.Making.{labels_are, mesh_at, not_closed, sources_long, sources_low, taken}
use Rattle.plane_remesh.proofs.remeshing.made_of.Goals as goal

-- what the test for closedness gave
abbrev Told : List (List ℤ) → List Triple → Option Mesh → Type 0
Told points ts made = MatchOption made (is_closed (all_edges ts) ≡ false) (λ m. (is_closed (all_edges ts) ≡ true) × IsFanned points ts m)

-- the numbers that were read are those of the triangles over places
sources_read : (numbers read labels given sources : List ℕ) → read ≡ numbers → given ≡ labels → sources ≡ map (λ t. get_or read t 0) given →
    sources ≡ map (λ t. get_or numbers t 0) labels
sources_read numbers read labels given sources r g is = is ∙ (λ i. map (λ t. get_or (r i) t 0) (g i))

pub sources_of-requires : goal.sources_of-requires
sources_of-requires c =
    let r = c.requires in
    let all = placed_faces r.0 c.args.mesh.now in
    let many : length all ≡ length c.deref.result.now = sym (ap length (c.deref.ensures.value ∙ r.1.numbers) ∙ length-map all (λ (f : Face). f.number)) in
    subst (λ n. All (λ t. t < n) c.deref-2.result.now) many (subst (All (λ t. t < length all)) (sym c.deref-2.ensures.value) r.2.known)

pub fanned-requires-clause-points : goal.fanned-requires-clause-points
fanned-requires-clause-points c = let r = c.requires in omega (arith, ap length (c.deref-3.ensures.value ∙ r.1.stored), r.1.few_points)

pub fanned-requires-clause-three : goal.fanned-requires-clause-three
fanned-requires-clause-three c = c.requires.2.three

pub fanned-requires-clause-below : goal.fanned-requires-clause-below
fanned-requires-clause-below c =
    let r = c.requires in
    subst (λ ps. All (IsBelow (length ps)) (triples_of c.args.filled.triples.items)) (sym (c.deref-3.ensures.value ∙ r.1.stored)) r.2.below

pub with_labels_of-requires-clause-each : goal.with_labels_of-requires-clause-each
with_labels_of-requires-clause-each c =
    let r = c.requires in
    let all = placed_faces r.0 c.args.mesh.now in
    let ts = triples_of c.args.filled.triples.items in
    let sources = c.deref-in-Some.result.now in
    let is = sources_read (map (λ (f : Face). f.number) all) c.deref.result.now c.args.filled.labels.items c.deref-2.result.now sources (c.deref.ensures.value ∙ r.1.numbers)
    c.deref-2.ensures.value (c.deref-in-Some.ensures.value ∙ c.in_ok-sources.ensures) in
    let told = subst (Told c.deref-3.result.now ts) c.in-Some.is c.in_ok-made.ensures in
    sources_long all (fillings_of r.0 all) ts c.args.filled.labels.items sources r.2.triples r.2.labels
    (ap length is ∙ length-map c.args.filled.labels.items (λ t. get_or (map (λ (f : Face). f.number) all) t 0))
    ∙ sym (made_long c.deref-3.result.now ts c.in-Some.made told.1)

pub with_labels_of-requires-clause-sources : goal.with_labels_of-requires-clause-sources
with_labels_of-requires-clause-sources c =
    let r = c.requires in
    let all = placed_faces r.0 c.args.mesh.now in
    let sources = c.deref-in-Some.result.now in
    let is = sources_read (map (λ (f : Face). f.number) all) c.deref.result.now c.args.filled.labels.items c.deref-2.result.now sources (c.deref.ensures.value ∙ r.1.numbers)
    c.deref-2.ensures.value (c.deref-in-Some.ensures.value ∙ c.in_ok-sources.ensures) in
    sources_low r.0 c.args.mesh.now c.args.filled.labels.items sources r.2.known is

pub with_labels_of-requires-clause-empty : goal.with_labels_of-requires-clause-empty
with_labels_of-requires-clause-empty c =
    let ts = triples_of c.args.filled.triples.items in
    let told = subst (Told c.deref-3.result.now ts) c.in-Some.is c.in_ok-made.ensures in
    made_unlabelled c.deref-3.result.now ts c.in-Some.made told.1

pub returns-in-Some : goal.returns-in-Some
returns-in-Some c = λ points surface filled full.
    let m = c.args.mesh.now in
    let all = placed_faces points m in
    let gs = fillings_of points all in
    let ts = triples_of c.args.filled.triples.items in
    let sources = c.deref-in-Some.result.now in
    let told = subst (Told c.deref-3.result.now ts) c.in-Some.is c.in_ok-made.ensures in
    let at = c.deref-3.ensures.value ∙ surface.stored in
    let is = sources_read (map (λ (f : Face). f.number) all) c.deref.result.now c.args.filled.labels.items c.deref-2.result.now sources (c.deref.ensures.value ∙ surface.numbers)
    c.deref-2.ensures.value (c.deref-in-Some.ensures.value ∙ c.in_ok-sources.ensures) in
    let own : map (label_at m.labels) sources ≡ new_labels gs = labels_are points m c.args.filled.labels.items sources filled.known is ∙ filled.labels in (
      taken points m ts filled.triples full told.0,
      mesh_at points c.deref-3.result.now ts (new_triples gs) (new_labels gs) c.in-Some.made _ (map (label_at m.labels) sources) at filled.triples told.1
          c.in_ok-with_labels_of-in-Some.ensures own,
    )

pub returns : goal.returns
returns c = λ points surface filled full.
    let ts = triples_of c.args.filled.triples.items in
    let told = subst (Told c.deref-3.result.now ts) c.in-None.is c.in_ok-made.ensures in
    not_closed points c.args.mesh.now ts filled.triples told
