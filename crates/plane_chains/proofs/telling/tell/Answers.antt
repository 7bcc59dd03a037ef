use Rattle.std.proofs.Common.{ap, arith, length, map, replicate, subst, sym, true, ◌<◌, ◌≡◌, ◌∙◌}
use Rattle.std.specs.List.{All, flat_map}
use Rattle.std.proofs.lemmas.List.{length-map, length-replicate, take-append-le, take_all}
use Rattle.face_plane.specs.Planes.{face_plane}
use Rattle.sheet_terms.specs.Chains.{chain, crossing_point}
use Rattle.sheet_terms.specs.Faces.{Face, labels_of}
use Rattle.plane_chains.specs.EdgeBoxes.{pair_of}
use Rattle.sheet_terms.specs.Kept.{free}
use Rattle.plane_chains.specs.Listed.{chosen, face_at}
use Rattle.plane_chains.specs.Nets.{IsStored}
use Rattle.plane_chains.specs.Pairs.{edge_at}
use Rattle.plane_chains.specs.Tellings.{left_of}
use Rattle.plane_chains.specs.Ways.{marked}
use Rattle.plane_chains.specs.Webs.{IsWeb}
use Rattle.plane_chains.proofs.ToldWebs.{web_chain, web_points}
use Rattle.plane_chains.proofs.WebPairs.{web_crossing, web_full, web_places}
use Rattle.plane_chains.proofs.telling.tell.Goals as goal

pub of-requires-clause-marks : goal.of-requires-clause-marks
of-requires-clause-marks c =
    ap length (c.deref.ensures.value ∙ c.in_ok-marks.ensures.items_if_clones_equal (λ y same. same)) ∙ length-replicate c.len.result true ∙ c.len.ensures

pub grid_points-requires-clause-places : goal.grid_points-requires-clause-places
grid_points-requires-clause-places c =
    let faces = c.args.faces.now in
    let flat = c.args.flat in
    let at = face_plane flat.plane.drop flat.turned flat.points.now in
    subst (λ es. All (λ e. All (λ v. v < length flat.points.now) e) es) (sym c.deref-2.ensures.value)
    (web_places at faces.rims.0 faces.labels.of.items c.deref.result.now c.in_ok-web.web c.in_ok-web.ensures (length flat.points.now) c.requires.places)

pub grid_points-requires-clause-crossing : goal.grid_points-requires-clause-crossing
grid_points-requires-clause-crossing c =
    let faces = c.args.faces.now in
    let flat = c.args.flat in
    let at = face_plane flat.plane.drop flat.turned flat.points.now in
    web_crossing at faces.rims.0 faces.labels.of.items c.deref.result.now c.in_ok-web.web c.in_ok-web.ensures c.deref-2.result.now c.deref-3.result.now
    c.deref-2.ensures.value c.deref-3.ensures.value

pub freed-requires-clause-marks : goal.freed-requires-clause-marks
freed-requires-clause-marks c =
    c.deref_mut.ensures.value ∙ c.in_ok-marks.ensures.items_if_clones_equal (λ y same. same) ∙ ap (λ n. replicate n true) c.len.ensures

pub freed-requires-clause-web : goal.freed-requires-clause-web
freed-requires-clause-web c =
    let faces = c.args.faces.now in
    let flat = c.args.flat in
    subst (λ ms. IsWeb (face_plane flat.plane.drop flat.turned flat.points.now) faces.rims.0 faces.labels.of.items ms c.in_ok-web.web)
    (c.deref.ensures.value ∙ sym c.deref_mut.ensures.value) c.in_ok-web.ensures

pub kept_of-requires-clause-marks : goal.kept_of-requires-clause-marks
kept_of-requires-clause-marks c =
    let same : c.deref-4.result.now ≡ c.freed.new.marks =
    c.deref-4.ensures.value ∙ take-append-le c.in_ok-marks.marks.len c.freed.new.marks _ (omega (arith, c.freed.auto.marks, c.deref_mut.ensures.len))
    ∙ take_all c.in_ok-marks.marks.len c.freed.new.marks (omega (arith, c.freed.auto.marks, c.deref_mut.ensures.len)) in
    omega (
      arith,
      ap length same,
      c.freed.auto.marks,
      ap length (c.deref_mut.ensures.value ∙ c.in_ok-marks.ensures.items_if_clones_equal (λ y same. same)),
      length-replicate c.len.result true,
      c.len.ensures,
    )

pub returns-clause-told : goal.returns-clause-told
returns-clause-told c = λ fs listed.
    let faces = c.args.faces.now in
    let flat = c.args.flat in
    let points = flat.points.now in
    let at = face_plane flat.plane.drop flat.turned points in
    let rims = faces.rims.0 in
    let numbers = faces.labels.of.items in
    let all : c.deref.result.now ≡ replicate (length fs) true =
    c.deref.ensures.value ∙ c.in_ok-marks.ensures.items_if_clones_equal (λ y same. same)
    ∙ ap (λ n. replicate n true) (c.len.ensures ∙ ap length listed.rims ∙ length-map fs (λ (f : Face). f.rim)) in
    let same : c.deref-4.result.now ≡ c.freed.new.marks =
    c.deref-4.ensures.value ∙ take-append-le c.in_ok-marks.marks.len c.freed.new.marks _ (omega (arith, c.freed.auto.marks, c.deref_mut.ensures.len))
    ∙ take_all c.in_ok-marks.marks.len c.freed.new.marks (omega (arith, c.freed.auto.marks, c.deref_mut.ensures.len)) in
    let own : chosen c.freed.new.marks fs ≡ free at fs = c.in_ok-web-2.ensures.free fs listed.rims listed.labels in
    record {
      points = web_points at fs rims numbers listed.rims listed.labels points c.deref.result.now c.in_ok-web.web c.in_ok-points.points.items c.in_ok-web.ensures all
          (c.in_ok-points.ensures.points
          ∙ (λ i. flat_map (λ p. crossing_point points at (edge_at (map pair_of (c.deref-2.ensures.value i)) (pair_of p).0) (edge_at (map pair_of (c.deref-2.ensures.value i)) (pair_of p).1))
          (c.deref-3.ensures.value i)));
      kept = c.in_ok-kept.ensures.kept at fs listed ∙ ap (left_of at fs) (ap (λ ms. chosen ms fs) same ∙ own);
      chain = subst (λ fs_own. IsStored (chain (labels_of fs) fs_own) c.in_ok-web-2.web.chain.edges.items c.in_ok-web-2.web.chain.nets.0) own
          (web_chain at fs rims numbers listed.rims listed.labels c.freed.new.marks c.in_ok-web-2.web c.in_ok-web-2.ensures.web);
    }

pub returns-clause-free : goal.returns-clause-free
returns-clause-free c = λ fs listed.
    let faces = c.args.faces.now in
    let flat = c.args.flat in
    let at = face_plane flat.plane.drop flat.turned flat.points.now in
    let many : length c.freed.new.marks ≡ length fs =
    omega (
      arith,
      c.freed.auto.marks,
      ap length (c.deref_mut.ensures.value ∙ c.in_ok-marks.ensures.items_if_clones_equal (λ y same. same)),
      length-replicate c.len.result true,
      c.len.ensures,
      ap length listed.rims,
      length-map fs (λ (f : Face). f.rim),
    ) in
    let same : c.deref-5.result.now ≡ c.freed.new.marks =
    c.deref-5.ensures.value ∙ take-append-le c.in_ok-marks.marks.len c.freed.new.marks _ (omega (arith, c.freed.auto.marks, c.deref_mut.ensures.len))
    ∙ take_all c.in_ok-marks.marks.len c.freed.new.marks (omega (arith, c.freed.auto.marks, c.deref_mut.ensures.len)) in
    c.in_ok-free.ensures ∙ (λ i. length (marked (same i) (length (same i)))) ∙ ap (λ n. length (marked c.freed.new.marks n)) many
    ∙ sym (length-map (marked c.freed.new.marks (length fs)) (face_at fs)) ∙ ap length (c.in_ok-web-2.ensures.free fs listed.rims listed.labels)

pub returns-clause-few : goal.returns-clause-few
returns-clause-few c = c.in_ok-web-2.ensures.web.few

pub returns-clause-places : goal.returns-clause-places
returns-clause-places c =
    let faces = c.args.faces.now in
    let flat = c.args.flat in
    let at = face_plane flat.plane.drop flat.turned flat.points.now in
    web_places at faces.rims.0 faces.labels.of.items c.freed.new.marks c.in_ok-web-2.web c.in_ok-web-2.ensures.web (length flat.points.now) c.requires.places

pub returns-clause-full : goal.returns-clause-full
returns-clause-full c =
    let faces = c.args.faces.now in
    let flat = c.args.flat in
    let at = face_plane flat.plane.drop flat.turned flat.points.now in
    web_full at faces.rims.0 faces.labels.of.items c.freed.new.marks c.in_ok-web-2.web c.in_ok-web-2.ensures.web

pub returns-clause-small : goal.returns-clause-small
returns-clause-small c = c.in_ok-web-2.ensures.web.small
