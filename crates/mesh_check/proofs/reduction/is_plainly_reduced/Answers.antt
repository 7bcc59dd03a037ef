use Rattle.std.proofs.Common.{◌≡◌, IsTrue, List, length, sym, ap, subst}
use Rattle.mesh_terms.specs.Labels.{AreLabels}
use Rattle.mesh_terms.specs.Meshes.{Triple, Mesh, Soup, IsMesh}
use Rattle.mesh_check.specs.Reduced.{reduced, NoOpposite}
use Rattle.mesh_check.proofs.Across.{kept_none_opposite}
use Rattle.mesh_check.proofs.ReducedMesh.{reduced_itself}
use Rattle.mesh_check.proofs.reduction.is_plainly_reduced.Goals as goal

-- a mesh without opposite triples is its reduced mesh
none_goes : (m : Mesh) (us : List Triple) → us ≡ m.triples → NoOpposite us → IsMesh (length m.points) m.triples → AreLabels (length m.triples) m.labels
    → reduced m.points m.triples m.labels ≡ record { points = m.points; triples = m.triples; labels = m.labels; unused = 0 }
none_goes m us same none mesh labels = reduced_itself m.points m.triples m.labels mesh labels.one_each (kept_none_opposite m.triples (subst NoOpposite same none))

-- which is this one
found_here : (c : goal.After-has_no_opposites) → IsTrue c.has_no_opposites.result
    → reduced c.args.mesh.now.points c.args.mesh.now.triples c.args.mesh.now.labels
    ≡ record { points = c.args.mesh.now.points; triples = c.args.mesh.now.triples; labels = c.args.mesh.now.labels; unused = 0 }
found_here c found =
    none_goes c.args.mesh.now c.twins.result.now.triples c.twins.ensures.triples (c.has_no_opposites.ensures found) c.twins.ensures.accepted.mesh c.labels.ensures.labels

pub returns-clause-points : goal.returns-clause-points
returns-clause-points c = λ found. sym (ap (λ (s : Soup). s.points) (found_here c found))

pub returns-clause-triples : goal.returns-clause-triples
returns-clause-triples c = λ found. sym (ap (λ (s : Soup). s.triples) (found_here c found))

pub returns-clause-labels : goal.returns-clause-labels
returns-clause-labels c = λ found. sym (ap (λ (s : Soup). s.labels) (found_here c found))

pub returns-clause-apart : goal.returns-clause-apart
returns-clause-apart c = λ found. subst NoOpposite c.twins.ensures.triples (c.has_no_opposites.ensures found)
