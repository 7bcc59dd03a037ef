-- Meshes with one vertex for each fan, by their parts.
use Rattle.std.proofs.Common.{◌≡◌, ◌*◌, ◌+◌, ◌∙◌, ℕ, ℤ, List, [], ap, get_or, length, map, refl, replicate, subst, sym}
use Rattle.std.proofs.lemmas.List.{length-map}
use Rattle.chain_terms.specs.Sums.{upto}
use Rattle.chain_laws.proofs.Places.{length-up_from}
use Rattle.face_plane.specs.Planes.{point_at}
use Rattle.mesh_terms.specs.Labels.{no_labels}
use Rattle.mesh_terms.specs.Meshes.{IsAccepted, Mesh, Soup, Triple, renumbered, used_from}
use Rattle.sheet_terms.specs.Twins.{twins_by_angle}
use Rattle.sheet_terms.specs.Vertices.{fans_by, over_fans, settled}
use Rattle.fan_laws.specs.Laws.{parted}
use Rattle.unused_points.proofs.AllUsed.{soup_of-all}
use Rattle.plane_remesh.specs.Rules.{IsFanned, IsOfUsed, IsParted}
use Rattle.plane_remesh.proofs.Labels.{renumbered_count}

-- as many triangles with fans parted
over_long : (of : List ℕ) (n : ℕ) → length (over_fans of n) ≡ n
over_long of n = length-map (upto n) (λ t. (get_or of (3 * t) 0, get_or of (3 * t + 1) 0, get_or of (3 * t + 2) 0)) ∙ length-up_from 0 n

parted_long : (points : List (List ℤ)) (ts : List Triple) → length (parted points ts).triples ≡ length ts
parted_long points ts = over_long (fans_by (length points) ts (settled (length points) ts (twins_by_angle points ts))).of (length ts)

-- a mesh of what parting gives, which uses all points
pub parted_is : (points : List (List ℤ)) (ts : List Triple) (at : List (List ℤ)) (us : List Triple) (m : Mesh) → at ≡ map (point_at points) (parted points ts).from →
    us ≡ (parted points ts).triples → IsAccepted (length at) us → IsOfUsed at us m → IsParted points ts m
parted_is points ts at us m fans triples accepted used =
    let whole = soup_of-all at us [] accepted.mesh.below accepted.mesh.used in
    record {
      fans = used.used ∙ ap (λ (s : Soup). s.points) whole ∙ fans;
      triples = used.triples ∙ ap (λ (s : Soup). s.triples) whole ∙ triples;
      labels = used.labels ∙ ap (λ n. replicate {A = List ℕ} n []) (ap length triples ∙ parted_long points ts);
    }

-- first the one, then the other
pub fanned_is : (points : List (List ℤ)) (ts : List Triple) (closed m : Mesh) → IsOfUsed points ts closed → IsParted closed.points closed.triples m → IsFanned points ts m
fanned_is points ts closed m used is =
    subst (λ ps. IsParted ps (renumbered ts) m) used.used (subst (λ us. IsParted closed.points us m) used.triples is)

pub made_long : (points : List (List ℤ)) (ts : List Triple) (made : Mesh) → IsFanned points ts made → length made.triples ≡ length ts
made_long points ts made is = ap length is.triples ∙ parted_long (used_from ts 0 points) (renumbered ts) ∙ renumbered_count ts (renumbered ts) refl

pub made_unlabelled : (points : List (List ℤ)) (ts : List Triple) (made : Mesh) → IsFanned points ts made → made.labels ≡ no_labels made.triples
made_unlabelled points ts made is =
    let many : length (renumbered ts) ≡ length made.triples = sym (ap length is.triples ∙ parted_long (used_from ts 0 points) (renumbered ts)) in
    is.labels ∙ ap (λ n. replicate {A = List ℕ} n []) many
