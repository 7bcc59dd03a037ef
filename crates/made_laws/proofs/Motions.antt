-- Moved meshes.
use Rattle.std.proofs.Common.{◌≡◌, ℤ, pos, Bool, true, false, List, length, map, refl, sym, subst, arith}
use Rattle.std.specs.Prelude.{if◌then◌else◌, None, Some}
use Rattle.std.specs.List.{All}
use Rattle.std.proofs.lemmas.List.{length-map}
use Rattle.std.proofs.lemmas.List.Elements.{All-map}
use Rattle.made_terms.specs.Motions.{mirrored, quarter_turned, scaled, shifted, turned_over}
use Rattle.made_terms.specs.Refusals.{Outside, all_on_grid, moved_fault}
use Rattle.mesh_terms.specs.Given.{IsGiven, IsGivenWithin}
use Rattle.mesh_terms.specs.Labels.{AreLabels}
use Rattle.mesh_terms.specs.Limits.{Limits}
use Rattle.mesh_terms.specs.Meshes.{IsAccepted, Mesh, Triple}
use Rattle.mesh_terms.specs.Points.{IsPoint}
use Rattle.made_terms.specs.Motions.{motion_fault, moved_mesh}
use Rattle.made_terms.specs.declared.motion.Motion.{Motion}
use Rattle.made_terms.specs.declared.motion.Motion.TheVariants.{Mirror, Scale, Shift, Turn}
use Rattle.made_laws.specs.Laws.{IsMovedFrom}
use Rattle.made_laws.proofs.Mirrors.{turned_accepted}
use Rattle.made_laws.proofs.Points.{is_three, mirrored_point, moved_points, turned_point}

-- moved points that are not refused are on the grid
stayed : (points : List (List ℤ)) → moved_fault points ≡ None → all_on_grid points ≡ true
stayed points none = by_test (all_on_grid points) none
  where
    by_test : (b : Bool) → (if b then None else Some Outside) ≡ None → b ≡ true
    by_test true none = refl
    by_test false none = cc

-- other points of the grid with as many triangles, which keep their labels
with_points : (f : List ℤ → List ℤ) (m : Mesh) (ts : List Triple) → IsAccepted (length m.points) ts → length ts ≡ length m.triples →
    All IsPoint (map f m.points) → AreLabels (length m.triples) m.labels
    → IsMovedFrom m (record { points = map f m.points; triples = ts; labels = m.labels })
with_points f m ts accepted same on_grid labels = record {
  given = record {
    accepted = subst (λ n. IsAccepted n ts) (sym (length-map m.points f)) accepted;
    on_grid = on_grid;
    labels = subst (λ n. AreLabels n m.labels) (sym same) labels;
  };
  same_points = length-map m.points f;
  same_triples = same;
}

-- a motion that may leave the grid
to_rows : (f : List ℤ → List ℤ) (m : Mesh) → ((p : List ℤ) → is_three (f p) ≡ true) → IsGiven m → moved_fault (map f m.points) ≡ None
    → IsMovedFrom m (record { points = map f m.points; triples = m.triples; labels = m.labels })
to_rows f m three given none = with_points f m m.triples given.accepted refl (moved_points f m.points three (stayed (map f m.points) none)) given.labels

-- a motion that is not refused keeps what is known of a mesh
pub motion_kept : (motion : Motion) (m : Mesh) → IsGiven m → motion_fault motion m.points ≡ None → IsMovedFrom m (moved_mesh motion m)
motion_kept (Shift by) m given none = to_rows (shifted by) m (λ p. refl) given none
motion_kept (Scale factor) m given none = to_rows (scaled (pos factor)) m (λ p. refl) given none
motion_kept (Mirror axis) m given none =
    with_points (mirrored axis) m (map turned_over m.triples) (turned_accepted (length m.points) m.triples given.accepted) (length-map m.triples turned_over)
    (All-map IsPoint (mirrored axis) m.points (λ k d low. mirrored_point axis _ (given.on_grid k d low))) given.labels
motion_kept (Turn axis) m given none =
    with_points (quarter_turned axis) m m.triples given.accepted refl
    (All-map IsPoint (quarter_turned axis) m.points (λ k d low. turned_point axis _ (given.on_grid k d low))) given.labels

-- so it keeps a mesh within limits
pub moved_within : (limits : Limits) (motion : Motion) (m : Mesh) → IsGivenWithin limits m → motion_fault motion m.points ≡ None
    → IsGivenWithin limits (moved_mesh motion m)
moved_within limits motion m within none =
    let kept = motion_kept motion m within.given none in
    record {
      given = kept.given;
      few_points = omega (arith, kept.same_points, within.few_points);
      few_triples = omega (arith, kept.same_triples, within.few_triples);
    }
