-- What fills the regions of a plan is what the definition fills the planes with.
use Rattle.std.proofs.Common.{◌≡◌, ◌∙◌, ◌<◌, ◌==◌, ℕ, ℤ, Bool, List, true, false, ap, arith, length, map, subst, sym, Option, None, Some, Result, Ok, Err}
use Rattle.std.specs.Prelude.{IfOk, MatchOption, sum_by}
use Rattle.std.specs.List.{All}
use Rattle.std.proofs.lemmas.Bool.{and_from, and_left, and_right, eq-eqb, ne_eqb}
use Rattle.std.proofs.lemmas.List.{length-map}
use Rattle.std.proofs.lemmas.List.Elements.{All-map, All-weaker}
use Rattle.mesh_terms.specs.Meshes.{HasThree, IsBelow, Triple, triples_of}
use Rattle.plane_filling.specs.declared.filling.Filled.{Filled}
use Rattle.plane_filling.specs.Pieces.{AreFilled, CanBeFilled, Piece, all_pieces, forced_of}
use Rattle.plane_groups.specs.Grouped.{face_at}
use Rattle.sheet_terms.specs.Faces.{Face}
use Rattle.sheet_terms.specs.Filled.{Filling}
use Rattle.sheet_terms.specs.Places.{has_three}
use Rattle.plane_remesh.specs.declared.plan.Plan.{Plan}
use Rattle.plane_remesh.specs.declared.surface.CutSurface.{CutSurface}
use Rattle.plane_remesh.specs.Plans.{HasFilled, IsPlan, fillings_of, fills, keep_boundaries}
use Rattle.plane_remesh.specs.Surfaces.{IsSurface}
use Rattle.plane_remesh.proofs.AllPlanes.{apart_places}
use Rattle.plane_remesh.proofs.Pieces.{ArePieces, pieces_sound}

-- a plan that isn't sound
pub not_sound : (points : List (List ℤ)) (all : List Face) (p : Plan) → IsPlan points all p → p.sound ≡ false → fills points all ≡ false
not_sound points all p plan out =
    and_right (sum_by (λ (g : Filling). g.forced) (fillings_of points all) == 0) (keep_boundaries points all) (sym plan.sound ∙ out)

module _ (points : List (List ℤ)) (all : List Face) (u : CutSurface) (is : IsSurface points all u) (p : Plan) (plan : IsPlan points all p) (sound : p.sound ≡ true) where
  abbrev ts : List Triple
  ts = map (λ f. f.corners) all

  abbrev pieces : List Piece
  pieces = all_pieces points ts p.alone.items p.regions p.ways

  many : length ts ≡ length all
  many = length-map all (λ (f : Face). f.corners)

  pieces_are : forced_of pieces ≡ 0 → ArePieces (length points) (length ts) pieces
  pieces_are none =
      pieces_sound points ts p.alone.items p.regions p.ways
      (subst (λ n. CanBeFilled n (length points) p.regions) (sym many) plan.regions)
      (subst (λ n. All (λ x. x.label < n) p.regions.all.items) (sym many) plan.known)
      (All-map HasThree (λ (f : Face). f.corners) all (All-weaker (λ f. has_three f.corners ≡ true) (λ f. HasThree f.corners) (λ f. apart_places f.corners) all is.three))
      (All-map (IsBelow (length points)) (λ (f : Face). f.corners) all is.below) none

  pub as_filled : (made : Option Filled) → MatchOption made (0 < forced_of pieces) (AreFilled pieces) →
      MatchOption made (fills points all ≡ false) (λ f. (fills points all ≡ true) × HasFilled points all f)
  as_filled None some =
      and_left (sum_by (λ (g : Filling). g.forced) (fillings_of points all) == 0) (keep_boundaries points all)
      (ne_eqb (sum_by (λ (g : Filling). g.forced) (fillings_of points all)) 0 (λ none. omega (arith, some, plan.fill.forced, none)))
  as_filled (Some f) are =
      let sure = pieces_are are.unforced in (
        and_from (sum_by (λ (g : Filling). g.forced) (fillings_of points all) == 0) (keep_boundaries points all)
            (eq-eqb (sum_by (λ (g : Filling). g.forced) (fillings_of points all)) 0 (sym plan.fill.forced ∙ are.unforced)) (sym plan.sound ∙ sound),
        record {
          triples = are.triples ∙ plan.fill.triples;
          labels = ap (map (λ t. (face_at all t).label)) are.labels ∙ plan.fill.labels;
          three = subst (All HasThree) (sym are.triples) sure.three;
          below = subst (All (IsBelow (length points))) (sym are.triples) sure.below;
          known = subst (λ n. All (λ t. t < n) f.labels.items) many (subst (All (λ t. t < length ts)) (sym are.labels) sure.known);
        },
      )

  -- whatever comes of the call, with the points and triangles that were read
  pub filled_as : {E : Type 0} (r : Result (Option Filled) E) (at : List (List ℤ)) (read : List (List ℕ)) (marks : List Bool) →
      at ≡ u.over.points.items → read ≡ u.over.triples.items →
      marks ≡ p.alone.items →
      IfOk r (λ made. let ps = all_pieces at (triples_of read) marks p.regions p.ways in MatchOption made (0 < forced_of ps) (AreFilled ps)) →
      IfOk r (λ made. MatchOption made (fills points all ≡ false) (λ f. (fills points all ≡ true) × HasFilled points all f))
  filled_as (Err e) at read marks a t m h = tt
  filled_as (Ok made) at read marks a t m h =
      as_filled made (subst (λ ps. MatchOption made (0 < forced_of ps) (AreFilled ps))
      (λ i. all_pieces ((a ∙ is.stored) i) ((ap triples_of t ∙ is.corners) i) (m i) p.regions p.ways) h)
