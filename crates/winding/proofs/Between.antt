-- The faces that a segment can cross, and the law along it.
use Rattle.std.proofs.Common.{◌≡◌, ◌∷◌, [], ℤ, pos, ◌+ℤ◌, List, length, ap, arith}
use Rattle.std.proofs.lemmas.Int.{ints}
use Rattle.mb_base.specs.declared.point.Corner.{Corner}
use Rattle.mb_base.specs.Boxes.{box_of}
use Rattle.edge_face.specs.Crossings.{number_of}
use Rattle.side_terms.specs.Corners.{AllFine}
use Rattle.side_terms.specs.Sides.{Side}
use Rattle.lean.proofs.Apart.{boxes_apart}
use Rattle.crossings.specs.Apart.{apart_back}
use Rattle.crossings.specs.Hits.{CrossingTest}
use Rattle.crossings.proofs.Nearby.{Separates}
use Rattle.winding.specs.Lines.{HasShadowsIn}

-- a segment has no number with a face whose box does not touch its own
pub crosses_near : (test : CrossingTest) → Separates test → (segment : List Corner) → length segment ≡ 2 → AllFine segment →
    HasShadowsIn (box_of segment) (λ face. number_of (test segment face))
crosses_near test apart segment two fine = record {
  elsewhere = λ face three face_fine far.
      let a = boxes_apart face segment (omega (arith, three)) (omega (arith, two)) far in
      ap number_of (apart segment face a.0 two three fine face_fine a.1 (apart_back a.0 face segment a.2));
}

-- two corners, as a side without triangles
abbrev pub two_corners : Corner → Corner → Side
two_corners a b = record { corners = a ∷ b ∷ []; triples = []; twins = [] }

-- before the first face all numbers are to come
pub all_to_come : (all whole : ℤ) → all ≡ whole → (pos 0 +ℤ all) ≡ whole
all_to_come all whole e = omega (arith, ints, e)

-- one number less to come
pub one_taken : (sum number rest all whole : ℤ) → all ≡ number +ℤ rest → (sum +ℤ all) ≡ whole → ((sum +ℤ number) +ℤ rest) ≡ whole
one_taken sum number rest all whole e h = omega (arith, ints, e, h)

-- none to come
pub none_to_come : (sum all whole : ℤ) → all ≡ pos 0 → (sum +ℤ all) ≡ whole → sum ≡ whole
none_to_come sum all whole e h = omega (arith, ints, e, h)
