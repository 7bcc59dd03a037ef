-- The answers of edges with vertices are sized and have fine spots.
use Rattle.std.specs.Prelude.{List, [], ◌∷◌, Option, None, Some, IfSome}
use Rattle.std.proofs.Common.{arith}
use Rattle.std.proofs.lemmas.List.Elements.{All-cons, All-nil}
use Rattle.mb_base.specs.declared.point.Corner.{Corner}
use Rattle.side_terms.specs.Corners.{IsFineCorner, AllFine}
use Rattle.shadow_kernels.specs.ShadowLaws.{IsInHull}
use Rattle.shadow_kernels.specs.declared.Meet.{Meet}
use Rattle.shadow_kernels.specs.Spots.{Between}
use Rattle.shadow_kernels.specs.Rules.{Rule}
use Rattle.shadow_kernels.specs.Bounds.{IsFineSpot, IsFinePair, hull_fine}
use Rattle.shadow_kernels.specs.Hulls.{placed}
use Rattle.shadow_kernels.specs.Lawful.{IsRule}
use Rattle.shadow_kernels.specs.declared.Edge.{Edge}
use Rattle.shadow_kernels.specs.declared.Edge.TheVariants.{OfP, OfQ}
use Rattle.shadow_kernels.specs.Edges.{edge_meet}
use Rattle.shadow_kernels.specs.Decided.{IsDecided}
use Rattle.shadow_kernels.specs.Levels.{edge_decided}

-- one fine corner
pub fine_one : (p : Corner) → IsFineCorner p → AllFine (p ∷ [])
fine_one p h = All-cons IsFineCorner p [] h (All-nil IsFineCorner)

-- two fine corners
pub fine_two : (p q : Corner) → IsFineCorner p → IsFineCorner q → AllFine (p ∷ q ∷ [])
fine_two p q h k = All-cons IsFineCorner p (q ∷ []) h (fine_one q k)

-- three fine corners
pub fine_three : (p q r : Corner) → IsFineCorner p → IsFineCorner q → IsFineCorner r → AllFine (p ∷ q ∷ r ∷ [])
fine_three p q r h k l = All-cons IsFineCorner p (q ∷ r ∷ []) h (fine_two q r k l)

-- an answer with its spot in the boxes of fine corners has a fine spot
pub fine_spot : (ps qs : List Corner) → AllFine ps → AllFine qs → (m : Option Meet) → IfSome m (λ n. IsInHull ps qs n.spot) → IfSome m (λ n. IsFineSpot n.spot)
fine_spot ps qs fp fq None h = tt
fine_spot ps qs fp fq (Some m) h = hull_fine ps qs m.spot fp fq h

-- and is sized, where it is decided in the boxes
pub fine_pair : (ps qs : List Corner) → AllFine ps → AllFine qs → (m : Option Meet) → IsDecided 1 ps qs m → IsFinePair m
fine_pair ps qs fp fq m h = record { sized = h.sized; fine = fine_spot ps qs fp fq m (h.hull (omega arith)) }

-- so the answer of an edge and a vertex is sized and has a fine spot
pub edge_fine : (e : Edge) {k : Rule} {w : Between} → IsRule k w → (v c d : Corner) → IsFineCorner v → IsFineCorner c → IsFineCorner d → IsFinePair (edge_meet e k w v c d)
edge_fine OfP {k} {w} rule v c d hv hc hd =
    let fe = fine_two c d hc hd in
    let fv = fine_one v hv in
    fine_pair (c ∷ d ∷ []) (v ∷ []) fe fv (edge_meet OfP k w v c d)
    (edge_decided rule OfP (c ∷ d ∷ []) (v ∷ []) v c d (placed (v ∷ []) 0 fv (omega arith)) (placed (c ∷ d ∷ []) 0 fe (omega arith))
    (placed (c ∷ d ∷ []) 1 fe (omega arith)))
edge_fine OfQ {k} {w} rule v c d hv hc hd =
    let fe = fine_two c d hc hd in
    let fv = fine_one v hv in
    fine_pair (v ∷ []) (c ∷ d ∷ []) fv fe (edge_meet OfQ k w v c d)
    (edge_decided rule OfQ (v ∷ []) (c ∷ d ∷ []) v c d (placed (v ∷ []) 0 fv (omega arith)) (placed (c ∷ d ∷ []) 0 fe (omega arith))
    (placed (c ∷ d ∷ []) 1 fe (omega arith)))
