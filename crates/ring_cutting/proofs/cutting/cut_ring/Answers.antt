use Rattle.std.proofs.Common.{◌≡◌, ◌+◌, ◌≤◌, Result, Ok, Err, length, sym, subst}
use Rattle.std.specs.Prelude.{IfOk}
use Rattle.std.specs.List.{All}
use Rattle.chain_terms.specs.Chains.{all_edges}
use Rattle.chain_laws.specs.Chains.{boundary_same}
use Rattle.chain_terms.specs.Sums.{total}
use Rattle.chain_terms.specs.Paths.{round_edges}
use Rattle.face_plane.specs.Keeping.{AreProper, KeepsChain}
use Rattle.face_plane.specs.Planes.{Plane, area, face_plane, orient}
use Rattle.ring_cutting.specs.Cuts.{Cut, cut_ring}
use Rattle.ring_cutting.specs.Laws.{TurnsLeft, IsCutting}
use Rattle.ring_cutting.proofs.Areas.{areas}
use Rattle.ring_cutting.proofs.WholeCuts.{cutting, below_of}
use Rattle.ring_cutting.proofs.cutting.cut_ring.Goals as goal

-- what holds of the cutting of the ring holds of what was made
of_made : {E : Type 0} (c : Cut) (P : Cut → Type 0) (r : Result Cut E) → P c → IfOk r (λ f. f ≡ c) → IfOk r P
of_made c P (Ok f) h e = subst P (sym e) h
of_made c P (Err x) h e = e

-- the plane of the face
abbrev plane_at : goal.After-cut_ring_long_from → Plane
plane_at c = face_plane c.args.plane.drop c.args.turned c.args.points.now

made : (c : goal.After-cut_ring_long_from) → IfOk c.cut_ring_long_from.result (λ f. f ≡ cut_ring (plane_at c) c.args.ring)
made c = c.cut_ring_long_from.ensures

laws : (c : goal.After-cut_ring_long_from) → IsCutting (plane_at c) c.args.ring (cut_ring (plane_at c) c.args.ring)
laws c = cutting (plane_at c) c.args.ring c.requires.ring.ringy

pub returns-clause-value : goal.returns-clause-value
returns-clause-value c = made c

pub returns-clause-count : goal.returns-clause-count
returns-clause-count c =
    of_made (cut_ring (plane_at c) c.args.ring) (λ f. length f.triples + 2 ≡ length c.args.ring) c.cut_ring_long_from.result (laws c).count (made c)

pub returns-clause-keeps : goal.returns-clause-keeps
returns-clause-keeps c =
    let whole = cut_ring (plane_at c) c.args.ring in
    of_made whole (λ f. KeepsChain (all_edges f.triples) (round_edges c.args.ring)) c.cut_ring_long_from.result
    (record { boundary = boundary_same (all_edges whole.triples) (round_edges c.args.ring) (laws c).chain; chain = (laws c).chain }) (made c)

pub returns-clause-areas : goal.returns-clause-areas
returns-clause-areas c =
    let whole = cut_ring (plane_at c) c.args.ring in
    of_made whole (λ f. total (λ t. orient (plane_at c) t.0 t.1 t.2) f.triples ≡ area (plane_at c) c.args.ring) c.cut_ring_long_from.result
    (areas (plane_at c) c.args.ring whole.triples (laws c).chain) (made c)

pub returns-clause-proper : goal.returns-clause-proper
returns-clause-proper c =
    let whole = cut_ring (plane_at c) c.args.ring in
    of_made whole (λ f. AreProper (length c.args.points.now) f.triples) c.cut_ring_long_from.result
    (record { three = (laws c).three; below = below_of (length c.args.points.now) c.args.ring whole.triples c.requires.ring.below (laws c).of }) (made c)

pub returns-clause-most : goal.returns-clause-most
returns-clause-most c =
    of_made (cut_ring (plane_at c) c.args.ring) (λ f. f.forced ≤ length f.triples) c.cut_ring_long_from.result (laws c).few (made c)

pub returns-clause-left : goal.returns-clause-left
returns-clause-left c =
    of_made (cut_ring (plane_at c) c.args.ring) (λ f. f.forced ≡ 0 → All (TurnsLeft (plane_at c)) f.triples) c.cut_ring_long_from.result
    (laws c).left (made c)
