use Rattle.std.proofs.Common.{ℕ, ℤ, ◌∷◌, [], List, length, refl, ap, sym, ◌∙◌, subst}
use Rattle.chain_terms.specs.Chains.{all_edges}
use Rattle.mb_base.specs.declared.results.Hit.{Hit}
use Rattle.mesh_terms.specs.Meshes.{Triple}
use Rattle.side_terms.specs.Corners.{corner_at}
use Rattle.shadow_kernels.specs.Counts.{shadow_of}
use Rattle.side_terms.specs.Sides.{IsSide, edge_of, face_of}
use Rattle.lean.proofs.Corners.{edge_fine, face_fine}
use Rattle.side_terms.specs.Hits.{AreHits, AllCross}
use Rattle.crossings.specs.Hits.{CrossingTest, hits_of}
use Rattle.crossings.specs.Agreement.{PairsAgree}
use Rattle.crossings.proofs.Order.{all_listed, hits_in_order}
use Rattle.crossings.proofs.Rounds.{pairs_agree}
use Rattle.crossings.proofs.both.crossings.Goals as goal

pub returns-clause-x12 : goal.returns-clause-x12
returns-clause-x12 g c = c.in_ok-x12.ensures

pub returns-clause-x21 : goal.returns-clause-x21
returns-clause-x21 g c = c.in_ok-x21.ensures

pub returns-clause-x12_listed : goal.returns-clause-x12_listed
returns-clause-x12_listed g c =
    let p = c.args.p.now in
    let q = c.args.q.now in
    let test : CrossingTest = g.K.Crosses-1.crossing_of c.args.kernels.now in
    subst (AreHits (all_edges p.triples) (length q.triples)) (sym c.in_ok-x12.ensures)
    (hits_in_order test p q (all_listed test c.args.p.now c.args.q.now c.twins.ensures.side.fine c.twins-2.ensures.side.fine
    (λ e f l m a b. ((g.met.K.Crosses-1.laws c.args.kernels.now).present e f l m a b, (g.met.K.Crosses-1.laws c.args.kernels.now).size e f l m a b)))).0

pub returns-clause-x12_cross : goal.returns-clause-x12_cross
returns-clause-x12_cross g c =
    let test : CrossingTest = g.K.Crosses-1.crossing_of c.args.kernels.now in
    subst AllCross (sym c.in_ok-x12.ensures)
    (hits_in_order test c.args.p.now c.args.q.now
    (all_listed test c.args.p.now c.args.q.now c.twins.ensures.side.fine c.twins-2.ensures.side.fine
    (λ e f l m a b. ((g.met.K.Crosses-1.laws c.args.kernels.now).present e f l m a b, (g.met.K.Crosses-1.laws c.args.kernels.now).size e f l m a b)))).1

pub returns-clause-x21_listed : goal.returns-clause-x21_listed
returns-clause-x21_listed g c =
    let p = c.args.p.now in
    let q = c.args.q.now in
    let test : CrossingTest = λ edge face. g.K.Crosses-2.crossing_of c.args.kernels.now face edge in
    subst (AreHits (all_edges q.triples) (length p.triples)) (sym c.in_ok-x21.ensures)
    (hits_in_order test q p (all_listed test c.args.q.now c.args.p.now c.twins-2.ensures.side.fine c.twins.ensures.side.fine
    (λ e f l m a b. ((g.met.K.Crosses-2.laws c.args.kernels.now).present f e m l b a, (g.met.K.Crosses-2.laws c.args.kernels.now).size f e m l b a)))).0

pub returns-clause-x21_cross : goal.returns-clause-x21_cross
returns-clause-x21_cross g c =
    let test : CrossingTest = λ edge face. g.K.Crosses-2.crossing_of c.args.kernels.now face edge in
    subst AllCross (sym c.in_ok-x21.ensures)
    (hits_in_order test c.args.q.now c.args.p.now
    (all_listed test c.args.q.now c.args.p.now c.twins-2.ensures.side.fine c.twins.ensures.side.fine
    (λ e f l m a b. ((g.met.K.Crosses-2.laws c.args.kernels.now).present f e m l b a, (g.met.K.Crosses-2.laws c.args.kernels.now).size f e m l b a)))).1

pub returns-clause-pair_identity : goal.returns-clause-pair_identity
returns-clause-pair_identity g c =
    let k = c.args.kernels.now in
    let p = c.args.p.now in
    let q = c.args.q.now in
    let p_side : IsSide p = c.twins.ensures.side in
    let q_side : IsSide q = c.twins-2.ensures.side in
    let test12 : CrossingTest = g.K.Crosses-1.crossing_of k in
    let test21 : CrossingTest = λ edge face. g.K.Crosses-2.crossing_of k face edge in
    let up : Triple → ℕ → ℤ = λ t v. shadow_of (g.K.Meets-5.meet_of k (corner_at p.corners v ∷ []) (face_of q.corners t)) in
    let down : Triple → ℕ → ℤ = λ t v. shadow_of (g.K.Meets-6.meet_of k (face_of p.corners t) (corner_at q.corners v ∷ [])) in
    let sides : (ℕ × ℕ) → (ℕ × ℕ) → ℤ = λ e d. shadow_of (g.K.Meets-4.meet_of k (edge_of p.corners e.0 e.1) (edge_of q.corners d.0 d.1)) in
    let pc = corner_at p.corners in
    let qc = corner_at q.corners in
    let agree = pairs_agree p q test12 test21 up down sides p_side q_side
    (λ t a b. (g.met.K.Crosses-1.laws k).turn_p (edge_of p.corners a b) (face_of q.corners t) refl refl refl (edge_fine p.corners p_side.fine a b)
    (face_fine q.corners q_side.fine t))
    (λ t a b. (g.met.K.Crosses-2.laws k).turn_q (face_of p.corners t) (edge_of q.corners a b) refl refl refl (face_fine p.corners p_side.fine t)
    (edge_fine q.corners q_side.fine a b))
    (λ t a b. g.met.K.Kernels.lift_12 k (pc a) (pc b) (qc t.0) (qc t.1) (qc t.2) (edge_fine p.corners p_side.fine a b) (face_fine q.corners q_side.fine t))
    (λ t a b. g.met.K.Kernels.lift_21 k (pc t.0) (pc t.1) (pc t.2) (qc a) (qc b) (face_fine p.corners p_side.fine t) (edge_fine q.corners q_side.fine a b)) in
    subst (λ (l : List Hit × List Hit). PairsAgree p q l.0 l.1)
    (sym (ap (λ (l : List Hit). (l, c.in_ok-x21.x21.items)) c.in_ok-x12.ensures ∙ ap (λ (l : List Hit). (hits_of test12 p q, l)) c.in_ok-x21.ensures)) agree
