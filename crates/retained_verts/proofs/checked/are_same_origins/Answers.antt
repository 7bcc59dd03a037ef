use Rattle.std.proofs.Common.{◌≡◌, ℕ, ◌==◌, ◌&&◌, ap, ◌∙◌}
use Rattle.std.specs.Bool.{Decides}
use Rattle.std.proofs.lemmas.Bool.Decides.{Decides-and, Decides-eqb}
use Rattle.std.proofs.lemmas.Slice.Eq.{slice_eq-Decides}
use Rattle.mb_base.specs.declared.results.Origin.{Origin}
use Rattle.mb_base.specs.declared.results.Origin.TheVariants.{PEdge, PVertex, QEdge, QVertex}
use Rattle.mb_base.specs.contracts.results.OriginPartialEq.TheImpl.{eq-value}
use Rattle.retained_verts.proofs.checked.are_same_origins.Goals as goal

-- origins of a vertex each, which are one where the vertices are
one_number : (kind : ℕ → Origin) → ((v w : ℕ) → kind v ≡ kind w → v ≡ w) → (v w : ℕ) → Decides (v == w) (kind v ≡ kind w)
one_number kind apart v w = let same = Decides-eqb v w in ((λ e. ap kind (same.0 e)), (λ e. same.1 (apart v w e)))

-- and of an edge and a face each
two_numbers : (kind : ℕ → ℕ → Origin) → ((e f v w : ℕ) → kind e f ≡ kind v w → (e ≡ v) × (f ≡ w)) →
    (e f v w : ℕ) → Decides ((e == v) && (f == w)) (kind e f ≡ kind v w)
two_numbers kind apart e f v w =
    let same = Decides-and (e == v) (f == w) (Decides-eqb e v) (Decides-eqb f w) in
    ((λ h. let parts = same.0 h in ap (λ x. kind x f) parts.0 ∙ ap (kind v) parts.1), (λ h. same.1 (apart e f v w h)))

-- comparing two origins decides whether they are one
same_origin : (a b : Origin) → Decides (eq-value.it a b) (a ≡ b)
same_origin (PVertex v) (PVertex w) = one_number (λ x. PVertex x) (λ x y e. cc) v w
same_origin (QVertex v) (QVertex w) = one_number (λ x. QVertex x) (λ x y e. cc) v w
same_origin (PEdge e f) (PEdge v w) = two_numbers (λ x y. PEdge x y) (λ x y z u h. ((cc), (cc))) e f v w
same_origin (QEdge e f) (QEdge v w) = two_numbers (λ x y. QEdge x y) (λ x y z u h. ((cc), (cc))) e f v w
same_origin (PVertex v) b = ((λ e. cc), (λ e. cc))
same_origin (QVertex v) b = ((λ e. cc), (λ e. cc))
same_origin (PEdge e f) b = ((λ h. cc), (λ h. cc))
same_origin (QEdge e f) b = ((λ h. cc), (λ h. cc))

pub returns : goal.returns
returns c = slice_eq-Decides same_origin c.args.ones.now c.args.others.now c.eq.result c.eq.ensures
