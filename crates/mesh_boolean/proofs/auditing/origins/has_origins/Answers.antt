use Rattle.std.proofs.Common.{◌≡◌, ◌↔◌, ◌<◌, ℕ, length, subst, arith}
use Rattle.std.specs.Prelude.{IfOk, IsTrue}
use Rattle.std.specs.List.{Contains}
use Rattle.std.proofs.lemmas.Result.{IfOk-weaker}
use Rattle.mesh_boolean.specs.Audited.{LieThere}
use Rattle.mesh_boolean.specs.Results.{HasOrigins}
use Rattle.mesh_boolean.proofs.auditing.origins.has_origins.Goals as goal

pub returns : goal.returns
returns c =
    let r = c.args.outcome.now in
    let points = r.mesh.points in
    let old = r.prescribed.points.items in
    let from = r.from.items in
    let lie : LieThere points old from =
    subst (LieThere points old) c.deref-2.ensures.value
    (subst (λ o. LieThere points o c.deref-2.result.now) c.deref.ensures.value
    (subst (λ p. LieThere p c.deref.result.now c.deref-2.result.now) c.points.ensures.value (c.lie_there.ensures.0 c.if-not-lie_there.false))) in
    let count : c.len.result ≡ length old = omega (arith, c.len.ensures, r.prescribed.points.ok.0) in
    let occur : IfOk c.all_occur.result (λ b. IsTrue b ↔ ((w : ℕ) → w < length old → Contains from w)) =
    subst (λ n. IfOk c.all_occur.result (λ b. IsTrue b ↔ ((w : ℕ) → w < n → Contains from w))) count
    (subst (λ f. IfOk c.all_occur.result (λ b. IsTrue b ↔ ((w : ℕ) → w < c.len.result → Contains f w))) c.deref-3.ensures.value c.all_occur.ensures) in
    IfOk-weaker c.all_occur.result (λ b. IsTrue b ↔ ((w : ℕ) → w < length old → Contains from w)) (λ b. IsTrue b ↔ HasOrigins r)
    (λ b iff. ((λ e. record { each = lie.each; there = lie.there; all = iff.0 e }), (λ h. iff.1 h.all))) occur
