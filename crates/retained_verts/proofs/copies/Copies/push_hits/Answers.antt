use Rattle.std.proofs.Common.{◌≡◌, ◌+◌, ◌++◌, [], ◌∷◌, take, get_or, nat_abs, arith, ap, refl, ◌∙◌}
use Rattle.mb_base.specs.declared.results.Hit.{Hit}
use Rattle.side_terms.specs.Prescribed.{Prescription, hit_number_of, prescribed_hits}
use Rattle.retained_verts.specs.Parts.{edge_origin}
use Rattle.side_terms.specs.Hits.{IsNumber}
use Rattle.retained_verts.proofs.Fits.{kept_8, kept_64}
use Rattle.retained_verts.proofs.Growth.{grown, hits_more}
use Rattle.retained_verts.proofs.copies.Copies.push_hits.Goals as goal

pub loop-hit-preserved : goal.loop-hit-preserved
loop-hit-preserved c =
    let hs = c.args.hits.now in
    let i = c.loop-hit.hit-index in
    let h : Hit = c.hit-item.result in
    let origin = edge_origin c.args.operand in
    let number = hit_number_of c.args.op in
    let so_far = prescribed_hits origin number (take i hs) in
    let one : Prescription = record { origin = origin h.edge h.face; number = number h.number; point = h.at } in
    let same : get_or hs i h ≡ h = cc in
    let more = hits_more origin number hs i h c.loop-hit-test.true in
    let small : IsNumber h.number = (rw same at (c.requires i h c.loop-hit-test.true)) in
    let times : c.unsigned_abs.result ≡ nat_abs (number h.number) =
    c.unsigned_abs.ensures.value ∙ ap nat_abs
    (kept_64 c.hit_number-number.result (omega (arith, c.hit_number-number.ensures.small)) ∙ c.hit_number-number.ensures.value ∙ ap number (kept_8 h.number small)) in
    let step : prescribed_hits origin number (take (i + 1) hs) ≡ so_far ++ one ∷ [] = rw same at more in
    record {
      origins = grown (λ k. k.origin) c.push.new.self.origins.items c.loop-hit.self.origins.items c.args.self.now.origins.items so_far
          (prescribed_hits origin number (take (i + 1) hs)) one c.unsigned_abs.result c.edge-origin.result c.in_ok-push.ensures.origins
          c.loop-hit.invariant.origins step times c.edge-origin.ensures;
      points = grown (λ k. k.point) c.push.new.self.points.items c.loop-hit.self.points.items c.args.self.now.points.items so_far
          (prescribed_hits origin number (take (i + 1) hs)) one c.unsigned_abs.result h.at c.in_ok-push.ensures.points c.loop-hit.invariant.points step times refl;
    }
