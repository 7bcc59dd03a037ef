use Rattle.std.proofs.Common.{◌∷◌, [], refl}
use Rattle.plane_filling.proofs.Stored.{walks_added}
use Rattle.plane_filling.proofs.regions.Regions.end_walk.Goals as goal

pub returns : goal.returns
returns c =
    let r = c.args.self.now in
    walks_added r (record { all = r.all; ends = r.ends; walks = c.end.new.self }) (r.walks.1 ∷ []) [] c.requires refl refl c.in_ok-end.ensures
