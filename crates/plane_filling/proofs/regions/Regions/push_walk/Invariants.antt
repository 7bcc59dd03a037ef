use Rattle.std.proofs.Common.{◌≡◌, ◌++◌, take}
use Rattle.plane_filling.proofs.regions.Regions.push_walk.Given as goal

-- the places so far are added to the walk that is being made
abbrev pub invariant-loop-place : goal.invariant-loop-place
invariant-loop-place l = record {
  all : l.self.all.items ≡ l.fn.self.all.items;
  ends : l.self.ends.items ≡ l.fn.self.ends.items;
  walks : l.self.walks ≡ (l.fn.self.walks.0, l.fn.self.walks.1 ++ take l.place-index l.places);
}
