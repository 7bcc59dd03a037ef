-- Regions as they are stored, and the walks of each.
use Rattle.std.specs.Prelude.{◌≡◌, ℕ, ◌≤◌, ◌-◌, List, get_or, length, map, take, drop}
use Rattle.chain_terms.specs.Sums.{upto}
use Rattle.places_by_key.specs.Buckets.{AreEnds, begin_of}
use Rattle.plane_filling.specs.declared.regions.Region.{Region}
use Rattle.plane_filling.specs.declared.regions.Regions.{Regions}

-- the walks of a region: from where those of the one before it end to where they end
abbrev pub walks_at : Regions → ℕ → List (List ℕ)
walks_at r k = take (get_or r.ends.items k 0 - begin_of r.ends.items k) (drop (begin_of r.ends.items k) r.walks.0)

-- those of all regions
abbrev pub all_walks : Regions → List (List (List ℕ))
all_walks r = map (walks_at r) (upto (length r.ends.items))

-- where those of the last region end
abbrev pub last_end : Regions → ℕ
last_end r = begin_of r.ends.items (length r.ends.items)

-- the walks that no region has yet
abbrev pub waiting : Regions → List (List ℕ)
waiting r = drop (last_end r) r.walks.0

-- each region has walks of its own, and none ends after all walks
pub record AreRegions (r : Regions) : Type 0 where
  pub full : length r.ends.items ≡ length r.all.items
  pub ends : AreEnds r.ends.items (length r.walks.0)
  pub last : last_end r ≤ length r.walks.0

-- regions with their walks, walks that no region has yet, and the walk that is being made
pub record AreSeen (r : Regions) (all : List Region) (walks : List (List (List ℕ))) (wait : List (List ℕ)) (making : List ℕ) : Type 0 where
  pub regions : r.all.items ≡ all
  pub each : all_walks r ≡ walks
  pub waits : waiting r ≡ wait
  pub made : r.walks.1 ≡ making
  pub are : AreRegions r
