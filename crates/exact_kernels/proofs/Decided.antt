-- An answer whose mark the spot does not decide.
use Rattle.std.proofs.Common.{◌≡◌, Bool, true, false, List, Option, IfSome, sym}
use Rattle.chain_terms.specs.Sums.{total}
use Rattle.shadow_kernels.specs.declared.Spot.{Spot}
use Rattle.shadow_kernels.specs.declared.Meet.{Meet}
use Rattle.shadow_kernels.specs.Spots.{Between, spot_between}
use Rattle.shadow_kernels.specs.Counts.{shadow_of, first_spot, joined, lifted}
use Rattle.shadow_kernels.specs.Sizes.{met_holds}

-- it is above where the rule says so at every spot
pub marked : (w : Between) (over : Spot → Bool) (ms : List (Option Meet)) (r : Bool) → ((s : Spot) → r ≡ over s) → IfSome (lifted w over ms) (λ m. m.above ≡ r)
unfolding lifted joined
marked w over ms r h = let s = spot_between w (first_spot false ms) (first_spot true ms) in met_holds (λ m. m.above ≡ r) (total shadow_of ms) (over s) s (λ n. sym (h s))
