-- What a rule must keep to make lawful tests.
use Rattle.std.specs.Prelude.{◌≡◌, ◌≢◌, pos, Bool, true, false, List}
use Rattle.std.proofs.Common.{refl}
use Rattle.chain_terms.specs.Sums.{total}
use Rattle.mb_base.specs.declared.point.Corner.{Corner}
use Rattle.shadow_kernels.specs.ShadowLaws.{IsInHull}
use Rattle.shadow_kernels.specs.declared.Edge.{Edge}
use Rattle.shadow_kernels.specs.declared.Spot.{Spot}
use Rattle.shadow_kernels.specs.Spots.{Between}
use Rattle.shadow_kernels.specs.Rules.{Rule, grid}
use Rattle.shadow_kernels.specs.Counts.{shadow_of}
use Rattle.shadow_kernels.specs.Shadows.{boundary11}
use Rattle.shadow_kernels.specs.Order.{IsOrdered, grid_ordered}
use Rattle.shadow_kernels.specs.Edges.{own, other, past, rim}
use Rattle.shadow_kernels.specs.Hulls.{StaysBetween, IsPlaced, IsBeyond, hull_y, hull_z}

-- a lawful rule: values stay between, x is ordered, exchanging two corners keeps what is over what, and boxes strictly apart on the deciding axis decide it
pub record IsRule (k : Rule) (w : Between) : Type 0 where
  pub stays : StaysBetween w
  pub ordered : IsOrdered k
  pub beside : (e : Edge) (v l r : Corner) (ps qs : List Corner) → IsPlaced (other e ps qs) v → IsPlaced (own e ps qs) l → IsPlaced (own e ps qs) r →
      past e k v l ≡ true → past e k v r ≡ false →
      (t : Bool) → IsBeyond 1 ps qs t → (s : Spot) → IsInHull ps qs s → k.over_edge e v l r s ≡ t
  pub turned_p : (a b c d : Corner) (s : Spot) → k.over_edges b a c d s ≡ k.over_edges a b c d s
  pub turned_q : (a b c d : Corner) (s : Spot) → k.over_edges a b d c s ≡ k.over_edges a b c d s
  pub exchanged : (e : Edge) (v a b c : Corner) (s : Spot) → k.over_face e v b a c s ≡ k.over_face e v a b c s
  pub changed : (e : Edge) (v a b c : Corner) (s : Spot) → k.over_face e v a c b s ≡ k.over_face e v a b c s
  pub edges_apart : (a b c d : Corner) (ps qs : List Corner) → IsPlaced ps a → IsPlaced ps b → IsPlaced qs c → IsPlaced qs d → (t : Bool) → IsBeyond 2 ps qs t →
      total shadow_of (boundary11 k w a b c d) ≢ pos 0 →
      (s : Spot) → IsInHull ps qs s → k.over_edges a b c d s ≡ t
  pub face_apart : (e : Edge) (v a b c : Corner) (ps qs : List Corner) → IsPlaced (other e ps qs) v → IsPlaced (own e ps qs) a → IsPlaced (own e ps qs) b →
      IsPlaced (own e ps qs) c →
      (t : Bool) → IsBeyond 2 ps qs t → total shadow_of (rim e k w v a b c) ≢ pos 0 → (s : Spot) → IsInHull ps qs s → k.over_face e v a b c s ≡ t

-- on the grid it is, under any rounding that stays between
pub grid_rule : (w : Between) → StaysBetween w → IsRule grid w
grid_rule w stays = record {
  stays = stays;
  ordered = grid_ordered;
  beside = λ e v l r ps qs hv hl hr f g t h s hull. hull_y t ps qs s h hull;
  turned_p = λ a b c d s. refl;
  turned_q = λ a b c d s. refl;
  exchanged = λ e v a b c s. refl;
  changed = λ e v a b c s. refl;
  edges_apart = λ a b c d ps qs ha hb hc hd t h some s hull. hull_z t ps qs s h hull;
  face_apart = λ e v a b c ps qs hv ha hb hc t h some s hull. hull_z t ps qs s h hull;
}
