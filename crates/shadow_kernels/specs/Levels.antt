-- The answers of two edges and of faces with vertices: from ends of edges to edges, and from edges to faces.
use Rattle.std.specs.Prelude.{◌≡◌, ℕ, zero, suc, ◌<◌, neg_ℤ, Bool, true, false, not, Option, List, [], ◌∷◌, length, swap}
use Rattle.std.specs.List.Sorted.{IsPermutation}
use Rattle.std.proofs.Common.{arith, refl, sym, ap, subst, inl, inr, ◌∙◌}
use Rattle.std.proofs.lemmas.List.Sorted.{IsPermutation-cons, IsPermutation-middle, IsPermutation-trans}
use Rattle.chain_laws.specs.Squares.{less, square, triangle, Alternates, square_whole, square_weight, triangle_whole, triangle_weight}
use Rattle.mb_base.specs.declared.point.Corner.{Corner}
use Rattle.side_terms.specs.Corners.{corner_at, AllFine}
use Rattle.shadow_kernels.specs.declared.Meet.{Meet}
use Rattle.shadow_kernels.specs.ShadowLaws.{IsInHull}
use Rattle.shadow_kernels.specs.Spots.{Between}
use Rattle.shadow_kernels.specs.Rules.{Rule, spot_and_side}
use Rattle.shadow_kernels.specs.Counts.{count_of, turned, lifted}
use Rattle.shadow_kernels.specs.Shadows.{meet01, meet10, meet11, boundary11}
use Rattle.shadow_kernels.specs.Order.{no_alternation}
use Rattle.shadow_kernels.specs.Sizes.{IsSized, turned_sized, turned_count, turned_twice}
use Rattle.shadow_kernels.specs.Ends.{ends_count, ends_sized, ends_turned, less_not}
use Rattle.shadow_kernels.specs.Entries.{IsBalanced, balanced_by}
use Rattle.shadow_kernels.specs.Hulls.{IsPlaced, IsBeyond, placed, beyond_boxes, edge_hull}
use Rattle.shadow_kernels.specs.Lawful.{IsRule}
use Rattle.shadow_kernels.specs.declared.Edge.{Edge}
use Rattle.shadow_kernels.specs.declared.Edge.TheVariants.{OfP, OfQ}
use Rattle.shadow_kernels.specs.declared.Spot.{Spot}
use Rattle.shadow_kernels.specs.Edges.{own, other, past, rim, edge_meet, edge_ends}
use Rattle.shadow_kernels.specs.Decided.{IsDecided, turned_decided, ends_decided}
use Rattle.shadow_kernels.specs.Lifted.{lifted_decided, lifted_reverse}

-- an edge and a vertex of the other side
module _ (e : Edge) (k : Rule) (w : Between) (v c d : Corner) where
  pub edge_count : count_of (edge_meet e k w v c d) ≡ less (past e k v c) (past e k v d)
  edge_count = ap count_of (edge_ends e k w v c d) ∙ ends_count (past e k v c) (past e k v d) (spot_and_side k w e v c d) (spot_and_side k w e v d c)

  pub edge_sized : IsSized (edge_meet e k w v c d)
  edge_sized = subst IsSized (sym (edge_ends e k w v c d)) (ends_sized (past e k v c) (past e k v d) (spot_and_side k w e v c d) (spot_and_side k w e v d c))

  pub edge_reverse : edge_meet e k w v d c ≡ turned (edge_meet e k w v c d)
  edge_reverse = edge_ends e k w v d c ∙ ends_turned (past e k v c) (past e k v d) (spot_and_side k w e v c d) (spot_and_side k w e v d c) ∙ ap turned (sym (edge_ends e k w v c d))

-- the count of an edge of P, by what its ends are beyond
pub count10 : (k : Rule) (w : Between) (a b q : Corner) → count_of (meet10 k w a b q) ≡ less (k.beyond_in_x b q) (k.beyond_in_x a q)
count10 k w a b q = edge_count OfP k w q a b ∙ sym (less_not (k.beyond_in_x b q) (k.beyond_in_x a q))

-- boxes strictly apart in x decide the tests at both ends alike
alike : {k : Rule} {w : Between} → IsRule k w → (e : Edge) (ps qs : List Corner) (v c d : Corner) → IsPlaced (other e ps qs) v → IsPlaced (own e ps qs) c →
    IsPlaced (own e ps qs) d → (t : Bool) → IsBeyond 0 ps qs t → past e k v c ≡ past e k v d
alike {k} {w} rule OfP ps qs v c d hv hc hd t h =
    let over : (a : Corner) → IsPlaced ps a → k.beyond_in_x a v ≡ t = λ a ha. beyond_boxes rule.ordered t ps qs a v h ha.x hv.x in ap not (over c hc ∙ sym (over d hd))
alike {k} {w} rule OfQ ps qs v c d hv hc hd t h =
    let over : (a : Corner) → IsPlaced qs a → k.beyond_in_x v a ≡ t = λ a ha. beyond_boxes rule.ordered t ps qs v a h hv.x ha.x in over c hc ∙ sym (over d hd)

-- their answer is decided in y
pub edge_decided : {k : Rule} {w : Between} → IsRule k w → (e : Edge) (ps qs : List Corner) (v c d : Corner) → IsPlaced (other e ps qs) v →
    IsPlaced (own e ps qs) c → IsPlaced (own e ps qs) d → IsDecided 1 ps qs (edge_meet e k w v c d)
edge_decided {k} {w} rule e ps qs v c d hv hc hd =
    let at : (l r : Corner) → IsPlaced (own e ps qs) l → IsPlaced (own e ps qs) r → past e k v l ≡ true → past e k v r ≡ false →
    IsInHull ps qs (spot_and_side k w e v l r).1 = λ l r hl hr f g. edge_hull rule.ordered w rule.stays e ps qs v l r hv hl hr f g in
    subst (IsDecided 1 ps qs) (sym (edge_ends e k w v c d)) (ends_decided ps qs (past e k v c) (past e k v d) (spot_and_side k w e v c d) (spot_and_side k w e v d c)
    (λ f g. at c d hc hd f g) (λ f g. at d c hd hc g f) (alike rule e ps qs v c d hv hc hd)
    (λ t h f g. rule.beside e v c d ps qs hv hc hd f g t h (spot_and_side k w e v c d).1 (at c d hc hd f g))
    (λ t h f g. rule.beside e v d c ps qs hv hd hc g f t h (spot_and_side k w e v d c).1 (at d c hd hc g f)))

-- the first two of a list exchanged
flip : (a b : Option Meet) (ms : List (Option Meet)) → IsPermutation (a ∷ b ∷ ms) (b ∷ a ∷ ms)
flip a b ms = IsPermutation-middle (a ∷ []) b ms

-- lists of equal members
pub three : {X : Type 0} (a b c a' b' c' : X) → a ≡ a' → b ≡ b' → c ≡ c' → (a ∷ b ∷ c ∷ []) ≡ a' ∷ b' ∷ c' ∷ []
three a b c a' b' c' e f g = cc

pub four : {X : Type 0} (a b c d a' b' c' d' : X) → a ≡ a' → b ≡ b' → c ≡ c' → d ≡ d' → (a ∷ b ∷ c ∷ d ∷ []) ≡ a' ∷ b' ∷ c' ∷ d' ∷ []
four a b c d a' b' c' d' e f g h = cc

module _ (e : Edge) (k : Rule) (w : Between) (x : Corner) where
  -- the counts add up to nothing, and at most two are not 0
  rim_balanced : (u v t : Corner) → IsBalanced (rim e k w x u v t)
  rim_balanced u v t =
      let few = triangle_weight (past e k x u) (past e k x v) (past e k x t) in
      balanced_by (rim e k w x u v t) (triangle (past e k x u) (past e k x v) (past e k x t)) (edge_sized e k w x u v, (edge_sized e k w x v t, (edge_sized e k w x t u, tt)))
      (three (less (past e k x u) (past e k x v)) (less (past e k x v) (past e k x t)) (less (past e k x t) (past e k x u)) (count_of (edge_meet e k w x u v))
      (count_of (edge_meet e k w x v t)) (count_of (edge_meet e k w x t u))
      (sym (edge_count e k w x u v)) (sym (edge_count e k w x v t)) (sym (edge_count e k w x t u)))
      (triangle_whole (past e k x u) (past e k x v) (past e k x t)) (omega (arith, few))

  -- their answer
  abbrev pub face_meet : Corner → Corner → Corner → Option Meet
  face_meet u v t = lifted w (k.over_face e x u v t) (rim e k w x u v t)

  -- is decided in z
  pub face_decided : IsRule k w → (ps qs : List Corner) → AllFine ps → AllFine qs → IsPlaced (other e ps qs) x → length (own e ps qs) ≡ 3 → AllFine (own e ps qs) →
      IsDecided 2 ps qs (face_meet (corner_at (own e ps qs) 0) (corner_at (own e ps qs) 1) (corner_at (own e ps qs) 2))
  face_decided rule ps qs fp fq at l fc =
      let cs = own e ps qs in
      let u = corner_at cs 0 in
      let v = corner_at cs 1 in
      let t = corner_at cs 2 in
      let a = placed cs 0 fc (omega (arith, l)) in
      let b = placed cs 1 fc (omega (arith, l)) in
      let c = placed cs 2 fc (omega (arith, l)) in
      let edge = edge_decided rule e ps qs x in
      lifted_decided w rule.stays (k.over_face e x u v t) ps qs fp fq (rim e k w x u v t) (rim_balanced u v t) (edge u v at a b, (edge v t at b c, (edge t u at c a, tt)))
      (λ b' h some s hull. rule.face_apart e x u v t ps qs at a b c b' h some s hull)

  -- the rim of the corners in another order is that of the edges turned, in another order
  rim_turned : (over : Spot → Bool) (u v t a b c d g h : Corner) → ((s : Spot) → over s ≡ k.over_face e x u v t s) →
      IsPermutation (rim e k w x u v t) (edge_meet e k w x a b ∷ edge_meet e k w x c d ∷ edge_meet e k w x g h ∷ []) →
      lifted w over (edge_meet e k w x b a ∷ edge_meet e k w x d c ∷ edge_meet e k w x h g ∷ []) ≡ turned (face_meet u v t)
  rim_turned over u v t a b c d g h like moved =
      let f = edge_meet e k w x in
      lifted_reverse w (k.over_face e x u v t) over (rim e k w x u v t) (f a b ∷ f c d ∷ f g h ∷ []) (f b a ∷ f d c ∷ f h g ∷ []) like (rim_balanced u v t)
      (edge_sized e k w x a b, (edge_sized e k w x c d, (edge_sized e k w x g h, tt))) moved
      (three (f b a) (f d c) (f h g) (turned (f a b)) (turned (f c d)) (turned (f g h)) (edge_reverse e k w x a b) (edge_reverse e k w x c d) (edge_reverse e k w x g h))

  -- exchanging two corners turns the answer
  pub face_turned : IsRule k w → (cs : List Corner) (i j : ℕ) → i < j → j < 3 → length cs ≡ 3 →
      face_meet (corner_at (swap cs i j) 0) (corner_at (swap cs i j) 1) (corner_at (swap cs i j) 2) ≡ turned (face_meet (corner_at cs 0) (corner_at cs 1) (corner_at cs 2))
  face_turned rule (u ∷ v ∷ t ∷ []) zero (suc zero) l m n =
      let f = edge_meet e k w x in
      rim_turned (k.over_face e x v u t) u v t u v t u v t (rule.exchanged e x u v t)
      (IsPermutation-cons (f u v) (f v t ∷ f t u ∷ []) (f t u ∷ f v t ∷ []) (flip (f v t) (f t u) []))
  face_turned rule (u ∷ v ∷ t ∷ []) zero (suc (suc zero)) l m n =
      let f = edge_meet e k w x in
      rim_turned (k.over_face e x t v u) u v t v t u v t u (λ s. rule.exchanged e x v t u s ∙ rule.changed e x v u t s ∙ rule.exchanged e x u v t s)
      (flip (f u v) (f v t) (f t u ∷ []))
  face_turned rule (u ∷ v ∷ t ∷ []) (suc zero) (suc (suc zero)) l m n =
      let a = edge_meet e k w x u v in
      let b = edge_meet e k w x v t in
      let c = edge_meet e k w x t u in
      rim_turned (k.over_face e x u t v) u v t t u v t u v (rule.changed e x u v t) (IsPermutation-trans (a ∷ b ∷ c ∷ []) (b ∷ a ∷ c ∷ []) (c ∷ b ∷ a ∷ []) (flip a b (c ∷ []))
      (IsPermutation-trans (b ∷ a ∷ c ∷ []) (b ∷ c ∷ a ∷ []) (c ∷ b ∷ a ∷ []) (IsPermutation-cons b (a ∷ c ∷ []) (c ∷ a ∷ []) (flip a c [])) (flip b c (a ∷ []))))
  face_turned rule (u ∷ v ∷ t ∷ []) zero zero l m n = absurd (omega (arith, l))
  face_turned rule (u ∷ v ∷ t ∷ []) zero (suc (suc (suc j))) l m n = absurd (omega (arith, m))
  face_turned rule (u ∷ v ∷ t ∷ []) (suc zero) zero l m n = absurd (omega (arith, l))
  face_turned rule (u ∷ v ∷ t ∷ []) (suc zero) (suc zero) l m n = absurd (omega (arith, l))
  face_turned rule (u ∷ v ∷ t ∷ []) (suc zero) (suc (suc (suc j))) l m n = absurd (omega (arith, m))
  face_turned rule (u ∷ v ∷ t ∷ []) (suc (suc i)) j l m n = absurd (omega (arith, l, m))
  face_turned rule [] i j l m n = absurd (omega (arith, n))
  face_turned rule (u ∷ []) i j l m n = absurd (omega (arith, n))
  face_turned rule (u ∷ v ∷ []) i j l m n = absurd (omega (arith, n))
  face_turned rule (u ∷ v ∷ t ∷ y ∷ cs) i j l m n = absurd (omega (arith, n))

-- exchanging the two corners of an edge
pub edge_turned : (f : Corner → Corner → Option Meet) → ((a b : Corner) → f b a ≡ turned (f a b)) → (cs : List Corner) (i j : ℕ) → i < j → j < 2 → length cs ≡ 2 →
    f (corner_at (swap cs i j) 0) (corner_at (swap cs i j) 1) ≡ turned (f (corner_at cs 0) (corner_at cs 1))
edge_turned f h (c ∷ d ∷ []) zero (suc zero) l m n = h c d
edge_turned f h (c ∷ d ∷ []) zero zero l m n = absurd (omega (arith, l))
edge_turned f h (c ∷ d ∷ []) zero (suc (suc j)) l m n = absurd (omega (arith, m))
edge_turned f h (c ∷ d ∷ []) (suc i) j l m n = absurd (omega (arith, l, m))
edge_turned f h [] i j l m n = absurd (omega (arith, n))
edge_turned f h (c ∷ []) i j l m n = absurd (omega (arith, n))
edge_turned f h (c ∷ d ∷ e ∷ cs) i j l m n = absurd (omega (arith, n))

-- two edges
module _ {k : Rule} {w : Between} (rule : IsRule k w) (a b c d : Corner) where
  -- the four tests at their ends don't alternate round the square
  alternate : Alternates (k.beyond_in_x a c) (k.beyond_in_x a d) (k.beyond_in_x b c) (k.beyond_in_x b d) → ⊥
  alternate (inl (h, g, l, m)) = no_alternation rule.ordered a b c d h g l m
  alternate (inr (h, g, l, m)) = no_alternation rule.ordered a b d c g h m l

  -- the answers of each end with the other edge
  abbrev at_a : Option Meet
  at_a = meet01 k w a c d

  abbrev at_b : Option Meet
  at_b = meet01 k w b c d

  abbrev at_c : Option Meet
  at_c = meet10 k w a b c

  abbrev at_d : Option Meet
  at_d = meet10 k w a b d

  -- so the counts of the boundary pairs add up to nothing, and at most three are not 0
  square_balanced : IsBalanced (boundary11 k w a b c d)
  square_balanced =
      balanced_by (boundary11 k w a b c d) (square (k.beyond_in_x a c) (k.beyond_in_x a d) (k.beyond_in_x b c) (k.beyond_in_x b d))
      (edge_sized OfQ k w b c d, (turned_sized at_a (edge_sized OfQ k w a c d), (edge_sized OfP k w d a b, (turned_sized at_c (edge_sized OfP k w c a b), tt))))
      (four (less (k.beyond_in_x b c) (k.beyond_in_x b d)) (neg_ℤ (less (k.beyond_in_x a c) (k.beyond_in_x a d))) (less (k.beyond_in_x b d) (k.beyond_in_x a d))
      (neg_ℤ (less (k.beyond_in_x b c) (k.beyond_in_x a c))) (count_of at_b) (count_of (turned at_a)) (count_of at_d) (count_of (turned at_c))
      (sym (edge_count OfQ k w b c d)) (sym (turned_count at_a ∙ ap neg_ℤ (edge_count OfQ k w a c d))) (sym (count10 k w a b d))
      (sym (turned_count at_c ∙ ap neg_ℤ (count10 k w a b c))))
      (square_whole (k.beyond_in_x a c) (k.beyond_in_x a d) (k.beyond_in_x b c) (k.beyond_in_x b d))
      (square_weight (k.beyond_in_x a c) (k.beyond_in_x a d) (k.beyond_in_x b c) (k.beyond_in_x b d) alternate)

  -- their answer is decided in z
  pub edges_decided : (ps qs : List Corner) → AllFine ps → AllFine qs → IsPlaced ps a → IsPlaced ps b → IsPlaced qs c → IsPlaced qs d → IsDecided 2 ps qs (meet11 k w a b c d)
  unfolding meet11
  edges_decided ps qs fp fq ha hb hc hd =
      lifted_decided w rule.stays (k.over_edges a b c d) ps qs fp fq (boundary11 k w a b c d) square_balanced (
        edge_decided rule OfQ ps qs b c d hb hc hd,
        (
          turned_decided 1 ps qs (meet01 k w a c d) (edge_decided rule OfQ ps qs a c d ha hc hd),
          (edge_decided rule OfP ps qs d a b hd ha hb, (turned_decided 1 ps qs (meet10 k w a b c) (edge_decided rule OfP ps qs c a b hc ha hb), tt)),
        ),
      ) (λ t h some s hull. rule.edges_apart a b c d ps qs ha hb hc hd t h some s hull)

  -- exchanging the ends of P's edge turns it
  pub edges_turned_p : meet11 k w b a c d ≡ turned (meet11 k w a b c d)
  unfolding meet11
  edges_turned_p =
      let s = square_balanced in
      lifted_reverse w (k.over_edges a b c d) (k.over_edges b a c d) (boundary11 k w a b c d) (turned at_a ∷ at_b ∷ at_d ∷ turned at_c ∷ [])
      (boundary11 k w b a c d) (rule.turned_p a b c d) s (s.sized.1.0, (s.sized.0, s.sized.1.1)) (flip at_b (turned at_a) (at_d ∷ turned at_c ∷ []))
      (four at_a (turned at_b) (meet10 k w b a d) (turned (meet10 k w b a c)) (turned (turned at_a)) (turned at_b) (turned at_d) (turned (turned at_c))
      (sym (turned_twice at_a)) refl (edge_reverse OfP k w d a b) (ap turned (edge_reverse OfP k w c a b)))

  -- exchanging those of Q's edge does so too
  pub edges_turned_q : meet11 k w a b d c ≡ turned (meet11 k w a b c d)
  unfolding meet11
  edges_turned_q =
      let s = square_balanced in
      lifted_reverse w (k.over_edges a b c d) (k.over_edges a b d c) (boundary11 k w a b c d) (at_b ∷ turned at_a ∷ turned at_c ∷ at_d ∷ [])
      (boundary11 k w a b d c) (rule.turned_q a b c d) s (s.sized.0, (s.sized.1.0, (s.sized.1.1.1.0, (s.sized.1.1.0, tt))))
      (IsPermutation-cons at_b (turned at_a ∷ at_d ∷ turned at_c ∷ []) (turned at_a ∷ turned at_c ∷ at_d ∷ [])
      (IsPermutation-cons (turned at_a) (at_d ∷ turned at_c ∷ []) (turned at_c ∷ at_d ∷ []) (flip at_d (turned at_c) [])))
      (four (meet01 k w b d c) (turned (meet01 k w a d c)) at_c (turned at_d) (turned at_b) (turned (turned at_a)) (turned (turned at_c)) (turned at_d)
      (edge_reverse OfQ k w b c d) (ap turned (edge_reverse OfQ k w a c d)) (sym (turned_twice at_c)) refl)
