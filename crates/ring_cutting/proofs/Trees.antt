-- The tree of rectangles.
use Rattle.std.specs.Prelude.{◌≡◌, ◌≢◌, ℕ, zero, suc, ◌+◌, ◌-◌, ◌*◌, ◌<◌, ◌≤◌, ℤ, List, [], ◌∷◌, ◌++◌, Bool, true}
use Rattle.std.specs.Prelude.{false, not, ◌&&◌, ◌==◌, length, get_or, set}
use Rattle.std.specs.Option.{IfNone}
use Rattle.std.proofs.Common.{Option, Some, None, arith, refl, sym, subst, ap, ◌∙◌, inl, inr}
use Rattle.std.proofs.lemmas.Bool.{cases_eq}
use Rattle.std.proofs.lemmas.List.{get_or-set_same, get_or-set_other, get_or_default, length-set}
use Rattle.ring_cutting.specs.declared.place.Place.{Place}
use Rattle.ring_cutting.specs.declared.span.Span.{Span}
use Rattle.ring_cutting.specs.declared.hulls.Hulls.{Hulls}
use Rattle.ring_cutting.specs.Cuts.{covers}
use Rattle.ring_cutting.specs.Placed.{place_blocks}
use Rattle.ring_cutting.specs.Left.{lives, place_of}
use Rattle.ring_cutting.specs.Spans.{IsIn, IsWithin, no_span, span_of, below, down, AreNested, node_of, HasNode, HasHulls}
use Rattle.ring_cutting.proofs.Lefts.{lives_within, lives_less, lives_other}

-- a way leads to no lesser node
pub down_above : (way : List Bool) (k : ℕ) → k ≤ down way k
down_above [] k = omega arith
down_above (true ∷ way) k = omega (arith, down_above way (below true k))
down_above (false ∷ way) k = omega (arith, down_above way (below false k))

-- and where it goes a step, to one behind the two below
pub down_below : (b : Bool) (way : List Bool) (k : ℕ) → k + k ≤ down (b ∷ way) k
down_below true way k = omega (arith, down_above way (below true k))
down_below false way k = omega (arith, down_above way (below false k))

-- what is in a node's rectangle is in those above it
pub in_above : (ss : List Span) (x : ℤ × ℤ) → AreNested ss → (way : List Bool) (k : ℕ) → 0 < k → down way k < length ss →
    IsIn (span_of ss (down way k)) x → IsIn (span_of ss k) x
in_above ss x nested [] k some within h = h
in_above ss x nested (true ∷ way) k some within h =
    nested k true some (omega (arith, down_above way (below true k), within)) x (in_above ss x nested way (below true k) (omega arith) within h)
in_above ss x nested (false ∷ way) k some within h =
    nested k false some (omega (arith, down_above way (below false k), within)) x
    (in_above ss x nested way (below false k) (omega (arith, some)) within h)

-- a number by the one above it
record Halved (n : ℕ) : Type 0 where
  half : ℕ
  bit : Bool
  is : n ≡ below bit half

halved : (n : ℕ) → Halved n
halved zero = record { half = 0; bit = false; is = refl }
halved (suc n) = let h = halved n in more h.half h.bit h.is
  where
    more : (half : ℕ) (bit : Bool) → n ≡ below bit half → Halved (suc n)
    more half false e = record { half = half; bit = true; is = omega (arith, e) }
    more half true e = record { half = half + 1; bit = false; is = omega (arith, e) }

down-push : (way : List Bool) (b : Bool) (k : ℕ) → down (way ++ b ∷ []) k ≡ below b (down way k)
down-push [] b k = refl
down-push (c ∷ way) b k = down-push way b (below c k)

-- to every node a way leads down from the first
pub record HasWay (n : ℕ) : Type 0 where
  pub way : List Bool
  pub is : down way 1 ≡ n

way_within : (most n : ℕ) → n ≤ most → 0 < n → HasWay n
way_within zero n h some = absurd (omega (arith, h, some))
way_within (suc most) n h some = elim (cases_eq n 1) as (λ _. HasWay n) [
  | inl e ↦ record { way = []; is = sym e }
  | inr other ↦ let two = halved n in on (λ m l s. way_within most m l s) two.half two.bit two.is other
]
  where
    on : ((m : ℕ) → m ≤ most → 0 < m → HasWay m) → (half : ℕ) (bit : Bool) → n ≡ below bit half → n ≢ 1 → HasWay n
    on to half true e other =
        let above = to half (omega (arith, e, h, some)) (omega (arith, e, other)) in
        record { way = above.way ++ true ∷ []; is = down-push above.way true 1 ∙ ap (below true) above.is ∙ sym e }
    on to half false e other =
        let above = to half (omega (arith, e, h, some)) (omega (arith, e, some)) in
        record { way = above.way ++ false ∷ []; is = down-push above.way false 1 ∙ ap (below false) above.is ∙ sym e }

pub way_to : (n : ℕ) → 0 < n → HasWay n
way_to n some = way_within n n (omega arith) some

-- the tree with one node whose rectangle may go beyond the one above
abbrev pub AreNestedBut : ℕ → List Span → Type 0
AreNestedBut k ss = (j : ℕ) (b : Bool) → 0 < j → below b j < length ss → below b j ≢ k → IsWithin (span_of ss (below b j)) (span_of ss j)

-- a rectangle is written that goes round what is below it
pub nested_on : (ss : List Span) (k h : ℕ) (s : Span) → 0 < h → h < length ss → ((j : ℕ) (b : Bool) → below b j ≡ k → j ≡ h) →
    ((b : Bool) → IsWithin (span_of ss (below b h)) s) → AreNestedBut k ss → AreNestedBut h (set ss h s)
nested_on ss k h s some within above round nested j b positive low apart =
    let long = length-set ss h s in
    elim (cases_eq j h) as (λ _. IsWithin (span_of (set ss h s) (below b j)) (span_of (set ss h s) j)) [
      | inl e ↦
          subst (λ (i : ℕ). IsWithin (span_of (set ss h s) (below b i)) (span_of (set ss h s) i)) (sym e)
          (subst (IsWithin (span_of (set ss h s) (below b h))) (sym (get_or-set_same ss h s no_span within))
          (subst (λ (t : Span). IsWithin t s) (sym (get_or-set_other ss h (below b h) s no_span (off b h some))) (round b)))
      | inr d ↦
          subst (IsWithin (span_of (set ss h s) (below b j))) (sym (get_or-set_other ss h j s no_span d))
          (subst (λ (t : Span). IsWithin t (span_of ss j)) (sym (get_or-set_other ss h (below b j) s no_span apart))
          (nested j b positive (omega (arith, low, long)) (λ e. d (above j b e))))
    ]
  where
    off : (b : Bool) (h : ℕ) → 0 < h → below b h ≢ h
    off true h some e = omega (arith, e)
    off false h some e = omega (arith, e, some)

-- a place's own rectangle is written
pub nested_from : (ss : List Span) (k : ℕ) (s : Span) → length ss ≤ k + k → AreNested ss → AreNestedBut k (set ss k s)
nested_from ss k s last nested j b positive low apart =
    let long = length-set ss k s in
    subst (IsWithin (span_of (set ss k s) (below b j))) (sym (get_or-set_other ss k j s no_span (above b j low)))
    (subst (λ (t : Span). IsWithin t (span_of ss j)) (sym (get_or-set_other ss k (below b j) s no_span apart))
    (nested j b positive (omega (arith, low, long))))
  where
    above : (b : Bool) (j : ℕ) → below b j < length (set ss k s) → j ≢ k
    above true j l e = omega (arith, l, length-set ss k s, last, e)
    above false j l e = omega (arith, l, length-set ss k s, last, e)

-- at the top nothing is above
pub nested_done : (ss : List Span) (k : ℕ) → k ≤ 1 → AreNestedBut k ss → AreNested ss
nested_done ss k top nested j b positive low = nested j b positive low (high b j positive)
  where
    high : (b : Bool) (j : ℕ) → 0 < j → below b j ≢ k
    high true j some e = omega (arith, e, top, some)
    high false j some e = omega (arith, e, top, some)

-- places have different nodes
pub nodes_apart : (n : ℕ) (order nodes : List ℕ) (i j : ℕ) → HasNode n order nodes i → HasNode n order nodes j → j ≢ i →
    node_of nodes j ≢ node_of nodes i
nodes_apart n order nodes i j h k apart e = apart (sym k.here ∙ ap (λ (m : ℕ). get_or order (m - n) n) e ∙ h.here)

-- the tree without one place
pub hulls_without : (ps : List Place) (bs : List Bool) (old new : Hulls) (i : ℕ) → i < length ps → HasHulls ps bs old →
    new.order.items ≡ old.order.items → new.nodes.items ≡ old.nodes.items →
    length new.spans.items ≡ length old.spans.items → AreNested new.spans.items →
    ((k : ℕ) → length old.spans.items ≤ 2 * k → k ≢ node_of old.nodes.items i → span_of new.spans.items k ≡ span_of old.spans.items k) →
    HasHulls ps (set bs i false) new
hulls_without ps bs old new i within h order nodes long nested others = record {
  living_long = length-set bs i false ∙ h.living_long;
  tree = record {
    many = long ∙ h.tree.many;
    ordered = ap length order ∙ h.tree.ordered;
    each = ap length nodes ∙ h.tree.each;
    known = subst (λ (l : List ℕ). (k : ℕ) → k < length ps → get_or l k 0 < length ps) (sym order) h.tree.known;
    nodes = subst (λ (l : List ℕ). (j : ℕ) → j < length ps → HasNode (length ps) l new.nodes.items j) (sym order)
        (subst (λ (l : List ℕ). (j : ℕ) → j < length ps → HasNode (length ps) old.order.items l j) (sym nodes) h.tree.nodes);
    nested = nested;
  };
  places = stay;
}
  where
    low : (j : ℕ) → lives bs j ≡ true → j < length ps
    low j l = omega (arith, lives_within bs j l, h.living_long)

    stay : (j : ℕ) → lives (set bs i false) j ≡ true → IsIn (span_of new.spans.items (node_of new.nodes.items j)) (place_of ps j).at
    stay j l =
        let here = lives_less bs i j l in
        let node = h.tree.nodes j (low j here) in
        let apart = nodes_apart (length ps) old.order.items old.nodes.items i j (h.tree.nodes i within) node (lives_other bs i j l) in
        let same : span_of new.spans.items (node_of new.nodes.items j) ≡ span_of old.spans.items (node_of old.nodes.items j) =
        ap (λ (l : List ℕ). span_of new.spans.items (node_of l j)) nodes
        ∙ others (node_of old.nodes.items j) (omega (arith, node.least, h.tree.many)) apart in
        subst (λ (t : Span). IsIn t (place_of ps j).at) (sym same) (h.places j here)

-- at a place's own node the way ends
pub at_leaf : (n node m : ℕ) (way : List Bool) → n ≤ node → m < n + n → down way node ≡ m → m ≡ node
at_leaf n node m [] low high e = sym e
at_leaf n node m (b ∷ way) low high e = absurd (omega (arith, down_below b way node, low, high, e))

-- a place below a node is in its rectangle
pub in_node : (ps : List Place) (bs : List Bool) (h : Hulls) (node i : ℕ) (way : List Bool) → HasHulls ps bs h → 0 < node →
    lives bs i ≡ true → down way node ≡ node_of h.nodes.items i → IsIn (span_of h.spans.items node) (place_of ps i).at
in_node ps bs h node i way hulls some l e =
    let own = hulls.tree.nodes i (omega (arith, lives_within bs i l, hulls.living_long)) in
    in_above h.spans.items (place_of ps i).at hulls.tree.nested way node some (omega (arith, e, own.most, hulls.tree.many))
    (subst (λ (k : ℕ). IsIn (span_of h.spans.items k) (place_of ps i).at) (sym e) (hulls.places i l))

-- the place of the node at which a way ends
pub leaf_is : (ps : List Place) (bs : List Bool) (h : Hulls) (node i w : ℕ) (way : List Bool) → HasHulls ps bs h → length ps ≤ node →
    lives bs i ≡ true → down way node ≡ node_of h.nodes.items i →
    w ≡ get_or h.order.items (node - length ps) 0 → i ≡ w
leaf_is ps bs h node i w way hulls low l e is =
    let n = length ps in
    let own = hulls.tree.nodes i (omega (arith, lives_within bs i l, hulls.living_long)) in
    let same : node_of h.nodes.items i ≡ node = at_leaf n node (node_of h.nodes.items i) way low own.most e in
    sym own.here ∙ ap (λ (k : ℕ). get_or h.order.items (k - n) n) same
    ∙ get_or_default h.order.items (node - n) n 0 (omega (arith, same, own.most, low, hulls.tree.ordered)) ∙ sym is

-- where one of two tests is false and the first holds, the second is false
pub second_false : (a b r : Bool) → r ≡ (a && b) → r ≡ false → a ≡ true → b ≡ false
second_false true b r e f h = sym e ∙ f
second_false false b r e f h = cc

-- a place that is not in a triangle does not block it
pub no_block : (p x n w : Place) → covers p.at x.at n.at w.at ≡ false → place_blocks p x n w ≡ false
no_block p x n w h = last (not (w.vertex == p.vertex)) (not (w.vertex == x.vertex)) (not (w.vertex == n.vertex)) (covers p.at x.at n.at w.at) h
  where
    last : (a b c d : Bool) → d ≡ false → (a && b && c && d) ≡ false
    last true true true d h = h
    last true true false d h = refl
    last true false c d h = refl
    last false b c d h = refl

-- what follows from what is known where nothing was found
pub where_none : {T P Q : Type 0} (o : Option T) → (P → Q) → IfNone o P → IfNone o Q
where_none None f h = f h
where_none (Some x) f h = h

-- a place below a node that is not its own is below one of the two below that
pub below_both : (n node m : ℕ) (P : Type 0) → n ≤ m → node < n → ((way : List Bool) → down way (2 * node + 1) ≡ m → P) →
    ((way : List Bool) → down way (2 * node) ≡ m → P) → (way : List Bool) → down way node ≡ m → P
below_both n node m P low less right left [] e = absurd (omega (arith, e, low, less))
below_both n node m P low less right left (true ∷ way) e = let at : 2 * node + 1 ≡ below true node = omega arith in right way (ap (down way) at ∙ e)
below_both n node m P low less right left (false ∷ way) e = let at : 2 * node ≡ below false node = omega arith in left way (ap (down way) at ∙ e)
