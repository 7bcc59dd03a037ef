-- Net numbers at both sides of an edge, by label.
use Rattle.std.specs.Prelude.{◌≡◌, ℕ, suc, ◌<◌, ◌≤◌, ◌==◌, ℤ, pos, ◌+ℤ◌, ◌-ℤ◌, ◌*ℤ◌, List, [], ◌∷◌, if◌then◌else◌, cond, get_or, map, nat_lt, unsigned_abs}
use Rattle.std.specs.List.{All, sum_by}
use Rattle.chain_terms.specs.Sums.{total}
use Rattle.face_plane.specs.Planes.{Plane}
use Rattle.sheet_terms.specs.Numbers.{crossing}
use Rattle.plane_chains.specs.declared.nets.LabelNumber.{LabelNumber}
use Rattle.plane_sheets.specs.declared.side_numbers.SideNumbers.{SideNumbers}

-- what is read where there is none
abbrev pub no_sides : SideNumbers
no_sides = record { label = 0; left = pos 0; right = pos 0 }

-- the labels with their numbers at the left, and at the right
abbrev pub lefts : List SideNumbers → List (ℕ × ℤ)
lefts ss = map (λ s. (s.label, s.left)) ss

abbrev pub rights : List SideNumbers → List (ℕ × ℤ)
rights ss = map (λ s. (s.label, s.right)) ss

-- the sum of the numbers of a label
abbrev pub held : ℕ → List (ℕ × ℤ) → ℤ
held k ps = total (λ p. cond (p.0 == k) p.1 (pos 0)) ps

-- of all
abbrev pub all_held : List (ℕ × ℤ) → ℤ
all_held ps = total (λ p. p.1) ps

-- and the sum of the sizes of all
abbrev pub size_held : List (ℕ × ℤ) → ℕ
size_held ps = sum_by (λ p. unsigned_abs p.1) ps

-- the labels rise, from k on
abbrev pub RiseFrom : ℕ → List (ℕ × ℤ) → Type 0
RiseFrom k [] = Unit {0}
RiseFrom k (p ∷ ps) = (k ≤ p.0) × RiseFrom (suc p.0) ps

-- a number more for a label, in the order of labels
abbrev pub put_in : ℕ → ℤ → List (ℕ × ℤ) → List (ℕ × ℤ)
put_in l x [] = (l, x) ∷ []
put_in l x (p ∷ ps) = if nat_lt p.0 l then p ∷ put_in l x ps else if p.0 == l then (l, p.1 +ℤ x) ∷ ps else (l, x) ∷ p ∷ ps

-- listed numbers, times t, more
abbrev pub all_in : ℤ → List LabelNumber → List (ℕ × ℤ) → List (ℕ × ℤ)
all_in t [] ps = ps
all_in t (n ∷ ns) ps = all_in t ns (put_in n.label (n.number *ℤ t) ps)

-- the listed number of a label
abbrev pub listed : List LabelNumber → ℕ → ℤ
listed ns k = total (λ n. cond (n.label == k) n.number (pos 0)) ns

-- the sum of the sizes of listed numbers, and of those of all edges
abbrev pub size_of : List LabelNumber → ℕ
size_of ns = sum_by (λ n. unsigned_abs n.number) ns

abbrev pub sizes : List (List LabelNumber) → ℕ
sizes nets = sum_by size_of nets

-- all labels of lists are below n
abbrev pub AreBelow : ℕ → List (List LabelNumber) → Type 0
AreBelow n nets = All (λ ns. All (λ m. m.label < n) ns) nets

-- labels in order that are labels of the lists, with these numbers, the sizes of which add up to at most w
pub record HasSums (nets : List (List LabelNumber)) (f : ℕ → ℤ) (w : ℕ) (ps : List (ℕ × ℤ)) : Type 0 where
  pub rise : RiseFrom 0 ps
  pub below : (n : ℕ) → AreBelow n nets → All (λ p. p.0 < n) ps
  pub value : (k : ℕ) → held k ps ≡ f k
  pub small : size_held ps ≤ w

-- how often edge i crosses the ray from beside edge e
abbrev pub crosses : Plane → List (ℕ × ℕ) → ℕ → ℕ → ℤ
crosses at es e i =
    let d = get_or es e (0, 0) in
    let c = get_or es i (0, 0) in crossing (at d.0) (at d.1) (at c.0) (at c.1)

-- the net number of label k at the left of edge e, from the edges of a list
abbrev pub left_sum_of : Plane → List (ℕ × ℕ) → List (List LabelNumber) → ℕ → List ℕ → ℕ → ℤ
left_sum_of at es nets e near k = total (λ i. listed (get_or nets i []) k *ℤ crosses at es e i) near

-- and at its right
abbrev pub right_sum_of : Plane → List (ℕ × ℕ) → List (List LabelNumber) → ℕ → List ℕ → ℕ → ℤ
right_sum_of at es nets e near k = left_sum_of at es nets e near k -ℤ listed (get_or nets e []) k

-- the sizes of the numbers of the edges of a list
abbrev pub size_near : List (List LabelNumber) → List ℕ → ℕ
size_near nets near = sum_by (λ i. size_of (get_or nets i [])) near
