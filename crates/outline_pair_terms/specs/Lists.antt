-- Prescribed vertices of an operation on outlines, how they stand in the lists of edges, and the loops of their segments.
use Rattle.std.specs.Prelude.{ℕ, ℤ, pos, neg_ℤ, ◌+ℤ◌, ◌-ℤ◌, ◌*ℤ◌, List, [], ◌++◌, Bool, false, cond, ◌==◌, get_or, int_lt, length, map, nat_abs, replicate}
use Rattle.std.specs.List.{flat_map, sum_by}
use Rattle.chain_terms.specs.Cycles.{cycles}
use Rattle.chain_terms.specs.Ranks.{start, finish}
use Rattle.chain_terms.specs.Sums.{upto}
use Rattle.mb_base.specs.Op.{constants_of}
use Rattle.mb_base.specs.declared.op.Op.{Op}
use Rattle.edge_pairing.specs.Pairing.{scalar_product, step}
use Rattle.face_loops.specs.Standings.{segments_of}
use Rattle.outline_pair_terms.specs.declared.FlatHit.{FlatHit}
use Rattle.outline_pair_terms.specs.Numbers.{FlatNumbers}
use Rattle.outline_terms.specs.Outlines.{Outline, outline_edges}

-- what a prescribed vertex is a copy of: a vertex of P or Q, or a crossing of an edge of each
pub data FlatOrigin : Type 0 where
  OfP : (vertex : ℕ) → FlatOrigin
  OfQ : (vertex : ℕ) → FlatOrigin
  OfBoth : (p_edge q_edge : ℕ) → FlatOrigin

-- that, how often it is prescribed, and its point
pub record FlatPrescription : Type 0 where
  pub origin : FlatOrigin
  pub number : ℤ
  pub point : List ℤ

-- one copy: whether it is prescribed a negative number of times
pub record FlatCopy : Type 0 where
  pub origin : FlatOrigin
  pub negative : Bool
  pub point : List ℤ

abbrev pub constant : Op → ℕ → ℤ
constant op i = get_or (constants_of op) i (pos 0)

abbrev pub p_prescribed : Op → Outline → FlatNumbers → List FlatPrescription
p_prescribed op p n = map (λ v. record { origin = OfP v; number = constant op 0 +ℤ constant op 2 *ℤ get_or n.w02 v (pos 0); point = get_or p.points v [] }) (upto (length p.points))

abbrev pub q_prescribed : Op → Outline → FlatNumbers → List FlatPrescription
q_prescribed op q n = map (λ v. record { origin = OfQ v; number = constant op 1 +ℤ constant op 2 *ℤ get_or n.w20 v (pos 0); point = get_or q.points v [] }) (upto (length q.points))

abbrev pub hits_prescribed : Op → FlatNumbers → List FlatPrescription
hits_prescribed op n = map (λ (h : FlatHit). record { origin = OfBoth h.p_edge h.q_edge; number = constant op 2 *ℤ h.number; point = h.at }) n.hits

-- as many copies as the size of the number
abbrev pub flat_copies_of : FlatPrescription → List FlatCopy
flat_copies_of i = replicate (nat_abs i.number) (record { origin = i.origin; negative = int_lt i.number (pos 0); point = i.point })

-- the prescribed vertices in order, copies together
abbrev pub flat_copies : Op → Outline → Outline → FlatNumbers → List FlatCopy
flat_copies op p q n = flat_map flat_copies_of (p_prescribed op p n ++ (q_prescribed op q n ++ hits_prescribed op n))

-- how many copies there are of some
abbrev pub copy_count : List FlatPrescription → ℕ
copy_count is = sum_by (λ i. nat_abs i.number) is

-- the lists: one for each edge of P, by its place, and one for each of Q
pub data FlatList : Type 0 where
  EdgeP : (edge : ℕ) → FlatList
  EdgeQ : (edge : ℕ) → FlatList

-- 1 where the two are the same
abbrev pub at_same : ℕ → ℕ → ℤ
at_same a b = cond (a == b) (pos 1) (pos 0)

-- 1 where the edge starts at the vertex, -1 where it ends there
abbrev pub at_end : List (ℕ × ℕ) → ℕ → ℕ → ℤ
at_end es k v = at_same (start es k) v -ℤ at_same (finish es k) v

-- how what a copy comes from stands in a list: a crossing as a start on P's edge and as an end on Q's
abbrev pub flat_incidence : (p q : List (ℕ × ℕ)) → FlatList → FlatOrigin → ℤ
flat_incidence p q (EdgeP k) (OfP v) = at_end p k v
flat_incidence p q (EdgeP k) (OfQ v) = pos 0
flat_incidence p q (EdgeP k) (OfBoth i j) = at_same i k
flat_incidence p q (EdgeQ k) (OfP v) = pos 0
flat_incidence p q (EdgeQ k) (OfQ v) = at_end q k v
flat_incidence p q (EdgeQ k) (OfBoth i j) = neg_ℤ (at_same j k)

abbrev pub no_flat_copy : FlatCopy
no_flat_copy = record { origin = OfP 0; negative = false; point = [] }

-- 1 where copy v is a start of the list, -1 where it is an end, 0 where it is not in it
abbrev pub flat_standing : (p q : List (ℕ × ℕ)) → List FlatCopy → FlatList → ℕ → ℤ
flat_standing p q cs name v =
    let c = get_or cs v no_flat_copy in
    let z = flat_incidence p q name c.origin in cond c.negative (neg_ℤ z) z

-- all lists, P's first
abbrev pub flat_lists : (p q : List (ℕ × ℕ)) → List FlatList
flat_lists p q = map EdgeP (upto (length p)) ++ map EdgeQ (upto (length q))

-- how far along the edge of a list a copy lies, from the edge's start
abbrev pub flat_key : Outline → Outline → List FlatCopy → FlatList → ℕ → ℤ
flat_key p q cs (EdgeP k) v = let es
    = outline_edges p in scalar_product (step (get_or p.points (start es k) []) (get_or p.points (finish es k) [])) (get_or cs v no_flat_copy).point
flat_key p q cs (EdgeQ k) v = let es
    = outline_edges q in scalar_product (step (get_or q.points (start es k) []) (get_or q.points (finish es k) [])) (get_or cs v no_flat_copy).point

-- the segments of all lists
abbrev pub flat_segments : Outline → Outline → List FlatCopy → List (ℕ × ℕ)
flat_segments p q cs =
    let es = outline_edges p in
    let fs = outline_edges q in segments_of (flat_standing es fs cs) (flat_key p q cs) (length cs) (flat_lists es fs)

-- the outline of the copies
abbrev pub outline_of : Outline → Outline → List FlatCopy → Outline
outline_of p q cs = record { points = map (λ c. c.point) cs; loops = cycles (flat_segments p q cs) }
