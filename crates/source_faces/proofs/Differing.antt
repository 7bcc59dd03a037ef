-- No two records of hits are of the same face, list and copy.
use Rattle.std.proofs.Common.{◌≡◌, ℕ, zero, suc, ◌+◌, ◌/◌, ◌%◌, ◌<◌, ◌≤◌, Bool, not, pos, List, [], ◌∷◌, ◌++◌, nat_abs, int_lt, arith}
use Rattle.std.specs.List.{All}
use Rattle.std.proofs.lemmas.List.Elements.{All-append, All-from_recursion, All-head, All-nil, All-tail, All-weaker}
use Rattle.std.proofs.lemmas.List.Sums.{sum_by-cons}
use Rattle.chain_terms.specs.Ranks.{twin}
use Rattle.mb_base.specs.declared.op.Op.{Op}
use Rattle.mb_base.specs.declared.results.Hit.{Hit}
use Rattle.side_terms.specs.Prescribed.{hit_count, hit_number_of}
use Rattle.source_faces.specs.Stands.{copy_stands, hit_stands, one_hit_stands, six_stands}
use Rattle.source_faces.specs.declared.lists.stands.Stand.{Stand}
use Rattle.source_faces.proofs.StrictSort.{AllDiffer, Differ}

-- records of copies below a number, then records of others
pub differ_append : (m : ℕ) (ss ts : List Stand) → All (λ s. s.copy < m) ss → All (λ s. m ≤ s.copy) ts → AllDiffer ss → AllDiffer ts →
    AllDiffer (ss ++ ts)
differ_append m [] ts low high d e = e
differ_append m (s ∷ ss) ts low high d e =
    let here = All-head (λ t. t.copy < m) s ss low in (
      All-append (Differ s) ss ts d.0 (All-weaker (λ t. m ≤ t.copy) (Differ s) (λ t l a b c. omega (arith, here, l, c)) ts high),
      differ_append m ss ts (All-tail (λ t. t.copy < m) s ss low) high d.1 e,
    )

-- a hit whose edge has two faces, and they and the crossed face have different numbers
pub record AreThree (own other lower upper face : ℕ) : Type 0 where
  pub apart : lower / 3 ≡ upper / 3 → ⊥
  pub first : own + lower / 3 ≡ other + face → ⊥
  pub second : own + upper / 3 ≡ other + face → ⊥

-- a record of one of n copies from number k on
abbrev pub IsWithinCopies : ℕ → ℕ → Stand → Type 0
IsWithinCopies k n s = (k ≤ s.copy) × (s.copy < k + n)

-- the copies of a hit with these half-edges and face
module _ (own other lower upper face : ℕ) (positive : Bool) where
  abbrev six : ℕ → List Stand
  six = six_stands own other lower upper face positive

  abbrev times : ℕ → ℕ → List Stand
  times = copy_stands own other lower upper face positive

  -- the six of one of them differ
  six_differ : (v : ℕ) → AreThree own other lower upper face → AllDiffer (six v)
  six_differ v three =
      let x = own + lower / 3 in
      let y = own + upper / 3 in
      let z = other + face in
      let r0 : Stand = record { face = x; list = lower % 3; copy = v; start = not positive } in
      let r1 : Stand = record { face = y; list = upper % 3; copy = v; start = positive } in
      let r2 : Stand = record { face = x; list = 3 + face; copy = v; start = positive } in
      let r3 : Stand = record { face = y; list = 3 + face; copy = v; start = not positive } in
      let r4 : Stand = record { face = z; list = 3 + lower / 3; copy = v; start = not positive } in
      let r5 : Stand = record { face = z; list = 3 + upper / 3; copy = v; start = positive } in
      let same_faces : x ≡ y → ⊥ = λ e. three.apart (omega (arith, e)) in
      let turned_faces : y ≡ x → ⊥ = λ e. three.apart (omega (arith, e)) in (
        All-from_recursion (Differ r0) (r1 ∷ r2 ∷ r3 ∷ r4 ∷ r5 ∷ []) (
          (λ a b c. same_faces a),
          ((λ a b c. omega (arith, b)), ((λ a b c. same_faces a), ((λ a b c. three.first a), ((λ a b c. three.first a), tt)))),
        ),
        (
          All-from_recursion (Differ r1) (r2 ∷ r3 ∷ r4 ∷ r5 ∷ [])
              ((λ a b c. turned_faces a), ((λ a b c. omega (arith, b)), ((λ a b c. three.second a), ((λ a b c. three.second a), tt)))),
          (
            All-from_recursion (Differ r2) (r3 ∷ r4 ∷ r5 ∷ []) ((λ a b c. same_faces a), ((λ a b c. three.first a), ((λ a b c. three.first a), tt))),
            (
              All-from_recursion (Differ r3) (r4 ∷ r5 ∷ []) ((λ a b c. three.second a), ((λ a b c. three.second a), tt)),
              (All-from_recursion (Differ r4) (r5 ∷ []) ((λ a b c. three.apart (omega (arith, b))), tt), (All-nil (Differ r5), tt)),
            ),
          ),
        ),
      )

  -- and are of that copy
  six_within : (v : ℕ) → All (IsWithinCopies v 1) (six v)
  six_within v =
      let here : (v ≤ v) × (v < v + 1) = (omega arith, omega arith) in
      All-from_recursion (IsWithinCopies v 1) (six v) (here, (here, (here, (here, (here, (here, tt))))))

  -- so those of all
  copies_within : (k n : ℕ) → All (IsWithinCopies k n) (times k n)
  copies_within k zero = All-nil (IsWithinCopies k 0)
  copies_within k (suc n) =
      let In : Stand → Type 0 = IsWithinCopies k (suc n) in
      let rest = times (suc k) n in
      All-append In (six k) rest (All-weaker (IsWithinCopies k 1) In (λ s w. (w.0, omega (arith, w.1))) (six k) (six_within k))
      (All-weaker (IsWithinCopies (suc k) n) In (λ s w. (omega (arith, w.0), omega (arith, w.1))) rest (copies_within (suc k) n))

  copies_differ : (k n : ℕ) → AreThree own other lower upper face → AllDiffer (times k n)
  copies_differ k zero three = tt
  copies_differ k (suc n) three =
      let rest = times (suc k) n in
      let low : All (λ s. s.copy < suc k) (six k) =
      All-weaker (IsWithinCopies k 1) (λ s. s.copy < suc k) (λ s w. omega (arith, w.1)) (six k) (six_within k) in
      let high : All (λ s. suc k ≤ s.copy) rest =
      All-weaker (IsWithinCopies (suc k) n) (λ s. suc k ≤ s.copy) (λ s w. w.0) rest (copies_within (suc k) n) in
      differ_append (suc k) (six k) rest low high (six_differ k three) (copies_differ (suc k) n three)

-- those of all hits of a chain's edges
module _ (op : Op) (es : List (ℕ × ℕ)) (own other : ℕ) where
  one_within : (h : Hit) (k : ℕ) → All (IsWithinCopies k (nat_abs (hit_number_of op h.number))) (one_hit_stands op es own other k h)
  one_within h k =
      copies_within own other h.edge (twin es h.edge) h.face (int_lt (pos 0) (hit_number_of op h.number)) k (nat_abs (hit_number_of op h.number))

  pub hits_within : (k : ℕ) (hs : List Hit) → All (IsWithinCopies k (hit_count op hs)) (hit_stands op es own other k hs)
  hits_within k [] = All-nil (IsWithinCopies k 0)
  hits_within k (h ∷ hs) =
      let size = nat_abs (hit_number_of op h.number) in
      let In : Stand → Type 0 = IsWithinCopies k (hit_count op (h ∷ hs)) in
      let first = one_hit_stands op es own other k h in
      let rest = hit_stands op es own other (k + size) hs in
      let more = sum_by-cons (λ g. nat_abs (hit_number_of op g.number)) h hs in
      All-append In first rest (All-weaker (IsWithinCopies k size) In (λ s w. (w.0, omega (arith, w.1, more))) first (one_within h k))
      (All-weaker (IsWithinCopies (k + size) (hit_count op hs)) In (λ s w. (omega (arith, w.0), omega (arith, w.1, more))) rest
      (hits_within (k + size) hs))

  -- the two faces of a hit's edge and the crossed face
  abbrev pub HasThree : Hit → Type 0
  HasThree h = AreThree own other h.edge (twin es h.edge) h.face

  pub hits_differ : (k : ℕ) (hs : List Hit) → All HasThree hs → AllDiffer (hit_stands op es own other k hs)
  hits_differ k [] three = tt
  hits_differ k (h ∷ hs) three =
      let size = nat_abs (hit_number_of op h.number) in
      let first = one_hit_stands op es own other k h in
      let rest = hit_stands op es own other (k + size) hs in
      let one =
      copies_differ own other h.edge (twin es h.edge) h.face (int_lt (pos 0) (hit_number_of op h.number)) k size (All-head HasThree h hs three) in
      let low : All (λ s. s.copy < k + size) first =
      All-weaker (IsWithinCopies k size) (λ s. s.copy < k + size) (λ s w. w.1) first (one_within h k) in
      let high : All (λ s. k + size ≤ s.copy) rest =
      All-weaker (IsWithinCopies (k + size) (hit_count op hs)) (λ s. k + size ≤ s.copy) (λ s w. w.0) rest (hits_within (k + size) hs) in
      differ_append (k + size) first rest low high one (hits_differ (k + size) hs (All-tail HasThree h hs three))
