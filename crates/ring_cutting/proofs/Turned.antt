-- The neighbours of a place, by the ring that begins there.
use Rattle.std.specs.Prelude.{◌≡◌, ℕ, suc, ◌+◌, ◌-◌, ◌*◌, ◌%◌, ◌<◌, List, [], ◌∷◌, ◌++◌, length, get_or, take, drop}
use Rattle.std.proofs.Common.{arith, refl, sym, ap, ◌∙◌}
use Rattle.std.proofs.lemmas.List.{append-nil, length-append, length-take-le, get_or_at, get_or_append_left}
use Rattle.std.proofs.lemmas.List.{get_or-append-add, take_at, take-append-drop, drop_more}
use Rattle.std.proofs.Math.Nat.{mod-eq_of_lt, add-mul-mod_self_right}
use Rattle.chain_terms.specs.Paths.{last_of}
use Rattle.chain_laws.proofs.Paths.{last_of-append}
use Rattle.face_plane.specs.Rings.{vertex_at, vertex_before, vertex_after, without_place}
use Rattle.ring_cutting.proofs.Members.{head_or}

-- a place within the ring
pub at_within : (r : List ℕ) (i : ℕ) → i < length r → vertex_at r i ≡ get_or r i 0
at_within r i h = ap (λ k. get_or r k 0) (mod-eq_of_lt h)

-- once round
pub at_round : (r : List ℕ) (i : ℕ) → i < length r → vertex_at r (i + length r) ≡ get_or r i 0
at_round r i h =
    let once : i + 1 * length r ≡ i + length r = omega arith in
    ap (λ k. get_or r k 0) (ap (λ k. k % length r) (sym once) ∙ add-mul-mod_self_right i 1 (length r) ∙ mod-eq_of_lt h)

-- the last place
pub get_or-last : (x : ℕ) (r : List ℕ) → get_or (x ∷ r) (length r) 0 ≡ last_of x r
get_or-last x [] = refl
get_or-last x (y ∷ r) = get_or-last y r

pub split_length : (a : List ℕ) (x : ℕ) (b : List ℕ) → length (a ++ x ∷ b) ≡ length a + suc (length b)
split_length a x b = length-append a (x ∷ b)

-- the vertex itself
pub here_is : (a : List ℕ) (x : ℕ) (b : List ℕ) → vertex_at (a ++ x ∷ b) (length a) ≡ x
here_is a x b = at_within (a ++ x ∷ b) (length a) (omega (arith, split_length a x b)) ∙ get_or_at a x b 0 (length a) refl

-- the one after it
pub after_is : (a : List ℕ) (x : ℕ) (b : List ℕ) → vertex_after (a ++ x ∷ b) (length a) ≡ head_or x (b ++ a)
after_is a x (y ∷ b) =
    at_within (a ++ x ∷ y ∷ b) (length a + 1) (omega (arith, split_length a x (y ∷ b))) ∙ get_or-append-add a (x ∷ y ∷ b) 1 0
after_is a x [] =
    let r : List ℕ = a ++ x ∷ [] in
    let round : length a + 1 ≡ 0 + length r = omega (arith, split_length a x []) in
    ap (λ k. vertex_at r k) round ∙ at_round r 0 (omega (arith, split_length a x [])) ∙ first a
  where
    first : (c : List ℕ) → get_or (c ++ x ∷ []) 0 0 ≡ head_or x c
    first [] = refl
    first (y ∷ c) = refl

-- the one before it
pub before_is : (a : List ℕ) (x : ℕ) (b : List ℕ) → vertex_before (a ++ x ∷ b) (length a) ≡ last_of x (b ++ a)
before_is [] x b =
    let end : 0 + (length (x ∷ b) - 1) ≡ length b = omega arith in
    ap (λ k. vertex_at (x ∷ b) k) end ∙ at_within (x ∷ b) (length b) (omega arith) ∙ get_or-last x b ∙ ap (last_of x) (sym (append-nil b))
before_is (y ∷ a) x b =
    let r : List ℕ = (y ∷ a) ++ x ∷ b in
    let many : length r ≡ length (y ∷ a) + suc (length b) = split_length (y ∷ a) x b in
    let round : length (y ∷ a) + (length r - 1) ≡ length a + length r = omega (arith, many) in
    ap (λ k. vertex_at r k) round ∙ at_round r (length a) (omega (arith, many))
    ∙ get_or_append_left (y ∷ a) (x ∷ b) 0 (length a) (omega arith) ∙ get_or-last y a ∙ sym (last_of-append x b y a)

-- the ring without it
pub without_is : (a : List ℕ) (x : ℕ) (b : List ℕ) → without_place (length a) (a ++ x ∷ b) ≡ a ++ b
without_is a x b =
    ap (λ l. l ++ drop (length a + 1) (a ++ x ∷ b)) (take_at a (x ∷ b) (length a) refl) ∙ ap (λ l. a ++ l) (dropped a)
  where
    dropped : (c : List ℕ) → drop (length c + 1) (c ++ x ∷ b) ≡ b
    dropped [] = refl
    dropped (y ∷ c) = let e : length (y ∷ c) + 1 ≡ suc (length c + 1) = omega arith in ap (λ k. drop k ((y ∷ c) ++ x ∷ b)) e ∙ dropped c

-- a ring on both sides of a place
pub record SplitsAt (r : List ℕ) (i : ℕ) : Type 0 where
  pub front : List ℕ
  pub vertex : ℕ
  pub back : List ℕ
  pub joined : r ≡ front ++ vertex ∷ back
  pub place : i ≡ length front

-- each place splits its ring
pub splits_at : (r : List ℕ) (i : ℕ) → i < length r → SplitsAt r i
splits_at r i h = record {
  front = take i r;
  vertex = get_or r i 0;
  back = drop (i + 1) r;
  joined = sym (take-append-drop i r) ∙ ap (λ l. take i r ++ l) (drop_more r i 0 h);
  place = sym (length-take-le i r (omega (arith, h)));
}
