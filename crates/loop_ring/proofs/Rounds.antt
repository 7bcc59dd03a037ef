-- What each change of a ring's links leaves is a circle again, and a circle is followed to its end.
use Rattle.std.proofs.Common.{◌≡◌, ℕ, ◌+◌, ◌-◌, ◌<◌, List, [], ◌∷◌, ◌++◌, length, drop, set, get_or, refl, sym, ap, subst, ◌∙◌, arith}
use Rattle.std.proofs.lemmas.List.{length-append, length-drop, length-map, drop-map}
use denote.RawPtr.{Ptr, null_ptr}
use Rattle.loop_ring.specs.Located.{Located, addresses, nexts, prevs, address_at}
use Rattle.loop_ring.specs.Circles.{IsCircle, IsChain}
use Rattle.loop_ring.specs.Turning.{turned_to}
use Rattle.loop_ring.proofs.Turning.{map-turned_to, back_after_step, step_after_back, nexts_cut, prevs_cut, nexts_spliced, prevs_spliced}

-- ---- a circle that is listed from the node before
pub circle_back : (p q : Ptr) (ns ms : List Located) (n : ℕ) → n ≡ length ns → IsCircle p ns → q ≡ get_or (prevs ns) 0 null_ptr → ms ≡ turned_to (n - 1) ns → IsCircle q ms
circle_back p q ns ms n count circle to turned =
    let some = circle.some in let la = length-map ns (λ x. x.0) in let lb = length-map ns (λ x. x.1.prev) in
    let there : addresses ms ≡ prevs ns =
    ap addresses turned ∙ map-turned_to (λ x. x.0) (n - 1) ns ∙ ap (turned_to (n - 1)) (sym circle.backward) ∙ back_after_step n (prevs ns) (omega arith) in
    let ahead : nexts ms ≡ addresses ns =
    ap nexts turned ∙ map-turned_to (λ x. x.1.next) (n - 1) ns ∙ ap (turned_to (n - 1)) circle.forward ∙ back_after_step n (addresses ns) (omega arith) in
    let lm = length-map ms (λ x. x.0) in let same = ap length there in
    record {
      some = omega arith;
      front = to ∙ ap (λ ps. get_or ps 0 null_ptr) (sym there);
      forward = ahead ∙ sym circle.backward ∙ ap (turned_to 1) (sym there);
      backward = ap (turned_to 1) (ap prevs turned ∙ map-turned_to (λ x. x.1.prev) (n - 1) ns) ∙ step_after_back n (prevs ns) (omega arith) (omega arith) ∙ sym there;
    }

-- ---- a circle whose first node goes
second_of_turned : (ps : List Ptr) → 1 < length ps → get_or (turned_to 1 ps) 0 null_ptr ≡ get_or ps 1 null_ptr
second_of_turned [] more = absurd (omega arith)
second_of_turned (a ∷ []) more = absurd (omega arith)
second_of_turned (a ∷ b ∷ ps) more = refl

first_of_rest : (ps : List Ptr) → get_or (drop 1 ps) 0 null_ptr ≡ get_or ps 1 null_ptr
first_of_rest [] = refl
first_of_rest (a ∷ ps) = refl

pub circle_cut : (p q a : Ptr) (ns ls ms : List Located) (n : ℕ) → n ≡ length ns → 1 < n → IsCircle p ns → q ≡ get_or (nexts ns) 0 null_ptr → a ≡ get_or (prevs ns) 0 null_ptr
    → addresses ls ≡ addresses ns → nexts ls ≡ set (nexts ns) (n - 1) q → prevs ls ≡ set (prevs ns) 1 a → ms ≡ drop 1 ls → IsCircle q ms
circle_cut p q a ns ls ms n count more circle to from there ahead behind gone =
    let la = length-map ns (λ x. x.0) in let lb = length-map ns (λ x. x.1.prev) in let ps = addresses ns in let bs = prevs ns in
    let second : q ≡ get_or ps 1 null_ptr = to ∙ ap (λ ps. get_or ps 0 null_ptr) circle.forward ∙ second_of_turned ps (omega arith) in
    let left : addresses ms ≡ drop 1 ps = ap addresses gone ∙ sym (drop-map (λ x. x.0) 1 ls) ∙ ap (drop 1) there in
    let ll = length-map ms (λ x. x.0) in let cut = ap length left in let rest = length-drop 1 ps in
    record {
      some = omega arith;
      front = second ∙ sym (first_of_rest ps) ∙ ap (λ ps. get_or ps 0 null_ptr) (sym left);
      forward = ap nexts gone ∙ sym (drop-map (λ x. x.1.next) 1 ls) ∙ ap (drop 1) (ahead ∙ (λ i. set (circle.forward i) (n - 1) (second i)))
          ∙ nexts_cut ps n (omega arith) more ∙ ap (turned_to 1) (sym left);
      backward = ap (turned_to 1) (ap prevs gone ∙ sym (drop-map (λ x. x.1.prev) 1 ls) ∙ ap (drop 1) (behind ∙ ap (set bs 1) from)) ∙ prevs_cut bs (omega arith)
          ∙ ap (drop 1) circle.backward ∙ sym left;
    }

-- ---- two circles joined
first_of_both : (ps cs : List Ptr) → 0 < length ps → get_or (ps ++ cs) 0 null_ptr ≡ get_or ps 0 null_ptr
first_of_both [] cs some = absurd (omega arith)
first_of_both (a ∷ ps) cs some = refl

pub circle_spliced : (p q a b : Ptr) (ns ms ls : List Located) (n m : ℕ) → n ≡ length ns → m ≡ length ms → IsCircle p ns → IsCircle q ms
    → a ≡ get_or (prevs ns) 0 null_ptr → b ≡ get_or (prevs ms) 0 null_ptr → addresses ls ≡ addresses ns ++ addresses ms
    → nexts ls ≡ set (set (nexts ns ++ nexts ms) (n - 1) q) (n + m - 1) p → prevs ls ≡ set (set (prevs ns ++ prevs ms) n a) 0 b → IsCircle p ls
circle_spliced p q a b ns ms ls n m here there one other from end both ahead behind =
    let some = one.some in let more = other.some in let ps = addresses ns in let cs = addresses ms in
    let la = length-map ns (λ x. x.0) in let lc = length-map ms (λ x. x.0) in let lb = length-map ns (λ x. x.1.prev) in let ld = length-map ms (λ x. x.1.prev) in
    let ll = length-map ls (λ x. x.0) in let whole = ap length both in let sum = length-append ps cs in
    record {
      some = omega arith;
      front = one.front ∙ sym (first_of_both ps cs (omega arith)) ∙ ap (λ ps. get_or ps 0 null_ptr) (sym both);
      forward = ahead ∙ (λ i. set (set (one.forward i ++ other.forward i) (n - 1) (other.front i)) (n + m - 1) (one.front i))
          ∙ nexts_spliced ps cs n m (omega arith) (omega arith) (omega arith) (omega arith) ∙ ap (turned_to 1) (sym both);
      backward = ap (turned_to 1) (behind ∙ (λ i. set (set (prevs ns ++ prevs ms) n (from i)) 0 (end i)))
          ∙ prevs_spliced (prevs ns) (prevs ms) n (omega arith) (omega arith) (omega arith) ∙ (λ i. one.backward i ++ other.backward i) ∙ sym both;
    }

-- ---- a circle followed from node to node
chain_to : (p q : Ptr) (ns : List Located) → p ∷ nexts ns ≡ addresses ns ++ q ∷ [] → IsChain p ns
chain_to p q [] links = tt
chain_to p q (n ∷ ns) links = (ap (λ ps. get_or ps 0 null_ptr) links, chain_to n.1.next q ns (ap (drop 1) links))

pub chain_of_circle : (p : Ptr) (ns : List Located) → IsCircle p ns → IsChain p ns
chain_of_circle p [] circle = tt
chain_of_circle p (n ∷ ns) circle = chain_to p n.0 (n ∷ ns) (λ i. circle.front i ∷ circle.forward i)

pub chain_front : (p : Ptr) (ns : List Located) → 0 < length ns → IsChain p ns → p ≡ address_at ns 0
chain_front p [] some chain = absurd (omega arith)
chain_front p (n ∷ ns) some chain = chain.0

pub chain_on : (p q : Ptr) (ns ms : List Located) → 0 < length ns → IsChain p ns → q ≡ get_or (nexts ns) 0 null_ptr → ms ≡ drop 1 ns → IsChain q ms
chain_on p q [] ms some chain to gone = absurd (omega arith)
chain_on p q (n ∷ ns) ms some chain to gone = subst (IsChain q) (sym gone) (subst (λ r. IsChain r ns) (sym to) chain.1)
