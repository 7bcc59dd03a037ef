-- Lists of runs, of entries and of records, one more.
use Rattle.std.proofs.Common.{◌≡◌, ℕ, ◌+◌, ◌<◌, ◌≤◌, ℤ, pos, List, [], ◌∷◌, ◌++◌, Bool, true, false, not, cond, map}
use Rattle.std.proofs.Common.{length, take, get_or, nat_abs, int_lt, append-nil, append_assoc, refl, sym, ap, ◌∙◌}
use Rattle.std.proofs.Common.{arith}
use Rattle.std.specs.List.{flat_map, sum_by}
use Rattle.std.proofs.lemmas.List.{map_push, take_more}
use Rattle.std.proofs.lemmas.List.Concat.{flat_map-append}
use Rattle.std.proofs.lemmas.List.Sums.{sum_by-cons, sum_by-take-le, sum_by_more}
use mathlib.Core.Bool.{beq}
use Rattle.chain_terms.specs.Ranks.{twin}
use Rattle.chain_terms.specs.Sums.{up_from}
use Rattle.chain_laws.proofs.Places.{up_from-append}
use Rattle.side_terms.specs.Prescribed.{hit_count, hit_number_of, vertex_count}
use Rattle.mb_base.specs.declared.op.Op.{Op}
use Rattle.mb_base.specs.declared.results.Entry.{Entry}
use Rattle.mb_base.specs.declared.results.Hit.{Hit}
use Rattle.source_faces.specs.Entries.{run_entries}
use Rattle.source_faces.specs.Runs.{runs_from}
use Rattle.source_faces.specs.Stands.{copy_stands, hit_stands, one_hit_stands, six_stands}
use Rattle.source_faces.specs.declared.lists.runs.CopyRange.{CopyRange}
use Rattle.source_faces.specs.declared.lists.stands.Stand.{Stand}

-- a list that grew
pub grown : {X : Type 0} (new now old so_far more extra : List X) → new ≡ now ++ extra → now ≡ old ++ so_far → more ≡ so_far ++ extra →
    new ≡ old ++ more
grown new now old so_far more extra e f g = e ∙ ap (λ l. l ++ extra) f ∙ append_assoc old so_far extra ∙ ap (λ l. old ++ l) (sym g)

-- one number more
pub numbers_more : (k n : ℕ) → up_from k (n + 1) ≡ up_from k n ++ (k + n) ∷ []
numbers_more k n = up_from-append k n 1

-- whether copies are starts
starts_there : (at_start negative : Bool) → cond at_start (not negative) negative ≡ not (beq at_start negative)
starts_there true true = refl
starts_there true false = refl
starts_there false true = refl
starts_there false false = refl

-- one copy of a vertex more
pub run_more : (first n : ℕ) (negative at_start : Bool) →
    run_entries (record { first = first; count = n + 1; negative = negative }) at_start
    ≡ run_entries (record { first = first; count = n; negative = negative }) at_start
    ++ record { vertex = first + n; start = not (beq at_start negative) } ∷ []
run_more first n negative at_start =
    let entry : ℕ → Entry = λ v. record { vertex = v; start = cond at_start (not negative) negative } in
    let there : ◌≡◌ {A = Entry} (record { vertex = first + n; start = cond at_start (not negative) negative })
    (record { vertex = first + n; start = not (beq at_start negative) }) =
    ap (λ b. record { vertex = first + n; start = b }) (starts_there at_start negative) in
    ap (map entry) (numbers_more first n) ∙ map_push entry (up_from first n) (first + n) ∙ ap (λ e. map entry (up_from first n) ++ e ∷ []) there

-- one copy of a hit more
pub copies_more : (own other lower upper face : ℕ) (positive : Bool) (k n : ℕ) →
    copy_stands own other lower upper face positive k (n + 1) ≡
    copy_stands own other lower upper face positive k n ++ six_stands own other lower upper face positive (k + n)
copies_more own other lower upper face positive k n =
    let six = six_stands own other lower upper face positive in
    ap (flat_map six) (numbers_more k n) ∙ flat_map-append six (up_from k n) ((k + n) ∷ [])
    ∙ ap (λ l. flat_map six (up_from k n) ++ l) (append-nil (six (k + n)))

-- one vertex more
pub runs_more : (k : ℕ) (ns : List ℤ) (n : ℤ) →
    runs_from k (ns ++ n ∷ []) ≡ runs_from k ns ++ record { first = k + sum_by nat_abs ns; count = nat_abs n; negative = int_lt n (pos 0) } ∷ []
runs_more k [] n =
    let none : k ≡ k + 0 = omega arith in
    ap (λ (m : ℕ). record { first = m; count = nat_abs n; negative = int_lt n (pos 0) } ∷ []) none
runs_more k (m ∷ ns) n =
    let sum : k + nat_abs m + sum_by nat_abs ns ≡ k + sum_by nat_abs (m ∷ ns) = omega (arith, sum_by-cons nat_abs m ns) in
    let here : CopyRange = record { first = k; count = nat_abs m; negative = int_lt m (pos 0) } in
    ap (λ l. here ∷ l)
    (runs_more (k + nat_abs m) ns n
    ∙ ap (λ (j : ℕ). runs_from (k + nat_abs m) ns ++ record { first = j; count = nat_abs n; negative = int_lt n (pos 0) } ∷ []) sum)

-- the sizes of the numbers
sum_by-numbers : (number : ℤ → ℤ) (ws : List ℤ) → sum_by nat_abs (map number ws) ≡ vertex_count number ws
sum_by-numbers number [] = refl
sum_by-numbers number (w ∷ ws) =
    omega (arith, sum_by-cons nat_abs (number w) (map number ws), sum_by-cons (λ v. nat_abs (number v)) w ws, sum_by-numbers number ws)

-- the runs of one winding number more
pub runs_next : (number : ℤ → ℤ) (k first count i : ℕ) (m : ℤ) (ws : List ℤ) (old new : List CopyRange) → i < length ws →
    old ≡ runs_from k (map number (take i ws)) →
    first ≡ k + vertex_count number (take i ws) → m ≡ number (get_or ws i (pos 0)) → count ≡ nat_abs (number (get_or ws i (pos 0))) →
    new ≡ old ++ record { first = first; count = count; negative = int_lt m (pos 0) } ∷ [] → new ≡ runs_from k (map number (take (i + 1) ws))
runs_next number k first count i m ws old new below is at value size pushed =
    let w = get_or ws i (pos 0) in
    let ns = map number (take i ws) in
    let sum : first ≡ k + sum_by nat_abs ns = at ∙ ap (λ (s : ℕ). k + s) (sym (sum_by-numbers number (take i ws))) in
    let run : ◌≡◌ {A = CopyRange} (record { first = first; count = count; negative = int_lt m (pos 0) })
    (record { first = k + sum_by nat_abs ns; count = nat_abs (number w); negative = int_lt (number w) (pos 0) }) =
    cc in
    let more : map number (take (i + 1) ws) ≡ ns ++ number w ∷ [] = ap (map number) (take_more ws i (pos 0) below) ∙ map_push number (take i ws) w in
    pushed ∙ ap (λ l. l ++ record { first = first; count = count; negative = int_lt m (pos 0) } ∷ []) is ∙ ap (λ r. runs_from k ns ++ r ∷ []) run
    ∙ sym (ap (runs_from k) more ∙ runs_more k ns (number w))

-- one hit more
pub hits_more : (op : Op) (es : List (ℕ × ℕ)) (own other k : ℕ) (hs : List Hit) (h : Hit) →
    hit_stands op es own other k (hs ++ h ∷ []) ≡ hit_stands op es own other k hs ++ one_hit_stands op es own other (k + hit_count op hs) h
hits_more op es own other k [] h =
    let none : k ≡ k + 0 = omega arith in
    append-nil (one_hit_stands op es own other k h) ∙ ap (λ m. one_hit_stands op es own other m h) none
hits_more op es own other k (g ∷ hs) h =
    let size = nat_abs (hit_number_of op g.number) in
    let sum : k + size + hit_count op hs ≡ k + hit_count op (g ∷ hs) =
    omega (arith, sum_by-cons (λ (m : Hit). nat_abs (hit_number_of op m.number)) g hs) in
    ap (λ l. one_hit_stands op es own other k g ++ l)
    (hits_more op es own other (k + size) hs h ∙ ap (λ m. hit_stands op es own other (k + size) hs ++ one_hit_stands op es own other m h) sum)
    ∙ sym (append_assoc (one_hit_stands op es own other k g) (hit_stands op es own other (k + size) hs)
    (one_hit_stands op es own other (k + hit_count op (g ∷ hs)) h))

-- the records of one hit more
pub hits_next : (op : Op) (es : List (ℕ × ℕ)) (own other k next times upper i : ℕ) (m : ℤ) (h : Hit) (hs : List Hit)
    (old now new : List Stand) → i < length hs → get_or hs i h ≡ h →
    now ≡ old ++ hit_stands op es own other k (take i hs) → next ≡ k + hit_count op (take i hs) → m ≡ hit_number_of op h.number →
    times ≡ nat_abs (hit_number_of op h.number) → upper ≡ twin es h.edge →
    new ≡ now ++ copy_stands own other h.edge upper h.face (int_lt (pos 0) m) next times → new ≡ old ++ hit_stands op es own other k (take (i + 1) hs)
hits_next op es own other k next times upper i m h hs old now new below same is at value size half pushed =
    let so_far = take i hs in
    let one : copy_stands own other h.edge upper h.face (int_lt (pos 0) m) next times ≡ one_hit_stands op es own other (k + hit_count op so_far) h =
    cc in
    let more : take (i + 1) hs ≡ so_far ++ h ∷ [] = take_more hs i h below ∙ ap (λ g. so_far ++ g ∷ []) same in
    grown new now old (hit_stands op es own other k so_far) (hit_stands op es own other k (take (i + 1) hs))
    (one_hit_stands op es own other (k + hit_count op so_far) h) (pushed ∙ ap (λ l. now ++ l) one) is
    (ap (hit_stands op es own other k) more ∙ hits_more op es own other k so_far h)

-- how many copies hits have, one more
pub hit_count_next : (op : Op) (i : ℕ) (h : Hit) (hs : List Hit) → i < length hs → get_or hs i h ≡ h →
    hit_count op (take (i + 1) hs) ≡ hit_count op (take i hs) + nat_abs (hit_number_of op h.number)
hit_count_next op i h hs below same =
    sum_by_more (λ (g : Hit). nat_abs (hit_number_of op g.number)) hs i h below
    ∙ ap (λ (g : Hit). hit_count op (take i hs) + nat_abs (hit_number_of op g.number)) same

-- and they are no more than all
pub hit_count_part : (op : Op) (i : ℕ) (h : Hit) (hs : List Hit) → i < length hs → get_or hs i h ≡ h →
    hit_count op (take i hs) + nat_abs (hit_number_of op h.number) ≤ hit_count op hs
hit_count_part op i h hs below same =
    omega (arith, hit_count_next op i h hs below same, sum_by-take-le (λ (g : Hit). nat_abs (hit_number_of op g.number)) hs (i + 1))
