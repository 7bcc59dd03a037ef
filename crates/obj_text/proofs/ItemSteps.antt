-- The items of a face, read one after the other.
use Rattle.std.proofs.Common.{◌≡◌, ℕ, ◌≤◌, Bool, false, List, [], ◌∷◌, ◌++◌, length, Option, Some, None, Result, Ok, Err, refl, ap, sym, ◌∙◌, arith, append_assoc, length-append}
use Rattle.std.specs.Prelude.{nat_lt, IfSome, if◌then◌else◌}
use Rattle.std.proofs.lemmas.Bool.Decides.{nat_tests}
use Rattle.mesh_terms.specs.Faults.{Fault, Bad}
use Rattle.mb_base.specs.Faults.{fault_of}
use Rattle.mb_base.specs.declared.fault.TextFault.{TextFault}
use Rattle.text_terms.specs.FirstFault.{put_read, each_read, on_line}
use Rattle.format_terms.specs.Obj.{face_vertices}
use Rattle.format_terms.specs.ObjFaces.{item_vertex}
use Rattle.grid_number.specs.TextFaults.{IsFaultOf}
use Rattle.obj_text.specs.Items.{IsRead, read_after}

-- nothing was read so far
pub read_after-none : (r : Result (List ℕ) ℕ) → read_after [] r ≡ r
read_after-none (Err kind) = refl
read_after-none (Ok values) = refl

-- a value more, and the others
put_after : (old : List ℕ) (v : ℕ) (r : Result (List ℕ) ℕ) → read_after old (put_read (Ok v) r) ≡ read_after (old ++ v ∷ []) r
put_after old v (Err kind) = refl
put_after old v (Ok values) = ap (λ (vs : List ℕ). Ok vs) (sym (append_assoc old (v ∷ []) values))

-- a word more was read
pub read_after-more : (f : List ℕ → Result ℕ ℕ) (word : List ℕ) (words : List (List ℕ)) (old new : List ℕ) → IsRead f word old new →
    read_after old (each_read f (word ∷ words)) ≡ read_after new (each_read f words)
read_after-more f word words old new read =
    ap (λ (r : Result ℕ ℕ). read_after old (put_read r (each_read f words))) read.reads
    ∙ put_after old read.value (each_read f words)
    ∙ ap (λ (vs : List ℕ). read_after vs (each_read f words)) (sym read.added)

-- a fault of the next word
pub read_after-fault : (f : List ℕ → Result ℕ ℕ) (word : List ℕ) (words : List (List ℕ)) (old : List ℕ) (kind : ℕ) → f word ≡ Err kind →
    read_after old (each_read f (word ∷ words)) ≡ Err kind
read_after-fault f word words old kind e = ap (λ (r : Result ℕ ℕ). read_after old (put_read r (each_read f words))) e

-- three words or more are not too few
pub face_vertices-three : (count n : ℕ) (words : List (List ℕ)) → 3 ≤ length words → face_vertices count n words ≡ on_line n (each_read (item_vertex count) words)
face_vertices-three count n words three =
    let test : nat_lt (length words) 3 ≡ false = grind (arith, nat_tests) in
    ap (λ (b : Bool). if b then Err (Bad n 5) else on_line n (each_read (item_vertex count) words)) test

-- the fault of one word is that of all where they have it
on_line-fault : {A B : Type 0} (n : ℕ) (r : Result A ℕ) (all : Result B ℕ) (f : Fault) → ((kind : ℕ) → r ≡ Err kind → all ≡ Err kind) → on_line n r ≡ Err f → on_line n all ≡ Err f
on_line-fault {A} {B} n (Err kind) all f same e = let is : Bad n kind ≡ f = cc in ap (on_line n) (same kind refl) ∙ ap (λ (g : Fault). Err g) is
on_line-fault n (Ok a) all f same e = absurd (cc)

pub IsFaultOf-all : {A B : Type 0} (n : ℕ) (r : Result A ℕ) (all : Result B ℕ) (given : Result B Fault) (e : TextFault) → given ≡ on_line n all →
    ((kind : ℕ) → r ≡ Err kind → all ≡ Err kind) → IsFaultOf (on_line n r) e → IsFaultOf given e
IsFaultOf-all n r all given e is same fault = by_fault (fault_of e) fault where
  by_fault : (o : Option Fault) → IfSome o (λ f. on_line n r ≡ Err f) → IfSome o (λ f. given ≡ Err f)
  by_fault None h = tt
  by_fault (Some f) h = is ∙ on_line-fault n r all f same h

-- the fault of an item, after those that were read, is that of the face
pub fault_at : (count n : ℕ) (words : List (List ℕ)) (word : List ℕ) (rest : List (List ℕ)) (old : List ℕ) (e : TextFault) → 3 ≤ length words →
    each_read (item_vertex count) words ≡ read_after old (each_read (item_vertex count) (word ∷ rest)) → IsFaultOf (on_line n (item_vertex count word)) e →
    IsFaultOf (face_vertices count n words) e
fault_at count n words word rest old e three left fault =
    IsFaultOf-all n (item_vertex count word) (each_read (item_vertex count) words) (face_vertices count n words) e (face_vertices-three count n words three)
    (λ kind h. left ∙ read_after-fault (item_vertex count) word rest old kind h) fault

-- what the first words read as comes before what the others do
abbrev then_after : Result (List ℕ) ℕ → Result (List ℕ) ℕ → Result (List ℕ) ℕ
then_after (Err kind) r = Err kind
then_after (Ok values) r = read_after values r

put_then : (v : Result ℕ ℕ) (r s : Result (List ℕ) ℕ) → put_read v (then_after r s) ≡ then_after (put_read v r) s
put_then (Err kind) r s = refl
put_then (Ok v) (Err kind) s = refl
put_then (Ok v) (Ok values) (Err kind) = refl
put_then (Ok v) (Ok values) (Ok more) = refl

each_read-append : (f : List ℕ → Result ℕ ℕ) (front rest : List (List ℕ)) → each_read f (front ++ rest) ≡ then_after (each_read f front) (each_read f rest)
each_read-append f [] rest = sym (read_after-none (each_read f rest))
each_read-append f (word ∷ front) rest = ap (put_read (f word)) (each_read-append f front rest) ∙ put_then (f word) (each_read f front) (each_read f rest)

-- where some words begin with three
module _ (f : List ℕ → Result ℕ ℕ) (words : List (List ℕ)) (a b c : List ℕ) (rest : List (List ℕ)) (given : words ≡ a ∷ b ∷ c ∷ rest) where
  pub three_given : 3 ≤ length words
  three_given = omega (arith, ap (λ (ws : List (List ℕ)). length ws) given)

  split : each_read f words ≡ then_after (each_read f (a ∷ b ∷ c ∷ [])) (each_read f rest)
  split = ap (each_read f) given ∙ each_read-append f (a ∷ b ∷ c ∷ []) rest

  -- what these read as comes before what the others do
  pub left_after_three : (values : List ℕ) → each_read f (a ∷ b ∷ c ∷ []) ≡ Ok values → each_read f words ≡ read_after values (each_read f rest)
  left_after_three values e = split ∙ ap (λ (r : Result (List ℕ) ℕ). then_after r (each_read f rest)) e

  -- a fault of theirs is that of all
  pub fault_of_three : (kind : ℕ) → each_read f (a ∷ b ∷ c ∷ []) ≡ Err kind → each_read f words ≡ Err kind
  fault_of_three kind e = split ∙ ap (λ (r : Result (List ℕ) ℕ). then_after r (each_read f rest)) e

-- the next word was read
pub read_after-next : (f : List ℕ → Result ℕ ℕ) (word : List ℕ) (words rest : List (List ℕ)) (old new : List ℕ) → words ≡ word ∷ rest → IsRead f word old new →
    read_after old (each_read f words) ≡ read_after new (each_read f rest)
read_after-next f word words rest old new e read =
    ap (λ (ws : List (List ℕ)). read_after old (each_read f ws)) e ∙ read_after-more f word rest old new read

-- and the values are more
pub length-more : (f : List ℕ → Result ℕ ℕ) (word old new : List ℕ) → 3 ≤ length old → IsRead f word old new → 3 ≤ length new
length-more f word old new three read =
    omega (arith, ap (λ (vs : List ℕ). length vs) read.added, length-append old (read.value ∷ []))
