-- How the lists of prescribed vertices grow.
use Rattle.std.proofs.Common.{◌≡◌, ℕ, zero, suc, ◌+◌, ◌<◌, ℤ, pos, List, [], ◌∷◌, ◌++◌, map, replicate, length, take, get_or, nat_abs, refl, ap, ◌∙◌, append-nil, append_assoc}
use Rattle.std.specs.List.{flat_map}
use Rattle.std.proofs.lemmas.List.{map-append, map_push, take_more}
use Rattle.std.proofs.lemmas.List.Concat.{flat_map-append}
use Rattle.chain_terms.specs.Sums.{upto}
use Rattle.chain_laws.proofs.Places.{upto_more}
use Rattle.mb_base.specs.declared.results.Hit.{Hit}
use Rattle.mb_base.specs.declared.results.Origin.{Origin}
use Rattle.side_terms.specs.Lists.{Copy}
use Rattle.side_terms.specs.Prescribed.{Prescription, copy_of, copies_of, prescribed_hits, prescribed_vertices}

-- a function of equal members
map-replicate : {A B : Type 0} (f : A → B) (n : ℕ) (x : A) → map f (replicate n x) ≡ replicate n (f x)
map-replicate f zero x = refl
map-replicate f (suc n) x = ap (λ r. f x ∷ r) (map-replicate f n x)

-- what one more adds to a field of the copies
pub field_more : {A : Type 0} (field : Copy → A) (is : List Prescription) (i : Prescription) →
    map field (flat_map copies_of (is ++ i ∷ [])) ≡ map field (flat_map copies_of is) ++ replicate (nat_abs i.number) (field (copy_of i))
field_more field is i =
    ap (map field) (flat_map-append copies_of is (i ∷ [])) ∙ map-append field (flat_map copies_of is) (copies_of i ++ [])
    ∙ ap (λ r. map field (flat_map copies_of is) ++ r) (ap (map field) (append-nil (copies_of i)) ∙ map-replicate field (nat_abs i.number) (copy_of i))

-- one vertex more
pub vertices_more : (origin : ℕ → Origin) (number : ℤ → ℤ) (ws : List ℤ) (ps : List (List ℤ)) (v : ℕ) →
    prescribed_vertices origin number ws ps (v + 1) ≡ prescribed_vertices origin number ws ps v
    ++ record { origin = origin v; number = number (get_or ws v (pos 0)); point = get_or ps v [] } ∷ []
vertices_more origin number ws ps v =
    let f : ℕ → Prescription = λ u. record { origin = origin u; number = number (get_or ws u (pos 0)); point = get_or ps u [] } in
    ap (map f) (upto_more v) ∙ map_push f (upto v) v

-- one hit more
pub hits_more : (origin : ℕ → ℕ → Origin) (number : ℤ → ℤ) (hs : List Hit) (i : ℕ) (d : Hit) → i < length hs →
    prescribed_hits origin number (take (i + 1) hs) ≡ prescribed_hits origin number (take i hs)
    ++ (let h = get_or hs i d in record { origin = origin h.edge h.face; number = number h.number; point = h.at }) ∷ []
hits_more origin number hs i d below =
    let f : Hit → Prescription = λ h. record { origin = origin h.edge h.face; number = number h.number; point = h.at } in
    ap (map f) (take_more hs i d below) ∙ map_push f (take i hs) (get_or hs i d)

-- a list that grew by the copies of one more
pub grown : {A : Type 0} (field : Copy → A) (new old before : List A) (is is' : List Prescription) (i : Prescription) (n : ℕ) (x : A) →
    new ≡ old ++ replicate n x → old ≡ before ++ map field (flat_map copies_of is) → is' ≡ is ++ i ∷ [] → n ≡ nat_abs i.number → x ≡ field (copy_of i) →
    new ≡ before ++ map field (flat_map copies_of is')
grown field new old before is is' i n x pushed stood more times same =
    let rows = map field (flat_map copies_of is) in
    let copies = replicate (nat_abs i.number) (field (copy_of i)) in
    let assoc = append_assoc before rows copies in
    let step : map field (flat_map copies_of is') ≡ rows ++ copies = ap (λ l. map field (flat_map copies_of l)) more ∙ field_more field is i in
    let these : replicate n x ≡ copies = ap (λ k. replicate k x) times ∙ ap (replicate (nat_abs i.number)) same in cc

-- the copies of four lists, one after the other
pub in_order : {A : Type 0} (field : Copy → A) (is js ks ls : List Prescription) (a b c d e : List A) →
    a ≡ [] → b ≡ a ++ map field (flat_map copies_of is) → c ≡ b ++ map field (flat_map copies_of js) → d ≡ c ++ map field (flat_map copies_of ks) →
    e ≡ d ++ map field (flat_map copies_of ls) →
    e ≡ map field (flat_map copies_of (is ++ (js ++ (ks ++ ls))))
in_order {A = A} field is js ks ls a b c d e none first second third fourth =
    let m : List Prescription → List A = λ l. map field (flat_map copies_of l) in
    let one = append_assoc (m is) (m js) (m ks) in
    let two = append_assoc (m is) (m js ++ m ks) (m ls) in
    let three = append_assoc (m js) (m ks) (m ls) in
    let parts : m (is ++ (js ++ (ks ++ ls))) ≡ m is ++ (m js ++ (m ks ++ m ls)) = joined field is (js ++ (ks ++ ls))
    ∙ ap (λ r. m is ++ r) (joined field js (ks ++ ls) ∙ ap (λ r. m js ++ r) (joined field ks ls)) in cc
  where
    joined : {A : Type 0} (field : Copy → A) (xs ys : List Prescription) →
        map field (flat_map copies_of (xs ++ ys)) ≡ map field (flat_map copies_of xs) ++ map field (flat_map copies_of ys)
    joined field xs ys = ap (map field) (flat_map-append copies_of xs ys) ∙ map-append field (flat_map copies_of xs) (flat_map copies_of ys)
