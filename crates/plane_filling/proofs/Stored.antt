-- Regions with the walks of each, as walks and regions are added.
use Rattle.std.specs.Prelude.{◌≡◌, ℕ, zero, suc, ◌+◌, ◌-◌, ◌<◌, ◌≤◌, List, [], ◌∷◌, ◌++◌, length, get_or, map, take, drop}
use Rattle.std.proofs.Common.{arith, refl, sym, ap, subst, ◌∙◌, inl, inr}
use Rattle.std.proofs.lemmas.Bool.{cases_lt}
use Rattle.std.proofs.lemmas.List.{drop-append-le, drop_all, get_or_append_left, get_or_at, length-append, length-drop, map-append, take-append-le, take_all}
use Rattle.chain_terms.specs.Sums.{upto}
use Rattle.chain_laws.proofs.Places.{upto_more}
use Rattle.places_by_key.proofs.Upto.{map-upto_same}
use Rattle.places_by_key.specs.Buckets.{AreEnds, begin_of}
use Rattle.plane_filling.specs.declared.regions.Region.{Region}
use Rattle.plane_filling.specs.declared.regions.Regions.{Regions}
use Rattle.plane_filling.specs.Regions.{AreRegions, AreSeen, all_walks, last_end, waiting}

-- part k of a list
abbrev part_at : {X : Type 0} → List ℕ → List X → ℕ → List X
part_at ends ws k = take (get_or ends k 0 - begin_of ends k) (drop (begin_of ends k) ws)

-- where a part begins
begin_low : (ends : List ℕ) (n k : ℕ) → AreEnds ends n → k < length ends → begin_of ends k ≤ n
begin_low ends n k are low = omega (arith, are.up k low, are.within k low)

-- longer lists have the same parts
part_longer : {X : Type 0} (ends : List ℕ) (ws xs : List X) (k : ℕ) → AreEnds ends (length ws) → k < length ends → part_at ends (ws ++ xs) k ≡ part_at ends ws k
part_longer ends ws xs k are low =
    let b = begin_of ends k in
    let n = get_or ends k 0 - b in
    ap (take n) (drop-append-le b ws xs (begin_low ends (length ws) k are low))
    ∙ take-append-le n (drop b ws) xs (omega (arith, are.up k low, are.within k low, length-drop b ws))

-- one end more
begin_more : (ends : List ℕ) (e k : ℕ) → k < length ends → begin_of (ends ++ e ∷ []) k ≡ begin_of ends k
begin_more ends e zero low = refl
begin_more ends e (suc k) low = get_or_append_left ends (e ∷ []) 0 k (omega (arith, low))

begin_last : (ends : List ℕ) (e : ℕ) → begin_of (ends ++ e ∷ []) (length ends) ≡ begin_of ends (length ends)
begin_last ends e = by (length ends) (omega arith)
  where
    by : (n : ℕ) → n ≤ length ends → begin_of (ends ++ e ∷ []) n ≡ begin_of ends n
    by zero h = refl
    by (suc n) h = get_or_append_left ends (e ∷ []) 0 n (omega (arith, h))

end_last : (ends : List ℕ) (e : ℕ) → get_or (ends ++ e ∷ []) (length ends) 0 ≡ e
end_last ends e = get_or_at ends e [] 0 (length ends) refl

last_of_more : (ends : List ℕ) (e : ℕ) → begin_of (ends ++ e ∷ []) (length (ends ++ e ∷ [])) ≡ e
last_of_more ends e =
    let more : length (ends ++ e ∷ []) ≡ suc (length ends) = omega (arith, length-append ends (e ∷ [])) in
    ap (begin_of (ends ++ e ∷ [])) more ∙ end_last ends e

parts_more : {X : Type 0} (ends : List ℕ) (ws : List X) → AreEnds ends (length ws) → begin_of ends (length ends) ≤ length ws →
    map (part_at (ends ++ length ws ∷ []) ws) (upto (length (ends ++ length ws ∷ []))) ≡
    map (part_at ends ws) (upto (length ends)) ++ drop (begin_of ends (length ends)) ws ∷ []
parts_more ends ws are last =
    let e = length ws in
    let n = length ends in
    let es = ends ++ e ∷ [] in
    let more : length es ≡ n + 1 = length-append ends (e ∷ []) in
    let old : (k : ℕ) → k < n → part_at es ws k ≡ part_at ends ws k = λ k low.
    (λ j. take (get_or_append_left ends (e ∷ []) 0 k low j - begin_more ends e k low j) (drop (begin_more ends e k low j) ws)) in
    let b = begin_of ends n in
    let new : part_at es ws n ≡ drop b ws =
    (λ j. take (end_last ends e j - begin_last ends e j) (drop (begin_last ends e j) ws)) ∙ take_all (e - b) (drop b ws) (omega (arith, length-drop b ws)) in
    ap (λ m. map (part_at es ws) (upto m)) more ∙ ap (map (part_at es ws)) (upto_more n) ∙ map-append (part_at es ws) (upto n) (n ∷ [])
    ∙ (λ j. map-upto_same (part_at es ws) (part_at ends ws) n old j ++ new j ∷ [])

-- ends of a longer list
ends_longer : (ends : List ℕ) (m n : ℕ) → m ≤ n → AreEnds ends m → AreEnds ends n
ends_longer ends m n h are = record { up = are.up; within = λ k low. omega (arith, are.within k low, h) }

ends_more : (ends : List ℕ) (e : ℕ) → AreEnds ends e → begin_of ends (length ends) ≤ e → AreEnds (ends ++ e ∷ []) e
ends_more ends e are last =
    let many = length-append ends (e ∷ []) in
    record {
      up = λ k low. elim (cases_lt k (length ends)) as (λ _. begin_of (ends ++ e ∷ []) k ≤ get_or (ends ++ e ∷ []) k 0) [
        | inl l ↦ omega (arith, are.up k l, begin_more ends e k l, get_or_append_left ends (e ∷ []) 0 k l)
        | inr l ↦
            let same : k ≡ length ends = omega (arith, low, l, many) in
            subst (λ k. begin_of (ends ++ e ∷ []) k ≤ get_or (ends ++ e ∷ []) k 0) (sym same) (omega (arith, last, begin_last ends e, end_last ends e))
      ];
      within = λ k low. elim (cases_lt k (length ends)) as (λ _. get_or (ends ++ e ∷ []) k 0 ≤ e) [
        | inl l ↦ omega (arith, are.within k l, get_or_append_left ends (e ∷ []) 0 k l)
        | inr l ↦
            let same : k ≡ length ends = omega (arith, low, l, many) in
            subst (λ k. get_or (ends ++ e ∷ []) k 0 ≤ e) (sym same) (omega (arith, end_last ends e))
      ];
    }

-- walks are added
pub walks_added : (r new : Regions) (xs : List (List ℕ)) (making : List ℕ) → AreRegions r → new.all.items ≡ r.all.items → new.ends.items ≡ r.ends.items →
    new.walks ≡ (r.walks.0 ++ xs, making) → AreSeen new r.all.items (all_walks r) (waiting r ++ xs) making
walks_added r new xs making are all ends walks =
    let ws = r.walks.0 in
    let lists : new.walks.0 ≡ ws ++ xs = ap (λ (w : List (List ℕ) × List ℕ). w.0) walks in
    let es = r.ends.items in
    let many = length-append ws xs in
    record {
      regions = all;
      each = (λ j. map (part_at (ends j) (lists j)) (upto (length (ends j))))
          ∙ map-upto_same (part_at es (ws ++ xs)) (part_at es ws) (length es) (λ k low. part_longer es ws xs k are.ends low);
      waits = (λ j. drop (begin_of (ends j) (length (ends j))) (lists j)) ∙ drop-append-le (last_end r) ws xs are.last;
      made = ap (λ (w : List (List ℕ) × List ℕ). w.1) walks;
      are = record {
        full = ap length ends ∙ are.full ∙ sym (ap length all);
        ends = subst (λ n. AreEnds new.ends.items n) (sym (ap length lists ∙ many))
            (subst (λ l. AreEnds l (length ws + length xs)) (sym ends) (ends_longer es (length ws) (length ws + length xs) (omega arith) are.ends));
        last = let last = are.last in omega (arith, ap length lists, many, last, ap (λ l. begin_of l (length l)) ends);
      };
    }

-- a region is added
pub region_added : (r new : Regions) (region : Region) → AreRegions r → new.all.items ≡ r.all.items ++ region ∷ [] →
    new.ends.items ≡ r.ends.items ++ length r.walks.0 ∷ [] → new.walks ≡ r.walks →
    AreSeen new (r.all.items ++ region ∷ []) (all_walks r ++ waiting r ∷ []) [] r.walks.1
region_added r new region are all ends walks =
    let ws = r.walks.0 in
    let lists : new.walks.0 ≡ ws = ap (λ (w : List (List ℕ) × List ℕ). w.0) walks in
    let es = r.ends.items in
    let e = length ws in
    let last : last_end new ≡ e = ap (λ l. begin_of l (length l)) ends ∙ last_of_more es e in
    record {
      regions = all;
      each = (λ j. map (part_at (ends j) (lists j)) (upto (length (ends j)))) ∙ parts_more es ws are.ends are.last;
      waits = (λ j. drop (last j) (lists j)) ∙ drop_all e ws (omega arith);
      made = ap (λ (w : List (List ℕ) × List ℕ). w.1) walks;
      are = record {
        full = omega (arith, ap length ends, ap length all, are.full, length-append es (e ∷ []), length-append r.all.items (region ∷ []));
        ends = subst (λ n. AreEnds new.ends.items n) (sym (ap length lists)) (subst (λ l. AreEnds l e) (sym ends) (ends_more es e are.ends are.last));
        last = omega (arith, last, ap length lists);
      };
    }
