-- Regions with their walks, as they are put behind others.
use Rattle.std.proofs.Common.{◌≡◌, ◌∙◌, ◌<◌, ◌+◌, ◌++◌, ℕ, ℤ, Bool, List, [], ◌∷◌, true, false, ap, arith, cond, filter, get_or, length, map, refl, subst, sym, take, Err, Ok, Result}
use Rattle.std.specs.Prelude.{◌^◌, ◌≤◌}
use Rattle.std.specs.List.{All}
use Rattle.std.specs.Result.{OnOk}
use Rattle.std.proofs.lemmas.List.{append-nil, append_assoc, length-append, map-append, take_all, take_more}
use Rattle.std.proofs.lemmas.List.Elements.{All-nil, All-push, filter-append}
use Rattle.plane_filling.specs.declared.regions.Region.{Region as StoredRegion}
use Rattle.plane_filling.specs.declared.regions.Regions.{Regions}
use Rattle.plane_filling.specs.Regions.{AreRegions, AreSeen, all_walks, waiting}
use Rattle.plane_groups.specs.Grouped.{face_at}
use Rattle.plane_sheets.specs.Found.{region_in}
use Rattle.plane_sheets.specs.declared.regions.SheetRegion.{SheetRegion}
use Rattle.sheet_terms.specs.Faces.{Face}
use Rattle.sheet_terms.specs.Regions.{Region, kept_region}
use Rattle.plan_laws.specs.Standing.{IsOf, shown}
use Rattle.plane_remesh.specs.Pushed.{AreWhole, HasPushed, HasPushedSome, all_shown}

-- one walk more waits
pub walk_seen : (r new : Regions) (all : List StoredRegion) (ws : List (List (List ℕ))) (wait xs : List (List ℕ)) (places : List ℕ) → AreSeen r all ws (wait ++ xs) [] →
    AreSeen new r.all.items (all_walks r) (waiting r ++ (r.walks.1 ++ places) ∷ []) [] → AreSeen new all ws (wait ++ (xs ++ places ∷ [])) []
walk_seen r new all ws wait xs places old seen = record {
  regions = seen.regions ∙ old.regions;
  each = seen.each ∙ old.each;
  waits = seen.waits ∙ (λ i. old.waits i ++ (old.made i ++ places) ∷ []) ∙ append_assoc wait xs (places ∷ []);
  made = seen.made;
  are = seen.are;
}

-- nothing was pushed
pub none_pushed : (r : Regions) → AreWhole r → HasPushed r r [] []
none_pushed r whole = record {
  seen = record {
    regions = sym (append-nil r.all.items);
    each = sym (append-nil (all_walks r));
    waits = whole.none;
    made = whole.made;
    are = whole.are;
  };
  same = refl;
  few = whole.few;
}

-- nothing waits once regions were pushed
pub whole_seen : (r : Regions) (all : List StoredRegion) (ws : List (List (List ℕ))) → AreSeen r all ws [] [] → length r.all.items < 2 ^ 32 → AreWhole r
whole_seen r all ws seen few = record { are = seen.are; none = seen.waits; made = seen.made; few = few }

pub whole_pushed : (old new : Regions) (rs : List StoredRegion) (ws : List (List (List ℕ))) → HasPushed old new rs ws → AreWhole new
whole_pushed old new rs ws p = whole_seen new (old.all.items ++ rs) (all_walks old ++ ws) p.seen p.few

-- walks and their region were pushed
pub region_pushed : (old mid walked new : Regions) (rs : List StoredRegion) (ws : List (List (List ℕ))) (walks : List (List ℕ)) (region : StoredRegion) → HasPushed old mid rs ws →
    AreSeen walked mid.all.items (all_walks mid) (waiting mid ++ walks) [] →
    AreSeen new (walked.all.items ++ region ∷ []) (all_walks walked ++ waiting walked ∷ []) [] [] →
    length new.all.items < 2 ^ 32 → HasPushed old new (rs ++ region ∷ []) (ws ++ walks ∷ [])
region_pushed old mid walked new rs ws walks region p w s few = record {
  seen = record {
    regions = s.regions ∙ ap (λ (xs : List StoredRegion). xs ++ region ∷ []) (w.regions ∙ p.seen.regions) ∙ append_assoc old.all.items rs (region ∷ []);
    each = s.each ∙ (λ i. (w.each ∙ p.seen.each) i ++ (w.waits ∙ ap (λ (xs : List (List ℕ)). xs ++ walks) p.seen.waits) i ∷ []) ∙ append_assoc (all_walks old) ws (walks ∷ []);
    waits = s.waits;
    made = s.made;
    are = s.are;
  };
  same = omega (arith, p.same, length-append rs (region ∷ []), length-append ws (walks ∷ []));
  few = few;
}

-- some were pushed, and then others
pub pushes_joined : (old mid new : Regions) (rs qs : List StoredRegion) (ws vs : List (List (List ℕ))) → HasPushed old mid rs ws → HasPushed mid new qs vs →
    HasPushed old new (rs ++ qs) (ws ++ vs)
pushes_joined old mid new rs qs ws vs p q = record {
  seen = record {
    regions = q.seen.regions ∙ ap (λ (xs : List StoredRegion). xs ++ qs) p.seen.regions ∙ append_assoc old.all.items rs qs;
    each = q.seen.each ∙ ap (λ (xs : List (List (List ℕ))). xs ++ vs) p.seen.each ∙ append_assoc (all_walks old) ws vs;
    waits = q.seen.waits;
    made = q.seen.made;
    are = q.seen.are;
  };
  same = omega (arith, p.same, q.same, length-append rs qs, length-append ws vs);
  few = q.few;
}

-- they are shown one after the other
pub shown_append : (all : List Face) (rs qs : List StoredRegion) (ws vs : List (List (List ℕ))) → length rs ≡ length ws →
    all_shown all (rs ++ qs) (ws ++ vs) ≡ all_shown all rs ws ++ all_shown all qs vs
shown_append all [] qs [] vs same = refl
shown_append all [] qs (w ∷ ws) vs same = absurd (omega (arith, same))
shown_append all (r ∷ rs) qs [] vs same = absurd (omega (arith, same))
shown_append all (r ∷ rs) qs (w ∷ ws) vs same = ap (λ l. shown all r w ∷ l) (shown_append all rs qs ws vs (omega (arith, same)))

module _ (points : List (List ℤ)) (all : List Face) (s : Face) (front : Bool) (t : ℕ) (keeps : Bool) where
  -- none yet
  pub some_none : (r : Regions) → AreWhole r → HasPushedSome points all s front t keeps r r []
  some_none r whole = record {
    rs = [];
    ws = [];
    pushed = none_pushed r whole;
    shown = record { each = All-nil (IsOf points all s front t keeps); shows = refl; places = All-nil (All (All (λ v. v < length points))) };
  }

  -- one more
  pub some_more : (old mid walked new : Regions) (gs : List Region) (g : Region) (walks : List (List ℕ)) (region : StoredRegion) →
      HasPushedSome points all s front t keeps old mid gs →
      AreSeen walked mid.all.items (all_walks mid) (waiting mid ++ walks) [] →
      AreSeen new (walked.all.items ++ region ∷ []) (all_walks walked ++ waiting walked ∷ []) [] [] → length new.all.items < 2 ^ 32 →
      IsOf points all s front t keeps region → All (All (λ v. v < length points)) walks → shown all region walks ≡ g →
      HasPushedSome points all s front t keeps old new (gs ++ g ∷ [])
  some_more old mid walked new gs g walks region so seen made few of low is = record {
    rs = so.rs ++ region ∷ [];
    ws = so.ws ++ walks ∷ [];
    pushed = region_pushed old mid walked new so.rs so.ws walks region so.pushed seen made few;
    shown = record {
      each = All-push (IsOf points all s front t keeps) so.rs region so.shown.each of;
      shows = shown_append all so.rs (region ∷ []) so.ws (walks ∷ []) so.pushed.same ∙ (λ i. so.shown.shows i ++ is i ∷ []);
      places = All-push (All (All (λ v. v < length points))) so.ws walks so.shown.places low;
    };
  }

  pub some_whole : (old new : Regions) (gs : List Region) → HasPushedSome points all s front t keeps old new gs → AreWhole new
  some_whole old new gs so = whole_pushed old new so.rs so.ws so.pushed

-- kept triangles that pass a test, up to one more
abbrev pub kept_so_far : (Face → Bool) → List Face → List ℕ → List Region
kept_so_far p own js = map kept_region (filter p (map (face_at own) js))

so_far_more : (p : Face → Bool) (own : List Face) (js : List ℕ) (k : ℕ) → k < length js → (b : Bool) → p (face_at own (get_or js k 0)) ≡ b →
    kept_so_far p own (take (k + 1) js) ≡ kept_so_far p own (take k js) ++ map kept_region (cond b (face_at own (get_or js k 0) ∷ []) [])
so_far_more p own js k low b is =
    ap (λ (l : List ℕ). kept_so_far p own l) (take_more js k 0 low)
    ∙ ap (λ (l : List Face). map kept_region (filter p l)) (map-append (face_at own) (take k js) (get_or js k 0 ∷ []))
    ∙ ap (map kept_region) (filter-append p (map (face_at own) (take k js)) (face_at own (get_or js k 0) ∷ []))
    ∙ map-append kept_region (filter p (map (face_at own) (take k js))) (filter p (face_at own (get_or js k 0) ∷ []))
    ∙ ap (λ c. kept_so_far p own (take k js) ++ map kept_region (cond c (face_at own (get_or js k 0) ∷ []) [])) is

pub so_far_yes : (p : Face → Bool) (own : List Face) (js : List ℕ) (k : ℕ) → k < length js → p (face_at own (get_or js k 0)) ≡ true →
    kept_so_far p own (take k js) ++ kept_region (face_at own (get_or js k 0)) ∷ [] ≡ kept_so_far p own (take (k + 1) js)
so_far_yes p own js k low is = sym (so_far_more p own js k low true is)

pub so_far_no : (p : Face → Bool) (own : List Face) (js : List ℕ) (k : ℕ) → k < length js → p (face_at own (get_or js k 0)) ≡ false →
    kept_so_far p own (take k js) ≡ kept_so_far p own (take (k + 1) js)
so_far_no p own js k low is = sym (so_far_more p own js k low false is ∙ append-nil (kept_so_far p own (take k js)))

-- regions that were found, up to one more
pub found_more : (labels : List (List ℕ)) (rs : List SheetRegion) (k : ℕ) (d : SheetRegion) → k < length rs →
    map (region_in labels) (take k rs) ++ region_in labels (get_or rs k d) ∷ [] ≡ map (region_in labels) (take (k + 1) rs)
found_more labels rs k d low = sym (ap (map (region_in labels)) (take_more rs k d low) ∙ map-append (region_in labels) (take k rs) (get_or rs k d ∷ []))

-- walks are added one by one
pub walks_begun : (r : Regions) → AreRegions r → r.walks.1 ≡ [] → AreSeen r r.all.items (all_walks r) (waiting r ++ []) []
walks_begun r are made = record { regions = refl; each = refl; waits = sym (append-nil (waiting r)); made = made; are = are }

pub walks_more : (old r new : Regions) (walks : List (List ℕ)) (k : ℕ) (walk places : List ℕ) → k < length walks → walk ≡ get_or walks k walk → places ≡ walk →
    AreSeen r old.all.items (all_walks old) (waiting old ++ take k walks) [] → AreSeen new r.all.items (all_walks r) (waiting r ++ (r.walks.1 ++ places) ∷ []) [] →
    AreSeen new old.all.items (all_walks old) (waiting old ++ take (k + 1) walks) []
walks_more old r new walks k walk places low here same so seen =
    subst (λ (xs : List (List ℕ)). AreSeen new old.all.items (all_walks old) (waiting old ++ xs) [])
    (ap (λ (w : List ℕ). take k walks ++ w ∷ []) (same ∙ here) ∙ sym (take_more walks k walk low))
    (walk_seen r new old.all.items (all_walks old) (waiting old) (take k walks) places so seen)

pub walks_done : (old new : Regions) (walks : List (List ℕ)) (k : ℕ) → length walks ≤ k → AreSeen new old.all.items (all_walks old) (waiting old ++ take k walks) [] →
    AreSeen new old.all.items (all_walks old) (waiting old ++ walks) []
walks_done old new walks k end so =
    subst (λ (xs : List (List ℕ)). AreSeen new old.all.items (all_walks old) (waiting old ++ xs) []) (take_all k walks end) so

-- regions seen by what was made before
pub made_seen : (old new : Regions) (region : StoredRegion) → old.walks.1 ≡ [] →
    AreSeen new (old.all.items ++ region ∷ []) (all_walks old ++ waiting old ∷ []) [] old.walks.1 →
    AreSeen new (old.all.items ++ region ∷ []) (all_walks old ++ waiting old ∷ []) [] []
made_seen old new region none seen = subst (λ (m : List ℕ). AreSeen new (old.all.items ++ region ∷ []) (all_walks old ++ waiting old ∷ []) [] m) none seen

pub few_more : (old new : Regions) (region : StoredRegion) (ws : List (List (List ℕ))) (wait : List (List ℕ)) (making : List ℕ) → length old.all.items < 4294967295 →
    AreSeen new (old.all.items ++ region ∷ []) ws wait making → length new.all.items < 2 ^ 32
few_more old new region ws wait making few seen = omega (arith, few, ap length seen.regions, length-append old.all.items (region ∷ []))

-- what holds anyway holds where a call succeeded
pub on_any : {T E : Type 0} (r : Result T E) (P : Type 0) → P → OnOk r P
on_any (Ok x) P h = h
on_any (Err e) P h = tt

-- what follows from six facts follows where a call succeeded
pub on_six : {T E : Type 0} (r : Result T E) (A B C D F G Q : Type 0) → (A → B → C → D → F → G → Q) → OnOk r A → OnOk r B → OnOk r C → OnOk r D → OnOk r F → OnOk r G → OnOk r Q
on_six (Ok x) A B C D F G Q h a b c d f g = h a b c d f g
on_six (Err e) A B C D F G Q h a b c d f g = tt
