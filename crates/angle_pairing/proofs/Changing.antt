-- Half-edges taken one after the other, of which those that run as one before them change twins with it.
use Rattle.std.proofs.Common.{◌≡◌, ◌≢◌, ◌<◌, ◌≤◌, ◌+◌, inl, inr, ℕ, zero, suc, true, false, List, [], ◌∷◌, drop, drop-cons, length, get_or, map, refl, sym, ◌∙◌, ap, subst, arith}
use Rattle.std.specs.Prelude.{◌==◌, None, Option, Some, if◌then◌else◌}
use Rattle.std.specs.List.{All, Contains}
use Rattle.std.proofs.lemmas.List.{drop_all, get_or-map, length-map}
use Rattle.std.proofs.lemmas.Bool.{and_from, and_parts, both_ways, cases_Bool, cases_eq, eq-eqb, eqb-true, ne_eqb}
use Rattle.chain_terms.specs.Chains.{all_edges}
use Rattle.chain_laws.specs.Ascending.{Ascends}
use Rattle.chain_laws.proofs.Ascending.{ascends_rest, contains_rest, head_least}
use Rattle.halfedge.proofs.Edges.{next_below}
use Rattle.mesh_terms.specs.Halves.{next_half}
use Rattle.mesh_terms.specs.Meshes.{HasThree, IsBelow, Triple}
use Rattle.sheet_terms.specs.Chains.{upward}
use Rattle.sheet_terms.specs.Vertices.{around_by, changed, leaders, settled, settled_within}
use Rattle.fan_laws.specs.Pairs.{ArePaired, AreTwins, IsChange, Reaches}
use Rattle.fan_laws.proofs.Cycles.{kept_where_reached, reaches_back, reaches_on}
use Rattle.fan_laws.proofs.Leaders.{leader, leader_around, leader_reaches, leads, leader_read, one_leader, length-leaders}
use Rattle.fan_laws.proofs.Members.{edge_at, same_from}
use Rattle.fan_laws.proofs.Settling.{RunAlike, alike_ends, alike_starts}
use Rattle.fan_laws.proofs.Turns.{ClearBelow, end_settles, turn_clears, turn_may, turn_paired, turn_settles}
use Rattle.angle_pairing.specs.Labels.{AreLabels, first_between, run_alike}
use Rattle.angle_pairing.proofs.Groups.{alike_ascends, alike_member, alike_with}

-- leaders are labels
pub leaders_label : (twins labels : List ℕ) → AreTwins twins → labels ≡ leaders twins → AreLabels twins labels
leaders_label twins labels are is = record {
  full = ap length is ∙ length-leaders twins;
  kept = λ h low. read (around_by twins h) (below h low) ∙ leader_around twins are h low ∙ sym (read h low);
  one = λ h low. subst (Reaches twins h) (sym (read h low)) (leads twins are h);
}
  where
    below : (h : ℕ) → h < length twins → next_half (get_or twins h 0) < length twins
    below h low = let b = are.below h low in omega (arith, b, are.whole)

    read : (h : ℕ) → h < length twins → get_or labels h 0 ≡ leader twins h
    read h low = ap (λ l. get_or l h 0) is ∙ leader_read twins h low

module _ (twins labels : List ℕ) (twin : AreTwins twins) (are : AreLabels twins labels) where
  -- labels are the same where leaders are
  pub label_leader : (g h : ℕ) → g < length twins → h < length twins → get_or labels g 0 ≡ get_or labels h 0 → leader twins g ≡ leader twins h
  label_leader g h g_low h_low same =
      one_leader twins twin g h g_low h_low
      (reaches_on twins g (get_or labels g 0) h (are.one g g_low)
      (subst (λ l. Reaches twins l h) (sym same) (reaches_back twins twin h (get_or labels h 0) h_low (are.one h h_low))))

  pub leader_label : (g h : ℕ) → g < length twins → h < length twins → leader twins g ≡ leader twins h → get_or labels g 0 ≡ get_or labels h 0
  leader_label g h g_low h_low same =
      sym (kept_where_reached twins twin (λ x. get_or labels x 0) are.kept g h g_low (leader_reaches twins twin g h h_low same))

  pub alike_means : (g h : ℕ) → g < length twins → h < length twins → next_half g < length twins → next_half h < length twins → run_alike labels g h ≡ true → RunAlike twins g h
  alike_means g h g_low h_low g_next h_next is =
      let p = and_parts (get_or labels g 0 == get_or labels h 0) (get_or labels (next_half g) 0 == get_or labels (next_half h) 0) is in
      record {
        starts = label_leader g h g_low h_low (eqb-true (get_or labels g 0) (get_or labels h 0) p.0);
        ends = label_leader (next_half g) (next_half h) g_next h_next (eqb-true (get_or labels (next_half g) 0) (get_or labels (next_half h) 0) p.1);
      }

  pub alike_from : (g h : ℕ) → g < length twins → h < length twins → next_half g < length twins → next_half h < length twins → RunAlike twins g h → run_alike labels g h ≡ true
  alike_from g h g_low h_low g_next h_next is =
      and_from (get_or labels g 0 == get_or labels h 0) (get_or labels (next_half g) 0 == get_or labels (next_half h) 0)
      (eq-eqb (get_or labels g 0) (get_or labels h 0) (leader_label g h g_low h_low is.starts))
      (eq-eqb (get_or labels (next_half g) 0) (get_or labels (next_half h) 0) (leader_label (next_half g) (next_half h) g_next h_next is.ends))

-- what is found before h in an ascending list that has h
module _ (labels : List ℕ) (h : ℕ) where
  -- one step of the search
  pub between_here : (g : ℕ) (gs : List ℕ) → g ≢ h → run_alike labels g h ≡ true → first_between labels (g ∷ gs) h ≡ Some g
  between_here g gs apart alike =
      ap (λ b. if b then None else if run_alike labels g h then Some g else first_between labels gs h) (ne_eqb g h apart)
      ∙ ap (λ b. if b then Some g else first_between labels gs h) alike

  pub between_later : (g : ℕ) (gs : List ℕ) → g ≢ h → run_alike labels g h ≡ false → first_between labels (g ∷ gs) h ≡ first_between labels gs h
  between_later g gs apart other =
      ap (λ b. if b then None else if run_alike labels g h then Some g else first_between labels gs h) (ne_eqb g h apart)
      ∙ ap (λ b. if b then Some g else first_between labels gs h) other

  pub between_end : (g : ℕ) (gs : List ℕ) → g ≡ h → first_between labels (g ∷ gs) h ≡ None
  between_end g gs same = ap (λ b. if b then None else if run_alike labels g h then Some g else first_between labels gs h) (eq-eqb g h same)

  -- the same of the rest of a list
  pub search_here : (all : List ℕ) (i g : ℕ) → i < length all → get_or all i 0 ≡ g → first_between labels all h ≡ first_between labels (drop i all) h → g ≢ h →
      run_alike labels g h ≡ true → first_between labels all h ≡ Some g
  search_here all i g low is so_far apart alike =
      so_far ∙ ap (λ l. first_between labels l h) (drop-cons all i 0 low ∙ ap (λ y. y ∷ drop (suc i) all) is) ∙ between_here g (drop (suc i) all) apart alike

  pub search_end : (all : List ℕ) (i g : ℕ) → i < length all → get_or all i 0 ≡ g → first_between labels all h ≡ first_between labels (drop i all) h → g ≡ h →
      first_between labels all h ≡ None
  search_end all i g low is so_far same =
      so_far ∙ ap (λ l. first_between labels l h) (drop-cons all i 0 low ∙ ap (λ y. y ∷ drop (suc i) all) is) ∙ between_end g (drop (suc i) all) same

  pub search_later : (all : List ℕ) (i g : ℕ) → i < length all → get_or all i 0 ≡ g → first_between labels all h ≡ first_between labels (drop i all) h → g ≢ h →
      run_alike labels g h ≡ false → first_between labels all h ≡ first_between labels (drop (i + 1) all) h
  search_later all i g low is so_far apart other =
      let more : suc i ≡ i + 1 = omega arith in
      so_far ∙ ap (λ l. first_between labels l h) (drop-cons all i 0 low ∙ ap (λ y. y ∷ drop (suc i) all) is) ∙ between_later g (drop (suc i) all) apart other
      ∙ ap (λ j. first_between labels (drop j all) h) more

  pub search_done : (all : List ℕ) (i : ℕ) → length all ≤ i → first_between labels all h ≡ first_between labels (drop i all) h → first_between labels all h ≡ None
  search_done all i past so_far = so_far ∙ ap (λ l. first_between labels l h) (drop_all i all past)

  pub record IsFound (gs : List ℕ) (g : ℕ) : Type 0 where
    pub there : Contains gs g
    pub before : g < h
    pub alike : run_alike labels g h ≡ true

  not_some : (g : ℕ) → ◌≡◌ {A = Option ℕ} None (Some g) → ⊥
  not_some g e = cc

  same_some : (x g : ℕ) → ◌≡◌ {A = Option ℕ} (Some x) (Some g) → x ≡ g
  same_some x g e = cc

  pub between_some : (gs : List ℕ) (g : ℕ) → Ascends gs → Contains gs h → first_between labels gs h ≡ Some g → IsFound gs g
  between_some [] g up there found = absurd (omega (arith, there.1))
  between_some (x ∷ gs) g up there found = elim (cases_eq x h) as (λ _. IsFound (x ∷ gs) g) [
    | inl e ↦ absurd (not_some g (sym (between_end x gs e) ∙ found))
    | inr apart ↦
        let later = contains_rest x gs h there apart in
        elim (cases_Bool (run_alike labels x h)) as (λ _. IsFound (x ∷ gs) g) [
          | inl alike ↦
              let e = same_some x g (sym (between_here x gs apart alike) ∙ found) in
              let low = head_least x gs up h there in
              record { there = (0, omega arith, e); before = omega (arith, e, low, apart); alike = ap (λ y. run_alike labels y h) (sym e) ∙ alike }
          | inr other ↦
              let rest = between_some gs g (ascends_rest x gs up) later (sym (between_later x gs apart other) ∙ found) in
              record { there = (suc rest.there.0, omega (arith, rest.there.1), rest.there.2); before = rest.before; alike = rest.alike }
        ]
  ]

  pub between_none : (gs : List ℕ) → Ascends gs → first_between labels gs h ≡ None → (g : ℕ) → Contains gs g → g < h → run_alike labels g h ≡ true → ⊥
  between_none [] up none g there less alike = omega (arith, there.1)
  between_none (x ∷ gs) up none g there less alike = elim (cases_eq x h) as (λ _. ⊥) [
    | inl e ↦ omega (arith, e, head_least x gs up g there, less)
    | inr apart ↦ elim (cases_Bool (run_alike labels x h)) as (λ _. ⊥) [
      | inl here ↦ not_some x (sym none ∙ between_here x gs apart here)
      | inr other ↦ elim (cases_eq x g) as (λ _. ⊥) [
        | inl e ↦ both_ways (run_alike labels x h) other (ap (λ y. run_alike labels y h) e ∙ alike)
        | inr differ ↦ between_none gs (ascends_rest x gs up) (sym (between_later x gs apart other) ∙ none) g (contains_rest x gs g there differ) less alike
      ]
    ]
  ]

-- the half-edges below one were taken
pub record AreTaken (ts : List Triple) (given twins labels : List ℕ) (half : ℕ) : Type 0 where
  pub paired : ArePaired (all_edges ts) twins
  pub labels_are : AreLabels twins labels
  pub clear : ClearBelow twins half
  pub settles : (points : ℕ) → All (IsBelow points) ts → (m : ℕ) × (length (all_edges ts) ≤ half + m) × (settled points ts given ≡ settled_within m points ts twins)

pub taken_none : (ts : List Triple) (twins labels : List ℕ) → ArePaired (all_edges ts) twins → labels ≡ leaders twins → AreTaken ts twins twins labels 0
taken_none ts twins labels paired is = record {
  paired = paired;
  labels_are = leaders_label twins labels paired.are is;
  clear = λ g h less low. absurd (omega (arith, low));
  settles = λ points below. (length twins, omega (arith, paired.full), refl);
}

module _ (ts : List Triple) (three : All HasThree ts) (given twins labels : List ℕ) (half : ℕ) (low : half < length (all_edges ts))
    (taken : AreTaken ts given twins labels half) where
  abbrev es : List (ℕ × ℕ)
  es = all_edges ts

  among : (g : ℕ) → g < length es → g < length twins
  among g g_low = omega (arith, g_low, taken.paired.full)

  next_in : (g : ℕ) → g < length es → next_half g < length twins
  next_in g g_low = among (next_half g) (next_below ts g g_low)

  in_ways : (g : ℕ) → g < length es → g < length (map upward es)
  in_ways g g_low = omega (arith, g_low, length-map es upward)

  way_at : (g : ℕ) → g < length es → edge_at (map upward es) g ≡ upward (edge_at es g)
  way_at g g_low = get_or-map upward es g (0, 0) (0, 0) g_low

  -- those that run as it are on its edge
  on_edge : (g : ℕ) → g < length es → (edge_at es g).0 ≡ (edge_at es half).0 → (edge_at es g).1 ≡ (edge_at es half).1 → Contains (alike_with (map upward es) half) g
  on_edge g g_low starts ends =
      let one : edge_at (map upward es) g ≡ edge_at (map upward es) half = way_at g g_low ∙ (λ i. upward (starts i, ends i)) ∙ sym (way_at half low) in
      alike_member (map upward es) half g (in_ways g g_low)
      (same_from (edge_at (map upward es) g) (edge_at (map upward es) half) (ap (λ (e : ℕ × ℕ). e.0) one) (ap (λ (e : ℕ × ℕ). e.1) one))

  itself : Contains (alike_with (map upward es) half) half
  itself = on_edge half low refl refl

  -- one before it that runs alike
  module _ (g : ℕ) (found : first_between labels (alike_with (map upward es) half) half ≡ Some g) where
    is : IsFound labels half (alike_with (map upward es) half) g
    is = between_some labels half (alike_with (map upward es) half) g (alike_ascends (map upward es) half) itself found

    pub found_before : g < half
    found_before = is.before

    g_low : g < length es
    g_low = omega (arith, is.before, low)

    alike : RunAlike twins g half
    alike = alike_means twins labels taken.paired.are taken.labels_are g half (among g g_low) (among half low) (next_in g g_low) (next_in half low) is.alike

    pub taken_may : IsChange twins g half
    taken_may = turn_may ts three twins taken.paired g half is.before low taken.clear alike

    pub taken_change : (new : List ℕ) (now : List ℕ) → now ≡ changed twins (g, half) → AreLabels now new → AreTaken ts given now new (half + 1)
    taken_change new now now_is are =
        subst (λ t. AreTaken ts given t new (half + 1)) (sym now_is)
        (record {
          paired = turn_paired ts three twins taken.paired g half is.before low taken.clear alike;
          labels_are = subst (λ t. AreLabels t new) now_is are;
          clear = λ x y less y_low. turn_clears ts three twins taken.paired g half is.before low taken.clear alike x y less (omega (arith, y_low));
          settles = λ points below. further points below (taken.settles points below);
        })
      where
        further : (points : ℕ) → All (IsBelow points) ts → (m : ℕ) × (length (all_edges ts) ≤ half + m) × (settled points ts given ≡ settled_within m points ts twins) →
            (m : ℕ) × (length (all_edges ts) ≤ (half + 1) + m) × (settled points ts given ≡ settled_within m points ts (changed twins (g, half)))
        further points below (zero, enough, same) = absurd (omega (arith, enough, low))
        further points below (suc m, enough, same) =
            (m, omega (arith, enough), same ∙ turn_settles ts three twins taken.paired g half is.before low taken.clear alike points below m)

  -- or none
  pub taken_same : first_between labels (alike_with (map upward es) half) half ≡ None → AreTaken ts given twins labels (half + 1)
  taken_same none = record {
    paired = taken.paired;
    labels_are = taken.labels_are;
    clear = λ g h less h_low alike. clear g h less (omega (arith, h_low)) alike;
    settles = λ points below. let p = taken.settles points below in (p.0, omega (arith, p.1), p.2);
  }
    where
      clear : (g h : ℕ) → g < h → h ≤ half → RunAlike twins g h → ⊥
      clear g h less not_more alike = elim (cases_eq h half) as (λ _. ⊥) [
        | inr other ↦ taken.clear g h less (omega (arith, not_more, other)) alike
        | inl e ↦
            let to : RunAlike twins g half = subst (RunAlike twins g) e alike in
            let g_low : g < length es = omega (arith, less, e, low) in
            let starts = alike_starts ts three twins taken.paired g half g_low low to.starts in
            let ends = alike_ends ts three twins taken.paired g half g_low low to in
            between_none labels half (alike_with (map upward es) half) (alike_ascends (map upward es) half) none g
            (on_edge g g_low starts ends) (omega (arith, less, e))
            (alike_from twins labels taken.paired.are taken.labels_are g half (among g g_low) (among half low) (next_in g g_low) (next_in half low) to)
      ]

-- a half-edge taken, whatever it finds
pub taken_step : (ts : List Triple) (three : All HasThree ts) (given twins labels : List ℕ) (half : ℕ) → half < length (all_edges ts) → AreTaken ts given twins labels half →
    (read bucket : List ℕ) → read ≡ labels → bucket ≡ alike_with (map upward (all_edges ts)) half → (now new : List ℕ) →
    (first_between read bucket half ≡ None → (now ≡ twins) × (new ≡ read)) →
    ((g : ℕ) → first_between read bucket half ≡ Some g → (now ≡ changed twins (g, half)) × AreLabels now new) → AreTaken ts given now new (half + 1)
taken_step ts three given twins labels half low taken read bucket read_is bucket_is now new none some =
    by (first_between labels (alike_with (map upward (all_edges ts)) half) half) refl
  where
    same : first_between read bucket half ≡ first_between labels (alike_with (map upward (all_edges ts)) half) half
    same i = first_between (read_is i) (bucket_is i) half

    by : (o : Option ℕ) → first_between labels (alike_with (map upward (all_edges ts)) half) half ≡ o → AreTaken ts given now new (half + 1)
    by None found =
        let p = none (same ∙ found) in
        subst (λ t. AreTaken ts given t new (half + 1)) (sym p.0)
        (subst (λ l. AreTaken ts given twins l (half + 1)) (sym (p.1 ∙ read_is)) (taken_same ts three given twins labels half low taken found))
    by (Some g) found =
        let p = some g (same ∙ found) in taken_change ts three given twins labels half low taken g found new now p.0 p.1

-- what it finds may change twins with it
pub taken_finds : (ts : List Triple) (three : All HasThree ts) (given twins labels : List ℕ) (half : ℕ) → half < length (all_edges ts) → AreTaken ts given twins labels half →
    (read bucket : List ℕ) → read ≡ labels → bucket ≡ alike_with (map upward (all_edges ts)) half → (g : ℕ) → first_between read bucket half ≡ Some g → IsChange twins g half
taken_finds ts three given twins labels half low taken read bucket read_is bucket_is g found = taken_may ts three given twins labels half low taken g (same ∙ found)
  where
    same : first_between labels (alike_with (map upward (all_edges ts)) half) half ≡ first_between read bucket half
    same i = first_between (sym read_is i) (sym bucket_is i) half

-- when all were taken, changes have settled
pub taken_all : (ts : List Triple) → All HasThree ts → (given twins labels : List ℕ) (half : ℕ) → length (all_edges ts) ≤ half → AreTaken ts given twins labels half →
    (points : ℕ) → All (IsBelow points) ts → twins ≡ settled points ts given
taken_all ts three given twins labels half enough taken points below =
    let p = taken.settles points below in
    sym (p.2 ∙ end_settles ts three twins taken.paired (λ g h less low. taken.clear g h less (omega (arith, low, enough))) points below p.0)
