-- A long ring under way: what the loop keeps.
use Rattle.std.specs.Prelude.{◌≡◌, ◌≢◌, ℕ, ◌+◌, ◌-◌, ◌<◌, ◌≤◌, pos, List, [], ◌∷◌, ◌++◌, Bool, true, false, cond, ◌==◌}
use Rattle.std.specs.Prelude.{int_lt, length, set}
use Rattle.std.specs.List.{remove}
use Rattle.std.specs.Ordering.{nat_cmp}
use Rattle.std.specs.BTreeSet.{BTreeSet, contains}
use Rattle.std.proofs.Common.{arith, sym, subst, ap, ◌∙◌, inl, inr}
use Rattle.std.proofs.lemmas.Bool.{both_ways, cases_eq, eq-eqb, ne_eqb}
use Rattle.std.proofs.lemmas.List.Edits.{length-remove}
use Rattle.mesh_terms.specs.Meshes.{triple_of, triples_of}
use Rattle.face_plane.specs.Planes.{Plane, orient}
use Rattle.face_plane.specs.Rings.{IsRing, vertex_at, vertex_before, vertex_after}
use Rattle.ring_cutting.specs.declared.place.Place.{Place}
use Rattle.ring_cutting.specs.Cuts.{is_allowed, triple_at}
use Rattle.ring_cutting.specs.Placed.{vertices_of, IsPlaced}
use Rattle.ring_cutting.specs.Left.{lives, left_of, rank, after_of, before_of, IsLinked, IsBegun, goes_left, AreSettled}
use Rattle.ring_cutting.proofs.Lefts.{lives_within, lives_less, lives_kept, rank_within, left_without, left_whole}
use Rattle.ring_cutting.proofs.Linking.{begun_linked}
use Rattle.ring_cutting.proofs.EarsLeft.{ring_left, around, left_read}
use Rattle.ring_cutting.proofs.Choosing.{IsChoice, after_apart, first_next, rank_second}
use Rattle.ring_cutting.proofs.OneCut.{still_ringy, IsCounted, counted_most, one_where, moved}
use Rattle.ring_cutting.proofs.UnderWay.{IsUnderWay, begun}

-- the links, what is in doubt, the ring that is left, its first place, and the counts
pub record IsLongCut (ps : List Place) (nx bf : List ℕ) (bs : List Bool) (doubtful : BTreeSet ℕ) (waiting : List (List ℕ))
    (first left forced : ℕ) : Type 0 where
  pub linked : IsLinked (length ps) nx bf bs
  pub settled : AreSettled ps nx bf bs doubtful waiting
  pub ringy : IsRing (ring_left bs ps)
  pub count : left ≡ length (left_of bs ps)
  pub few : forced + left ≤ 100000000
  pub stays : lives bs first ≡ true
  pub least : (m : ℕ) → lives bs m ≡ true → first ≤ m

-- at the start all places are left and in doubt
pub long_begun : (ps : List Place) (nx bf : List ℕ) (bs : List Bool) (doubtful : BTreeSet ℕ) (waiting : List (List ℕ)) →
    IsRing (vertices_of ps) → 0 < length ps → length ps ≤ 100000000 →
    IsBegun (length ps) nx bf bs → length waiting ≡ length ps → ((i : ℕ) → i < length ps → contains nat_cmp doubtful i ≡ true) →
    ((i : ℕ) → contains nat_cmp doubtful i ≡ true → i < length ps) →
    IsLongCut ps nx bf bs doubtful waiting 0 (length ps) 0
long_begun ps nx bf bs doubtful waiting ringy some few links many all only =
    let whole : left_of bs ps ≡ ps = left_whole bs ps links.living_long (λ i l. links.living i (omega (arith, l, links.living_long))) in
    record {
      linked = begun_linked (length ps) nx bf bs some links;
      settled = record {
        many = many;
        known = λ i y. links.living i (only i y);
        reasons = λ i l none. absurd (both_ways (contains nat_cmp doubtful i) none (all i (omega (arith, lives_within bs i l, links.living_long))));
      };
      ringy = subst (λ (l : List Place). IsRing (vertices_of l)) (sym whole) ringy;
      count = ap length (sym whole);
      few = omega (arith, few);
      stays = links.living 0 some;
      least = λ m l. omega arith;
    }

pub way_begun : (at : Plane) (ps : List Place) (nx bf : List ℕ) (bs : List Bool) → IsBegun (length ps) nx bf bs → IsPlaced at ps →
    IsUnderWay at (vertices_of ps) (left_of bs ps) [] 0
way_begun at ps nx bf bs links placed =
    let whole : left_of bs ps ≡ ps = left_whole bs ps links.living_long (λ i l. links.living i (omega (arith, l, links.living_long))) in
    subst (λ (l : List Place). IsUnderWay at (vertices_of ps) l [] 0) (sym whole) (begun at ps placed)

-- the first place once another is cut
pub record IsFirst (bs : List Bool) (first : ℕ) : Type 0 where
  pub stays : lives bs first ≡ true
  pub least : (m : ℕ) → lives bs m ≡ true → first ≤ m

pub first_stays : (bs : List Bool) (first i : ℕ) → first ≢ i → lives bs first ≡ true → ((m : ℕ) → lives bs m ≡ true → first ≤ m) →
    IsFirst (set bs i false) first
first_stays bs first i apart here least = record { stays = lives_kept bs i first apart here; least = λ m l. least m (lives_less bs i m l) }

pub first_goes : (ps : List Place) (nx bf : List ℕ) (bs : List Bool) (first : ℕ) → IsLinked (length ps) nx bf bs →
    2 ≤ length (left_of bs ps) → lives bs first ≡ true → ((m : ℕ) → lives bs m ≡ true → first ≤ m) →
    IsFirst (set bs first false) (after_of nx first)
first_goes ps nx bf bs first h two here least =
    let next = h.goes first here in
    let apart = after_apart ps bs first (after_of nx first) h.living_long here next two in
    record { stays = lives_kept bs first (after_of nx first) apart next.stays; least = first_next bs first (after_of nx first) here least next apart }

pub first_without : (ps : List Place) (nx bf : List ℕ) (bs : List Bool) (first i next : ℕ) →
    next ≡ cond (first == i) (after_of nx first) first → IsLinked (length ps) nx bf bs → 2 ≤ length (left_of bs ps) → lives bs first ≡ true →
    ((m : ℕ) → lives bs m ≡ true → first ≤ m) → IsFirst (set bs i false) next
first_without ps nx bf bs first i next is h two here least = elim (cases_eq first i) as (λ _. IsFirst (set bs i false) next) [
  | inl e ↦
      subst (λ (k : ℕ). IsFirst (set bs k false) next) e
      (subst (IsFirst (set bs first false)) (sym (is ∙ ap (λ (b : Bool). cond b (after_of nx first) first) (eq-eqb first i e)))
      (first_goes ps nx bf bs first h two here least))
  | inr d ↦
      subst (IsFirst (set bs i false)) (sym (is ∙ ap (λ (b : Bool). cond b (after_of nx first) first) (ne_eqb first i d)))
      (first_stays bs first i d here least)
]

-- one place more is cut
pub long_on : (ps : List Place) (nx bf nx' bf' : List ℕ) (bs bs' : List Bool) (old new : BTreeSet ℕ) (waiting later : List (List ℕ))
    (first next left n m i : ℕ) (b : Bool) →
    IsLongCut ps nx bf bs old waiting first left n → 4 ≤ left → lives bs i ≡ true → is_allowed (ring_left bs ps) (rank bs i) ≡ true →
    bs' ≡ set bs i false → IsLinked (length ps) nx' bf' bs' →
    AreSettled ps nx' bf' bs' new later → IsFirst (set bs i false) next → IsCounted n m b → IsLongCut ps nx' bf' bs' new later next (left - 1) m
long_on ps nx bf nx' bf' bs bs' old new waiting later first next left n m i b h four here allowed is linked settled front counted =
    let many = h.linked.living_long in
    let less : left_of bs' ps ≡ remove (left_of bs ps) (rank bs i) = ap (λ (l : List Bool). left_of l ps) is ∙ left_without bs ps i many here in
    let within = rank_within bs ps i many here in
    record {
      linked = linked;
      settled = settled;
      ringy = still_ringy (left_of bs ps) (left_of bs' ps) (rank bs i) h.ringy (omega (arith, four, h.count)) within allowed less;
      count = omega (arith, h.count, ap length less, length-remove (left_of bs ps) (rank bs i) within, four);
      few = omega (arith, h.few, counted_most n m b counted, four);
      stays = subst (λ (l : List Bool). lives l next ≡ true) (sym is) front.stays;
      least = subst (λ (l : List Bool). (m : ℕ) → lives l m ≡ true → next ≤ m) (sym is) front.least;
    }

pub way_on : (at : Plane) (ps : List Place) (nx bf : List ℕ) (bs bs' : List Bool) (old : BTreeSet ℕ) (waiting : List (List ℕ))
    (first left n m i : ℕ) (b : Bool) (ts us : List (List ℕ)) (t : List ℕ) →
    IsLongCut ps nx bf bs old waiting first left n → 4 ≤ left → lives bs i ≡ true → bs' ≡ set bs i false →
    IsUnderWay at (vertices_of ps) (left_of bs ps) (triples_of ts) n →
    IsChoice at (ring_left bs ps) (rank bs i) (one_where b) → triple_of t ≡ triple_at (ring_left bs ps) (rank bs i) → us ≡ ts ++ t ∷ [] →
    IsCounted n m b →
    IsUnderWay at (vertices_of ps) (left_of bs' ps) (triples_of us) m
way_on at ps nx bf bs bs' old waiting first left n m i b ts us t h four here is way choice triple more counted =
    let many = h.linked.living_long in
    let less : left_of bs' ps ≡ remove (left_of bs ps) (rank bs i) = ap (λ (l : List Bool). left_of l ps) is ∙ left_without bs ps i many here in
    moved at (vertices_of ps) (left_of bs ps) (left_of bs' ps) (rank bs i) b ts us t n m way (omega (arith, four, h.count))
    (rank_within bs ps i many here)
    (record { place = choice.place; forced = choice.forced }) triple less more counted

-- with three left, the one behind the first stands second
pub record IsSecond (ps : List Place) (bs : List Bool) (i : ℕ) : Type 0 where
  pub living : lives bs i ≡ true
  pub rank : rank bs i ≡ 1
  pub three : length (left_of bs ps) ≡ 3

pub second_is : (ps : List Place) (nx bf : List ℕ) (bs : List Bool) (doubtful : BTreeSet ℕ) (waiting : List (List ℕ)) (first left n : ℕ) →
    IsLongCut ps nx bf bs doubtful waiting first left n → left ≤ 3 → 3 ≤ length (left_of bs ps) →
    IsSecond ps bs (after_of nx first)
second_is ps nx bf bs doubtful waiting first left n h few some =
    let next = h.linked.goes first h.stays in
    let apart = after_apart ps bs first (after_of nx first) h.linked.living_long h.stays next (omega (arith, some)) in
    record {
      living = next.stays;
      rank = rank_second ps bs first (after_of nx first) h.linked.living_long h.stays h.least next apart;
      three = omega (arith, few, h.count, some);
    }

-- it turns left where the last triangle does
pub left_second : (at : Plane) (ps : List Place) (nx bf : List ℕ) (bs : List Bool) (i : ℕ) → IsPlaced at (left_of bs ps) →
    IsLinked (length ps) nx bf bs → IsSecond ps bs i →
    goes_left ps (before_of bf i) i (after_of nx i) ≡
    int_lt (pos 0) (orient at (vertex_before (ring_left bs ps) 1) (vertex_at (ring_left bs ps) 1) (vertex_after (ring_left bs ps) 1))
left_second at ps nx bf bs i placed linked second =
    let r = ring_left bs ps in
    sym (left_read at (left_of bs ps) (rank bs i) _ _ _ placed (around ps nx bf bs i linked second.living))
    ∙ ap (λ (k : ℕ). int_lt (pos 0) (orient at (vertex_before r k) (vertex_at r k) (vertex_after r k))) second.rank
