-- The steps of a script without a fault are sound.
use Rattle.std.proofs.Common.{◌≡◌, ℕ, zero, suc, replicate, ◌∙◌, ◌+◌, ◌≤◌, ◌<◌, map, Bool, true, false, List, [], ◌∷◌, ◌++◌, length, get_or, Option, Some, None, Result, Ok, Err, All, IsTrue, refl, sym, subst, arith, append-nil, append_assoc}
use Rattle.std.specs.Prelude.{◌==◌, ◌&&◌, ◌%◌, ◌*◌, ◌/◌, ◌-◌, if◌then◌else◌, bytes_eq, nat_le}
use Rattle.std.proofs.lemmas.Bool.{eqb-true, leb-true}
use Rattle.std.proofs.lemmas.List.Elements.{All-nil, All-cons, All-map}
use Rattle.std.proofs.lemmas.List.{length-map, length-replicate}
use Rattle.chain_terms.specs.Sums.{upto}
use Rattle.chain_laws.proofs.Places.{get_or-up_from, length-up_from}
use Rattle.mesh_terms.specs.Faults.{Fault}
use Rattle.mesh_terms.specs.Points.{IsOnGrid, coordinate_of}
use Rattle.mb_base.specs.declared.op.Op.{Op}
use Rattle.mb_base.specs.declared.op.Op.TheVariants.{Union, Intersect, Subtract}
use Rattle.text_terms.specs.FirstFault.{then_read, on_line}
use Rattle.run_terms.specs.Files.{Bytes}
use Rattle.play_terms.specs.ScriptCommands.{ScriptCommand, at, load, save, measure, inspect, combine, tidy, remesh, polygon, combine2, extrude, exact, box, tetra, prism, lattice, shift, scale, mirror, turn, commands, motions, outlines, solids, named_in, command_named, number_at, pair_at, ring_at, ring_numbers}
use Rattle.play_terms.specs.Formats.{is_mesh_name}
use Rattle.made_terms.specs.declared.motion.Motion.{Motion}
use Rattle.made_terms.specs.declared.solid.Solid.{Solid}
use Rattle.play_terms.specs.Operands.{NewName, Number, is_name, new_name_fault, number_fault, old_name_fault, operand_fault, operands_fault}
use Rattle.play_terms.specs.Scripts.{unless_refused, command_step, step_by, script_line, script_lines, numbered_words, script}
use Rattle.made_terms.specs.Making.{IsSolid}
use Rattle.made_terms.specs.Motions.{IsMotion}
use Rattle.play_terms.specs.Sound.{IsSound, AreSound, HasNumbers, HasPlaces, HavePlaces}
use Rattle.play_terms.specs.Steps.{Line, Step, Load, Save, Measure, Inspect, Combine, Make, Move, Tidy, Remesh, Polygon, Combine2, Extrude, Exact, is_given, mesh_of, outline_of}
use Rattle.play_terms.specs.declared.held.HeldKind.{HeldKind}
use Rattle.play_terms.specs.declared.held.HeldKind.TheVariants as held
use Rattle.play_terms.proofs.Taken.{both, name_taken, old_taken, file_taken, number_taken, within_taken, axis_taken, point_taken, none_at}

abbrev IsGiven : List Line → HeldKind × Bytes → Type 0
IsGiven before t = IsTrue (is_given t.0 t.1 before)

abbrev IsNamed : Bytes → Type 0
IsNamed w = IsTrue (is_name w)

abbrev IsFile : Bytes → Type 0
IsFile w = IsTrue (is_mesh_name w)

-- of one
one : {X : Type 0} (P : X → Type 0) (x : X) → P x → All P (x ∷ [])
one P x such = All-cons P x [] such (All-nil P)

-- of two
two : {X : Type 0} (P : X → Type 0) (x y : X) → P x → P y → All P (x ∷ y ∷ [])
two P x y first second = All-cons P x (y ∷ []) first (one P y second)

-- none of the words is refused as an operand of the command
abbrev NoneRefused : ℕ → List Line → List Bytes → ScriptCommand → Type 0
NoneRefused k before ws c = (i : ℕ) → i < length (c.operands (length ws)) → operand_fault k before (get_or (c.operands (length ws)) i NewName) (at ws i) ≡ None

-- the steps of a command are sound
abbrev GivesSound : ScriptCommand → Type 0
GivesSound c = (k : ℕ) (before : List Line) (ws : List Bytes) → length ws ≡ length (c.operands (length ws)) → NoneRefused k before ws c → IsSound before (c.step k ws)

load_sound : GivesSound load
load_sound k before ws count none =
    record {
      given = All-nil (IsGiven before);
      names = one IsNamed (at ws 0) (name_taken (at ws 0) (none 0 (omega arith)));
      files = one IsFile (at ws 1) (file_taken (at ws 1) (none 1 (omega arith)));
      numbers = tt;
    }

save_sound : GivesSound save
save_sound k before ws count none =
    let old = old_taken held.Mesh before (at ws 0) (none 0 (omega arith)) in
    record {
      given = one (IsGiven before) (mesh_of (at ws 0)) old.1;
      names = one IsNamed (at ws 0) old.0;
      files = one IsFile (at ws 1) (file_taken (at ws 1) (none 1 (omega arith)));
      numbers = tt;
    }

measure_sound : GivesSound measure
measure_sound k before ws count none =
    let old = old_taken held.Mesh before (at ws 0) (none 0 (omega arith)) in
    record { given = one (IsGiven before) (mesh_of (at ws 0)) old.1; names = one IsNamed (at ws 0) old.0; files = All-nil IsFile; numbers = tt }

inspect_sound : GivesSound inspect
inspect_sound k before ws count none =
    let old = old_taken held.Mesh before (at ws 0) (none 0 (omega arith)) in
    record { given = one (IsGiven before) (mesh_of (at ws 0)) old.1; names = one IsNamed (at ws 0) old.0; files = All-nil IsFile; numbers = tt }

combine_sound : (op : Op) → GivesSound (combine op)
combine_sound op k before ws count none =
    let name = name_taken (at ws 0) (none 0 (omega arith)) in
    let left = old_taken held.Mesh before (at ws 1) (none 1 (omega arith)) in
    let right = old_taken held.Mesh before (at ws 2) (none 2 (omega arith)) in
    record {
      given = two (IsGiven before) (mesh_of (at ws 1)) (mesh_of (at ws 2)) left.1 right.1;
      names = All-cons IsNamed (at ws 0) (at ws 1 ∷ at ws 2 ∷ []) name (two IsNamed (at ws 1) (at ws 2) left.0 right.0);
      files = All-nil IsFile;
      numbers = tt;
    }

tidy_sound : GivesSound tidy
tidy_sound k before ws count none =
    let old = old_taken held.Mesh before (at ws 1) (none 1 (omega arith)) in
    record {
      given = one (IsGiven before) (mesh_of (at ws 1)) old.1;
      names = two IsNamed (at ws 0) (at ws 1) (name_taken (at ws 0) (none 0 (omega arith))) old.0;
      files = All-nil IsFile;
      numbers = tt;
    }

remesh_sound : GivesSound remesh
remesh_sound k before ws count none =
    let old = old_taken held.Mesh before (at ws 1) (none 1 (omega arith)) in
    record {
      given = one (IsGiven before) (mesh_of (at ws 1)) old.1;
      names = two IsNamed (at ws 0) (at ws 1) (name_taken (at ws 0) (none 0 (omega arith))) old.0;
      files = All-nil IsFile;
      numbers = tt;
    }

-- so many words are a name and pairs of numbers
pairs_of : (n : ℕ) → n ≡ 1 + ring_numbers n → (7 ≤ n) × (n ≤ 129) × (n % 2 ≡ 1)
pairs_of n e = by_test (nat_le 7 n && nat_le n 129) (n % 2 == 1) refl refl e
  where
    by_test : (b c : Bool) → (nat_le 7 n && nat_le n 129) ≡ b → (n % 2 == 1) ≡ c → n ≡ 1 + (if b && c then n - 1 else 6) → (7 ≤ n) × (n ≤ 129) × (n % 2 ≡ 1)
    by_test true true range odd e = let r = both (nat_le 7 n) (nat_le n 129) range in (leb-true 7 n r.0, leb-true n 129 r.1, eqb-true (n % 2) 1 odd)
    by_test true false range odd e = absurd (seven range odd e)
      where
        seven : (nat_le 7 n && nat_le n 129) ≡ true → (n % 2 == 1) ≡ false → n ≡ 7 → ⊥
        seven range odd is = let P : ℕ → Type 0 = λ m. (m % 2 == 1) ≡ false in let wrong = subst P is odd in cc
    by_test false c range odd e = absurd (seven range e)
      where
        seven : (nat_le 7 n && nat_le n 129) ≡ false → n ≡ 7 → ⊥
        seven range is = let P : ℕ → Type 0 = λ m. (nat_le 7 m && nat_le m 129) ≡ false in let wrong = subst P is range in cc

-- each operand after the name is a number
number_operand : (m j : ℕ) → j < m → get_or (replicate m Number) j NewName ≡ Number
number_operand zero j inside = absurd (omega (arith, inside))
number_operand (suc m) zero inside = refl
number_operand (suc m) (suc j) inside = number_operand m j (omega (arith, inside))

numbers_taken : (k : ℕ) (before : List Line) (ws : List Bytes) (m : ℕ)
    → ((i : ℕ) → i < length (NewName ∷ replicate m Number) → operand_fault k before (get_or (NewName ∷ replicate m Number) i NewName) (at ws i) ≡ None)
    → (j : ℕ) → j < m → number_fault k (at ws (suc j)) ≡ None
numbers_taken k before ws m none j inside =
    subst (λ o. operand_fault k before o (at ws (suc j)) ≡ None) (number_operand m j inside) (none (suc j) (omega (arith, inside, length-replicate m Number)))

-- each place of the ring is of two numbers on the grid
ring_on_grid : (k : ℕ) (ws : List Bytes) (n : ℕ) → ((i : ℕ) → i < n → number_fault k (at ws (2 * i + 1)) ≡ None) →
    ((i : ℕ) → i < n → number_fault k (at ws (2 * i + 1 + 1)) ≡ None) →
    All (λ p. IsOnGrid (coordinate_of p 0) × IsOnGrid (coordinate_of p 1)) (map (λ i. pair_at k ws (2 * i + 1)) (upto n))
ring_on_grid k ws n xs ys =
    All-map (λ p. IsOnGrid (coordinate_of p 0) × IsOnGrid (coordinate_of p 1)) (λ i. pair_at k ws (2 * i + 1)) (upto n)
    (λ i d inside.
    let low : i < n = omega (arith, inside, length-up_from 0 n) in
    let same : i ≡ get_or (upto n) i d = omega (arith, get_or-up_from 0 n i d low) in
    subst (λ j. IsOnGrid (number_at k ws (2 * j + 1)) × IsOnGrid (number_at k ws (2 * j + 1 + 1))) same
    (number_taken k (at ws (2 * i + 1)) (xs i low), number_taken k (at ws (2 * i + 1 + 1)) (ys i low)))

polygon_sound : GivesSound polygon
polygon_sound k before ws count none =
    let n = length ws in
    let m = ring_numbers n in
    let whole : n ≡ 1 + m = omega (arith, count, length-replicate m Number) in
    let is = pairs_of n whole in
    let many = (n - 1) / 2 in
    let long : length (ring_at k ws) ≡ many = length-map (upto many) (λ i. pair_at k ws (2 * i + 1)) ∙ length-up_from 0 many in
    record {
      given = All-nil (IsGiven before);
      names = one IsNamed (at ws 0) (name_taken (at ws 0) (none 0 (omega arith)));
      files = All-nil IsFile;
      numbers = record {
        some = omega (arith, long, is.0);
        few = omega (arith, long, is.1);
        on_grid = ring_on_grid k ws many
            (λ i inside. subst (λ j. number_fault k (at ws j) ≡ None) (omega arith) (numbers_taken k before ws m none (2 * i) (omega (arith, inside, whole))))
            (λ i inside. subst (λ j. number_fault k (at ws j) ≡ None) (omega arith) (numbers_taken k before ws m none (2 * i + 1) (omega (arith, inside, whole))));
      };
    }

combine2_sound : (op : Op) → GivesSound (combine2 op)
combine2_sound op k before ws count none =
    let name = name_taken (at ws 0) (none 0 (omega arith)) in
    let left = old_taken held.Outline before (at ws 1) (none 1 (omega arith)) in
    let right = old_taken held.Outline before (at ws 2) (none 2 (omega arith)) in
    record {
      given = two (IsGiven before) (outline_of (at ws 1)) (outline_of (at ws 2)) left.1 right.1;
      names = All-cons IsNamed (at ws 0) (at ws 1 ∷ at ws 2 ∷ []) name (two IsNamed (at ws 1) (at ws 2) left.0 right.0);
      files = All-nil IsFile;
      numbers = tt;
    }

extrude_sound : GivesSound extrude
extrude_sound k before ws count none =
    let old = old_taken held.Outline before (at ws 1) (none 1 (omega arith)) in
    record {
      given = one (IsGiven before) (outline_of (at ws 1)) old.1;
      names = two IsNamed (at ws 0) (at ws 1) (name_taken (at ws 0) (none 0 (omega arith))) old.0;
      files = All-nil IsFile;
      numbers = (number_taken k (at ws 2) (none 2 (omega arith)), number_taken k (at ws 3) (none 3 (omega arith)));
    }

exact_sound : GivesSound exact
exact_sound k before ws count none = record { given = All-nil (IsGiven before); names = All-nil IsNamed; files = All-nil IsFile; numbers = tt }

-- a solid
makes_sound : (before : List Line) (name : Bytes) (solid : Solid) → new_name_fault name ≡ None → IsSolid solid → IsSound before (Make name solid)
makes_sound before name solid taken such =
    record { given = All-nil (IsGiven before); names = one IsNamed name (name_taken name taken); files = All-nil IsFile; numbers = such }

box_sound : GivesSound box
box_sound k before ws count none =
    let low = point_taken k ws 1 (none 1 (omega arith)) (none 2 (omega arith)) (none 3 (omega arith)) in
    let high = point_taken k ws 4 (none 4 (omega arith)) (none 5 (omega arith)) (none 6 (omega arith)) in
    makes_sound before (at ws 0) _ (none 0 (omega arith)) (low, high)

tetra_sound : GivesSound tetra
tetra_sound k before ws count none =
    let corner = point_taken k ws 1 (none 1 (omega arith)) (none 2 (omega arith)) (none 3 (omega arith)) in
    makes_sound before (at ws 0) _ (none 0 (omega arith)) (corner, number_taken k (at ws 4) (none 4 (omega arith)))

prism_sound : GivesSound prism
prism_sound k before ws count none =
    let corner = point_taken k ws 1 (none 1 (omega arith)) (none 2 (omega arith)) (none 3 (omega arith)) in
    makes_sound before (at ws 0) _ (none 0 (omega arith)) (corner, number_taken k (at ws 4) (none 4 (omega arith)), number_taken k (at ws 5) (none 5 (omega arith)))

lattice_sound : GivesSound lattice
lattice_sound k before ws count none =
    let n = within_taken 1 60 (at ws 1) (none 1 (omega arith)) in
    let seed = within_taken 0 999999 (at ws 2) (none 2 (omega arith)) in
    makes_sound before (at ws 0) _ (none 0 (omega arith)) (n.0, n.1, seed.1)

-- a motion
moves_sound : (before : List Line) (name old : Bytes) (motion : Motion) → new_name_fault name ≡ None →
    old_name_fault held.Mesh before old ≡ None → IsMotion motion → IsSound before (Move name old motion)
moves_sound before name old motion taken known such =
    let source = old_taken held.Mesh before old known in
    record { given = one (IsGiven before) (mesh_of old) source.1; names = two IsNamed name old (name_taken name taken) source.0; files = All-nil IsFile; numbers = such }

shift_sound : GivesSound shift
shift_sound k before ws count none =
    moves_sound before (at ws 0) (at ws 1) _ (none 0 (omega arith)) (none 1 (omega arith)) (point_taken k ws 2 (none 2 (omega arith)) (none 3 (omega arith)) (none 4 (omega arith)))

scale_sound : GivesSound scale
scale_sound k before ws count none = moves_sound before (at ws 0) (at ws 1) _ (none 0 (omega arith))
    (none 1 (omega arith)) (within_taken 1 1000000 (at ws 2) (none 2 (omega arith)))

mirror_sound : GivesSound mirror
mirror_sound k before ws count none = moves_sound before (at ws 0) (at ws 1) _ (none 0 (omega arith)) (none 1 (omega arith)) (axis_taken (at ws 2) (none 2 (omega arith)))

turn_sound : GivesSound turn
turn_sound k before ws count none = moves_sound before (at ws 0) (at ws 1) _ (none 0 (omega arith)) (none 1 (omega arith)) (axis_taken (at ws 2) (none 2 (omega arith)))

-- each of some commands
abbrev Each : (ScriptCommand → Type 0) → List ScriptCommand → Type 0
Each P [] = Unit {0}
Each P (c ∷ cs) = P c × Each P cs

-- what holds of each command holds of the one that a word names
named_such : (P : ScriptCommand → Type 0) (cs : List ScriptCommand) (w : Bytes) (c : ScriptCommand) → Each P cs → named_in cs w ≡ Some c → P c
named_such P [] w c such e = absurd (cc)
named_such P (d ∷ cs) w c such e = by_word (bytes_eq w d.word) e (λ f. named_such P cs w c such.1 f)
  where
    by_word : (b : Bool) → (if b then Some d else named_in cs w) ≡ Some c → (named_in cs w ≡ Some c → P c) → P c
    by_word true e later = let is : d ≡ c = cc in subst P is such.0
    by_word false e later = later e

all_sound : Each GivesSound commands
all_sound =
    let drawing : Each GivesSound outlines = (polygon_sound, (combine2_sound Union, (combine2_sound Intersect, (combine2_sound Subtract, (extrude_sound, tt))))) in
    let making : Each GivesSound (solids ++ (motions ++ outlines)) =
    (box_sound, (tetra_sound, (prism_sound, (lattice_sound, (shift_sound, (scale_sound, (mirror_sound, (turn_sound, drawing)))))))) in (
      load_sound,
      (
        save_sound,
        (
          measure_sound,
          (
            inspect_sound,
            (
              combine_sound Union,
              (
                combine_sound Intersect,
                (
                  combine_sound Subtract,
                  (
                    tidy_sound,
                    (
                      remesh_sound,
                      (exact_sound, making),
                    ),
                  ),
                ),
              ),
            ),
          ),
        ),
      ),
    )

-- the step of a command whose steps are sound
command_sound : (k : ℕ) (before : List Line) (ws : List Bytes) (c : ScriptCommand) (step : Step) → GivesSound c → command_step k before ws c ≡ Ok step → IsSound before step
command_sound k before ws c step sound e = by_count (length ws == length (c.operands (length ws))) refl e
  where
    by_fault : length ws ≡ length (c.operands (length ws)) → (f : Option ℕ) →
        operands_fault k before (c.operands (length ws)) ws ≡ f → unless_refused (c.step k ws) f ≡ Ok step → IsSound before step
    by_fault count None none e =
        let is : c.step k ws ≡ step = cc in
        subst (IsSound before) is (sound k before ws count (λ i inside. none_at k before (c.operands (length ws)) ws i count none inside))
    by_fault count (Some kind) some e = absurd (cc)

    by_count : (b : Bool) → (length ws == length (c.operands (length ws))) ≡ b →
        (if b then unless_refused (c.step k ws) (operands_fault k before (c.operands (length ws)) ws) else Err 21) ≡ Ok step → IsSound before step
    by_count true same e = by_fault (eqb-true (length ws) (length (c.operands (length ws))) same) (operands_fault k before (c.operands (length ws)) ws) refl e
    by_count false other e = absurd (cc)

-- the step of a line is sound after the lines before it
step_sound : (k : ℕ) (before : List Line) (w : Bytes) (ws : List Bytes) (step : Step) → step_by k before ws (command_named w) ≡ Ok step → IsSound before step
step_sound k before w ws step e = by_command (command_named w) refl e
  where
    by_command : (o : Option ScriptCommand) → command_named w ≡ o → step_by k before ws o ≡ Ok step → IsSound before step
    by_command None is e = absurd (cc)
    by_command (Some c) is e = command_sound k before ws c step (named_such GivesSound commands w c all_sound is) e

-- sound lines and one more
AreSound-more : (before ls : List Line) (l : Line) → AreSound before ls → IsSound (before ++ ls) l.1 → AreSound before (ls ++ l ∷ [])
AreSound-more before [] l sound more =
    let P : List Line → Type 0 = λ xs. IsSound xs l.1 in
    (subst P (append-nil before) more, tt)
AreSound-more before (m ∷ ls) l sound more =
    let P : List Line → Type 0 = λ xs. IsSound xs l.1 in
    (sound.0, AreSound-more (before ++ m ∷ []) ls l sound.1 (subst P (sym (append_assoc before (m ∷ []) ls)) more))

-- the lines stay sound with the words of one more line
line_sound : (k n : ℕ) (ws : List Bytes) (before after : List Line) → script_line k n ws before ≡ Ok after → AreSound [] before → AreSound [] after
line_sound k n [] before after e sound = let is : before ≡ after = cc in subst (AreSound []) is sound
line_sound k n (w ∷ ws) before after e sound = by_step (step_by k before ws (command_named w)) refl e
  where
    by_step : (r : Result Step ℕ) → step_by k before ws (command_named w) ≡ r → then_read (on_line n r) (λ step. Ok (before ++ (n, step) ∷ [])) ≡ Ok after → AreSound [] after
    by_step (Err kind) is e = absurd (cc)
    by_step (Ok step) is e =
        let all : before ++ (n, step) ∷ [] ≡ after = cc in
        subst (AreSound []) all (AreSound-more [] before (n, step) sound (step_sound k before w ws step is))

-- and with those of many
lines_sound : (k : ℕ) (ls : List (ℕ × List Bytes)) (before after : List Line) → script_lines k ls before ≡ Ok after → AreSound [] before → AreSound [] after
lines_sound k [] before after e sound = let is : before ≡ after = cc in subst (AreSound []) is sound
lines_sound k (l ∷ ls) before after e sound = by_line (script_line k l.0 l.1 before) refl e (λ mid f s. lines_sound k ls mid after f s)
  where
    by_line : (r : Result (List Line) Fault) → script_line k l.0 l.1 before ≡ r → then_read r (λ t. script_lines k ls t) ≡ Ok after
        → ((mid : List Line) → script_lines k ls mid ≡ Ok after → AreSound [] mid → AreSound [] after) → AreSound [] after
    by_line (Err fault) is e later = absurd (cc)
    by_line (Ok mid) is e later = later mid e (line_sound k l.0 l.1 before mid is sound)

-- the steps of a script without a fault are sound
pub script_sound : (k : ℕ) (bytes : Bytes) (lines : List Line) → script k bytes ≡ Ok lines → AreSound [] lines
script_sound k bytes lines e = lines_sound k (numbered_words bytes) [] lines e tt

-- the places of sound lines are on the grid
numbers_places : (step : Step) → HasNumbers step → HasPlaces step
numbers_places (Load name file) such = tt
numbers_places (Save name file) such = tt
numbers_places (Measure name) such = tt
numbers_places (Inspect name) such = tt
numbers_places (Combine op name left right) such = tt
numbers_places (Make name solid) such = tt
numbers_places (Move name old motion) such = tt
numbers_places (Tidy name old) such = tt
numbers_places (Remesh name old) such = tt
numbers_places (Polygon name ring) such = such
numbers_places (Combine2 op name left right) such = tt
numbers_places (Extrude name old low high) such = such
numbers_places Exact such = tt

pub sound_places : (before lines : List Line) → AreSound before lines → HavePlaces lines
sound_places before [] sound = All-nil (λ l. HasPlaces l.1)
sound_places before (l ∷ ls) sound = All-cons (λ l. HasPlaces l.1) l ls (numbers_places l.1 sound.0.numbers) (sound_places (before ++ l ∷ []) ls sound.1)
