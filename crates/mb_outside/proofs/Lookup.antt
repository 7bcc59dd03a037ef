-- A file found by its name, and a file put in its place.
use Rattle.std.proofs.Common.{◌≡◌, ◌<◌, ◌-◌, ℕ, zero, suc, Bool, true, false, List, [], ◌∷◌, ◌++◌, length, get_or, set, Some, None, refl, sym, ◌∙◌, ap, arith, position, subst, cond, max, nat_lt}
use Rattle.std.specs.List.{find, position_or_len}
use Rattle.std.specs.Option.{option_map}
use Rattle.std.proofs.lemmas.Slice.Eq.{bytes_eq-Decides}
use Rattle.std.proofs.lemmas.List.Quantifiers.{position-Some}
use Rattle.std.proofs.lemmas.List.Sums.{fails_before_first}
use Rattle.run_terms.specs.Files.{Bytes, OthersStay}
use Rattle.mb_outside.specs.Store.{File, Store, files_of, given, is_named, limit_of, placed, written}

-- what passes first is found
find_first : {X : Type 0} (test : X → Bool) (xs : List X) (i : ℕ) (d : X) → i < length xs → test (get_or xs i d) ≡ true → ((k : ℕ) → k < i → test (get_or xs k d) ≡ false)
    → find test xs ≡ Some (get_or xs i d)
find_first test [] i d in_i here before = absurd (omega (arith, in_i))
find_first test (x ∷ xs) zero d in_i here before = rw here refl
find_first test (x ∷ xs) (suc i) d in_i here before =
    rw (before 0 (omega arith)) (find_first test xs i d (omega (arith, in_i)) here (λ k below. before (suc k) (omega (arith, below))))

-- where nothing passes, nothing is found
find_nowhere : {X : Type 0} (test : X → Bool) (xs : List X) (d : X) → ((k : ℕ) → k < length xs → test (get_or xs k d) ≡ false) → find test xs ≡ None
find_nowhere test [] d none = refl
find_nowhere test (x ∷ xs) d none = rw (none 0 (omega arith)) (find_nowhere test xs d (λ k below. none (suc k) (omega (arith, below))))

-- what stands at the first place that passes
pub find_at_position : {X : Type 0} (test : X → Bool) (xs : List X) (i : ℕ) (d : X) → position test xs ≡ Some i → find test xs ≡ Some (get_or xs i d)
find_at_position test xs i d is =
    let at = position-Some test xs i d is in
    find_first test xs i d at.0 at.1 at.2

-- no place passes
none_passes : {X : Type 0} (test : X → Bool) (xs : List X) (d : X) → position test xs ≡ None → (k : ℕ) → k < length xs → test (get_or xs k d) ≡ false
none_passes test xs d none k below = by (nat_lt (position_or_len test xs) (length xs)) refl
  where
    by : (t : Bool) → nat_lt (position_or_len test xs) (length xs) ≡ t → test (get_or xs k d) ≡ false
    by true is = let h : Some (position_or_len test xs) ≡ None = (let P : Bool → Type 0 = λ t. cond t (Some (position_or_len test xs)) None ≡ None in subst P is none) in cc
    by false is = fails_before_first test xs k d (grind (arith, is, below))

-- without a place nothing is found
pub find_without_position : {X : Type 0} (test : X → Bool) (xs : List X) → position test xs ≡ None → find test xs ≡ None
find_without_position test [] none = refl
find_without_position test (x ∷ xs) none = find_nowhere test (x ∷ xs) x (none_passes test (x ∷ xs) x none)

-- a file has the name that it is found by
pub name_of : (name : Bytes) (file : File) → is_named name file ≡ true → file.name ≡ name
name_of name file is = (bytes_eq-Decides file.name name).0 is

-- each file has its own name
pub named_so : (name : Bytes) (file : File) → file.name ≡ name → is_named name file ≡ true
named_so name file is = (bytes_eq-Decides file.name name).1 is

placed_first : (file : File) (files : List File) (i : ℕ) (d : File) → i < length files → is_named file.name (get_or files i d) ≡ true →
    ((k : ℕ) → k < i → is_named file.name (get_or files k d) ≡ false)
    → set files i file ≡ placed file files
placed_first file [] i d in_i here before = absurd (omega (arith, in_i))
placed_first file (x ∷ xs) zero d in_i here before = rw here refl
placed_first file (x ∷ xs) (suc i) d in_i here before =
    rw (before 0 (omega arith)) (ap (λ rest. x ∷ rest) (placed_first file xs i d (omega (arith, in_i)) here (λ k below. before (suc k) (omega (arith, below)))))

-- a write at the first place of the name puts the file in its place
pub placed_over : (file d : File) (files : List File) (i : ℕ) → position (is_named file.name) files ≡ Some i → set files i file ≡ placed file files
placed_over file d files i is =
    let at = position-Some (is_named file.name) files i d is in
    placed_first file files i d at.0 at.1 at.2

-- where no file has the name, the file is put at the end
pub placed_new : (file : File) (files : List File) → find (is_named file.name) files ≡ None → files ++ file ∷ [] ≡ placed file files
placed_new file [] none = refl
placed_new file (x ∷ xs) none = by (is_named file.name x) refl (placed_new file xs)
  where
    by : (t : Bool) → is_named file.name x ≡ t → (find (is_named file.name) xs ≡ None → xs ++ file ∷ [] ≡ placed file xs) → (x ∷ xs) ++ file ∷ [] ≡ placed file (x ∷ xs)
    by true is later = let h : Some x ≡ None = (let P : Bool → Type 0 = λ t. cond t (Some x) (find (is_named file.name) xs) ≡ None in subst P is none) in cc
    by false is later = rw is (ap (λ rest. x ∷ rest) (later (let P : Bool → Type 0 = λ t. cond t (Some x) (find (is_named file.name) xs) ≡ None in subst P is none)))

-- the file that was put is found
pub find_placed : (file : File) (files : List File) → find (is_named file.name) (placed file files) ≡ Some file
find_placed file [] = rw (named_so file.name file refl) refl
find_placed file (x ∷ xs) = by (is_named file.name x) refl (find_placed file xs)
  where
    by : (t : Bool) → is_named file.name x ≡ t → find (is_named file.name) (placed file xs) ≡ Some file → find (is_named file.name) (placed file (x ∷ xs)) ≡ Some file
    by true is later = rw is (rw (named_so file.name file refl) refl)
    by false is later = rw is (rw is later)

-- a file with one name has no other
unnamed : (name : Bytes) (file : File) → (file.name ≡ name → ⊥) → is_named name file ≡ false
unnamed name file apart = by (is_named name file) refl
  where
    by : (t : Bool) → is_named name file ≡ t → is_named name file ≡ false
    by true is = absurd (apart (name_of name file is))
    by false is = is

-- files of other names stay
pub find_other : (name : Bytes) (file : File) (files : List File) → (name ≡ file.name → ⊥) → find (is_named name) (placed file files) ≡ find (is_named name) files
find_other name file [] apart = rw (unnamed name file (λ same. apart (sym same))) refl
find_other name file (x ∷ xs) apart = by (is_named file.name x) refl (find_other name file xs apart)
  where
    by : (t : Bool) → is_named file.name x ≡ t → find (is_named name) (placed file xs) ≡ find (is_named name) xs →
        find (is_named name) (placed file (x ∷ xs)) ≡ find (is_named name) (x ∷ xs)
    by true is later = rw is (rw (unnamed name file (λ same. apart (sym same))) (rw (unnamed name x (λ same. apart (sym same ∙ name_of file.name x is))) refl))
    by false is later = rw is (ap (λ rest. cond (is_named name x) (Some x) rest) later)

-- a file written at the first place of its name
pub written_over : (store : Store) (name bytes : Bytes) (i : ℕ) (old : File) → position (is_named name) store.files ≡ Some i → old ≡ get_or store.files i old
    → record store { files = set store.files i (record old { bytes = bytes }) } ≡ written name bytes store
written_over store name bytes i old is at =
    let found : find (is_named name) store.files ≡ Some old = find_at_position (is_named name) store.files i old is ∙ ap (λ file. Some file) (sym at) in
    let named : old.name ≡ name = name_of name old (ap (is_named name) at ∙ (position-Some (is_named name) store.files i old is).1) in
    grind (arith, found, named, is, placed_over)

-- a new file written at the end
pub written_new : (store : Store) (name bytes : Bytes) → find (is_named name) store.files ≡ None
    → record store { files = store.files ++ (record { name = name; bytes = bytes; limit = store.room }) ∷ []; free = store.free - 1 } ≡ written name bytes store
written_new store name bytes none = grind (arith, none, placed_new)

-- what a search by name finds, and what a write there puts
pub ruleset lookups = (find_at_position, find_without_position, placed_over, placed_new, written_over, written_new)

-- the file that was written, as the map has it
pub files_of_written : (store : Store) (name bytes : Bytes) → files_of (written name bytes store).files name ≡ Some bytes
files_of_written store name bytes = ap (option_map (λ (file : File). file.bytes)) (find_placed (record { name = name; bytes = bytes; limit = limit_of store name }) store.files)

-- the files of other names, as the map has them
pub files_of_written_other : (store : Store) (name bytes : Bytes) → OthersStay name (files_of store.files) (files_of (written name bytes store).files)
files_of_written_other store name bytes other apart =
    ap (option_map (λ (file : File). file.bytes)) (find_other other (record { name = name; bytes = bytes; limit = limit_of store name }) store.files apart)

-- the file that was given, as the map has it
pub files_of_given : (store : Store) (name bytes : Bytes) → files_of (given name bytes store).files name ≡ Some bytes
files_of_given store name bytes =
    ap (option_map (λ (file : File). file.bytes)) (find_placed (record { name = name; bytes = bytes; limit = max store.room (length bytes) }) store.files)

-- the files of other names, as the map has them
pub files_of_given_other : (store : Store) (name bytes : Bytes) → OthersStay name (files_of store.files) (files_of (given name bytes store).files)
files_of_given_other store name bytes other apart =
    ap (option_map (λ (file : File). file.bytes)) (find_other other (record { name = name; bytes = bytes; limit = max store.room (length bytes) }) store.files apart)

-- what a write and a put make of the map
pub ruleset maps = (files_of_written, files_of_written_other, files_of_given, files_of_given_other)
