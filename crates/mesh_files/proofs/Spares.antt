-- The spare of a shelf, by what a sink that is a file of it tells.
use Rattle.std.proofs.Common.{◌≡◌, ◌-◌, ◌∙◌, ℕ, Bool, true, false, Option, Some, None, ap, sym, refl, cond, arith, ◌++◌, ◌≤◌, length, length-append}
use Rattle.std.specs.Option.{option_map}
use Rattle.std.specs.Str.{bytes_eq}
use Rattle.std.proofs.lemmas.Slice.Eq.{bytes_eq-Decides}
use Rattle.run_terms.specs.Files.{Bytes}
use Rattle.mesh_writer.specs.Pages.{room_of, spare_beside}
use Rattle.mesh_files.specs.Pieces.{HasRoom, spare_after}

-- no byte went to the file
pub spare_kept : (name : Bytes) (old : Option (Bytes × ℕ)) → old ≡ spare_after name 0 old
spare_kept name None = refl
spare_kept name (Some p) = by (bytes_eq p.0 name) refl
  where
    by : (t : Bool) → bytes_eq p.0 name ≡ t → Some p ≡ spare_after name 0 (Some p)
    by true is = let same : p.1 ≡ p.1 - 0 = omega arith in rw is (ap (λ (n : ℕ). Some (p.0, n)) same)
    by false is = rw is refl

-- a room that is less, and beside it the spare that another file has, are the spare that is left
pub spare_from : (name : Bytes) (old new : Option (Bytes × ℕ)) (n : ℕ) → room_of name new ≡ option_map (λ free. free - n) (room_of name old)
    → spare_beside name new ≡ spare_beside name old → new ≡ spare_after name n old
spare_from name None None n room beside = refl
spare_from name None (Some q) n room beside = by (bytes_eq q.0 name) refl
  where
    by : (t : Bool) → bytes_eq q.0 name ≡ t → Some q ≡ None
    by true is = let none : Some q.1 ≡ None = rw is at room in cc
    by false is = rw is at beside
spare_from name (Some p) None n room beside = by (bytes_eq p.0 name) refl
  where
    by : (t : Bool) → bytes_eq p.0 name ≡ t → None ≡ spare_after name n (Some p)
    by true is = let none : None ≡ Some (p.1 - n) = rw is at room in cc
    by false is = let none : None ≡ Some p = rw is at beside in cc
spare_from name (Some p) (Some q) n room beside = by (bytes_eq p.0 name) refl (bytes_eq q.0 name) refl
  where
    by : (s : Bool) → bytes_eq p.0 name ≡ s → (t : Bool) → bytes_eq q.0 name ≡ t → Some q ≡ spare_after name n (Some p)
    by true p_is true q_is =
        let less : Some q.1 ≡ Some (p.1 - n) = rw (p_is, q_is) at room in
        let same : q.0 ≡ p.0 = (bytes_eq-Decides q.0 name).0 q_is ∙ sym ((bytes_eq-Decides p.0 name).0 p_is) in
        let left : q.1 ≡ p.1 - n = cc in
        rw p_is (ap (λ (x : Bytes). Some (x, q.1)) same ∙ ap (λ (m : ℕ). Some (p.0, m)) left)
    by true p_is false q_is = let none : Some q ≡ None = rw (p_is, q_is) at beside in cc
    by false p_is true q_is = let none : None ≡ Some p = rw (p_is, q_is) at beside in cc
    by false p_is false q_is = let same : Some q ≡ Some p = rw (p_is, q_is) at beside in rw p_is same

-- room for two texts is room for the first
pub room_for_first : (name text more : Bytes) (old : Option (Bytes × ℕ)) → HasRoom old name (text ++ more) → HasRoom old name text
room_for_first name text more old has =
    let long = length-append text more in
    let fits = has.2 in
    (has.0, has.1, omega (arith, long, fits))

-- and once that is written, for the second
pub room_for_more : (name text more : Bytes) (old new : Option (Bytes × ℕ)) → HasRoom old name (text ++ more) → new ≡ spare_after name (length text) old → HasRoom new name more
room_for_more name text more old new has less =
    let room = has.0 in
    let own = (bytes_eq-Decides name name).1 refl in
    let long = length-append text more in
    let fits = has.2 in
    let left : length more ≤ room - length text = omega (arith, long, fits) in
    (room - length text, less ∙ ap (spare_after name (length text)) has.1 ∙ ap (λ (b : Bool). Some (name, cond b (room - length text) room)) own, left)
