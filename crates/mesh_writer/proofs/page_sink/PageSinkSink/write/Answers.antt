use Rattle.std.proofs.Common.{◌≡◌, ◌-◌, ◌⊎◌, ◌∙◌, ℕ, Option, Some, None, Result, Ok, Err, IfOk, OnErr, inl, inr, ap, sym, refl, rules, cond, true, false, Bool}
use Rattle.std.specs.Option.{option_map}
use Rattle.std.specs.Str.{bytes_eq}
use Rattle.std.proofs.lemmas.Result.{IfOk-weaker}
use Rattle.std.proofs.lemmas.Slice.Eq.{bytes_eq-Decides}
use Rattle.run_terms.specs.Files.{Bytes, IsSpareOf}
use Rattle.mesh_writer.specs.Pages.{room_of, spare_beside}
use Rattle.mesh_writer.proofs.page_sink.PageSinkSink.write.Goals as goal

-- a room is that of the spare of this name
room_is : (name : Bytes) (spare : Option (Bytes × ℕ)) (free : ℕ) → room_of name spare ≡ Some free → spare ≡ Some (name, free)
room_is name spare free is = search rules

-- the spare of this name is a room
spare_is : (name : Bytes) (spare : Option (Bytes × ℕ)) (free : ℕ) → spare ≡ Some (name, free) → room_of name spare ≡ Some free
spare_is name spare free is = search rules

-- a spare of this name is lowered, and so is the room
own_less : (name : Bytes) (p : Bytes × ℕ) (new : Option (Bytes × ℕ)) (count : ℕ) → p.0 ≡ name → ((free : ℕ) → Some p ≡ Some (name, free) → new ≡ Some (name, free - count))
    → room_of name new ≡ option_map (λ free. free - count) (room_of name (Some p))
own_less name p new count is less =
    let here = (bytes_eq-Decides p.0 name).1 is in
    spare_is name new (p.1 - count) (less p.1 (ap (λ (n : Bytes). Some (n, p.1)) is))
    ∙ sym (ap (λ (b : Bool). option_map (λ (free : ℕ). free - count) (cond b (Some p.1) None)) here)

-- where the spare is another's, no room is told before and after
less_by : (name : Bytes) (old new : Option (Bytes × ℕ)) (count : ℕ) → IsSpareOf old name ⊎ (new ≡ old) → ((free : ℕ) → old ≡ Some (name, free) → new ≡ Some (name, free - count))
    → room_of name new ≡ option_map (λ free. free - count) (room_of name old)
less_by name None new count (inl is) less = absurd is
less_by name None new count (inr same) less = ap (room_of name) same
less_by name (Some p) new count (inl is) less = own_less name p new count is less
less_by name (Some p) new count (inr same) less = by (bytes_eq p.0 name) refl
  where
    by : (t : Bool) → bytes_eq p.0 name ≡ t → room_of name new ≡ option_map (λ free. free - count) (room_of name (Some p))
    by true is = own_less name p new count ((bytes_eq-Decides p.0 name).0 is) less
    by false is = ap (room_of name) same ∙ ap (λ (b : Bool). cond b (Some p.1) None) is
        ∙ sym (ap (λ (b : Bool). option_map (λ (free : ℕ). free - count) (cond b (Some p.1) None)) is)

-- a spare of another file stays
beside_same : {E : Type 0} (name : Bytes) (old new : Option (Bytes × ℕ)) (r : Result ℕ E) → IsSpareOf old name ⊎ (new ≡ old)
    → IfOk r (λ count. (free : ℕ) → old ≡ Some (name, free) → new ≡ Some (name, free - count)) → OnErr r (new ≡ old) → spare_beside name new ≡ spare_beside name old
beside_same name old new (Err e) other less kept = ap (spare_beside name) kept
beside_same name old new (Ok count) (inr same) less kept = ap (spare_beside name) same
beside_same name None new (Ok count) (inl is) less kept = absurd is
beside_same name (Some p) new (Ok count) (inl is) less kept =
    let here = (bytes_eq-Decides p.0 name).1 is in
    let own = (bytes_eq-Decides name name).1 refl in
    ap (spare_beside name) (less p.1 (ap (λ (n : Bytes). Some (n, p.1)) is)) ∙ ap (λ (b : Bool). cond b None (Some (name, p.1 - count))) own
    ∙ sym (ap (λ (b : Bool). cond b None (Some p)) here)

pub returns-clause-sure : goal.returns-clause-sure
returns-clause-sure g c free is fits = c.append.ensures.sure free (room_is c.args.self.now.name.now (g.S.Shelf.spare c.args.self.now.shelf.now) free is) fits

pub returns-clause-less : goal.returns-clause-less
returns-clause-less g c =
    IfOk-weaker c.append.result _ _
    (λ count less. less_by c.args.self.now.name.now (g.S.Shelf.spare c.args.self.now.shelf.now) (g.S.Shelf.spare c.append.new.self) count c.append.ensures.other_spare less)
    c.append.ensures.less

pub returns-clause-other_spare : goal.returns-clause-other_spare
returns-clause-other_spare g c =
    beside_same c.args.self.now.name.now _ _ c.append.result c.append.ensures.other_spare c.append.ensures.less c.append.ensures.spare
