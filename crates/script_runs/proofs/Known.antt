-- What names hold after steps, as far as its kind goes.
use Rattle.std.proofs.Common.{◌≡◌, ◌++◌, Bool, true, false, List, [], ◌∷◌, Option, Some, None, Result, IsTrue, refl, ap, sym, subst, ◌∙◌}
use Rattle.std.specs.Prelude.{if◌then◌else◌, bytes_eq, OnOk}
use Rattle.std.proofs.lemmas.List.Elements.{All-head, All-tail, All-weaker}
use Rattle.std.proofs.lemmas.Result.{on_ok_weaker}
use Rattle.std.specs.List.{All}
use Rattle.run_terms.specs.Files.{Bytes}
use Rattle.play_terms.specs.Plays.{Held, Named, OfMesh, OfOutline, kind_held, with_held}
use Rattle.play_terms.specs.Sound.{IsSound}
use Rattle.play_terms.specs.Steps.{Line, Step, given_kind, gives, is_given, is_kind, is_that, new_kind, new_name, or_before, taken}
use Rattle.play_terms.specs.declared.held.HeldKind.{HeldKind}
use Rattle.play_terms.specs.declared.held.HeldKind.TheVariants as held
use Rattle.play_terms.proofs.GivenKinds.{given_more}
use Rattle.script_runs.specs.Names.{HasTaken, Holds, IsNamed, IsOutlined, KeepsNames}

-- each name that the lines leave something of a kind holds something of this kind
abbrev pub AreNamed : Named → List Line → Type 0
AreNamed named lines = (w : Bytes) (kind : HeldKind) → given_kind w lines ≡ Some kind → kind_held (named w) ≡ Some kind

-- something held has a kind
has_kind : (h : Held) (rest : Option HeldKind) → kind_held (Some h) ≡ or_before (kind_held (Some h)) rest
has_kind (OfMesh m) rest = refl
has_kind (OfOutline o) rest = refl

-- where a step gives a name something of its kind, and that is done, the names are kept
held_keeps : (step : Step) (name : Bytes) (h : Held) (old new : Named) → new_name step ≡ Some name →
    Some (new_kind step) ≡ kind_held (Some h) → new ≡ with_held name h old → KeepsNames step old new
held_keeps step name h old new is kind now w =
    ap (λ (n : Named). kind_held (n w)) now ∙ by (bytes_eq w name) ∙ sym (ap (λ g. or_before g (kind_held (old w))) given)
  where
    given : gives w step ≡ (if bytes_eq w name then kind_held (Some h) else None)
    given = λ i. if is_that w (is i) then kind i else None

    by : (b : Bool) → kind_held (if b then Some h else old w) ≡ or_before (if b then kind_held (Some h) else None) (kind_held (old w))
    by true = has_kind h (kind_held (old w))
    by false = refl

-- a mesh, or an outline
pub mesh_keeps : {X Y : Type 0} (r : Result X Y) (old new : Named) {step other : Step} {name : Bytes} → step ≡ other → new_name other ≡ Some name
    → new_kind other ≡ held.Mesh → OnOk r (IsNamed name old new) → OnOk r (KeepsNames step old new)
mesh_keeps r old new {step} {other} {name} same is kind done =
    on_ok_weaker r (λ so. held_keeps step name (OfMesh so.0) old new (ap new_name same ∙ is) (ap (λ s. Some (new_kind s)) same ∙ ap Some kind) so.1) done

pub outline_keeps : {X Y : Type 0} (r : Result X Y) (old new : Named) {step other : Step} {name : Bytes} → step ≡ other → new_name other ≡ Some name
    → new_kind other ≡ held.Outline → OnOk r (IsOutlined name old new) → OnOk r (KeepsNames step old new)
outline_keeps r old new {step} {other} {name} same is kind done =
    on_ok_weaker r (λ so. held_keeps step name (OfOutline so.0) old new (ap new_name same ∙ is) (ap (λ s. Some (new_kind s)) same ∙ ap Some kind) so.1) done

-- where a step gives no name anything, names that stay are kept
pub unchanged_keeps : (step : Step) (named : Named) → new_name step ≡ None → KeepsNames step named named
unchanged_keeps step named is w = sym (ap (λ n. or_before (if is_that w n then Some (new_kind step) else None) (kind_held (named w))) is)

-- the names of one line more
pub named_next : (old new : Named) (lines : List Line) (l : Line) → AreNamed old lines → KeepsNames l.1 old new → AreNamed new (lines ++ l ∷ [])
named_next old new lines l known keeps w kind given = keeps w ∙ by (gives w l.1) (sym (given_more w lines l) ∙ given)
  where
    by : (g : Option HeldKind) → or_before g (given_kind w lines) ≡ Some kind → or_before g (kind_held (old w)) ≡ Some kind
    by None e = known w kind e
    by (Some k) e = e

-- no line gives a name anything
pub none_named : (named : Named) → AreNamed named []
none_named named w kind given = absurd (cc)

-- a kind that is this one
kind_is : (kind : HeldKind) (o : Option HeldKind) → IsTrue (is_kind kind o) → o ≡ Some kind
kind_is kind None is = absurd (cc)
kind_is held.Mesh (Some held.Mesh) is = refl
kind_is held.Mesh (Some held.Outline) is = absurd (cc)
kind_is held.Outline (Some held.Mesh) is = absurd (cc)
kind_is held.Outline (Some held.Outline) is = refl

-- something of a kind is held
holds : (kind : HeldKind) (h : Option Held) → kind_held h ≡ Some kind → Holds kind h
holds kind None is = absurd (cc)
holds held.Mesh (Some (OfMesh m)) is = refl
holds held.Mesh (Some (OfOutline o)) is = absurd (cc)
holds held.Outline (Some (OfMesh m)) is = absurd (cc)
holds held.Outline (Some (OfOutline o)) is = refl

-- so the names that a sound step takes hold what it takes
pub has_taken : (named : Named) (before : List Line) (step : Step) → AreNamed named before → IsSound before step → HasTaken named step
has_taken named before step known sound =
    All-weaker (λ t. IsTrue (is_given t.0 t.1 before)) (λ t. Holds t.0 (named t.1))
    (λ t is. holds t.0 (named t.1) (known t.1 t.0 (kind_is t.0 (given_kind t.1 before) is))) _ sound.given

-- a step that takes one name, or two, has what it takes
pub taken_one : (named : Named) {step other : Step} {t : HeldKind × Bytes} → step ≡ other → taken other ≡ t ∷ [] → HasTaken named step → Holds t.0 (named t.1)
taken_one named {t = t} same is has = let P : HeldKind × Bytes → Type 0 = λ t. Holds t.0 (named t.1) in All-head P t [] (subst (All P) (ap taken same ∙ is) has)

pub taken_two : (named : Named) {step other : Step} {t u : HeldKind × Bytes} → step ≡ other → taken other ≡ t ∷ u ∷ [] → HasTaken named step →
    Holds t.0 (named t.1) × Holds u.0 (named u.1)
taken_two named {t = t} {u} same is has =
    let P : HeldKind × Bytes → Type 0 = λ t. Holds t.0 (named t.1) in
    let all : All P (t ∷ u ∷ []) = subst (All P) (ap taken same ∙ is) has in (All-head P t (u ∷ []) all, All-head P u [] (All-tail P t (u ∷ []) all))
