-- What the lines of a script leave a name, with one line more.
use Rattle.std.proofs.Common.{◌≡◌, List, [], ◌∷◌, ◌++◌, Option, Some, None, ap, refl, ◌∙◌}
use Rattle.run_terms.specs.Files.{Bytes}
use Rattle.play_terms.specs.Steps.{Line, given_kind, gives, or_before}
use Rattle.play_terms.specs.declared.held.HeldKind.{HeldKind}

-- the first of three kinds, however they are joined
joined : (a b c : Option HeldKind) → or_before (or_before a b) c ≡ or_before a (or_before b c)
joined None b c = refl
joined (Some kind) b c = refl

-- nothing before
pub first_alone : (a : Option HeldKind) → or_before a None ≡ a
first_alone None = refl
first_alone (Some kind) = refl

-- the kind that one line more gives, or else what it was
pub given_more : (w : Bytes) (ls : List Line) (l : Line) → given_kind w (ls ++ l ∷ []) ≡ or_before (gives w l.1) (given_kind w ls)
given_more w [] l = by (gives w l.1)
  where
    by : (a : Option HeldKind) → or_before None a ≡ or_before a None
    by None = refl
    by (Some kind) = refl
given_more w (m ∷ ls) l = ap (λ k. or_before k (gives w m.1)) (given_more w ls l) ∙ joined (gives w l.1) (given_kind w ls) (gives w m.1)
