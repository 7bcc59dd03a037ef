-- The ends of more and more edges are reached.
use Rattle.std.proofs.Common.{◌≡◌, ◌<◌, ℕ, Bool, true, List, [], ◌∷◌, ◌++◌, length, set, refl, sym, ◌∙◌, ap, subst}
use Rattle.std.specs.List.{Contains}
use Rattle.std.proofs.lemmas.List.{append_assoc, append-nil, length-set}
use Rattle.std.proofs.lemmas.List.Elements.{All-nil, All-push, All-weaker}
use Rattle.chain_terms.specs.Ranks.{start, finish}
use Rattle.spanning_forest.specs.declared.entrance.Entrance.{Entrance}
use Rattle.spanning_forest.specs.declared.entrance.Entrance.TheVariants.{Along}
use Rattle.spanning_forest.specs.Forests.{vertices_of}
use Rattle.spanning_forest.specs.Walks.{IsMarked, IsUnmarked, AreEntered, AreMore, AreReached}
use Rattle.spanning_forest.proofs.Marks.{marked_here, marked_kept}
use Rattle.spanning_forest.proofs.Entering.{entered_push, roots_along, still_entered}

-- no edge yet
pub reached_none : (es : List (ℕ × ℕ)) (old : List Bool) (before : List Entrance) → AreEntered es old before → AreReached es [] old before old before
reached_none es old before are = record {
  entered = are;
  full = refl;
  kept = λ w m. m;
  ends = All-nil (λ h. IsMarked old (finish es h));
  more = [];
  grown = sym (append-nil before);
  roots = refl;
}

-- one more edge ends at a marked vertex
pub reached_marked : (es : List (ℕ × ℕ)) (hs : List ℕ) (h end : ℕ) (old : List Bool) (before : List Entrance) (seen : List Bool) (entrances : List Entrance) →
    AreReached es hs old before seen entrances → end ≡ finish es h → IsMarked seen end → AreReached es (hs ++ h ∷ []) old before seen entrances
reached_marked es hs h end old before seen entrances r at m = record {
  entered = r.entered;
  full = r.full;
  kept = r.kept;
  ends = All-push (λ g. IsMarked seen (finish es g)) hs h r.ends (subst (IsMarked seen) at m);
  more = r.more;
  grown = r.grown;
  roots = r.roots;
}

-- one more edge ends at a vertex without a mark, which is entered
pub reached_new : (es : List (ℕ × ℕ)) (hs : List ℕ) (h end : ℕ) (old : List Bool) (before : List Entrance) (seen : List Bool) (entrances : List Entrance) →
    AreReached es hs old before seen entrances → end ≡ finish es h → IsUnmarked seen end → end < length seen → h < length es →
    Contains (vertices_of es before) (start es h) → AreReached es (hs ++ h ∷ []) old before (set seen end true) (entrances ++ Along h ∷ [])
reached_new es hs h end old before seen entrances r at free low inside from =
    let known = subst (λ l. Contains (vertices_of es l) (start es h)) (sym r.grown) (still_entered es before r.more (start es h) from) in
    record {
      entered = entered_push es seen entrances (Along h) end r.entered free low (sym at) (inside, known);
      full = length-set seen end true ∙ r.full;
      kept = λ w m. marked_kept seen end w (r.kept w m);
      ends = All-push (λ g. IsMarked (set seen end true) (finish es g)) hs h
          (All-weaker (λ g. IsMarked seen (finish es g)) (λ g. IsMarked (set seen end true) (finish es g)) (λ g m. marked_kept seen end (finish es g) m) hs r.ends)
          (subst (IsMarked (set seen end true)) at (marked_here seen end low));
      more = r.more ++ Along h ∷ [];
      grown = ap (λ l. l ++ Along h ∷ []) r.grown ∙ append_assoc before r.more (Along h ∷ []);
      roots = roots_along entrances h ∙ r.roots;
    }

-- the same of lists that are the same
pub reached_same : (es : List (ℕ × ℕ)) (hs gs : List ℕ) (old : List Bool) (before : List Entrance) (seen marks : List Bool)
    (entrances others : List Entrance) → hs ≡ gs → seen ≡ marks → entrances ≡ others → AreReached es gs old before marks others →
    AreReached es hs old before seen entrances
reached_same es hs gs old before seen marks entrances others e f g r =
    subst (λ l. AreReached es l old before seen entrances) (sym e)
    (subst (λ l. AreReached es gs old before l entrances) (sym f) (subst (λ l. AreReached es gs old before marks l) (sym g) r))

-- what was entered first and then
pub reached_on : (es : List (ℕ × ℕ)) (hs gs : List ℕ) (old : List Bool) (before : List Entrance) (seen : List Bool) (entrances : List Entrance) (new : List Bool)
    (later : List Entrance) → AreReached es hs old before seen entrances → AreReached es gs seen entrances new later → AreMore es old before new later
reached_on es hs gs old before seen entrances new later r q = record {
  entered = q.entered;
  full = q.full ∙ r.full;
  kept = λ w m. q.kept w (r.kept w m);
  ends = All-nil (λ h. IsMarked new (finish es h));
  more = r.more ++ q.more;
  grown = q.grown ∙ ap (λ l. l ++ q.more) r.grown ∙ append_assoc before r.more q.more;
  roots = q.roots ∙ r.roots;
}
