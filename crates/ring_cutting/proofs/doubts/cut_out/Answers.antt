use Rattle.std.proofs.Common.{ℕ, List, Bool, ◌≡◌, [], length, get_or, true, false, set, sym, subst, refl, ap, ◌∙◌}
use Rattle.std.specs.Ordering.{nat_cmp}
use Rattle.std.specs.BTreeSet.{contains}
use Rattle.std.proofs.lemmas.List.{get_or_default}
use Rattle.face_plane.specs.Rings.{In}
use Rattle.ring_cutting.specs.Left.{lives, after_of, before_of, IsLinked}
use Rattle.ring_cutting.proofs.Linking.{links_without, low}
use Rattle.ring_cutting.proofs.Waiting.{cut_settled}
use Rattle.ring_cutting.proofs.doubts.cut_out.Goals as goal

pub returns-clause-linked : goal.returns-clause-linked
returns-clause-linked c =
    let old = c.args.links.now in
    let new = c.take_out.new.links in
    let i = c.args.i in
    let n = length c.args.doubts.now.waiting.items in
    subst (λ (b : List Bool). IsLinked n new.after.items new.before.items b) (sym c.take_out.ensures.living)
    (subst (λ (l : List ℕ). IsLinked n new.after.items l (set old.living.items i false)) (sym c.take_out.ensures.before)
    (subst (λ (l : List ℕ). IsLinked n l (set old.before.items (after_of old.after.items i) (before_of old.before.items i))
    (set old.living.items i false)) (sym c.take_out.ensures.after)
    (links_without n old.after.items old.before.items old.living.items i (before_of old.before.items i) (after_of old.after.items i)
    c.requires.linked c.requires.living refl refl c.requires.apart)))

pub returns-clause-settled : goal.returns-clause-settled
returns-clause-settled c = λ ps h.
    let old = c.args.links.now in
    let new = c.take_out.new.links in
    let is = c.in_ok-doubt_round.ensures in
    let doubts = c.doubt_round.new.doubtful in
    let i = c.args.i in
    let left : c.deref.result.now ≡ new.living.items = c.deref.ensures.value in
    let row = low (length c.args.doubts.now.waiting.items) old.after.items old.before.items old.living.items i c.requires.linked c.requires.living in
    let waits : c.places-waiting.result.now ≡ get_or c.args.doubts.now.waiting.items i [] =
    c.places-waiting.ensures ∙ c.index.ensures ∙ get_or_default c.args.doubts.now.waiting.items i _ [] row in
    cut_settled ps (length c.args.doubts.now.waiting.items) old.after.items old.before.items new.after.items new.before.items
    old.living.items new.living.items
    c.args.doubts.now.doubtful doubts c.args.doubts.now.waiting.items i (before_of old.before.items i) (after_of old.after.items i)
    c.requires.linked c.requires.living c.requires.apart refl refl
    c.take_out.ensures.after c.take_out.ensures.before c.take_out.ensures.living is.kept
    (λ q w l. is.woken q (subst (λ (k : List ℕ). In q k) (sym waits) w) (ap (λ (b : List Bool). lives b q) left ∙ l))
    (subst (λ (k : ℕ). contains nat_cmp doubts k ≡ true) c.before-p.ensures is.before)
    (subst (λ (k : ℕ). contains nat_cmp doubts k ≡ true) c.after-n.ensures is.after)
    (λ f l k q y.
    let same : (m : ℕ) → lives c.deref.result.now m ≡ lives new.living.items m = λ m. ap (λ (b : List Bool). lives b m) left in
    sym (same q) ∙ is.known (same c.before-p.result ∙ ap (lives new.living.items) c.before-p.ensures ∙ f)
    (same c.after-n.result ∙ ap (lives new.living.items) c.after-n.ensures ∙ l) (λ m a d. same m ∙ k m a d) q y) h
