-- Tasks one after the other: the two outcomes of the first, what stands before any, and a task without actions.
use Rattle.std.proofs.Common.{◌≡◌, Bool, List, [], ◌∷◌, ◌++◌, Result, Ok, Err, IsTrue, append_assoc, ap, sym, subst, ◌∙◌, refl}
use Rattle.run_terms.specs.Files.{Files}
use Rattle.run_terms.specs.Runs.{Action, Ask, Write, Say, World, done, done_all, Partial, StopsAt, StopsBefore}
use Rattle.run_terms.specs.Tasks.{Refusal, Part, Task, changed, changed_all, give, joined, then_task}
use Rattle.run_terms.specs.Meets.{Why, Refused, Unread, Unwritten, Unsaid, Starved, Faults, Seen, Does, Rises, Meets}

-- actions one after the other
pub done_all-append : (xs ys : List Action) (w : World) → done_all (xs ++ ys) w ≡ done_all ys (done_all xs w)
done_all-append [] ys w = refl
done_all-append (a ∷ xs) ys w = done_all-append xs ys (done a w)

files_after : (a : Action) (w : World) → (done a w).files ≡ changed a w.files
files_after (Ask name) w = refl
files_after (Write name bytes) w = refl
files_after (Say line) w = refl

-- the files after actions
pub files_done : (xs : List Action) (w : World) → (done_all xs w).files ≡ changed_all xs w.files
files_done [] w = refl
files_done (a ∷ xs) w = files_done xs (done a w) ∙ ap (changed_all xs) (files_after a w)

-- a stop in the first actions is a stop in more
pub stops_longer : (xs ys : List Action) (a : Action) (w v : World) → StopsAt xs a w v → StopsAt (xs ++ ys) a w v
stops_longer xs ys a w v s =
    record { whole = s.whole; later = s.later ++ ys; split = sym (append_assoc s.whole (a ∷ s.later) ys) ∙ ap (λ t. t ++ ys) s.split; part = s.part }

-- a stop in the later actions is a stop in all
pub stops_later : (xs ys : List Action) (a : Action) (w v : World) → StopsAt ys a (done_all xs w) v → StopsAt (xs ++ ys) a w v
stops_later xs ys a w v s =
    let P : World → Type 0 = λ m. Partial a m v in
    record {
      whole = xs ++ s.whole;
      later = s.later;
      split = append_assoc xs s.whole (a ∷ s.later) ∙ ap (λ t. xs ++ t) s.split;
      part = subst P (sym (done_all-append xs s.whole w)) s.part;
    }

-- the same before an action
pub before_longer : (xs ys : List Action) (w v : World) → StopsBefore xs w v → StopsBefore (xs ++ ys) w v
before_longer xs ys w v s =
    record { whole = s.whole; later = s.later ++ ys; split = sym (append_assoc s.whole s.later ys) ∙ ap (λ t. t ++ ys) s.split; same = s.same }

pub before_later : (xs ys : List Action) (w v : World) → StopsBefore ys (done_all xs w) v → StopsBefore (xs ++ ys) w v
before_later xs ys w v s =
    record {
      whole = xs ++ s.whole;
      later = s.later;
      split = append_assoc xs s.whole s.later ∙ ap (λ t. xs ++ t) s.split;
      same = s.same ∙ sym (done_all-append xs s.whole w);
    }

-- the actions of a part that follows, where the first gave a value
follows : {A B : Type 0} (xs : List Action) (r : Result A Refusal) (next : A → Part B) (a : A) → r ≡ Ok a
    → joined xs r next ≡ record { actions = xs ++ (next a).actions; result = (next a).result }
follows xs r next a is = ap (λ r. joined xs r next) is

-- what stands after a first part that was done whole, and another that ended so
does_then : {A B : Type 0} (p : Part A) (q : Part B) (w m v : World) (r : Result B Why) → m ≡ done_all p.actions w → Does q m v r
    → Does (record { actions = p.actions ++ q.actions; result = q.result }) w v r
does_then p q w m v (Ok b) reached done = record { gives = done.gives; all_done = done.all_done ∙ ap (done_all q.actions) reached ∙ sym (done_all-append p.actions q.actions w) }
does_then p q w m v (Err (Refused why)) reached done =
    record { gives = done.gives; all_done = done.all_done ∙ ap (done_all q.actions) reached ∙ sym (done_all-append p.actions q.actions w) }
does_then p q w m v (Err (Unread name)) reached done =
    let P : World → Type 0 = λ m. StopsAt q.actions (Ask name) m v in
    stops_later p.actions q.actions (Ask name) w v (subst P reached done)
does_then p q w m v (Err (Unwritten name)) reached done =
    let P : World → Type 0 = λ m. StopsAt q.actions (Write name done.0) m v in
    (done.0, stops_later p.actions q.actions (Write name done.0) w v (subst P reached done.1))
does_then p q w m v (Err Unsaid) reached done =
    let P : World → Type 0 = λ m. StopsAt q.actions (Say done.0) m v in
    (done.0, stops_later p.actions q.actions (Say done.0) w v (subst P reached done.1))
does_then p q w m v (Err Starved) reached done =
    let P : World → Type 0 = λ m. StopsBefore q.actions m v in
    before_later p.actions q.actions w v (subst P reached done)

-- what stands after a first part that stopped
does_stop : {A B : Type 0} (p : Part A) (next : A → Part B) (w v : World) (why : Why) → Does p w v (Err why) → Does (joined p.actions p.result next) w v (Err why)
does_stop p next w v (Refused why) done =
    let q : joined p.actions p.result next ≡ record { actions = p.actions; result = Err why } = ap (λ r. joined p.actions r next) done.gives in
    record { gives = ap (λ q. q.result) q; all_done = done.all_done ∙ sym (ap (λ q. done_all q.actions w) q) }
does_stop p next w v (Unread name) done = in_part p.result
  where
    in_part : (r : Result _ Refusal) → StopsAt (joined p.actions r next).actions (Ask name) w v
    in_part (Err why) = done
    in_part (Ok a) = stops_longer p.actions (next a).actions (Ask name) w v done
does_stop p next w v (Unwritten name) done = (done.0, in_part p.result)
  where
    in_part : (r : Result _ Refusal) → StopsAt (joined p.actions r next).actions (Write name done.0) w v
    in_part (Err why) = done.1
    in_part (Ok a) = stops_longer p.actions (next a).actions (Write name done.0) w v done.1
does_stop p next w v Unsaid done = (done.0, in_part p.result)
  where
    in_part : (r : Result _ Refusal) → StopsAt (joined p.actions r next).actions (Say done.0) w v
    in_part (Err why) = done.1
    in_part (Ok a) = stops_longer p.actions (next a).actions (Say done.0) w v done.1
does_stop p next w v Starved done = in_part p.result
  where
    in_part : (r : Result _ Refusal) → StopsBefore (joined p.actions r next).actions w v
    in_part (Err why) = done
    in_part (Ok a) = before_longer p.actions (next a).actions w v done

-- counts that rose after counts that stayed
rises_then : {B : Type 0} (first mid_tells : Bool) (before mid now : Faults) (r : Result B Why) → mid_tells ≡ first → mid ≡ before → Rises mid_tells mid now r →
    Rises first before now r
rises_then first mid_tells before mid now r told calm rises =
    let P : Bool → Type 0 = λ t. Rises t before now r in
    let Q : Faults → Type 0 = λ f. Rises mid_tells f now r in
    subst P told (subst Q calm rises)

-- a first task was met and gave a value, and the next was met from there: so the two are met
pub meets_then : {A B : Type 0} (t : Task A) (next : A → Task B) (a : A) (r : Result B Why) (before mid now : Seen)
    → Meets t before mid (Ok a) → Meets (next a) mid now r → Meets (then_task t next) before now r
meets_then t next a r before mid now first second =
    record {
      tells = second.tells ∙ first.tells;
      faults = rises_then before.tells mid.tells before.faults mid.faults now.faults r first.tells first.faults second.faults;
      does = λ told.
          let P : Bool → Type 0 = λ t. IsTrue t in
          let files = before.world.files in
          let done = first.does told in
          let same : mid.world.files ≡ changed_all (t files).actions files = ap (λ (w : World). w.files) done.all_done ∙ files_done (t files).actions before.world in
          let Q : Files → Type 0 = λ f. Does (next a f) mid.world now.world r in
          let second_done = subst Q same (second.does (subst P (sym first.tells) told)) in
          let whole = does_then (t files) (next a (changed_all (t files).actions files)) before.world mid.world now.world r done.all_done second_done in
          let S : Part _ → Type 0 = λ p. Does p before.world now.world r in
          subst S (sym (follows (t files).actions (t files).result (λ a. next a (changed_all (t files).actions files)) a done.gives)) whole;
    }

-- a stop has no value, so the counts that rose by it are those of any task
stop_rises : {A B : Type 0} (t : Task A) (next : A → Task B) (tells : Bool) (before now : Faults) (why : Why)
    → Rises {A = A} tells before now (Err why) → Rises {A = B} tells before now (Err why)
stop_rises t next tells before now (Refused why) rises = rises
stop_rises t next tells before now (Unread name) rises = rises
stop_rises t next tells before now (Unwritten name) rises = rises
stop_rises t next tells before now Unsaid rises = rises
stop_rises t next tells before now Starved rises = rises

-- a first task stopped: so the two stopped
pub meets_stop : {A B : Type 0} (t : Task A) (next : A → Task B) (why : Why) (before now : Seen)
    → Meets t before now (Err why) → Meets (then_task t next) before now (Err why)
meets_stop t next why before now first =
    record {
      tells = first.tells;
      faults = stop_rises t next before.tells before.faults now.faults why first.faults;
      does = λ told.
          let files = before.world.files in
          does_stop (t files) (λ a. next a (changed_all (t files).actions files)) before.world now.world why (first.does told);
    }

-- memory ran out before anything was done
pub meets_starved : {A : Type 0} (t : Task A) (now : Seen) → Meets t now now (Err Starved)
meets_starved t now = record { tells = refl; faults = refl; does = λ told. record { whole = []; later = (t now.world.files).actions; split = refl; same = refl } }

-- a value or a refusal is given as it is, without an action
pub meets_given : {A : Type 0} (r : Result A Refusal) (a : A) (now : Seen) → r ≡ Ok a → Meets (give r) now now (Ok a)
meets_given r a now is = record { tells = refl; faults = refl; does = λ told. record { gives = is; all_done = refl } }

pub meets_refused : {A : Type 0} (r : Result A Refusal) (why : Refusal) (now : Seen) → r ≡ Err why → Meets (give r) now now (Err (Refused why))
meets_refused r why now is = record { tells = refl; faults = refl; does = λ told. record { gives = is; all_done = refl } }
