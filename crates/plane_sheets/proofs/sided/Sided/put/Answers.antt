use Rattle.std.proofs.Common.{◌≡◌, ◌<◌, ◌++◌, ◌∷◌, [], ℕ, List, length, set, sym, ap, subst, ◌∙◌}
use Rattle.std.specs.List.{All}
use Rattle.plane_sheets.specs.declared.side_numbers.SideNumbers.{SideNumbers}
use Rattle.plane_sheets.specs.Sided.{lists_at}
use Rattle.plane_sheets.proofs.Seated.{put_table, put_within}
use Rattle.plane_sheets.proofs.sided.Sided.put.Goals as goal

pub returns-clause-listed : goal.returns-clause-listed
returns-clause-listed c =
    let ls = c.args.self.now.lists.0 in
    let l = c.args.sides.now in
    let seats = c.args.self.now.seats.items in
    let e = c.args.edge in
    let new = c.push_list.new.self.0 in
    let whole : new ≡ ls ++ l ∷ [] = ap (λ (p : List (List SideNumbers) × List SideNumbers). p.0) c.in_ok-push_list.ensures
    ∙ ap (λ (r : List SideNumbers). ls ++ (r ++ l) ∷ []) c.requires.listed.none in
    record {
      none = ap (λ (p : List (List SideNumbers) × List SideNumbers). p.1) c.in_ok-push_list.ensures;
      within = subst (λ (s : ℕ). All (λ i. i < length new) (set seats e s)) (sym c.len-seat.ensures)
          (subst (λ (xs : List (List SideNumbers)). All (λ i. i < length xs) (set seats e (length ls))) (sym whole) (put_within ls l seats e c.requires.listed.within));
    }

pub returns-clause-table : goal.returns-clause-table
returns-clause-table c =
    let ls = c.args.self.now.lists.0 in
    let l = c.args.sides.now in
    let seats = c.args.self.now.seats.items in
    let e = c.args.edge in
    let new = c.push_list.new.self.0 in
    let whole : new ≡ ls ++ l ∷ [] = ap (λ (p : List (List SideNumbers) × List SideNumbers). p.0) c.in_ok-push_list.ensures
    ∙ ap (λ (r : List SideNumbers). ls ++ (r ++ l) ∷ []) c.requires.listed.none in
    ap (λ (s : ℕ). lists_at new (set seats e s)) c.len-seat.ensures ∙ ap (λ (xs : List (List SideNumbers)). lists_at xs (set seats e (length ls))) whole
    ∙ put_table ls l seats e c.requires.listed.within
