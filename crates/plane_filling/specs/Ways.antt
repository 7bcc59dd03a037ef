-- What is noted of the places to which edges lead.
use Rattle.std.specs.Prelude.{◌≡◌, ℕ, ◌<◌, ◌^◌, ℤ, List, [], ◌∷◌, Bool, true, false, not, ◌&&◌, ◌||◌, ◌==◌, if◌then◌else◌, length, get_or, set, replicate}
use Rattle.std.specs.List.{All}
use Rattle.face_plane.specs.Planes.{point_at}
use Rattle.sheet_terms.specs.Cuts.{are_in_line}
use Rattle.tidy_terms.specs.PointTriples.{same_point}
use Rattle.plane_filling.specs.declared.needless.Leads.{Leads}
use Rattle.plane_filling.specs.declared.needless.Ways.{Ways}

-- the number that stands for none
abbrev pub no_place : ℕ
no_place = 4294967295

-- no place
abbrev pub no_leads : Leads
no_leads = record { one = no_place; other = no_place; more = false }

-- one place more: none where it is there already
abbrev pub with_place : Leads → ℕ → Leads
with_place l v =
    if (l.one == v) || (l.other == v) then l
    else if l.one == no_place then record { one = v; other = l.other; more = l.more }
    else if l.other == no_place then record { one = l.one; other = v; more = l.more }
    else record { one = l.one; other = l.other; more = true }

-- a way from one place to another is noted
abbrev pub with_way : (ℕ × ℕ) → List Leads → List Leads
with_way e ls = set ls e.0 (with_place (get_or ls e.0 no_leads) e.1)

-- edges are noted, each as a way there and a way back
abbrev pub with_edges : List (ℕ × ℕ) → List Leads → List Leads
with_edges [] ls = ls
with_edges (e ∷ es) ls = with_edges es (with_way (e.1, e.0) (with_way e ls))

-- the edges between places below a number have been noted, and no other
pub record Notes (es : List (ℕ × ℕ)) (w : Ways) : Type 0 where
  pub few : length w.leads.items < 2 ^ 32
  pub below : All (λ e. (e.0 < length w.leads.items) × (e.1 < length w.leads.items)) es
  pub noted : w.leads.items ≡ with_edges es (replicate (length w.leads.items) no_leads)

-- a place is apart from two others and on a line with them
abbrev pub lies_between : List (List ℤ) → ℕ → ℕ → ℕ → Bool
lies_between points v a b =
    not (same_point (point_at points v) (point_at points a)) && not (same_point (point_at points v) (point_at points b))
    && are_in_line (point_at points v) (point_at points a) (point_at points b)

-- two places and no more are noted, and v lies between them on a line
abbrev pub lead_straight : List (List ℤ) → ℕ → Leads → Bool
lead_straight points v l = not ((l.other == no_place) || l.more) && lies_between points v l.one l.other

-- what is noted tells that a place is needless
abbrev pub is_passed : List (List ℤ) → Ways → ℕ → Bool
is_passed points w v = lead_straight points v (get_or w.leads.items v no_leads)
