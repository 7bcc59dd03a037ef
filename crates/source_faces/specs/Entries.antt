-- The entries of the lists of source faces.
use Rattle.std.specs.Prelude.{ℕ, suc, ◌+◌, List, [], ◌∷◌, Bool, not, cond, ◌==◌, map, drop}
use Rattle.chain_terms.specs.Sums.{up_from}
use Rattle.mb_base.specs.declared.results.Entry.{Entry}
use Rattle.source_faces.specs.declared.lists.runs.CopyRange.{CopyRange}
use Rattle.source_faces.specs.declared.lists.stands.Stand.{Stand}

-- a vertex's copies as entries, at the start of a half-edge or at its end
abbrev pub run_entries : CopyRange → Bool → List Entry
run_entries r at_start = map (λ v. record { vertex = v; start = cond at_start (not r.negative) r.negative }) (up_from r.first r.count)

-- the entry of a record
abbrev pub entry_of : Stand → Entry
entry_of s = record { vertex = s.copy; start = s.start }

-- how many records from the front are of this list
abbrev pub list_count : List Stand → ℕ → ℕ
list_count [] l = 0
list_count (s ∷ ss) l = cond (s.list == l) (suc (list_count ss l)) 0

-- where those of this list end, if they begin at that place
abbrev pub list_end : List Stand → ℕ → ℕ → ℕ
list_end ss begin l = begin + list_count (drop begin ss) l
