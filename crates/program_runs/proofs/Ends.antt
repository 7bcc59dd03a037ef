-- How a command that stopped ends.
use Rattle.std.proofs.Common.{◌≡◌}
use Rattle.run_terms.specs.Meets.{Why, Refused, Unread, Unwritten, Unsaid, Starved}
use Rattle.run_terms.specs.Tasks.{Refusal, NoCommand, FaultyScript, NoFile, FaultyText, OpenEdge, FaultyStep, PastLimit}
use Rattle.play_terms.specs.Ends.{refusal_status, why_status}

refused : (why : Refusal) → refusal_status why ≡ 0 → ⊥
refused NoCommand none = cc
refused (FaultyScript script line kind) none = cc
refused (NoFile name) none = cc
refused (FaultyText name line kind) none = cc
refused (OpenEdge name from to) none = cc
refused (FaultyStep script line kind) none = cc
refused (PastLimit what seen) none = cc

-- it has another status than 0
pub not_done : (why : Why) → why_status why ≡ 0 → ⊥
not_done (Refused why) none = refused why none
not_done (Unread name) none = cc
not_done (Unwritten name) none = cc
not_done Unsaid none = cc
not_done Starved none = cc
