-- What the segments of such lists are, as statements.
use Rattle.std.specs.Prelude.{ℕ, ◌≤◌, ℤ, List, length}
use Rattle.std.specs.List.{All}
use Rattle.chain_terms.specs.Cycles.{cycles}
use Rattle.face_loops.specs.Segments.{IsOneToOne}
use Rattle.face_loops.specs.Standings.{AreEven, NoneExchanged, StandOnce, segments_of}

-- each vertex that occurs starts one and ends one (the lists are named by numbers here; the lemma is for any names)
abbrev pub SegmentsAreOneToOne : Type 0
SegmentsAreOneToOne = (stand key : ℕ → ℕ → ℤ) (n : ℕ) (xs : List ℕ) → AreEven stand n xs → StandOnce stand n xs → IsOneToOne (segments_of stand key n xs)

-- so they form loops, and where none are exchanged each has three vertices or more
abbrev pub LoopsAreLong : Type 0
LoopsAreLong = (stand key : ℕ → ℕ → ℤ) (n : ℕ) (xs : List ℕ) → AreEven stand n xs → StandOnce stand n xs →
    NoneExchanged stand n xs → All (λ loop. 3 ≤ length loop) (cycles (segments_of stand key n xs))
