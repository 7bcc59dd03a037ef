-- Each vertex that occurs in the segments of lists starts one and ends one.
use Rattle.std.proofs.Common.{◌≡◌, ℕ, ◌<◌, ◌≤◌, inl, inr, ◌==◌, ℤ, pos, List, length, int_lt, arith, ◌∙◌}
use Rattle.std.proofs.lemmas.Bool.{cases_lt}
use Rattle.std.proofs.lemmas.List.Elements.{All-weaker}
use Rattle.chain_terms.specs.Chains.{one_if}
use Rattle.chain_terms.specs.Cycles.{into, out}
use Rattle.face_loops.specs.Segments.{IsOneToOne}
use Rattle.face_loops.specs.Standings.{AreEven, StandOnce, end_count, ends_in, segments_in, segments_of, start_count, starts_in}
use Rattle.face_loops.proofs.Counting.{count_lists, count_lists_none, pairs_into, pairs_out, passing_none, passing_times}

module _ {X : Type 0} (stand key : X → ℕ → ℤ) (n : ℕ) (xs : List X) (even : AreEven stand n xs) where
  -- how often a number below n starts and ends a segment
  pub record OccursAs (v : ℕ) : Type 0 where
    pub outs : out (segments_of stand key n xs) v ≡ start_count stand xs v
    pub intos : into (segments_of stand key n xs) v ≡ end_count stand xs v

  pub occurs : (v : ℕ) → v < n → OccursAs v
  occurs v below = record {
    outs = count_lists (λ e. e.0 == v) (segments_in stand key n) (λ x. int_lt (pos 0) (stand x v)) xs
        (All-weaker (λ x. length (starts_in stand n x) ≡ length (ends_in stand n x)) (λ x. out (segments_in stand key n x) v ≡ one_if (int_lt (pos 0) (stand x v)))
        (λ x e. pairs_out (key x) (starts_in stand n x) (ends_in stand n x) e v ∙ passing_times (λ u. int_lt (pos 0) (stand x u)) n v below) xs even);
    intos = count_lists (λ e. e.1 == v) (segments_in stand key n) (λ x. int_lt (stand x v) (pos 0)) xs
        (All-weaker (λ x. length (starts_in stand n x) ≡ length (ends_in stand n x)) (λ x. into (segments_in stand key n x) v ≡ one_if (int_lt (stand x v) (pos 0)))
        (λ x e. pairs_into (key x) (starts_in stand n x) (ends_in stand n x) e v ∙ passing_times (λ u. int_lt (stand x u) (pos 0)) n v below) xs even);
  }

  -- one from n on does neither
  pub record Absent (v : ℕ) : Type 0 where
    pub outs : out (segments_of stand key n xs) v ≡ 0
    pub intos : into (segments_of stand key n xs) v ≡ 0

  pub absent : (v : ℕ) → n ≤ v → Absent v
  absent v past = record {
    outs = count_lists_none (λ e. e.0 == v) (segments_in stand key n) xs
        (All-weaker (λ x. length (starts_in stand n x) ≡ length (ends_in stand n x)) (λ x. out (segments_in stand key n x) v ≡ 0)
        (λ x e. pairs_out (key x) (starts_in stand n x) (ends_in stand n x) e v ∙ passing_none (λ u. int_lt (pos 0) (stand x u)) n v past) xs even);
    intos = count_lists_none (λ e. e.1 == v) (segments_in stand key n) xs
        (All-weaker (λ x. length (starts_in stand n x) ≡ length (ends_in stand n x)) (λ x. into (segments_in stand key n x) v ≡ 0)
        (λ x e. pairs_into (key x) (starts_in stand n x) (ends_in stand n x) e v ∙ passing_none (λ u. int_lt (stand x u) (pos 0)) n v past) xs even);
  }

  record Once (v : ℕ) : Type 0 where
    balanced : out (segments_of stand key n xs) v ≡ into (segments_of stand key n xs) v
    single : out (segments_of stand key n xs) v ≤ 1

  once_at : StandOnce stand n xs → (v : ℕ) → Once v
  once_at once v = elim (cases_lt v n) as (λ _. Once v) [
    | inl l ↦ let o = occurs v l in record { balanced = omega (arith, o.outs, o.intos, once.even v l); single = omega (arith, o.outs, once.few v l) }
    | inr m ↦ let o = absent v m in record { balanced = omega (arith, o.outs, o.intos); single = omega (arith, o.outs) }
  ]

  pub one_to_one : StandOnce stand n xs → IsOneToOne (segments_of stand key n xs)
  one_to_one once = record { balanced = λ v. (once_at once v).balanced; once = λ v. (once_at once v).single }
