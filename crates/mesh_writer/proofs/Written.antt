-- Texts written one after the other, with what a sink keeps.
use Rattle.std.proofs.Common.{◌≡◌, ℕ, ◌+◌, ◌<◌, List, [], ◌++◌, ◌∙◌, refl, subst, take, drop, get_or, length, Result, Ok, Err, OnOk, OnErr, rules}
use Rattle.std.specs.List.{flat_map}
use Rattle.run_terms.specs.Files.{Bytes, Counts}
use Rattle.mb_outside.specs.Sinks.{Kept}
use Rattle.mb_outside.specs.declared.sink.Sink.{Ghosts as OfSink}
use Rattle.mesh_writer.specs.Passing.{PassedOn, StoppedOn, Wrote, Broke}
use Rattle.mesh_writer.proofs.Passing.{passed-none, passed-put, passed-page, stopped-page, passed-then, stopped-then, stopped-longer, flat_map-more, flat_map-split}

module _ {K : Type 0} (k : OfSink K) where
  -- a sink that was not touched
  pub kept-same : (s : K) → Kept k s s
  kept-same s = record { other = refl; second = refl; rest = refl; loan = refl; other_spare = refl }

  pub kept-then : (s t u : K) → Kept k s t → Kept k t u → Kept k s u
  kept-then s t u p q =
      record { other = q.other ∙ p.other; second = q.second ∙ p.second; rest = q.rest ∙ p.rest; loan = q.loan ∙ p.loan; other_spare = q.other_spare ∙ p.other_spare }

  -- nothing was written
  pub wrote-none : (held : Bytes) (s : K) → Wrote k [] (held, held) (s, s)
  wrote-none held s = record { passed = passed-none held (k.told s) (k.room s); count = refl; kept = kept-same s }

  -- one text was written after the other
  pub wrote-then : (a b h0 h1 h2 : Bytes) (s t u : K) → Wrote k a (h0, h1) (s, t) → Wrote k b (h1, h2) (t, u) → Wrote k (a ++ b) (h0, h2) (s, u)
  wrote-then a b h0 h1 h2 s t u p q = record {
    passed = passed-then a b h0 h1 h2 _ _ _ _ _ _ p.passed q.passed;
    count = q.count ∙ p.count;
    kept = kept-then s t u p.kept q.kept;
  }

  -- the sink failed in the later text
  pub broke-then : (a b h0 h1 : Bytes) (s t u : K) → Wrote k a (h0, h1) (s, t) → Broke k b h1 (t, u) → Broke k (a ++ b) h0 (s, u)
  broke-then a b h0 h1 s t u p q = record {
    stopped = stopped-then a b h0 h1 _ _ _ _ _ _ p.passed q.stopped;
    later = rw (← p.count) q.later;
    rose = rw (← p.count) q.rose;
    kept = kept-then s t u p.kept q.kept;
  }

  -- or in the first
  pub broke-longer : (a b h0 : Bytes) (s u : K) → Broke k a h0 (s, u) → Broke k (a ++ b) h0 (s, u)
  broke-longer a b h0 s u q = record { stopped = stopped-longer a b h0 _ _ _ _ q.stopped; later = q.later; rose = q.rose; kept = q.kept }

  module _ {X : Type 0} (f : X → Bytes) (xs : List X) (i : ℕ) (d x : X) (is : x ≡ get_or xs i d) (within : i < length xs) (h0 h1 : Bytes) (s t : K) where
    -- the text of one element more was written
    pub element-wrote : (h2 : Bytes) (u : K) → Wrote k (flat_map f (take i xs)) (h0, h1) (s, t) → Wrote k (f x) (h1, h2) (t, u) →
        Wrote k (flat_map f (take (i + 1) xs)) (h0, h2) (s, u)
    element-wrote h2 u p q =
        let P : Bytes → Type 0 = λ text. Wrote k text (h0, h2) (s, u) in
        subst P (flat_map-more f xs i d x is within) (wrote-then (flat_map f (take i xs)) (f x) h0 h1 h2 s t u p q)

    -- or the sink failed in it
    pub element-broke : (u : K) → Wrote k (flat_map f (take i xs)) (h0, h1) (s, t) → Broke k (f x) h1 (t, u) → Broke k (flat_map f xs) h0 (s, u)
    element-broke u p q =
        let P : Bytes → Type 0 = λ text. Broke k text h0 (s, u) in
        let more = subst P (flat_map-more f xs i d x is within) (broke-then (flat_map f (take i xs)) (f x) h0 h1 s t u p q) in
        subst P (flat_map-split f xs (i + 1)) (broke-longer (flat_map f (take (i + 1) xs)) (flat_map f (drop (i + 1) xs)) h0 s u more)

  -- a text was put on the page, which then went to the sink or stayed
  module _ {T E : Type 0} (text h0 h1 : Bytes) (s t : K) (put : h1 ≡ h0 ++ text) (kept : Kept k s t) where
    pub line-wrote : (h2 : Bytes) (r : Result T E) → OnOk r (PassedOn k [] (h1, h2) (s, t)) → Counts (k.faults s) (k.faults t) r → OnOk r (Wrote k text (h0, h2) (s, t))
    line-wrote h2 (Ok x) passed count = record {
      passed = passed-page text h0 h1 h2 _ _ _ _ _ _ (passed-put [] text h0 h0 h1 _ _ _ _ (passed-none h0 (k.told s) (k.room s)) put) passed;
      count = count.ok (search rules);
      kept = kept;
    }
    line-wrote h2 (Err e) passed count = search rules

    pub line-broke : (r : Result T E) → OnErr r (StoppedOn k [] h1 (s, t)) → Counts (k.faults s) (k.faults t) r → OnErr r (Broke k text h0 (s, t))
    line-broke (Ok x) stopped count = search rules
    line-broke (Err e) stopped count = record {
      stopped = stopped-page text h0 h1 _ _ _ _ _ _ (passed-put [] text h0 h0 h1 _ _ _ _ (passed-none h0 (k.told s) (k.room s)) put) stopped;
      later = count.later;
      rose = count.failed (search rules);
      kept = kept;
    }
