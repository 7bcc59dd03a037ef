-- Entries of a list that are added one by one, and what holds of all of them.
use Rattle.std.proofs.Common.{◌≡◌, ℕ, not, cond, Bool, true, false, List, [], ◌∷◌, ◌++◌, map, refl, ap, subst, ◌∙◌}
use Rattle.std.specs.List.{All, filter}
use Rattle.std.proofs.lemmas.List.{map-append}
use Rattle.std.proofs.lemmas.List.Elements.{All-cons, All-head, All-nil, All-tail, filter-append}
use Rattle.mb_base.specs.declared.results.Entry.{Entry}
use Rattle.mb_base.specs.declared.results.Segment.{Segment}
use Rattle.edge_pairing.specs.Entries.{chosen, ends_of, is_chosen, starts_of}
use Rattle.face_loops.specs.Segments.{edge_of, edges_of}

-- an entry of a vertex
abbrev pub entry : ℕ → Bool → Entry
entry v start = record { vertex = v; start = start }

-- one more
added : (side : Bool) (es : List Entry) (e : Entry) → chosen side (es ++ e ∷ []) ≡ chosen side es ++ chosen side (e ∷ [])
added side es e = ap (map (λ (x : Entry). x.vertex)) (filter-append (is_chosen side) es (e ∷ []))
    ∙ map-append (λ (x : Entry). x.vertex) (filter (is_chosen side) es) (filter (is_chosen side) (e ∷ []))

-- a start more, and the ends stay
pub more_start : (es : List Entry) (v : ℕ) → starts_of (es ++ entry v true ∷ []) ≡ starts_of es ++ v ∷ []
more_start es v = added true es (entry v true)

pub same_ends : (es : List Entry) (v : ℕ) → ends_of (es ++ entry v true ∷ []) ≡ ends_of es ++ []
same_ends es v = added false es (entry v true)

-- an end more, and the starts stay
pub more_end : (es : List Entry) (v : ℕ) → ends_of (es ++ entry v false ∷ []) ≡ ends_of es ++ v ∷ []
more_end es v = added false es (entry v false)

pub same_starts : (es : List Entry) (v : ℕ) → starts_of (es ++ entry v false ∷ []) ≡ starts_of es ++ []
same_starts es v = added true es (entry v false)

-- what holds of the vertices of starts and of ends holds of those of all entries
pub all_entries : (P : ℕ → Type 0) (es : List Entry) → All P (starts_of es) → All P (ends_of es) → All (λ e. P e.vertex) es
all_entries P [] starts ends = All-nil (λ (e : Entry). P e.vertex)
all_entries P (e ∷ es) starts ends = by e.start refl (λ s f. all_entries P es s f) where
  by : (b : Bool) → e.start ≡ b → (All P (starts_of es) → All P (ends_of es) → All (λ x. P x.vertex) es) → All (λ x. P x.vertex) (e ∷ es)
  by true is others =
      let here = subst (λ t. All P (map (λ (x : Entry). x.vertex) (cond t (e ∷ filter (is_chosen true) es) (filter (is_chosen true) es)))) is starts in
      let rest = subst (λ t. All P (map (λ (x : Entry). x.vertex) (cond (not t) (e ∷ filter (is_chosen false) es) (filter (is_chosen false) es)))) is ends in
      All-cons (λ (x : Entry). P x.vertex) e es (All-head P e.vertex (starts_of es) here) (others (All-tail P e.vertex (starts_of es) here) rest)
  by false is others =
      let rest = subst (λ t. All P (map (λ (x : Entry). x.vertex) (cond t (e ∷ filter (is_chosen true) es) (filter (is_chosen true) es)))) is starts in
      let here = subst (λ t. All P (map (λ (x : Entry). x.vertex) (cond (not t) (e ∷ filter (is_chosen false) es) (filter (is_chosen false) es)))) is ends in
      All-cons (λ (x : Entry). P x.vertex) e es (All-head P e.vertex (ends_of es) here) (others rest (All-tail P e.vertex (ends_of es) here))

-- the edges of segments and of others behind them
pub edges_more : (new old part : List Segment) (es : List (ℕ × ℕ)) → new ≡ old ++ part → edges_of part ≡ es → edges_of new ≡ edges_of old ++ es
edges_more new old part es e h = ap edges_of e ∙ map-append edge_of old part ∙ ap (λ l. edges_of old ++ l) h
