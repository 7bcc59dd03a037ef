-- The entries of a half-edge's list tell how all copies stand in it.
use Rattle.std.proofs.Common.{◌≡◌, ℕ, ◌+◌, ◌<◌, inl, inr, Bool, true, false, ℤ, pos, neg_ℤ, List, ◌++◌, map, length}
use Rattle.std.proofs.Common.{get_or, refl, sym, ap, subst, ◌∙◌, arith}
use Rattle.std.specs.List.{Contains}
use Rattle.std.proofs.lemmas.Bool.{cases_eq}
use Rattle.std.proofs.lemmas.List.{map-append}
use Rattle.std.proofs.lemmas.List.Elements.{Contains-append_cases, Contains-append_left, Contains-append_right}
use Rattle.chain_terms.specs.Chains.{all_edges}
use Rattle.chain_terms.specs.Ranks.{finish, start}
use Rattle.mb_base.specs.declared.results.Entry.{Entry}
use Rattle.mb_base.specs.declared.results.Origin.{Origin}
use Rattle.mesh_terms.specs.Halves.{next_half}
use Rattle.side_terms.specs.Sides.{IsSide, Side}
use Rattle.halfedge.proofs.Edges.{next_below, next_starts}
use Rattle.halfedge.proofs.PairedBuckets.{edges_differ}
use Rattle.halfedge.proofs.Starts.{start_below}
use Rattle.side_terms.specs.Lists.{Copy, ListName, incidence, no_copy, standing}
use Rattle.source_face_terms.specs.Segments.{vertex_point}
use Rattle.source_faces.specs.declared.lists.runs.CopyRange.{CopyRange}
use Rattle.source_faces.specs.Agreement.{AreInOrder, AreRunsOf, IsRunOf, StandsAs}
use Rattle.source_faces.specs.Entries.{run_entries}
use Rattle.source_faces.specs.ListParts.{end_entries, no_run}
use Rattle.source_faces.proofs.EndEntries.{ends_rise, into_ends, of_ends}
use Rattle.source_faces.proofs.FaceRecords.{TellHits}
use Rattle.source_faces.proofs.ListKinds.{IsHalf}
use Rattle.source_faces.proofs.Rising.{Rises, rises_append}
use Rattle.source_faces.proofs.RunEntries.{run_each, run_only, side_of}
use Rattle.source_faces.proofs.Signs.{apart_at, end_at, finish_side, finishes_as, no_side, same_at, start_side, starts_as}
use Rattle.source_faces.proofs.Told.{Tell, entry}

-- a half-edge runs from one vertex of its side to another
pub record RunsBetween (side : Side) (h : ℕ) : Type 0 where
  pub from_low : start (all_edges side.triples) h < length side.corners
  pub to_low : finish (all_edges side.triples) h < length side.corners
  pub apart : start (all_edges side.triples) h ≡ finish (all_edges side.triples) h → ⊥

pub runs_between : (side : Side) → IsSide side → (h : ℕ) → h < length (all_edges side.triples) → RunsBetween side h
runs_between side known h low =
    let ts = side.triples in
    let n = length side.corners in
    let mesh = known.accepted.mesh in
    record {
      from_low = start_below n ts mesh.below h low;
      to_low = subst (λ v. v < n) (next_starts ts h low) (start_below n ts mesh.below (next_half h) (next_below ts h low));
      apart = edges_differ ts mesh.three h low;
    }

-- the runs of a side whose vertices have such origins
pub record HaveRuns (cs : List Copy) (k : ℕ) (side : Side) (origin : ℕ → Origin) (runs : List CopyRange) : Type 0 where
  pub known : IsSide side
  pub copies : AreRunsOf cs origin side runs
  pub order : AreInOrder k runs

-- what is known of one of two sides: the copies, and the runs of its vertices, which have such origins
pub record KnownSide : Type 0 where
  pub p : Side
  pub q : Side
  pub side : Side
  pub origin : ℕ → Origin
  pub copies : List Copy
  pub later : ℕ
  pub runs : List CopyRange
  pub have : HaveRuns copies later side origin runs

-- what is known of the list of a half-edge: the copies at its ends by their runs, and those of hits by entries
pub record KnownHalf : Type 0 where
  pub of : KnownSide
  pub half : ℕ
  pub name : ListName
  pub hits : List Entry
  pub ends : RunsBetween of.side half
  pub is_half : IsHalf of.p of.q of.side of.origin half name
  pub told : TellHits (all_edges of.p.triples) (all_edges of.q.triples) of.copies of.later name hits

-- where it starts and ends
abbrev pub from_of : KnownHalf → ℕ
from_of k = start (all_edges k.of.side.triples) k.half

abbrev pub to_of : KnownHalf → ℕ
to_of k = finish (all_edges k.of.side.triples) k.half

-- how an origin stands in it, and how a copy does
abbrev weight : KnownHalf → Origin → ℤ
weight k o = incidence (all_edges k.of.p.triples) (all_edges k.of.q.triples) k.name o

abbrev pub number : KnownHalf → ℕ → ℤ
number k v = standing (all_edges k.of.p.triples) (all_edges k.of.q.triples) k.name (get_or k.of.copies v no_copy)

-- its entries
abbrev pub entries_of : KnownHalf → List Entry
entries_of k = end_entries k.of.runs (from_of k) (to_of k) ++ k.hits

-- the copies at the start, those at the end, and those of any other vertex of the side
at_from : (k : KnownHalf) (o : Origin) → o ≡ k.of.origin (from_of k) → weight k o ≡ pos 1
at_from k o e =
    let a = from_of k in
    let b = to_of k in
    ap (weight k) e ∙ k.is_half.of_vertex a
    ∙ end_at (all_edges k.of.side.triples) k.half a (pos 1) (pos 0) (same_at a a refl) (apart_at b a (λ s. k.ends.apart (sym s)))

at_to : (k : KnownHalf) (o : Origin) → o ≡ k.of.origin (to_of k) → weight k o ≡ neg_ℤ (pos 1)
at_to k o e =
    let a = from_of k in
    let b = to_of k in
    ap (weight k) e ∙ k.is_half.of_vertex b
    ∙ end_at (all_edges k.of.side.triples) k.half b (pos 0) (pos 1) (apart_at a b k.ends.apart) (same_at b b refl)

elsewhere : (k : KnownHalf) (o : Origin) (w : ℕ) → o ≡ k.of.origin w → (from_of k ≡ w → ⊥) → (to_of k ≡ w → ⊥) → weight k o ≡ pos 0
elsewhere k o w e d f =
    ap (weight k) e ∙ k.is_half.of_vertex w
    ∙ end_at (all_edges k.of.side.triples) k.half w (pos 0) (pos 0) (apart_at (from_of k) w d) (apart_at (to_of k) w f)

-- the run of a vertex
run_of : (k : KnownHalf) (v : ℕ) → v < length k.of.side.corners →
    IsRunOf k.of.copies (k.of.origin v) (vertex_point k.of.side v) (get_or k.of.runs v no_run)
run_of k v low = k.of.have.copies.each v low

-- a copy of a vertex is in the entries of its run
end_each : (k : KnownHalf) (begins : Bool) (a v : ℕ) (at_start : Bool) → a < length k.of.side.corners → v < length k.of.copies →
    (get_or k.of.copies v no_copy).origin ≡ k.of.origin a →
    at_start ≡ side_of begins (get_or k.of.copies v no_copy).negative → Contains (run_entries (get_or k.of.runs a no_run) begins) (entry v at_start)
end_each k begins a v at_start inside low here is =
    subst (λ t. Contains (run_entries (get_or k.of.runs a no_run) begins) (entry v t)) (sym is)
    (run_each k.of.copies (k.of.origin a) (vertex_point k.of.side a) (get_or k.of.runs a no_run) (run_of k a inside) begins v low here)

-- a copy of the vertex at which it starts is an entry, and so is one of that at which it ends
from_each : (k : KnownHalf) (v : ℕ) (at_start : Bool) → v < length k.of.copies →
    (get_or k.of.copies v no_copy).origin ≡ k.of.origin (from_of k) → StandsAs at_start (number k v) →
    Contains (end_entries k.of.runs (from_of k) (to_of k)) (entry v at_start)
from_each k v at_start low here so =
    let c = get_or k.of.copies v no_copy in
    let is = start_side c.negative at_start (weight k c.origin) (at_from k c.origin here) so in
    into_ends k.of.runs (from_of k) (to_of k) (entry v at_start) (inl (end_each k true (from_of k) v at_start k.ends.from_low low here is))

to_each : (k : KnownHalf) (v : ℕ) (at_start : Bool) → v < length k.of.copies →
    (get_or k.of.copies v no_copy).origin ≡ k.of.origin (to_of k) → StandsAs at_start (number k v) →
    Contains (end_entries k.of.runs (from_of k) (to_of k)) (entry v at_start)
to_each k v at_start low here so =
    let c = get_or k.of.copies v no_copy in
    let is = finish_side c.negative at_start (weight k c.origin) (at_to k c.origin here) so in
    into_ends k.of.runs (from_of k) (to_of k) (entry v at_start) (inr (end_each k false (to_of k) v at_start k.ends.to_low low here is))

-- each copy that stands in the list is an entry
half_each : (k : KnownHalf) (v : ℕ) (at_start : Bool) → v < length k.of.copies → StandsAs at_start (number k v) →
    Contains (entries_of k) (entry v at_start)
half_each k v at_start low so =
    let c = get_or k.of.copies v no_copy in
    let ends = end_entries k.of.runs (from_of k) (to_of k) in
    let found : Contains ends (entry v at_start) → Contains (entries_of k) (entry v at_start) = Contains-append_left ends k.hits (entry v at_start) in
    elim (k.is_half.kinds c.origin) as (λ _. Contains (entries_of k) (entry v at_start)) [
      | inr (inl hit) ↦ Contains-append_right ends k.hits (entry v at_start) (k.told.each v at_start low hit so)
      | inr (inr none) ↦ absurd (no_side c.negative at_start (weight k c.origin) none so)
      | inl (w, e) ↦ elim (cases_eq (from_of k) w) as (λ _. Contains (entries_of k) (entry v at_start)) [
        | inl same ↦ found (from_each k v at_start low (e ∙ ap k.of.origin (sym same)) so)
        | inr d ↦ elim (cases_eq (to_of k) w) as (λ _. Contains (entries_of k) (entry v at_start)) [
          | inl same ↦ found (to_each k v at_start low (e ∙ ap k.of.origin (sym same)) so)
          | inr f ↦ absurd (no_side c.negative at_start (weight k c.origin) (elsewhere k c.origin w e d f) so)
        ]
      ]
    ]

-- and there are no others
half_only : (k : KnownHalf) (v : ℕ) (at_start : Bool) → Contains (entries_of k) (entry v at_start) →
    (v < length k.of.copies) × StandsAs at_start (number k v)
half_only k v at_start listed =
    let a = from_of k in
    let b = to_of k in
    let c = get_or k.of.copies v no_copy in
    let Fact : Bool → Type 0 = λ t. StandsAs t (number k v) in
    elim (Contains-append_cases (end_entries k.of.runs a b) k.hits (entry v at_start) listed) as (λ _. (v < length k.of.copies) × Fact at_start) [
      | inr hit ↦ k.told.only v at_start hit
      | inl end ↦ elim (of_ends k.of.runs a b (entry v at_start) end) as (λ _. (v < length k.of.copies) × Fact at_start) [
        | inl from ↦
            let r =
            run_only k.of.copies (k.of.origin a) (vertex_point k.of.side a) (get_or k.of.runs a no_run) (run_of k a k.ends.from_low)
            true v at_start from in
            (r.below, subst Fact (sym r.stands) (starts_as c.negative (weight k c.origin) (at_from k c.origin r.origin)))
        | inr to ↦
            let r =
            run_only k.of.copies (k.of.origin b) (vertex_point k.of.side b) (get_or k.of.runs b no_run) (run_of k b k.ends.to_low) false
            v at_start to in
            (r.below, subst Fact (sym r.stands) (finishes_as c.negative (weight k c.origin) (at_to k c.origin r.origin)))
      ]
    ]

-- so the list is told
pub half_tells : (k : KnownHalf) → Tell (length k.of.copies) (number k) (entries_of k)
half_tells k =
    let ends = end_entries k.of.runs (from_of k) (to_of k) in
    let vertex : Entry → ℕ = λ e. e.vertex in
    let long = k.of.have.copies.long in
    let top = k.of.later + length k.of.copies in
    let first =
    ends_rise k.of.later k.of.runs k.of.have.order (from_of k) (to_of k) (omega (arith, long, k.ends.from_low))
    (omega (arith, long, k.ends.to_low)) k.ends.apart in
    record {
      end = top;
      rise = subst (Rises 0 top) (sym (map-append vertex ends k.hits))
          (rises_append 0 k.of.later top (map vertex ends) (map vertex k.hits) first k.told.rise);
      each = half_each k;
      only = half_only k;
    }
