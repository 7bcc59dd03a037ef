use Rattle.std.proofs.Common.{◌≡◌, ◌<◌, ◌++◌, ℕ, Bool, List, true, false, length, get_or, arith, refl, subst, sym, ◌∙◌}
use Rattle.std.specs.List.{flat_map}
use Rattle.std.proofs.lemmas.Bool.{MatchBool-at_false, MatchBool-at_true}
use Rattle.std.proofs.lemmas.List.{get_or-map, get_or_default, length-map}
use Rattle.chain_laws.proofs.Places.{get_or-up_from, length-up_from}
use Rattle.chain_terms.specs.Sums.{upto}
use Rattle.mesh_terms.specs.Meshes.{Triple, triple_of, triples_of}
use Rattle.plane_filling.specs.declared.filling.Filled.{Filled}
use Rattle.plane_filling.specs.Pieces.{Adds, AreFilled, Piece, alone_pieces, first_keys, forced_of, pieces_at, region_pieces, turns_at}
use Rattle.plane_filling.proofs.Added.{adds_both, filled_more, forced_append}
use Rattle.plane_filling.proofs.Fillable.{forced_in, more_upto}
use Rattle.plane_filling.proofs.filling.fill_all.Goals as goal

-- a triangle that is alone is not forced
none_forced : (alone : Bool) (n : ℕ) (t : Triple) → forced_of (alone_pieces alone n t) ≡ 0
none_forced true n t = refl
none_forced false n t = refl

-- what was read at a place
first_at : (alone : List Bool) (ts : List (List ℕ)) (n : ℕ) (d : Bool) (e : List ℕ) (old mid : Filled) → n < length alone → n < length ts →
    Adds (alone_pieces (get_or alone n d) n (triple_of (get_or ts n e))) old mid → Adds (alone_pieces (get_or alone n false) n (get_or (triples_of ts) n (0, 0, 0))) old mid
first_at alone ts n d e old mid low high adds =
    let mark = get_or_default alone n d false low in
    let corner = sym (get_or-map triple_of ts n e (0, 0, 0) high) in
    subst (λ (x : Bool × Triple). Adds (alone_pieces x.0 n x.1) old mid) (λ j. (mark j, corner j)) adds

-- pieces of one place added
place_added : (b : Bool) (n : ℕ) (t : Triple) (qs : List Piece) (old mid new : Filled) → Adds (alone_pieces b n t) old mid → Adds qs mid new → forced_of qs ≡ 0 →
    (forced_of (alone_pieces b n t ++ qs) ≡ 0) × Adds (alone_pieces b n t ++ qs) old new
place_added b n t qs old mid new h k none =
    (omega (arith, forced_append (alone_pieces b n t) qs, none_forced b n t, none), adds_both (alone_pieces b n t) qs old mid new h k)

pub loop-number-preserved : goal.loop-number-preserved
loop-number-preserved c =
    let ts = c.args.triples.now in
    let alone = c.args.alone.now in
    let r = c.args.regions.now in
    let n = c.loop-number.number in
    let F = pieces_at c.args.points.now (triples_of ts) alone r c.args.ways.now in
    let qs = region_pieces c.args.points.now r c.args.ways.now (turns_at (first_keys r.all.items) n) in
    let low : n < length ts = c.loop-number-test.true in
    let old = c.loop-number.filled in
    let mid = c.push_alone.new.self in
    let new = c.fill_at.new.filled in
    let done = MatchBool-at_true _ _ c.if-not-branch.false c.in_ok-fill_at.ensures in
    let first = first_at alone ts n _ _ old mid (omega (arith, low, c.requires.marks)) low c.in_ok-push_alone.ensures in
    let both = place_added (get_or alone n false) n (get_or (triples_of ts) n (0, 0, 0)) qs old mid new first done.1 done.0 in
    subst (λ (ps : List Piece). AreFilled ps new) (sym (more_upto F n)) (filled_more (flat_map F (upto n)) (F n) old new c.loop-number.invariant both.0 both.1)

pub returns-then-not-branch : goal.returns-then-not-branch
returns-then-not-branch c =
    let ts = c.args.triples.now in
    let alone = c.args.alone.now in
    let r = c.args.regions.now in
    let n = c.loop-number.number in
    let m = length (triples_of ts) in
    let F = pieces_at c.args.points.now (triples_of ts) alone r c.args.ways.now in
    let qs = region_pieces c.args.points.now r c.args.ways.now (turns_at (first_keys r.all.items) n) in
    let low : n < m = omega (arith, c.loop-number-test.true, length-map ts triple_of) in
    let some : 0 < forced_of qs = MatchBool-at_false _ _ c.if-not-branch.true c.in_ok-fill_at.ensures in
    let ps = alone_pieces (get_or alone n false) n (get_or (triples_of ts) n (0, 0, 0)) in
    let here : 0 < forced_of (F n) = subst (λ z. 0 < z) (sym (forced_append ps qs)) (omega (arith, some)) in
    let at : get_or (upto m) n 0 ≡ n = get_or-up_from 0 m n 0 low ∙ omega arith in
    forced_in F (upto m) n 0 (omega (arith, low, length-up_from 0 m)) (subst (λ k. 0 < forced_of (F k)) (sym at) here)
