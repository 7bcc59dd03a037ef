-- The loops of the segments of two outlines have three vertices or more.
use Rattle.std.proofs.Common.{◌≤◌, List, length}
use Rattle.std.specs.List.{All}
use Rattle.chain_terms.specs.Cycles.{cycles}
use Rattle.face_loops.specs.Segments.{IsOneToOne}
use Rattle.face_loops.specs.Standings.{AreEven}
use Rattle.face_loops.proofs.LongLoops.{loops_are_long}
use Rattle.face_loops.proofs.OneToOne.{one_to_one}
use Rattle.outline_pair_terms.specs.Laws.{IsOfBoth}
use Rattle.outline_pair_terms.specs.Lists.{FlatCopy, flat_key, flat_lists, flat_segments, flat_standing}
use Rattle.outline_terms.specs.Outlines.{IsOutline, Outline, outline_edges}
use Rattle.outline_pair_terms.proofs.Exchange.{AreSigned, none_exchanged}
use Rattle.outline_terms.proofs.Once.{outline_once}
use Rattle.outline_pair_terms.proofs.Once.{stand_once}

-- where each list has as many starts as ends, the segments form loops, and these are long
pub outline_loops_once : (p q : Outline) (cs : List FlatCopy) → IsOutline p → IsOutline q →
    All (λ c. IsOfBoth (outline_edges p) (outline_edges q) (length p.points) (length q.points) c.origin) cs →
    AreEven (flat_standing (outline_edges p) (outline_edges q) cs) (length cs) (flat_lists (outline_edges p) (outline_edges q)) → IsOneToOne (flat_segments p q cs)
outline_loops_once p q cs ps qs known even =
    let es = outline_edges p in
    let fs = outline_edges q in
    one_to_one (flat_standing es fs cs) (flat_key p q cs) (length cs) (flat_lists es fs) even
    (stand_once es fs (length p.points) (length q.points) (outline_once p ps) (outline_once q qs) cs known)

pub outline_loops_long : (p q : Outline) (cs : List FlatCopy) → IsOutline p → IsOutline q →
    All (λ c. IsOfBoth (outline_edges p) (outline_edges q) (length p.points) (length q.points) c.origin) cs → AreSigned cs →
    AreEven (flat_standing (outline_edges p) (outline_edges q) cs) (length cs) (flat_lists (outline_edges p) (outline_edges q)) →
    All (λ loop. 3 ≤ length loop) (cycles (flat_segments p q cs))
outline_loops_long p q cs ps qs known signed even =
    let es = outline_edges p in
    let fs = outline_edges q in
    let one = outline_once p ps in
    let two = outline_once q qs in
    loops_are_long (flat_standing es fs cs) (flat_key p q cs) (length cs) (flat_lists es fs) even
    (stand_once es fs (length p.points) (length q.points) one two cs known) (none_exchanged es fs cs one.none two.none signed)
