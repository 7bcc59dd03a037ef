use Rattle.std.proofs.Common.{◌<◌, ◌-◌, ◌∙◌, ap, arith, drop, length, take}
use Rattle.plane_chains.proofs.Pieces.{many, part_read, piece_read}
use Rattle.plane_chains.proofs.lists.Lists.list.Goals as goal

pub begin-requires : goal.begin-requires
begin-requires g c =
    omega (
      arith,
      many c.self.inside.ends.items c.self.inside.items.items c.args.self.now c.self.view_is,
      c.requires,
      c.deref-2.ensures.len,
      c.self.inside.ends.ok.0,
    )

pub index-requires : goal.index-requires
index-requires g c = omega (arith, many c.self.inside.ends.items c.self.inside.items.items c.args.self.now c.self.view_is, c.requires, c.self.inside.ends.ok.0)

pub slice_bounds-result-count : goal.slice_bounds-result-count
slice_bounds-result-count g c =
    let low : c.args.i < length c.self.inside.ends.items = omega (arith, many c.self.inside.ends.items c.self.inside.items.items c.args.self.now c.self.view_is, c.requires) in
    let p = part_read c.self.inside.ends.items c.self.inside.items.items c.args.self.now c.self.view_is c.args.i c.begin.result c.index.result.now c.deref-2.result.now
    c.self.invariant low c.deref-2.ensures.value c.begin.ensures c.index.ensures in
    omega (arith, p.order)

pub slice_bounds-result-start : goal.slice_bounds-result-start
slice_bounds-result-start g c =
    let low : c.args.i < length c.self.inside.ends.items = omega (arith, many c.self.inside.ends.items c.self.inside.items.items c.args.self.now c.self.view_is, c.requires) in
    let p = part_read c.self.inside.ends.items c.self.inside.items.items c.args.self.now c.self.view_is c.args.i c.begin.result c.index.result.now c.deref-2.result.now
    c.self.invariant low c.deref-2.ensures.value c.begin.ensures c.index.ensures in
    omega (arith, p.order)

pub slice_bounds-result-end : goal.slice_bounds-result-end
slice_bounds-result-end g c =
    let low : c.args.i < length c.self.inside.ends.items = omega (arith, many c.self.inside.ends.items c.self.inside.items.items c.args.self.now c.self.view_is, c.requires) in
    let p = part_read c.self.inside.ends.items c.self.inside.items.items c.args.self.now c.self.view_is c.args.i c.begin.result c.index.result.now c.deref-2.result.now
    c.self.invariant low c.deref-2.ensures.value c.begin.ensures c.index.ensures in
    omega (arith, p.within, c.deref.ensures.len, c.self.inside.items.ok.0)

pub offset_bounds-deref-begin : goal.offset_bounds-deref-begin
offset_bounds-deref-begin g c =
    let low : c.args.i < length c.self.inside.ends.items = omega (arith, many c.self.inside.ends.items c.self.inside.items.items c.args.self.now c.self.view_is, c.requires) in
    let p = part_read c.self.inside.ends.items c.self.inside.items.items c.args.self.now c.self.view_is c.args.i c.begin.result c.index.result.now c.deref-2.result.now
    c.self.invariant low c.deref-2.ensures.value c.begin.ensures c.index.ensures in
    omega (arith, p.order, p.within, c.deref.ensures.len, c.self.inside.items.ok.0)

pub returns : goal.returns
returns g c =
    let low : c.args.i < length c.self.inside.ends.items = omega (arith, many c.self.inside.ends.items c.self.inside.items.items c.args.self.now c.self.view_is, c.requires) in
    let p = piece_read c.self.inside.ends.items c.self.inside.items.items c.args.self.now c.self.view_is c.args.i c.begin.result c.index.result.now c.deref-2.result.now
    low c.deref-2.ensures.value c.begin.ensures c.index.ensures in
    ap (λ xs. take (c.index.result.now - c.begin.result) (drop c.begin.result xs)) c.deref.ensures.value ∙ p
