use Rattle.std.proofs.Common.{◌≡◌, ◌<◌, ◌≤◌, length}
use Rattle.std.specs.List.{All}
use Rattle.text_terms.specs.FirstFault.{each_read}
use Rattle.format_terms.specs.ObjFaces.{item_vertex}
use Rattle.obj_text.specs.Items.{read_after}
use Rattle.obj_text.proofs.items.read_vertices.Given as goal

-- the words that are left decide, after the vertices so far, which are three or more
abbrev pub invariant-loop-item : goal.invariant-loop-item
invariant-loop-item l = record {
  read : each_read (item_vertex l.count) l.fn.words ≡ read_after l.vertices.items (each_read (item_vertex l.count) l.item-iterator);
  words : 3 ≤ length l.fn.words;
  vertices : 3 ≤ length l.vertices.items;
  below : All (λ v. v < l.count) l.vertices.items;
}
