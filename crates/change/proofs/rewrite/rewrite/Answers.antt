-- `change::rewrite::rewrite` meets its contract. Assumes nothing.
use native.Mathlib.Omega.{arith}
use Rattle.change.proofs.RewriteLaws.{place_inside, can_resize, reserved_small, can_move, moved_count, moved_rewrites, kept_room, kept_count, kept_rewrites}
use Rattle.change.proofs.rewrite.rewrite.Goals as goal
use Rattle.change.proofs.rewrite.rewrite.Goals.{then-w, else-w}

pub source_words-source-requires : goal.source_words-source-requires
source_words-source-requires c = let can = c.requires.can in (can.lent_size, place_inside can)

pub resize-block-requires : goal.resize-block-requires
resize-block-requires c = can_resize c.requires.can

pub overflow_mul-reserved : goal.overflow_mul-reserved
overflow_mul-reserved c = omega (arith, reserved_small c.requires.can)

pub move_entry-requires : goal.move_entry-requires
move_entry-requires c =
    can_move c.requires.can c.resize-block.ensures c.source_words-source.ensures c.bit.ensures
    c.block_sector-index.ensures c.entry_words-entry.ensures c.if-w.true c.key-key.ensures

pub write_entry-requires : goal.write_entry-requires
write_entry-requires c =
    kept_room c.requires.can c.resize-block.ensures c.source_words-source.ensures c.bit.ensures
    c.block_sector-index.ensures c.entry_words-entry.ensures c.if-w.false

pub count_free-requires : goal.count_free-requires
count_free-requires c =
    elim c.if-w.branch [
      | then-w w ↦
          rw w.image-is
          (moved_count c.requires.can c.resize-block.ensures c.source_words-source.ensures c.bit.ensures c.block_sector-index.ensures c.entry_words-entry.ensures
          w.if-w.true w.key-key.ensures w.move_entry.ensures)
      | else-w w ↦
          rw w.image-is
          (kept_count c.requires.can c.resize-block.ensures c.source_words-source.ensures c.bit.ensures c.block_sector-index.ensures c.entry_words-entry.ensures
          w.if-w.false w.write_entry.ensures)
    ]

pub returns : goal.returns
returns c =
    record {
      all = λ p n m f can.
          elim c.if-w.branch [
            | then-w w ↦
                moved_rewrites can c.resize-block.ensures c.source_words-source.ensures c.bit.ensures c.block_sector-index.ensures c.entry_words-entry.ensures
                w.if-w.true w.key-key.ensures w.move_entry.ensures (rw w.image-is at c.count_free.ensures)
            | else-w w ↦
                kept_rewrites can c.resize-block.ensures c.source_words-source.ensures c.bit.ensures c.block_sector-index.ensures c.entry_words-entry.ensures
                w.if-w.false w.write_entry.ensures (rw w.image-is at c.count_free.ensures)
          ];
    }
