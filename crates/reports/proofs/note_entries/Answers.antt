-- `reports::note_entries` meets its contract: the records of the first b blocks are stored. Assumes nothing.
use native.Mathlib.Omega.{arith}
use Rattle.reports.specs.Listing.{slot_records, catalog_sector}
use Rattle.reports.proofs.TurnLaws.{turn_room, turn_start, noted_turn}
use Rattle.reports.proofs.note_entries.Goals as goal

pub loop-b-init : goal.loop-b-init
loop-b-init c = turn_start _ _ _

pub note_slots-at-requires : goal.note_slots-at-requires
note_slots-at-requires c =
    let image = c.args.image.now in
    let room = turn_room (λ b. slot_records image (catalog_sector image c.args.c b) 16) c.loop-b.b c.args.n c.loop-b-test.true in
    rw c.sector_at-q.ensures
    (c.requires.0.inside c.loop-b.b c.loop-b-test.true, omega (arith, c.loop-b.invariant.end, c.requires.1))

pub loop-b-preserved : goal.loop-b-preserved
loop-b-preserved c =
    let image = c.args.image.now in
    noted_turn (λ b. slot_records image (catalog_sector image c.args.c b) 16) c.loop-b.b c.loop-b.invariant (rw c.sector_at-q.ensures at c.note_slots-at.ensures)
