-- `reports::describe` meets its contract. Assumes nothing.
use Rattle.lookup.proofs.MeantLaws.{known_low}
use Rattle.reports.proofs.DescriptionLaws.{describes_bytes, describes_short, describes_done}
use Rattle.reports.proofs.describe.Goals as goal
use Rattle.reports.proofs.describe.Goals.{then-bytes-lt32-via-then-bytes-lt32, then-bytes-lt32-via-else-bytes-lt32+then-lent-lt16}

pub returns-then-bytes-lt32 : goal.returns-then-bytes-lt32
returns-then-bytes-lt32 c =
    elim c.then-bytes-lt32.branch [
      | then-bytes-lt32-via-then-bytes-lt32 w ↦ describes_bytes _ _ _ _ c.requires w.if-bytes-lt32.true
      | then-bytes-lt32-via-else-bytes-lt32+then-lent-lt16 w ↦ describes_short _ _ _ _ c.requires w.if-bytes-lt32.false w.if-lent-lt16.true
    ]

pub store_description-requires : goal.store_description-requires
store_description-requires c =
    (known_low c.requires.standing.unit _ c.requires.meant, c.if-lent-lt16.false)

pub returns : goal.returns
returns c =
    describes_done _ _ _ _ c.requires c.if-bytes-lt32.false c.if-lent-lt16.false c.store_description.ensures
