-- `sound_names::Scan::stretch_sound` meets its contract: the places before the c-th of the blocks have passed, and `key` is the key of that
-- block. Assumes nothing.
use Rattle.std.proofs.Common.{ℕ, ◌%◌, sym, ap, add-zero, arith}
use Rattle.sound_entries.proofs.BlockLaws.{key_next}
use Rattle.sound_names.proofs.AloneLaws.{passed_at, scanned, refused, granted}
use Rattle.sound_names.proofs.Scan.stretch_sound.Goals as goal

pub nonzero_rem-key : goal.nonzero_rem-key
nonzero_rem-key c = omega (arith, c.args.self.now.judging.catalog.sys.unit.limits.keys_low)

pub loop-c-init : goal.loop-c-init
loop-c-init c = (ap (λ (x : ℕ). x % c.args.self.now.g.keys) (sym (add-zero c.args.b.0)), passed_at (omega arith) c.requires.3)

pub returns-then-not-sector_sound : goal.returns-then-not-sector_sound
returns-then-not-sector_sound c = refused c.sector_sound.ensures c.if-not-sector_sound.true (omega arith)

pub loop-c-preserved : goal.loop-c-preserved
loop-c-preserved c =
    let a = c.args in (
      key_next a.b.0 a.self.now.g.keys c.loop-c.c c.loop-c.invariant.0 c.next_key-key.ensures,
      passed_at (omega arith) (granted c.sector_sound.ensures c.if-not-sector_sound.false),
    )

pub returns : goal.returns
returns c = scanned (passed_at (omega arith) c.loop-c.invariant.1)
