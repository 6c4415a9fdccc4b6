-- `sound_names::Scan::stretches_sound` meets its contract: the places before block b have passed, and the blocks before it are those of the
-- pairs before pair j. Assumes nothing.
use Rattle.std.proofs.Common.{ap, arith}
use Rattle.catalog.specs.declared.Catalog.{Catalog}
use Rattle.sound_entries.proofs.SysLaws.{turn}
use Rattle.sound_names.proofs.AloneLaws.{passed_at, scanned, refused, granted, in_slices}
use Rattle.sound_names.proofs.Scan.stretches_sound.Goals as goal

pub stretch_sound-requires : goal.stretch_sound-requires
stretch_sound-requires c =
    let pre = c.args.self.now.judging in
    let loop = c.loop-b.invariant in
    let t = turn pre.catalog.sys (ap (λ (x : Catalog). x.index.0) pre.catalog.is) c.loop-b.j (in_slices pre) loop.0 loop.2 c.loop-b-test.true
    c.pair_length.ensures c.min-n.ensures c.pair_start-start.ensures in
    (t.high, t.walk, t.small, loop.3)

pub returns-then-not-stretch_sound : goal.returns-then-not-stretch_sound
returns-then-not-stretch_sound c =
    refused c.stretch_sound.ensures c.if-not-stretch_sound.true (omega (arith, c.min-n.ensures))

pub loop-b-smaller : goal.loop-b-smaller
loop-b-smaller c =
    let pre = c.args.self.now.judging in
    let loop = c.loop-b.invariant in
    let t = turn pre.catalog.sys (ap (λ (x : Catalog). x.index.0) pre.catalog.is) c.loop-b.j (in_slices pre) loop.0 loop.2 c.loop-b-test.true
    c.pair_length.ensures c.min-n.ensures c.pair_start-start.ensures in
    omega (arith, t.more)

pub loop-b-preserved : goal.loop-b-preserved
loop-b-preserved c =
    let pre = c.args.self.now.judging in
    let loop = c.loop-b.invariant in
    let t = turn pre.catalog.sys (ap (λ (x : Catalog). x.index.0) pre.catalog.is) c.loop-b.j (in_slices pre) loop.0 loop.2 c.loop-b-test.true
    c.pair_length.ensures c.min-n.ensures c.pair_start-start.ensures in
    (omega (arith, t.more), t.high, t.next, granted c.stretch_sound.ensures c.if-not-stretch_sound.false)

pub returns : goal.returns
returns c = scanned (passed_at (omega arith) c.loop-b.invariant.3)
