-- `sound_files::live_of` meets its contract: the search among all files is that among those from the next file on. Assumes nothing.
use Rattle.std.proofs.Common.{refl, sym, ◌∙◌}
use borrow.Author.Tests.{eqb-true, eqb-false}
use Rattle.sound_files.proofs.LiveLaws.{live_hit, live_miss, live_end}
use Rattle.sound_files.proofs.live_of.Goals as goal

pub loop-file-init : goal.loop-file-init
loop-file-init c = refl

pub returns-then-same_number : goal.returns-then-same_number
returns-then-same_number c =
    let same = eqb-true _ _ (sym c.same_number.ensures ∙ c.if-same_number.true) in
    sym (c.loop-file.invariant ∙ live_hit _ _ c.loop-file.file-index _ c.loop-file-test.true same)

pub loop-file-preserved : goal.loop-file-preserved
loop-file-preserved c =
    let other = eqb-false _ _ (sym c.same_number.ensures ∙ c.if-same_number.false) in
    c.loop-file.invariant ∙ live_miss _ _ c.loop-file.file-index _ c.loop-file-test.true other

pub returns : goal.returns
returns c = sym (c.loop-file.invariant ∙ live_end _ _ c.loop-file.file-index c.loop-file-test.false)
