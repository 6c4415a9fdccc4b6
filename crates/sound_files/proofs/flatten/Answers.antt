-- `sound_files::flatten` meets its contract: the descriptors before descriptor j are written. Assumes nothing.
use Rattle.std.proofs.Common.{◌≡◌, ◌∙◌, refl, sym, subst, length, arith, length-set}
use Rattle.state.proofs.ShapeLaws.{areas-length}
use Rattle.sound_files.proofs.LiveLaws.{Flat, flat_none, flat_more, flat_all}
use Rattle.sound_files.proofs.flatten.Goals as goal

pub loop-j-init : goal.loop-j-init
loop-j-init c = (refl, flat_none _ _)

pub loop-j-preserved : goal.loop-j-preserved
loop-j-preserved c =
    let l = c.loop-j in
    let eight = areas-length c.args.state _ c.well_formed.0 in
    (length-set l.list l.j c.open_file.result ∙ l.invariant.0, flat_more _ (omega arith) (omega arith) c.open_file.ensures l.invariant.1)

pub returns : goal.returns
returns c =
    let l = c.loop-j in
    let eight = areas-length c.args.state _ c.well_formed.0 in
    flat_all _ _ (eight ∙ sym l.invariant.0) (subst (Flat _ _) (let e : l.j ≡ length l.list = omega arith in e) l.invariant.1)
