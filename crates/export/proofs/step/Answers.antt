-- `export::step` meets its contract. Assumes nothing.
use mathlib.Core.Path.{sym, ◌∙◌}
use denote.Struct.Laws as LL
use Rattle.sound_users.proofs.ShapeLaws.{shaped}
use Rattle.area_users.specs.contracts.AreaReply as O
use Rattle.area_users.proofs.AreaReply.TheLaws as O'
use Rattle.export.specs.Calls.{call}
use Rattle.export.proofs.ShapeLaws.{arrays}
use Rattle.export.proofs.CallLaws.{called}
use Rattle.export.proofs.step.Goals as goal

pub returns : goal.returns
returns c =
    let o = c.perform-o in
    call c.in-Some.asked (sym c.asked_of.ensures ∙ c.in-Some.is)
    (called (arrays c.args.state _ c.well_formed.0) c.from.ensures (shaped o.result.state _ (LL.owed O.the_type O'.the_laws o.result _ o.type_inv).1.0)
    c.remirror.ensures o.ensures c.from-2.ensures)
