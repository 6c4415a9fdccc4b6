-- `soundness::name_entered` meets its contract. Assumes nothing.
use Rattle.std.proofs.Common.{sym, ◌∙◌, arith}
use Rattle.disc.proofs.DecideLaws.{holds, fails}
use Rattle.sound_entries.proofs.PlaceLaws.{T_of, T_not}
use Rattle.soundness.proofs.AreaLaws.{entered_first, entered_found, found_entered}
use Rattle.soundness.proofs.name_entered.Goals as goal
use Rattle.soundness.proofs.name_entered.Goals.{then-name-eq0-via-then-name-eq0, then-name-eq0-via-else-name-eq0+then-is_system}

pub returns-then-name-eq0 : goal.returns-then-name-eq0
returns-then-name-eq0 c =
    let name = c.args.name in
    fails (λ e. elim c.then-name-eq0.branch [
      | then-name-eq0-via-then-name-eq0 w ↦ entered_first c.requires name.0 name.1 name.2 (omega arith) (omega arith) e w.if-name-eq0.true
      | then-name-eq0-via-else-name-eq0+then-is_system w ↦ e.ordinary (T_of (sym w.is_system.ensures ∙ w.if-is_system.true))
    ])

pub returns-in_default : goal.returns-in_default
returns-in_default c =
    fails (entered_found c.requires c.find.ensures c.in_default.is)

pub returns : goal.returns
returns c =
    holds (found_entered c.requires c.find.ensures (omega (arith, c.if-name-eq0.false)) (T_not (sym c.is_system.ensures ∙ c.if-is_system.false)) c.in-Some.is)
