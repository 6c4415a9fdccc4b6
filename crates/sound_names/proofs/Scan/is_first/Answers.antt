-- `sound_names::Scan::is_first` meets its contract. Assumes nothing.
use Rattle.std.proofs.Common.{eqb-true, sym, ◌∙◌}
use borrow.Author.Tests.{eqb-false}
use Rattle.disc.proofs.DecideLaws.{fails, true≢false}
use Rattle.sound_names.proofs.AloneLaws.{found_some, found_here, found_before}
use Rattle.sound_names.proofs.Scan.is_first.Goals as goal

pub returns-in_default : goal.returns-in_default
returns-in_default c = fails (λ _. found_some c.args.self.now.judging.catalog c.requires c.find.ensures c.in_default.is)

pub returns-then-eq : goal.returns-then-eq
returns-then-eq c =
    let sys = c.args.self.now.judging.catalog in
    record {
      yes = λ e. found_here sys c.requires c.find.ensures c.in-Some.is (eqb-true _ _ (sym c.eq.ensures ∙ c.if-eq.true)) (eqb-true _ _ e);
      not = λ e. found_before sys c.requires c.find.ensures c.in-Some.is (λ a d. eqb-false _ _ e d);
    }

pub returns-else-eq : goal.returns-else-eq
returns-else-eq c =
    let sys = c.args.self.now.judging.catalog in
    record {
      yes = λ e. absurd (true≢false (sym e ∙ c.if-eq.false));
      not = λ e. found_before sys c.requires c.find.ensures c.in-Some.is (λ a d. eqb-false _ _ (sym c.eq.ensures ∙ c.if-eq.false) a);
    }
