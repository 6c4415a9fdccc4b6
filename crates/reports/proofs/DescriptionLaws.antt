-- The answers of Get Unit Description on the plain unit, by the questions in their order.
use mathlib.Core.Path.{◌≡◌, refl, sym, ap, ◌∙◌}
use mathlib.Core.List.{List, ◌++◌}
use Prim.Native.Nat.{ℕ, ◌≤◌, ◌<◌}
use lib.ListN.{length, drop}
use borrow.Author.Tests.{le-leb, lt-leb}
use Rattle.words.specs.Store.{store}
use Rattle.words.proofs.StoreLaws.{store_front}
use Rattle.catalog.specs.declared.Unit.{Unit}
use Rattle.plain.specs.Questions.{answer}
use Rattle.plain.specs.Reports.{description, step_description}
use Rattle.plain.proofs.QuestionLaws.{asks_yes, asks_no}
use Rattle.lookup.specs.Unit.{MeantOn}
use Rattle.lookup.proofs.MeantLaws.{meant_on_known}
use Rattle.reports.specs.Description.{described, Describes}

module _ {image : List ℕ} (o : Unit) (u bytes : ℕ) (lent : List ℕ) (meant : MeantOn image o u) where
  pub describes_bytes : bytes < 32 → Describes image o u bytes lent (answer 0x1200 0 0 0) lent
  unfolding step_description
  describes_bytes few = record { all = λ p on num own. asks_yes _ _ _ (meant_on_known p meant own) ∙ asks_no _ _ _ (rw (lt-leb _ _ few) tt) }

  pub describes_short : 32 ≤ bytes → length lent < 16 → Describes image o u bytes lent (answer 0x1200 0 0 0) lent
  unfolding step_description
  describes_short enough short = record {
    all = λ p on num own. asks_yes _ _ _ (meant_on_known p meant own) ∙ asks_yes _ _ _ (rw (le-leb _ _ enough) tt) ∙ asks_no _ _ _ (rw (lt-leb _ _ short) tt);
  }

  -- the record at the start of the lent words
  pub describes_done : {after : List ℕ} → 32 ≤ bytes → 16 ≤ length lent → after ≡ store lent 0 (described image o u) → Describes image o u bytes lent (answer 0 32 0 0) after
  unfolding step_description
  describes_done {after} enough room e = record {
    all = λ p on num own.
        let same : described image o u ≡ description p = rw (← own, num.catalog.keys, num.slice, on.layout.kit.sectors, on.layout.kit.unused) refl in
        let filled : after ≡ description p ++ drop 16 lent = e ∙ ap (store lent 0) same ∙ store_front lent (description p) room in
        asks_yes _ _ _ (meant_on_known p meant own) ∙ asks_yes _ _ _ (rw (le-leb _ _ enough) tt) ∙ asks_yes _ _ _ (rw (le-leb _ _ room) tt)
        ∙ ap (λ (l : List ℕ). record { unit = p; answer = answer 0 32 0 0; lent = l }) (sym filled);
  }
