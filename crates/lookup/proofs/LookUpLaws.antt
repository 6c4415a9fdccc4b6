-- The answers of Look-up on the plain unit, by what the search of SYS found.
use Rattle.std.specs.Prelude.{Option, Some, None}
use mathlib.Core.Path.{◌≡◌, sym, ap, ap₂, ◌∙◌, subst}
use mathlib.Core.List.{List, ◌++◌}
use mathlib.Core.Option.{none, some}
use Prim.Native.Nat.{ℕ, ◌≤◌, ◌<◌}
use native.Mathlib.Omega.{arith}
use lib.ListN.{length, drop}
use lib.Seq.{ext_get_or}
use lib.Dec.{T}
use borrow.Author.Tests.{le-leb, lt-leb}
use Rattle.types.specs.declared.Name.{Name}
use Rattle.disc.specs.Names.{named, unit_in}
use Rattle.catalog.specs.declared.Place.{Place}
use Rattle.catalog.specs.declared.Unit.{Unit}
use Rattle.catalog.specs.Catalog.{entry_at}
use Rattle.catalog.proofs.WalkLaws.{length-entry_at, get_d_entry_at}
use Rattle.plain.specs.Unit.{Plain, entry}
use Rattle.plain.specs.Questions.{replies, known, fill}
use Rattle.plain.specs.Catalog.{step_look_up}
use Rattle.plain.proofs.QuestionLaws.{asks_yes, asks_no, given_none, given_some}
use Rattle.refine.specs.OnDisc.{OnDisc}
use Rattle.refine.proofs.Ground.{entry_length}
use Rattle.lookup.specs.Unit.{NumbersOf, MeantOn, CatalogOn}
use Rattle.lookup.specs.Find.{NameAt, NameFound, FindsName}
use Rattle.lookup.specs.LookUp.{LooksUp}
use Rattle.lookup.proofs.UnitLaws.{on_catalog}
use Rattle.lookup.proofs.MeantLaws.{meant_on_known}
use Rattle.lookup.proofs.FindLaws.{place_room}

-- the 16 words of a found place are the entry
pub entry_at_lem : {image : List ℕ} {p : Plain} {n : ℕ} {place : Place} → CatalogOn image p → (a : NameAt image p n place) → entry_at image place ≡ a.words
entry_at_lem {image} {p} {n} {place} on a =
    let size : length (entry_at image place) ≡ 16 = length-entry_at image place (place_room on a.is) in
    let e : length a.words ≡ 16 = entry_length p on.good n a.words a.entered in
    ext_get_or 0 (entry_at image place) a.words (size ∙ sym e) (λ w h. get_d_entry_at image place w (omega arith) ∙ a.holds w (omega arith))

module _ (p : Plain) (name : Name) (lent : List ℕ) (mine : T (known p (unit_in name))) where
  pub look_none : entry p (named name) ≡ none → step_look_up p name lent ≡ replies p 0x5000 lent
  look_none e = asks_yes _ _ _ mine ∙ given_none _ _ _ e

  pub look_short : {e : List ℕ} → entry p (named name) ≡ some e → length lent < 16 → step_look_up p name lent ≡ replies p 0x1200 lent
  look_short e short = asks_yes _ _ _ mine ∙ given_some _ _ _ _ e ∙ asks_no _ _ _ (rw (lt-leb _ _ short) tt)

  pub look_done : {image : List ℕ} {place : Place} {after : List ℕ} → CatalogOn image p → NameAt image p (named name) place → 16 ≤ length lent
      → after ≡ entry_at image place ++ drop 16 lent → step_look_up p name lent ≡ replies p 0 after
  look_done {image} {place} {after} on a enough e =
      let size : length a.words ≡ 16 = entry_length p on.good (named name) a.words a.entered in
      let filled : fill a.words lent ≡ after = ap₂ (λ (l : List ℕ) (n : ℕ). l ++ drop n lent) (sym (entry_at_lem on a)) size ∙ sym e in
      asks_yes _ _ _ mine ∙ given_some _ _ _ _ a.entered ∙ asks_yes _ _ _ (rw (le-leb _ _ enough) tt) ∙ ap (replies p 0) filled

-- ---- Look-up, by what was found

module _ {image : List ℕ} {o : Unit} {n : ℕ} {r : Option Place} (name : Name) (lent : List ℕ) (meant : MeantOn image o (unit_in name)) (is : n ≡ named name)
    (finds : FindsName image o n r) where
  found : (p : Plain) → OnDisc image p → NumbersOf o p → NameFound image p (named name) r
  found p on num = subst (λ (m : ℕ). NameFound image p m r) is (finds.all p (on_catalog on) num)

  pub looks_none : r ≡ None → LooksUp image o name lent 0x5000 lent
  looks_none e = record { all = λ p on num own. look_none p name lent (meant_on_known p meant own) ((found p on num).nothing e) }

  module _ {place : Place} (e : r ≡ Some place) where
    pub looks_short : length lent < 16 → LooksUp image o name lent 0x1200 lent
    looks_short short = record { all = λ p on num own. look_short p name lent (meant_on_known p meant own) ((found p on num).at place e).entered short }

    pub looks_done : {after : List ℕ} → 16 ≤ length lent → after ≡ entry_at image place ++ drop 16 lent → LooksUp image o name lent 0 after
    looks_done enough x = record { all = λ p on num own. look_done p name lent (meant_on_known p meant own) (on_catalog on) ((found p on num).at place e) enough x }
