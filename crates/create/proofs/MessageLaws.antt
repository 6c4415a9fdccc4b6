-- Create and Set: the answers before the file is made, and the messages' own questions.
use Rattle.std.specs.Prelude.{Option, Some, None}
use mathlib.Core.Path.{◌≡◌, refl, sym, ap, ◌∙◌, subst}
use mathlib.Core.Bool.{Bool, true, false, not}
use mathlib.Core.List.{List}
use mathlib.Core.Option.{some}
use Prim.Native.Nat.{ℕ, ◌≤◌, ◌<◌}
use native.Mathlib.Omega.{arith}
use lib.Dec.{T}
use lib.ListN.{length, replicate}
use borrow.Author.Tests.{le-leb, lt-leb}
use Rattle.types.specs.declared.Name.{Name}
use Rattle.disc.specs.Words.{Words}
use Rattle.disc.specs.Names.{key_of, named, unit_in}
use Rattle.disc.proofs.DecideLaws.{was_true, was_false}
use Rattle.catalog.specs.declared.Place.{Place}
use Rattle.catalog.specs.declared.Unit.{Unit}
use Rattle.plain.specs.Unit.{Plain, entry, sys_of}
use Rattle.plain.specs.Questions.{replies}
use Rattle.plain.specs.Catalog.{optional_in, attributes_in, size_in, tail_in, new_file}
use Rattle.plain.proofs.QuestionLaws.{asks_yes, asks_no}
use Rattle.refine.specs.OnDisc.{OnDisc}
use Rattle.refine.proofs.LeavesLaws.{leaves_as, refuses}
use Rattle.lookup.specs.Unit.{NumbersOf, MeantOn}
use Rattle.lookup.specs.Find.{UnusedFound, FindsName, FindsUnused}
use Rattle.lookup.proofs.UnitLaws.{on_catalog}
use Rattle.lookup.proofs.MeantLaws.{meant_on_known}
use Rattle.create.specs.Create.{legal_new, NewFileStep, NewFileMade, Creates, Sets, AskedFrom, CanPlaceFrom, CanGrowForFrom}
use Rattle.create.proofs.LegalLaws.{Legal, legal_all, not_legal}

-- ---- a new file, up to its place

module _ (image : List ℕ) (o : Unit) (n size attributes : ℕ) {b : Bool} (judged : b ≡ legal_new n size attributes) where
  pub refused_legal : (words : List ℕ) → not b ≡ true → NewFileMade image o n size attributes words image 0x1200
  refused_legal words h = record {
    all = λ p on_disc num. record {
      step = λ lent. refuses (λ z. omega arith) (not_legal p n size attributes (optional_in words) (tail_in words) lent (was_false judged h)) refl;
    };
  }

  module _ (yes : not b ≡ false) {found : Option Place} (finds : FindsName image o n found) where
    legal : T (legal_new n size attributes)
    legal = subst T (sym (was_true judged yes)) tt

    -- "6. New name unused? 1010h"
    name_used : {p : Plain} (words lent : List ℕ) {w : List ℕ} → entry p n ≡ some w
        → new_file p n size attributes (optional_in words) (tail_in words) lent ≡ replies p 0x1010 lent
    unfolding new_file
    name_used words lent h =
        let ok : Legal n size attributes = legal_all n size attributes legal in
        asks_yes _ _ _ ok.name ∙ asks_yes _ _ _ ok.short ∙ asks_yes _ _ _ ok.allowed ∙ asks_yes _ _ _ ok.given ∙ asks_no _ _ _ (rw h tt)

    pub refused_name : (words : List ℕ) {place : Place} → found ≡ Some place → NewFileMade image o n size attributes words image 0x1010
    refused_name words {place} e = record {
      all = λ p on_disc num. record {
        step = λ lent. refuses (λ z. omega arith) (name_used words lent ((finds.all p (on_catalog on_disc) num).at place e).entered) refl;
      };
    }

    module _ (new : found ≡ None) {words : List ℕ} (long : 16 ≤ length words) (lent : Words words) where
      asked : {p : Plain} → OnDisc image p → NumbersOf o p → AskedFrom image o n size attributes words p
      asked {p} on_disc num = record {
        on = on_disc;
        numbers = num;
        legal = legal;
        fresh = (finds.all p (on_catalog on_disc) num).nothing new;
        long = long;
        lent = lent;
      }

      module _ {key : ℕ} {place_found : Option Place} (q : key ≡ key_of o.catalog.keys n) (unused : FindsUnused image o key place_found) where
        unused_own : {p : Plain} → OnDisc image p → NumbersOf o p → UnusedFound image p (sys_of p) p.files (key_of p.H n) place_found
        unused_own {p} on_disc num =
            subst (λ (x : ℕ). UnusedFound image p (sys_of p) p.files x place_found) (q ∙ ap (λ (h : ℕ). key_of h n) num.catalog.keys) (unused.all p (on_catalog on_disc) num)

        pub place_from_lem : {p : Plain} {place : Place} → place_found ≡ Some place → OnDisc image p → NumbersOf o p → CanPlaceFrom image o place n size attributes words p
        place_from_lem {place = place} e on_disc num = record { asked = asked on_disc num; at = (unused_own on_disc num).at place e }

        pub grow_for : {p : Plain} → place_found ≡ None → OnDisc image p → NumbersOf o p → CanGrowForFrom image o n size attributes words p
        grow_for e on_disc num = record { asked = asked on_disc num; full = (unused_own on_disc num).nothing e }

-- ---- the messages

module _ {image : List ℕ} {o : Unit} {n size attributes : ℕ} {words after : List ℕ} {result : ℕ} (name : Name) (is : n ≡ named name)
    (made : NewFileMade image o n size attributes words after result) where
  named_step : {p : Plain} → OnDisc image p → NumbersOf o p → NewFileStep p image (named name) size attributes (optional_in words) (tail_in words) after result
  named_step {p} on_disc num =
      subst (λ (m : ℕ). NewFileStep p image m size attributes (optional_in words) (tail_in words) after result) is (made.all p on_disc num)

  pub creates : MeantOn image o (unit_in name) → optional_in words ≡ replicate 3 0 → tail_in words ≡ replicate 6 0 → Creates image o name size attributes after result
  creates meant a b = record {
    all = λ p on_disc num own. record {
      step = λ lent. leaves_as (asks_yes _ _ _ (meant_on_known p meant own)) ((rw (a, b) at (named_step on_disc num)).step lent);
    };
  }

pub sets : {image : List ℕ} {o : Unit} {n : ℕ} {lent after : List ℕ} {result : ℕ} (name : Name) → MeantOn image o (unit_in name) → n ≡ named name → 16 ≤ length lent
    → NewFileMade image o n (size_in lent) (attributes_in lent) lent after result → Sets image o name lent after result
sets {lent = lent} name meant is long made = record {
  all = λ p on_disc num own. record {
    step = leaves_as (asks_yes _ _ _ (meant_on_known p meant own)) (leaves_as (asks_yes _ _ _ (rw (le-leb 16 (length lent) long) tt)) ((named_step name is made on_disc num).step lent));
  };
}

-- "4. Lent record at least 16 words?"
pub sets_short : {image : List ℕ} {o : Unit} (name : Name) (lent : List ℕ) → MeantOn image o (unit_in name) → length lent < 16 → Sets image o name lent image 0x1200
sets_short name lent meant short = record {
  all = λ p on_disc num own. record {
    step = leaves_as (asks_yes _ _ _ (meant_on_known p meant own)) (refuses (λ z. omega arith) (asks_no _ _ _ (rw (lt-leb 16 (length lent) short) tt)) refl);
  };
}
