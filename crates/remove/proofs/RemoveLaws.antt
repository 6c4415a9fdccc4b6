-- The answers of Remove on the plain unit, by what the searches of SYS and of the state found.
use Rattle.std.specs.Prelude.{Option, Some, None}
use mathlib.Core.Path.{◌≡◌, refl, sym, ap, ◌∙◌}
use mathlib.Core.Bool.{Bool, true, false}
use mathlib.Core.List.{List}
use mathlib.Core.Option.{none, some}
use Prim.Native.Nat.{ℕ}
use native.Mathlib.Omega.{arith}
use lib.Dec.{T}
use Rattle.types.specs.declared.Name.{Name}
use Rattle.types.specs.declared.State.{State}
use Rattle.disc.specs.Numbers.{bit}
use Rattle.disc.specs.Names.{packed, named, unit_in, is_system}
use Rattle.disc.specs.Attributes.{permanent}
use Rattle.names.specs.NameIs.{NameIs}
use Rattle.catalog.specs.declared.Place.{Place}
use Rattle.catalog.specs.declared.Unit.{Unit}
use Rattle.catalog.specs.Catalog.{entry_word}
use Rattle.plain.specs.Table.{table_find, table_remove, is_some}
use Rattle.plain.specs.Unit.{Plain, File, entry, with_files}
use Rattle.plain.specs.Questions.{replies, done, known}
use Rattle.plain.specs.Catalog.{step_remove}
use Rattle.plain.proofs.QuestionLaws.{true_yes, asks_yes, asks_no, given_none, given_some}
use Rattle.plain.proofs.UnitLaws.{system_none, ordinary_files}
use Rattle.refine.proofs.LeavesLaws.{refuses, writes}
use Rattle.lookup.specs.Unit.{Meant}
use Rattle.lookup.specs.Find.{FindsName}
use Rattle.lookup.specs.Files.{ClosedFile, name_open}
use Rattle.lookup.proofs.MeantLaws.{meant_known}
use Rattle.lookup.proofs.FileLaws.{file_words}
use Rattle.lookup.proofs.MessageLaws.{Sought, system_is, is_open_lem, found, name_at_lem, file_at_lem, SoughtFile, closed_file_lem}
use Rattle.remove.specs.Remove.{Dropped, Removes}

-- ---- on the plain unit

module _ (p : Plain) (name : Name) (lent : List ℕ) (mine : T (known p (unit_in name))) where
  remove_none : entry p (named name) ≡ none → step_remove p name lent ≡ replies p 0x5000 lent
  remove_none e = asks_yes _ _ _ mine ∙ asks_no _ _ _ (rw e tt)

  module _ {e : List ℕ} (entered : entry p (named name) ≡ some e) where
    remove_system : table_find (named name) p.files ≡ none → step_remove p name lent ≡ replies p 0x1200 lent
    remove_system h = asks_yes _ _ _ mine ∙ asks_yes _ _ _ (rw entered tt) ∙ given_none _ _ _ h

    module _ (f : File) (found : table_find (named name) p.files ≡ some f) where
      remove_open : is_some (table_find (named name) p.areas) ≡ true → step_remove p name lent ≡ replies p 0x1200 lent
      remove_open h = asks_yes _ _ _ mine ∙ asks_yes _ _ _ (rw entered tt) ∙ given_some _ _ _ _ found ∙ asks_no _ _ _ (rw h tt)

      module _ (closed : table_find (named name) p.areas ≡ none) where
        remove_permanent : permanent f.attributes ≡ true → step_remove p name lent ≡ replies p 0x1200 lent
        remove_permanent h =
            asks_yes _ _ _ mine ∙ asks_yes _ _ _ (rw entered tt) ∙ given_some _ _ _ _ found ∙ asks_yes _ _ _ (rw closed tt)
            ∙ asks_no _ _ _ (rw h tt)

        remove_done : permanent f.attributes ≡ false → step_remove p name lent ≡ done (with_files p (table_remove (named name) p.files)) lent
        remove_done h =
            asks_yes _ _ _ mine ∙ asks_yes _ _ _ (rw entered tt) ∙ given_some _ _ _ _ found ∙ asks_yes _ _ _ (rw closed tt)
            ∙ asks_yes _ _ _ (rw h tt)

-- ---- by what was found

-- the message in hand and what its search found; the file of the name, which has no area process
pub sought : {image : List ℕ} {state : State} {o : Unit} {name stored : Name} {r : Option Place} → Meant image state o (unit_in name) → NameIs stored (named name) → FindsName image o (packed stored) r
    → Sought image state o name (packed stored) r
sought meant is finds = record { meant = meant; is = is.packed; finds = finds }

pub sought_file : {image : List ℕ} {state : State} {o : Unit} {name : Name} {n : ℕ} {r : Option Place} {place : Place} → Sought image state o name n r → r ≡ Some place
    → is_system n ≡ false → name_open n state ≡ false → SoughtFile image state o name place
sought_file sought at ordinary shut = record { n = _; r = _; sought = sought; at = at; ordinary = ordinary; shut = shut }

module _ {image : List ℕ} {state : State} {o : Unit} {name : Name} {n : ℕ} {r : Option Place} (s : Sought image state o name n r) where
  pub removes_none : r ≡ None → Removes image o state name image 0x5000
  removes_none e = record {
    all = λ p g rep num. record { step = λ lent. refuses (λ z. omega arith) (remove_none p name lent (meant_known s.meant rep) ((found s g rep num).nothing e)) refl };
  }

  module _ {place : Place} (e : r ≡ Some place) where
    pub removes_system : is_system n ≡ true → Removes image o state name image 0x1200
    removes_system system = record {
      all = λ p g rep num. record {
        step = λ lent.
            let none_there = system_none p (named name) (ordinary_files g) (true_yes (system_is s system)) in
            refuses (λ z. omega arith) (remove_system p name lent (meant_known s.meant rep) (name_at_lem s g rep num e).entered none_there) refl;
      };
    }

    pub removes_open : is_system n ≡ false → name_open n state ≡ true → Removes image o state name image 0x1200
    removes_open ordinary h = record {
      all = λ p g rep num. record {
        step = λ lent.
            let f = file_at_lem s g rep num e ordinary in
            refuses (λ z. omega arith) (remove_open p name lent (meant_known s.meant rep) (name_at_lem s g rep num e).entered f.0 f.1 (is_open_lem s rep h)) refl;
      };
    }

-- a file with no area process
module _ {image : List ℕ} {state : State} {o : Unit} {name : Name} {place : Place} (s : SoughtFile image state o name place) where
  -- the attributes in the entry are the file's
  attributes_are : {p : Plain} {f : File} → ClosedFile image o place p (named name) f → {b : Bool} → permanent (entry_word image place 6) ≡ b → permanent f.attributes ≡ b
  attributes_are {f = f} c h = sym (ap permanent (file_words c.on.good c.at f c.file).attributes) ∙ h

  pub removes_permanent : bit 11 (entry_word image place 6) ≡ true → Removes image o state name image 0x1200
  removes_permanent h = record {
    all = λ p g rep num. record {
      step = λ lent.
          let c = (closed_file_lem s g rep num).1 in
          refuses (λ z. omega arith) (remove_permanent p name lent (meant_known s.sought.meant rep) c.at.entered _ c.file c.closed (attributes_are c h)) refl;
    };
  }

  pub removes_done : bit 11 (entry_word image place 6) ≡ false → {after : List ℕ} → Dropped image o place after → Removes image o state name after 0
  removes_done h drops = record {
    all = λ p g rep num. record {
      step = λ lent.
          let c = (closed_file_lem s g rep num).1 in
          writes (remove_done p name lent (meant_known s.sought.meant rep) c.at.entered _ c.file c.closed (attributes_are c h))
          (record {
            f = _;
            file = c.file;
            closed = c.closed;
            t = c.at.number;
            inside = c.at.is.inside;
            stands = c.at.named;
            unit = refl;
            written = drops.all p (named name) _ c;
          });
    };
  }
