-- The answers of Change on the plain unit, by what the searches of SYS and of the state found.
use Rattle.std.specs.Prelude.{Option, Some, None}
use mathlib.Core.Path.{◌≡◌, refl, sym, ◌∙◌, subst}
use mathlib.Core.Bool.{true, false}
use mathlib.Core.List.{List}
use mathlib.Core.Option.{none, some}
use Prim.Native.Nat.{ℕ, ◌≤◌, ◌<◌}
use native.Mathlib.Omega.{arith}
use lib.Dec.{T}
use lib.ListN.{length}
use borrow.Author.Tests.{le-leb, lt-leb}
use Rattle.types.specs.declared.Name.{Name}
use Rattle.types.specs.declared.State.{State}
use Rattle.disc.specs.Names.{packed, named, unit_in, is_system}
use Rattle.disc.specs.Attributes.{gives_entry_only}
use Rattle.names.specs.NameIs.{NameIs}
use Rattle.catalog.specs.declared.Place.{Place}
use Rattle.catalog.specs.declared.Unit.{Unit}
use Rattle.plain.specs.Table.{table_find}
use Rattle.plain.specs.Unit.{Plain, File, entry}
use Rattle.plain.specs.Questions.{replies, known}
use Rattle.plain.specs.Catalog.{attributes_in, new_name, change_file, step_change}
use Rattle.plain.proofs.QuestionLaws.{given_law, true_yes, asks_yes, asks_no, given_none, given_some}
use Rattle.plain.proofs.UnitLaws.{system_none, ordinary_files}
use Rattle.refine.proofs.LeavesLaws.{leaves_as, leaves_map, refuses, decided-map}
use Rattle.lookup.specs.Unit.{Meant}
use Rattle.lookup.specs.Find.{FindsName}
use Rattle.lookup.specs.Files.{name_open}
use Rattle.lookup.proofs.MeantLaws.{meant_known}
use Rattle.lookup.proofs.MessageLaws.{Sought, system_is, is_open_lem, found, name_at_lem, file_at_lem, SoughtFile, closed_file_lem}
use Rattle.change.specs.Change.{size_then, attributes_then, CanChange, FileChanges, Changes}
use Rattle.change.proofs.AnswerLaws.{change_open}

-- ---- on the plain unit

module _ (p : Plain) (name : Name) (lent : List ℕ) (mine : T (known p (unit_in name))) where
  change_none : entry p (named name) ≡ none → step_change p name lent ≡ replies p 0x5000 lent
  change_none e = asks_yes _ _ _ mine ∙ asks_no _ _ _ (rw e tt)

  module _ {e : List ℕ} (entered : entry p (named name) ≡ some e) where
    change_short : length lent < 16 → step_change p name lent ≡ replies p 0x1200 lent
    change_short h = asks_yes _ _ _ mine ∙ asks_yes _ _ _ (rw entered tt) ∙ asks_no _ _ _ (rw (lt-leb _ _ h) tt)

    module _ (long : 16 ≤ length lent) where
      -- whether or not the name is that of a file
      change_entry_only : gives_entry_only (attributes_in lent) ≡ true → step_change p name lent ≡ replies p 0x1200 lent
      change_entry_only h =
          asks_yes _ _ _ mine ∙ asks_yes _ _ _ (rw entered tt) ∙ asks_yes _ _ _ (rw (le-leb _ _ long) tt)
          ∙ given_law (λ x. x ≡ replies p 0x1200 lent) (table_find (named name) p.files) refl (λ f _. asks_no _ _ _ (rw h tt))

      change_system : table_find (named name) p.files ≡ none → step_change p name lent ≡ replies p 0x1200 lent
      change_system h = asks_yes _ _ _ mine ∙ asks_yes _ _ _ (rw entered tt) ∙ asks_yes _ _ _ (rw (le-leb _ _ long) tt) ∙ given_none _ _ _ h

      pub change_file_lem : gives_entry_only (attributes_in lent) ≡ false → (f : File) → table_find (named name) p.files ≡ some f
          → step_change p name lent ≡ change_file p (named name) f (new_name (named name) lent) (size_then f lent) (attributes_then f lent) lent
      change_file_lem no-bit f h = asks_yes _ _ _ mine ∙ asks_yes _ _ _ (rw entered tt) ∙ asks_yes _ _ _ (rw (le-leb _ _ long) tt) ∙ given_some _ _ _ _ h ∙ asks_yes _ _ _ (rw no-bit tt)

-- ---- by what was found

-- the message in hand and what its search found; the file of the name, which has no area process
pub sought : {image : List ℕ} {state : State} {o : Unit} {name stored : Name} {r : Option Place} → Meant image state o (unit_in name) → NameIs stored (named name) → FindsName image o (packed stored) r
    → Sought image state o name (packed stored) r
sought meant is finds = record { meant = meant; is = is.packed; finds = finds }

abbrev pub sought_file : {image : List ℕ} {state : State} {o : Unit} {name : Name} {n : ℕ} {r : Option Place} {place : Place} → Sought image state o name n r → r ≡ Some place
    → is_system n ≡ false → name_open n state ≡ false → SoughtFile image state o name place
sought_file sought at ordinary shut = record { n = _; r = _; sought = sought; at = at; ordinary = ordinary; shut = shut }

module _ {image : List ℕ} {state : State} {o : Unit} {name : Name} {n : ℕ} {r : Option Place} (s : Sought image state o name n r) {lent : List ℕ} where
  pub changes_none : r ≡ None → Changes image o state name lent image 0x5000
  changes_none e = record {
    all = λ p g rep num. record { step = refuses (λ z. omega arith) (change_none p name lent (meant_known s.meant rep) ((found s g rep num).nothing e)) refl };
  }

  module _ {place : Place} (e : r ≡ Some place) where
    pub changes_short : length lent < 16 → Changes image o state name lent image 0x1200
    changes_short h = record {
      all = λ p g rep num. record { step = refuses (λ z. omega arith) (change_short p name lent (meant_known s.meant rep) (name_at_lem s g rep num e).entered h) refl };
    }

    module _ (long : 16 ≤ length lent) where
      pub changes_entry_only : gives_entry_only (attributes_in lent) ≡ true → Changes image o state name lent image 0x1200
      changes_entry_only h = record {
        all = λ p g rep num. record { step = refuses (λ z. omega arith) (change_entry_only p name lent (meant_known s.meant rep) (name_at_lem s g rep num e).entered long h) refl };
      }

      pub changes_system : is_system n ≡ true → Changes image o state name lent image 0x1200
      changes_system system = record {
        all = λ p g rep num. record {
          step =
              let none_there = system_none p (named name) (ordinary_files g) (true_yes (system_is s system)) in
              refuses (λ z. omega arith) (change_system p name lent (meant_known s.meant rep) (name_at_lem s g rep num e).entered long none_there) refl;
        };
      }

      pub changes_open : gives_entry_only (attributes_in lent) ≡ false → is_system n ≡ false → name_open n state ≡ true → Changes image o state name lent image 0x1200
      changes_open no-bit ordinary h = record {
        all = λ p g rep num. record {
          step =
              let f = file_at_lem s g rep num e ordinary in
              refuses (λ z. omega arith)
              (change_file_lem p name lent (meant_known s.meant rep) (name_at_lem s g rep num e).entered long no-bit f.0 f.1
              ∙ change_open p (named name) (new_name (named name) lent) (size_then f.0 lent) (attributes_then f.0 lent) f.0 lent (is_open_lem s rep h)) refl;
        };
      }

-- a file with no area process
module _ {image : List ℕ} {state : State} {o : Unit} {name : Name} {place : Place} (s : SoughtFile image state o name place) {lent : List ℕ} (long : 16 ≤ length lent) where
  pub can_change_file : CanChange image o s.n place lent
  can_change_file =
      let h = s.sought.meant.standing in
      subst (λ (k : ℕ). CanChange image o k place lent) (sym s.sought.is)
      (record { unit = h.unit; file = _; can = (closed_file_lem s h.good h.represents h.numbers).1; size = long })

  pub changes_file : gives_entry_only (attributes_in lent) ≡ false → {after : List ℕ} {result : ℕ} → FileChanges image o s.n place lent after result → Changes image o state name lent after result
  changes_file no-bit {after} {result} fc = record {
    all = λ p g rep num. record {
      step =
          let f = closed_file_lem s g rep num in
          let c = f.1 in
          let own : FileChanges image o (named name) place lent after result = subst (λ (k : ℕ). FileChanges image o k place lent after result) s.sought.is fc in
          leaves_as (change_file_lem p name lent (meant_known s.sought.meant rep) c.at.entered long no-bit f.0 c.file)
          (leaves_map (decided-map (λ same. same) (λ w. record { f = f.0; file = c.file; closed = c.closed; changed = w })) (own.all p f.0 c));
    };
  }
