-- A message by name: what the search of SYS found, said of every unit that image and state represent.
use Rattle.std.specs.Prelude.{Option, Some}
use mathlib.Core.Path.{◌≡◌, sym, ap, ◌∙◌, subst}
use mathlib.Core.Bool.{Bool, true, false}
use mathlib.Core.List.{List}
use mathlib.Core.Option.{some}
use Prim.Native.Nat.{ℕ}
use Rattle.types.specs.declared.Name.{Name}
use Rattle.types.specs.declared.State.{State}
use Rattle.disc.specs.Names.{named, unit_in, is_system}
use Rattle.catalog.specs.declared.Place.{Place}
use Rattle.catalog.specs.declared.Unit.{Unit}
use Rattle.plain.specs.Table.{table_find, is_some}
use Rattle.plain.specs.Unit.{Plain, File}
use Rattle.plain.specs.Good.{Good}
use Rattle.plain.proofs.QuestionLaws.{false_no}
use Rattle.refine.specs.Represents.{Represents}
use Rattle.lookup.specs.Unit.{NumbersOf, Meant}
use Rattle.lookup.specs.Find.{NameAt, NameFound, FindsName}
use Rattle.lookup.specs.Files.{ClosedFile, SomeClosedFile, name_open}
use Rattle.lookup.proofs.FileLaws.{found_file, name_open_lem, name_closed}

-- Question 1 is answered yes, and the search for the name ended with r.
pub record Sought (image : List ℕ) (state : State) (o : Unit) (name : Name) (n : ℕ) (r : Option Place) : Type 0 where
  pub meant : Meant image state o (unit_in name)
  pub is : n ≡ named name
  pub finds : FindsName image o n r

module _ {image : List ℕ} {state : State} {o : Unit} {name : Name} {n : ℕ} {r : Option Place} (s : Sought image state o name n r) where
  pub system_is : {b : Bool} → is_system n ≡ b → is_system (named name) ≡ b
  system_is e = ap is_system (sym s.is) ∙ e

  pub open_is : {b : Bool} → name_open n state ≡ b → name_open (named name) state ≡ b
  open_is e = ap (λ (m : ℕ). name_open m state) (sym s.is) ∙ e

  pub is_open_lem : {p : Plain} → Represents image state p → name_open n state ≡ true → is_some (table_find (named name) p.areas) ≡ true
  is_open_lem rep h = sym (name_open_lem rep.areas (named name)) ∙ open_is h

  module _ {p : Plain} (g : Good p) (rep : Represents image state p) (num : NumbersOf o p) where
    pub found : NameFound image p (named name) r
    found = subst (λ (m : ℕ). NameFound image p m r) s.is (s.finds.all p (record { good = g; size = rep.layout.size; sys = rep.layout.sys }) num)

    module _ {place : Place} (e : r ≡ Some place) where
      pub name_at_lem : NameAt image p (named name) place
      name_at_lem = found.at place e

      pub file_at_lem : is_system n ≡ false → (f : File) × (table_find (named name) p.files ≡ some f)
      file_at_lem ordinary = found_file name_at_lem (false_no (system_is ordinary))

-- The name is that of a file, which has no area process; its entry stands in the place.
pub record SoughtFile (image : List ℕ) (state : State) (o : Unit) (name : Name) (place : Place) : Type 0 where
  pub n : ℕ
  pub r : Option Place
  pub sought : Sought image state o name n r
  pub at : r ≡ Some place
  pub ordinary : is_system n ≡ false
  pub shut : name_open n state ≡ false

module _ {image : List ℕ} {state : State} {o : Unit} {name : Name} {place : Place} (s : SoughtFile image state o name place) where
  pub closed_file_lem : {p : Plain} → Good p → Represents image state p → NumbersOf o p → (f : File) × ClosedFile image o place p (named name) f
  closed_file_lem g rep num =
      let f = file_at_lem s.sought g rep num s.at s.ordinary in (
        f.0,
        record {
          on = record { good = g; words = rep.words; layout = rep.layout };
          numbers = num;
          file = f.1;
          closed = name_closed rep.areas (named name) (open_is s.sought s.shut);
          at = name_at_lem s.sought g rep num s.at;
        },
      )

  pub some_closed : SomeClosedFile image o place
  some_closed =
      let h = s.sought.meant.standing in
      let c = closed_file_lem h.good h.represents h.numbers in
      record { unit = h.unit; name = named name; file = c.0; can = c.1 }
