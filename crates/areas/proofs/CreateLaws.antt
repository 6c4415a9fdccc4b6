-- The answers of Create area on the plain unit, by what the searches of SYS and of the state found.
use Rattle.std.specs.Prelude.{Option, Some, None}
use mathlib.Core.Path.{◌≡◌, refl, ap₂, ◌∙◌}
use mathlib.Core.Bool.{true, false}
use mathlib.Core.List.{List, []}
use mathlib.Core.Option.{none, some}
use Prim.Native.Nat.{ℕ, ◌<◌}
use native.Mathlib.Omega.{arith}
use lib.ListN.{length}
use lib.Dec.{T}
use borrow.Author.Tests.{lt-ltb, le-ltb}
use Rattle.types.specs.declared.Name.{Name}
use Rattle.types.specs.declared.State.{State}
use Rattle.disc.specs.Names.{packed, named, unit_in, is_system}
use Rattle.names.specs.NameIs.{NameIs}
use Rattle.catalog.specs.declared.Place.{Place}
use Rattle.catalog.specs.declared.Unit.{Unit}
use Rattle.catalog.specs.Catalog.{entry_word}
use Rattle.state.specs.Areas.{vacant_area_of, area_opened}
use Rattle.plain.specs.Table.{table_find, table_put, is_some}
use Rattle.plain.specs.Unit.{Plain, entry, with_areas}
use Rattle.plain.specs.Questions.{replies, done, known}
use Rattle.plain.specs.Areas.{step_create_area}
use Rattle.plain.proofs.QuestionLaws.{asks_yes, asks_no}
use Rattle.refine.proofs.LeavesLaws.{refuses, writes}
use Rattle.refine.proofs.StateLaws.{same_room, same_full}
use Rattle.lookup.specs.Unit.{Meant}
use Rattle.lookup.specs.Find.{FindsName}
use Rattle.lookup.specs.Files.{name_open}
use Rattle.lookup.proofs.MeantLaws.{meant_known}
use Rattle.lookup.proofs.FileLaws.{live_size, live_index_lem, name_absent}
use Rattle.lookup.proofs.MessageLaws.{Sought, system_is, open_is, is_open_lem, found, name_at_lem, SoughtFile, closed_file_lem}
use Rattle.areas.specs.Areas.{CreatesArea, dummy_create, made}

-- ---- on the plain unit

module _ (p : Plain) (name : Name) (lent : List ℕ) (mine : T (known p (unit_in name))) where
  create_none : entry p (named name) ≡ none → step_create_area p name lent ≡ replies p 0x4800 lent
  create_none e = asks_yes _ _ _ mine ∙ asks_no _ _ _ (rw e tt)

  module _ {e : List ℕ} (entered : entry p (named name) ≡ some e) where
    create_system : is_system (named name) ≡ true → step_create_area p name lent ≡ replies p 0x0A00 lent
    create_system h = asks_yes _ _ _ mine ∙ asks_yes _ _ _ (rw entered tt) ∙ asks_no _ _ _ (rw h tt)

    module _ (ordinary : is_system (named name) ≡ false) where
      create_open : is_some (table_find (named name) p.areas) ≡ true → step_create_area p name lent ≡ done p lent
      create_open h = asks_yes _ _ _ mine ∙ asks_yes _ _ _ (rw entered tt) ∙ asks_yes _ _ _ (rw ordinary tt) ∙ asks_no _ _ _ (rw h tt)

      module _ (closed : table_find (named name) p.areas ≡ none) where
        create_full : length p.areas ≡ 8 → step_create_area p name lent ≡ replies p 0x0900 lent
        create_full h =
            asks_yes _ _ _ mine ∙ asks_yes _ _ _ (rw entered tt) ∙ asks_yes _ _ _ (rw ordinary tt) ∙ asks_yes _ _ _ (rw closed tt)
            ∙ asks_no _ _ _ (rw (le-ltb (length p.areas) 8 (omega arith)) tt)

        create_done : length p.areas < 8 → step_create_area p name lent ≡ done (with_areas p (table_put (named name) [] p.areas)) lent
        create_done h =
            asks_yes _ _ _ mine ∙ asks_yes _ _ _ (rw entered tt) ∙ asks_yes _ _ _ (rw ordinary tt) ∙ asks_yes _ _ _ (rw closed tt)
            ∙ asks_yes _ _ _ (rw (lt-ltb (length p.areas) 8 h) tt)

-- ---- by what was found

-- the message in hand and what its search found; the file of the name, which has no area process
pub sought : {image : List ℕ} {state : State} {o : Unit} {name stored : Name} {r : Option Place} → Meant image state o (unit_in name) → NameIs stored (named name) → FindsName image o (packed stored) r
    → Sought image state o name (packed stored) r
sought meant is finds = record { meant = meant; is = is.packed; finds = finds }

pub sought_file : {image : List ℕ} {state : State} {o : Unit} {name : Name} {n : ℕ} {r : Option Place} {at : Place} → Sought image state o name n r → r ≡ Some at
    → is_system n ≡ false → name_open n state ≡ false → SoughtFile image state o name at
sought_file sought is ordinary shut = record { n = _; r = _; sought = sought; at = is; ordinary = ordinary; shut = shut }

module _ {image : List ℕ} {state : State} {o : Unit} {name : Name} {n : ℕ} {r : Option Place} (s : Sought image state o name n r) where
  pub creates_none : r ≡ None → CreatesArea image o state name (record { result = 0x4800; state = state })
  creates_none e = record {
    all = λ p g rep num. record { step = λ lent. refuses (λ z. omega arith) (create_none p name lent (meant_known s.meant rep) ((found s g rep num).nothing e)) refl };
  }

  module _ {at : Place} (e : r ≡ Some at) where
    pub creates_system : is_system n ≡ true → CreatesArea image o state name (record { result = 0x0A00; state = state })
    creates_system h = record {
      all = λ p g rep num. record {
        step = λ lent. refuses (λ z. omega arith) (create_system p name lent (meant_known s.meant rep) (name_at_lem s g rep num e).entered (system_is s h)) refl;
      };
    }

    pub creates_open : is_system n ≡ false → name_open n state ≡ true → CreatesArea image o state name (record { result = 0; state = state })
    creates_open ordinary h = record {
      all = λ p g rep num. record {
        step = λ lent. writes (create_open p name lent (meant_known s.meant rep) (name_at_lem s g rep num e).entered (system_is s ordinary) (is_open_lem s rep h)) (dummy_create refl refl);
      };
    }

-- a file with no area process
module _ {image : List ℕ} {state : State} {o : Unit} {name : Name} {at : Place} (s : SoughtFile image state o name at) where
  pub creates_full : vacant_area_of state ≡ None → CreatesArea image o state name (record { result = 0x0900; state = state })
  creates_full h = record {
    all = λ p g rep num. record {
      step = λ lent.
          let c = (closed_file_lem s g rep num).1 in
          let full = same_full state p rep.areas g.area_names h in
          refuses (λ z. omega arith) (create_full p name lent (meant_known s.sought.meant rep) c.at.entered (system_is s.sought s.ordinary) c.closed full) refl;
    };
  }

  -- the lowest vacant descriptor, with the words of the entry
  pub creates_done : {j : ℕ} {stored : Name} {size sector : ℕ} {next : State} → vacant_area_of state ≡ Some j → NameIs stored (named name)
      → size ≡ entry_word image at 7 → sector ≡ entry_word image at 8 → next ≡ area_opened state j stored (record { 0 = sector }) size
      → CreatesArea image o state name (record { result = 0; state = next })
  creates_done {j} {stored} {size} {sector} {next} vacant means long first opens = record {
    all = λ p g rep num. record {
      step = λ lent.
          let f = closed_file_lem s g rep num in
          let c = f.1 in
          let live = long ∙ live_size g c.at f.0 c.file c.closed in
          let index = first ∙ live_index_lem g c.at f.0 c.file c.closed in
          let room = same_room state p rep.areas j g.area_names vacant in
          writes (create_done p name lent (meant_known s.sought.meant rep) c.at.entered (system_is s.sought s.ordinary) c.closed room)
          (made (record {
            f = f.0;
            file = c.file;
            absent = name_absent (named name) state (open_is s.sought s.shut);
            j = j;
            vacant = vacant;
            name = stored;
            is = means;
            unit = refl;
            left = opens ∙ ap₂ (λ (x y : ℕ). area_opened state j stored (record { 0 = x }) y) index live;
          }));
    };
  }
