-- The answers of Remove area on the plain unit, by what the searches of the state and of SYS found.
use Rattle.std.specs.Prelude.{Option, Some, None}
use mathlib.Core.Path.{◌≡◌, refl, sym, ap, ◌∙◌}
use mathlib.Core.Bool.{Bool, true, false}
use mathlib.Core.List.{List}
use mathlib.Core.Logic.{◌≢◌}
use mathlib.Core.Option.{none, some}
use Prim.Native.Nat.{ℕ, ◌<◌}
use native.Mathlib.Omega.{arith}
use lib.ListN.{length}
use lib.Dec.{T}
use borrow.Author.Tests.{eq-eqb, ne_eqb}
use Rattle.types.specs.declared.Name.{Name}
use Rattle.types.specs.declared.Area.{Area}
use Rattle.types.specs.declared.State.{State}
use Rattle.types.specs.State.{area_at}
use Rattle.disc.specs.Names.{packed, named, unit_in, is_system}
use Rattle.disc.proofs.SliceLaws.{none_left}
use Rattle.names.specs.NameIs.{NameIs}
use Rattle.catalog.specs.declared.Place.{Place}
use Rattle.catalog.specs.declared.Unit.{Unit}
use Rattle.state.specs.Areas.{area_named, area_closed, user_count}
use Rattle.plain.specs.Table.{Table, table_find, table_put, table_remove}
use Rattle.plain.specs.Unit.{Plain, File, AreaUser, with_tables}
use Rattle.plain.specs.Good.{Good}
use Rattle.plain.specs.Questions.{replies, done, known}
use Rattle.plain.specs.Areas.{book_live, step_remove_area}
use Rattle.plain.proofs.TableLaws.{some≢none}
use Rattle.plain.proofs.QuestionLaws.{asks_yes, asks_no, given_none, given_some}
use Rattle.plain.proofs.UnitLaws.{entry_of}
use Rattle.refine.specs.Represents.{users_in, Represents}
use Rattle.refine.proofs.LeavesLaws.{refuses, writes}
use Rattle.refine.proofs.UserLaws.{users_count}
use Rattle.refine.proofs.StateLaws.{named_inside, named_open, same_found, same_absent, same_index, same_size, same_users}
use Rattle.preservation.proofs.Whole.{on_disc}
use Rattle.lookup.specs.Unit.{NumbersOf, Meant}
use Rattle.lookup.specs.Find.{FindsName}
use Rattle.lookup.proofs.MeantLaws.{meant_known}
use Rattle.lookup.proofs.MessageLaws.{Sought, found, name_at_lem}
use Rattle.areas.specs.Areas.{CanBookFrom, CanBook, Booked, RemovesArea, dummy_remove, books}

-- ---- on the plain unit

module _ (p : Plain) (name : Name) (lent : List ℕ) (mine : T (known p (unit_in name))) where
  remove_system : is_system (named name) ≡ true → step_remove_area p name lent ≡ replies p 0x0A00 lent
  remove_system h = asks_yes _ _ _ mine ∙ asks_no _ _ _ (rw h tt)

  module _ (ordinary : is_system (named name) ≡ false) where
    remove_none : table_find (named name) p.areas ≡ none → step_remove_area p name lent ≡ done p lent
    remove_none h = asks_yes _ _ _ mine ∙ asks_yes _ _ _ (rw ordinary tt) ∙ given_none _ _ _ h

    module _ (users : Table AreaUser) (there : table_find (named name) p.areas ≡ some users) where
      remove_used : length users ≢ 0 → step_remove_area p name lent ≡ done p lent
      remove_used h =
          asks_yes _ _ _ mine ∙ asks_yes _ _ _ (rw ordinary tt) ∙ given_some _ _ _ _ there ∙ asks_no _ _ _ (rw (ne_eqb (length users) 0 h) tt)

      remove_done : length users ≡ 0 → (f : File) → table_find (named name) p.files ≡ some f
          → step_remove_area p name lent ≡ done (with_tables p p.layers p.sys (table_put (named name) (book_live f) p.files) (table_remove (named name) p.areas)) lent
      remove_done h f found =
          asks_yes _ _ _ mine ∙ asks_yes _ _ _ (rw ordinary tt) ∙ given_some _ _ _ _ there ∙ asks_yes _ _ _ (rw (eq-eqb (length users) 0 h) tt)
          ∙ given_some _ _ _ _ found

-- ---- by what was found

-- The message means the unit, and its name is not SYS's or MAP's.
pub record Ordinary (image : List ℕ) (state : State) (o : Unit) (name : Name) (n : ℕ) : Type 0 where
  pub meant : Meant image state o (unit_in name)
  pub is : n ≡ named name
  pub other : is_system n ≡ false

-- Descriptor j is that of the name.
pub record Live (image : List ℕ) (state : State) (o : Unit) (name : Name) (n j : ℕ) (area : Area) : Type 0 where
  pub ordinary : Ordinary image state o name n
  pub found : area_named n state ≡ Some j
  pub its : area ≡ area_at state j

-- of the message in hand
pub ordinary : {image : List ℕ} {state : State} {o : Unit} {name stored : Name} {b : Bool} → Meant image state o (unit_in name) → NameIs stored (named name) → b ≡ is_system (packed stored) → b ≡ false
    → Ordinary image state o name (packed stored)
ordinary meant is system f = record { meant = meant; is = is.packed; other = sym system ∙ f }

pub live : {image : List ℕ} {state : State} {o : Unit} {name : Name} {n j : ℕ} {area : Area} → Ordinary image state o name n → area_named n state ≡ Some j → area ≡ area_at state j
    → Live image state o name n j area
live ordinary found its = record { ordinary = ordinary; found = found; its = its }

pub removes_system : {image : List ℕ} {state : State} {o : Unit} {name : Name} {n : ℕ} → Meant image state o (unit_in name) → n ≡ named name → is_system n ≡ true
    → RemovesArea image o state name image (record { result = 0x0A00; state = state })
removes_system {name = name} meant is h = record {
  all = λ p g rep num. record { step = λ lent. refuses (λ z. omega arith) (remove_system p name lent (meant_known meant rep) (ap is_system (sym is) ∙ h)) (refl, refl) };
}

module _ {image : List ℕ} {state : State} {o : Unit} {name : Name} {n : ℕ} (s : Ordinary image state o name n) where
  not_system : is_system (named name) ≡ false
  not_system = ap is_system (sym s.is) ∙ s.other

  pub removes_none : area_named n state ≡ None → RemovesArea image o state name image (record { result = 0; state = state })
  removes_none h = record {
    all = λ p g rep num. record {
      step = λ lent.
          let gone = same_absent state p rep.areas (named name) (ap (λ (m : ℕ). area_named m state) (sym s.is) ∙ h) in
          writes (remove_none p name lent (meant_known s.meant rep) not_system gone) (dummy_remove refl refl refl);
    };
  }

  pub area_inside : {j : ℕ} → area_named n state ≡ Some j → j < 8
  area_inside {j} found = omega (arith, named_inside state n j found, s.meant.standing.represents.areas.shaped.eight)

module _ {image : List ℕ} {state : State} {o : Unit} {name : Name} {n j : ℕ} {area : Area} (s : Live image state o name n j area) where
  abbrev users : Table AreaUser
  users = users_in (area_at state j).users

  mine : {p : Plain} → Represents image state p → T (known p (unit_in name))
  mine rep = meant_known s.ordinary.meant rep

  here : area_named (named name) state ≡ Some j
  here = ap (λ (m : ℕ). area_named m state) (sym s.ordinary.is) ∙ s.found

  there : {p : Plain} → Represents image state p → table_find (named name) p.areas ≡ some users
  there {p} rep = same_found state p rep.areas (named name) j here

  count_is : {p : Plain} → Represents image state p → length users ≡ user_count area
  count_is {p} rep =
      let inside : j < 8 = omega (arith, named_inside state n j s.found, rep.areas.shaped.eight) in
      users_count (area_at state j) (same_users state p rep.areas j inside (named_open state n j s.found)) ∙ ap (λ (a : Area). user_count a) (sym s.its)

  pub removes_used : user_count area ≢ 0 → RemovesArea image o state name image (record { result = 0; state = state })
  removes_used h = record {
    all = λ p g rep num. record {
      step = λ lent. writes (remove_used p name lent (mine rep) (not_system s.ordinary) users (there rep) (λ z. h (sym (count_is rep) ∙ z))) (dummy_remove refl refl refl);
    };
  }

  file_of : {p : Plain} → Good p → Represents image state p → (f : File) × (table_find (named name) p.files ≡ some f)
  file_of g rep = let a = g.areas (named name) users (there rep) in (a.file, a.entered)

  module _ {r : Option Place} (finds : FindsName image o n r) where
    sought : Sought image state o name n r
    sought = record { meant = s.ordinary.meant; is = s.ordinary.is; finds = finds }

    -- the name of an open area is entered
    pub removes_lost : {after : List ℕ} → r ≡ None → RemovesArea image o state name after (record { result = 0; state = state })
    removes_lost e = record {
      all = λ p g rep num.
          let f = file_of g rep in
          let entered = entry_of p (named name) f.0 (g.catalog.files (named name) f.0 f.1).ordinary f.1 in
          absurd (some≢none (sym entered ∙ (found sought g rep num).nothing e));
    }

    module _ {at : Place} (e : r ≡ Some at) where
      can_from : {p : Plain} → Good p → Represents image state p → NumbersOf o p → (f : File) × CanBookFrom image o at area.index.0 area.length p (named name) f
      can_from {p} g rep num =
          let f = file_of g rep in (
            f.0,
            record {
              on = on_disc g rep;
              numbers = num;
              file = f.1;
              at = name_at_lem sought g rep num e;
              index = ap (λ (a : Area). a.index.0) s.its ∙ same_index state p rep.areas (named name) j f.0 here f.1;
              live = ap (λ (a : Area). a.length) s.its ∙ same_size state p rep.areas (named name) j f.0 here f.1;
            },
          )

      pub can_book : CanBook image o at area.index.0 area.length
      can_book = let h = s.ordinary.meant.standing in record { unit = h.unit; name = named name; file = _; can = (can_from h.good h.represents h.numbers).1 }

      pub removes_done : user_count area ≡ 0 → {after : List ℕ} {next : State} → Booked image o at area.index.0 area.length after → next ≡ area_closed state j
          → RemovesArea image o state name after (record { result = 0; state = next })
      removes_done vacant book closes = record {
        all = λ p g rep num. record {
          step = λ lent.
              let c = (can_from g rep num).1 in
              let none_there : length users ≡ 0 = count_is rep ∙ vacant in
              writes (remove_done p name lent (mine rep) (not_system s.ordinary) users (there rep) none_there _ c.file)
              (books (record {
                f = _;
                file = c.file;
                alone = there rep ∙ ap some (none_left users none_there);
                t = c.at.number;
                inside = c.at.is.inside;
                stands = c.at.named;
                j = j;
                found = here;
                unit = refl;
                left = closes;
                written = book.all p (named name) _ c;
              }));
        };
      }
