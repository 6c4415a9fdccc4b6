-- Create area and Remove area on a unit that image and state represent: their contracts have a result.
use Rattle.std.specs.Prelude.{Option, Some, None}
use mathlib.Core.Path.{◌≡◌, refl, sym, ap, ◌∙◌}
use mathlib.Core.Bool.{not}
use mathlib.Core.List.{List, []}
use mathlib.Core.Option.{none, some}
use Prim.Native.Nat.{ℕ, ◌/◌, ◌%◌, ◌<◌}
use native.Mathlib.Omega.{arith}
use native.Mathlib.Nat.{mod-lt}
use lib.Dec.{ltb, eqb, ltb→lt, eqb→eq}
use lib.ListN.{length}
use Rattle.types.specs.declared.Name.{Name}
use Rattle.types.specs.declared.State.{State}
use Rattle.disc.specs.Names.{is_system, named, unit_in}
use Rattle.disc.specs.Entries.{index_sector}
use Rattle.disc.proofs.NameLaws.{pack_words}
use Rattle.names.specs.NameIs.{NameIs}
use Rattle.state.specs.Areas.{area_named, vacant_area_of, area_opened, area_closed}
use Rattle.plain.specs.Table.{Table, table_find, table_put, is_some}
use Rattle.plain.specs.Unit.{Plain, File, sys_of, AreaUser, entry, with_areas}
use Rattle.plain.specs.Questions.{known, done}
use Rattle.plain.specs.Areas.{step_create_area, step_remove_area}
use Rattle.plain.specs.Good.{Good}
use Rattle.plain.proofs.TableLaws.{some≢none}
use Rattle.plain.proofs.UnitLaws.{entry_file, entry_of}
use Rattle.plain.proofs.QuestionLaws.{not_some}
use Rattle.refine.specs.Represents.{Represents}
use Rattle.refine.specs.Writes.{booked_image}
use Rattle.refine.proofs.StateLaws.{same_absent, same_full}
use Rattle.preservation.proofs.Whole.{on_disc}
use Rattle.preservation.proofs.WriteLaws.{words_file_entry}
use Rattle.lookup.proofs.FileLaws.{name_open_lem, name_absent}
use Rattle.disc.proofs.SliceLaws.{none_left}
use Rattle.areas.specs.Areas.{AreaCreated, dummy_create, made, AreaRemoved, dummy_remove, books}
use Rattle.witness.proofs.Ends.{Effect, Ends, ask, turn, finish, give}
use Rattle.witness.proofs.Files.{name_place}

-- the name of a file, as three words
file_name : {p : Plain} (g : Good p) (n : ℕ) (f : File) → table_find n p.files ≡ some f → NameIs (record { 0 = n / 0x100000000; 1 = n / 65536 % 65536; 2 = n % 65536 }) n
file_name {p} g n f file = record {
  packed = pack_words n;
  first = (words_file_entry p g n f file).each 0;
  second = mod-lt _ (omega arith);
  third = mod-lt _ (omega arith);
}

module _ {image : List ℕ} {state : State} {p : Plain} (g : Good p) (r : Represents image state p) where
  -- a name that has an area in the unit has one in the state
  open_at : (n : ℕ) {users : Table AreaUser} → table_find n p.areas ≡ some users → (j : ℕ) × (area_named n state ≡ Some j)
  open_at n h = go (area_named n state) refl
    where
      go : (found : Option ℕ) → area_named n state ≡ found → (j : ℕ) × (area_named n state ≡ Some j)
      go (Some j) e = (j, e)
      go None e = absurd (some≢none (sym h ∙ same_absent state p r.areas n e))

  -- ---- Create area

  abbrev opens : ℕ → Effect State
  opens n = record { Same = λ next. next ≡ state; Written = AreaCreated p state n; still = state; same = refl }

  module _ (name : Name) where
    abbrev n : ℕ
    n = named name

    -- a vacant descriptor is taken for the file f
    opened : (f : File) → table_find (named name) p.files ≡ some f → table_find (named name) p.areas ≡ none → length p.areas < 8
        → Ends p (λ (lent : List ℕ). lent) (opens (named name)) (λ lent. done (with_areas p (table_put (named name) [] p.areas)) lent)
    opened f file shut room = go (vacant_area_of state) refl
      where
        go : (found : Option ℕ) → vacant_area_of state ≡ found → Ends p (λ (lent : List ℕ). lent) (opens (named name)) (λ lent. done (with_areas p (table_put (named name) [] p.areas)) lent)
        go None e = absurd (omega (arith, same_full state p r.areas g.area_names e))
        go (Some j) e = finish _ (area_opened state j _ (record { 0 = index_sector p.F p.s (length f.slices) f.slices }) (length f.sectors)) (made (record {
          f = f;
          file = file;
          absent = name_absent n state (name_open_lem r.areas n ∙ ap is_some shut);
          j = j;
          vacant = e;
          name = _;
          is = file_name g n f file;
          unit = refl;
          left = refl;
        }))

    pub create_area_ends : Ends p (λ lent. lent) (opens (named name)) (step_create_area p name)
    create_area_ends =
        ask (known p (unit_in name)) 0x0A00 (omega arith) (λ _. ask (is_some (entry p n)) 0x4800 (omega arith) (λ entered. ask (not (is_system n)) 0x0A00 (omega arith) (λ ordinary.
        turn (not (is_some (table_find n p.areas))) (finish p state (dummy_create refl refl)) (λ shut. ask (ltb (length p.areas) 8) 0x0900 (omega arith) (λ room.
        let file = entry_file p n entered ordinary in
        opened file.0 file.1 (not_some (table_find n p.areas) shut) (ltb→lt (length p.areas) 8 room))))))

    -- ---- Remove area

    abbrev closes : Effect (List ℕ × State)
    closes = record { Same = λ l. (l.0 ≡ image) × (l.1 ≡ state); Written = λ l. AreaRemoved p image state (named name) l.0 l.1; still = (image, state); same = (refl, refl) }

    dummy : Ends p (λ (lent : List ℕ). lent) closes (λ lent. done p lent)
    dummy = finish p (image, state) (dummy_remove refl refl refl)

    pub remove_area_ends : Ends p (λ lent. lent) closes (step_remove_area p name)
    remove_area_ends =
        ask (known p (unit_in name)) 0x0A00 (omega arith) (λ _. ask (not (is_system n)) 0x0A00 (omega arith) (λ ordinary.
        give (table_find n p.areas) dummy (λ users live. turn (eqb (length users) 0) dummy (λ nobody. give (table_find n p.files) dummy (λ f file.
        let at = open_at n live in
        let stands = name_place (on_disc g r) n (entry_of p n f ordinary file) in
        finish _ (booked_image p (sys_of p) image stands.0 n f, area_closed state at.0)
        (books (record {
          f = f;
          file = file;
          alone = live ∙ ap some (none_left users (eqb→eq (length users) 0 nobody));
          t = stands.0;
          inside = stands.1;
          stands = stands.2;
          j = at.0;
          found = at.1;
          unit = refl;
          left = refl;
          written = refl;
        })))))))
