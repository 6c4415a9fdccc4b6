-- The open areas beside the writes: the messages that leave the state alone, and area create and remove.
use Rattle.std.specs.Prelude.{Some, None}
use mathlib.Core.Path.{◌≡◌, refl, sym, ap, ap₂, ◌∙◌}
use mathlib.Core.List.{List, []}
use mathlib.Core.Logic.{◌≢◌}
use mathlib.Core.Option.{Option, none, some}
use Prim.Native.Nat.{ℕ}
use lib.ListN.{length}
use Rattle.types.specs.declared.Name.{Name}
use Rattle.types.specs.declared.Sector.{Sector}
use Rattle.types.specs.declared.State.{State}
use Rattle.disc.specs.Entries.{index_sector}
use Rattle.disc.specs.Names.{packed}
use Rattle.state.specs.Areas.{area_named, vacant_area_of, created_area, area_opened, area_closed}
use Rattle.plain.specs.Table.{Table, table_find, table_put, table_remove, SortedFrom}
use Rattle.plain.specs.Unit.{Plain, File, AreaUser, held, free_sectors, entry, with_tables, with_files, with_areas}
use Rattle.plain.specs.Areas.{book_live}
use Rattle.plain.specs.Good.{Good}
use Rattle.plain.proofs.TableLaws.{find_put, find_put_other, find_remove, find_remove_other}
use Rattle.plain.proofs.UnitLaws.{no_area, area_name_lem, entry_beside}
use Rattle.refine.specs.Represents.{area_of_state, area_of_unit, SameAreas, Layout}
use Rattle.refine.specs.OnDisc.{OnDisc}
use Rattle.refine.proofs.UserLaws.{created_users}
use Rattle.refine.proofs.StateLaws.{unit_area, same_created, same_closed}
use Rattle.refine.proofs.Writers.{relabel}
use Rattle.preservation.proofs.BookStep.{booked_unit}

-- ---- the state stays

-- other layers, slices of SYS and files, where the files of open areas stay
pub files_areas : {state : State} {p : Plain} (layers : ℕ) (sys : List ℕ) (files : Table File) → SameAreas state p
    → ((m : ℕ) (users : Table AreaUser) → table_find m p.areas ≡ some users → table_find m files ≡ table_find m p.files)
    → SameAreas state (with_tables p layers sys files p.areas)
files_areas {p = p} layers sys files r same = record {
  shaped = r.shaped;
  number = r.number;
  distinct = r.distinct;
  distinct_users = r.distinct_users;
  each = λ m. r.each m ∙ go m (table_find m p.areas) refl;
}
  where
    go : (m : ℕ) (o : Option (Table AreaUser)) → table_find m p.areas ≡ o → area_of_unit p.F p.s o (table_find m p.files) ≡ area_of_unit p.F p.s o (table_find m files)
    go m none e = refl
    go m (some users) e = ap (area_of_unit p.F p.s (some users)) (sym (same m users e))

-- Remove: the name is not open
pub remove_areas : {state : State} {p : Plain} (n : ℕ) → Good p → table_find n p.areas ≡ none → SameAreas state p → SameAreas state (with_files p (table_remove n p.files))
remove_areas {p = p} n g shut r =
    files_areas p.layers p.sys (table_remove n p.files) r (λ m users h. find_remove_other m n 0 p.files g.catalog.names (area_name_lem p n shut m users h))

-- Create, Set: the name is new
pub create_areas : {state : State} {p : Plain} (n : ℕ) (f : File) → Good p → table_find n p.files ≡ none → SameAreas state p → SameAreas state (with_files p (table_put n f p.files))
create_areas {p = p} n f g fresh r =
    files_areas p.layers p.sys (table_put n f p.files) r (λ m users h. find_put_other m n f p.files (area_name_lem p n (no_area p n g fresh) m users h))

-- ---- the image stays

pub areas_on : {i : List ℕ} {p : Plain} (areas : Table (Table AreaUser)) → OnDisc i p → Good (with_areas p areas) → OnDisc i (with_areas p areas)
areas_on {i} {p} areas o g =
    let r = o.layout in
    let l : Layout i (with_areas p areas) (free_sectors p) (held p) (entry p) =
    record { size = r.size; kit = r.kit; map = r.map; sys = r.sys; map_index = r.map_index; files = r.files } in
    record {
      good = g;
      words = o.words;
      layout = relabel l refl (λ x. refl) (λ m. entry_beside p p.files areas m refl);
    }

-- ---- Create area

module _ {state : State} {p : Plain} (r : SameAreas state p) (n j : ℕ) (f : File) (found : table_find n p.files ≡ some f) where
  -- the lowest vacant descriptor is taken for a name that is not open
  pub open_areas : (name : Name) (index : Sector) (size : ℕ) → area_named n state ≡ None → vacant_area_of state ≡ Some j → packed name ≡ n
      → index.0 ≡ index_sector p.F p.s (length f.slices) f.slices → size ≡ length f.sectors
      → SameAreas (area_opened state j name index size) (with_areas p (table_put n [] p.areas))
  open_areas name index size absent vacant named at long =
      same_created state p r n j (created_area name index size) (with_areas p (table_put n [] p.areas)) absent vacant refl named (created_users name index size) refl own rest
    where
      own : area_of_state (some (created_area name index size)) ≡ unit_area (with_areas p (table_put n [] p.areas)) n
      own =
          rw (find_put n [] p.areas, found)
          (ap₂ (λ (x y : ℕ). some (record { index = x; size = y; users = [] })) at long)

      rest : (m : ℕ) → m ≢ n → unit_area (with_areas p (table_put n [] p.areas)) m ≡ unit_area p m
      rest m d = rw (find_put_other m n [] p.areas d)

  -- ---- Remove area

  -- the descriptor of the name is vacant again
  pub close_areas : Good p → area_named n state ≡ Some j → SameAreas (area_closed state j) (booked_unit p n f)
  close_areas g e =
      same_closed state p r n j (booked_unit p n f) e refl (find_remove n 0 p.areas g.area_names)
      (λ m d. ap₂ (area_of_unit p.F p.s) (find_remove_other m n 0 p.areas g.area_names d) (find_put_other m n (book_live f) p.files d))

-- ---- Change: layers, SYS slices or closed files change, and the open areas are the state's as before

module _ {state : State} {p : Plain} (a : SameAreas state p) where
  -- SYS grown
  pub areas_grown : (layers : ℕ) (sys : List ℕ) → SameAreas state (with_tables p layers sys p.files p.areas)
  areas_grown layers sys = files_areas layers sys p.files a (λ k users h. refl)

  -- file n is another file m, neither of them open
  pub areas_changed : (n m : ℕ) (f : File) → SortedFrom 0 p.files → table_find n p.areas ≡ none → table_find m p.areas ≡ none
      → SameAreas state (with_files p (table_put m f (table_remove n p.files)))
  areas_changed n m f sorted shut shutₘ =
      files_areas p.layers p.sys (table_put m f (table_remove n p.files)) a (λ k users h.
      find_put_other k m f (table_remove n p.files) (area_name_lem p m shutₘ k users h) ∙ find_remove_other k n 0 p.files sorted (area_name_lem p n shut k users h))
