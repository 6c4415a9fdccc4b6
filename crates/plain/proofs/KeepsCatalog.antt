-- Every catalog message keeps `Good`.
use mathlib.Core.Path.{◌≡◌, ◌∙◌}
use mathlib.Core.List.{List, ◌++◌}
use mathlib.Core.Option.{none, some}
use Prim.Native.Nat.{ℕ, ◌≤◌}
use native.Mathlib.Omega.{arith}
use lib.ListN.{length}
use lib.Dec.{T, leb→le}
use Rattle.types.specs.declared.Name.{Name}
use Rattle.disc.specs.Words.{Words}
use Rattle.disc.specs.Slices.{InRangeOnce}
use Rattle.plain.specs.Table.{Table, table_find, table_remove, Every}
use Rattle.plain.specs.Unit.{Plain, File, with_files, sys_of, M, slices_of}
use Rattle.plain.specs.Taking.{layers_for}
use Rattle.plain.specs.Catalog.{step_init, new_file, step_create, step_set, step_look_up, step_remove, change_file, step_change, is_record}
use Rattle.plain.specs.Good.{Good, GoodArea, WordsOf}
use Rattle.plain.proofs.TableLaws.{find_remove_other, total_remove}
use Rattle.plain.proofs.QuestionLaws.{asks_law, given_law, not_some}
use Rattle.plain.proofs.UnitLaws.{holds, occurrences_held, area_name_lem}
use Rattle.plain.proofs.TakingLaws.{layers_up, layers_fit}
use Rattle.plain.proofs.CatalogLaws.{catalog_removed}
use Rattle.plain.proofs.WordLaws.{words_of_zeros, optional_words, tail_words}
use Rattle.plain.proofs.GrowUnit.{grown_good}
use Rattle.plain.proofs.CreateUnit.{created_good, Yes, sys_room, sys_few_lem, unit_grown, new_grown}
use Rattle.plain.proofs.ChangeUnit.{change_unit, changed_keeps}
use Rattle.plain.proofs.KeepsAreas.{Keeps, area_beside}

-- ---- Init, Look-up

pub init_keeps : (p : Plain) (unit : ℕ) (lent : List ℕ) → Good p → Keeps (step_init p unit lent)
init_keeps p unit lent g = asks_law Keeps _ g λ _. asks_law Keeps _ g λ _. g

pub look_up_keeps : (p : Plain) (name : Name) (lent : List ℕ) → Good p → Keeps (step_look_up p name lent)
look_up_keeps p name lent g = asks_law Keeps _ g λ _. given_law Keeps _ g λ _ _. asks_law Keeps _ g λ _. g

-- ---- Remove

pub removed_good : (p : Plain) (n : ℕ) → Good p → table_find n p.areas ≡ none → Good (with_files p (table_remove n p.files))
removed_good p n g e =
    let files : Table File = table_remove n p.files in
    let once : InRangeOnce (M p) (p.sys ++ slices_of files) = λ k. omega (arith, g.once k, occurrences_held k p.sys p.files, occurrences_held k p.sys files, total_remove (holds k) n p.files) in
    let areas : Every (GoodArea files) p.areas = λ k users h.
    (let a = g.areas k users h in
    area_beside a a.file (find_remove_other k n 0 p.files g.catalog.names (area_name_lem p n e k users h) ∙ a.entered) (omega arith)) in
    search (catalog_removed g.catalog n)

pub remove_keeps : (p : Plain) (name : Name) (lent : List ℕ) → Good p → Keeps (step_remove p name lent)
remove_keeps p name lent g =
    asks_law Keeps _ g λ _.
    asks_law Keeps _ g λ _.
    given_law Keeps _ g λ f e.
    asks_law Keeps _ g λ closed.
    asks_law Keeps _ g λ _.
    removed_good p _ g (not_some _ closed)

-- ---- Create and Set

new_file_keeps : (p : Plain) (n size attributes : ℕ) (optional tail lent : List ℕ) → Good p → WordsOf 3 optional → WordsOf 6 tail → Keeps (new_file p n size attributes optional tail lent)
unfolding new_file
new_file_keeps p n size attributes optional tail lent g three six =
    asks_law Keeps _ g λ legal.
    asks_law Keeps _ g λ short.
    asks_law Keeps _ g λ allowed.
    asks_law Keeps _ g λ given.
    asks_law Keeps _ g λ vacant.
    asks_law Keeps _ g λ room.
    asks_law Keeps _ g λ sys_few.
    asks_law Keeps _ g λ few.
    let l : ℕ = layers_for p.H (sys_of p) n p.files in
    let y : Yes p l n size attributes = search in
    rw (unit_grown p l n size attributes optional tail)
    (created_good (grown_good p l g (sys_room y) (layers_up p.H (sys_of p) n p.files) (sys_few_lem y)) (new_grown p l n size attributes optional tail g y three six)
    (layers_fit p.H (sys_of p) n p.files g.catalog.chains))

pub create_keeps : (p : Plain) (name : Name) (size attributes : ℕ) (lent : List ℕ) → Good p → Keeps (step_create p name size attributes lent)
create_keeps p name size attributes lent g =
    asks_law Keeps _ g λ _. new_file_keeps p _ size attributes _ _ lent g (words_of_zeros 3) (words_of_zeros 6)

pub set_keeps : (p : Plain) (name : Name) (lent : List ℕ) → Good p → Words lent → Keeps (step_set p name lent)
set_keeps p name lent g w =
    asks_law Keeps _ g λ _.
    asks_law Keeps _ g λ r.
    let long : 16 ≤ length lent = leb→le 16 (length lent) r in
    new_file_keeps p _ _ _ _ _ lent g (optional_words lent w long) (tail_words lent w long)

-- ---- Change

change_file_keeps : (p : Plain) (n : ℕ) (f : File) (m size attributes : ℕ) (lent : List ℕ) → Good p → table_find n p.files ≡ some f → Words lent → T (is_record lent)
    → Keeps (change_file p n f m size attributes lent)
unfolding change_file
change_file_keeps p n f m size attributes lent g found w r =
    asks_law Keeps _ g λ legal.
    asks_law Keeps _ g λ allowed.
    asks_law Keeps _ g λ only.
    asks_law Keeps _ g λ shut.
    asks_law Keeps _ g λ free.
    asks_law Keeps _ g λ vacant.
    asks_law Keeps _ g λ room.
    asks_law Keeps _ g λ sys_few.
    asks_law Keeps _ g λ few.
    rw (change_unit p n m size attributes f lent)
    (changed_keeps p n m size attributes f lent g found (search) w r)

pub change_keeps : (p : Plain) (name : Name) (lent : List ℕ) → Good p → Words lent → Keeps (step_change p name lent)
change_keeps p name lent g w =
    asks_law Keeps _ g λ _.
    asks_law Keeps _ g λ _.
    asks_law Keeps _ g λ r.
    given_law Keeps _ g λ f e.
    asks_law Keeps _ g λ _.
    change_file_keeps p _ f _ _ _ lent g e w r
