-- A new file in the plain unit: where every question is answered yes, the unit is that of a file created on the unit in which SYS has
-- grown where it must, and it is good.
use mathlib.Core.Path.{◌≡◌, refl, sym, ap, ◌∙◌, subst}
use mathlib.Core.Bool.{not}
use mathlib.Core.List.{List, [], ◌++◌}
use mathlib.Core.Option.{none, some}
use Prim.Native.Nat.{ℕ, ◌+◌, ◌*◌, ◌≤◌, ◌<◌}
use native.Mathlib.Omega.{arith}
use lib.Dec.{T, leb, leb→le}
use lib.ListN.{length, get_or}
use Rattle.disc.specs.Numbers.{need, negative}
use Rattle.disc.specs.Names.{is_system, legal_name, key_of}
use Rattle.disc.specs.Attributes.{legal_attributes, legal_with, gives_entry_only}
use Rattle.disc.specs.Slices.{occurrences, InRangeOnce}
use Rattle.disc.specs.OneStretch.{taken_for_file}
use Rattle.disc.specs.Stretches.{stretch_count}
use Rattle.disc.specs.Catalog.{Catalog, is_reserved}
use Rattle.disc.proofs.SliceLaws.{occurrences_append}
use Rattle.disc.proofs.OneStretchLaws.{for_file_law, length_for_file}
use Rattle.plain.specs.Table.{Table, table_find, table_put, is_some, Every}
use Rattle.plain.specs.Unit.{Plain, File, AreaUser, M, held, slices_of, free_slices, entry, with_tables, with_files, sys_of}
use Rattle.plain.specs.Questions.{done}
use Rattle.plain.specs.Taking.{places_taken, layers_for, zero_sectors}
use Rattle.plain.specs.Catalog.{new_file}
use Rattle.plain.specs.Good.{Good, GoodCatalog, GoodFile, GoodArea, WordsOf}
use Rattle.plain.proofs.TableLaws.{weight_at, find_put_other, total_put}
use Rattle.plain.proofs.QuestionLaws.{asks_yes, not_some}
use Rattle.plain.proofs.AttributeLaws.{given_legal}
use Rattle.plain.proofs.UnitLaws.{vacant_name, no_area, holds, occurrences_held, area_name_lem}
use Rattle.plain.proofs.WordLaws.{length-zero_sectors, zero_sectors_words}
use Rattle.plain.proofs.TakingLaws.{chains_put}
use Rattle.plain.proofs.CatalogLaws.{catalog_placed}
use Rattle.plain.proofs.GrowUnit.{sys_extra, sys_taken, grown_to, not_grown, taken_grown, entry_grown, free_grown}
use Rattle.plain.proofs.KeepsAreas.{area_beside}

-- ---- one file in a table of others

-- a file whose length and slices are all booked
pub booked_good : (c : Catalog) (s : ℕ) (areas : Table (Table AreaUser)) (n : ℕ) (f : File) → T (legal_name n) → T (not (is_reserved c n)) → T (legal_attributes f.attributes)
    → T (legal_with f.attributes f.booked_slices) → WordsOf 3 f.optional → WordsOf 6 f.tail
    → ((b : ℕ) → b < length f.sectors → WordsOf 256 (get_or f.sectors b [])) → length f.sectors ≡ f.booked → f.booked_slices ≡ length f.slices
    → need s f.booked ≤ f.booked_slices → stretch_count f.slices ≤ 127 → GoodFile c s areas n f
booked_good c s areas n f legal ordinary attributes only optional tail sectors size count covered few =
    let long : need s (length f.sectors) ≤ length f.slices = rw (size, ← count) covered in
    search (arith, rw count at only)

-- the unit in which the name n, which has no area, has the file f, beside the files `others`
pub placed_good : (p : Plain) (n : ℕ) (f : File) (others : Table File) (g : Good p) → table_find n p.areas ≡ none
    → GoodCatalog p.H p.s (sys_of p) p.areas others
    → ((k : ℕ) (users : Table AreaUser) → table_find k p.areas ≡ some users → table_find k others ≡ table_find k p.files)
    → ((k : ℕ) → places_taken p.H k (sys_of p) (table_put n f others) ≤ 16 * p.layers)
    → InRangeOnce (M p) (p.sys ++ slices_of (table_put n f others))
    → GoodFile (sys_of p) p.s p.areas n f → Good (with_files p (table_put n f others))
placed_good p n f others g shut beside same chains once good =
    let areas : Every (GoodArea (table_put n f others)) p.areas = λ k users h.
    (let a = g.areas k users h in
    area_beside a a.file (find_put_other k n f others (area_name_lem p n shut k users h) ∙ same k users h ∙ a.entered) (omega arith)) in
    search (catalog_placed beside n f)

-- ---- a new file

-- What Create and Set ask of a file f with the new name n: "need(size) slices, size zero sectors, all booked".
pub record NewFile (p : Plain) (n : ℕ) (f : File) : Type 0 where
  pub name : T (legal_name n)
  pub fresh : entry p n ≡ none
  pub attributes : T (legal_attributes f.attributes)
  pub entry_only : T (legal_with f.attributes (need p.s f.booked))
  pub optional : WordsOf 3 f.optional
  pub tail : WordsOf 6 f.tail
  pub slices : f.slices ≡ taken_for_file (M p) (held p) [] (need p.s f.booked)
  pub sectors : f.sectors ≡ zero_sectors f.booked
  pub booked_slices : f.booked_slices ≡ need p.s f.booked
  pub room : need p.s f.booked ≤ free_slices p
  pub few : stretch_count f.slices ≤ 127

module _ {p : Plain} {n : ℕ} {f : File} (g : Good p) (new : NewFile p n f) where
  none_there : table_find n p.files ≡ none
  none_there = (vacant_name p n new.fresh).0

  pub ordinary : T (not (is_system n))
  ordinary = (vacant_name p n new.fresh).1

  pub long_sectors : length f.sectors ≡ f.booked
  long_sectors = ap length new.sectors ∙ length-zero_sectors f.booked

  abbrev new_slices : List ℕ
  new_slices = taken_for_file (M p) (held p) [] (need p.s f.booked)

  long_slices : length f.slices ≡ need p.s f.booked
  long_slices = ap length new.slices ∙ length_for_file (M p) (held p) [] (need p.s f.booked)

  pub held_more : (k : ℕ) → occurrences k (held (with_files p (table_put n f p.files))) ≡ occurrences k f.slices + occurrences k (held p)
  held_more k =
      omega (
        arith,
        occurrences_held k p.sys p.files,
        occurrences_held k p.sys (table_put n f p.files),
        total_put (holds k) n f p.files,
        ap (weight_at (holds k) n) none_there,
      )

  pub created_good : places_taken p.H (key_of p.H n) (sys_of p) p.files < 16 * p.layers → Good (with_files p (table_put n f p.files))
  created_good places =
      placed_good p n f p.files g (no_area p n g none_there) g.catalog (λ k users h. refl) (chains_put p.H (sys_of p) p.layers n f p.files g.catalog.chains places)
      (λ k. omega (
        arith,
        held_more k,
        ap (occurrences k) new.slices,
        for_file_law (M p) (held p) [] (need p.s f.booked) g.once new.room k,
        occurrences_append k new_slices (held p),
      ))
      (booked_good (sys_of p) p.s p.areas n f new.name ordinary new.attributes (rw new.booked_slices new.entry_only) new.optional new.tail
      (rw new.sectors (zero_sectors_words f.booked)) long_sectors (new.booked_slices ∙ sym long_slices) (omega (arith, new.booked_slices)) new.few)

-- ---- the questions of Create and Set

-- A file of `size` zero sectors with these slices, all booked.
abbrev pub zero_file : ℕ → ℕ → ℕ → List ℕ → List ℕ → List ℕ → File
zero_file s size attributes optional tail slices = record {
  attributes = attributes;
  optional = optional;
  tail = tail;
  booked = size;
  booked_slices = need s size;
  slices = slices;
  sectors = zero_sectors size;
}

-- The file with the slices that it takes in the unit p.
abbrev pub zero_file_of : Plain → ℕ → ℕ → List ℕ → List ℕ → File
zero_file_of p size attributes optional tail = zero_file p.s size attributes optional tail (taken_for_file (M p) (held p) [] (need p.s size))

-- the file's slices, after SYS has taken its own for l layers
abbrev pub slices_left : Plain → ℕ → ℕ → List ℕ
slices_left p l size = taken_for_file (M p) (sys_taken p l ++ held p) [] (need p.s size)

-- The unit where every question is answered yes.
abbrev pub unit_after : Plain → ℕ → ℕ → ℕ → ℕ → List ℕ → List ℕ → Plain
unit_after p l n size attributes optional tail =
    with_tables p l (p.sys ++ sys_taken p l) (table_put n (zero_file p.s size attributes optional tail (slices_left p l size)) p.files) p.areas

-- The questions of Create and Set from question 4's name on, with SYS at l layers.
pub record Yes (p : Plain) (l n size attributes : ℕ) : Type 0 where
  pub name : T (legal_name n)
  pub short : T (not (negative size))
  pub allowed : T (legal_attributes attributes)
  pub given : T (not (gives_entry_only attributes))
  pub vacant : T (not (is_some (entry p n)))
  pub room : T (leb (sys_extra p l + need p.s size) (free_slices p))
  pub sys_few : T (leb (stretch_count (p.sys ++ sys_taken p l)) 127)
  pub few : T (leb (stretch_count (slices_left p l size)) 127)

pub new_file_done : (p : Plain) (n size attributes : ℕ) (optional tail lent : List ℕ) → Yes p (layers_for p.H (sys_of p) n p.files) n size attributes
    → new_file p n size attributes optional tail lent ≡ done (unit_after p (layers_for p.H (sys_of p) n p.files) n size attributes optional tail) lent
unfolding new_file
new_file_done p n size attributes optional tail lent y =
    asks_yes _ _ _ y.name ∙ asks_yes _ _ _ y.short ∙ asks_yes _ _ _ y.allowed ∙ asks_yes _ _ _ y.given ∙ asks_yes _ _ _ y.vacant
    ∙ asks_yes _ _ _ y.room ∙ asks_yes _ _ _ y.sys_few ∙ asks_yes _ _ _ y.few

-- ---- the file is made on the unit with SYS grown

module _ {p : Plain} {l n size attributes : ℕ} (y : Yes p l n size attributes) where
  pub sys_room : sys_extra p l ≤ free_slices p
  sys_room = omega (arith, leb→le (sys_extra p l + need p.s size) (free_slices p) y.room)

  pub sys_few_lem : stretch_count (p.sys ++ sys_taken p l) ≤ 127
  sys_few_lem = leb→le _ _ y.sys_few

module _ (p : Plain) (l n size attributes : ℕ) (optional tail : List ℕ) where
  pub unit_grown : unit_after p l n size attributes optional tail
      ≡ with_files (grown_to p l) (table_put n (zero_file_of (grown_to p l) size attributes optional tail) p.files)
  unit_grown =
      ap (λ (x : List ℕ). with_tables p l (p.sys ++ sys_taken p l) (table_put n (zero_file p.s size attributes optional tail x) p.files) p.areas)
      (taken_grown p l [] (need p.s size))

  pub new_grown : Good p → Yes p l n size attributes → WordsOf 3 optional → WordsOf 6 tail → NewFile (grown_to p l) n (zero_file_of (grown_to p l) size attributes optional tail)
  new_grown g y three six =
      let room : need p.s size ≤ free_slices (grown_to p l) = omega (arith, leb→le (sys_extra p l + need p.s size) (free_slices p) y.room, free_grown p l g (sys_room y)) in
      search (
        y,
        entry_grown p l n (not_some (entry p n) y.vacant),
        given_legal attributes (need p.s size) y.allowed y.given,
        rw (taken_grown p l [] (need p.s size)) at (leb→le (stretch_count (slices_left p l size)) 127 y.few),
      )

-- ---- SYS stays: the file is made on p

module _ {p : Plain} (g : Good p) (n size attributes : ℕ) (optional tail : List ℕ) where
  pub unit_stays : unit_after p p.layers n size attributes optional tail ≡ with_files p (table_put n (zero_file_of p size attributes optional tail) p.files)
  unit_stays =
      unit_grown p p.layers n size attributes optional tail
      ∙ ap (λ (q : Plain). with_files q (table_put n (zero_file_of q size attributes optional tail) p.files)) (not_grown p g)

  pub new_stays : Yes p p.layers n size attributes → WordsOf 3 optional → WordsOf 6 tail → NewFile p n (zero_file_of p size attributes optional tail)
  new_stays y three six =
      subst (λ (q : Plain). NewFile q n (zero_file_of q size attributes optional tail)) (not_grown p g) (new_grown p p.layers n size attributes optional tail g y three six)
