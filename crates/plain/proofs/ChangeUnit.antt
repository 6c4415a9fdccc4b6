-- Change in the plain unit: SYS takes before the file, and the unit that comes of it is that of a change on the unit with SYS
-- grown, which is good. The questions of the message give what the steps on the image ask for.
use mathlib.Core.Path.{◌≡◌, refl, sym, ap, ◌∙◌}
use mathlib.Core.Bool.{Bool, true, false, not, ◌&&◌, ◌||◌, cond}
use mathlib.Core.List.{List, ◌++◌}
use mathlib.Core.Logic.{◌≢◌}
use mathlib.Core.Option.{none, some}
use Prim.Native.Nat.{ℕ, ◌+◌, ◌*◌, ◌-◌, ◌≤◌, ◌<◌}
use native.Mathlib.Omega.{arith}
use lib.Dec.{T, leb, eqb, leb→le, eqb→eq}
use lib.ListN.{length, take}
use borrow.Author.Tests.{eq-eqb, ne_eqb}
use Rattle.disc.specs.Numbers.{need}
use Rattle.disc.specs.Words.{Words}
use Rattle.disc.specs.Names.{legal_name, is_system, key_of}
use Rattle.disc.specs.Attributes.{legal_attributes, legal_with, permanent}
use Rattle.disc.specs.Slices.{occurrences}
use Rattle.disc.specs.OneStretch.{taken_for_file}
use Rattle.disc.specs.Stretches.{stretch_count}
use Rattle.disc.proofs.Compare.{same_or}
use Rattle.disc.proofs.SliceLaws.{occurrences_append, occurrences-take, length_after}
use Rattle.disc.proofs.OneStretchLaws.{for_file_law, length_for_file}
use Rattle.plain.specs.Table.{Table, table_find, table_put, table_remove, is_some}
use Rattle.plain.specs.Unit.{Plain, File, M, held, free_slices, entry, with_tables, with_files, sys_of}
use Rattle.plain.specs.Questions.{done}
use Rattle.plain.specs.Taking.{Taking, taking, layers_for, places_taken}
use Rattle.plain.specs.Catalog.{is_record, slices_after, resized, changed, change_file}
use Rattle.plain.specs.Good.{Good, WordsOf}
use Rattle.plain.proofs.TableLaws.{weight_at, find_remove_other, total_put, total_remove}
use Rattle.plain.proofs.QuestionLaws.{asks_yes, cond_law, or_case, not_some}
use Rattle.plain.proofs.UnitLaws.{holds, occurrences_held, vacant_name, no_area, area_name_lem}
use Rattle.plain.proofs.WordLaws.{optional_words, tail_words, length_resized, resized_words}
use Rattle.plain.proofs.TakingLaws.{layers_up, layers_fit, places_same, chains_put}
use Rattle.plain.proofs.CatalogLaws.{catalog_removed}
use Rattle.plain.proofs.GrowUnit.{sys_extra, grown_to, not_grown, taken_grown, free_grown, grown_good}
use Rattle.plain.proofs.CreateUnit.{booked_good, placed_good}

-- ---- one file in the place of another

-- File f becomes f', of `size` sectors in `count` slices: "gives back from the end or takes until need is met; sectors
-- that join are zero"; with what the questions have made sure of.
pub record Changes (p : Plain) (f f' : File) (size count : ℕ) : Type 0 where
  pub slices : f'.slices ≡ take count f.slices ++ taken_for_file (M p) (held p) f.slices (count - length f.slices)
  pub sectors : f'.sectors ≡ resized size f.sectors
  pub booked : f'.booked ≡ size
  pub booked_slices : f'.booked_slices ≡ count
  pub needed : need p.s size ≤ count
  pub attributes : T (legal_attributes f'.attributes)
  pub entry_only : T (legal_with f'.attributes count)
  pub optional : WordsOf 3 f'.optional
  pub tail : WordsOf 6 f'.tail
  pub room : count - length f.slices ≤ free_slices p
  pub few : stretch_count f'.slices ≤ 127

module _ {p : Plain} {f f' : File} {size count : ℕ} (c : Changes p f f' size count) where
  abbrev new : List ℕ
  new = taken_for_file (M p) (held p) f.slices (count - length f.slices)

  pub changes_count : length f'.slices ≡ count
  changes_count = length_after f.slices f'.slices new count (length_for_file (M p) (held p) f.slices (count - length f.slices)) c.slices

  pub changes_size : length f'.sectors ≡ size
  changes_size = ap length c.sectors ∙ length_resized size f.sectors

  -- the unit afterwards is good: file f of name n is f' of name m
  pub changed_good : Good p → (n m : ℕ) → table_find n p.files ≡ some f → table_find n p.areas ≡ none → table_find m p.areas ≡ none
      → T (legal_name m) → T (not (is_system m)) → ((k : ℕ) → places_taken p.H k (sys_of p) (table_put m f' (table_remove n p.files)) ≤ 16 * p.layers)
      → Good (with_files p (table_put m f' (table_remove n p.files)))
  changed_good g n m found shut shutₘ legal ordinary chains =
      let others : Table File = table_remove n p.files in
      placed_good p m f' others g shutₘ (catalog_removed g.catalog n)
      (λ k users h. find_remove_other k n 0 p.files g.catalog.names (area_name_lem p n shut k users h))
      chains
      (λ k. omega (
        arith,
        occurrences_held k p.sys p.files,
        occurrences_held k p.sys (table_put m f' others),
        total_put (holds k) m f' others,
        total_remove (holds k) n p.files,
        ap (weight_at (holds k) n) found,
        ap (occurrences k) c.slices,
        occurrences_append k (take count f.slices) new,
        occurrences_append k new (held p),
        occurrences-take k count f.slices,
        for_file_law (M p) (held p) f.slices (count - length f.slices) g.once c.room k,
      ))
      (booked_good (sys_of p) p.s p.areas m f' legal ordinary c.attributes (rw c.booked_slices c.entry_only) c.optional c.tail
      (rw c.sectors (resized_words size f.sectors (g.catalog.files n f found).sectors)) (changes_size ∙ sym c.booked) (c.booked_slices ∙ sym changes_count)
      (rw (c.booked, c.booked_slices) c.needed) c.few)

-- ---- Change of file f, name n, to the name m

module _ (p : Plain) (n m size attributes : ℕ) (f : File) (lent : List ℕ) where
  -- the layers of SYS, and the slices of the file, afterwards
  abbrev pub change_layers : ℕ
  change_layers = cond (eqb m n) p.layers (layers_for p.H (sys_of p) m (table_remove n p.files))

  abbrev pub change_count : ℕ
  change_count = slices_after p.s size f

  abbrev pub change_taking : Taking
  change_taking = taking p (sys_of p) change_layers f.slices (change_count - length f.slices)

  -- the unit with SYS grown, and the file as it changes on a unit q
  abbrev pub change_grown : Plain
  change_grown = grown_to p change_layers

  abbrev pub changed_on : Plain → File
  changed_on q =
      changed f attributes size change_count
      (take change_count f.slices ++ taken_for_file (M q) (held q) f.slices (change_count - length f.slices)) lent

  -- the unit after the change on a unit q
  abbrev pub changed_unit : Plain → Plain
  changed_unit q = with_files q (table_put m (changed_on q) (table_remove n q.files))

  -- the unit that `enough` gives to `done`
  abbrev slices : List ℕ
  slices = take change_count f.slices ++ change_taking.file_new

  abbrev files : Table File
  files = table_put m (changed f attributes size change_count slices lent) (table_remove n p.files)

  slices_grown : slices ≡ (changed_on change_grown).slices
  slices_grown =
      ap (λ (l : List ℕ). take change_count f.slices ++ l) (taken_grown p change_layers f.slices (change_count - length f.slices))

  pub change_unit : with_tables p change_taking.layers (p.sys ++ change_taking.catalog_new) files p.areas
      ≡ changed_unit change_grown
  change_unit =
      ap
      (λ (l : List ℕ). with_files change_grown (table_put m (changed f attributes size change_count l lent) (table_remove n p.files)))
      slices_grown

  -- the questions of `change_file`, each with yes
  pub record ChangeAsked : Type 0 where
    pub legal : T (legal_name m)
    pub allowed : T (legal_attributes attributes)
    pub only : T (legal_with attributes change_count)
    pub shut : T (not (is_some (table_find n p.areas)))
    pub free : T (not (permanent f.attributes) || (eqb m n && eqb size f.booked))
    pub vacant : T (eqb m n || not (is_some (entry p m)))
    pub room : T (leb (change_taking.for_catalog + change_taking.for_file) (free_slices p))
    pub sys_few : T (leb (stretch_count (p.sys ++ change_taking.catalog_new)) 127)
    pub few : T (leb (stretch_count slices) 127)

  pub change_outcome : ChangeAsked → change_file p n f m size attributes lent ≡ done (changed_unit change_grown) lent
  unfolding change_file
  change_outcome a =
      asks_yes _ _ _ a.legal ∙ asks_yes _ _ _ a.allowed ∙ asks_yes _ _ _ a.only ∙ asks_yes _ _ _ a.shut ∙ asks_yes _ _ _ a.free
      ∙ asks_yes _ _ _ a.vacant ∙ asks_yes _ _ _ a.room ∙ asks_yes _ _ _ a.sys_few ∙ asks_yes _ _ _ a.few
      ∙ ap (λ (q : Plain). done q lent) change_unit

  module _ (g : Good p) (found : table_find n p.files ≡ some f) (asked : ChangeAsked) where
    pub change_shut : table_find n p.areas ≡ none
    change_shut = not_some (table_find n p.areas) asked.shut

    -- need of the length is met by the slices after the message
    change_needed : need p.s size ≤ change_count
    change_needed = go (eqb size f.booked) refl
      where
        go : (b : Bool) → eqb size f.booked ≡ b → need p.s size ≤ cond b (length f.slices) (need p.s size)
        go true q =
            let fg = g.catalog.files n f found in
            let same : size ≡ length f.sectors = eqb→eq size f.booked (rw q tt) ∙ (fg.closed change_shut).0 in
            rw same fg.covered
        go false q = omega arith

    pub change_changes : Words lent → T (is_record lent) → Changes change_grown f (changed_on change_grown) size change_count
    change_changes w r =
        let fg = g.catalog.files n f found in
        let all : sys_extra p change_layers + (change_count - length f.slices) ≤ free_slices p = leb→le _ _ asked.room in
        record {
          slices = refl;
          sectors = refl;
          booked = refl;
          booked_slices = refl;
          needed = change_needed;
          attributes = asked.allowed;
          entry_only = asked.only;
          optional = cond_law (WordsOf 3) (permanent f.attributes) _ _ fg.optional (optional_words lent w (leb→le 16 (length lent) r));
          tail = cond_law (WordsOf 6) (permanent f.attributes) _ _ fg.tail (tail_words lent w (leb→le 16 (length lent) r));
          room = omega (arith, free_grown p change_layers g (omega arith));
          few = rw slices_grown at (leb→le (stretch_count slices) 127 asked.few);
        }

  -- ---- the name kept: SYS does not grow

  pub kept_layers : m ≡ n → change_layers ≡ p.layers
  kept_layers e = rw (eq-eqb m n e) refl

  pub kept_unit : Good p → m ≡ n → change_grown ≡ p
  kept_unit g e = ap (grown_to p) (kept_layers e) ∙ not_grown p g

  -- ---- another name

  pub moved_layers : m ≢ n → change_layers ≡ layers_for p.H (sys_of p) m (table_remove n p.files)
  moved_layers d = rw (ne_eqb m n d) refl

  pub moved_vacant : m ≢ n → ChangeAsked → entry p m ≡ none
  moved_vacant d a = or_case (eqb m n) (not (is_some (entry p m))) (λ q. absurd (d (eqb→eq m n q))) (λ q. not_some (entry p m) q) a.vacant

  chains_without : Good p → (k : ℕ) → places_taken p.H k (sys_of p) (table_remove n p.files) ≤ 16 * p.layers
  chains_without g = (catalog_removed g.catalog n).chains

  -- afterwards it has one
  pub moved_fits : Good p → m ≢ n → places_taken p.H (key_of p.H m) (sys_of p) (table_remove n p.files) < 16 * change_layers
  moved_fits g d = rw (moved_layers d) (layers_fit p.H (sys_of p) m (table_remove n p.files) (chains_without g))

  -- ---- the unit after the message is good

  layers_change : p.layers ≤ change_layers
  layers_change = same_or m n (λ e. omega (arith, kept_layers e)) (λ d. omega (arith, moved_layers d, layers_up p.H (sys_of p) m (table_remove n p.files)))

  chains_change : Good p → table_find n p.files ≡ some f → (h : File) (k : ℕ) → places_taken p.H k (sys_of p) (table_put m h (table_remove n p.files)) ≤ 16 * change_layers
  chains_change g found h k = same_or m n
      (λ e. rw (kept_layers e, e) (omega (arith, places_same p.H k (sys_of p) n f h p.files found, g.catalog.chains k)))
      (λ d. chains_put p.H (sys_of p) change_layers m h (table_remove n p.files) (λ j. omega (arith, chains_without g j, layers_change)) (moved_fits g d) k)

  pub change_shutₘ : Good p → (found : table_find n p.files ≡ some f) → ChangeAsked → table_find m p.areas ≡ none
  change_shutₘ g found a = same_or m n (λ e. rw e (change_shut g found a)) (λ d. no_area p m g (vacant_name p m (moved_vacant d a)).0)

  pub changed_keeps : Good p → table_find n p.files ≡ some f → ChangeAsked → Words lent → T (is_record lent) → Good (changed_unit change_grown)
  changed_keeps g found a w r =
      let q : Good change_grown = grown_good p change_layers g (omega (arith, leb→le (change_taking.for_catalog + change_taking.for_file) (free_slices p) a.room)) layers_change (leb→le _ _ a.sys_few) in
      changed_good (change_changes g found a w r) q n m found (change_shut g found a) (change_shutₘ g found a) a.legal
      (same_or m n (λ e. rw e (g.catalog.files n f found).ordinary) (λ d. (vacant_name p m (moved_vacant d a)).1)) (chains_change g found (changed_on change_grown))
