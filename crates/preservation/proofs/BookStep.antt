-- Remove area: the file's live length and slices are booked in its own place.
use mathlib.Core.Path.{◌≡◌, refl, sym, ap, ◌∙◌}
use mathlib.Core.List.{List}
use mathlib.Core.Logic.{◌≢◌}
use mathlib.Core.Option.{Option, some}
use Prim.Native.Nat.{ℕ, ◌*◌, ◌<◌}
use native.Mathlib.Omega.{arith}
use Rattle.disc.specs.Slices.{occurrences}
use Rattle.disc.specs.Stretches.{sys_from}
use Rattle.disc.specs.Entries.{place_word, place_count, name_at}
use Rattle.disc.proofs.Compare.{same_or}
use Rattle.disc.proofs.TakenLaws.{free_same}
use Rattle.words.proofs.StoreLaws.{words_store}
use Rattle.plain.specs.Table.{Table, table_find, table_put, table_remove}
use Rattle.plain.specs.Unit.{Plain, File, sys_of, AreaUser, M, held, free_sectors, file_entry, entry, with_tables}
use Rattle.plain.specs.Areas.{book_live}
use Rattle.plain.specs.Good.{Good}
use Rattle.plain.proofs.TableLaws.{some_inj, find_put, find_put_other}
use Rattle.plain.proofs.UnitLaws.{legal_positive, entry_beside, entry_of}
use Rattle.plain.proofs.KeepsAreas.{remove_area_good, occurrences_put}
use Rattle.refine.specs.Represents.{FileOnImage, Layout}
use Rattle.refine.specs.OnDisc.{OnDisc}
use Rattle.refine.specs.Writes.{store_place, booked_image}
use Rattle.refine.proofs.Ground.{ground, entry_named, entry_length}
use Rattle.refine.proofs.Writers.{relabel}
use Rattle.preservation.proofs.WriteLaws.{words_file_entry, write_own}

-- The unit in which the area of n is closed, and its file booked.
abbrev pub booked_unit : Plain → ℕ → File → Plain
booked_unit p n f = with_tables p p.layers p.sys (table_put n (book_live f) p.files) (table_remove n p.areas)

-- ---- the same slices and sectors under another entry

-- another file with the same slices and sectors: nothing is written
pub refile : {i : List ℕ} {p : Plain} {v : ℕ} {h : List ℕ} {E : ℕ → Option (List ℕ)} (n : ℕ) (f f' : File) (areas : Table (Table AreaUser)) → Layout i p v h E
    → table_find n p.files ≡ some f → f'.slices ≡ f.slices → f'.sectors ≡ f.sectors
    → Layout i (with_tables p p.layers p.sys (table_put n f' p.files) areas) v h E
refile {i} {p} n f f' areas r found slices sectors = record {
  size = r.size;
  kit = r.kit;
  map = r.map;
  sys = record { index = r.sys.index; places = r.sys.places };
  map_index = r.map_index;
  files = λ m a e. same_or m n
      (λ q. let z : f' ≡ a = some_inj (sym (find_put n f' p.files) ∙ ap (λ (x : ℕ). table_find x (table_put n f' p.files)) (sym q) ∙ e) in rw (← z) own)
      (λ d. r.files m a (sym (find_put_other m n f' p.files d) ∙ e));
}
  where
    own : FileOnImage i p.F p.s f'
    own = let o = r.files n f found in record { index = rw slices o.index; blocks = rw (slices, sectors) o.blocks }

-- ---- the image

module _ {i : List ℕ} {p : Plain} (o : OnDisc i p) (n : ℕ) (f : File) (found : table_find n p.files ≡ some f)
    (t : ℕ) (in₀ : t < place_count p.H p.layers) (was : name_at (place_word i p.F p.s p.sys sys_from) t ≡ n) where
  abbrev p' : Plain
  p' = booked_unit p n f

  good' : Good p'
  good' = remove_area_good p n f o.good found

  here : table_find n p'.files ≡ some (book_live f)
  here = find_put n (book_live f) p.files

  abbrev e : List ℕ
  e = file_entry p.F p.s n (book_live f)

  r₁ : Layout (store_place p (sys_of p) i t e) p (free_sectors p) (held p) (entry p')
  r₁ =
      let fg = o.good.catalog.files n f found in
      let nz : n ≢ 0 = λ z. (let q = legal_positive n fg.name in omega arith) in
      let new_entry : entry p' n ≡ some e = entry_of p' n (book_live f) fg.ordinary here in
      write_own (ground p o.good) o.layout (entry_named p o.good.catalog.names) (entry p') n e
      (entry_length p' good' n e new_entry)
      (λ m d. entry_beside p (table_put n (book_live f) p.files) (table_remove n p.areas) m (find_put_other m n (book_live f) p.files d))
      new_entry ((entry_named p' good'.catalog.names).name n e new_entry) nz t in₀ was

  same_held : (k : ℕ) → occurrences k (held p') ≡ occurrences k (held p)
  same_held k = omega (arith, occurrences_put p n f (book_live f) k found)

  pub book_on : OnDisc (booked_image p (sys_of p) i t n f) (booked_unit p n f)
  unfolding booked_image
  book_on = record {
    good = good';
    words = words_store i _ e o.words (words_file_entry p' good' n (book_live f) here);
    layout = relabel (refile n f (book_live f) (table_remove n p.areas) r₁ found refl refl) (ap (λ (x : ℕ). p.s * x) (free_same (M p) (held p') (held p) same_held)) same_held (λ m. refl);
  }
