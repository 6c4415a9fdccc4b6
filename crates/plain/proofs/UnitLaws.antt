-- Laws of a plain unit's parts: entries by name, the slices of all files, and the legal names.
use mathlib.Core.Path.{◌≡◌, refl, sym, ap, ◌∙◌}
use mathlib.Core.Bool.{Bool, true, false, not, ◌||◌}
use mathlib.Core.List.{List, [], ◌∷◌, ◌++◌}
use mathlib.Core.Logic.{◌≢◌}
use mathlib.Core.Option.{Option, none, some}
use Prim.Native.Nat.{ℕ, ◌+◌, ◌<◌}
use native.Mathlib.Omega.{arith}
use lib.Dec.{T, T_not, eqb, eqb_refl}
use borrow.Author.Tests.{ne_eqb}
use Rattle.disc.specs.Names.{SYS, MAP, is_system, legal_name}
use Rattle.disc.specs.Slices.{occurrences}
use Rattle.disc.specs.Entries.{sys_entry, map_entry}
use Rattle.disc.proofs.Compare.{compare_cases, same_or}
use Rattle.disc.proofs.NameLaws.{legal_begins}
use Rattle.disc.proofs.SliceLaws.{occurrences_append}
use Rattle.plain.specs.Table.{Row, Table, find_by, table_find, table_put, table_remove, table_map, total, is_some, SortedFrom, Every}
use Rattle.plain.specs.Unit.{Plain, File, AreaUser, slices_of, file_entry, entries, entry, with_tables, with_files}
use Rattle.plain.specs.Good.{Good}
use Rattle.plain.proofs.TableLaws.{some≢none, some_inj, never_some, find_remove, find_put, find_put_other, sorted_put, weight_at, total_put}
use Rattle.plain.proofs.QuestionLaws.{not_some, is_some_lem}

-- ---- names

pub legal_positive : (n : ℕ) → T (legal_name n) → 0 < n
legal_positive n t = omega (arith, (legal_begins n t).0)

-- ---- entries

abbrev pub map_some : {A B : Type 0} → (A → B) → Option A → Option B
map_some f none = none
map_some f (some a) = some (f a)

pub find_map : {A B : Type 0} (f : ℕ → A → B) (n : ℕ) (t : Table A) → table_find n (table_map f t) ≡ map_some (f n) (table_find n t)
find_map f n [] = refl
find_map f n (r ∷ t) =
    compare_cases n r.key (λ o. find_by o (f r.key r.val) (table_find n (table_map f t)) ≡ map_some (f n) (find_by o r.val (table_find n t)))
    (λ h. refl)
    (λ e. ap (λ (k : ℕ). some (f k r.val)) (sym e))
    (λ h. find_map f n t)

sorted-map : {A B : Type 0} (f : ℕ → A → B) (b : ℕ) (t : Table A) → SortedFrom b t → SortedFrom b (table_map f t)
sorted-map f b [] ok = tt
sorted-map f b (r ∷ t) ok = (ok.0, sorted-map f r.key t ok.1)

total-map : {A B : Type 0} (w : ℕ → ℕ) (f : ℕ → A → B) (t : Table A) → total (λ r. w r.key) (table_map f t) ≡ total (λ r. w r.key) t
total-map w f [] = refl
total-map w f (r ∷ t) = omega (arith, total-map w f t)

abbrev file_entries : Plain → Table (List ℕ)
file_entries p = table_map (file_entry p.F p.s) p.files

abbrev with_map : Plain → Table (List ℕ)
with_map p = table_put MAP map_entry (file_entries p)

pub entry_sys : (p : Plain) → entry p SYS ≡ some (sys_entry p.H p.s p.layers p.sys)
unfolding entry
entry_sys p = find_put SYS (sys_entry p.H p.s p.layers p.sys) (with_map p)

pub entry-map : (p : Plain) → entry p MAP ≡ some map_entry
unfolding entry
entry-map p =
    find_put_other MAP SYS (sys_entry p.H p.s p.layers p.sys) (with_map p) (omega arith) ∙ find_put MAP map_entry (file_entries p)

pub entry_other : (p : Plain) (n : ℕ) → n ≢ SYS → n ≢ MAP → entry p n ≡ map_some (file_entry p.F p.s n) (table_find n p.files)
unfolding entry
entry_other p n a b =
    find_put_other n SYS (sys_entry p.H p.s p.layers p.sys) (with_map p) a ∙ find_put_other n MAP map_entry (file_entries p) b
    ∙ find_map (file_entry p.F p.s) n p.files

pub not_system : (n : ℕ) → T (not (is_system n)) → (n ≢ SYS) × (n ≢ MAP)
not_system n t = ((λ e. go (eqb n SYS) (eqb n MAP) (rw e (eqb_refl SYS)) t), (λ e. go₂ (eqb n SYS) (eqb n MAP) (rw e (eqb_refl MAP)) t))
  where
    go : (a b : Bool) → T a → T (not (a || b)) → ⊥
    go true b h u = u
    go false b h u = h

    go₂ : (a b : Bool) → T b → T (not (a || b)) → ⊥
    go₂ true b h u = u
    go₂ false true h u = u
    go₂ false false h u = h

-- a name is SYS, MAP or neither
pub system_cases_lem : (n : ℕ) {C : Type 0} → (n ≡ SYS → C) → (n ≡ MAP → C) → (n ≢ SYS → n ≢ MAP → C) → C
system_cases_lem n f g h = same_or n SYS f (λ a. same_or n MAP g (λ b. h a b))

-- an entry is SYS's, MAP's or a file's
pub entry_cases : (p : Plain) (n : ℕ) {e : List ℕ} {C : Type 0} → entry p n ≡ some e → (n ≡ SYS → e ≡ sys_entry p.H p.s p.layers p.sys → C) → (n ≡ MAP → e ≡ map_entry → C)
    → ((f : File) → table_find n p.files ≡ some f → e ≡ file_entry p.F p.s n f → C) → C
entry_cases p n {e} {C} h sys map file = system_cases_lem n
    (λ q. sys q (some_inj (sym h ∙ ap (entry p) q ∙ entry_sys p)))
    (λ q. map q (some_inj (sym h ∙ ap (entry p) q ∙ entry-map p)))
    (λ a b. go (table_find n p.files) refl (sym (entry_other p n a b) ∙ h))
  where
    go : (o : Option File) → table_find n p.files ≡ o → map_some (file_entry p.F p.s n) o ≡ some e → C
    go none q z = absurd (some≢none (sym z))
    go (some f) q z = file f q (sym (some_inj z))

-- the entry of a file
pub entry_of : (p : Plain) (n : ℕ) (f : File) → T (not (is_system n)) → table_find n p.files ≡ some f → entry p n ≡ some (file_entry p.F p.s n f)
entry_of p n f t h = let d = not_system n t in entry_other p n d.0 d.1 ∙ ap (map_some (file_entry p.F p.s n)) h

-- another table of files with the same file, or none, for a name
pub entry_beside : (p : Plain) (files : Table File) (areas : Table (Table AreaUser)) (m : ℕ) → table_find m files ≡ table_find m p.files
    → entry (with_tables p p.layers p.sys files areas) m ≡ entry p m
entry_beside p files areas m e =
    let q : Plain = with_tables p p.layers p.sys files areas in
    system_cases_lem m
    (λ z. ap (entry q) z ∙ entry_sys q ∙ sym (entry_sys p) ∙ ap (entry p) (sym z))
    (λ z. ap (entry q) z ∙ entry-map q ∙ sym (entry-map p) ∙ ap (entry p) (sym z))
    (λ a b. entry_other q m a b ∙ ap (map_some (file_entry p.F p.s m)) e ∙ sym (entry_other p m a b))

-- a file that is removed has none
pub entry_removed : (p : Plain) (n : ℕ) → SortedFrom 0 p.files → T (not (is_system n)) → entry (with_files p (table_remove n p.files)) n ≡ none
entry_removed p n sorted t =
    let d = not_system n t in
    entry_other (with_files p (table_remove n p.files)) n d.0 d.1 ∙ ap (map_some (file_entry p.F p.s n)) (find_remove n 0 p.files sorted)

-- a name with no entry is no file, and none of SYS and MAP
pub entry_none : (p : Plain) (n : ℕ) → T (not (is_some (entry p n))) → (table_find n p.files ≡ none) × (n ≢ SYS) × (n ≢ MAP)
entry_none p n t =
    let e : entry p n ≡ none = not_some (entry p n) t in
    let a : n ≢ SYS = λ q. some≢none (sym (entry_sys p) ∙ ap (entry p) (sym q) ∙ e) in
    let b : n ≢ MAP = λ q. some≢none (sym (entry-map p) ∙ ap (entry p) (sym q) ∙ e) in
    (never_some (table_find n p.files) (λ f q. some≢none (ap (map_some (file_entry p.F p.s n)) (sym q) ∙ sym (entry_other p n a b) ∙ e)), a, b)

pub vacant_name : (p : Plain) (n : ℕ) → entry p n ≡ none → (table_find n p.files ≡ none) × T (not (is_system n))
vacant_name p n e = let v = entry_none p n (rw e tt) in (v.0, rw (ne_eqb n SYS v.1, ne_eqb n MAP v.2) tt)

pub ordinary_files : {p : Plain} → Good p → Every (λ n f. T (not (is_system n))) p.files
ordinary_files g n f e = (g.catalog.files n f e).ordinary

-- SYS and MAP are no files
pub system_none : (p : Plain) (n : ℕ) → Every (λ m f. T (not (is_system m))) p.files → T (is_system n) → table_find n p.files ≡ none
system_none p n ordinary t = never_some (table_find n p.files) (λ f e. T_not (is_system n) (ordinary n f e) t)

-- ---- the entries as one table

pub sorted_entries : (p : Plain) → SortedFrom 0 p.files → SortedFrom 0 (entries p)
sorted_entries p sorted =
    sorted_put 0 SYS _ (with_map p) (omega arith) (sorted_put 0 MAP map_entry (file_entries p) (omega arith) (sorted-map (file_entry p.F p.s) 0 p.files sorted))

-- a sum over the names that are entered
pub total_entries : (p : Plain) → Every (λ n f. T (not (is_system n))) p.files → (w : ℕ → ℕ)
    → total (λ r. w r.key) (entries p) ≡ total (λ r. w r.key) p.files + w SYS + w MAP
total_entries p ordinary w =
    let v : Row (List ℕ) → ℕ = λ r. w r.key in
    let no_file_lem : (n : ℕ) → T (is_system n) → table_find n (file_entries p) ≡ none = λ n t.
    find_map (file_entry p.F p.s) n p.files ∙ ap (map_some (file_entry p.F p.s n)) (system_none p n ordinary t) in
    omega (
      arith,
      total_put v SYS (sys_entry p.H p.s p.layers p.sys) (with_map p),
      total_put v MAP map_entry (file_entries p),
      ap (weight_at v SYS) (find_put_other SYS MAP map_entry (file_entries p) (omega arith) ∙ no_file_lem SYS tt),
      ap (weight_at v MAP) (no_file_lem MAP tt),
      total-map w (file_entry p.F p.s) p.files,
    )

-- a name that is entered, and none of SYS and MAP, is a file's
pub entry_file : (p : Plain) (n : ℕ) → T (is_some (entry p n)) → T (not (is_system n)) → (f : File) × (table_find n p.files ≡ some f)
entry_file p n t u =
    let d = not_system n u in
    entry_cases p n (is_some_lem (entry p n) t).1 (λ q z. absurd (d.0 q)) (λ q z. absurd (d.1 q)) (λ f e z. (f, e))

-- a name with an area is none without
pub area_name_lem : (p : Plain) (n : ℕ) → table_find n p.areas ≡ none → (m : ℕ) (users : Table AreaUser) → table_find m p.areas ≡ some users → m ≢ n
area_name_lem p n shut m users h q = some≢none (sym h ∙ ap (λ (x : ℕ). table_find x p.areas) q ∙ shut)

-- a name that is no file has no area
pub no_area : (p : Plain) (n : ℕ) → Good p → table_find n p.files ≡ none → table_find n p.areas ≡ none
no_area p n g e = never_some (table_find n p.areas) (λ users h. some≢none (sym (g.areas n users h).entered ∙ e))

-- ---- slices of a table

-- how often slice k stands in a row's file
abbrev pub holds : ℕ → Row File → ℕ
holds k r = occurrences k r.val.slices

pub occurrences_slices : (k : ℕ) (t : Table File) → occurrences k (slices_of t) ≡ total (holds k) t
occurrences_slices k [] = refl
occurrences_slices k (r ∷ t) = omega (arith, occurrences_append k r.val.slices (slices_of t), occurrences_slices k t)

pub occurrences_held : (k : ℕ) (sys : List ℕ) (t : Table File) → occurrences k (sys ++ slices_of t) ≡ occurrences k sys + total (holds k) t
occurrences_held k sys t = omega (arith, occurrences_append k sys (slices_of t), occurrences_slices k t)
