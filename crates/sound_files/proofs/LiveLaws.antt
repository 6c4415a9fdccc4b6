-- Laws of the list that is read in place of the state: a search in it, and that it finds the state's open area process.
use mathlib.Core.Path.{◌≡◌, refl, sym, ap, ap₂, ◌∙◌}
use mathlib.Core.Bool.{Bool, true, false, cond, ◌&&◌}
use mathlib.Core.List.{List, [], ◌∷◌, map}
use mathlib.Core.Option as maybe
use mathlib.Core.Option.{none, some}
use Prim.Native.Nat.{ℕ, zero, suc, ◌+◌, ◌≤◌, ◌<◌}
use native.Mathlib.Numerals.{add-one}
use native.Mathlib.Omega.{arith}
use lib.Dec.{eqb}
use lib.ListN.{length, get_or, set, take, drop, drop_of_length-le}
use lib.Seq.{drop-cons, get_or-set_same, get_or-set_other}
use Rattle.std.proofs.lemmas.List.{get_or_default}
use Rattle.disc.proofs.Compare.{same_or}
use borrow.Author.Tests.{eq-eqb, ne_eqb}
use Rattle.std.specs.Prelude.{Some, None}
use Rattle.types.specs.declared.Area.{Area}
use Rattle.types.specs.declared.State.{State}
use Rattle.sound.specs.State.{area_name, first_open, open_area, live_index, live_length}
use Rattle.sound_files.specs.declared.files.OpenFile.{OpenFile}
use Rattle.sound_files.specs.declared.files.OpenFiles.{OpenFiles}
use Rattle.sound_files.specs.Cells.{open_name, open_file}
use Rattle.sound_files.specs.Live.{live_of, index_by, length_by, live_in, lives, OpenOf}

-- the first n files of a list say what the descriptors say, and all of them do
pub record Flat (areas : List Area) (list : List OpenFile) (n : ℕ) : Type 0 where
  pub each : (i : ℕ) (d : Area) (e : OpenFile) → i < n → get_or list i e ≡ open_file (get_or areas i d)

pub flat_none : (areas : List Area) (list : List OpenFile) → Flat areas list 0
flat_none areas list = record { each = λ i d e h. absurd (omega arith) }

pub flat_more : {areas : List Area} {list : List OpenFile} {n : ℕ} {v : OpenFile} (x : Area) → n < length areas → n < length list
    → v ≡ open_file (get_or areas n x) → Flat areas list n → Flat areas (set list n v) (n + 1)
flat_more {areas} {list} {n} {v} x inside room is flat = record {
  each = λ i d e h. same_or i n
      (λ s. rw s (get_or-set_same list n v e room ∙ is ∙ ap open_file (get_or_default areas n x d inside)))
      (λ d'. get_or-set_other list n i v e d' ∙ flat.each i d e (omega arith));
}

pub flat_all : (areas : List Area) (list : List OpenFile) → length areas ≡ length list → Flat areas list (length list) → list ≡ map open_file areas
flat_all [] [] e flat = refl
flat_all [] (f ∷ list) e flat = absurd (omega arith)
flat_all (a ∷ areas) [] e flat = absurd (omega arith)
flat_all (a ∷ areas) (f ∷ list) e flat =
    ap₂ (λ (x : OpenFile) (l : List OpenFile). x ∷ l) (flat.each 0 a f (omega arith))
    (flat_all areas list (omega arith) (record { each = λ i d x h. flat.each (suc i) d x (omega arith) }))

-- a turn of the search, and its end
module _ (list : List OpenFile) (name : ℕ) where
  pub live_hit : (i : ℕ) (d : OpenFile) → i < length list → (get_or list i d).name ≡ name → live_in (drop i list) name ≡ Some (get_or list i d).live
  unfolding live_in
  live_hit i d h e = rw (drop-cons list i d) (rw (eq-eqb (get_or list i d).name name e))

  pub live_miss : (i : ℕ) (d : OpenFile) → i < length list → ((get_or list i d).name ≡ name → ⊥) → live_in (drop i list) name ≡ live_in (drop (i + 1) list) name
  unfolding live_in
  live_miss i d h ne = rw (drop-cons list i d) (rw (ne_eqb (get_or list i d).name name ne, add-one))

  pub live_end : (i : ℕ) → length list ≤ i → live_in (drop i list) name ≡ None
  unfolding live_in
  live_end i h = rw (drop_of_length-le list h)

-- ---- the state's area process

module _ (name : ℕ) (named : name ≡ 0 → ⊥) where
  -- an open descriptor has the name exactly if its number is the name
  open_is : (a : Area) → a.live && eqb (area_name a) name ≡ eqb (open_name a) name
  open_is a = by a.live
    where
      by : (b : Bool) → b && eqb (area_name a) name ≡ eqb (cond b (area_name a) 0) name
      by true = refl
      by false = sym (ne_eqb 0 name (λ e. named (sym e)))

  -- the first n of the descriptors, where none of the others is open
  live_list : (l : List Area) (n : ℕ) → ((k : ℕ) (d : OpenFile) → n ≤ k → k < length l → (get_or (map open_file l) k d).name ≡ 0)
      → live_in (take n (map open_file l)) name ≡ live_of (first_open name l)
  unfolding live_in
  live_list [] zero shut = refl
  live_list [] (suc n) shut = refl
  live_list (a ∷ l) zero shut =
      rw (open_is a, shut 0 (open_file a) (omega arith) (omega arith), ne_eqb 0 name (λ e. named (sym e)))
      (live_list l zero (λ k d h m. shut (suc k) d (omega arith) (omega arith)))
  live_list (a ∷ l) (suc n) shut =
      rw (open_is a) (by (eqb (open_name a) name) (live_list l n (λ k d h m. shut (suc k) d (omega arith) (omega arith))))
    where
      by : (b : Bool) → live_in (take n (map open_file l)) name ≡ live_of (first_open name l)
          → cond b (Some (open_file a).live) (live_in (take n (map open_file l)) name) ≡ live_of (cond b (some a) (first_open name l))
      by true rest = refl
      by false rest = rest

  pub live_state : {state : State} {files : OpenFiles} → length state.areas ≡ 8 → OpenOf state files → lives files name ≡ live_of (open_area state name)
  live_state {state} {files} eight is =
      rw is.flat (live_list state.areas files.upto (λ k d h m. let shut = is.upto.none k d h (omega arith) in rw is.flat at shut))

-- what counts, by the area process
pub index_of_lem : (o : maybe.Option Area) (booked : ℕ) → index_by (live_of o) booked ≡ live_index o booked
index_of_lem none booked = refl
index_of_lem (some a) booked = refl

pub length_of_lem : (o : maybe.Option Area) (booked : ℕ) → length_by (live_of o) booked ≡ live_length o booked
length_of_lem none booked = refl
length_of_lem (some a) booked = refl
