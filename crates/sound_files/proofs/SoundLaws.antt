-- The rules of all places are those of a sound unit's ordinary files, and the slices that they hold are the files'.
use mathlib.Core.Path.{◌≡◌, refl, sym, ap, ap₂, ◌∙◌, subst}
use mathlib.Core.Bool.{Bool}
use mathlib.Core.List.{List, [], ◌∷◌, ◌++◌}
use Prim.Native.Nat.{ℕ, zero, suc, ◌<◌}
use native.Mathlib.Omega.{arith}
use lib.Dec.{T}
use lib.ListN.{length}
use Rattle.types.specs.declared.State.{State}
use Rattle.disc.specs.Names.{legal_name, is_system, SYS, MAP}
use Rattle.disc.specs.Entries.{place_count, name_at}
use Rattle.disc.proofs.DecideLaws.{never_true}
use Rattle.kit.specs.declared.Geometry.{Geometry}
use Rattle.marks.specs.Marked.{Marked}
use Rattle.sound_entries.specs.Sys.{sys_slices, places_in, sys_with}
use Rattle.sound_entries.proofs.PlaceLaws.{unused_name}
use Rattle.sound.specs.Places.{slices_from}
use Rattle.sound.specs.State.{open_area}
use Rattle.sound.specs.Sound.{slices_of, held_by, slices_below}
use Rattle.sound.specs.Parts.{Marking}
use Rattle.std.specs.Prelude.{Option}
use Rattle.sound_files.specs.declared.files.Live.{Live}
use Rattle.sound_files.specs.declared.files.OpenFiles.{OpenFiles}
use Rattle.sound_files.specs.Live.{live_of, index_by, lives, OpenOf}
use Rattle.sound_files.specs.Rules.{entry_of, FileRules}
use Rattle.sound_files.specs.Walk.{place_slices, joined, PlaceRules, PlacesMarking, NamesKnown, OrdinaryPlaces, SysFiles, sys_held}
use Rattle.sound_files.proofs.LiveLaws.{live_state, index_of_lem}
use Rattle.sound_files.proofs.FileLaws.{rules_sound, sound_rules}
use Rattle.sound_files.proofs.SequenceLaws.{marking-map}

-- a legal name is not 0
legal_some : (n : ℕ) → T (legal_name n) → n ≡ 0 → ⊥
legal_some n t e = subst (λ (x : ℕ). T (legal_name x)) e t

-- a place with a data sector as its index sector is used, and not SYS's or MAP's
pub ordinary_known : {image : List ℕ} {g : Geometry} {count : ℕ} → NamesKnown image g count → OrdinaryPlaces (places_in image g) count
ordinary_known {image} {g} known t h = record {
  named = λ far z. legal_some (name_at (places_in image g) t) (known.legal t h (λ u. omega (arith, u.zero 8 (omega arith)))) z;
  ordinary = λ far. never_true (is_system (name_at (places_in image g) t)) (λ e. omega (arith, known.system t h e));
}

held_same : (reserved : List ℕ) (n : ℕ) {a b : List ℕ} → ((n ≡ 0 → ⊥) → a ≡ b) → held_by reserved n a ≡ held_by reserved n b
held_same reserved zero e = refl
held_same reserved (suc n) e = ap (held_by reserved (suc n)) (e (λ z. omega arith))

module _ (image : List ℕ) (state : State) (g : Geometry) {files : OpenFiles} (eight : length state.areas ≡ 8) (open-of : OpenOf state files) where
  abbrev P : ℕ → ℕ → ℕ
  P = places_in image g

  abbrev known : ℕ → Option Live
  known = lives files

  live_at_lem : (t : ℕ) → (name_at P t ≡ 0 → ⊥) → known (name_at P t) ≡ live_of (open_area state (name_at P t))
  live_at_lem t d = live_state (name_at P t) d eight open-of

  slices_same : (t : ℕ) → place_slices image g known (P t) ≡ held_by (SYS ∷ MAP ∷ []) (name_at P t) (slices_of image state g.first.0 g.slice P t)
  unfolding place_slices
  slices_same t = held_same (SYS ∷ MAP ∷ []) (name_at P t) (λ d.
      ap (slices_from image g.first.0 g.slice) (ap (λ (l : Option Live). index_by l (P t 8)) (live_at_lem t d) ∙ index_of_lem (open_area state (name_at P t)) (P t 8)))

  slices_below_lem : (L n : ℕ) → joined (λ t. place_slices image g known (P t)) n ≡ slices_below image state g.first.0 g.slice (sys_with image g L) n
  unfolding joined
  slices_below_lem L zero = refl
  slices_below_lem L (suc n) = ap₂ (λ (a b : List ℕ). a ++ b) (slices_below_lem L n) (slices_same n)

  module _ (L : ℕ) (legal : NamesKnown image g (place_count g.keys L)) where
    abbrev count : ℕ
    count = place_count g.keys L

    to : ((t : ℕ) → t < count → PlaceRules image g known (P t)) → SysFiles image state g L
    to all t h used ordinary =
        let d : name_at P t ≡ 0 → ⊥ = legal_some (name_at P t) (legal.legal t h used) in
        rules_sound image state g.first.0 g.slice P t (subst (FileRules image g.first.0 g.slice (entry_of (P t))) (live_at_lem t d) ((all t h).file d ordinary))

    fro : SysFiles image state g L → (t : ℕ) → t < count → PlaceRules image g known (P t)
    fro sound t h = record {
      file = λ d ordinary.
          subst (FileRules image g.first.0 g.slice (entry_of (P t))) (sym (live_at_lem t d))
          (sound_rules image state g.first.0 g.slice P t (sound t h (λ u. d (unused_name u)) ordinary));
    }

    pub files_marked : {before after : List ℕ} {r : Bool} → PlacesMarking image g known P count before after r → Marked g.slices before (sys_slices image g)
        → Marking r (SysFiles image state g L) g.slices after (sys_slices image g) (sys_held image state g L)
    files_marked m k = marking-map to fro (slices_below_lem L count) (m.marking (sys_slices image g) k)
