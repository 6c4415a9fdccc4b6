-- Laws of one place: unused, SYS or MAP, or a file.
use mathlib.Core.Path.{◌≡◌, refl, sym, ap, ◌∙◌, subst}
use mathlib.Core.Bool.{Bool, true, false}
use mathlib.Core.List.{List, [], ◌∷◌, ◌++◌, append-nil}
use Prim.Native.Nat.{ℕ, zero, suc}
use Rattle.std.specs.Prelude.{Option}
use Rattle.disc.specs.Names.{is_system, SYS, MAP}
use Rattle.disc.specs.Entries.{name_by}
use Rattle.disc.specs.Catalog.{is_one_of}
use Rattle.kit.specs.declared.Geometry.{Geometry}
use Rattle.marks.specs.Marked.{Marked}
use Rattle.marks.proofs.MarkLaws.{marks}
use Rattle.sound.specs.Sound.{held_by}
use Rattle.sound_entries.proofs.PlaceLaws.{T_of, T_not}
use Rattle.sound_files.specs.declared.files.Live.{Live}
use Rattle.sound_files.specs.Rules.{entry_of, file_slices, FileMarking}
use Rattle.sound_files.specs.Walk.{place_slices, PlaceRules, PlaceMarking}
use Rattle.sound_files.proofs.SequenceLaws.{marking-map}

pub held_zero : (reserved : List ℕ) (n : ℕ) (l : List ℕ) → n ≡ 0 → held_by reserved n l ≡ []
held_zero reserved n l e = subst (λ (x : ℕ). held_by reserved x l ≡ []) (sym e) refl

pub held_reserved : (reserved : List ℕ) (n : ℕ) (l : List ℕ) → is_one_of reserved n ≡ true → held_by reserved n l ≡ []
held_reserved reserved zero l e = refl
held_reserved reserved (suc n) l e = rw e

pub held_file : (reserved : List ℕ) (n : ℕ) (l : List ℕ) → (n ≡ 0 → ⊥) → is_one_of reserved n ≡ false → held_by reserved n l ≡ l
held_file reserved zero l d e = absurd (d refl)
held_file reserved (suc n) l d e = rw e

module _ {image : List ℕ} {g : Geometry} {lives : ℕ → Option Live} {w : ℕ → ℕ} where
  none_held : {before : List ℕ} → PlaceRules image g lives w → place_slices image g lives w ≡ [] → PlaceMarking image g lives w before before true
  none_held {before} rules e = record {
    marking = λ held k. marks rules (subst (λ (l : List ℕ). Marked g.slices before (held ++ l)) (sym e) (rw append-nil k));
  }

  pub place_unused_lem : {before : List ℕ} (name : ℕ) → name ≡ name_by w → name ≡ 0 → PlaceMarking image g lives w before before true
  unfolding place_slices
  place_unused_lem name e z = none_held (record { file = λ d. absurd (d (sym e ∙ z)) }) (held_zero (SYS ∷ MAP ∷ []) (name_by w) (file_slices image g.first.0 g.slice (entry_of w) (lives (name_by w))) (sym e ∙ z))

  pub place_system : {before : List ℕ} {r : Bool} (name : ℕ) → name ≡ name_by w → r ≡ is_system name → r ≡ true → PlaceMarking image g lives w before before true
  unfolding place_slices
  place_system name e s y =
      let t : is_system (name_by w) ≡ true = ap is_system (sym e) ∙ sym s ∙ y in
      none_held (record { file = λ _ d. absurd (d (T_of t)) }) (held_reserved (SYS ∷ MAP ∷ []) (name_by w) _ t)

  pub place_file : {before after : List ℕ} {r a : Bool} {live : Option Live} (name : ℕ) → name ≡ name_by w → (name ≡ 0 → ⊥) → r ≡ is_system name → r ≡ false → live ≡ lives name
      → FileMarking image g (entry_of w) live before after a → PlaceMarking image g lives w before after a
  unfolding place_slices
  place_file {before} {after} {r} {a} name e d s y l m =
      let t : is_system (name_by w) ≡ false = ap is_system (sym e) ∙ sym s ∙ y in
      let named : name_by w ≡ 0 → ⊥ = λ z. d (e ∙ z) in
      let moved : FileMarking image g (entry_of w) (lives (name_by w)) before after a = rw (← e, ← l) m in
      record {
        marking = λ held k. marking-map (λ f. record { file = λ _ _. f }) (λ p. p.file named (T_not t))
            (sym (held_file (SYS ∷ MAP ∷ []) (name_by w) _ named t)) (moved.marking held k);
      }
