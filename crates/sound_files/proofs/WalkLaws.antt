-- Laws of places that are judged one after the other, one at a time or some at once.
use mathlib.Core.Path.{◌≡◌, sym, ap, subst}
use mathlib.Core.Bool.{Bool, true, false}
use mathlib.Core.List.{List}
use Prim.Native.Nat.{ℕ, ◌+◌, ◌≤◌, ◌<◌}
use native.Mathlib.Omega.{arith}
use Rattle.std.specs.Prelude.{Option}
use Rattle.kit.specs.declared.Geometry.{Geometry}
use Rattle.marks.specs.Marked.{Marked, SomeMarked}
use Rattle.sound.specs.Parts.{Marking}
use Rattle.sound_files.specs.declared.files.Live.{Live}
use Rattle.sound_files.specs.Walk.{place_slices, joined, PlaceRules, PlaceMarking, PlacesMarking}
use Rattle.sound_files.proofs.SequenceLaws.{marking-map, joined_same, Passed, passed_none, passed_some, passed_more, passed_stop, passed_all, one_more}

module _ (image : List ℕ) (g : Geometry) (lives : ℕ → Option Live) (P : ℕ → ℕ → ℕ) where
  abbrev slices : ℕ → List ℕ
  slices t = place_slices image g lives (P t)

  -- the first n places are legal, and their slices marked
  abbrev pub PlacesPassed : List ℕ → List ℕ → ℕ → Type 0
  PlacesPassed before mid n = Passed g.slices (λ t. PlaceRules image g lives (P t)) slices before mid n

  module _ {before mid : List ℕ} (b : ℕ) (pass : PlacesPassed before mid b) where
    pub places_some : SomeMarked g.slices before → SomeMarked g.slices mid
    places_some = passed_some g.slices (λ t. PlaceRules image g lives (P t)) slices pass

    module _ {after : List ℕ} {r : Bool} (m : PlaceMarking image g lives (P b) mid after r) where
      one : (held : List ℕ) → Marked g.slices mid held
          → Marking r ((i : ℕ) → i < 1 → PlaceRules image g lives (P (b + i))) g.slices after held (joined (λ i. slices (b + i)) 1)
      one held k = one_more g.slices (λ t. PlaceRules image g lives (P t)) slices b (m.marking held k)

      pub place_more : SomeMarked g.slices before → r ≡ true → PlacesPassed before after (b + 1)
      place_more s t = passed_more g.slices (λ t. PlaceRules image g lives (P t)) slices pass 1 s one t

      pub place_stop : (count : ℕ) → b < count → r ≡ false → PlacesMarking image g lives P count before after false
      place_stop count h t = record { marking = passed_stop g.slices (λ t. PlaceRules image g lives (P t)) slices pass 1 count (omega arith) one t }

    -- n places, which stand in another array too
    module _ {after : List ℕ} {r : Bool} (R : ℕ → ℕ → ℕ) (n : ℕ) (same : (i : ℕ) → i < n → R i ≡ P (b + i)) (m : PlacesMarking image g lives R n mid after r) where
      some_places : (held : List ℕ) → Marked g.slices mid held
          → Marking r ((i : ℕ) → i < n → PlaceRules image g lives (P (b + i))) g.slices after held (joined (λ i. slices (b + i)) n)
      some_places held k =
          marking-map
          (λ all i h. subst (PlaceRules image g lives) (same i h) (all i h))
          (λ all i h. subst (PlaceRules image g lives) (sym (same i h)) (all i h))
          (joined_same (λ i. place_slices image g lives (R i)) (λ i. slices (b + i)) n (λ i h. ap (place_slices image g lives) (same i h)))
          (m.marking held k)

      pub places_more : SomeMarked g.slices before → r ≡ true → PlacesPassed before after (b + n)
      places_more s t = passed_more g.slices (λ t. PlaceRules image g lives (P t)) slices pass n s some_places t

      pub places_stop : (count : ℕ) → b + n ≤ count → r ≡ false → PlacesMarking image g lives P count before after false
      places_stop count h t = record { marking = passed_stop g.slices (λ t. PlaceRules image g lives (P t)) slices pass n count h some_places t }

    pub places_all : (count : ℕ) → b ≡ count → SomeMarked g.slices before → PlacesMarking image g lives P count before mid true
    places_all count e s = record { marking = passed_all g.slices (λ t. PlaceRules image g lives (P t)) slices pass count e s }

  pub places_none : (before : List ℕ) → PlacesPassed before before 0
  places_none = passed_none g.slices (λ t. PlaceRules image g lives (P t)) slices
