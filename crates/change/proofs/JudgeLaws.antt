-- Questions 4 to 8 of a Change: the code's tests are those that decide the plain unit's answer.
use mathlib.Core.Path.{◌≡◌, refl, sym, ap, ap₂, ◌∙◌}
use mathlib.Core.Bool.{Bool, true, false, not, ◌&&◌, ◌||◌}
use mathlib.Core.List.{List, ◌++◌}
use Prim.Native.Nat.{ℕ, ◌-◌}
use lib.Dec.{eqb}
use Rattle.disc.specs.Names.{legal_name}
use Rattle.disc.specs.Attributes.{legal_attributes, legal_with, permanent}
use Rattle.catalog.specs.declared.Unit.{Unit}
use Rattle.plain.specs.Table.{is_some}
use Rattle.plain.specs.Unit.{Plain, File, entry, sys_of}
use Rattle.plain.specs.Questions.{Outcome}
use Rattle.plain.specs.Taking.{Taking, taking, enough}
use Rattle.plain.specs.Catalog.{slices_after, change_file}
use Rattle.refine.proofs.Ground.{ground, part_file}
use Rattle.grow.specs.Room.{AskedOf, CanAsk, RoomFor}
use Rattle.grow.proofs.BlockLaws.{sys_in}
use Rattle.change.specs.declared.rewrite.Standing.{Standing}
use Rattle.change.specs.declared.rewrite.Wanted.{Wanted}
use Rattle.change.specs.Asked.{allowed_by, TakenBy, AskedAs}
use Rattle.change.proofs.AnswerLaws.{change_illegal, change_entered, change_room, room_same, change_files}

not_not : (b : Bool) → not (not b) ≡ b
not_not true = refl
not_not false = refl

module _ {image : List ℕ} {o : Unit} {now : Standing} {w : Wanted} {layers : ℕ} {p : Plain} {n m : ℕ} {f : File} (a : AskedAs image o now w layers p n m f) where
  abbrev count : ℕ
  count = slices_after p.s w.size f

  allowed_is : allowed_by now w
      ≡ legal_name m && (legal_attributes w.attributes && (legal_with w.attributes count && (not (permanent f.attributes) || (eqb m n && eqb w.size f.booked))))
  unfolding allowed_by
  allowed_is =
      let kept : not w.moves ≡ eqb m n = ap not a.moves ∙ not_not (eqb m n) in
      ap₂ (λ (k c : ℕ). legal_name k && (legal_attributes w.attributes && (legal_with w.attributes c && (not (permanent now.attributes) || (not w.moves && eqb w.size now.size)))))
      a.name.packed a.slices
      ∙ ap₂ (λ (x y : ℕ). legal_name m && (legal_attributes w.attributes && (legal_with w.attributes count && (not (permanent x) || (not w.moves && eqb w.size y)))))
      a.stands.attributes a.stands.size
      ∙ ap (λ (b : Bool). legal_name m && (legal_attributes w.attributes && (legal_with w.attributes count && (not (permanent f.attributes) || (b && eqb w.size f.booked))))) kept

  taken_is : {r : Bool} → TakenBy image o w r → r ≡ not (eqb m n) && is_some (entry p m)
  taken_is t = t.all p a.stands.on a.stands.numbers ∙ ap₂ (λ (b : Bool) (k : ℕ). b && is_some (entry p k)) a.moves a.name.packed

  pub judge_illegal : (lent : List ℕ) → allowed_by now w ≡ false → 0x1200 ≡ (change_file p n f m w.size w.attributes lent).answer.result
  judge_illegal lent h = sym (change_illegal p n m w.size w.attributes f lent a.stands.closed (sym allowed_is ∙ h))

  module _ (ok : allowed_by now w ≡ true) where
    pub judge_entered : {r : Bool} (lent : List ℕ) → TakenBy image o w r → r ≡ true → 0x1010 ≡ (change_file p n f m w.size w.attributes lent).answer.result
    judge_entered lent t h =
        sym (change_entered p n m w.size w.attributes f lent a.stands.closed (sym allowed_is ∙ ok) (sym (taken_is t) ∙ h))

    judge_asked : AskedOf image o now.block.words p (sys_of p) f.slices
    judge_asked = record {
      catalog = sys_in a.stands.on a.stands.numbers;
      words = a.stands.words;
      few = (a.stands.on.good.catalog.files n f a.stands.file).few;
      part = part_file p (ground p a.stands.on.good) n f a.stands.file;
    }

    pub judge_room : {r : Bool} {x more : ℕ} (lent : List ℕ) → TakenBy image o w r → r ≡ false → more ≡ w.slices - now.slices → RoomFor image o layers now.block.words more x
        → x ≡ (change_file p n f m w.size w.attributes lent).answer.result
    judge_room {x = x} {more = more} lent t h e room =
        let fs = change_files p n m w.size w.attributes f lent in
        let t₀ : ℕ → ℕ → Taking = λ l k. taking p (sys_of p) l f.slices k in
        room.all p (sys_of p) f.slices judge_asked lent fs
        ∙ ap₂ (λ (l k : ℕ). (enough p (sys_of p) (t₀ l k) (f.slices ++ (t₀ l k).file_new) lent fs).answer.result) a.layered (e ∙ ap₂ (λ (y z : ℕ). y - z) a.slices a.stands.slices)
        ∙ sym (ap (λ (y : Outcome). y.answer.result)
        (change_room p n m w.size w.attributes f lent a.stands.closed (sym allowed_is ∙ ok) (sym (taken_is t) ∙ h)
        ∙ room_same p n m w.size w.attributes f lent (a.stands.on.good.catalog.files n f a.stands.file).few))

  pub can_ask : CanAsk image o now.block.words
  can_ask = record {
    unit = p;
    own = sys_of p;
    slices = f.slices;
    asked = record {
      catalog = sys_in a.stands.on a.stands.numbers;
      words = a.stands.words;
      few = (a.stands.on.good.catalog.files n f a.stands.file).few;
      part = part_file p (ground p a.stands.on.good) n f a.stands.file;
    };
  }
