-- The places of a catalog by number, and what the searches find in a catalog that lies in given slices.
use Rattle.std.specs.Prelude.{Some, None}
use mathlib.Core.Path.{◌≡◌, sym, ap, ap₂, ◌∙◌}
use mathlib.Core.Bool.{Bool}
use mathlib.Core.List.{List}
use Prim.Native.Nat.{ℕ, suc, ◌+◌, ◌*◌, ◌/◌, ◌%◌, ◌≤◌, ◌<◌}
use native.Mathlib.Nat.{mul-le-mul_left, mul_comm, mul-add-mod_self_left, mod-eq_of_lt, mod-lt, div-add-mod, div-lt_iff_lt-mul}
use native.Mathlib.Omega.{arith}
use lib.ListN.{length, get_or}
use Rattle.disc.specs.Words.{word, Holds}
use Rattle.disc.specs.Names.{pack, key_of}
use Rattle.disc.specs.Decide.{Decides}
use Rattle.disc.specs.Stretches.{stretch_count, index_words, sector_in, block_sector}
use Rattle.disc.specs.Entries.{place_count, place_word, name_at}
use Rattle.disc.proofs.Compare.{compare_cases}
use Rattle.index.proofs.ReadLaws.{read_sector}
use Rattle.sound.specs.Places.{Unused}
use Rattle.catalog.specs.declared.Catalog.{Catalog}
use Rattle.catalog.specs.declared.Place.{Place}
use Rattle.catalog.specs.Catalog.{key_sector, slot_word, entry_word, slot_named, slot_unused, place_from, place_named, place_unused}
use Rattle.catalog.proofs.SearchLaws.{place_first, no_place, name_decides, unused_decides}

-- ---- numbers of places

-- "Key k lives in sectors k, k + H, k + 2H and so on", sixteen places in each: the number of slot i in layer l.
abbrev pub place_number : ℕ → ℕ → ℕ → ℕ → ℕ
place_number H k l i = 16 * (H * l + k) + i

-- place t is one of key k's
pub record PlaceOfKey (H L k t : ℕ) : Type 0 where
  pub layer : ℕ
  pub slot : ℕ
  pub inside : layer < L
  pub small : slot < 16
  pub number : t ≡ place_number H k layer slot

module _ (H k l i : ℕ) (small : i < 16) where
  pub number_block : place_number H k l i / 16 ≡ H * l + k
  number_block = omega arith

  pub number_slot : place_number H k l i % 16 ≡ i
  number_slot = omega arith

  pub number_key : k < H → place_number H k l i / 16 % H ≡ k
  number_key h = ap (λ (q : ℕ). q % H) number_block ∙ mul-add-mod_self_left H l k ∙ mod-eq_of_lt h

  pub number_inside : (L : ℕ) → k < H → l < L → place_number H k l i < place_count H L
  number_inside L h x = let y : suc l ≤ L = omega arith in omega (arith, mul-le-mul_left H y)

pub place_of_key : (H L k t : ℕ) → 1 ≤ H → t < place_count H L → t / 16 % H ≡ k → PlaceOfKey H L k t
place_of_key H L k t pos h e =
    let q : t / 16 < L * H = omega (arith, mul_comm H L) in
    record {
      layer = t / 16 / H;
      slot = t % 16;
      inside = (div-lt_iff_lt-mul pos).1 q;
      small = omega arith;
      number = omega (arith, div-add-mod (t / 16) H);
    }

-- the order of a key's places is that of their numbers
number_order : (H k l i m v : ℕ) → 1 ≤ H → i < 16 → v < 16 → place_number H k m v < place_number H k l i → 16 * m + v < 16 * l + i
number_order H k l i m v pos a b h = compare_cases m l (λ _. 16 * m + v < 16 * l + i)
    (λ x. omega arith)
    (λ e. let z : H * m ≡ H * l = ap (λ (n : ℕ). H * n) e in omega arith)
    (λ x. absurd (let y : suc l ≤ m = omega arith in omega (arith, mul-le-mul_left H y)))

-- ---- the first place of a key with a property

-- place number t is the first of key k that has the property Q, and p is where it lies; `block` has the sectors of the blocks
pub record FirstWith (Q : ℕ → Type 0) (block : ℕ → ℕ) (H L k : ℕ) (p : Place) : Type 0 where
  pub place : ℕ
  pub inside : place < place_count H L
  pub key : place / 16 % H ≡ k
  pub has : Q place
  pub earlier : (t : ℕ) → t < place → t / 16 % H ≡ k → Q t → ⊥
  pub sector : p.sector.0 ≡ block (place / 16)
  pub slot : p.slot ≡ place % 16

-- no place of key k has the property
pub record NoneWith (Q : ℕ → Type 0) (H L k : ℕ) : Type 0 where
  pub lacks : (t : ℕ) → t < place_count H L → t / 16 % H ≡ k → Q t → ⊥

-- ---- a catalog in slices

-- the catalog's index block describes these slices, and they have room for its blocks
pub record LiesIn (image : List ℕ) (c : Catalog) (F s : ℕ) (slices : List ℕ) : Type 0 where
  pub pos : 1 ≤ s
  pub few : stretch_count slices ≤ 127
  pub above : (j : ℕ) → j < length slices → 1 ≤ get_or slices j 0
  pub holds : Holds image c.index.0 (index_words F s slices)
  pub words : (b : ℕ) → b < s * length slices → sector_in F s slices b < 65536
  pub room : c.keys * c.layers + c.from ≤ s * length slices

-- the words of a found place are those of its number
module _ (image : List ℕ) (F s : ℕ) (slices : List ℕ) (from : ℕ) {Q : ℕ → Type 0} {H L k : ℕ} {p : Place}
    (f : FirstWith Q (block_sector F s slices from) H L k p) where
  pub found_word : (w : ℕ) → entry_word image p w ≡ place_word image F s slices from f.place w
  found_word w = rw (f.sector, f.slot)

module _ (image : List ℕ) (c : Catalog) (F s : ℕ) (slices : List ℕ) (d : LiesIn image c F s slices) where
  abbrev P : ℕ → ℕ → ℕ
  P = place_word image F s slices c.from

  pub key_block : (k l : ℕ) → k < c.keys → l < c.layers → key_sector image c k l ≡ block_sector F s slices c.from (c.keys * l + k)
  unfolding key_sector
  key_block k l h x =
      let y : suc l ≤ c.layers = omega arith in
      let b : c.keys * l + k + c.from < s * length slices = omega (arith, mul-le-mul_left c.keys y, d.room) in
      read_sector image F s c.index.0 slices d.few d.holds d.pos d.above (c.keys * l + k + c.from) b (d.words _ b)

  module _ (k l i : ℕ) (low : k < c.keys) (layer : l < c.layers) (small : i < 16) where
    pub key_word : (w : ℕ) → slot_word image (key_sector image c k l) i w ≡ P (place_number c.keys k l i) w
    key_word w =
        let e : key_sector image c k l ≡ block_sector F s slices c.from (place_number c.keys k l i / 16) =
        key_block k l low layer ∙ ap (block_sector F s slices c.from) (sym (number_block c.keys k l i small)) in
        ap₂ (λ (q j : ℕ). word image q (j * 16 + w)) e (sym (number_slot c.keys k l i small))

    named : (n : ℕ) → Decides (slot_named image n (key_sector image c k l) i) (name_at P (place_number c.keys k l i) ≡ n)
    named n =
        let r = name_decides image n (key_sector image c k l) i in
        let e = key_word in
        let q = key_sector image c k l in
        let z : pack (slot_word image q i 0) (slot_word image q i 1) (slot_word image q i 2) ≡ name_at P (place_number c.keys k l i) = rw (e 0, e 1, e 2) in
        record { yes = λ t. sym z ∙ r.yes t; not = λ t q. r.not t (z ∙ q) }

    unused : Decides (slot_unused image (key_sector image c k l) i) (Unused P (place_number c.keys k l i))
    unused =
        let r = unused_decides image (key_sector image c k l) i in
        record { yes = λ t. record { zero = λ w h. sym (key_word w) ∙ r.yes t w h }; not = λ t q. r.not t (λ w h. key_word w ∙ q.zero w h) }

  -- what a search with a test finds that decides the property Q of the places of a key
  module _ (test : ℕ → ℕ → Bool) (Q : ℕ → Type 0) (k : ℕ) (low : k < c.keys)
      (decides : (l i : ℕ) → l < c.layers → i < 16 → Decides (test (key_sector image c k l) i) (Q (place_number c.keys k l i))) where
    abbrev H : ℕ
    H = c.keys

    first_with : (p : Place) → place_from test (key_sector image c k) c.layers 0 ≡ Some p → FirstWith Q (block_sector F s slices c.from) c.keys c.layers k p
    first_with p found =
        let f = place_first test (key_sector image c k) c.layers 0 p found in
        let n = place_number H k f.layer p.slot in
        let h : f.layer < c.layers = omega (arith, f.high) in
        let inside : n < place_count H c.layers = number_inside H k f.layer p.slot f.slot c.layers low h in
        record {
          place = n;
          inside = inside;
          key = number_key H k f.layer p.slot f.slot low;
          has = (decides f.layer p.slot h f.slot).yes f.passes;
          earlier = λ t x e q.
              let o = place_of_key H c.layers k t (omega arith) (omega arith) e in
              let y = number_order H k f.layer p.slot o.layer o.slot (omega arith) f.slot o.small (omega (arith, o.number)) in
              (decides o.layer o.slot o.inside o.small).not (f.before o.layer o.slot (omega arith) o.small y) (rw o.number at q);
          sector = f.sector ∙ key_block k f.layer low h ∙ ap (block_sector F s slices c.from) (sym (number_block H k f.layer p.slot f.slot));
          slot = sym (number_slot H k f.layer p.slot f.slot);
        }

    none_with : place_from test (key_sector image c k) c.layers 0 ≡ None → NoneWith Q c.keys c.layers k
    none_with missed = record {
      lacks = λ t x e q.
          let o = place_of_key H c.layers k t (omega arith) x e in
          let f = no_place test (key_sector image c k) c.layers 0 missed in
          (decides o.layer o.slot o.inside o.small).not (f.fails o.layer o.slot (omega arith) (omega (arith, o.inside)) o.small) (rw o.number at q);
    }

  -- "Does the name stand in the catalog?"
  module _ (n : ℕ) (keys : 1 ≤ c.keys) where
    key_low : key_of c.keys n < c.keys
    key_low = mod-lt _ keys

    pub named_at : (p : Place) → place_named image c n ≡ Some p → FirstWith (λ t. name_at P t ≡ n) (block_sector F s slices c.from) c.keys c.layers (key_of c.keys n) p
    named_at = first_with (slot_named image n) (λ t. name_at P t ≡ n) (key_of c.keys n) key_low (λ l i x y. named _ l i key_low x y n)

    pub named_nothing : place_named image c n ≡ None → NoneWith (λ t. name_at P t ≡ n) c.keys c.layers (key_of c.keys n)
    named_nothing = none_with (slot_named image n) (λ t. name_at P t ≡ n) (key_of c.keys n) key_low (λ l i x y. named _ l i key_low x y n)

  -- "An entry takes the first unused place": the places of the key before it, or all of them, are used
  module _ (k : ℕ) (low : k < c.keys) where
    pub unused_at : (p : Place) → place_unused image c k ≡ Some p → FirstWith (Unused P) (block_sector F s slices c.from) c.keys c.layers k p
    unused_at = first_with (slot_unused image) (Unused P) k low (λ l i x y. unused k l i low x y)

    pub unused_nothing : place_unused image c k ≡ None → NoneWith (Unused P) c.keys c.layers k
    unused_nothing = none_with (slot_unused image) (Unused P) k low (λ l i x y. unused k l i low x y)
