-- Laws of one place: what its first word, its name and its key say of it.
use Rattle.std.proofs.Common.{◌≡◌, ℕ, ◌/◌, ◌<◌, Bool, true, false, T, eqb, List, length, get_or, sym, ap, ◌∙◌, subst, arith, lit<, eqb-true}
use mathlib.Core.Path.{subst⁻¹}
use lib.Pointwise.{pointwise}
use Rattle.std.proofs.lemmas.Bool.Decides.{Decides-eqb}
use Rattle.std.proofs.lemmas.Grind.{same_number_lists}
use Rattle.std.proofs.lemmas.Slice.Eq.{slice_eq-Decides}
use Rattle.types.specs.declared.Name.{Name}
use Rattle.disc.specs.Decide.{Decides}
use Rattle.disc.specs.Names.{legal_name, key_of, SYS, packed}
use Rattle.disc.specs.Entries.{name_at, system_entry}
use Rattle.disc.proofs.DecideLaws.{true≢false}
use Rattle.names.specs.NameIs.{NameIs}
use Rattle.sound.specs.Places.{Unused, Used}
use Rattle.sound_entries.specs.declared.Expected.{Expected}
use Rattle.sound_entries.specs.Legal.{place_of, NameIn, HoldsEntry, own_entry, SystemLegal, PlaceLegal}

pub T_of : {b : Bool} → b ≡ true → T b
T_of e = subst⁻¹ T e tt

pub T_not : {b : Bool} → b ≡ false → T b → ⊥
T_not e h = subst T e h

-- a name whose first character is 0 is not legal
pub legal_first : (n : ℕ) → T (legal_name n) → n / 0x10000000000 ≡ 0 → ⊥
legal_first n h e = rw e at h

module _ {P : ℕ → ℕ → ℕ} {t : ℕ} where
  pub name_packed : {name : Name} → NameIn P t name → packed name ≡ name_at P t
  name_packed n = omega arith

  pub first_used : {name : Name} → NameIn P t name → (name.0 ≡ 0 → ⊥) → Used P t
  first_used n d u = d (n.first ∙ u.zero 0 (lit< tt))

  -- where the first word is 0, no legal name stands
  pub zero_unused : {name : Name} {H k : ℕ} {sys : List ℕ} → NameIn P t name → PlaceLegal P H k sys t → name.0 ≡ 0 → Used P t → ⊥
  zero_unused n legal z used = legal_first (name_at P t) (legal.name used) (omega (arith, n.first, n.second, n.third, n.second_word, n.third_word))

  -- an unused place has no name
  pub unused_name : Unused P t → name_at P t ≡ 0
  unused_name u = omega (arith, u.zero 0 (lit< tt), u.zero 1 (lit< tt), u.zero 2 (lit< tt))

  -- ---- a place named SYS, with the entry by which it is judged

  module _ {name other : Name} {m : Bool} (n : NameIn P t name) (test : m ≡ eqb (packed name) (packed other)) where
    pub judged_sys : {r : Bool} (expected : Expected) → NameIs other SYS → m ≡ true
        → Decides r (HoldsEntry P t (system_entry (packed name) expected.size expected.catalog.index.0 expected.reserved)) → Decides r (SystemLegal P (own_entry expected) t)
    unfolding own_entry
    judged_sys {r} expected o y d =
        let e : packed name ≡ SYS = eqb-true _ _ (sym test ∙ y) ∙ o.packed in
        let h = subst (λ (x : ℕ). Decides r (HoldsEntry P t (system_entry x expected.size expected.catalog.index.0 expected.reserved))) e d in
        let f : name_at P t ≡ SYS = sym (name_packed n) ∙ e in
        record {
          yes = λ z. record { sys_words = λ _. h.yes z; map_words = λ x. absurd (omega arith) };
          not = λ z l. h.not z (l.sys_words f);
        }

  -- ---- a whole place
  module _ {H k : ℕ} {sys : List ℕ} where
    -- a used place: its name, its key, and the rest
    module _ {name : Name} (n : NameIn P t name) (used : Used P t) where
      pub judged_name : {r : Bool} → r ≡ legal_name (packed name) → r ≡ false → PlaceLegal P H k sys t → ⊥
      judged_name e f p = T_not (ap legal_name (sym (name_packed n)) ∙ sym e ∙ f) (p.name used)

      pub judged_key : (k ≡ key_of H (packed name) → ⊥) → PlaceLegal P H k sys t → ⊥
      judged_key d p = d (p.key used ∙ ap (key_of H) (sym (name_packed n)))

      pub judged_rest : {l r : Bool} → l ≡ legal_name (packed name) → l ≡ true
          → k ≡ key_of H (packed name) → Decides r (SystemLegal P sys t) → Decides r (PlaceLegal P H k sys t)
      judged_rest e f g d =
          record {
            yes = λ y.
                record {
                  name = λ _. T_of (ap legal_name (sym (name_packed n)) ∙ sym e ∙ f);
                  key = λ _. g ∙ ap (key_of H) (name_packed n);
                  system = d.yes y;
                };
            not = λ y p. d.not y p.system;
          }

-- ---- a place alone, by its words

-- `==` of the words of a place and those of an entry
pub words_are : {r : Bool} (words entry : List ℕ) → length words ≡ 16 → length entry ≡ 16 → r ≡ pointwise eqb words entry
    → Decides r (HoldsEntry (place_of words) 0 entry)
words_are {r} words entry long full e =
    let d = slice_eq-Decides Decides-eqb words entry r e in
    record {
      yes = λ y. record { at = λ w h. ap (λ (l : List ℕ). get_or l w 0) (d.0 y) };
      not = λ n p. true≢false (sym (d.1 (same_number_lists words entry (long ∙ sym full) (λ k h. p.at k (omega arith)))) ∙ n);
    }

-- ---- the same words in another array of places

pub record SameWords (P : ℕ → ℕ → ℕ) (t : ℕ) (R : ℕ → ℕ → ℕ) (u : ℕ) : Type 0 where
  pub words : (w : ℕ) → w < 16 → P t w ≡ R u w

module _ {P R : ℕ → ℕ → ℕ} {t u : ℕ} (same : SameWords P t R u) where
  pub same_back : SameWords R u P t
  same_back = record { words = λ w h. sym (same.words w h) }

  pub name_moved : name_at P t ≡ name_at R u
  name_moved = omega (arith, same.words 0 (lit< tt), same.words 1 (lit< tt), same.words 2 (lit< tt))

  pub used_moved : Used P t → Used R u
  used_moved x y = x (record { zero = λ w h. same.words w h ∙ y.zero w h })

  entry_moved : {entry : List ℕ} → HoldsEntry P t entry → HoldsEntry R u entry
  entry_moved x = record { at = λ w h. sym (same.words w h) ∙ x.at w h }

pub place_moved : {P R : ℕ → ℕ → ℕ} {t u H k : ℕ} {sys : List ℕ} → SameWords P t R u → PlaceLegal P H k sys t → PlaceLegal R H k sys u
place_moved {H = H} same p =
    let e = name_moved same in
    let back = used_moved (same_back same) in
    record {
      name = λ x. subst (λ (n : ℕ). T (legal_name n)) e (p.name (back x));
      key = λ x. p.key (back x) ∙ ap (key_of H) e;
      system = record {
        sys_words = λ s. entry_moved same (p.system.sys_words (e ∙ s));
        map_words = λ s. entry_moved same (p.system.map_words (e ∙ s));
      };
    }
