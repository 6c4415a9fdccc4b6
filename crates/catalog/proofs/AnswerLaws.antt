-- What the searches answer: a question's word is 0, and the layers stay, exactly if a place passes the test.
use Rattle.std.specs.Prelude.{Option, Some, None}
use mathlib.Core.Path.{◌≡◌, refl, sym, ap, ◌∙◌}
use mathlib.Core.Bool.{Bool, true, false, not}
use mathlib.Core.List.{List}
use Prim.Native.Nat.{ℕ, suc, ◌≤◌}
use native.Mathlib.Omega.{arith}
use lib.Dec.{eqb}
use borrow.Author.Tests.{eq-eqb, ne_eqb}
use Rattle.disc.specs.Names.{key_of}
use Rattle.disc.specs.Decide.{Decides}
use Rattle.disc.proofs.DecideLaws.{holds, fails, true≢false}
use Rattle.catalog.specs.declared.Catalog.{Catalog}
use Rattle.catalog.specs.declared.Place.{Place}
use Rattle.catalog.specs.Catalog.{key_sector, slot_named, slot_unused, place_from, place_named, place_unused, word_of, new_name_word, layers_with, SomePlace, NamePlace, UnusedPlace}
use Rattle.catalog.proofs.SearchLaws.{place_first, no_place}

module _ (test : ℕ → ℕ → Bool) (sectors : ℕ → ℕ) (n : ℕ) where
  -- a test of the answer that a place passes and nothing fails
  decided : (f : Option Place → Bool) → ((p : Place) → f (Some p) ≡ true) → f None ≡ false → Decides (f (place_from test sectors n 0)) (SomePlace test sectors n)
  decided f at none = go (place_from test sectors n 0) refl
    where
      go : (r : Option Place) → place_from test sectors n 0 ≡ r → Decides (f r) (SomePlace test sectors n)
      go (Some p) e =
          let q = place_first test sectors n 0 p e in
          rw (at p) (holds (record { layer = q.layer; slot = p.slot; low = omega (arith, q.high); inside = q.slot; passes = q.passes }))
      go None e =
          let q = no_place test sectors n 0 e in
          rw none (fails (λ s. true≢false (sym s.passes ∙ q.fails s.layer s.slot (omega arith) (omega (arith, s.low)) s.inside)))

  word_decides : (refusal : ℕ) → 1 ≤ refusal → Decides (eqb (word_of refusal (place_from test sectors n 0)) 0) (SomePlace test sectors n)
  word_decides refusal h = decided (λ r. eqb (word_of refusal r) 0) (λ p. eq-eqb 0 0 refl) (ne_eqb refusal 0 (λ z. omega arith))

  layers_decide : (layers : ℕ) → Decides (eqb (layers_with layers (place_from test sectors n 0)) layers) (SomePlace test sectors n)
  layers_decide layers = decided (λ r. eqb (layers_with layers r) layers) (λ p. eq-eqb layers layers refl) (ne_eqb (suc layers) layers (λ z. omega arith))

-- the opposite question
opposite : {P : Type 0} (b : Bool) → Decides (not b) P → Decides b (P → ⊥)
opposite true d = record { yes = λ _. d.not refl; not = λ e. absurd (true≢false e) }
opposite false d = record { yes = λ e. absurd (true≢false (sym e)); not = λ _ none. none (d.yes refl) }

new_decides : (test : ℕ → ℕ → Bool) (sectors : ℕ → ℕ) (n : ℕ) → Decides (eqb (new_name_word (place_from test sectors n 0)) 0) (SomePlace test sectors n → ⊥)
new_decides test sectors n =
    opposite _ (decided test sectors n (λ r. not (eqb (new_name_word r) 0)) (λ p. ap not (ne_eqb 0x1010 0 (λ z. omega arith))) (ap not (eq-eqb 0 0 refl)))

pub name_place : {image : List ℕ} {c : Catalog} {n : ℕ} {r : Option Place} → r ≡ place_named image c n → NamePlace image c n r
name_place {image} {c} {n} e =
    let test = slot_named image n in
    let sectors = key_sector image c (key_of c.keys n) in
    rw e (record {
      place = refl;
      stands = word_decides test sectors c.layers 0x5000 (omega arith);
      entered = word_decides test sectors c.layers 0x4800 (omega arith);
      sound = word_decides test sectors c.layers 0x9000 (omega arith);
      area_sound = word_decides test sectors c.layers 0x8800 (omega arith);
      new = new_decides test sectors c.layers;
    })

pub unused_place : {image : List ℕ} {c : Catalog} {k : ℕ} {r : Option Place} → r ≡ place_unused image c k → UnusedPlace image c k r
unused_place {image} {c} {k} e = rw e (record { place = refl; layers = layers_decide (slot_unused image) (key_sector image c k) c.layers c.layers })
