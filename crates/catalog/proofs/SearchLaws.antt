-- What the searches find: the first slot of a sector and the first place of a key that pass a test; and what the tests decide.
use Rattle.std.specs.Prelude.{Option, Some, None}
use mathlib.Core.Path.{◌≡◌, refl, sym, ap, ◌∙◌}
use mathlib.Core.Bool.{Bool, true, false, ◌&&◌, cond}
use mathlib.Core.List.{List}
use Prim.Native.Nat.{ℕ, zero, suc, ◌+◌, ◌*◌, ◌≤◌, ◌<◌}
use native.Mathlib.Nat.{add-zero}
use native.Mathlib.Omega.{arith}
use lib.Dec.{eqb, ltb}
use borrow.Author.Tests.{ltb-true, ltb-false, eqb-true, eqb-false, eq-eqb, ne_eqb}
use Rattle.disc.specs.Words.{word}
use Rattle.disc.specs.Names.{pack}
use Rattle.disc.specs.Decide.{Decides}
use Rattle.disc.proofs.Compare.{same_or}
use Rattle.disc.proofs.DecideLaws.{holds, fails}
use Rattle.catalog.specs.declared.Place.{Place}
use Rattle.catalog.specs.Catalog.{place_at, slot_word, slot_named, zero_run, slot_unused, slot_from, first_slot, slot_or, place_from}

-- ---- slots

-- j is the first of the n slots from i on that passes the test, or the slot after them
pub record FirstSlot (test : ℕ → Bool) (n i j : ℕ) : Type 0 where
  pub low : i ≤ j
  pub high : j ≤ i + n
  pub passes : j < i + n → test j ≡ true
  pub before : (v : ℕ) → i ≤ v → v < j → test v ≡ false

pub slot_first : (test : ℕ → Bool) (n i : ℕ) → FirstSlot test n i (slot_from test n i)
unfolding slot_from
slot_first test zero i = record { low = omega arith; high = omega arith; passes = λ h. absurd (omega arith); before = λ v a b. absurd (omega arith) }
slot_first test (suc n) i = go (test i) refl (slot_first test n (suc i))
  where
    go : (b : Bool) → test i ≡ b → FirstSlot test n (suc i) (slot_from test n (suc i)) → FirstSlot test (suc n) i (cond b i (slot_from test n (suc i)))
    go true t r = record { low = omega arith; high = omega arith; passes = λ h. t; before = λ v a b. absurd (omega arith) }
    go false t r = record {
      low = omega (arith, r.low);
      high = omega (arith, r.high);
      passes = λ h. r.passes (omega arith);
      before = λ v a b. same_or v i (λ e. ap test e ∙ t) (λ d. r.before v (omega arith) b);
    }

-- ---- places

-- p is the first place that passes the test, in the n layers from l on
pub record FirstPlace (test : ℕ → ℕ → Bool) (sectors : ℕ → ℕ) (n l : ℕ) (p : Place) : Type 0 where
  pub layer : ℕ
  pub low : l ≤ layer
  pub high : layer < l + n
  pub sector : p.sector.0 ≡ sectors layer
  pub slot : p.slot < 16
  pub passes : test (sectors layer) p.slot ≡ true
  pub before : (m v : ℕ) → l ≤ m → v < 16 → 16 * m + v < 16 * layer + p.slot → test (sectors m) v ≡ false

-- no place of these layers passes the test
pub record NoPlace (test : ℕ → ℕ → Bool) (sectors : ℕ → ℕ) (n l : ℕ) : Type 0 where
  pub fails : (m v : ℕ) → l ≤ m → m < l + n → v < 16 → test (sectors m) v ≡ false

module _ (test : ℕ → ℕ → Bool) (sectors : ℕ → ℕ) where
  -- one layer and those after it, where i is the layer's first slot that passes
  module _ (n l i : ℕ) (f : FirstSlot (test (sectors l)) 16 0 i) where
    passed : 16 ≤ i → (m v : ℕ) → v < 16 → m ≡ l → test (sectors m) v ≡ false
    passed h m v x e = rw e (f.before v (omega arith) (omega arith))

    first_step : (rest : Option Place) (p : Place) → (rest ≡ Some p → FirstPlace test sectors n (suc l) p) → slot_or (sectors l) i rest ≡ Some p → FirstPlace test sectors (suc n) l p
    first_step rest p ih e = go (ltb i 16) refl e
      where
        go : (b : Bool) → ltb i 16 ≡ b → cond b (Some (place_at (sectors l) i)) rest ≡ Some p → FirstPlace test sectors (suc n) l p
        go true t e =
            let h : i < 16 = ltb-true i 16 t in
            let same : place_at (sectors l) i ≡ p = cc in
            let s : p.slot ≡ i = ap (λ (x : Place). x.slot) (sym same) in
            record {
              layer = l;
              low = omega arith;
              high = omega arith;
              sector = ap (λ (x : Place). x.sector.0) (sym same);
              slot = omega arith;
              passes = rw s (f.passes (omega arith));
              before = λ m v a x y. same_or m l (λ q. rw q (f.before v (omega arith) (omega arith))) (λ d. absurd (omega arith));
            }
        go false t e =
            let r = ih e in
            record {
              layer = r.layer;
              low = omega (arith, r.low);
              high = omega (arith, r.high);
              sector = r.sector;
              slot = r.slot;
              passes = r.passes;
              before = λ m v a x y. same_or m l (passed (ltb-false i 16 t) m v x) (λ d. r.before m v (omega arith) x y);
            }

    none_step : (rest : Option Place) → (rest ≡ None → NoPlace test sectors n (suc l)) → slot_or (sectors l) i rest ≡ None → NoPlace test sectors (suc n) l
    none_step rest ih e = go (ltb i 16) refl e
      where
        go : (b : Bool) → ltb i 16 ≡ b → cond b (Some (place_at (sectors l) i)) rest ≡ None → NoPlace test sectors (suc n) l
        go true t e = absurd (let z : ◌≡◌ {A = ℕ} 0 1 = cc in omega arith)
        go false t e =
            let r = ih e in
            record { fails = λ m v a b x. same_or m l (passed (ltb-false i 16 t) m v x) (λ d. r.fails m v (omega arith) (omega arith) x) }

  pub place_first : (n l : ℕ) (p : Place) → place_from test sectors n l ≡ Some p → FirstPlace test sectors n l p
  unfolding place_from
  place_first zero l p e = absurd (let z : ◌≡◌ {A = ℕ} 0 1 = cc in omega arith)
  place_first (suc n) l p e =
      first_step n l (first_slot (test (sectors l))) (slot_first (test (sectors l)) 16 0) (place_from test sectors n (suc l)) p (place_first n (suc l) p) e

  pub no_place : (n l : ℕ) → place_from test sectors n l ≡ None → NoPlace test sectors n l
  unfolding place_from
  no_place zero l e = record { fails = λ m v a b x. absurd (omega arith) }
  no_place (suc n) l e =
      none_step n l (first_slot (test (sectors l))) (slot_first (test (sectors l)) 16 0) (place_from test sectors n (suc l)) (no_place n (suc l)) e

-- ---- the tests

pub name_decides : (image : List ℕ) (n q i : ℕ) → Decides (slot_named image n q i) (pack (slot_word image q i 0) (slot_word image q i 1) (slot_word image q i 2) ≡ n)
unfolding slot_named
name_decides image n q i = record { yes = eqb-true _ n; not = eqb-false _ n }

-- n zero words from word b on
abbrev ZeroRun : List ℕ → ℕ → ℕ → ℕ → Type 0
ZeroRun image q n b = (w : ℕ) → w < n → word image q (b + w) ≡ 0

module _ (image : List ℕ) (q n b : ℕ) where
  next : (w : ℕ) → word image q (b + suc w) ≡ word image q (suc b + w)
  next w = let e : b + suc w ≡ suc b + w = omega arith in ap (word image q) e

  first : word image q (b + 0) ≡ word image q b
  first = ap (word image q) (add-zero b)

  zero_more : word image q b ≡ 0 → ZeroRun image q n (suc b) → ZeroRun image q (suc n) b
  zero_more e z zero h = first ∙ e
  zero_more e z (suc w) h = next w ∙ z w (omega arith)

  run_step : (r : Bool) → Decides r (ZeroRun image q n (suc b)) → Decides (eqb (word image q b) 0 && r) (ZeroRun image q (suc n) b)
  run_step r d = same_or (word image q b) 0
      (λ e. rw (eq-eqb (word image q b) 0 e)
      record { yes = λ t. zero_more e (d.yes t); not = λ t z. d.not t (λ w h. sym (next w) ∙ z (suc w) (omega arith)) })
      (λ e. rw (ne_eqb (word image q b) 0 e) (fails (λ z. e (sym first ∙ z 0 (omega arith)))))

run_decides : (image : List ℕ) (q n b : ℕ) → Decides (zero_run image q n b) (ZeroRun image q n b)
unfolding zero_run
run_decides image q zero b = holds (λ w h. absurd (omega arith))
run_decides image q (suc n) b = run_step image q n b (zero_run image q n (suc b)) (run_decides image q n (suc b))

pub unused_decides : (image : List ℕ) (q i : ℕ) → Decides (slot_unused image q i) ((w : ℕ) → w < 16 → slot_word image q i w ≡ 0)
unfolding slot_unused
unused_decides image q i = run_decides image q 16 (i * 16)
