-- Questions 7 and 8: the plain unit's answer by the three tests, and what the code's tests say of them.
use mathlib.Core.Path.{◌≡◌, refl, sym, ap, ap₂, ◌∙◌}
use mathlib.Core.Bool.{Bool, true, false, not}
use mathlib.Core.List.{List, ◌++◌}
use Prim.Native.Nat.{ℕ, ◌+◌, ◌*◌, ◌-◌, ◌≤◌, ◌<◌}
use native.Mathlib.Omega.{arith}
use native.Mathlib.Nat.{mul-le-mul_left, mul-le-mul_right, le-mul_of_pos_right}
use lib.Dec.{leb→le}
use borrow.Author.Tests.{le-leb, lt-leb}
use Rattle.disc.specs.Decide.{Decides}
use Rattle.disc.specs.Stretches.{stretch_count}
use Rattle.disc.specs.Map.{ones_in_map}
use Rattle.disc.specs.Catalog.{Catalog, slices_for}
use Rattle.disc.proofs.NumberLaws.{ceil_div_le}
use Rattle.disc.proofs.Compare.{below_or}
use Rattle.disc.proofs.DecideLaws.{refutes, grants}
use Rattle.map.proofs.CountLaws.{ones_free}
use Rattle.index.specs.Block.{block_at, slice_total}
use Rattle.catalog.specs.declared.Unit.{Unit}
use Rattle.plain.specs.Table.{Table}
use Rattle.plain.specs.Unit.{Plain, File, M, held, free_slices, with_tables}
use Rattle.plain.specs.Questions.{Outcome, replies, done}
use Rattle.plain.specs.Taking.{Taking, taking, enough}
use Rattle.plain.proofs.QuestionLaws.{asks_law, asks_yes, asks_no}
use Rattle.refine.specs.OnDisc.{OnDisc}
use Rattle.lookup.specs.Unit.{NumbersWith}
use Rattle.slices.specs.declared.Growth.{Growth}
use Rattle.slices.specs.FileBlock.{FileBlock}
use Rattle.slices.specs.Fit.{CanFitFrom, CanFit, Fits}
use Rattle.slices.proofs.BlockLaws.{unit_file}
use Rattle.slices.proofs.TakeLaws.{unit-take}
use Rattle.grow.specs.Room.{AskedOf}
use Rattle.grow.proofs.BlockLaws.{catalog_block, catalog_had, slices_for_lem, catalog_from}

-- ---- the plain unit's answer

-- The three tests, each answered yes.
pub record Enough (p : Plain) (c : Catalog) (t : Taking) (slices : List ℕ) : Type 0 where
  pub free : t.for_catalog + t.for_file ≤ free_slices p
  pub catalog : stretch_count (c.slices ++ t.catalog_new) ≤ 127
  pub file : stretch_count slices ≤ 127

module _ (p : Plain) (c : Catalog) (t : Taking) (slices lent : List ℕ) (files : Table File) where
  pub too_few : free_slices p < t.for_catalog + t.for_file → enough p c t slices lent files ≡ replies p 0x1100 lent
  too_few h = asks_no _ _ _ (rw (lt-leb _ _ h) tt)

  module _ (free : t.for_catalog + t.for_file ≤ free_slices p) where
    pub catalog_many : 127 < stretch_count (c.slices ++ t.catalog_new) → enough p c t slices lent files ≡ replies p 0x1008 lent
    catalog_many h = asks_yes _ _ _ (rw (le-leb _ _ free) tt) ∙ asks_no _ _ _ (rw (lt-leb _ _ h) tt)

    module _ (own : stretch_count (c.slices ++ t.catalog_new) ≤ 127) where
      pub file_many : 127 < stretch_count slices → enough p c t slices lent files ≡ replies p 0x1008 lent
      file_many h = asks_yes _ _ _ (rw (le-leb _ _ free) tt) ∙ asks_yes _ _ _ (rw (le-leb _ _ own) tt) ∙ asks_no _ _ _ (rw (lt-leb _ _ h) tt)

      pub all_enough : stretch_count slices ≤ 127 → enough p c t slices lent files ≡ done (with_tables p t.layers (c.slices ++ t.catalog_new) files p.areas) lent
      all_enough h = asks_yes _ _ _ (rw (le-leb _ _ free) tt) ∙ asks_yes _ _ _ (rw (le-leb _ _ own) tt) ∙ asks_yes _ _ _ (rw (le-leb _ _ h) tt)

  abbrev Yes : Outcome → Type 0
  Yes o = o.answer.result ≡ 0 → Enough p c t slices

  abbrev No : Outcome → Type 0
  No o = (o.answer.result ≡ 0 → ⊥) → o ≡ replies p o.answer.result lent

  -- the answer 0: all three tests are passed
  pub enough_yes : (enough p c t slices lent files).answer.result ≡ 0 → Enough p c t slices
  enough_yes = asks_law Yes _ (λ z. absurd (omega arith)) (λ a. asks_law Yes _ (λ z. absurd (omega arith)) (λ b. asks_law Yes _ (λ z. absurd (omega arith)) (λ d z. record {
    free = leb→le _ _ a;
    catalog = leb→le _ _ b;
    file = leb→le _ _ d;
  })))

  -- another answer: a refusal
  pub enough_no : ((enough p c t slices lent files).answer.result ≡ 0 → ⊥) → enough p c t slices lent files ≡ replies p (enough p c t slices lent files).answer.result lent
  enough_no = asks_law No _ (λ h. refl) (λ a. asks_law No _ (λ h. refl) (λ b. asks_law No _ (λ h. refl) (λ d h. absurd (h refl))))

-- ---- the code's tests

abbrev word : Outcome → ℕ
word x = x.answer.result

abbrev growth : List ℕ → ℕ → Growth
growth words n = record { block = record { words = words }; more = n }

module _ {image : List ℕ} {o : Unit} {block : List ℕ} {p : Plain} {c : Catalog} {slices : List ℕ} (asked : AskedOf image o block p c slices) where
  on : OnDisc image p
  on = asked.catalog.on

  num : NumbersWith o p c
  num = asked.catalog.numbers

  asked_file : FileBlock image block p.F p.s (M p) slices
  asked_file =
      unit_file image block slices on.good.limits on.layout.size asked.words asked.few
      (λ k. omega (arith, asked.part k, on.good.once k))

  pub free_is : ones_in_map image ≡ free_slices p
  free_is = ones_free (M p) (held p) image on.good.limits.slices_high on.layout.map on.words

  module _ {index : List ℕ} (at-index : index ≡ block_at image o.catalog.index.0) where
    module _ (layers : ℕ) {more : ℕ} (took : more ≡ slices_for o.catalog.from o.slice (o.catalog.keys * layers) - slice_total o.slice index 0) (for_file : ℕ) where
      abbrev t : Taking
      t = taking p c layers slices for_file

      pub for_catalog_lem : more ≡ t.for_catalog
      for_catalog_lem = took ∙ ap₂ (λ (a b : ℕ). a - b) (rw (num.catalog.keys, num.catalog.from, num.slice) refl) (catalog_had asked.catalog at-index)

      -- few enough for a sum of 32 bits
      pub for_small : layers ≤ 65535 → more ≤ 64 * 65535 + 32767
      for_small h =
          let n : ℕ = p.H * layers + c.from in
          omega (
            arith,
            for_catalog_lem,
            slices_for_lem c.from p.s (p.H * layers),
            catalog_from asked.catalog,
            (ceil_div_le n p.s n (omega (arith, on.good.limits.slice_low))).1 (le-mul_of_pos_right n (omega (arith, on.good.limits.slice_low))),
            mul-le-mul_left p.H h,
            mul-le-mul_right 65535 on.good.limits.keys_high,
          )

      pub answer_few : {free : ℕ} → free ≡ ones_in_map image → free < more + for_file → (lent : List ℕ) (files : Table File)
          → 0x1100 ≡ (enough p c t (slices ++ t.file_new) lent files).answer.result
      answer_few e h lent files = sym (ap word (too_few p c t (slices ++ t.file_new) lent files (omega (arith, e, free_is, for_catalog_lem))))

      pub free_enough : {free : ℕ} → free ≡ ones_in_map image → more + for_file ≤ free → t.for_catalog + for_file ≤ free_slices p
      free_enough e h = omega (arith, e, free_is, for_catalog_lem)

      module _ (free : t.for_catalog + for_file ≤ free_slices p) where
        both : more + for_file ≤ free_slices p
        both = omega (arith, free, for_catalog_lem)

        fit_own : CanFitFrom image p.F p.s (M p) (growth index more) (growth block for_file) (held p) c.slices slices
        fit_own = record { first = unit-take on (catalog_block asked.catalog at-index) both asked.catalog.part; second = unit-take on asked_file both asked.part }

        pub can_fit : CanFit image o.first.0 o.slice o.slices (growth index more) (growth block for_file)
        can_fit = record { held = held p; catalog_slices = c.slices; file_slices = slices; can = rw (num.first, num.slice, num.slices) fit_own }

        module _ {fit : Bool} (d : Fits image o.first.0 o.slice o.slices (growth index more) (growth block for_file) fit) (lent : List ℕ) (files : Table File) where
          decided : Decides fit ((stretch_count (c.slices ++ t.catalog_new) ≤ 127) × (stretch_count (slices ++ t.file_new) ≤ 127))
          decided =
              let own : Fits image p.F p.s (M p) (growth index more) (growth block for_file) fit = rw (num.first, num.slice, num.slices) at d in
              rw for_catalog_lem at (own.all (held p) c.slices slices fit_own)

          pub answer_no : not fit ≡ true → 0x1008 ≡ (enough p c t (slices ++ t.file_new) lent files).answer.result
          answer_no e = sym (ap word (below_or 127 (stretch_count (c.slices ++ t.catalog_new))
              (λ many. catalog_many p c t (slices ++ t.file_new) lent files free many)
              (λ own. below_or 127 (stretch_count (slices ++ t.file_new))
              (λ many. file_many p c t (slices ++ t.file_new) lent files free own many)
              (λ few. absurd (refutes _ decided e (own, few))))))

          pub answer_yes : not fit ≡ false → 0 ≡ (enough p c t (slices ++ t.file_new) lent files).answer.result
          answer_yes e = let few = grants _ decided e in sym (ap word (all_enough p c t (slices ++ t.file_new) lent files free few.0 few.1))
