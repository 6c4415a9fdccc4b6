-- Where the free slices form at most 127 stretches, no new file is refused for its index; with more of them one of all free slices is.
use mathlib.Core.Path.{◌≡◌, sym, ap, ◌∙◌, subst}
use mathlib.Core.Bool.{Bool, true, false, not}
use mathlib.Core.List.{List, [], ◌++◌}
use mathlib.Core.Logic.{◌≢◌}
use Prim.Native.Nat.{ℕ, zero, suc, ◌+◌, ◌-◌, ◌*◌, ◌≤◌, ◌<◌}
use native.Mathlib.Nat.{mul-le-mul_left, mul-div-le}
use native.Mathlib.Omega.{arith}
use lib.Dec.{T, leb, leb→le, le→leb}
use lib.ListN.{replicate}
use borrow.Author.Tests.{lt-leb}
use Rattle.types.specs.declared.Name.{Name}
use Rattle.types.specs.declared.Message.{Message}
use Rattle.types.specs.declared.Message.TheVariants.{Create}
use Rattle.disc.specs.Numbers.{need}
use Rattle.disc.specs.Names.{legal_name, named, unit_in}
use Rattle.disc.specs.Attributes.{legal_attributes, gives_entry_only}
use Rattle.disc.specs.Stretches.{stretch_count}
use Rattle.disc.specs.OneStretch.{taken_for_file}
use Rattle.disc.specs.FreeStretches.{free_in}
use Rattle.disc.proofs.Compare.{below_or}
use Rattle.disc.proofs.NumberLaws.{need_le}
use Rattle.disc.proofs.SliceLaws.{sum_law}
use Rattle.disc.proofs.StretchLaws.{count_le}
use Rattle.disc.proofs.FreeStretchLaws.{length_free, for_file_count, for_file_all}
use Rattle.plain.specs.Table.{is_some}
use Rattle.plain.specs.Unit.{Plain, M, held, free_slices, entry, sys_of}
use Rattle.plain.specs.Questions.{Outcome, asks, replies, known}
use Rattle.plain.specs.Taking.{layers_for}
use Rattle.plain.specs.Catalog.{new_file}
use Rattle.plain.specs.Step.{step}
use Rattle.plain.specs.Good.{Good}
use Rattle.plain.specs.FreeStretches.{free_stretches, AddsNoLayer, MakesFile, create, set, length_of_all, NoCrowdedIndex}
use Rattle.plain.proofs.QuestionLaws.{asks_law, asks_yes, asks_no, false_no}
use Rattle.plain.proofs.GrowUnit.{sys_extra, sys_taken, not_grown, taken_grown}
use Rattle.plain.proofs.CreateUnit.{slices_left}

-- ---- no layer is added: SYS takes nothing, and the file takes beside what is held

module _ (p : Plain) (g : Good p) (l : ℕ) (stays : l ≡ p.layers) where
  sys_stays_lem : p.sys ++ sys_taken p l ≡ p.sys
  sys_stays_lem = ap (λ (x : ℕ). p.sys ++ sys_taken p x) stays ∙ ap (λ (q : Plain). q.sys) (not_grown p g)

  sys_few_lem : T (leb (stretch_count (p.sys ++ sys_taken p l)) 127)
  sys_few_lem = le→leb _ _ (omega (arith, ap stretch_count sys_stays_lem, g.catalog.few))

  none_extra : sys_extra p l ≡ 0
  none_extra = omega (arith, ap (sys_extra p) stays, g.catalog.count)

  file_takes : (size : ℕ) → slices_left p l size ≡ taken_for_file (M p) (held p) [] (need p.s size)
  file_takes size =
      ap (λ (x : ℕ). slices_left p x size) stays ∙ taken_grown p p.layers [] (need p.s size)
      ∙ ap (λ (q : Plain). taken_for_file (M q) (held q) [] (need p.s size)) (not_grown p g)

-- ---- at most 127 stretches

-- an outcome that is no refusal for an index
abbrev Fits : Outcome → Type 0
Fits o = o.answer.result ≢ 0x1008

module _ (p : Plain) (g : Good p) (few : free_stretches p ≤ 127) where
  new_fits : (n size attributes : ℕ) (optional tail lent : List ℕ) → AddsNoLayer p n → Fits (new_file p n size attributes optional tail lent)
  unfolding new_file
  new_fits n size attributes optional tail lent stays =
      asks_law Fits _ (λ e. omega (arith, e)) λ legal.
      asks_law Fits _ (λ e. omega (arith, e)) λ short.
      asks_law Fits _ (λ e. omega (arith, e)) λ allowed.
      asks_law Fits _ (λ e. omega (arith, e)) λ given.
      asks_law Fits _ (λ e. omega (arith, e)) λ vacant.
      asks_law Fits _ (λ e. omega (arith, e)) λ room.
      subst Fits (sym (asks_yes _ _ _ (sys_few_lem p g l stays) ∙ asks_yes _ _ _ (file_few room))) (λ e. omega (arith, e))
    where
      l : ℕ
      l = layers_for p.H (sys_of p) n p.files

      file_few : T (leb (sys_extra p l + need p.s size) (free_slices p)) → T (leb (stretch_count (slices_left p l size)) 127)
      file_few room =
          let enough : need p.s size ≤ free_slices p = omega (arith, leb→le _ _ room) in
          le→leb _ _ (omega (arith, ap stretch_count (file_takes p g l stays size), for_file_count (M p) (held p) (need p.s size) enough))

  message_fits : (name : Name) (message : Message) (lent : List ℕ) → MakesFile name message → AddsNoLayer p (named name) → Fits (step p message lent)
  message_fits name message lent create stays = asks_law Fits _ (λ e. omega (arith, e)) λ _. new_fits _ _ _ _ _ lent stays
  message_fits name message lent set stays =
      asks_law Fits _ (λ e. omega (arith, e)) λ _. asks_law Fits _ (λ e. omega (arith, e)) λ _. new_fits _ _ _ _ _ lent stays

-- ---- more stretches

-- n slices are what a file of all their sectors but one needs
need_all : (s n : ℕ) → 2 ≤ s → 1 ≤ n → need s (s * n - 1) ≡ n
need_all s zero two some = absurd (omega arith)
need_all s (suc n) two some =
    let size : ℕ = s * suc n - 1 in
    let e : s * suc n ≡ n * s + s = omega arith in
    let f : suc n * s ≡ n * s + s = omega arith in
    let enough : need s size ≤ suc n = (need_le s size (suc n) (omega arith) (omega arith)).1 (omega arith) in
    below_or (need s size) (suc n)
    (λ less. absurd (let h = (need_le s size n (omega arith) (omega arith)).0 (omega arith) in omega (arith, h)))
    (λ more. omega (arith, enough))

-- the questions of a new file that do not ask for its size
record Asked (p : Plain) (n attributes : ℕ) : Type 0 where
  legal : T (legal_name n)
  allowed : T (legal_attributes attributes)
  given : T (not (gives_entry_only attributes))
  vacant : T (not (is_some (entry p n)))

asked : (p : Plain) (n attributes : ℕ) (optional tail lent : List ℕ) → (new_file p n 0 attributes optional tail lent).answer.result ≡ 0 → Asked p n attributes
unfolding new_file
asked p n attributes optional tail lent =
    let P : Outcome → Type 0 = λ o. o.answer.result ≡ 0 → Asked p n attributes in
    asks_law P _ (λ e. absurd (omega arith)) λ legal.
    asks_law P _ (λ e. absurd (omega arith)) λ short.
    asks_law P _ (λ e. absurd (omega arith)) λ allowed.
    asks_law P _ (λ e. absurd (omega arith)) λ given.
    asks_law P _ (λ e. absurd (omega arith)) λ vacant e. record { legal = legal; allowed = allowed; given = given; vacant = vacant }

module _ (p : Plain) (g : Good p) where
  all_short : length_of_all p < 0x8000
  all_short =
      omega (
        arith,
        mul-le-mul_left p.s (let h : free_slices p ≤ M p = omega (arith, sum_law (M p) (held p) g.once) in h),
        mul-div-le (p.N - p.F) p.s,
        g.limits.sectors,
      )

  module _ (many : 128 ≤ free_stretches p) where
    some_free : 1 ≤ free_slices p
    some_free = omega (arith, length_free (M p) (held p), count_le (free_in (M p) (held p)))

    needs_all : need p.s (length_of_all p) ≡ free_slices p
    needs_all = need_all p.s (free_slices p) g.limits.slice_low some_free

    module _ (n attributes : ℕ) (optional tail lent : List ℕ) (stays : AddsNoLayer p n) where
      new_crowded : Asked p n attributes → new_file p n (length_of_all p) attributes optional tail lent ≡ replies p 0x1008 lent
      unfolding new_file
      new_crowded a =
          asks_yes _ _ _ a.legal ∙ asks_yes _ _ _ (false_no (lt-leb 0x8000 (length_of_all p) all_short)) ∙ asks_yes _ _ _ a.allowed
          ∙ asks_yes _ _ _ a.given ∙ asks_yes _ _ _ a.vacant ∙ asks_yes _ _ _ room ∙ asks_yes _ _ _ (sys_few_lem p g l stays)
          ∙ asks_no _ _ _ (false_no (lt-leb _ 127 crowded))
        where
          l : ℕ
          l = layers_for p.H (sys_of p) n p.files

          room : T (leb (sys_extra p l + need p.s (length_of_all p)) (free_slices p))
          room = le→leb _ _ (omega (arith, none_extra p g l stays, needs_all))

          crowded : 127 < stretch_count (slices_left p l (length_of_all p))
          crowded =
              omega (
                arith,
                ap stretch_count (file_takes p g l stays (length_of_all p) ∙ ap (taken_for_file (M p) (held p) []) needs_all),
                for_file_all (M p) (held p) (omega arith),
              )

    create_crowded : (name : Name) (attributes : ℕ) (words lent : List ℕ) → AddsNoLayer p (named name) → (step p (Create name 0 attributes) words).answer.result ≡ 0
        → (step p (Create name (length_of_all p) attributes) lent).answer.result ≡ 0x1008
    unfolding asks
    create_crowded name attributes words lent stays = go (known p (unit_in name))
      where
        new : ℕ → List ℕ → Outcome
        new size l = new_file p (named name) size attributes (replicate 3 0) (replicate 6 0) l

        go : (b : Bool) → (asks b (replies p 0x1200 words) (new 0 words)).answer.result ≡ 0 → (asks b (replies p 0x1200 lent) (new (length_of_all p) lent)).answer.result ≡ 0x1008
        go true e = ap (λ (o : Outcome). o.answer.result) (new_crowded (named name) attributes _ _ lent stays (asked p (named name) attributes _ _ words e))
        go false e = absurd (omega (arith, e))

pub no_crowded_index_lem : NoCrowdedIndex
no_crowded_index_lem = record {
  fits = λ p name message lent g makes few stays. message_fits p g few name message lent makes stays;
  highest = λ p name attributes words lent g many. create_crowded p g many name attributes words lent;
}
