-- Change as the plain unit has it: where every question is answered yes, the image with the writes of the change is that of the
-- unit after `change_file`, and the open areas are the state's.
use mathlib.Core.Path.{◌≡◌, sym, ap, ◌∙◌, subst}
use mathlib.Core.List.{List}
use mathlib.Core.Option.{some}
use Prim.Native.Nat.{ℕ, ◌<◌}
use lib.Dec.{T}
use Rattle.types.specs.declared.State.{State}
use Rattle.disc.specs.Words.{Words}
use Rattle.disc.specs.Stretches.{sys_from}
use Rattle.disc.specs.Entries.{place_word, place_count, name_at}
use Rattle.plain.specs.Table.{table_find, table_put, table_remove}
use Rattle.plain.specs.Unit.{Plain, File, sys_of, with_files}
use Rattle.plain.specs.Questions.{Outcome}
use Rattle.plain.specs.Catalog.{is_record, change_file}
use Rattle.plain.specs.Good.{Good}
use Rattle.plain.proofs.ChangeUnit.{change_grown, changed_on, changed_unit, ChangeAsked, change_outcome, change_shut, change_shutₘ, change_changes, change_layers, kept_unit}
use Rattle.refine.specs.Represents.{SameAreas}
use Rattle.refine.specs.OnDisc.{OnDisc}
use Rattle.refine.specs.Writes.{changed_image}
use Rattle.preservation.proofs.ChangeStep.{change_on}
use Rattle.preservation.proofs.AreaSteps.{areas_grown, areas_changed}

module _ (p : Plain) (n m size attributes : ℕ) (f : File) (lent : List ℕ) (g : Good p) (found : table_find n p.files ≡ some f)
    (asked : ChangeAsked p n m size attributes f lent) where
  -- the unit after the message
  abbrev unit : Plain
  unit = (change_file p n f m size attributes lent).unit

  -- the unit with SYS grown where the key of the new name is full
  abbrev grown : Plain
  grown = change_grown p n m size attributes f lent

  unit_is : changed_unit p n m size attributes f lent grown ≡ unit
  unit_is = sym (ap (λ (x : Outcome). x.unit) (change_outcome p n m size attributes f lent asked))

  abbrev on : Plain → File
  on q = changed_on p n m size attributes f lent q

  module _ (w : Words lent) (rec : T (is_record lent)) where
    -- the name kept
    pub change_kept : m ≡ n → (i : List ℕ) → OnDisc i p → (t : ℕ) → t < place_count p.H p.layers → name_at (place_word i p.F p.s p.sys sys_from) t ≡ n
        → OnDisc (changed_image p (sys_of p) i t n f (on p)) unit
    change_kept e i =
        subst
        (λ (q : Plain). OnDisc i q → (t : ℕ) → t < place_count q.H q.layers → name_at (place_word i q.F q.s q.sys sys_from) t ≡ n → OnDisc (changed_image q (sys_of q) i t n f (on q)) unit)
        (kept_unit p n m size attributes f lent g e)
        (λ o t in₀ was. subst (λ (q : Plain). OnDisc (changed_image grown (sys_of grown) i t n f (on grown)) q) (name_back ∙ unit_is)
        (change_on o n found (change_shut p n m size attributes f lent g found asked) (change_changes p n m size attributes f lent g found asked w rec) t in₀ was))
      where
        name_back : with_files grown (table_put n (on grown) (table_remove n p.files)) ≡ changed_unit p n m size attributes f lent grown
        name_back = ap (λ (x : ℕ). with_files grown (table_put x (on grown) (table_remove n p.files))) (sym e)

  -- the open areas
  pub change_areas : {state : State} → SameAreas state p → SameAreas state unit
  change_areas {state} a =
      subst (SameAreas state) unit_is
      (areas_changed (areas_grown a (change_layers p n m size attributes f lent) grown.sys) n m
      (on grown) g.catalog.names (change_shut p n m size attributes f lent g found asked) (change_shutₘ p n m size attributes f lent g found asked))
