-- The listing comes by name: the entries are a table by packed name, and each has 16 words that begin with its name.
use mathlib.Core.Path.{◌≡◌, refl, sym, ap, ◌∙◌, subst}
use mathlib.Core.Bool.{Bool, true, false}
use mathlib.Core.List.{List, [], ◌++◌, append-nil}
use mathlib.Core.Logic.{◌≢◌}
use Prim.Native.Nat.{ℕ, suc, ◌+◌, ◌*◌, ◌<◌}
use native.Mathlib.Omega.{arith}
use lib.ListN.{length, get_or, get_or-append}
use lib.Dec.{leb}
use Rattle.types.specs.declared.Answer.{Answer}
use Rattle.types.specs.declared.State.{State}
use Rattle.types.specs.declared.Message.TheVariants.{Listing}
use Rattle.disc.specs.Entries.{name_at}
use Rattle.plain.specs.Table.{SortedFrom}
use Rattle.plain.specs.Unit.{Plain, entries, entry}
use Rattle.plain.specs.Questions.{Outcome, answer, asks, replies, fill, known}
use Rattle.plain.specs.Reports.{joined, step_listing}
use Rattle.plain.specs.Step.{Reply, reply}
use Rattle.plain.specs.Good.{Good}
use Rattle.plain.proofs.UnitLaws.{sorted_entries}
use Rattle.refine.specs.Represents.{Represents}
use Rattle.refine.specs.Demands.{Performed}
use Rattle.refine.proofs.SoundRepresents.{sound_represents}
use Rattle.reports.proofs.ListingLaws.{entries_named}
use Rattle.reports.proofs.OrderLaws.{group_word, ListingOf, table_listing, names_increase}
use Rattle.perform.specs.Perform.{Performs, unknown, unsound, obeyed}
use Rattle.demands.specs.Listing.{listed_name, ByName, ListedByName}

-- ---- the plain unit

module _ (p : Plain) (g : Good p) (rest : List ℕ) where
  sorted : SortedFrom 0 (entries p)
  sorted = sorted_entries p g.catalog.names

  all : ListingOf (entries p) (joined (entries p))
  all = table_listing 0 (entries p) sorted (entries_named p g)

  -- the name in a group, as the entries alone have it
  group_name : (k : ℕ) → k < length (entries p) → listed_name (joined (entries p) ++ rest) k ≡ name_at (group_word (joined (entries p))) k
  group_name k x = rw (part (16 * k) 0 (omega arith) (omega arith), part (16 * k + 1) 1 refl (omega arith), part (16 * k + 2) 2 refl (omega arith)) refl
    where
      part : (j w : ℕ) → j ≡ 16 * k + w → w < 16 → get_or (joined (entries p) ++ rest) j 0 ≡ group_word (joined (entries p)) k w
      part j w e y = ap (λ (i : ℕ). get_or (joined (entries p) ++ rest) i 0) e ∙ get_or-append (joined (entries p)) rest 0 (16 * k + w) (omega (arith, all.size))

  by_name_lem : ByName p (length (entries p)) (joined (entries p) ++ rest)
  unfolding entry
  by_name_lem = record {
    increasing = λ k x. rw (group_name k (omega arith), group_name (suc k) x) (names_increase 0 (entries p) sorted (entries_named p g) k (suc k) (omega arith) x);
    each = λ n e h. let t = all.once.there n e h in (t.0, t.1, group_name t.0 t.1 ∙ t.2);
  }

-- ---- the call

-- two questions answered yes, where the word is not that of the refusal
both_yes : (a b : Bool) (refusal next : Outcome) → refusal.answer.result ≢ 0 → (asks a refusal (asks b refusal next)).answer.result ≡ 0 → asks a refusal (asks b refusal next) ≡ next
unfolding asks
both_yes true true refusal next nz z = refl
both_yes true false refusal next nz z = absurd (nz z)
both_yes false b refusal next nz z = absurd (nz z)

listed : (p : Plain) (unit : ℕ) (lent : List ℕ) → (step_listing p unit lent).answer.result ≡ 0
    → step_listing p unit lent ≡ record { unit = p; answer = answer 0 0 0 (length (entries p)); lent = fill (joined (entries p)) lent }
unfolding step_listing
listed p unit lent z = both_yes (known p unit) (leb (16 * length (entries p)) (length lent)) (replies p 0x1200 lent) _ (λ e. omega (arith, e)) z

call_by_name : {image : List ℕ} {state : State} {unit : ℕ} {lent : List ℕ} {r : Performed} → Performs image state (Listing unit) lent r → r.answer.result ≡ 0
    → (p : Plain) × Good p × Represents image state p × ByName p r.answer.entries r.lent
call_by_name (unknown _ u) z = absurd (let e = ap (λ (a : Answer). a.result) u.answered in omega arith)
call_by_name (unsound _ _ u) z = absurd (let e = ap (λ (a : Answer). a.result) u.answered in omega arith)
call_by_name {image} {state} {unit} {lent} (obeyed _ s all) z =
    let x = sound_represents.reads image state s in
    let o = (all x.0 x.1 x.2).same in
    let e = o ∙ ap reply (listed x.0 unit lent (sym (ap (λ (y : Reply). y.answer.result) o) ∙ z)) in
    (x.0, x.1, x.2, subst (λ (y : Reply). ByName x.0 y.answer.entries y.lent) (sym e) (by_name_lem x.0 x.1 _))

pub listed_by_name : ListedByName Performs
listed_by_name = record { plain = λ p g. subst (ByName p (length (entries p))) (append-nil (joined (entries p))) (by_name_lem p g []); call = call_by_name }
