-- `sound_entries::system_entered` meets its contract. Assumes nothing.
use Rattle.std.proofs.Common.{ℕ, List, ◌≡◌, ◌*◌, ap, sym, ◌∙◌, lit<}
use Rattle.disc.specs.Entries.{place_count}
use Rattle.disc.proofs.DecideLaws.{holds, fails, true≢false}
use Rattle.kit.specs.declared.Geometry.{Geometry}
use Rattle.sound_entries.specs.declared.Expected.{Expected}
use Rattle.sound_entries.specs.Legal.{Judging}
use Rattle.sound_entries.proofs.NamesLaws.{met, not_met}
use Rattle.sound_entries.proofs.system_entered.Goals as goal
use Rattle.sound_entries.proofs.system_entered.Goals.{in-Some, in_default}

-- the places of all layers
all : {image : List ℕ} {g : Geometry} {e : Expected} {size : ℕ} → Judging image g e size → 16 * e.size ≡ place_count g.keys e.catalog.layers
all judging = ap (λ (n : ℕ). 16 * n) judging.whole

pub returns-in-Some-matches : goal.returns-in-Some-matches
returns-in-Some-matches c =
    holds (record {
      places = c.requires.1;
      sys_met = elim c.match-matches.branch [
        | in-Some w ↦ met c.requires.0.catalog (all c.requires.0) c.sys_name.ensures.packed c.find.ensures w.in-Some.is
        | in_default w ↦ absurd (true≢false (sym c.if-matches.true ∙ w.matches-is))
      ];
      map_met = met c.requires.0.catalog (all c.requires.0) c.map_name.ensures.packed c.find-then-matches.ensures c.in-Some-matches.is;
    })

pub returns-in_default-matches : goal.returns-in_default-matches
returns-in_default-matches c =
    fails (λ n. not_met c.requires.0.catalog (all c.requires.0) c.map_name.ensures.packed c.find-then-matches.ensures (lit< tt) n.places c.in_default-matches.is n.map_met)

pub returns-else-matches : goal.returns-else-matches
returns-else-matches c =
    record {
      yes = λ e. absurd (true≢false (sym e ∙ c.if-matches.false));
      not = λ _ n. elim c.match-matches.branch [
        | in-Some w ↦ true≢false (sym w.matches-is ∙ c.if-matches.false)
        | in_default w ↦ not_met c.requires.0.catalog (all c.requires.0) c.sys_name.ensures.packed c.find.ensures (lit< tt) n.places w.in_default.is n.sys_met
      ];
    }
