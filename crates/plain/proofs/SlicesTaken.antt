-- Which slices files take: those of the choice, once SYS has taken its own.
use mathlib.Core.Path.{◌≡◌, refl, sym, ap, ◌∙◌, subst}
use mathlib.Core.List.{List, [], ◌∷◌, ◌++◌}
use mathlib.Core.Option.{Option, none, some}
use Prim.Native.Nat.{ℕ, ◌-◌}
use native.Mathlib.Omega.{arith}
use lib.ListN.{length, take, length-set, length-append}
use lib.Seq.{take-nil}
use Rattle.types.specs.declared.Name.{Name}
use Rattle.types.specs.declared.Answer.{Answer}
use Rattle.types.specs.declared.Operation.{Operation}
use Rattle.types.specs.declared.Operation.TheVariants.{Reserve, Position, Sense, Transput, Other}
use Rattle.disc.specs.Numbers.{need}
use Rattle.disc.specs.Names.{named}
use Rattle.disc.specs.OneStretch.{taken_for_file}
use Rattle.plain.specs.Table.{Table, table_find, table_put, table_remove}
use Rattle.plain.specs.Unit.{Plain, File, AreaUser, M, held, with_tables, sys_of}
use Rattle.plain.specs.Questions.{Outcome, either}
use Rattle.plain.specs.Taking.{layers_for}
use Rattle.plain.specs.Catalog.{size_in, new_name, kept_or, new_file, slices_after, changed, change_file}
use Rattle.plain.specs.Areas.{step_reserve, step_release, moved, positioned}
use Rattle.plain.specs.Transput.{is_output, input, append, output, step_transput}
use Rattle.plain.specs.Step.{reserve_count, user_step, operation_step, step_area}
use Rattle.plain.specs.Claims.{TakenIn, Appended, as_long, longer, AppendedIn, layers_after, SlicesTaken}
use Rattle.plain.proofs.QuestionLaws.{asks_law, given_law, either_law}
use Rattle.plain.proofs.TableLaws.{some_inj, find_put}
use Rattle.plain.proofs.GrowUnit.{sys_taken, taken_grown}
use Rattle.plain.proofs.CreateUnit.{zero_file, slices_left}

-- ---- Create, Set and Change

-- an outcome that is refused, or leaves such a unit
abbrev Takes : Plain → ℕ → List ℕ → ℕ → ℕ → Outcome → Type 0
Takes p layers old count n o = o.answer.result ≡ 0 → TakenIn p layers old count n o.unit

module _ (p : Plain) where
  taken_in : (l n count : ℕ) (old : List ℕ) (f : File) (others : Table File)
      → f.slices ≡ take count old ++ taken_for_file (M p) (sys_taken p l ++ held p) old (count - length old)
      → TakenIn p l old count n (with_tables p l (p.sys ++ sys_taken p l) (table_put n f others) p.areas)
  taken_in l n count old f others is = record {
    grown = refl;
    sys = refl;
    file = f;
    entered = find_put n f others;
    slices = is ∙ ap (λ (new : List ℕ). take count old ++ new) (taken_grown p l old (count - length old));
  }

  new_file_lem : (n size attributes : ℕ) (optional tail lent : List ℕ)
      → Takes p (layers_for p.H (sys_of p) n p.files) [] (need p.s size) n (new_file p n size attributes optional tail lent)
  unfolding new_file
  new_file_lem n size attributes optional tail lent =
      let l : ℕ = layers_for p.H (sys_of p) n p.files in
      let P : Outcome → Type 0 = Takes p l [] (need p.s size) n in
      asks_law P _ (λ e. absurd (omega arith)) λ legal.
      asks_law P _ (λ e. absurd (omega arith)) λ short.
      asks_law P _ (λ e. absurd (omega arith)) λ allowed.
      asks_law P _ (λ e. absurd (omega arith)) λ given.
      asks_law P _ (λ e. absurd (omega arith)) λ vacant.
      asks_law P _ (λ e. absurd (omega arith)) λ room.
      asks_law P _ (λ e. absurd (omega arith)) λ sys_few.
      asks_law P _ (λ e. absurd (omega arith)) λ few.
      λ e.
      taken_in l n (need p.s size) [] (zero_file p.s size attributes optional tail (slices_left p l size)) p.files (no_slice (need p.s size) l)
    where
      -- what a file without slices takes is all that it has
      no_slice : (count l : ℕ) → taken_for_file (M p) (sys_taken p l ++ held p) [] count ≡ take count [] ++ taken_for_file (M p) (sys_taken p l ++ held p) [] (count - 0)
      no_slice count l =
          let all : count ≡ count - 0 = omega arith in
          ap (taken_for_file (M p) (sys_taken p l ++ held p) []) all
          ∙ ap (λ (old : List ℕ). old ++ taken_for_file (M p) (sys_taken p l ++ held p) [] (count - 0)) (sym (take-nil count))

  change_file_lem : (n : ℕ) (f : File) (m size attributes : ℕ) (lent : List ℕ) → Takes p (layers_after p n m) f.slices (slices_after p.s size f) m (change_file p n f m size attributes lent)
  unfolding change_file
  change_file_lem n f m size attributes lent =
      let P : Outcome → Type 0 = Takes p (layers_after p n m) f.slices (slices_after p.s size f) m in
      asks_law P _ (λ e. absurd (omega arith)) λ legal.
      asks_law P _ (λ e. absurd (omega arith)) λ allowed.
      asks_law P _ (λ e. absurd (omega arith)) λ only.
      asks_law P _ (λ e. absurd (omega arith)) λ shut.
      asks_law P _ (λ e. absurd (omega arith)) λ free.
      asks_law P _ (λ e. absurd (omega arith)) λ vacant.
      asks_law P _ (λ e. absurd (omega arith)) λ room.
      asks_law P _ (λ e. absurd (omega arith)) λ sys_few.
      asks_law P _ (λ e. absurd (omega arith)) λ few.
      λ e.
      let count : ℕ = slices_after p.s size f in
      let l : ℕ = layers_after p n m in
      let slices : List ℕ = take count f.slices ++ taken_for_file (M p) (sys_taken p l ++ held p) f.slices (count - length f.slices) in
      taken_in l m count f.slices (changed f attributes size count slices lent) (table_remove n p.files) refl

-- ---- a block appended

module _ (p : Plain) (n : ℕ) (f : File) (found : table_find n p.files ≡ some f) where
  -- what an outcome leaves of the file's slices and of SYS's
  record Longer (o : Outcome) : Type 0 where
    left : AppendedIn p f n o.unit

  -- where the files stay
  files_stay : {o : Outcome} → o.unit.sys ≡ p.sys → table_find n o.unit.files ≡ table_find n p.files → Longer o
  files_stay same stay = record { left = record { sys = same; file = f; entered = stay ∙ found; slices = as_long refl refl } }

  -- where another stands in the file's place
  files_put : {o : Outcome} (g : File) → o.unit.sys ≡ p.sys → o.unit.files ≡ table_put n g p.files → Appended p f g → Longer o
  files_put g same put is = record { left = record { sys = same; file = g; entered = ap (table_find n) put ∙ find_put n g p.files; slices = is } }

  module _ (sender : ℕ) (users : Table AreaUser) (u : AreaUser) (lent : List ℕ) where
    abbrev move : ℕ → Plain
    move = moved p n sender users u

    output_longer : (q : Plain) (k : ℕ) → q.sys ≡ p.sys → table_find n q.files ≡ table_find n p.files → Longer (output p q move n f k lent)
    unfolding output append
    output_longer q k same stay =
        either_law Longer _
        (λ _. files_put _ refl refl (as_long (length-set f.sectors k (take 256 lent)) refl))
        (λ _. asks_law Longer _ (files_stay same stay) λ _. asks_law Longer _ (files_stay same stay) λ _. asks_law Longer _ (files_stay same stay) λ _.
        files_put _ refl refl (longer (omega (arith, length-append f.sectors (take 256 lent ∷ []))) refl))

    input_longer : (q : Plain) (k : ℕ) → q.sys ≡ p.sys → table_find n q.files ≡ table_find n p.files → Longer (input q move f k lent)
    unfolding input
    input_longer q k same stay = asks_law Longer _ (files_stay same stay) λ _. files_stay refl refl

    transput_longer : (operation bytes block : ℕ) → Longer (step_transput p n sender users u f operation bytes block lent)
    unfolding step_transput positioned
    transput_longer operation bytes block =
        asks_law Longer _ (files_stay refl refl) λ _. asks_law Longer _ (files_stay refl refl) λ _. asks_law Longer _ (files_stay refl refl) λ _.
        asks_law Longer _ (files_stay refl refl) λ _. either_law Longer _
        (λ _. asks_law Longer _ (files_stay refl refl) λ _. asks_law Longer _ (files_stay refl refl) λ _. go (move block) block refl refl)
        (λ _. go p u.position refl refl)
      where
        go : (q : Plain) (k : ℕ) → q.sys ≡ p.sys → table_find n q.files ≡ table_find n p.files
            → Longer (either (is_output operation) (output p q move n f k lent) (input q move f k lent))
        go q k same stay = either_law Longer _ (λ _. output_longer q k same stay) (λ _. input_longer q k same stay)

    user_longer : (operation : Operation) → Longer (user_step p n sender users u f operation lent)
    unfolding user_step step_release positioned
    user_longer (Reserve count) = files_stay refl refl
    user_longer (Position block) = asks_law Longer _ (files_stay refl refl) λ _. asks_law Longer _ (files_stay refl refl) λ _. files_stay refl refl
    user_longer Sense = files_stay refl refl
    user_longer (Transput operation bytes block) = transput_longer operation bytes block
    user_longer (Other operation) = files_stay refl refl

  module _ (sender : ℕ) (users : Table AreaUser) (lent : List ℕ) where
    reserve_longer : (count : ℕ) → Longer (step_reserve p n sender users count lent)
    unfolding step_reserve
    reserve_longer count =
        asks_law Longer _ (files_stay refl refl) λ _. asks_law Longer _ (files_stay refl refl) λ _. asks_law Longer _ (files_stay refl refl) λ _.
        asks_law Longer _ (files_stay refl refl) λ _. files_stay refl refl

    operation_longer : (operation : Operation) (count : Option ℕ) → Longer (operation_step p n sender users operation count lent)
    unfolding operation_step
    operation_longer operation (some count) = reserve_longer count
    operation_longer operation none =
        given_law Longer _ (files_stay refl refl) λ u _. given_law Longer _ (files_stay refl refl) λ h at.
        subst (λ (h : File). Longer (user_step p n sender users u h operation lent)) (some_inj (sym found ∙ at)) (user_longer sender users u lent operation)

area_longer : (p : Plain) (name : Name) (f : File) (found : table_find (named name) p.files ≡ some f) (sender : ℕ) (operation : Operation) (lent : List ℕ)
    → Longer p (named name) f found (step_area p name sender operation lent)
area_longer p name f found sender operation lent =
    asks_law P _ stay λ _. given_law P _ stay λ users _. asks_law P _ stay λ _. asks_law P _ stay λ _.
    asks_law P _ stay λ _. operation_longer p (named name) f found sender users lent operation (reserve_count operation)
  where
    P : Outcome → Type 0
    P = Longer p (named name) f found

    stay : {a : Answer} {l : List ℕ} → P (record { unit = p; answer = a; lent = l })
    stay = files_stay p (named name) f found refl refl

-- ---- every message

pub slices_taken_lem : (p : Plain) (name : Name) (lent : List ℕ) → SlicesTaken p name lent
slices_taken_lem p name lent = record {
  create = λ size attributes. asks_law (Takes p _ [] _ _) _ (λ e. absurd (omega arith)) λ _. new_file_lem p _ size attributes _ _ lent;
  set =
      asks_law (Takes p _ [] _ _) _ (λ e. absurd (omega arith)) λ _.
      asks_law (Takes p _ [] _ _) _ (λ e. absurd (omega arith)) λ _. new_file_lem p _ _ _ _ _ lent;
  change = λ f found.
      asks_law (P f) _ (λ e. absurd (omega arith)) λ _.
      asks_law (P f) _ (λ e. absurd (omega arith)) λ _.
      asks_law (P f) _ (λ e. absurd (omega arith)) λ _.
      given_law (P f) _ (λ e. absurd (omega arith)) λ g at.
      asks_law (P f) _ (λ e. absurd (omega arith)) λ _.
      let o : Outcome = change_file p _ g (new_name (named name) lent) _ _ lent in
      subst (λ (h : File). P h o) (some_inj (sym at ∙ found)) (change_file_lem p _ g _ _ _ lent);
  area = λ f sender operation found. (area_longer p name f found sender operation lent).left;
}
  where
    P : File → Outcome → Type 0
    P f = Takes p (layers_after p (named name) (new_name (named name) lent)) f.slices (slices_after p.s (kept_or (size_in lent) f.booked) f) (new_name (named name) lent)
