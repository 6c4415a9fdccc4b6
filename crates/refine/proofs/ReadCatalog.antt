-- The catalog of sound places: each is unused or holds the entry of its name, and no key has more names than places.
use mathlib.Core.Path.{◌≡◌, sym, ap, ◌∙◌}
use mathlib.Core.List.{List, []}
use mathlib.Core.Logic.{◌≢◌, ◌⊎◌, inl, inr, ⊎_elim}
use mathlib.Core.Option.{Option, some}
use Prim.Native.Nat.{ℕ, zero, suc, ◌*◌, ◌≤◌, ◌<◌}
use native.Mathlib.Omega.{arith}
use lib.Dec.{T, eqb, eqb→eq, not_T}
use Rattle.types.specs.declared.State.{State}
use Rattle.disc.specs.Names.{SYS, MAP, is_system}
use Rattle.disc.specs.Entries.{place_count, name_at, sys_entry, map_entry}
use Rattle.disc.specs.Catalog.{Catalog, sys_catalog, places_in}
use Rattle.disc.proofs.Compare.{same_or}
use Rattle.plain.specs.Table.{Table}
use Rattle.plain.specs.Unit.{Plain, File, AreaUser, file_entry, entry}
use Rattle.plain.specs.Taking.{places_taken}
use Rattle.plain.proofs.QuestionLaws.{or_case}
use Rattle.plain.proofs.UnitLaws.{map_some, legal_positive, entry_sys, entry-map, entry_other, system_cases_lem, entry_cases}
use Rattle.sound.specs.Places.{Unused, Used, Entered}
use Rattle.sound.specs.Sound.{SoundEntries}
use Rattle.refine.specs.Represents.{PlaceOf, CatalogOf}
use Rattle.refine.proofs.CatalogLaws.{name_of}
use Rattle.refine.proofs.ReadFile.{read_file, shown, entry_shown}
use Rattle.refine.proofs.ReadFiles.{sorted_files, files_below, used_name, file_there, file_find}
use Rattle.refine.proofs.PlaceCount.{entries_of, places_most}

-- n words are all 0, or they are not
all_zero : (n : ℕ) (f : ℕ → ℕ) → ((w : ℕ) → w < n → f w ≡ 0) ⊎ (((w : ℕ) → w < n → f w ≡ 0) → ⊥)
all_zero zero f = inl (λ w x. absurd (omega arith))
all_zero (suc n) f = same_or (f n) 0
    (λ e. ⊎_elim
    (λ (h : (w : ℕ) → w < n → f w ≡ 0). inl (λ w x. same_or w n (λ q. ap f q ∙ e) (λ d. h w (omega arith))))
    (λ (h : ((w : ℕ) → w < n → f w ≡ 0) → ⊥). inr (λ g. h (λ w x. g w (omega arith))))
    (all_zero n f))
    (λ d. inr (λ g. d (g n (omega arith))))

pub unused_or : (P : ℕ → ℕ → ℕ) (t : ℕ) → Unused P t ⊎ Used P t
unused_or P t = ⊎_elim
    (λ (h : (w : ℕ) → w < 16 → P t w ≡ 0). inl (record { zero = h }))
    (λ (h : ((w : ℕ) → w < 16 → P t w ≡ 0) → ⊥). inr (λ u. h u.zero))
    (all_zero 16 (P t))

-- neither SYS nor MAP
pub ordinary : (n : ℕ) → n ≢ SYS → n ≢ MAP → T (is_system n) → ⊥
ordinary n a b t = or_case (eqb n SYS) (eqb n MAP) (λ q. a (eqb→eq n SYS q)) (λ q. b (eqb→eq n MAP q)) t

module _ (image : List ℕ) (state : State) (H s F : ℕ) (layers : ℕ) (sys : List ℕ) (pos : 0 < s)
    (small : (t w : ℕ) → places_in image F s (sys_catalog layers sys) t w < 65536)
    (en : SoundEntries image state H s F (sys_catalog layers sys))
    (se : Entered (places_in image F s (sys_catalog layers sys)) (place_count H layers) (sys_entry H s layers sys))
    (me : Entered (places_in image F s (sys_catalog layers sys)) (place_count H layers) map_entry) where
  abbrev c : Catalog
  c = sys_catalog layers sys

  abbrev P : ℕ → ℕ → ℕ
  P = places_in image F s c

  abbrev pub files : Table File
  files = files_below image state F s c (place_count H layers)

  abbrev unit : ℕ → ℕ → Table (Table AreaUser) → Plain
  unit number N areas = record { unit = number; H = H; s = s; F = F; N = N; layers = layers; sys = sys; files = files; areas = areas }

  sys_name_lem : name_at P se.place ≡ SYS
  sys_name_lem = name_of P se.place (sys_entry H s layers sys) se.holds

  map_name_lem : name_at P me.place ≡ MAP
  map_name_lem = name_of P me.place map_entry me.holds

  -- the only place of a name
  only : (t u n : ℕ) → t < place_count H layers → u < place_count H layers → name_at P t ≡ n → name_at P u ≡ n → n ≢ 0 → t ≡ u
  only t u n x y a b nz = en.alone t u x y (used_name image state F s c t (λ z. nz (sym a ∙ z))) (used_name image state F s c u (λ z. nz (sym b ∙ z))) (a ∙ sym b)

  module _ (number N : ℕ) (areas : Table (Table AreaUser)) where
    abbrev E : ℕ → Option (List ℕ)
    E = entry (unit number N areas)

    place_used : (t : ℕ) → t < place_count H layers → Used P t → PlaceOf P H E t
    place_used t x u =
        let key = (en.legal t x u).key in
        let name = legal_positive (name_at P t) (en.legal t x u).name in
        system_cases_lem (name_at P t)
        (λ e.
        let q : t ≡ se.place = only t se.place SYS x se.inside e sys_name_lem (omega arith) in
        record { words = sys_entry H s layers sys; entered = ap E e ∙ entry_sys (unit number N areas); holds = λ w y. ap (λ (v : ℕ). P v w) q ∙ se.holds w y; key = key })
        (λ e.
        let q : t ≡ me.place = only t me.place MAP x me.inside e map_name_lem (omega arith) in
        record { words = map_entry; entered = ap E e ∙ entry-map (unit number N areas); holds = λ w y. ap (λ (v : ℕ). P v w) q ∙ me.holds w y; key = key })
        (λ a b.
        let ord = ordinary (name_at P t) a b in
        record {
          words = file_entry F s (name_at P t) (read_file image state F s P t);
          entered = entry_other (unit number N areas) (name_at P t) a b ∙ ap (map_some (file_entry F s (name_at P t))) (file_find image state F s c H en t x name ord);
          holds = entry_shown image state F s P t (small t) (shown image state F s P pos t (en.files t x u ord));
          key = key;
        })

    place_there : (n : ℕ) (e : List ℕ) → E n ≡ some e → (t : ℕ) × (t < place_count H layers) × (name_at P t ≡ n)
    place_there n e h = entry_cases (unit number N areas) n h
        (λ q z. (se.place, se.inside, sys_name_lem ∙ sym q))
        (λ q z. (me.place, me.inside, map_name_lem ∙ sym q))
        (λ f q z. let w = file_there image state F s c (place_count H layers) n f q in (w.place, w.inside, w.name))

    pub read_catalog : CatalogOf P (place_count H layers) H E
    read_catalog = record {
      each = λ t x. ⊎_elim (λ (u : Unused P t). inl u) (λ (u : Used P t). inr (place_used t x u)) (unused_or P t);
      there = place_there;
      alone = λ t u x y q nz. en.alone t u x y (used_name image state F s c t nz) (used_name image state F s c u (λ z. nz (q ∙ z))) q;
    }

  pub read_chains : (k : ℕ) → places_taken H k c files ≤ 16 * layers
  read_chains =
      places_most (entries_of (unit 0 0 []) (sorted_files image state F s c (place_count H layers))
      (λ n f e. let w = file_there image state F s c (place_count H layers) n f e in not_T (is_system n) (rw w.name at w.ordinary))) (read_catalog 0 0 [])
