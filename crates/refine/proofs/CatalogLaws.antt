-- The catalog as an array of places: an entry put, removed or found, and places joined. No image here.
use mathlib.Core.Path.{◌≡◌, refl, sym, ap, ◌∙◌}
use mathlib.Core.List.{List}
use mathlib.Core.Logic.{◌≢◌, ◌⊎◌, inl, inr, ⊎_elim}
use mathlib.Core.Option.{Option, none, some}
use Prim.Native.Nat.{ℕ, ◌/◌, ◌%◌, ◌≤◌, ◌<◌}
use native.Mathlib.Omega.{arith}
use lib.ListN.{get_or}
use Rattle.disc.specs.Names.{pack, key_of}
use Rattle.disc.specs.Entries.{name_at}
use Rattle.disc.proofs.Compare.{same_or, below_or}
use Rattle.plain.proofs.TableLaws.{some≢none, some_inj}
use Rattle.sound.specs.Places.{Unused}
use Rattle.refine.specs.Represents.{PlaceOf, CatalogOf}

-- the name in an entry's words
abbrev pub name_in : List ℕ → ℕ
name_in e = pack (get_or e 0 0) (get_or e 1 0) (get_or e 2 0)

-- entries by name: the words give the name, and there is none for 0
pub record Named (E : ℕ → Option (List ℕ)) : Type 0 where
  pub name : (n : ℕ) (e : List ℕ) → E n ≡ some e → name_in e ≡ n
  pub zero : E 0 ≡ none

pack_cong : {a b c x y z : ℕ} → a ≡ x → b ≡ y → c ≡ z → pack a b c ≡ pack x y z
pack_cong e f g = rw (e, f, g) refl

pub name_cong : (P Q : ℕ → ℕ → ℕ) (t : ℕ) → ((w : ℕ) → w < 16 → Q t w ≡ P t w) → name_at Q t ≡ name_at P t
name_cong P Q t h = pack_cong (h 0 (omega arith)) (h 1 (omega arith)) (h 2 (omega arith))

pub name_zero : (P : ℕ → ℕ → ℕ) (t : ℕ) → Unused P t → name_at P t ≡ 0
name_zero P t h = pack_cong (h.zero 0 (omega arith)) (h.zero 1 (omega arith)) (h.zero 2 (omega arith))

pub name_of : (P : ℕ → ℕ → ℕ) (t : ℕ) (e : List ℕ) → ((w : ℕ) → w < 16 → P t w ≡ get_or e w 0) → name_at P t ≡ name_in e
name_of P t e h = pack_cong (h 0 (omega arith)) (h 1 (omega arith)) (h 2 (omega arith))

pub place_cong : (P Q : ℕ → ℕ → ℕ) {H : ℕ} {E D : ℕ → Option (List ℕ)} (t : ℕ) → ((w : ℕ) → w < 16 → Q t w ≡ P t w) → D (name_at P t) ≡ E (name_at P t)
    → PlaceOf P H E t → PlaceOf Q H D t
place_cong P Q {H} {E} {D} t h d u = record {
  words = u.words;
  entered = ap D (name_cong P Q t h) ∙ d ∙ u.entered;
  holds = λ w l. h w l ∙ u.holds w l;
  key = u.key ∙ ap (key_of H) (sym (name_cong P Q t h));
}

-- a place with the same words is used as before
place_kept : (P Q : ℕ → ℕ → ℕ) {H : ℕ} {E D : ℕ → Option (List ℕ)} (t : ℕ) → ((w : ℕ) → w < 16 → Q t w ≡ P t w) → D (name_at P t) ≡ E (name_at P t)
    → Unused P t ⊎ PlaceOf P H E t → Unused Q t ⊎ PlaceOf Q H D t
place_kept P Q {H} {E} t h d = ⊎_elim
    (λ (z : Unused P t). inl (record { zero = λ w x. h w x ∙ z.zero w x }))
    (λ (u : PlaceOf P H E t). inr (place_cong P Q t h d u))

module _ {P : ℕ → ℕ → ℕ} {N H : ℕ} {E : ℕ → Option (List ℕ)} (c : CatalogOf P N H E) (nm : Named E) where
  -- where a name's entry stands
  pub record At (n : ℕ) (e : List ℕ) : Type 0 where
    pub place : ℕ
    pub inside : place < N
    pub name : name_at P place ≡ n
    pub holds : (w : ℕ) → w < 16 → P place w ≡ get_or e w 0
    pub key : place / 16 % H ≡ key_of H n

  pub no_zero : (n : ℕ) (e : List ℕ) → E n ≡ some e → n ≢ 0
  no_zero n e h z = some≢none (sym h ∙ ap E z ∙ nm.zero)

  pub at : (n : ℕ) (e : List ℕ) → E n ≡ some e → At n e
  at n e h =
      let p = c.there n e h in
      ⊎_elim
      (λ (z : Unused P p.0). absurd (no_zero n e h (sym p.2 ∙ name_zero P p.0 z)))
      (λ (u : PlaceOf P H E p.0).
      let same : u.words ≡ e = some_inj (sym u.entered ∙ ap E p.2 ∙ h) in
      record { place = p.0; inside = p.1; name = p.2; holds = λ w l. u.holds w l ∙ ap (λ (x : List ℕ). get_or x w 0) same; key = u.key ∙ ap (key_of H) p.2 })
      (c.each p.0 p.1)

  module _ (Q : ℕ → ℕ → ℕ) (D : ℕ → Option (List ℕ)) (n t₀ : ℕ) (in₀ : t₀ < N)
      (off : (t w : ℕ) → t < N → t ≢ t₀ → w < 16 → Q t w ≡ P t w)
      (other : (m : ℕ) → m ≢ n → D m ≡ E m) where
    -- an entry put at t₀: an unused place, or that of the old entry of the name
    pub catalog_put : (e : List ℕ) → D n ≡ some e → name_in e ≡ n → n ≢ 0 → ((w : ℕ) → w < 16 → Q t₀ w ≡ get_or e w 0) → t₀ / 16 % H ≡ key_of H n
        → ((t : ℕ) → t < N → name_at P t ≡ n → t ≡ t₀) → (name_at P t₀ ≢ n → name_at P t₀ ≡ 0) → CatalogOf Q N H D
    catalog_put e new named nz holds key only mine =
        let here : name_at Q t₀ ≡ n = name_of Q t₀ e holds ∙ named in
        let kept : (t : ℕ) → t < N → t ≢ t₀ → name_at Q t ≡ name_at P t = λ t l d. name_cong P Q t (λ w x. off t w l d x) in
        record {
          each = λ t l. same_or t t₀
              (λ q. rw q (inr (record { words = e; entered = ap D here ∙ new; holds = holds; key = key ∙ ap (key_of H) (sym here) })))
              (λ d. place_kept P Q t (λ w x. off t w l d x) (other (name_at P t) (λ q. d (only t l q))) (c.each t l));
          there = λ m f h. same_or m n
              (λ q. (t₀, in₀, here ∙ sym q))
              (λ d.
              let h₂ : E m ≡ some f = sym (other m d) ∙ h in
              let p = c.there m f h₂ in
              let d₂ : p.0 ≢ t₀ = λ q.
              let r : name_at P t₀ ≡ m = ap (name_at P) (sym q) ∙ p.2 in
              no_zero m f h₂ (sym r ∙ mine (λ x. d (sym r ∙ x))) in
              (p.0, p.1, kept p.0 p.1 d₂ ∙ p.2));
          alone = λ t u lt lu q z. same_or t t₀
              (λ a. same_or u t₀ (λ b. a ∙ sym b) (λ b. absurd (b (only u lu (sym (kept u lu b) ∙ sym q ∙ ap (name_at Q) a ∙ here)))))
              (λ a. same_or u t₀
              (λ b. absurd (a (only t lt (sym (kept t lt a) ∙ q ∙ ap (name_at Q) b ∙ here))))
              (λ b. c.alone t u lt lu (sym (kept t lt a) ∙ q ∙ kept u lu b) (λ x. z (kept t lt a ∙ x))));
        }

    -- the entry of n, at t₀, is zeroed
    pub catalog_remove : D n ≡ none → name_at P t₀ ≡ n → n ≢ 0 → Unused Q t₀ → CatalogOf Q N H D
    catalog_remove gone was nz zeroed =
        let kept : (t : ℕ) → t < N → t ≢ t₀ → name_at Q t ≡ name_at P t = λ t l d. name_cong P Q t (λ w x. off t w l d x) in
        let here : name_at Q t₀ ≡ 0 = name_zero Q t₀ zeroed in
        record {
          each = λ t l. same_or t t₀
              (λ q. rw q (inl zeroed))
              (λ d. place_kept P Q t (λ w x. off t w l d x) (other (name_at P t) (λ q. d (c.alone t t₀ l in₀ (q ∙ sym was) (λ y. nz (sym q ∙ y))))) (c.each t l));
          there = λ m f h. same_or m n
              (λ q. absurd (some≢none (sym h ∙ ap D q ∙ gone)))
              (λ d.
              let p = c.there m f (sym (other m d) ∙ h) in
              let d₂ : p.0 ≢ t₀ = λ q. d (sym p.2 ∙ ap (name_at P) q ∙ was) in
              (p.0, p.1, kept p.0 p.1 d₂ ∙ p.2));
          alone = λ t u lt lu q z.
              let a : t ≢ t₀ = λ x. z (ap (name_at Q) x ∙ here) in
              let b : u ≢ t₀ = λ x. z (q ∙ ap (name_at Q) x ∙ here) in
              c.alone t u lt lu (sym (kept t lt a) ∙ q ∙ kept u lu b) (λ x. z (kept t lt a ∙ x));
        }

-- the same entries, and zeroed places more
pub catalog_grow : {P : ℕ → ℕ → ℕ} {N H : ℕ} {E : ℕ → Option (List ℕ)} → CatalogOf P N H E → (Q : ℕ → ℕ → ℕ) (D : ℕ → Option (List ℕ)) (K : ℕ) → N ≤ K → ((t w : ℕ) → t < N → w < 16 → Q t w ≡ P t w) → ((t : ℕ) → N ≤ t → t < K → Unused Q t)
    → ((m : ℕ) → D m ≡ E m) → CatalogOf Q K H D
catalog_grow {P} {N} {H} {E} c Q D K le old new other =
    let kept : (t : ℕ) → t < N → name_at Q t ≡ name_at P t = λ t l. name_cong P Q t (λ w x. old t w l x) in
    let inner : (t : ℕ) → t < K → name_at Q t ≢ 0 → t < N = λ t l z. below_or t N (λ x. x) (λ x. absurd (z (name_zero Q t (new t x l)))) in
    record {
      each = λ t l. below_or t N
          (λ x. place_kept P Q t (λ w y. old t w x y) (other (name_at P t)) (c.each t x))
          (λ x. inl (new t x l));
      there = λ m f h. let p = c.there m f (sym (other m) ∙ h) in (p.0, omega (arith, p.1), kept p.0 p.1 ∙ p.2);
      alone = λ t u lt lu q z.
          let a : t < N = inner t lt z in
          let b : u < N = inner u lu (λ x. z (q ∙ x)) in
          c.alone t u a b (sym (kept t a) ∙ q ∙ kept u b) (λ x. z (kept t a ∙ x));
    }

-- the same words, the same entries
pub catalog_same : {P : ℕ → ℕ → ℕ} {N H : ℕ} {E : ℕ → Option (List ℕ)} → CatalogOf P N H E → (Q : ℕ → ℕ → ℕ) (D : ℕ → Option (List ℕ)) → ((t w : ℕ) → t < N → w < 16 → Q t w ≡ P t w) → ((m : ℕ) → D m ≡ E m) → CatalogOf Q N H D
catalog_same {N = N} c Q D e d = catalog_grow c Q D N (omega arith) e (λ t x y. absurd (omega arith)) d

-- a name with no entry stands nowhere
pub absent : {P : ℕ → ℕ → ℕ} {N H : ℕ} {E : ℕ → Option (List ℕ)} → CatalogOf P N H E → (n : ℕ) → E n ≡ none → n ≢ 0 → (u : ℕ) → u < N → name_at P u ≢ n
absent {P} {N} {H} {E} c n e nz u l q = ⊎_elim
    (λ (z : Unused P u). nz (sym q ∙ name_zero P u z))
    (λ (a : PlaceOf P H E u). some≢none (sym a.entered ∙ ap E q ∙ e))
    (c.each u l)
