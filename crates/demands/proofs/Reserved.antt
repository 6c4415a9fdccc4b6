-- "Sectors 0 to 5 are never read or written", proved of the contracts of `perform::perform` and `format::format`.
use mathlib.Core.Path.{◌≡◌, refl, sym, ap, ◌∙◌, subst}
use mathlib.Core.List.{List}
use Prim.Native.Nat.{ℕ, ◌≤◌}
use native.Mathlib.Omega.{arith}
use lib.ListN.{length, get_or}
use lib.Seq.{ext_get_or}
use Rattle.types.specs.declared.State.{State}
use Rattle.types.specs.declared.Message.{Message}
use Rattle.disc.specs.Words.{Words}
use Rattle.disc.proofs.Compare.{below_or}
use Rattle.plain.specs.Unit.{Plain}
use Rattle.plain.specs.Step.{Reply}
use Rattle.plain.specs.Good.{Good}
use Rattle.plain.proofs.Refuses.{step_sectors}
use Rattle.sound.specs.Sound.{SoundUnit}
use Rattle.refine.specs.Represents.{Represents}
use Rattle.refine.specs.Demands.{Performed}
use Rattle.refine.proofs.SoundRepresents.{sound_represents}
use Rattle.format.specs.Format.{lent_keys, lent_slice, lent_first, lent_sectors, formatted_by, Formattable, Formatted, FormatAnswer, not_lent, not_allowed}
use Rattle.format.specs.Format as format
use Rattle.perform.specs.Perform.{Wrote, Untouched, Obeyed, Performs, unknown, unsound, obeyed}
use Rattle.demands.specs.Reserved.{reserved_words, SameReserved, SameOthers, SameButReserved, ReservedSectors}
use Rattle.demands.proofs.Determined.{wrote_same, format_same}
use Rattle.demands.proofs.Overlaid.{overlaid, overlaid_below, overlaid_is, overlaid_others, Beyond, beyond_kept}
use Rattle.demands.proofs.OverlaidWrites.{beyond_formatted}
use Rattle.demands.proofs.OverlaidUnit.{represents_overlaid, sound_overlaid, elsewhere, wrote_overlaid}

as_before : {i j : List ℕ} → j ≡ i → SameReserved i j
as_before e = record { size = ap length (sym e); words = λ k h. ap (λ (l : List ℕ). get_or l k 0) (sym e) }

by : {w : List ℕ → List ℕ} {i j : List ℕ} → Beyond w → j ≡ w i → SameReserved i j
by {i = i} b e = rw e (beyond_kept b i)

data_low : {p : Plain} → Good p → 6 ≤ p.F
data_low g = omega (arith, g.limits.first)

-- ---- never read

others_back : {a b : List ℕ} → SameOthers a b → SameOthers b a
others_back s = record { size = sym s.size; words = λ k h. sym (s.words k h) }

sound_same : {a b : List ℕ} {state : State} → SameOthers a b → Words b → SoundUnit a state → SoundUnit b state
sound_same {a} {b} {state} s w u = subst (λ (i : List ℕ). SoundUnit i state) (overlaid_is a b s) (sound_overlaid b w u)

-- two calls that the first or the second question refuses
untouched_alike : {word : ℕ} {a b : List ℕ} {state : State} {lent : List ℕ} {r q : Performed} → SameOthers a b → Untouched word a state lent r → Untouched word b state lent q → SameButReserved r q
untouched_alike same x y = record {
  image = rw (x.same_image, y.same_image) same;
  state = x.same_state ∙ sym y.same_state;
  answer = x.answered ∙ sym y.answered;
  words = x.same_lent ∙ sym y.same_lent;
}

-- two that are obeyed: what is written on a, with the words of b in sectors 0 to 5, is what is written on b
module _ {a b : List ℕ} {state : State} {p : Plain} (same : SameOthers a b) (words : Words b) (g : Good p) (rep : Represents a state p) where
  represents_same : Represents b state p
  represents_same = subst (λ (i : List ℕ). Represents i state p) (overlaid_is a b same) (represents_overlaid b words g rep)

  obeyed_on : (message : Message) (lent : List ℕ) (r q : Performed) → Obeyed p a state message lent r → Obeyed p b state message lent q
      → (overlaid b r.image ≡ q.image) × (r.state ≡ q.state)
  obeyed_on message lent r q x y =
      let moved : Wrote p b state message lent (elsewhere b r) = subst (λ (i : List ℕ). Wrote p i state message lent (elsewhere b r)) (overlaid_is a b same)
      (wrote_overlaid b p (data_low g) a state message lent r words x.wrote) in
      wrote_same g represents_same message lent (elsewhere b r) q (ap (λ (c : Reply). c.answer) (x.same ∙ sym y.same)) moved y.wrote

  obeyed_alike : (message : Message) (lent : List ℕ) (r q : Performed) → Obeyed p a state message lent r → Obeyed p b state message lent q → SameButReserved r q
  obeyed_alike message lent r q x y =
      let s = x.same ∙ sym y.same in
      let w = obeyed_on message lent r q x y in
      record {
        image = subst (SameOthers r.image) w.0 (overlaid_others b r.image);
        state = w.1;
        answer = ap (λ (c : Reply). c.answer) s;
        words = ap (λ (c : Reply). c.lent) s;
      }

call_alike : {a b : List ℕ} {state : State} {message : Message} {lent : List ℕ} {r q : Performed} → SameOthers a b → Words a → Words b → Performs a state message lent r → Performs b state message lent q
    → SameButReserved r q
call_alike s wa wb (unknown _ x) (unknown _ y) = untouched_alike s x y
call_alike s wa wb (unknown n x) (unsound k _ y) = absurd (n k)
call_alike s wa wb (unknown n x) (obeyed k _ y) = absurd (n k)
call_alike s wa wb (unsound k _ x) (unknown n y) = absurd (n k)
call_alike s wa wb (unsound _ _ x) (unsound _ _ y) = untouched_alike s x y
call_alike s wa wb (unsound _ n x) (obeyed _ t y) = absurd (n (sound_same (others_back s) wa t))
call_alike s wa wb (obeyed k _ x) (unknown n y) = absurd (n k)
call_alike s wa wb (obeyed _ t x) (unsound _ n y) = absurd (n (sound_same s wb t))
call_alike {a} {b} {state} {message} {lent} {r} {q} s wa wb (obeyed _ t x) (obeyed _ _ y) =
    let read = sound_represents.reads a state t in
    obeyed_alike s wb read.1 read.2 message lent r q (x read.0 read.1 read.2) (y read.0 read.1 (represents_same s wb read.1 read.2))

-- ---- never written: a call does on an image what it does on that image with the same words in sectors 0 to 5

call_kept : {image : List ℕ} {state : State} {message : Message} {lent : List ℕ} {r : Performed} → Performs image state message lent r → SameReserved image r.image
call_kept (unknown other u) = as_before u.same_image
call_kept (unsound k other u) = as_before u.same_image
call_kept {image} {state} {message} {lent} {r} (obeyed k s all) =
    let x = sound_represents.reads image state s in
    let o = all x.0 x.1 x.2 in
    let size : length r.image ≡ length image = omega (arith, o.represents.layout.size, x.2.layout.size, step_sectors x.0 message lent) in
    let own = (obeyed_on {a = image} {b = image} (record { size = refl; words = λ k h. refl }) x.2.words x.1 x.2 message lent r r o o).0 in
    record { size = sym size; words = λ k h. sym (overlaid_below image r.image k size h) ∙ ap (λ (i : List ℕ). get_or i k 0) own }

-- ---- Format

format_kept : {image : List ℕ} {state : State} {bytes : ℕ} {lent after : List ℕ} {r : Formatted} → FormatAnswer image state bytes lent after r → SameReserved image after
format_kept (not_lent _ x) = as_before x.same
format_kept (not_allowed _ _ x) = as_before x.same
format_kept {lent = lent} (format.written _ f x) = by (beyond_formatted (lent_keys lent) (lent_slice lent) (lent_first lent) (lent_sectors lent) (get_or lent 7 0) (get_or lent 8 0) (omega (arith, f.limits.first))) x.whole

formattable_same : {a b : List ℕ} {state : State} {lent : List ℕ} → SameOthers a b → Formattable a state lent → Formattable b state lent
formattable_same s f = record {
  known = f.known;
  limits = f.limits;
  free = f.free;
  top = f.top;
  size = sym s.size ∙ f.size;
}

format_refused_lem : {word : ℕ} {a b : List ℕ} {state : State} {after_a after_b : List ℕ} {r q : Formatted} → SameOthers a b → format.Refused word a state after_a r → format.Refused word b state after_b q
    → SameOthers after_a after_b × (r ≡ q)
format_refused_lem {r = r} {q = q} s x y = (rw (x.same, y.same) s, format_same r q (x.word ∙ sym y.word) (x.kept ∙ sym y.kept))

format_alike : {a b : List ℕ} {state : State} {bytes : ℕ} {lent after_a after_b : List ℕ} {r q : Formatted} → SameOthers a b → FormatAnswer a state bytes lent after_a r
    → FormatAnswer b state bytes lent after_b q → SameOthers after_a after_b × (r ≡ q)
format_alike s (not_lent _ x) (not_lent _ y) = format_refused_lem s x y
format_alike s (not_lent n x) (not_allowed l _ y) = absurd (n l)
format_alike s (not_lent n x) (format.written l _ y) = absurd (n l)
format_alike s (not_allowed l _ x) (not_lent n y) = absurd (n l)
format_alike s (not_allowed _ _ x) (not_allowed _ _ y) = format_refused_lem s x y
format_alike s (not_allowed _ n x) (format.written _ f y) = absurd (n (formattable_same (others_back s) f))
format_alike s (format.written l _ x) (not_lent n y) = absurd (n l)
format_alike s (format.written _ f x) (not_allowed _ n y) = absurd (n (formattable_same s f))
format_alike {a} {b} {lent = lent} {r = r} {q = q} s (format.written _ f x) (format.written _ _ y) =
    let w = beyond_formatted (lent_keys lent) (lent_slice lent) (lent_first lent) (lent_sectors lent) (get_or lent 7 0) (get_or lent 8 0) (omega (arith, f.limits.first)) in
    let e = ap (overlaid b) x.whole ∙ w.past b a ∙ ap (λ (i : List ℕ). formatted_by i lent) (overlaid_is a b s) ∙ sym y.whole in
    (subst (SameOthers _) e (overlaid_others b _), format_same r q (x.word ∙ sym y.word) (x.left ∙ sym y.left))

-- on one image: the words of sectors 0 to 5 are as before, and all others alike
pub format_determined_lem : {image : List ℕ} {state : State} {bytes : ℕ} {lent a b : List ℕ} {r q : Formatted} → FormatAnswer image state bytes lent a r → FormatAnswer image state bytes lent b q → (a ≡ b) × (r ≡ q)
format_determined_lem {a = a} {b} x y =
    let s = format_alike (record { size = refl; words = λ k h. refl }) x y in (
      ext_get_or 0 a b s.0.size (λ k h. below_or k reserved_words (λ l. sym ((format_kept x).words k l) ∙ (format_kept y).words k l) (s.0.words k)),
      s.1,
    )

pub reserved_sectors : ReservedSectors Performs FormatAnswer
reserved_sectors = record {
  written = call_kept;
  sound = λ s wa wb. (sound_same s wb, sound_same (others_back s) wa);
  read = call_alike;
  format_written = format_kept;
  format_read = format_alike;
}
