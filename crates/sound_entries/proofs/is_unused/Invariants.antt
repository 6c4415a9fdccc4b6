use Rattle.std.proofs.Common.{◌≡◌, ℕ, ◌<◌, get_or}
use Rattle.sound_entries.proofs.is_unused.Given as goal

abbrev pub invariant-loop-word : goal.invariant-loop-word
invariant-loop-word l =
    (l.bits ≡ 0 → (k : ℕ) → k < l.word-index → get_or l.place k 0 ≡ 0) × (((k : ℕ) → k < l.word-index → get_or l.place k 0 ≡ 0) → l.bits ≡ 0)
