-- `sound_files::name_at` meets its contract. Assumes nothing.
use mathlib.Core.Path.{sym, ap, ◌∙◌}
use Prim.Native.Nat.{ℕ, ◌+◌, ◌*◌}
use native.Mathlib.Nat.{add-zero}
use lib.ListN.{get_or}
use Rattle.sound_files.proofs.name_at.Goals as goal

pub returns : goal.returns
returns c =
    let a = c.args in
    let image = a.image.now in
    c.packed.ensures ∙ ap (λ (x : ℕ). (get_or image x 0 * 65536 + get_or image (a.at + 1) 0) * 65536 + get_or image (a.at + 2) 0) (sym (add-zero a.at))
