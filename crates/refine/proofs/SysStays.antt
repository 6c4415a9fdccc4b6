-- SYS on the image is SYS of the plain unit: where that one has not shrunk, neither has SYS on the image.
use mathlib.Core.Path.{◌≡◌, sym, ap, ap₂, ◌∙◌}
use mathlib.Core.List.{List, ◌++◌}
use Prim.Native.Nat.{ℕ, ◌*◌}
use native.Mathlib.Omega.{arith}
use native.Mathlib.Nat.{mul-le-mul_left}
use Rattle.types.specs.declared.State.{State}
use Rattle.disc.specs.Stretches.{slices_at}
use Rattle.disc.specs.Kit.{sys_index_sector}
use Rattle.plain.specs.Unit.{Plain}
use Rattle.plain.specs.Good.{Good}
use Rattle.plain.specs.Claims.{NeverShrinks}
use Rattle.sound.specs.Sound.{SoundUnit}
use Rattle.refine.specs.Represents.{Represents}
use Rattle.refine.specs.Demands.{sys_blocks, sys_slices_on, SysNeverShrinks}
use Rattle.refine.proofs.Read.{sound_reads, reads_layers}
use Rattle.refine.proofs.UnitFiles.{sys_read}
use Rattle.refine.proofs.SoundRepresents.{sound_represents}

module _ {image : List ℕ} {state : State} {p : Plain} (g : Good p) (r : Represents image state p) where
  sys_blocks_lem : (unit : SoundUnit image state) → sys_blocks unit ≡ p.H * p.layers
  sys_blocks_lem unit =
      let read = sound_reads image state unit in
      let same : read.plain ≡ p = sound_represents.unique image state p read.plain g read.good r read.represents in
      ap₂ (λ (h l : ℕ). h * l) r.layout.kit.keys (sym (reads_layers image state unit) ∙ ap (λ (q : Plain). q.layers) same)

  sys_slices_lem : sys_slices_on image ≡ p.sys
  sys_slices_lem =
      ap₂ (λ (f s : ℕ). slices_at image f s sys_index_sector) r.layout.kit.first r.layout.kit.slice
      ∙ sys_read image p g r.layout.sys.index

pub sys_never_shrinks : {image end : List ℕ} {state stop : State} {p q : Plain} → Good p → Represents image state p → Good q → Represents end stop q
    → NeverShrinks p q → SysNeverShrinks image state end stop
sys_never_shrinks {p = p} {q = q} g r h t n = record {
  blocks = λ before after.
      omega (arith, sys_blocks_lem g r before, sys_blocks_lem h t after, mul-le-mul_left p.H n.layers, ap (λ (k : ℕ). k * q.layers) n.keys);
  new = n.new;
  slices = sys_slices_lem h t ∙ n.slices ∙ ap (λ (l : List ℕ). l ++ n.new) (sym (sys_slices_lem g r));
}
