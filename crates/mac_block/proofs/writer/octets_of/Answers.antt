use mathlib.Core.Path.{◌≡◌, sym, ap, ◌∙◌}
use Prim.Native.Nat.{ℕ}
use native.Mathlib.Omega.{arith}
use Rattle.tetra_core.specs.Quantity.{octets_of, fill_of}
use Rattle.tetra_core.specs.declared.quantity.OctetCount.{OctetCount}
use Rattle.mac_block.proofs.Sizes.{counted}
use Rattle.mac_block.proofs.writer.octets_of.Goals as goal

pub returns-in-Ok : goal.returns-in-Ok
returns-in-Ok c =
    let e = sym c.in-Ok.is ∙ c.count_octets.ensures ∙ counted _ c.requires in
    let k : c.in-Ok.counted ≡ record { octets = record { 0 = octets_of c.args.total }; fill = record { 0 = fill_of c.args.total } } = cc in
    let n : c.in-Ok.counted.octets.0 ≡ octets_of c.args.total = ap (λ (n : OctetCount). n.octets.0) k in
    (n, omega arith)

pub returns-in-Err : goal.returns-in-Err
returns-in-Err c =
    let e = sym c.in-Err.is ∙ c.count_octets.ensures ∙ counted _ c.requires in
    absurd (let z : ◌≡◌ {A = ℕ} 0 1 = cc in omega arith)
