use Prim.Native.Nat.{ℕ, ◌+◌, ◌%◌, ◌^◌, ◌≤◌, ◌<◌}
use mathlib.Core.Path.{◌≡◌, ap, ◌∙◌}
use mathlib.Core.List.{List}
use native.Mathlib.Omega.{arith}
use native.Mathlib.Nat.{mod-eq_of_lt}
use lib.Pow.{pow_mono}
use Rattle.tetra_core.specs.Address.{uplink_address_type}
use Rattle.codec.specs.Row.{Cell, RowIs}
use Rattle.tetra_fields.specs.UplinkAddress.{uplink_width}
use Rattle.tetra_fields.specs.Laws.UplinkAddress.{width_most}
use Rattle.tetra_fields.specs.Laws.UplinkHead.{body_word}
use Rattle.tetra_fields.proofs.fields.uplink_head.uplink_word.Goals as goal

-- no bit of a number of so few is shifted out
few : {q : List Cell} {n : ℕ} (x y : ℕ) → RowIs q n (x + y) → n ≤ 28 → (x % 2 ^ 64 ≡ x) × (x + y < 2 ^ 28)
few x y w i = let m = pow_mono i in (mod-eq_of_lt (omega (arith, w.small, m)), omega (arith, w.small, m))

pub returns : goal.returns
returns c =
    let h = c.args.h in
    let w = body_word h c.requires in
    let f = few _ _ w (omega (arith, width_most (uplink_address_type h.addr))) in
    rw (
      c.uplink_number.ensures.0,
      c.bit.ensures.0,
      c.bit-2.ensures.0,
      c.into_raw-kind.ensures.0 ∙ c.of-t.ensures,
      c.width.ensures.0 ∙ ap uplink_width c.of-t.ensures,
      f.0,
    )
    (w, f.1)
