use mathlib.Core.Bool.{false}
use mathlib.Core.Path.{◌≡◌, ◌∙◌}
use native.Mathlib.Omega.{arith}
use Rattle.mac_resource.specs.MacResource.{header_len}
use Rattle.block_rules.specs.Writer.{add_check}
use Rattle.mac_block.proofs.writer.add_check.Goals as goal

pub returns : goal.returns
unfolding add_check
returns c =
    let x = c.encode_to_add-e.ensures.encodes 0 false (omega arith) in
    let l : c.size.result ≡ header_len c.args.pdu.header = omega (arith, c.size.ensures, x.bit_count) in
    c.check_sized.ensures ∙ rw (l, x.number)
