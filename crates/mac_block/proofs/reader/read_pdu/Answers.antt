use mathlib.Core.Path.{◌≡◌}
use native.Mathlib.Omega.{arith}
use borrow.Author.Rules.{rules}
use Rattle.std.specs.Prelude.{Result}
use Rattle.bits.specs.Bits.{bits_at}
use Rattle.bits.proofs.Laws.Reads.{length_bits_at}
use Rattle.tetra_core.specs.Refusal.{numbered}
use Rattle.tetra_core.specs.declared.refusal.Refusal.{Refusal}
use Rattle.codec.specs.Reader.{parse}
use Rattle.codec.specs.declared.Ahead.{Ahead}
use Rattle.codec.specs.Ahead.{part_out}
use Rattle.codec.proofs.Laws.Header.{read}
use Rattle.mac_resource.specs.declared.mac_resource.MacResource.{MacResource}
use Rattle.mac_resource.specs.MacResource.{read_mac_resource}
use Rattle.mac_block.specs.Answers.{sized_entry}
use Rattle.mac_resource.specs.Laws.MacResource.{header-inside}
use Rattle.mac_block.proofs.Stepping.{own_window, own_read, own_refused}
use Rattle.mac_block.proofs.reader.read_pdu.Goals.{After-read_mac_resource}
use Rattle.mac_block.proofs.reader.read_pdu.Goals as goal

-- the header, read from the PDU's bits
header : (c : After-read_mac_resource) {r : Result (Ahead × MacResource) Refusal} → c.read_mac_resource.result ≡ r
    → let a = c.args in
    parse read_mac_resource (bits_at a.block.now a.bit a.size) 0 ≡ part_out r (bits_at a.block.now a.bit a.size)
header c e =
    let a = c.args in
    read (rw (c.requires.4, own_window a.block.now a.bit a.size) at c.read_mac_resource.ensures) e

pub read_mac_resource-requires : goal.read_mac_resource-requires
read_mac_resource-requires c =
    let a = c.args in (search rules, rw (own_window a.block.now a.bit a.size) c.requires.2, search rules)

pub behind_header-requires : goal.behind_header-requires
behind_header-requires c =
    let a = c.args in
    let i = header-inside (bits_at a.block.now a.bit a.size) (header (goal.at.behind_header-requires c).After-read_mac_resource c.in-Ok.is) in
    (search rules, search rules, omega (arith, i, length_bits_at a.block.now a.bit a.size (omega arith)))

pub returns-in-Ok : goal.returns-in-Ok
returns-in-Ok c = rw (own_read _ (header (goal.at.returns-in-Ok c).After-read_mac_resource c.in-Ok.is)) c.behind_header.ensures

pub returns-in-Err : goal.returns-in-Err
unfolding sized_entry
returns-in-Err c =
    rw (own_refused _ (header (goal.at.returns-in-Err c).After-read_mac_resource c.in-Err.is), (numbered c.in-Err.refusal.reason).back)
