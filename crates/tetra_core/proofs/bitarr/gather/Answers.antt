use Rattle.std.proofs.Common.{rules, ◌≡◌, ◌∙◌}
use Rattle.std.specs.List.{fold}
use Rattle.tetra_core.proofs.BitBytes.{push, gathered}
use Rattle.tetra_core.proofs.bitarr.gather.Goals as goal

pub returns : goal.returns
returns c =
    let e : c.fold.result ≡ fold push 0 c.args.bytes.now = search rules in
    e ∙ gathered c.args.bytes.now c.requires
