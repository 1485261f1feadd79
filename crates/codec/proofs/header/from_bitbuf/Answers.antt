use Rattle.std.proofs.Common.{sym, ◌∙◌}
use Rattle.tetra_core.specs.Laws.Windows.{good_facts}
use Rattle.codec.proofs.Laws.Ahead.{read-ends}
use Rattle.codec.proofs.header.from_bitbuf.Goals as goal

pub load-requires : goal.load-requires
load-requires g c = good_facts _ _ (sym c.good_window.ensures ∙ c.if-not-good_window.false)

pub read-requires : goal.read-requires
read-requires g c =
    (good_facts _ _ (sym c.good_window.ensures ∙ c.if-not-good_window.false), c.load.ensures.0, c.load.ensures.1)

pub moved_by-requires : goal.moved_by-requires
moved_by-requires g c =
    read-ends _ _ (good_facts _ _ (sym c.good_window.ensures ∙ c.if-not-good_window.false)) c.read.ensures c.load.ensures.2 c.in-Ok.is
