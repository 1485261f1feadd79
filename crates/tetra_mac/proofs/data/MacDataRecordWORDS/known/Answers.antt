use mathlib.Core.Path.{sym, ◌∙◌}
use native.Mathlib.Omega.{arith}
use Rattle.tetra_mac.specs.MacData.{mac_data_known}
use Rattle.tetra_mac.specs.Laws.MacAccess.{mac_access_long}
use Rattle.tetra_mac.proofs.data.MacDataRecordWORDS.known.Goals as goal

pub returns-then-not-known : goal.returns-then-not-known
unfolding mac_data_known
returns-then-not-known c = rw (sym c.known.ensures ∙ c.if-not-known.true)

pub bounds-words-5 : goal.bounds-words-5
unfolding mac_data_known
bounds-words-5 c = omega (arith, mac_access_long _ (sym c.known.ensures ∙ c.if-not-known.false))

pub returns : goal.returns
unfolding mac_data_known
returns c = rw (sym c.known.ensures ∙ c.if-not-known.false)
