use borrow.Author.Tests.{le-leb, lt-leb}
use Rattle.tetra_mac.specs.AccessAssign.{field_known}
use Rattle.tetra_mac.proofs.assign.field_known.Goals as goal

pub returns-then-code-gt3 : goal.returns-then-code-gt3
unfolding field_known
returns-then-code-gt3 c = rw (lt-leb _ _ c.if-code-gt3.true)

pub returns : goal.returns
unfolding field_known
returns c = rw (le-leb _ _ c.if-code-gt3.false)
