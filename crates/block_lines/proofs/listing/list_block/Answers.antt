use borrow.Author.Rules.{rules}
use Rattle.block_lines.proofs.Texts.{listed}
use Rattle.block_lines.proofs.listing.list_block.Goals as goal

pub returns : goal.returns
returns c = listed (search rules) c.listing_text.ensures
