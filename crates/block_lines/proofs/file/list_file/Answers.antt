use Rattle.std.proofs.Common.{rules}
use Rattle.text.specs.Laws.Puts.{put_at}
use Rattle.block_lines.proofs.Texts.{listed}
use Rattle.block_lines.proofs.file.list_file.Goals as goal

pub returns : goal.returns
returns c =
    listed (search rules) (put_at c.new-text.ensures.bytes c.new-text.ensures.place c.file_text.ensures c.place.ensures (search rules))
