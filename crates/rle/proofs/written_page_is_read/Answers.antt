use Rattle.rle.proofs.PageLaws.{page_is_read}
use Rattle.rle.proofs.written_page_is_read.Goals as goal

pub returns : goal.returns
returns c = page_is_read
