use Rattle.rle.proofs.Standing.{page-short}
use Rattle.rle.proofs.written_page_is_short.Goals as goal

pub returns : goal.returns
returns c = λ w l narrow column. page-short w l narrow column.below column.count
