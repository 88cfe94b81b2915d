use Rattle.rle.proofs.Standing.{page-stands}
use Rattle.rle.proofs.written_page_stands.Goals as goal

pub returns : goal.returns
returns c = λ w l column. page-stands w l column.below column.count
