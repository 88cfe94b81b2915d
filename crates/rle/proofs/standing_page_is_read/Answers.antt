use Rattle.rle.proofs.ReadBack.{hybrid-opens}
use Rattle.rle.proofs.standing_page_is_read.Goals as goal

pub returns : goal.returns
returns c = λ w bytes vs h. hybrid-opens w h
