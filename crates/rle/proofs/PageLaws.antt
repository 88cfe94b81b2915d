-- What is proved of a written page, in the form in which a coding of columns states it.
use Rattle.std.proofs.Common.{◌≡◌, ℕ, ◌≤◌, List, ◌++◌, replicate}
use Rattle.column.specs.Pages.{end, opened}
use Rattle.column.specs.Putting.{Column}
use Rattle.rle.specs.Reading.{reads}
use Rattle.rle.specs.Runs.{page}
use Rattle.rle.proofs.ReadBack.{hybrid-opens}
use Rattle.rle.proofs.Standing.{page-stands}

pub page_is_read : (w : ℕ) (l : List ℕ) → Column w l → (k : ℕ) × (k ≤ 7) × (reads w (page w l) ≡ opened (record { values = l ++ replicate k 0; ending = end }))
page_is_read w l column =
    let stands = page-stands w l column.below column.count in
    (stands.0, stands.1, hybrid-opens w stands.2)
