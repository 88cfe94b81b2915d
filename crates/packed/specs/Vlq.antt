-- VLQ, the format's ULEB128: digits to the base 128, the lowest first, each in a byte of its own; bit 7 is set on
-- every byte but the last.
use Rattle.std.specs.Prelude.{◌≡◌, ℕ, zero, suc, ◌+◌, ◌/◌, ◌%◌, ◌^◌, ◌≤◌, true, false, cond, List, [], ◌∷◌, length, take, drop, ℤ, Ok, Err, Result, nat_lt}
use Rattle.packed.specs.Digits.{number}
use Rattle.packed.specs.Zigzag.{unzigzag_of}
use Rattle.packed.specs.declared.faults.Fault.{Fault}
use Rattle.packed.specs.declared.faults.FaultKind.{FaultKind}
use Rattle.packed.specs.declared.faults.FaultKind.TheVariants.{VlqTooLarge, DataEnds}

-- The bytes of n, with at most f of them that continue.
unfoldable pub vlq_by : ℕ → ℕ → List ℕ
vlq_by zero n = n ∷ []
vlq_by (suc f) n = elim (nat_lt n 128) [ true ↦ n ∷ [] | false ↦ (128 + n % 128) ∷ vlq_by f (n / 128) ]

-- The bytes that n is written as. It has fewer than n digits behind the first, so n bounds them.
unfoldable pub vlq : ℕ → List ℕ
vlq n = vlq_by n n

-- How many bytes at the front have bit 7 set.
unfoldable pub continuing : List ℕ → ℕ
continuing [] = 0
continuing (b ∷ bs) = cond (nat_lt b 128) 0 (suc (continuing bs))

abbrev pub fault : FaultKind → ℕ → Result (ℕ × ℕ) Fault
fault kind place = Err (record { kind = kind; place = place })

-- The field that begins at a place, as its number and how many bytes it takes. A number that does not fit 64 bits is
-- too large, and so are ten bytes that all continue where an eleventh follows; else the data ends inside the field.
unfoldable pub read_vlq : List ℕ → ℕ → Result (ℕ × ℕ) Fault
read_vlq s at =
    let field = drop at s in
    let k = continuing field in
    let n = number 128 (take (suc k) field) in
    cond (nat_lt k 10)
    (cond (nat_lt k (length field)) (cond (nat_lt n (2 ^ 64)) (Ok (n, suc k)) (fault VlqTooLarge at)) (fault DataEnds at))
    (cond (nat_lt 10 (length field)) (fault VlqTooLarge at) (fault DataEnds at))

-- What was read: the number, as it is or by its zigzag, and how many bytes were taken. A fault takes none.
abbrev pub number_of : Result (ℕ × ℕ) Fault → Result ℕ Fault
number_of (Ok read) = Ok read.0
number_of (Err f) = Err f

abbrev pub signed_of : Result ℕ Fault → Result ℤ Fault
signed_of (Ok n) = Ok (unzigzag_of n)
signed_of (Err f) = Err f

abbrev pub taken_of : Result (ℕ × ℕ) Fault → ℕ
taken_of (Ok read) = read.1
taken_of (Err f) = 0

-- i bytes of the field that begins at a place were read: they all continue, and carry v
abbrev pub SoFar : List ℕ → ℕ → ℕ → ℕ → Type 0
SoFar s at i v =
    (v ≡ number 128 (take i (drop at s))) × (i + continuing (drop (at + i) s) ≡ continuing (drop at s)) × (at + i ≤ length s)
