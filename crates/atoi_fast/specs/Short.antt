-- Answers that are the same for every flag, and the sign of a slice.
use Rattle.std.specs.Prelude.{◌≡◌, ℕ, ◌-◌, ◌*◌, ◌%◌, ◌^◌, ◌<◌, ◌≤◌, Bool, true, if◌then◌else◌, List, [], ◌∷◌, length, take, drop, get_or, ℤ, Ok}
use Rattle.atoi_core.specs.Digit.{decimal_table}
use Rattle.atoi_core.specs.IntType.{IntType}
use Rattle.atoi_core.specs.Run.{run_len}
use Rattle.atoi_core.specs.Sign.{minus_sign}
use Rattle.atoi_core.specs.Answer.{text_answer, text_prefix_answer}

-- The whole slice is this number.
abbrev pub IsNumber : IntType → List ℕ → ℤ → Type 0
IsNumber int s number = (skip plus : Bool) → Ok number ≡ text_answer decimal_table int skip plus s

-- The slice begins with this number, which takes `len` bytes.
abbrev pub BeginsWithNumber : IntType → List ℕ → ℤ → (len : ℕ) → Type 0
BeginsWithNumber int s number len = (skip plus : Bool) → Ok (number, len) ≡ text_prefix_answer decimal_table int skip plus s

-- The first `len` bytes are digits.
abbrev pub AreDigits : List ℕ → (len : ℕ) → Type 0
AreDigits s len = len ≤ run_len decimal_table s

-- A separator follows them.
abbrev pub EndsBefore : (separator : ℕ) → List ℕ → (len : ℕ) → Type 0
EndsBefore separator s len = (len < length s) × (get_or s len 0 ≡ separator)

-- A minus is the first byte of the slice, and the type is signed.
abbrev pub HasMinus : (signed : Bool) → List ℕ → Type 0
HasMinus signed s = (signed ≡ true) × (take 1 s ≡ minus_sign ∷ [])

-- The slice, with a zero in the place of its minus, if it has one.
abbrev pub zero_for_minus : (minus : Bool) → List ℕ → List ℕ
zero_for_minus minus s = if minus then 48 ∷ drop 1 s else s

-- The lowest `len` bytes of a word, moved to its top.
abbrev pub at_top : (len word : ℕ) → ℕ
at_top len word = word * 2 ^ (64 - 8 * len) % 2 ^ 64
