-- Laws about what the parses return, over the definitions only. A law on a slice holds for every
-- slice.
use Rattle.std.specs.Prelude.{◌≡◌, ◌≢◌, ◌⊎◌, ◌↔◌, ℕ, ◌+◌, ◌<◌, ◌≤◌, Bool, true, false, if◌then◌else◌, IsTrue, IsFalse, List, ◌∷◌, ◌++◌, length, take, drop, replicate, slice_index, ℤ, pos, neg_ℤ, ◌≤ℤ◌, Result, Ok, Err, IsOk, IfOk, OnErr}
use Rattle.std.specs.Fmt.{decimal, signed_decimal}
use Rattle.std.specs.Str.Parse.{AllDigits}
use Rattle.std.specs.declared.cmp.Ordering.TheVariants.{Equal}
use Rattle.atoi_core.specs.Digit.{decimal_table, is_digit}
use Rattle.atoi_core.specs.Run.{run_len, run}
use Rattle.atoi_core.specs.Refusal.{Refusal, empty, rank, input_of, refusal_cmp}
use Rattle.atoi_core.specs.declared.error.AtoiSimdError.{AtoiSimdError}
use Rattle.atoi_core.specs.IntType.{IntType, bound_of}
use Rattle.atoi_core.specs.Sign.{Sign, sign_of, with_sign}
use Rattle.atoi_core.specs.Answer.{typed_answer, typed_prefix_answer, whole_answer, prefix_answer, with_more, parse_answer, parse_prefix_answer}
use Rattle.atoi_core.specs.Text.{IsText, is_minus, DigitsWrite, TextWrites, BeginsWithDigit, PrefixWrites, IsNumberThen, IsTooLarge, has_needless_zero}

-- How a call gets its sign: it looks for one, a plus only with `plus`, or it is given.
pub data SignForm : Type 0 where
  looked_for : (plus : Bool) → SignForm
  given : (is_negative : Bool) → SignForm

-- No sign is looked for, and the number is not negative.
abbrev pub positive : SignForm
positive = given false

-- The sign that a call of that form uses, and its body.
abbrev pub sign_in : IntType → SignForm → List ℕ → Sign
sign_in int (looked_for plus) s = sign_of int.signed plus s
sign_in int (given is_negative) s = record { minus = is_negative; taken = 0; body = s }

-- The answer of the whole parse of that form.
abbrev pub whole_call : IntType → SignForm → (skip : Bool) → List ℕ → Result ℤ Refusal
whole_call int (looked_for plus) skip s = parse_answer int skip plus s
whole_call int (given is_negative) skip s = whole_answer decimal_table int is_negative skip s

-- The answer of the prefix parse of that form.
abbrev pub prefix_call : IntType → SignForm → (skip : Bool) → List ℕ → Result (ℤ × ℕ) Refusal
prefix_call int (looked_for plus) skip s = parse_prefix_answer int skip plus s
prefix_call int (given is_negative) skip s = prefix_answer decimal_table int is_negative skip s

-- For that form, bytes write a number.
abbrev pub Writes : IntType → SignForm → List ℕ → ℤ → Type 0
Writes int (looked_for plus) = TextWrites int plus
Writes int (given is_negative) = DigitsWrite int is_negative

-- A type's smallest value: 0, or `-(greatest + 1)` if signed.
abbrev pub least_of : IntType → ℤ
least_of int = if int.signed then neg_ℤ (pos (int.greatest + 1)) else pos 0

-- Prefix and whole have the same limit: zeros are skipped, or more than 32 bits.
abbrev pub HasLimitOfWhole : IntType → Bool → Type 0
HasLimitOfWhole int skip = (skip ≡ true) ⊎ (32 < int.bits)

abbrev pub IsSuffix : List ℕ → List ℕ → Type 0
IsSuffix t s = (prefix_bytes : List ℕ) × (s ≡ prefix_bytes ++ t)

-- Two answers are equal values, or errors of the same variant.
abbrev pub HaveSameOutcome : {A : Type 0} → Result A Refusal → Result A Refusal → Type 0
HaveSameOutcome (Ok x) (Ok y) = x ≡ y
HaveSameOutcome (Err reason) (Err other) = rank reason ≡ rank other
HaveSameOutcome (Ok x) (Err other) = ⊥
HaveSameOutcome (Err reason) (Ok y) = ⊥

-- Both slices have the same sign for that form, and equal runs after it.
pub record HaveSameRun (int : IntType) (form : SignForm) (s t : List ℕ) : Type 0 where
  pub minus : (sign_in int form s).minus ≡ (sign_in int form t).minus
  pub taken : (sign_in int form s).taken ≡ (sign_in int form t).taken
  pub run : run decimal_table (sign_in int form s).body ≡ run decimal_table (sign_in int form t).body

-- The byte 48, which is the digit zero.
abbrev pub zero_byte : ℕ
zero_byte = 48

-- `s` with `count` more zeros after its sign.
abbrev pub with_zeros : IntType → SignForm → (count : ℕ) → List ℕ → List ℕ
with_zeros int form count s =
    let sign = sign_in int form s in
    take sign.taken s ++ (replicate count zero_byte ++ sign.body)

-- Whatever the flags, `parse` returns each value from its decimal text.
pub record TextOfValue (int : IntType) : Type 0 where
  pub parsed : (skip plus : Bool) (x : ℤ) → least_of int ≤ℤ x → x ≤ℤ pos int.greatest
      → parse_answer int skip plus (signed_decimal x) ≡ Ok x

-- With both flags, `parse` accepts exactly the type's texts, and returns their numbers.
pub record AcceptedTexts (int : IntType) : Type 0 where
  pub accepted : (s : List ℕ) → IsOk (parse_answer int true true s) ↔ IsText int s
  pub number : (s : List ℕ) (number : ℤ) → TextWrites int true s number → parse_answer int true true s ≡ Ok number

-- A whole parse returns only a number that its slice writes; with zeros skipped, each such number.
pub record AcceptedNumbers (int : IntType) : Type 0 where
  pub written : (form : SignForm) (skip : Bool) (s : List ℕ) (number : ℤ)
      → whole_call int form skip s ≡ Ok number → Writes int form s number
  pub accepted : (form : SignForm) (s : List ℕ) (number : ℤ)
      → Writes int form s number → whole_call int form true s ≡ Ok number

-- The same of a Rust `Result`; with zeros skipped, an error means no number.
pub record WholeResults {T : Type 0} (int : IntType) (number : T → ℤ) (skip : Bool) : Type 0 where
  pub text : (plus : Bool) (s : List ℕ) (result : Result T AtoiSimdError)
      → typed_answer number result ≡ parse_answer int skip plus s
      → IfOk result (λ value. TextWrites int plus s (number value))
  pub no_text : (plus : Bool) (s : List ℕ) (result : Result T AtoiSimdError)
      → typed_answer number result ≡ parse_answer int skip plus s
      → IsTrue skip → OnErr result ((any : ℤ) → ¬ TextWrites int plus s any)
  pub digits : (is_negative : Bool) (s : List ℕ) (result : Result T AtoiSimdError)
      → typed_answer number result ≡ whole_answer decimal_table int is_negative skip s
      → IfOk result (λ value. DigitsWrite int is_negative s (number value))
  pub no_digits : (is_negative : Bool) (s : List ℕ) (result : Result T AtoiSimdError)
      → typed_answer number result ≡ whole_answer decimal_table int is_negative skip s
      → IsTrue skip → OnErr result ((any : ℤ) → ¬ DigitsWrite int is_negative s any)

-- A prefix parse returns only a number and the length of a prefix that writes it, with no digit after
-- it; with zeros skipped, an error means that a digit follows each prefix that writes a number.
pub record PrefixResults {T : Type 0} (int : IntType) (number : T → ℤ) (skip : Bool) : Type 0 where
  pub text : (plus : Bool) (s : List ℕ) (result : Result (T × ℕ) AtoiSimdError)
      → typed_prefix_answer number result ≡ parse_prefix_answer int skip plus s
      → IfOk result (λ found. PrefixWrites (TextWrites int plus) s (number found.0) found.1)
  pub no_text : (plus : Bool) (s : List ℕ) (result : Result (T × ℕ) AtoiSimdError)
      → typed_prefix_answer number result ≡ parse_prefix_answer int skip plus s
      → IsTrue skip → OnErr result ((any : ℤ) (count : ℕ) → ¬ PrefixWrites (TextWrites int plus) s any count)
  pub digits : (is_negative : Bool) (s : List ℕ) (result : Result (T × ℕ) AtoiSimdError)
      → typed_prefix_answer number result ≡ prefix_answer decimal_table int is_negative skip s
      → IfOk result (λ found. PrefixWrites (DigitsWrite int is_negative) s (number found.0) found.1)
  pub no_digits : (is_negative : Bool) (s : List ℕ) (result : Result (T × ℕ) AtoiSimdError)
      → typed_prefix_answer number result ≡ prefix_answer decimal_table int is_negative skip s
      → IsTrue skip → OnErr result ((any : ℤ) (count : ℕ) → ¬ PrefixWrites (DigitsWrite int is_negative) s any count)

-- Bytes that write a number, and a rest without a digit at its start: `PrefixWrites` holds for
-- these bytes and no others.
pub record PrefixesAndRests (int : IntType) : Type 0 where
  pub of_parts : (form : SignForm) (s prefix_bytes rest : List ℕ) (number : ℤ)
      → s ≡ prefix_bytes ++ rest → Writes int form prefix_bytes number → ¬ BeginsWithDigit rest
      → PrefixWrites (Writes int form) s number (length prefix_bytes)
  pub only : (form : SignForm) (s : List ℕ) (number other : ℤ) (count len : ℕ)
      → PrefixWrites (Writes int form) s number count → PrefixWrites (Writes int form) s other len
      → (number ≡ other) × (count ≡ len)
  pub cut : (form : SignForm) (s prefix_bytes rest : List ℕ) (number other : ℤ) (count : ℕ)
      → s ≡ prefix_bytes ++ rest → Writes int form prefix_bytes number → ¬ BeginsWithDigit rest
      → PrefixWrites (Writes int form) s other count
      → (number ≡ other) × ((take count s ≡ prefix_bytes) × (drop count s ≡ rest))

-- A number and a byte that is no digit: exactly if a prefix writes it and the byte follows
-- (`exact`), in one way (`cut`, `only`).
pub record NumberThenByte (int : IntType) : Type 0 where
  pub exact : (form : SignForm) (s : List ℕ) (number : ℤ) (byte : ℕ) (rest : List ℕ) → IsFalse (is_digit decimal_table byte)
      → IsNumberThen (Writes int form) s number byte rest
      ↔ ((count : ℕ) × (PrefixWrites (Writes int form) s number count × (drop count s ≡ byte ∷ rest)))
  pub cut : (form : SignForm) (s : List ℕ) (number other : ℤ) (byte : ℕ) (rest : List ℕ) (count : ℕ) → IsFalse (is_digit decimal_table byte)
      → IsNumberThen (Writes int form) s number byte rest → PrefixWrites (Writes int form) s other count
      → (number ≡ other) × (drop count s ≡ byte ∷ rest)
  pub only : (form : SignForm) (s : List ℕ) (number other : ℤ) (byte : ℕ) (rest more : List ℕ) → IsFalse (is_digit decimal_table byte)
      → IsNumberThen (Writes int form) s number byte rest → IsNumberThen (Writes int form) s other byte more
      → (number ≡ other) × (rest ≡ more)

-- A slice writes at most one number.
abbrev pub OneNumber : IntType → Type 0
OneNumber int =
    (form : SignForm) (s : List ℕ) (number other : ℤ)
    → Writes int form s number → Writes int form s other → number ≡ other

-- If a prefix parse returns a number, a digit follows the sign, if any, at the start of its slice.
abbrev pub PrefixBegins : IntType → Type 0
PrefixBegins int =
    (form : SignForm) (skip : Bool) (s : List ℕ) (found : ℤ × ℕ)
    → prefix_call int form skip s ≡ Ok found → BeginsWithDigit (sign_in int form s).body

-- A prefix's error is `empty` exactly without digits (`none`). With zeros skipped, any other error
-- means that all digits at the start are too large a number (`too_large`, in one way: `one_split`).
pub record NoneOrTooLarge (int : IntType) : Type 0 where
  pub none : (form : SignForm) (skip : Bool) (s : List ℕ) (reason : Refusal) → prefix_call int form skip s ≡ Err reason
      → (reason ≡ empty) ↔ (run_len decimal_table (sign_in int form s).body ≡ 0)
  pub too_large : (form : SignForm) (s : List ℕ) (reason : Refusal) → prefix_call int form true s ≡ Err reason
      → 0 < run_len decimal_table (sign_in int form s).body
      → IsTooLarge int (sign_in int form s).minus (sign_in int form s).body (run_len decimal_table (sign_in int form s).body)
  pub begins : (s : List ℕ) → BeginsWithDigit s ↔ (0 < run_len decimal_table s)
  pub one_split : (digits other rest more : List ℕ) → digits ++ rest ≡ other ++ more → AllDigits 10 digits → AllDigits 10 other
      → ¬ BeginsWithDigit rest → ¬ BeginsWithDigit more → (digits ≡ other) × (rest ≡ more)

-- A prefix parse that succeeds up to the end has the value of the whole parse; with the same limit,
-- the converse holds.
pub record PrefixIsWhole (int : IntType) : Type 0 where
  pub whole : (form : SignForm) (skip : Bool) (s : List ℕ) (v : ℤ)
      → prefix_call int form skip s ≡ Ok (v, length s) → whole_call int form skip s ≡ Ok v
  pub back : (form : SignForm) (skip : Bool) (s : List ℕ) (v : ℤ) → HasLimitOfWhole int skip
      → whole_call int form skip s ≡ Ok v → prefix_call int form skip s ≡ Ok (v, length s)

-- A found prefix is not empty, is in the slice, and alone has the same answer.
pub record PrefixOfCut (int : IntType) : Type 0 where
  pub cut : (form : SignForm) (skip : Bool) (s : List ℕ) (v : ℤ) (count : ℕ)
      → prefix_call int form skip s ≡ Ok (v, count)
      → (1 ≤ count) × (count ≤ length s) × (prefix_call int form skip (take count s) ≡ Ok (v, count))

-- A prefix parse stops at the end, or at a byte that is no digit.
abbrev pub PrefixStopsAtRest : IntType → Type 0
PrefixStopsAtRest int =
    (form : SignForm) (skip : Bool) (s : List ℕ) (v : ℤ) (count : ℕ)
    → prefix_call int form skip s ≡ Ok (v, count)
    → (count ≡ length s) ⊎ ((count < length s) × IsFalse (is_digit decimal_table (slice_index s count)))

-- What follows the run changes no value, count or variant of a prefix parse.
abbrev pub RestChangesNothing : IntType → Type 0
RestChangesNothing int =
    (form : SignForm) (skip : Bool) (s t : List ℕ) → HaveSameRun int form s t
    → HaveSameOutcome (prefix_call int form skip s) (prefix_call int form skip t)

-- What a parse finds while zeros count, it finds while they are skipped. With fewer than 16 digits,
-- the answers are the same, errors too.
pub record SkippingAgrees (int : IntType) : Type 0 where
  pub whole : (form : SignForm) (s : List ℕ) (v : ℤ)
      → whole_call int form false s ≡ Ok v → whole_call int form true s ≡ Ok v
  pub prefix : (form : SignForm) (s : List ℕ) (v : ℤ) (count : ℕ)
      → prefix_call int form false s ≡ Ok (v, count) → prefix_call int form true s ≡ Ok (v, count)
  pub short_whole : (form : SignForm) (s : List ℕ) → run_len decimal_table (sign_in int form s).body < 16
      → whole_call int form true s ≡ whole_call int form false s
  pub short_prefix : (form : SignForm) (s : List ℕ) → run_len decimal_table (sign_in int form s).body < 16
      → prefix_call int form true s ≡ prefix_call int form false s

-- Only the same errors are equal in their order; an error's slice is a suffix.
pub record OrderAndSuffix (int : IntType) : Type 0 where
  pub order : (a b : Refusal) → (refusal_cmp a b ≡ Equal) ↔ (a ≡ b)
  pub whole : (form : SignForm) (skip : Bool) (s : List ℕ) (reason : Refusal)
      → whole_call int form skip s ≡ Err reason → IsSuffix (input_of reason) s
  pub prefix : (form : SignForm) (skip : Bool) (s : List ℕ) (reason : Refusal)
      → prefix_call int form skip s ≡ Err reason → IsSuffix (input_of reason) s

-- With zeros skipped, more zeros before a digit raise the count, and change no value or variant.
pub record ZerosChangeNothing (int : IntType) : Type 0 where
  pub whole : (form : SignForm) (s : List ℕ) (count : ℕ)
      → 0 < run_len decimal_table (sign_in int form s).body
      → HaveSameOutcome (whole_call int form true s) (whole_call int form true (with_zeros int form count s))
  pub prefix : (form : SignForm) (s : List ℕ) (count : ℕ)
      → 0 < run_len decimal_table (sign_in int form s).body
      → HaveSameOutcome (with_more count (prefix_call int form true s)) (prefix_call int form true (with_zeros int form count s))

-- Unsigned bytes that write a number start with a digit. `decimal n` is the only text without a
-- needless zero; `signed_decimal x` the only one without a plus, minus zero or needless zero.
pub record DecimalTexts (int : IntType) : Type 0 where
  pub begins : (is_negative : Bool) (digits : List ℕ) (number : ℤ)
      → DigitsWrite int is_negative digits number → BeginsWithDigit digits
  pub written : (is_negative : Bool) (n : ℕ) → n ≤ bound_of int is_negative
      → DigitsWrite int is_negative (decimal n) (with_sign is_negative n)
  pub shortest : (is_negative : Bool) (n : ℕ) → n ≤ bound_of int is_negative
      → IsFalse (has_needless_zero (decimal n))
  pub only : (is_negative : Bool) (digits : List ℕ) (n : ℕ)
      → DigitsWrite int is_negative digits (with_sign is_negative n) → IsFalse (has_needless_zero digits)
      → digits ≡ decimal n
  pub text : (takes_plus : Bool) (x : ℤ) → least_of int ≤ℤ x → x ≤ℤ pos int.greatest
      → TextWrites int takes_plus (signed_decimal x) x
  pub only_text : (s : List ℕ) (x : ℤ) (text : TextWrites int false s x)
      → IsFalse (has_needless_zero text.digits) → (is_minus text.sign ≡ true → x ≢ pos 0)
      → s ≡ signed_decimal x
