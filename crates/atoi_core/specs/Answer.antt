-- What the parses return for an integer type: a number, for a prefix with its count, or a reason.
use Rattle.std.specs.Prelude.{ℕ, ◌+◌, Bool, List, ℤ, Result, Ok, Err}
use Rattle.atoi_core.specs.Digit.{Table, decimal_table}
use Rattle.atoi_core.specs.Refusal.{Refusal, answer_of}
use Rattle.atoi_core.specs.declared.error.AtoiSimdError.{AtoiSimdError}
use Rattle.atoi_core.specs.Magnitude.{whole_magnitude, prefix_magnitude}
use Rattle.atoi_core.specs.IntType.{IntType, class_of, bound_of, limit_of}
use Rattle.atoi_core.specs.Sign.{sign_of, with_sign}

abbrev pub map_answer : {A B : Type 0} → (A → B) → Result A Refusal → Result B Refusal
map_answer f (Ok value) = Ok (f value)
map_answer f (Err reason) = Err reason

-- The answer that a `Result` means; `number` gives a value's integer.
abbrev pub typed_answer : {T : Type 0} → (T → ℤ) → Result T AtoiSimdError → Result ℤ Refusal
typed_answer number result = map_answer number (answer_of result)

-- The same for a prefix, with its count.
abbrev pub typed_prefix_answer : {T : Type 0} → (T → ℤ) → Result (T × ℕ) AtoiSimdError → Result (ℤ × ℕ) Refusal
typed_prefix_answer {T} number result =
    map_answer (λ (found : T × ℕ). (number found.0, found.1)) (answer_of result)

-- The answer to a whole body; `minus` makes its number negative.
abbrev pub whole_answer : Table → IntType → (minus skip : Bool) → List ℕ → Result ℤ Refusal
whole_answer table int minus skip body =
    map_answer (with_sign minus)
    (whole_magnitude table (class_of int) (bound_of int minus) (limit_of int) skip body)

-- The answer to the number at a body's start, with its length.
abbrev pub prefix_answer : Table → IntType → (minus skip : Bool) → List ℕ → Result (ℤ × ℕ) Refusal
prefix_answer table int minus skip body =
    map_answer (λ (found : ℕ × ℕ). (with_sign minus found.0, found.1))
    (prefix_magnitude table (class_of int) (bound_of int minus) (limit_of int) skip body)

-- The answer to a whole slice, whose sign is consumed first.
abbrev pub text_answer : Table → IntType → (skip plus : Bool) → List ℕ → Result ℤ Refusal
text_answer table int skip plus s =
    let sign = sign_of int.signed plus s in
    whole_answer table int sign.minus skip sign.body

-- What `parse` returns.
abbrev pub parse_answer : IntType → (skip plus : Bool) → List ℕ → Result ℤ Refusal
parse_answer int skip plus s = text_answer decimal_table int skip plus s

abbrev pub with_more : ℕ → Result (ℤ × ℕ) Refusal → Result (ℤ × ℕ) Refusal
with_more more answer = map_answer (λ (found : ℤ × ℕ). (found.0, found.1 + more)) answer

-- The answer at a slice's start; the count includes the sign.
abbrev pub text_prefix_answer : Table → IntType → (skip plus : Bool) → List ℕ → Result (ℤ × ℕ) Refusal
text_prefix_answer table int skip plus s =
    let sign = sign_of int.signed plus s in
    with_more sign.taken (prefix_answer table int sign.minus skip sign.body)

-- What `parse_prefix` returns.
abbrev pub parse_prefix_answer : IntType → (skip plus : Bool) → List ℕ → Result (ℤ × ℕ) Refusal
parse_prefix_answer int skip plus s = text_prefix_answer decimal_table int skip plus s
