-- The texts of errors: their numbers, and that they are ASCII.
use Rattle.std.proofs.Common.{◌≡◌, refl, ℕ, ◌+◌, List, ◌++◌, ◌<◌, ◌≤◌, true, length, arith, ◌/◌, ◌%◌, ◌^◌, [], ◌∷◌, decimal, length-append, inl, inr, suc, codes, get_or, IsAscii, rules, append_assoc, ap, sym}
use Rattle.std.proofs.lemmas.Bool.{cases_lt}
use Rattle.std.specs.Fmt.{digit_glyph}
use Rattle.std.proofs.lemmas.Fmt.{decimal_digit, decimal_step_wide, length-decimal-le_wide, IsAscii-decimal_wide, hex_one_digit, hex_two_digits}
use Rattle.atoi_core.specs.ErrorText.{hex_text, hex_list}
use Rattle.std.specs.List.{list_all, flat_map, slice_index}
use Rattle.std.specs.Char.{is_ascii}
use Rattle.std.proofs.lemmas.Bool.Decides.{nat_tests}
use Rattle.std.proofs.lemmas.Str.{IsAscii-append}
use Rattle.std.proofs.lemmas.Str.Ascii.{IsAscii-nil, IsAscii-cons}

-- ---- Texts of numbers

pub length_one_more : (n : ℕ) → 10 ≤ n → n < 2 ^ 128 → length (decimal (n / 10)) + 1 ≡ length (decimal n)
length_one_more n low high =
    rw (decimal_step_wide n low (omega arith)) (omega (arith, length-append (decimal (n / 10)) ((48 + n % 10) ∷ [])))

pub length_of_128_bits : (n : ℕ) → n < 2 ^ 128 → length (decimal n) ≤ 39
length_of_128_bits n small = length-decimal-le_wide 39 n (omega arith) (omega arith) (omega arith)

pub length_of_64_bits : (n : ℕ) → n < 2 ^ 64 → length (decimal n) ≤ 20
length_of_64_bits n small = length-decimal-le_wide 20 n (omega arith) (omega arith) (omega arith)

pub decimal_is_ascii : (n i : ℕ) → n < 2 ^ 128 → slice_index (decimal n) i < 128
decimal_is_ascii n i small = IsAscii-decimal_wide n (omega arith) i

pub ruleset of_decimal =
    (decimal_digit, decimal_step_wide, append_assoc, length_one_more, length_of_64_bits, length_of_128_bits, decimal_is_ascii)

-- ---- Hexadecimal texts

pub hex_of_two : (before : List ℕ) (byte : ℕ) → 16 ≤ byte → byte < 256
    → before ++ digit_glyph true (byte / 16) ∷ [] ++ digit_glyph true (byte % 16) ∷ [] ≡ before ++ hex_text byte
hex_of_two before byte low small = rw (hex_two_digits true byte low small, append_assoc)

pub ruleset of_hex = (hex_one_digit, hex_of_two)

-- ---- Error texts are ASCII

pub IsAscii-literal : (bytes : List ℕ) → list_all is_ascii bytes ≡ true → IsAscii bytes
IsAscii-literal [] passes = IsAscii-nil
IsAscii-literal (byte ∷ bytes) passes = grind (arith, nat_tests, IsAscii-cons, IsAscii-literal bytes)

IsAscii-glyph : (digit : ℕ) (bytes : List ℕ) → digit < 16 → IsAscii bytes → IsAscii (digit_glyph true digit ∷ bytes)
IsAscii-glyph digit bytes small rest = IsAscii-cons (digit_glyph true digit) bytes (grind (arith, nat_tests)) rest

IsAscii-hex_text : (byte : ℕ) → byte < 256 → IsAscii (hex_text byte)
IsAscii-hex_text byte small =
    elim (cases_lt byte 16) [
      | inl short ↦ rw (hex_one_digit true byte short) (IsAscii-glyph byte [] short IsAscii-nil)
      | inr long ↦
          rw (← hex_of_two [] byte long small)
          (IsAscii-glyph (byte / 16) (digit_glyph true (byte % 16) ∷ []) (omega arith)
          (IsAscii-glyph (byte % 16) [] (omega arith) IsAscii-nil))
    ]

-- The bytes after the first, each after a comma and a space.
abbrev hex_rest : List ℕ → List ℕ
hex_rest bytes = flat_map (λ b. codes ", " ++ hex_text b) bytes

IsAscii-hex_rest : (bytes : List ℕ) → ((k : ℕ) → get_or bytes k 0 < 256) → IsAscii (hex_rest bytes)
IsAscii-hex_rest [] small = IsAscii-nil
IsAscii-hex_rest (byte ∷ bytes) small =
    search (rules, IsAscii-append, IsAscii-literal, IsAscii-hex_text byte (small 0), IsAscii-hex_rest bytes (λ k. small (suc k)))

pub hex_list_is_ascii : (bytes : List ℕ) (i : ℕ) → ((k : ℕ) → get_or bytes k 0 < 256) → slice_index (hex_list bytes) i < 128
hex_list_is_ascii [] i small = IsAscii-nil i
hex_list_is_ascii (byte ∷ bytes) i small =
    IsAscii-append (hex_text byte) (hex_rest bytes) (IsAscii-hex_text byte (small 0)) (IsAscii-hex_rest bytes (λ k. small (suc k))) i

pub input_text_is_ascii : (bytes : List ℕ) (i : ℕ) → IsAscii bytes → slice_index (91 ∷ (bytes ++ 93 ∷ [])) i < 128
input_text_is_ascii bytes i ascii = search (rules, IsAscii-append)
