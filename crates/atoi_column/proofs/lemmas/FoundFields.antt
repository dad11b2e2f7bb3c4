-- A number that a field's separator or the end of the input follows is the whole field.
use Rattle.std.proofs.Common.{◌≡◌, ◌≢◌, ℕ, suc, ◌+◌, ◌-◌, ◌<◌, ◌≤◌, ◌==◌, ◌&&◌, if◌then◌else◌, None, Some, true, false, not, inl, inr, Bool, List, [], ◌∷◌, ◌++◌, length, take, drop, get_or, length-drop, ℤ, Ok, Err, Result, refl, sym, ap, subst, ◌∙◌, arith}
use Rattle.std.specs.List.{position_or_len}
use Rattle.std.specs.Result.{result_ok}
use Rattle.std.specs.Char.{digit_value}
use Rattle.std.specs.Str.Parse.{AllDigits}
use Rattle.std.proofs.lemmas.List.{take_all, drop_all, get_or-take, length-take-le, take-take, drop-drop}
use Rattle.std.proofs.lemmas.List.Sums.{prefix_len-le-length, fails_before_first, passes_at_first, position_or_len_is}
use Rattle.std.proofs.lemmas.Bool.{eq-eqb, ne_eqb, false≢true, cases_lt}
use Rattle.std.proofs.lemmas.Bool.Decides.{leb_tells, eqb_tells, nat_tests}
use Rattle.atoi_core.specs.IntType.{IntType}
use Rattle.atoi_core.specs.Answer.{parse_answer, parse_prefix_answer}
use Rattle.atoi_core.specs.Sign.{sign_of}
use Rattle.atoi_core.specs.Text.{SignMark, no_sign, plus, minus, sign_bytes, TextWrites, BeginsWithDigit}
use Rattle.atoi_core.specs.Laws.{AcceptedTexts, PrefixBegins, PrefixIsWhole, looked_for}
use Rattle.atoi_core.specs.Words.{word_of}
use Rattle.atoi_core.proofs.lemmas.LoadedWords.{fits_after}
use Rattle.atoi_column.specs.Fields.{is_separator}
use Rattle.atoi_column.specs.FieldItems.{cut_of}
use Rattle.atoi_column.specs.FirstField.{after_separator, after_field, IsAcceptedField}
use Rattle.atoi_column.specs.Laws.{FieldsArePrefixes}
use Rattle.atoi_column.proofs.lemmas.Items.{drop_first}

abbrev last_byte : List ℕ → ℕ
last_byte xs = get_or xs (length xs - 1) 0

last_byte-cons : (x : ℕ) (xs : List ℕ) → 0 < length xs → last_byte (x ∷ xs) ≡ last_byte xs
last_byte-cons x xs some = let i : length (x ∷ xs) - 1 ≡ suc (length xs - 1) = omega arith in rw i refl

last_digit : (digits : List ℕ) → 0 < length digits → AllDigits 10 digits → digit_value (last_byte digits) < 10
last_digit [] some all = absurd (omega arith)
last_digit (c ∷ []) some all = all.0
last_digit (c ∷ d ∷ digits) some all = rw (last_byte-cons c (d ∷ digits) (omega arith)) (last_digit (d ∷ digits) (omega arith) all.1)

last_of_text : (sign : SignMark) (digits : List ℕ) → 0 < length digits
    → AllDigits 10 digits → digit_value (last_byte (sign_bytes sign ++ digits)) < 10
last_of_text no_sign digits some all = last_digit digits some all
last_of_text plus digits some all = rw (last_byte-cons 43 digits some) (last_digit digits some all)
last_of_text minus digits some all = rw (last_byte-cons 45 digits some) (last_digit digits some all)

cut_of_text : {int : IntType} {text : List ℕ} {number : ℤ} (is_lines : Bool) → TextWrites int true text number → cut_of is_lines text ≡ text
cut_of_text false writes = refl
cut_of_text {int} {text} {number} true writes =
    let digit : digit_value (last_byte text) < 10 =
    rw writes.parts (last_of_text writes.sign writes.digits writes.written.numeral.0 writes.written.numeral.1) in
    let apart : last_byte text ≢ 13 =
    λ same. let none : digit_value 13 < 10 = subst (λ byte. digit_value byte < 10) same digit in omega arith in
    rw (ne_eqb _ _ apart) refl

separator_then : {separator : ℕ} {following : List ℕ} (bytes : List ℕ)
    → after_separator separator bytes ≡ Some following → bytes ≡ separator ∷ following
separator_then [] end = absurd (cc end)
separator_then {separator} {following} (byte ∷ bytes) end =
    elim (eqb_tells byte separator) [
      | inl same ↦ let next : Some bytes ≡ Some following = rw same.0 at end in cc
      | inr other ↦ let none : None ≡ Some following = rw other.0 at end in absurd (cc)
    ]

pub ok_is : {T E : Type 0} (result : Result T E) {value : T} → result_ok result ≡ Some value → result ≡ Ok value
ok_is result same = grind arith

-- A number that is found is found if a plus is allowed, too.
body_of_plus : (signed : Bool) (bytes : List ℕ) → (sign_of signed false (43 ∷ bytes)).body ≡ 43 ∷ bytes
body_of_plus signed bytes = grind arith

pub with_plus : (int : IntType) (plus : Bool) {found : ℤ × ℕ} → PrefixBegins int
    → (rest : List ℕ) → parse_prefix_answer int true plus rest ≡ Ok found
    → parse_prefix_answer int true true rest ≡ Ok found
with_plus int true begins rest answer = answer
with_plus int false begins [] answer = answer
with_plus int false {found} begins (byte ∷ bytes) answer =
    elim (eqb_tells byte 43) [
      | inl same ↦
          let digit : BeginsWithDigit (sign_of int.signed false (43 ∷ bytes)).body =
          begins (looked_for false) true (43 ∷ bytes) found (rw same.1 at answer) in
          let none : BeginsWithDigit (43 ∷ bytes) = rw body_of_plus at digit in
          absurd (omega (arith, none))
      | inr other ↦ rw other.0 answer
    ]

pub text_with_plus : {int : IntType} {takes_plus : Bool} {text : List ℕ} {number : ℤ}
    → TextWrites int takes_plus text number → TextWrites int true text number
text_with_plus writes = record {
  sign = writes.sign;
  digits = writes.digits;
  parts = writes.parts;
  signed = writes.signed;
  plus_taken = λ _. refl;
  written = writes.written;
}

-- The number at the start of `rest`, which `count` bytes write.
pub record HasNumber (int : IntType) (separator : ℕ) (rest : List ℕ) (number : ℤ) (count : ℕ) : Type 0 where
  pub within : count ≤ position_or_len (λ byte. byte == separator) rest
  pub written : TextWrites int true (take count rest) number
  pub texts : AcceptedTexts int

module _ {int : IntType} {separator : ℕ} {rest : List ℕ} {number : ℤ} {count : ℕ}
    (is_lines : Bool) (has : HasNumber int separator rest number count) where
  abbrev ends : ℕ → Bool
  ends byte = byte == separator

  accepted_at_end : {following : List ℕ} → drop count rest ≡ [] → following ≡ []
      → IsAcceptedField int is_lines separator rest number following
  accepted_at_end cut none =
      let within = has.within in
      let left = prefix_len-le-length (λ byte. not (ends byte)) rest in
      let all : length rest ≤ count = omega (arith, length-drop count rest, ap length cut) in
      let end : position_or_len ends rest ≡ length rest = omega arith in
      record {
        accepted = rw (eq-eqb _ _ end) (has.texts.number rest number (rw (take_all count rest all) at has.written));
        after = none ∙ sym (drop_all (position_or_len ends rest + 1) rest (omega arith));
      }

  accepted_before : (byte : ℕ) (following : List ℕ) → drop count rest ≡ byte ∷ following → byte ≡ separator
      → IsAcceptedField int is_lines separator rest number following
  accepted_before byte following cut same =
      let first = drop_first count rest byte following cut in
      let within = has.within in
      let at : position_or_len ends rest ≡ count = grind (arith, nat_tests, first.1, fails_before_first ends rest count 0) in
      let apart : position_or_len ends rest ≢ length rest = omega (arith, first.0) in
      record {
        accepted = rw (ne_eqb _ _ apart, at, cut_of_text is_lines has.written) (has.texts.number (take count rest) number has.written);
        after = rw at (sym first.2);
      }

  -- A carriage return before the separator is cut.
  accepted_line : (following : List ℕ) → is_lines ≡ true → drop count rest ≡ 13 ∷ separator ∷ following → 13 ≢ separator
      → IsAcceptedField int is_lines separator rest number following
  accepted_line following cuts cut apart =
      let return = drop_first count rest 13 (separator ∷ following) cut in
      let first = drop_first (count + 1) rest separator following return.2 in
      let within = has.within in
      let at : position_or_len ends rest ≡ count + 1 = position_or_len_is ends rest (count + 1) 0 (omega arith)
      (λ k below. grind (arith, nat_tests, cases_lt k count, return.1, fails_before_first ends rest k 0)) (λ _. eq-eqb _ _ first.1) in
      let other : position_or_len ends rest ≢ length rest = omega (arith, first.0) in
      let line : length (take (count + 1) rest) ≡ count + 1 = length-take-le (count + 1) rest (omega (arith, first.0)) in
      let place : count + 1 - 1 ≡ count = omega arith in
      let last : last_byte (take (count + 1) rest) ≡ 13 = rw (line, place, get_or-take (count + 1) rest count 0 (omega arith)) return.1 in
      record {
        accepted = rw (ne_eqb _ _ other, at, cuts, eq-eqb _ _ last, line, place, take-take count (count + 1) rest (omega arith))
            (has.texts.number (take count rest) number has.written);
        after = rw at (sym first.2);
      }

  accepted_byte : (cuts : Bool) {byte : ℕ} {bytes following : List ℕ} → is_lines ≡ cuts → byte ≢ separator → drop count rest ≡ byte ∷ bytes
      → (if cuts && byte == 13 then after_separator separator bytes else None) ≡ Some following
      → IsAcceptedField int is_lines separator rest number following
  accepted_byte false cuts apart cut end = absurd (cc end)
  accepted_byte true {byte} {bytes} {following} cuts apart cut end =
      elim (eqb_tells byte 13) [
        | inl same ↦
            let next : bytes ≡ separator ∷ following = separator_then bytes (rw same.0 at end) in
            accepted_line following cuts (cc) (λ e. apart (same.1 ∙ e))
        | inr other ↦ let none : None ≡ Some following = rw other.0 at end in absurd (cc)
      ]

  pub accepted : {following : List ℕ} (tail : List ℕ) → drop count rest ≡ tail → after_field is_lines separator tail ≡ Some following
      → IsAcceptedField int is_lines separator rest number following
  accepted [] cut end = accepted_at_end cut (cc)
  accepted {following} (byte ∷ bytes) cut end =
      elim (eqb_tells byte separator) [
        | inl same ↦
            let next : Some bytes ≡ Some following = rw same.0 at end in
            accepted_before byte following (cc) same.1
        | inr apart ↦ accepted_byte is_lines refl apart.1 cut (rw apart.0 at end)
      ]

-- A text at the start of the bytes has no separator in it.
pub text_within : {int : IntType} (separator : ℕ) (rest : List ℕ) (count : ℕ) {number : ℤ} → FieldsArePrefixes int → PrefixIsWhole int
    → is_separator separator ≡ true → count ≤ length rest → parse_answer int true true (take count rest) ≡ Ok number
    → count ≤ position_or_len (λ byte. byte == separator) rest
text_within {int} separator rest count {number} law whole separates fits answer =
    let ends : ℕ → Bool = λ byte. byte == separator in
    let text : List ℕ = take count rest in
    let prefix : parse_prefix_answer int true true text ≡ Ok (number, length text) =
    whole.back (looked_for true) true text number (inl refl) answer in
    let few : length text ≤ position_or_len ends text = (law separator separates text).within number (length text) prefix in
    let len : length text ≡ count = length-take-le count rest fits in
    elim (leb_tells count (position_or_len ends rest)) [
      | inl enough ↦ enough.1
      | inr past ↦
          let first : ℕ = position_or_len ends rest in
          let passes : ends (get_or rest first 0) ≡ true = passes_at_first ends rest 0 (omega (arith, past.1)) in
          let fails : ends (get_or text first 0) ≡ false = fails_before_first ends text first 0 (omega (arith, past.1)) in
          let same : get_or text first 0 ≡ get_or rest first 0 = get_or-take count rest first 0 past.1 in
          absurd (false≢true (sym fails ∙ (ap ends same ∙ passes)))
    ]

-- A text before what ends a field is the field.
pub accepted_text : {int : IntType} (is_lines : Bool) (separator : ℕ) (rest : List ℕ) (count tail : ℕ) {ends : ℕ} {number : ℤ}
    → FieldsArePrefixes int → PrefixIsWhole int → AcceptedTexts int → is_separator separator ≡ true
    → ((bytes : List ℕ) → ((i : ℕ) → get_or bytes i 0 < 256) → tail ≤ length bytes → word_of (take tail bytes) ≡ ends
    → after_field is_lines separator bytes ≡ Some (drop tail bytes))
    → ((i : ℕ) → get_or rest i 0 < 256) → count + tail ≤ length rest → TextWrites int true (take count rest) number
    → word_of (take tail (drop count rest)) ≡ ends → IsAcceptedField int is_lines separator rest number (drop (count + tail) rest)
accepted_text is_lines separator rest count tail law whole texts separates end fits within written is =
    let room : tail ≤ length (drop count rest) = omega (arith, length-drop count rest) in
    let following = end (drop count rest) (fits_after count rest fits) room is in
    accepted is_lines (record {
      within = text_within separator rest count law whole separates (omega arith) (texts.number (take count rest) _ written);
      written = written;
      texts = texts;
    }) _ refl (following ∙ ap (λ bytes. Some bytes) (drop-drop tail count rest))

-- A number of one byte before a separator is the number at the start.
pub one_digit_prefix : {int : IntType} {separator : ℕ} (rest : List ℕ) {following : List ℕ} {number : ℤ}
    → FieldsArePrefixes int → PrefixIsWhole int → AcceptedTexts int
    → is_separator separator ≡ true → TextWrites int true (take 1 rest) number → drop 1 rest ≡ separator ∷ following
    → parse_prefix_answer int true true rest ≡ Ok (number, 1)
one_digit_prefix {int} {separator} rest {following} {number} law whole texts separates written cut =
    let ends : ℕ → Bool = λ byte. byte == separator in
    let first = drop_first 1 rest separator following cut in
    let answer : parse_answer int true true (take 1 rest) ≡ Ok number = texts.number (take 1 rest) number written in
    let within : 1 ≤ position_or_len ends rest = text_within separator rest 1 law whole separates (omega (arith, first.0)) answer in
    let at : position_or_len ends rest ≡ 1 = grind (arith, nat_tests, first.1, fails_before_first ends rest 1 0) in
    rw at at ((law separator separates rest).to_prefix number (rw at answer))
