-- The digits at the start of a text, as a prefix parse of its front finds them.
use Rattle.std.proofs.Common.{◌≡◌, ℕ, zero, suc, ◌+◌, ◌-◌, ◌<◌, ◌≤◌, min, List, [], ◌∷◌, ◌++◌, length, take, drop, sym, ap, ◌∙◌, arith, length-append, length-take-le}
use Rattle.std.proofs.Math.Seq.{drop-append_seam, take-append-add}
use Rattle.atoi_core.specs.Text.{BeginsWithDigit}
use Rattle.atoi_formats.specs.Formats.{AreLeading}

no_digit_in_front : (more : ℕ) (rest : List ℕ) → (0 < more → ¬ BeginsWithDigit rest) → ¬ BeginsWithDigit (take more rest)
no_digit_in_front zero rest ends begins = begins
no_digit_in_front (suc more) [] ends begins = begins
no_digit_in_front (suc more) (byte ∷ rest) ends begins = ends (omega (arith)) begins

module _ {text digits rest : List ℕ} {least most : ℕ} (leading : AreLeading digits rest least most) (parts : text ≡ digits ++ rest)
    {size : ℕ} (size_is : size ≡ min (length text) most) where
  abbrev pub tail : List ℕ
  tail = take (size - length digits) rest

  lengths : length text ≡ length digits + length rest
  lengths = ap (λ bytes. length bytes) parts ∙ length-append digits rest

  -- The front of the text has the digits, and no digit after them.
  pub front : take size text ≡ digits ++ tail
  front =
      let long : length digits + (size - length digits) ≡ size = omega (arith, leading.at_most, size_is, lengths) in
      ap (λ bytes. take size bytes) parts ∙ ap (λ count. take count (digits ++ rest)) (sym long)
      ∙ take-append-add digits rest (size - length digits)

  pub ends : ¬ BeginsWithDigit tail
  ends = no_digit_in_front (size - length digits) rest (λ some. leading.ends (omega (arith, size_is)))

-- A front that is as long as the digits.
pub count_of : (count : ℕ) (bytes digits : List ℕ) → count ≤ length bytes → take count bytes ≡ digits → count ≡ length digits
count_of count bytes digits le same = sym (length-take-le count bytes le) ∙ ap (λ taken. length taken) same

-- What follows them.
pub rest_of : (digits rest : List ℕ) {text : List ℕ} {count : ℕ} → text ≡ digits ++ rest → count ≡ length digits → rest ≡ drop count text
rest_of digits rest {text} {count} parts count_is = sym (rw (parts, count_is) (drop-append_seam digits rest))
