-- What is read of an array, and what can be left of it.
use Rattle.std.proofs.Common.{◌≡◌, ◌≢◌, ℕ, ◌+◌, ◌*◌, ◌^◌, ◌≤◌, IsFalse, List, ◌++◌, length, length-append, ℤ, pos, neg_ℤ, ◌+ℤ◌, ◌≤ℤ◌, FitsSigned, w64, codes, refl, sym, ap, subst, ◌∙◌, arith}
use Rattle.std.proofs.lemmas.Int.{ints}
use Rattle.atoi_core.specs.IntType.{i64_type}
use Rattle.atoi_formats.specs.Formats.{IsJsonInteger, HasJsonInteger, goes_on}
use Rattle.atoi_uses.specs.Arrays.{HasTotal, last, more}

-- `text` adds up to `total` and what `left` adds up to, and only if `left` adds up to something.
pub record HasRead (text left : List ℕ) (total : ℤ) : Type 0 where
  pub adds : (others : ℤ) (rest : List ℕ) → HasTotal left others rest → HasTotal text (total +ℤ others) rest
  pub others : (sum : ℤ) (rest : List ℕ) → HasTotal text sum rest → (others : ℤ) × HasTotal left others rest
  pub count : ℕ
  pub within : count + length left ≤ length text
  pub above : neg_ℤ (pos (2 ^ 63 * count)) ≤ℤ total
  pub below : total ≤ℤ pos (2 ^ 63 * count)

-- Without a number, there is no total.
pub no_number : {text : List ℕ} → ((number : ℤ) (bytes rest : List ℕ) → IsJsonInteger i64_type bytes number → IsFalse (goes_on rest)
    → ¬ (text ≡ bytes ++ rest)) → {total : ℤ} {rest : List ℕ} → ¬ HasTotal text total rest
no_number none (last bytes is parts) = none _ bytes _ is refl parts
no_number none (more bytes next number is parts others total_is) = none number bytes _ is refl parts

-- The number at the start, in one way, and no `]` after it.
pub record IsNotLast (text : List ℕ) (found : ℤ) (tail : List ℕ) : Type 0 where
  pub only : (number : ℤ) (bytes rest : List ℕ) → IsJsonInteger i64_type bytes number → IsFalse (goes_on rest)
      → text ≡ bytes ++ rest → (number ≡ found) × (rest ≡ tail)
  pub no_end : (rest : List ℕ) → tail ≢ codes "]" ++ rest

-- Others follow such a number.
pub others_follow : {text tail : List ℕ} {found : ℤ} → IsNotLast text found tail → {total : ℤ} {rest : List ℕ} → HasTotal text total rest
    → (others : ℤ) × ((next : List ℕ) × ((tail ≡ codes ", " ++ next) × HasTotal next others rest))
others_follow is (last bytes written parts) = absurd (is.no_end _ (sym (is.only _ bytes _ written refl parts).1))
others_follow is (more {others = others} bytes next number written parts left total_is) =
    (others, (next, (sym (is.only number bytes _ written refl parts).1, left)))

pub read_more : {text left tail : List ℕ} {total number : ℤ} → HasRead text left total → HasJsonInteger i64_type left number tail
    → FitsSigned w64 number → IsNotLast left number tail → (next : List ℕ) → tail ≡ codes ", " ++ next → HasRead text next (total +ℤ number)
read_more {text} {left} {tail} {total} {number} read json fits is next comma =
    let parts : left ≡ json.bytes ++ (codes ", " ++ next) = json.parts ∙ ap (λ tail. json.bytes ++ tail) comma in
    record {
      adds = λ others rest has.
          let all = read.adds (number +ℤ others) rest (more json.bytes next number json.written parts has refl) in
          let same : total +ℤ (number +ℤ others) ≡ (total +ℤ number) +ℤ others = omega (arith, ints) in
          subst (λ sum. HasTotal text sum rest) same all;
      others = λ sum rest has.
          let found = others_follow is (read.others sum rest has).1 in
          let same : found.1.0 ≡ next = cc (comma, found.1.1.0) in
          (found.0, subst (λ text. HasTotal text found.0 rest) same found.1.1.1);
      count = read.count + 1;
      within = omega (arith, read.within, ap length parts, length-append json.bytes (codes ", " ++ next));
      above = omega (arith, ints, read.above);
      below = omega (arith, ints, read.below);
    }
