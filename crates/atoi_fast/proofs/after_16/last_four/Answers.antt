-- If the last four bytes are digits, all are, and the number is the value of the bytes after the first 16.
use Rattle.std.proofs.Common.{◌≡◌, ℕ, ◌+◌, ◌-◌, List, length, take, drop, ap, sym, ◌∙◌, arith, drop-drop, get_or-drop, length-drop, take_all}
use Rattle.atoi_core.specs.Digit.{decimal_table, is_digit}
use Rattle.atoi_core.specs.Run.{run_len, value}
use Rattle.atoi_core.specs.Words.{low_bytes, low_value, word_of}
use Rattle.atoi_core.proofs.lemmas.LoadedWords.{loaded_bytes, low_value_is}
use Rattle.atoi_core.proofs.lemmas.Runs.{prefix_len-drop}
use Rattle.atoi_fast.proofs.after_16.last_four.Goals as goal
use Rattle.atoi_fast.proofs.after_16.last_four.Goals.{After-load_last_four-word}

-- The word has the last four bytes, with which the run ends.
loaded : (c : After-load_last_four-word) → let s : List ℕ = c.args.s.now in
    let bytes : List ℕ = low_bytes 4 c.load_last_four-word.result in
    (bytes ≡ drop (length s - 4) s) × (run_len decimal_table s ≡ length s - 4 + run_len decimal_table bytes)
loaded c =
    let s : List ℕ = c.args.s.now in
    let last : List ℕ = drop (length s - 4) s in
    let four : length last ≡ 4 = omega (arith, length-drop (length s - 4) s) in
    let all : take 4 last ≡ last = take_all 4 last (omega arith) in
    let is : low_bytes 4 c.load_last_four-word.result ≡ last =
    loaded_bytes 4 last (λ i. rw get_or-drop ((c.type_inv.s (length s - 4 + i)).fits)) c.load_last_four-word.result
    (c.load_last_four-word.ensures ∙ ap word_of (sym all)) (omega arith) ∙ all in
    (is, rw is (prefix_len-drop (is_digit decimal_table) (length s - 4) s (omega arith)))

pub returns-then-leading_digits_of_four-lt4 : goal.returns-then-leading_digits_of_four-lt4
returns-then-leading_digits_of_four-lt4 c =
    let found = loaded (goal.at.returns-then-leading_digits_of_four-lt4 c).After-load_last_four-word in
    omega (arith, found.1, c.leading_digits_of_four.ensures.len)

pub returns : goal.returns
returns c =
    let s : List ℕ = c.args.s.now in
    let found = loaded (goal.at.returns c).After-load_last_four-word in
    let whole : run_len decimal_table s ≡ length s = omega (arith, found.1, c.leading_digits_of_four.ensures) in
    let rest : List ℕ = drop 16 s in
    let offset : length s - 4 + (20 - length s) ≡ 16 = omega arith in
    let digits : run_len decimal_table s ≡ 16 + run_len decimal_table rest = prefix_len-drop (is_digit decimal_table) 16 s (omega arith) in
    let all : take (length rest) rest ≡ rest = take_all (length rest) rest (omega arith) in (
      whole,
      c.value_after.ensures
          ∙ ap (λ bytes. low_value (drop (20 - length s) bytes)) found.0
          ∙ ap low_value (drop-drop (20 - length s) (length s - 4) s ∙ ap (λ n. drop n s) offset ∙ sym all)
          ∙ low_value_is (length rest) rest (omega (arith, whole, digits, length-drop 16 s)) ∙ ap (value decimal_table) all,
    )
