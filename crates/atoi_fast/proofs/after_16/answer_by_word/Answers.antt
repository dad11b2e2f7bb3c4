-- The word of the four bytes after 16 shows whether a digit follows them, and has up to four.
use Rattle.std.proofs.Common.{◌≡◌, ℕ, ◌+◌, ◌-◌, ◌*◌, ◌^◌, ◌≤◌, List, length, min, take, drop, ◌<◌, sym, ◌∙◌, refl, arith, ltb-false, ltb-true, ne_eqb, le-ltb, lt-ltb}
use Rattle.std.proofs.Math.Nat.{pow-le-pow_right, zero-add}
use Rattle.std.proofs.lemmas.List.{get_or-drop, take_rest}
use Rattle.std.proofs.lemmas.List.Sums.{prefix_len-le-length}
use Rattle.atoi_core.specs.Digit.{decimal_table, is_digit}
use Rattle.atoi_core.specs.Run.{run_len, value}
use Rattle.atoi_core.specs.Words.{low_bytes, low_value}
use Rattle.atoi_core.proofs.lemmas.LoadedWords.{loaded_part}
use Rattle.atoi_core.proofs.lemmas.Runs.{prefix_len-drop, value-take-add}
use Rattle.atoi_fast.proofs.lemmas.After16.{by_digits, counted_after, ended_at_16}
use Rattle.atoi_fast.proofs.after_16.answer_by_word.Goals as goal
use Rattle.atoi_fast.proofs.after_16.answer_by_word.Goals.{After-leading_digits_of_four-more}

pub returns-then-not-starts_with_digit_of_four : goal.returns-then-not-starts_with_digit_of_four
returns-then-not-starts_with_digit_of_four c =
    let r = c.requires in
    let more = counted_after 4 16 _ _ (λ i. (c.type_inv.s i).fits) r.full c.load_four_from-word.ensures in
    let none = ltb-false 0 _ (sym c.starts_with_digit_of_four.ensures ∙ c.if-not-starts_with_digit_of_four.true) in
    ended_at_16 c.args.bound c.args.limit c.args.s.now c.args.high r.bound.low r.bound.high r.bound.digits
    (omega (arith, more, none)) r.number

-- A digit follows the first 16.
has_more : (c : After-leading_digits_of_four-more) → 17 ≤ run_len decimal_table c.args.s.now
has_more c =
    let more = counted_after 4 16 _ _ (λ i. (c.type_inv.s i).fits) c.requires.full c.load_four_from-word.ensures in
    omega (arith, more, ltb-true 0 _ (sym c.starts_with_digit_of_four.ensures ∙ c.if-not-starts_with_digit_of_four.false))

-- How many digits follow the first 16, at most 4.
following : (c : After-leading_digits_of_four-more) → let s : List ℕ = c.args.s.now in
    let more : ℕ = c.leading_digits_of_four-more.result in
    (more ≡ min 4 (run_len decimal_table s - 16))
    × ((len low : ℕ) → len ≤ more → low ≡ low_value (low_bytes len c.load_four_from-word.result)
    → c.args.high * 10 ^ len + low ≡ value decimal_table (take (16 + len) s))
following c =
    let s : List ℕ = c.args.s.now in
    let full = has_more c in
    let more = c.leading_digits_of_four-more.ensures.len
    ∙ counted_after 4 16 s c.load_four_from-word.result (λ i. (c.type_inv.s i).fits) (omega (arith, full))
    c.load_four_from-word.ensures in (
      more,
      λ len low few low_is.
          let room : 16 + len ≤ length s = omega (arith, more, full, prefix_len-le-length (is_digit decimal_table) s) in
          let value_is = low_is ∙ loaded_part 4 (drop 16 s) (λ i. rw get_or-drop ((c.type_inv.s (16 + i)).fits)) _
          c.load_four_from-word.ensures len (omega (arith, few, c.leading_digits_of_four-more.ensures.len)) in
          rw (c.requires.number, value_is) (sym (value-take-add decimal_table 16 len s room)),
    )

-- If four follow, there are 20.
twenty : (c : After-leading_digits_of_four-more) → c.leading_digits_of_four-more.result ≡ 4 → 20 ≤ run_len decimal_table c.args.s.now
twenty c four = omega (arith, (following c).0, has_more c, four)

inside : (c : After-leading_digits_of_four-more) → c.leading_digits_of_four-more.result ≡ 4 → 20 ≤ length c.args.s.now
inside c four = omega (arith, twenty c four, prefix_len-le-length (is_digit decimal_table) c.args.s.now)

pub slice_bounds-starts_with_digit-count : goal.slice_bounds-starts_with_digit-count
slice_bounds-starts_with_digit-count c =
    inside (goal.at.slice_bounds-starts_with_digit-count c).After-leading_digits_of_four-more c.if-more-eq4.true

pub slice_bounds-starts_with_digit-start : goal.slice_bounds-starts_with_digit-start
slice_bounds-starts_with_digit-start c = slice_bounds-starts_with_digit-count c

pub returns-then-limit-lt20 : goal.returns-then-limit-lt20
returns-then-limit-lt20 c =
    let s : List ℕ = c.args.s.now in
    let full = twenty (goal.at.returns-then-limit-lt20 c).After-leading_digits_of_four-more c.if-more-eq4.true in
    let more : ℕ = c.leading_digits-more.result in
    let counted : more ≡ min 8 (run_len decimal_table s - 16) =
    c.leading_digits-more.ensures.len
    ∙ counted_after 8 16 s _ (λ i. (c.type_inv.s i).fits) (omega (arith, full)) c.load_from.ensures in
    let many : c.args.limit < 16 + more =
    elim c.then-limit-lt20.branch [
      | goal.then-limit-lt20-via-then-limit-lt20 w ↦ omega (arith, w.if-limit-lt20.true, full)
      | goal.then-limit-lt20-via-else-limit-lt20+then-starts_with_digit w ↦
          (let next : 0 < run_len decimal_table (drop 20 s) =
          rw take_rest at (ltb-true 0 _ (sym w.starts_with_digit.ensures ∙ w.if-starts_with_digit.true)) in
          omega (arith, c.requires.bound.high, next, prefix_len-drop (is_digit decimal_table) 20 s full))
    ] in
    let counts : min (16 + more) 24 ≡ 16 + more = omega (arith, c.leading_digits-more.ensures.most) in
    rw (counts, zero-add (16 + more), ne_eqb (16 + more) 0 (omega arith), lt-ltb c.args.limit (16 + more) many)
    at (by_digits c.args.bound c.args.limit s (16 + more) _ c.requires.bound.high (omega arith) refl).2

pub value_up_to_4-requires-2-clause-some : goal.value_up_to_4-requires-2-clause-some
value_up_to_4-requires-2-clause-some c =
    let at = (goal.at.value_up_to_4-requires-2-clause-some c).After-leading_digits_of_four-more in
    omega (arith, (following at).0, has_more at)

-- At most 19 digits.
fits : (c : After-leading_digits_of_four-more) → let more : ℕ = c.leading_digits_of_four-more.result in
    more < 4 → c.args.high * 10 ^ more + low_value (low_bytes more c.load_four_from-word.result) < 2 ^ 64
fits c few =
    let more : ℕ = c.leading_digits_of_four-more.result in
    let known = following c in
    let below = (by_digits c.args.bound c.args.limit c.args.s.now (16 + more) _
    c.requires.bound.high (omega (arith, known.0, few)) (known.1 more _ (omega arith) refl)).1 in
    let most : 10 ^ (16 + more) ≤ 10 ^ 19 = pow-le-pow_right {n = 10} (omega arith) {i = 16 + more} {j = 19} (omega arith) in
    omega (arith, below, most)

pub overflow_mul-number : goal.overflow_mul-number
overflow_mul-number c =
    let few : c.leading_digits_of_four-more.result < 4 = omega (arith, c.leading_digits_of_four-more.ensures.most, c.if-more-eq4.false) in
    rw c.power_of_ten.ensures.power (omega (arith, fits (goal.at.overflow_mul-number c).After-leading_digits_of_four-more few))

pub overflow_add-number : goal.overflow_add-number
overflow_add-number c =
    let few : c.leading_digits_of_four-more.result < 4 = omega (arith, c.leading_digits_of_four-more.ensures.most, c.if-more-eq4.false) in
    rw (c.power_of_ten.ensures.power, c.from-2.ensures, c.value_up_to_4-2.ensures)
    (omega (arith, fits (goal.at.overflow_add-number c).After-leading_digits_of_four-more few))

pub returns-then-more-eq4 : goal.returns-then-more-eq4
returns-then-more-eq4 c =
    let s : List ℕ = c.args.s.now in
    let at = (goal.at.returns-then-more-eq4 c).After-leading_digits_of_four-more in
    let full = twenty at c.if-more-eq4.true in
    let none = rw take_rest at (ltb-false 0 _ (sym c.starts_with_digit.ensures ∙ c.if-starts_with_digit.false)) in
    let number : c.append_digits-number.result ≡ value decimal_table (take 20 s) =
    c.append_digits-number.ensures
    ∙ (following at).1 4 c.from.result (omega (arith, c.if-more-eq4.true)) (c.from.ensures ∙ c.value_up_to_4.ensures) in
    let after_20 : run_len decimal_table s ≡ 20 + run_len decimal_table (drop 20 s) = prefix_len-drop (is_digit decimal_table) 20 s full in
    let known = by_digits c.args.bound c.args.limit s 20 c.append_digits-number.result c.requires.bound.high
    (omega (arith, none, after_20)) number in
    c.within_bound.ensures ∙ (rw (le-ltb c.args.limit 20 (omega (arith, c.if-limit-lt20.false))) at known.2)

pub answer_64-requires : goal.answer_64-requires
answer_64-requires c =
    let at = (goal.at.answer_64-requires c).After-leading_digits_of_four-more in
    record { inside = omega (arith, (following at).0, has_more at, prefix_len-le-length (is_digit decimal_table) c.args.s.now) }

pub returns : goal.returns
returns c =
    let more : ℕ = c.leading_digits_of_four-more.result in
    let known = following (goal.at.returns c).After-leading_digits_of_four-more in
    let spelled = known.1 more c.from-2.result (omega arith) (c.from-2.ensures ∙ c.value_up_to_4-2.ensures) in
    let few : more < 4 = omega (arith, c.leading_digits_of_four-more.ensures.most, c.if-more-eq4.false) in
    c.answer_64.ensures
    ∙ (by_digits c.args.bound c.args.limit c.args.s.now (16 + more) c.from-3.result c.requires.bound.high (omega (arith, known.0, few))
    ((rw c.power_of_ten.ensures.power at c.from-3.ensures) ∙ spelled)).2
