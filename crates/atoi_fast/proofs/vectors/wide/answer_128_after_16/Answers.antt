-- The run ends at 16, in the 16 bytes after them, or in the 8 after these.
use Rattle.std.proofs.Common.{◌≡◌, ℕ, ◌+◌, ◌-◌, ◌*◌, ◌^◌, ◌<◌, ◌≤◌, ◌∙◌, false, length, drop, take, min, refl, sym, ap, arith, ltb-false}
use Rattle.std.proofs.lemmas.List.{length-drop, take_all, take_rest}
use Rattle.std.proofs.lemmas.List.Sums.{prefix_len-le-length}
use Rattle.atoi_core.specs.Digit.{decimal_table, is_digit}
use Rattle.atoi_core.specs.Magnitude.{wide128, prefix_magnitude}
use Rattle.atoi_core.specs.Reading.{Reading, answer_by_digits, window_of}
use Rattle.atoi_core.specs.Run.{run_len, value, zeros}
use Rattle.atoi_core.proofs.lemmas.Readings.{join_readings, within}
use Rattle.atoi_core.proofs.lemmas.Runs.{prefix_len-drop}
use Rattle.atoi_fast.proofs.lemmas.VectorAnswers.{decided_full, ended_in_32, reading_of_run, reading_of_window, start}
use Rattle.atoi_fast.proofs.vectors.wide.answer_128_after_16.Goals as goal
use Rattle.atoi_fast.proofs.vectors.wide.answer_128_after_16.Goals.{After-read_window-second}

pub returns-then-s-eq16-clause-answer : goal.returns-then-s-eq16-clause-answer
returns-then-s-eq16-clause-answer c =
    let s = c.args.s.now in
    let ends : 16 ≡ min 32 (run_len decimal_table s) =
    omega (arith, c.requires.full, c.if-s-eq16.true, prefix_len-le-length (is_digit decimal_table) s) in
    ended_in_32 c.args.bound c.requires.digits (reading_of_run 32 s {len = 16} ends c.requires.number)
    (omega arith) (omega arith) c.from.ensures c.if-s-eq16.true

pub returns-in-Some-clause-answer : goal.returns-in-Some-clause-answer
returns-in-Some-clause-answer c =
    let s = c.args.s.now in
    let rest = drop 16 s in
    let more = length s - 16 in
    let all = prefix_len-drop (is_digit decimal_table) 16 s c.requires.full in
    let first = reading_of_run 16 s {len = 16} (omega (arith, c.requires.full)) c.requires.number in
    let second = reading_of_run 16 rest {len = more} (omega (arith, all, c.in-Some.ensures.0, c.if-s-lt32.true))
    (c.in-Some.ensures.1 ∙ ap (value decimal_table) (sym (take_all more rest (omega (arith, length-drop 16 s))))) in
    ended_in_32 c.args.bound c.requires.digits (join_readings first second)
    (omega arith) (omega (arith, c.if-s-lt32.true)) c.append_digits.ensures
    (omega (arith, all, c.in-Some.ensures.0))

pub returns-then-not-starts_with_digit-clause-answer :
    goal.returns-then-not-starts_with_digit-clause-answer
returns-then-not-starts_with_digit-clause-answer c =
    let s = c.args.s.now in
    let none : run_len decimal_table (drop 16 s) ≤ 0 =
    ltb-false 0 _ (sym (rw take_rest at c.starts_with_digit.ensures) ∙ c.if-not-starts_with_digit.true) in
    let ends : 16 ≡ min 32 (run_len decimal_table s) = omega (arith, none, prefix_len-drop (is_digit decimal_table) 16 s c.requires.full) in
    ended_in_32 c.args.bound c.requires.digits (reading_of_run 32 s {len = 16} ends c.requires.number) (omega arith) (omega arith)
    c.from-then-not-starts_with_digit.ensures refl

-- The 16 bytes after the first 16.
following : (c : After-read_window-second) → let second = c.read_window-second.result in let rest = drop 16 c.args.s.now in
    Reading decimal_table 16 rest second.len (zeros decimal_table (take 16 rest)) second.number
following c = reading_of_window (rw take_rest at c.read_window-second.ensures)

pub append_digits-number-requires : goal.append_digits-number-requires
append_digits-number-requires c = omega (arith, within (following c))

pub returns-then-second-lt16-clause-answer : goal.returns-then-second-lt16-clause-answer
returns-then-second-lt16-clause-answer c =
    let s = c.args.s.now in
    let first = reading_of_run 16 s {len = 16} (omega (arith, c.requires.full)) c.requires.number in
    ended_in_32 c.args.bound c.requires.digits
    (join_readings first (following (goal.at.returns-then-second-lt16-clause-answer c).After-read_window-second)) (omega arith)
    (omega (arith, c.if-second-lt16.true)) c.append_digits-number.ensures refl

-- All 32 are digits.
decides : (c : After-read_window-second) (number : ℕ)
    → let second = c.read_window-second.result in let s = c.args.s.now in let back = window_of decimal_table 8 (drop 32 s) in
    number ≡ c.args.high * 10 ^ second.len + second.number → 16 ≤ second.len → (number < 10 ^ 32) × (32 ≤ length s)
    × (answer_by_digits wide128 c.args.bound 39 0 (32 + back.len) (number * 10 ^ back.len + back.number) s
    ≡ prefix_magnitude decimal_table wide128 c.args.bound 39 false s)
decides c number number_is full =
    let s = c.args.s.now in
    let first = reading_of_run 16 s {len = 16} (omega (arith, c.requires.full)) c.requires.number in
    rw number_is (decided_full c.args.bound (start false s)
    (join_readings first (following c)) (omega (arith, full)) (λ on. absurd (cc on)))

pub answer_after_32-requires : goal.answer_after_32-requires
answer_after_32-requires c =
    let known = decides (goal.at.answer_after_32-requires c).After-read_window-second _
    c.append_digits-number.ensures c.if-second-lt16.false in
    record { digits = c.requires.digits; below = known.0; inside = known.1 }

pub returns-clause-answer : goal.returns-clause-answer
returns-clause-answer c =
    c.answer_after_32.ensures.answer
    ∙ (decides (goal.at.returns-clause-answer c).After-read_window-second _ c.append_digits-number.ensures c.if-second-lt16.false).2
