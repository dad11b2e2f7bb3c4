-- A first window without zeros to skip decides, if full with the bytes after it.
use Rattle.std.proofs.Common.{◌≡◌, ◌⊎◌, ◌<◌, ◌≤◌, true, false, inl, inr, refl, ◌∙◌, [], drop, arith, lit<}
use Rattle.std.proofs.lemmas.List.{drop_all}
use Rattle.std.proofs.lemmas.List.Sums.{prefix_len-le-length}
use Rattle.atoi_core.specs.Digit.{decimal_table, is_digit}
use Rattle.atoi_core.proofs.lemmas.Runs.{decimal_below_ten}
use Rattle.atoi_core.proofs.lemmas.Windows.{Shows, Skipped, Skipped-at_once, Skipped-first, Skipped-full, Skipped-loads, Skipped-short, shows, shows_rest}
use Rattle.atoi_core.proofs.lemmas.LoopAnswers.{answers_short, answers_two}
use Rattle.atoi_fast.proofs.lemmas.FullWindows.{after_32}
use Rattle.atoi_fast.proofs.swar.SwarEngine.prefix_128.Goals as goal
use Rattle.atoi_fast.proofs.swar.SwarEngine.prefix_128.Goals.{After-window-first, After-window-second}

pub returns-then-s-lt16 : goal.returns-then-s-lt16
returns-then-s-lt16 c =
    let after_skip = Skipped-short decimal_below_ten c.args.skip c.args.s.now c.window-only.ensures.window
    c.window-only.ensures.one_step (omega (arith, c.if-s-lt16.true)) in
    let few : c.window-only.result.len < 16 =
    omega (arith, c.if-s-lt16.true, after_skip.window.len_is, prefix_len-le-length (is_digit decimal_table) c.args.s.now) in
    record {
      answer = c.found_or_empty.ensures
          ∙ answers_short _ _ _ {len = c.window-only.result.len} (lit< tt) after_skip
          few (lit< tt) c.requires.digits c.from.ensures (omega arith);
      loads = Skipped-loads after_skip 0 (omega arith) (omega arith);
    }

pub returns-then-first-lt16 : goal.returns-then-first-lt16
returns-then-first-lt16 c =
    let after_skip = Skipped-first decimal_below_ten c.args.skip c.args.s.now
    c.window-first.ensures.window c.window-first.ensures.one_step c.if-first-lt16.true in
    record {
      answer = c.found_or_empty-then-first-lt16.ensures
          ∙ answers_short _ _ _ {len = c.window-first.result.len} (lit< tt) after_skip
          c.if-first-lt16.true (lit< tt) c.requires.digits c.from-then-first-lt16.ensures (omega arith);
      loads = Skipped-loads after_skip 0 (omega arith) (omega arith);
    }

-- If zeros are not skipped, or the first window reports none.
last : (c : After-window-first) → (c.args.skip ≡ true × c.window-first.result.zeroes ≤ 0) ⊎ (c.args.skip ≡ false)
    → Skipped decimal_table c.args.skip c.args.s.now 0 c.args.steps.now c.window-first.new.steps c.window-first.result
last c stops =
    Skipped-at_once decimal_below_ten c.args.skip c.args.s.now c.window-first.ensures.window c.window-first.ensures.one_step
    (elim stops [ inl h ↦ inr (h.0, omega (arith, h.1)) | inr h ↦ inl h ])

pub returns-then-s-eq16 : goal.returns-then-s-eq16
returns-then-s-eq16 c =
    let s = c.args.s.now in
    let after_skip = last (goal.at.returns-then-s-eq16 c).After-window-first c.else-skip.either in
    let none : drop 16 s ≡ [] = drop_all 16 s (omega arith) in
    let nothing : Shows decimal_table 16 (drop 16 s) (record { len = 0; zeroes = 0; number = 0 }) =
    shows decimal_below_ten 16 (drop 16 s) (rw none refl) in
    record {
      answer = answers_two decimal_below_ten _ after_skip c.if-first-lt16.false nothing
          (lit< tt) c.requires.digits (omega (arith, c.from-then-s-eq16.ensures)) refl;
      loads = Skipped-loads after_skip 0 (omega arith) (omega arith);
    }

pub slice_bounds-window-start : goal.slice_bounds-window-start
slice_bounds-window-start c =
    Skipped-full (last (goal.at.slice_bounds-window-start c).After-window-first c.else-skip.either) c.if-first-lt16.false

pub slice_bounds-window-count : goal.slice_bounds-window-count
slice_bounds-window-count c = slice_bounds-window-start c

second : (c : After-window-second) → Shows decimal_table 16 (drop 16 c.args.s.now) c.window-second.result
second c = shows_rest decimal_below_ten 16 c.args.s.now 16 c.window-second.ensures.window

pub returns-then-second-lt16 : goal.returns-then-second-lt16
returns-then-second-lt16 c =
    let at = goal.at.returns-then-second-lt16 c in
    let after_skip = last at.After-window-first c.else-skip.either in
    record {
      answer = answers_two decimal_below_ten _ after_skip c.if-first-lt16.false (second at.After-window-second) c.if-second-lt16.true
          c.requires.digits c.append_digits-number.ensures (omega arith);
      loads = Skipped-loads after_skip 1 (omega (arith, c.window-second.ensures.one_step)) (omega arith);
    }

pub answer_after_32-requires : goal.answer_after_32-requires
answer_after_32-requires c =
    let at = goal.at.answer_after_32-requires c in
    let next = second at.After-window-second in
    let known = after_32 c.args.bound (last at.After-window-first c.else-skip.either)
    c.if-first-lt16.false next c.if-second-lt16.false 16 (omega (arith, next.len_is)) c.append_digits-high.ensures in
    record { digits = c.requires.digits; below = known.0; inside = known.1 }

pub returns : goal.returns
returns c =
    let at = goal.at.returns c in
    let next = second at.After-window-second in
    let after_skip = last at.After-window-first c.else-skip.either in
    record {
      answer = c.answer_after_32.ensures.answer
          ∙ (after_32 c.args.bound after_skip c.if-first-lt16.false next c.if-second-lt16.false 16 (omega (arith, next.len_is))
          c.append_digits-high.ensures).2;
      loads = Skipped-loads after_skip 2 (omega (arith, c.window-second.ensures.one_step, c.answer_after_32.ensures.one_step))
          (omega arith);
    }
