use Rattle.std.proofs.Common.{ℕ, ◌<◌, ◌∙◌, get_or, refl, arith}
use Rattle.atoi_column.proofs.lemmas.Widths.{ended_by, shifted_value, unmarked, value_in_word}
use Rattle.atoi_column.proofs.words.number_before.Goals as goal

pub sum_of_shifted-requires-clause-halves : goal.sum_of_shifted-requires-clause-halves
sum_of_shifted-requires-clause-halves c =
    let r = c.requires in
    (shifted_value c.args.width c.args.end_len r.some r.few c.args.end_word c.in_ok-word.word _ (omega arith) r.fits refl _ _ refl refl
    c.if-above-shift-ne0.false _ refl).0

pub returns : goal.returns
returns c =
    let r = c.requires in
    let none = c.if-above-shift-ne0.false in
    let word = c.in_ok-word.word in
    let loaded = c.in_ok-word.ensures.word in
    let bytes : (i : ℕ) → get_or c.args.s.now i 0 < 256 = λ i. (c.type_inv.s i).fits in
    let run = unmarked c.args.width c.args.end_len r.some r.few c.args.end_word word _ (omega arith) r.fits refl _ _ refl refl none in
    let sum =
    shifted_value c.args.width c.args.end_len r.some r.few c.args.end_word word _ (omega arith) r.fits refl _ _ refl refl none _ refl in
    let found = value_in_word c.args.width c.args.s.now bytes word _ loaded run (c.sum_of_shifted.ensures.sum ∙ sum.1) in
    record {
      run = found.0;
      value = found.1;
      ends = ended_by c.args.width c.args.end_len r.some r.few c.args.end_word word _
          (omega arith) r.fits refl _ _ refl refl none c.args.s.now bytes loaded;
      most = c.sum_of_shifted.ensures.most;
    }
