-- A line is at most one command.
use Rattle.std.proofs.Common.{◌≡◌, ◌≢◌, ℕ, true, List, drop, ℤ, refl, sym, ap, ◌∙◌, subst, arith}
use Rattle.std.specs.Prelude.{slice_index}
use Rattle.atoi_core.specs.IntType.{i64_type}
use Rattle.atoi_core.specs.Text.{TextWrites}
use Rattle.atoi_core.specs.Laws.{looked_for, OneNumber}
use Rattle.atoi_uses.specs.Commands.{HasWord, IsCommand}
use Rattle.atoi_uses.specs.declared.commands.Command.{Command}
use Rattle.atoi_uses.specs.declared.commands.Word.{Word}
use Rattle.atoi_uses.specs.declared.commands.Word.TheVariants.{Set, IncrBy}

first_apart : (line : List ℕ) (a b : ℕ) → slice_index line 0 ≡ a → slice_index line 0 ≡ b → a ≢ b → ⊥
first_apart line a b h k apart = apart (sym h ∙ k)

-- One word at most, and one text after it.
one_word : (line : List ℕ) (v w : Word) (s t : List ℕ) → HasWord line v s → HasWord line w t → (v ≡ w) × (s ≡ t)
one_word line Set Set s t h k = (refl, ap (drop 4) (sym h ∙ k))
one_word line Set IncrBy s t h k = absurd (first_apart line 83 73 (ap (λ l. slice_index l 0) h) (ap (λ l. slice_index l 0) k) (omega arith))
one_word line IncrBy Set s t h k = absurd (first_apart line 73 83 (ap (λ l. slice_index l 0) h) (ap (λ l. slice_index l 0) k) (omega arith))
one_word line IncrBy IncrBy s t h k = (refl, ap (drop 7) (sym h ∙ k))

-- A number after a word and a space is this command.
pub only_command : OneNumber i64_type → (line text : List ℕ) (word : Word) (number : ℤ) → HasWord line word text
    → TextWrites i64_type true text number
    → (command : Command) → IsCommand line command → record { word = word; number = number } ≡ command
only_command law line text word number has written command is =
    let one = one_word line word command.word text is.text has is.parts in
    let number_is = law (looked_for true) is.text number command.number
    (subst (λ t. TextWrites i64_type true t number) one.1 written) is.written in
    ap (λ w. record { word = w; number = number }) one.0 ∙ ap (λ n. record { word = command.word; number = n }) number_is
