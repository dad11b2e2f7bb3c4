-- A protocol's commands: a word, a space and a number.
use Rattle.std.specs.Prelude.{◌≡◌, ℕ, true, List, ◌++◌, Err, codes}
use Rattle.atoi_core.specs.Answer.{parse_answer}
use Rattle.atoi_core.specs.ErrorText.{error_text as cause_text}
use Rattle.atoi_core.specs.IntType.{i64_type}
use Rattle.atoi_core.specs.Refusal.{refusal_of}
use Rattle.atoi_core.specs.Text.{TextWrites}
use Rattle.atoi_uses.specs.declared.commands.Command.{Command}
use Rattle.atoi_uses.specs.declared.commands.CommandError.{CommandError}
use Rattle.atoi_uses.specs.declared.commands.CommandError.TheVariants.{UnknownWord, BadNumber}
use Rattle.atoi_uses.specs.declared.commands.Word.{Word}
use Rattle.atoi_uses.specs.declared.commands.Word.TheVariants.{Set, IncrBy}

abbrev pub word_text : Word → List ℕ
word_text Set = codes "SET"
word_text IncrBy = codes "INCRBY"

-- The line is the word, one space, and then the text.
abbrev pub HasWord : List ℕ → Word → (text : List ℕ) → Type 0
HasWord line word text = line ≡ word_text word ++ codes " " ++ text

-- The word, one space, and a text of its `i64`.
pub record IsCommand (line : List ℕ) (command : Command) : Type 0 where
  pub text : List ℕ
  pub parts : HasWord line command.word text
  pub written : TextWrites i64_type true text command.number

-- No word and space, or `cause` is the error of `parse` for what follows them.
abbrev pub IsNoCommand : List ℕ → CommandError → Type 0
IsNoCommand line UnknownWord = (word : Word) (text : List ℕ) → ¬ HasWord line word text
IsNoCommand line (BadNumber cause) =
    (word : Word) × ((text : List ℕ)
    × (HasWord line word text × (parse_answer i64_type true true text ≡ Err (refusal_of cause))))

abbrev pub error_text : CommandError → List ℕ
error_text UnknownWord = codes "unknown word"
error_text (BadNumber cause) = codes "no number after the word: " ++ cause_text (refusal_of cause)
