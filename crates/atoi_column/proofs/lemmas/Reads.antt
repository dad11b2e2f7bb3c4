-- How a loop that reads numbers into a slice keeps what it has read, and when it stops.
use Rattle.std.proofs.Common.{◌≡◌, ℕ, ◌+◌, ◌<◌, ◌∷◌, List, [], length, take, map, ℤ, Result, Ok, Err, None, refl, ap, ◌∙◌, arith, append_assoc, suc, set}
use Rattle.std.proofs.lemmas.List.{take_more_set, drop-set-lt, map-append, length-set}
use Rattle.std.proofs.lemmas.Grind.{drop_more_same}
use Rattle.std.specs.Result.{result_ok}
use Rattle.atoi_core.specs.IntType.{IntType}
use Rattle.atoi_column.specs.declared.field_error.FieldError.{FieldError}
use Rattle.atoi_column.specs.FieldItems.{BadField, FieldsLeft, after_first_field, field_item_of, field_items_left}
use Rattle.atoi_column.specs.Reads.{BeginsWithNoNumber, HasFilled}

pub no_number : {T : Type 0} (number : T → ℤ) (item : Result T FieldError) (items : List (Result ℤ BadField)) → result_ok item ≡ None
    → BeginsWithNoNumber (field_item_of number item ∷ items)
no_number number item items none = grind arith

module _ {T : Type 0} (int : IntType) (number : T → ℤ) (old : FieldsLeft) (initial : List T) where
  pub filled_none : HasFilled int number old old initial initial 0
  filled_none = record { within = omega arith; numbers = refl; others = refl; moves = refl }

  pub filled_more : {left next : FieldsLeft} {values : List T} {count : ℕ} {value : T} → HasFilled int number old left initial values count
      → count < length values → field_items_left int left ≡ Ok (number value) ∷ field_items_left int next → next ≡ after_first_field left
      → HasFilled int number old next initial (set values count value) (count + 1)
  filled_more {left} {next} {values} {count} {value} has room first step = record {
    within = omega (arith, length-set values count value);
    numbers =
        let item : T → Result ℤ _ = λ value. Ok (number value) in
        let mapped = map-append item (take count values) (value ∷ []) in
        let parts = append_assoc (map item (take count values)) (Ok (number value) ∷ []) (field_items_left int next) in
        rw (take_more_set values count value room, mapped, parts, ← first) has.numbers;
    others = drop-set-lt (count + 1) values count value (omega arith) ∙ drop_more_same values initial count has.others;
    moves = let more : count + 1 ≡ suc count = omega arith in rw more (step ∙ ap after_first_field has.moves);
  }
