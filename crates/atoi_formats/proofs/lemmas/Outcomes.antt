-- What `ok` tells of a result.
use Rattle.std.proofs.Common.{◌≡◌, None, Some, Ok, Err, IfOk, OnErr, Result, subst, arith}
use Rattle.std.specs.Result.{result_ok}

pub accepted : {T E : Type 0} (P : T → Type 0) (result : Result T E) {value : T} → result_ok result ≡ Some value → IfOk result P → P value
accepted P (Ok found) same given = subst P (cc same) given
accepted P (Err bad) same given = absurd (cc)

pub refused : {T E P : Type 0} (result : Result T E) → result_ok result ≡ None → OnErr result P → P
refused result same given = grind arith
