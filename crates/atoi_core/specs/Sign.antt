-- The sign at the start of a slice.
use Rattle.std.specs.Prelude.{ℕ, Bool, true, false, ◌&&◌, ◌==◌, if◌then◌else◌, List, [], ◌∷◌, ℤ, pos, neg_ℤ}

-- Whether it is a minus, its length, and the body after it.
pub record Sign : Type 0 where
  pub minus : Bool
  pub taken : ℕ
  pub body : List ℕ

abbrev pub plus_sign : ℕ
plus_sign = 43

abbrev pub minus_sign : ℕ
minus_sign = 45

-- At most one sign: a plus if `plus`, a minus if signed.
abbrev pub sign_of : (signed plus : Bool) → List ℕ → Sign
sign_of signed plus [] = record { minus = false; taken = 0; body = [] }
sign_of signed plus (byte ∷ bytes) =
    if plus && byte == plus_sign then record { minus = false; taken = 1; body = bytes }
    else (if signed && byte == minus_sign then record { minus = true; taken = 1; body = bytes }
    else record { minus = false; taken = 0; body = byte ∷ bytes })

-- A magnitude, negated if there is a minus.
abbrev pub with_sign : Bool → ℕ → ℤ
with_sign minus magnitude = if minus then neg_ℤ (pos magnitude) else pos magnitude
