-- Lemmas about appending one part after another.
use Rattle.std.proofs.Common.{◌≡◌, ℕ, ◌+◌, List, ◌++◌, ◌≤◌, length, take, drop, Option, Result, Ok, Err, sym, ap, ◌∙◌, append_assoc, arith, length-append}
use Rattle.std.proofs.KnownBytes.{Appends-trans}
use Rattle.std.proofs.lemmas.List.{take-append-le, length-take-le}
use Rattle.std.proofs.Math.Seq.{take-add, take-append-add}
use borrow.Rule.Slice.PartMut.{put_mid, post_of}
use Rattle.std.specs.Io.KnownBytes.{Appends}
use Rattle.atoi_tool.specs.Failures.{AppendsPrefix, AppendsUpTo, PutAppends}

-- The first `n` bytes of `xs`, and then the next `m`.
pub Appends-take : (old mid new : Option (List ℕ)) (n m : ℕ) (xs : List ℕ) → Appends old mid (take n xs)
    → Appends mid new (take m (drop n xs)) → Appends old new (take (n + m) xs)
Appends-take old mid new n m xs first second =
    rw (take-add n m xs) (Appends-trans old mid new (take n xs) (take m (drop n xs)) first second)

pub AppendsUpTo-trans : (old mid new : Option (List ℕ)) (whole part rest : List ℕ)
    → AppendsUpTo old mid whole part → AppendsUpTo mid new part rest → AppendsUpTo old new whole rest
AppendsUpTo-trans old mid new whole part rest first second = (
  first.0 ++ second.0,
  Appends-trans old mid new first.0 second.0 first.1 second.1,
  first.2 ∙ (ap (λ (back : List ℕ). first.0 ++ back) second.2 ∙ sym (append_assoc first.0 second.0 rest)),
)

-- What is appended stays if both lists grow.
pub AppendsUpTo-more : (old new : Option (List ℕ)) (whole rest more : List ℕ)
    → AppendsUpTo old new whole rest → AppendsUpTo old new (whole ++ more) (rest ++ more)
AppendsUpTo-more old new whole rest more put =
    (put.0, put.1, ap (λ (all : List ℕ). all ++ more) put.2 ∙ append_assoc put.0 rest more)

pub AppendsPrefix-more : (old new : Option (List ℕ)) (xs more : List ℕ) → AppendsPrefix old new xs → AppendsPrefix old new (xs ++ more)
AppendsPrefix-more old new xs more refused =
    let n = refused.0 in
    let within : n ≤ length xs = omega (arith, refused.1) in
    (n, omega (arith, refused.1, length-append xs more), rw (take-append-le n xs more within) refused.2)

-- A proper prefix of the rest, after all before it, is one of the whole.
pub AppendsPrefix-rest : (old mid new : Option (List ℕ)) (whole rest : List ℕ)
    → AppendsUpTo old mid whole rest → AppendsPrefix mid new rest → AppendsPrefix old new whole
AppendsPrefix-rest old mid new whole rest put refused =
    let n = refused.0 in
    let cut : take (length put.0 + n) whole ≡ put.0 ++ take n rest =
    ap (take (length put.0 + n)) put.2 ∙ take-append-add put.0 rest n in
    let size : length whole ≡ length put.0 + length rest = ap length put.2 ∙ length-append put.0 rest in
    (length put.0 + n, omega (arith, refused.1, size), rw cut (Appends-trans old mid new put.0 (take n rest) put.1 refused.2))

-- `before` waits when `part` comes, and `after` waits then. `rest` follows.
pub AppendsUpTo-next : (old mid new : Option (List ℕ)) (whole before part rest after : List ℕ)
    → AppendsUpTo old mid whole (before ++ (part ++ rest))
    → AppendsUpTo mid new (before ++ part) after → AppendsUpTo old new whole (after ++ rest)
AppendsUpTo-next old mid new whole before part rest after put next =
    AppendsUpTo-trans old mid new whole (before ++ (part ++ rest)) (after ++ rest) put
    (rw (sym (append_assoc before part rest)) (AppendsUpTo-more mid new (before ++ part) after rest next))

pub AppendsPrefix-next : (old mid new : Option (List ℕ)) (whole before part rest : List ℕ)
    → AppendsUpTo old mid whole (before ++ (part ++ rest))
    → AppendsPrefix mid new (before ++ part) → AppendsPrefix old new whole
AppendsPrefix-next old mid new whole before part rest put refused =
    AppendsPrefix-rest old mid new whole (before ++ (part ++ rest)) put
    (rw (sym (append_assoc before part rest)) (AppendsPrefix-more mid new (before ++ part) rest refused))

-- Two parts, one after the other, when `mid` waits after the first.
pub AppendsUpTo-then : (old mid new : Option (List ℕ)) (before xs ys waits after : List ℕ) → AppendsUpTo old mid (before ++ xs) waits
    → AppendsUpTo mid new (waits ++ ys) after → AppendsUpTo old new (before ++ (xs ++ ys)) after
AppendsUpTo-then old mid new before xs ys waits after first second =
    rw (sym (append_assoc before xs ys))
    (AppendsUpTo-trans old mid new ((before ++ xs) ++ ys) (waits ++ ys)
    after (AppendsUpTo-more old mid (before ++ xs) waits ys first) second)

pub AppendsPrefix-first : (old new : Option (List ℕ)) (before xs ys : List ℕ)
    → AppendsPrefix old new (before ++ xs) → AppendsPrefix old new (before ++ (xs ++ ys))
AppendsPrefix-first old new before xs ys refused =
    rw (sym (append_assoc before xs ys)) (AppendsPrefix-more old new (before ++ xs) ys refused)

pub AppendsPrefix-then : (old mid new : Option (List ℕ)) (before xs ys waits : List ℕ) → AppendsUpTo old mid (before ++ xs) waits
    → AppendsPrefix mid new (waits ++ ys) → AppendsPrefix old new (before ++ (xs ++ ys))
AppendsPrefix-then old mid new before xs ys waits first refused =
    rw (sym (append_assoc before xs ys))
    (AppendsPrefix-rest old mid new ((before ++ xs) ++ ys) (waits ++ ys) (AppendsUpTo-more old mid (before ++ xs) waits ys first) refused)

-- The same of what appends the second part.
pub PutAppends-then : {A E : Type 0} (old mid new : Option (List ℕ)) (before xs ys waits after : List ℕ) (r : Result A E)
    → AppendsUpTo old mid (before ++ xs) waits
    → PutAppends mid new r (waits ++ ys) after → PutAppends old new r (before ++ (xs ++ ys)) after
PutAppends-then old mid new before xs ys waits after (Ok value) first second =
    AppendsUpTo-then old mid new before xs ys waits after first second
PutAppends-then old mid new before xs ys waits after (Err error) first refused =
    AppendsPrefix-then old mid new before xs ys waits first refused

-- The first `count` bytes of what was written after the first `at`.
pub take_of_room : (at count k : ℕ) (bytes room : List ℕ) → at ≤ length bytes → count ≤ length room
    → take (at + count) (put_mid at k bytes room) ≡ take at bytes ++ take count room
take_of_room at count k bytes room within fits =
    let front : length (take at bytes) ≡ at = length-take-le at bytes within in
    rw (← take-append-le count room (post_of at k bytes) fits, ← take-append-add (take at bytes) (room ++ post_of at k bytes) count, front)
