-- Sixteen digits, joined to fours, to eights and to their number.
use Rattle.std.proofs.Common.{◌≡◌, ℕ, zero, suc, ◌+◌, ◌*◌, ◌/◌, ◌%◌, ◌^◌, ◌<◌, List, [], ◌∷◌, map, length, take, get_or, replicate, refl, ap, ap₂, subst, sym, ◌∙◌, arith, bit_and}
use Rattle.std.specs.List.{range_with_len}
use Rattle.std.proofs.Math.Nat.{pow-zero, pow-suc, div-add-mod, div-lt_iff_lt-mul}
use Rattle.std.proofs.lemmas.Nat.{and_mask}
use Rattle.std.proofs.lemmas.Simd.{pick_l_whole}
use Rattle.atoi_core.specs.Run.{value}
use Rattle.atoi_fast.specs.Vectors.{itself, paired}
use lib.Lanes.{Each1, number_l, digits_l, dots, fold_l, zip2}

-- How many lanes, and which weights, m groups of four digits have.
abbrev four_each : ℕ → ℕ
four_each zero = zero
four_each (suc m) = suc (suc (suc (suc (four_each m))))

abbrev two_each : ℕ → ℕ
two_each zero = zero
two_each (suc m) = suc (suc (two_each m))

abbrev hundreds : ℕ → List ℕ
hundreds zero = []
hundreds (suc m) = 0 ∷ 100 ∷ 0 ∷ 1 ∷ hundreds m

-- A pair, joined in the upper byte.
abbrev joined : ℕ → ℕ
joined field = field * 2561 % 65536

-- Two products join each group.
grouped : (f : ℕ → ℕ) (m a : ℕ) → let xs = map f (range_with_len a (four_each m)) in Each1 (λ x. x < 16) xs
    → dots (digits_l 256 (four_each m) (number_l 65536 (map joined (digits_l 65536 (two_each m) (number_l 256 xs))))) (hundreds m)
    ≡ paired 100 (paired 10 xs)
grouped f zero a below = refl
grouped f (suc m) a below =
    let x = f a in
    let y = f (a + 1) in
    let z = f (a + 1 + 1) in
    let w = f (a + 1 + 1 + 1) in
    let rest = map f (range_with_len (a + 1 + 1 + 1 + 1) (four_each m)) in
    let n = number_l 256 rest in
    let others = number_l 65536 (map joined (digits_l 65536 (two_each m) n)) in
    let word = x + 256 * (y + 256 * (z + 256 * (w + 256 * n))) in
    let first : joined (word % 65536) ≡ x + 256 * (x * 10 + y) = omega (arith, below) in
    let second : joined (word / 65536 % 65536) ≡ z + 256 * (z * 10 + w) = omega (arith, below) in
    let next : word / 65536 / 65536 ≡ n = omega (arith, below) in
    let pairs = x + 256 * (x * 10 + y) + 65536 * (z + 256 * (z * 10 + w) + 65536 * others) in
    let following : pairs / 256 / 256 / 256 / 256 ≡ others = omega (arith, below) in
    rw (first, second, next)
    (ap₂ (λ d ds. d ∷ ds) (omega (arith, below))
    (ap (λ k. dots (digits_l 256 (four_each m) k) (hundreds m)) following ∙ grouped f m (a + 1 + 1 + 1 + 1) below.1.1.1.1))

-- The four fours of sixteen digits.
record Fours (xs : List ℕ) (a b c d : ℕ) : Type 0 where
  made : dots (digits_l 256 16 (number_l 65536 (map joined (digits_l 65536 8 (number_l 256 xs))))) (hundreds 4) ≡ paired 100 (paired 10 xs)
  are : paired 100 (paired 10 xs) ≡ a ∷ b ∷ c ∷ d ∷ []
  below : Each1 (λ x. x < 16666) (a ∷ b ∷ c ∷ d ∷ [])
  half : a * 10000 + b ≡ value itself (take 8 xs)
  all : (a * 10000 + b) * 100000000 + (c * 10000 + d) ≡ value itself xs

-- The four at a place.
abbrev four : List ℕ → ℕ → ℕ
four xs i = get_or (paired 100 (paired 10 xs)) i 0

abbrev HasFours : List ℕ → Type 0
HasFours xs = Each1 (λ x. x < 16) xs → Fours xs (four xs 0) (four xs 1) (four xs 2) (four xs 3)

fours_16 : (f : ℕ → ℕ) → HasFours (map f (range_with_len 0 16))
fours_16 f below =
    record {
      made = grouped f 4 0 below;
      are = refl;
      below = (omega arith, (omega arith, (omega arith, (omega arith, tt))));
      half = omega arith;
      all = omega arith;
    }

-- A number, split into n lanes of base p.
pub number-digits : (p n x : ℕ) → 0 < p → x < p ^ n → number_l p (digits_l p n x) ≡ x
number-digits p zero x some lt = omega (arith, pow-zero p)
number-digits p (suc n) x some lt =
    let above : x / p < p ^ n = (div-lt_iff_lt-mul {k = p} some).1 (omega (arith, pow-suc p n)) in
    ap (λ m. x % p + p * m) (number-digits p n (x / p) some above) ∙ omega (arith, div-add-mod x p)

abbrev plus : ℕ → ℕ → ℕ
plus a b = (a + b) % 2 ^ 64

abbrev times : ℕ → ℕ → ℕ
times a b = a * b % 2 ^ 64

-- Two fours in one lane.
in_lanes : (a b c d : ℕ) → Each1 (λ x. x < 16666) (a ∷ b ∷ c ∷ d ∷ [])
    → digits_l (2 ^ 64) 2 (number_l (2 ^ 32) (a ∷ b ∷ c ∷ d ∷ [])) ≡ (b * 2 ^ 32 + a) ∷ (d * 2 ^ 32 + c) ∷ []
in_lanes a b c d below = search arith

eight-joins : (x y : ℕ) → x < 16666 → y < 16666
    → plus (times (bit_and (y * 2 ^ 32 + x) 4294967295) 10000) ((y * 2 ^ 32 + x) / 2 ^ 32) ≡ x * 10000 + y
eight-joins x y a b = rw (and_mask (y * 2 ^ 32 + x) 32) (omega arith)

two-joined : (x y : ℕ) → x < 166666666 → y < 166666666
    → plus (plus 0 (times (bit_and x 4294967295) 100000000)) (times (bit_and y 4294967295) 1) ≡ x * 100000000 + y
two-joined x y a b = rw (and_mask x 32, and_mask y 32) (omega arith)

module _ (digits : List ℕ) (long : length digits ≡ 16) (below : Each1 (λ x. x < 16) digits) where
  known : Fours digits (four digits 0) (four digits 1) (four digits 2) (four digits 3)
  known = subst HasFours (pick_l_whole 0 digits 16 long) (fours_16 (λ i. get_or digits i 0)) below

  pub fours_joined : digits_l (2 ^ 64) 2 (number_l 256 (digits_l 256 16 (number_l (2 ^ 32)
      (dots (digits_l 256 16 (number_l 65536 (map joined (digits_l 65536 8 (number_l 256 digits))))) (hundreds 4)))))
      ≡ digits_l (2 ^ 64) 2 (number_l (2 ^ 32) (paired 100 (paired 10 digits)))
  fours_joined =
      let fits : number_l (2 ^ 32) (paired 100 (paired 10 digits)) < 256 ^ 16 = rw known.are (omega (arith, known.below)) in
      ap (λ l. digits_l (2 ^ 64) 2 (number_l 256 (digits_l 256 16 (number_l (2 ^ 32) l)))) known.made
      ∙ ap (digits_l (2 ^ 64) 2) (number-digits 256 16 _ (omega arith) fits)

  module _ (fields : List ℕ) (are : fields ≡ digits_l (2 ^ 64) 2 (number_l (2 ^ 32) (paired 100 (paired 10 digits)))) where
    lanes : fields ≡ (four digits 1 * 2 ^ 32 + four digits 0) ∷ (four digits 3 * 2 ^ 32 + four digits 2) ∷ []
    lanes = are ∙ ap (λ l. digits_l (2 ^ 64) 2 (number_l (2 ^ 32) l)) known.are ∙ in_lanes _ _ _ _ known.below

    pub eights_joined : zip2 plus (zip2 times (zip2 bit_and fields (replicate 2 4294967295)) (replicate 2 10000))
        (zip2 (λ x s. x / 2 ^ s) fields (replicate 2 32))
        ≡ paired 10000 (paired 100 (paired 10 digits))
    eights_joined =
        let low = known.below in
        ap (λ l. zip2 plus (zip2 times (zip2 bit_and l (replicate 2 4294967295)) (replicate 2 10000))
        (zip2 (λ x s. x / 2 ^ s) l (replicate 2 32))) lanes
        ∙ ap₂ (λ x y. x ∷ y ∷ []) (eight-joins _ _ low.0 low.1.0) (eight-joins _ _ low.1.1.0 low.1.1.1.0)
        ∙ ap (paired 10000) (sym known.are)

    -- One product adds 10,000 times the lower half to the upper half.
    pub half_joined : get_or fields 0 0 * 42949672960001 % 2 ^ 64 / 2 ^ 32 ≡ value itself (take 8 digits)
    half_joined = ap (λ l. get_or l 0 0 * 42949672960001 % 2 ^ 64 / 2 ^ 32) lanes ∙ omega (arith, known.half, known.below)

  -- The last product and sum.
  pub lanes_joined : (eights : List ℕ) → eights ≡ paired 10000 (paired 100 (paired 10 digits))
      → fold_l plus 0 (zip2 times (zip2 bit_and eights (replicate 2 4294967295)) (100000000 ∷ 1 ∷ [])) ≡ value itself digits
  lanes_joined eights are =
      let low = known.below in
      ap (λ l. fold_l plus 0 (zip2 times (zip2 bit_and l (replicate 2 4294967295)) (100000000 ∷ 1 ∷ [])))
      (are ∙ ap (paired 10000) known.are)
      ∙ two-joined _ _ (omega (arith, low)) (omega (arith, low)) ∙ known.all
