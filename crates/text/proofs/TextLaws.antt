-- Numbers as text: what `io` promises of its digits is what the definitions say. Assumes nothing.
use mathlib.Core.Path.{◌≡◌, refl, ap, ◌∙◌}
use mathlib.Core.List.{List, [], ◌∷◌, ◌++◌}
use Prim.Native.Nat.{ℕ, zero, suc, ◌-◌, ◌/◌, ◌%◌, ◌^◌, ◌≤◌, ◌<◌, min, max}
use native.Mathlib.Decide.{dec_le}
use native.Mathlib.Nat.{lt_of_not-le, pow-suc, pow-le-pow_right, one-le-pow, le-div_iff_mul-le, div-lt_iff_lt-mul}
use native.Mathlib.Omega.{arith}
use lib.Dec.{lit≤}
use lib.ListN.{take}
use borrow.Author.Tests.{lt-ltb, le-ltb}
use Rattle.io.specs.Digits.{hex_digit_ascii, last_digits, IsDigitCount}
use Rattle.text.specs.Text.{bytes, decimal_in, decimal_of, hex_of}

-- a number that so many digits can hold takes no more of them
few : (base least most n k : ℕ) → 0 < base → least ≤ most → n < base ^ most → IsDigitCount base least n k → k ≤ most
few base least most n k some h small f = elim (dec_le k most) [ yes l ↦ l | no l ↦ absurd (too_many (lt_of_not-le l)) ]
  where
    too_many : most < k → ⊥
    too_many l =
        let up : base ^ most ≤ base ^ (k - 1) = pow-le-pow_right some (omega arith) in
        let from : base ^ (k - 1) ≤ n = f.2 (omega arith) in
        omega arith

-- ---- decimal

-- the least number of so many digits
least : (k n : ℕ) → IsDigitCount 10 1 n (suc (suc k)) → 10 ^ suc k ≤ n
least k n f = let e : suc (suc k) - 1 ≡ suc k = omega arith in rw e at (f.2 (omega arith))

-- without its last digit a number of two digits or more has one digit less
fewer : (k n : ℕ) → IsDigitCount 10 1 n (suc (suc k)) → IsDigitCount 10 1 (n / 10) (suc k)
fewer k n f = (
  omega arith,
  (div-lt_iff_lt-mul {k = 10} {x = n} {y = 10 ^ suc k} (lit≤ tt)).1 (rw (← pow-suc 10 (suc k)) f.1),
  λ h. (le-div_iff_mul-le {k = 10} {x = 10 ^ (suc k - 1)} {y = n} (lit≤ tt)).1
      (rw (← pow-suc 10 (suc k - 1)) (tenfold h)),
)
  where
    tenfold : 1 < suc k → 10 ^ suc (suc k - 1) ≤ n
    tenfold h = let e : suc (suc k - 1) ≡ suc k = omega arith in rw e (least k n f)

decimal_in_lem : (k most n : ℕ) → k ≤ most → IsDigitCount 10 1 n k → last_digits 10 k n ≡ decimal_in most n
unfolding decimal_in
decimal_in_lem zero most n h f = absurd (omega (arith, f.0))
decimal_in_lem (suc k) zero n h f = absurd (omega arith)
decimal_in_lem (suc zero) (suc most) n h f = let small : n < 10 = f.1 in rw (lt-ltb n 10 small)
decimal_in_lem (suc (suc k)) (suc most) n h f =
    let some = one-le-pow k 10 (lit≤ tt) in
    let large : 10 ≤ n = omega (arith, least k n f, pow-suc 10 k) in
    rw (le-ltb n 10 large) (ap (λ (l : List ℕ). l ++ (hex_digit_ascii (n % 10) ∷ []))
    (decimal_in_lem (suc k) most (n / 10) (omega arith) (fewer k n f)))

pub decimal_is : (k n : ℕ) (out : List ℕ) → n < 2 ^ 64 → IsDigitCount 10 1 n k → take k out ≡ last_digits 10 k n
    → take k out ≡ decimal_of n
unfolding decimal_of
decimal_is k n out h f e = e ∙ decimal_in_lem k 20 n (few 10 1 20 n k (lit≤ tt) (lit≤ tt) (omega arith) f) f

-- ---- hexadecimal

pub hex_is : (k n : ℕ) (out : List ℕ) → n < 2 ^ 64 → IsDigitCount 16 (min (max 16 1) 16) n k
    → take k out ≡ last_digits 16 k n → take k out ≡ hex_of n
unfolding hex_of
hex_is k n out h f e =
    let all : k ≡ 16 = omega (arith, f.0, few 16 16 16 n k (lit≤ tt) (lit≤ tt) h f) in
    e ∙ ap (λ (i : ℕ). last_digits 16 i n) all

-- ---- examples

none : decimal_of 0 ≡ bytes "0"
unfolding decimal_of
none = refl

job : decimal_of 41 ≡ bytes "41"
unfolding decimal_of
job = refl

most : decimal_of 18446744073709551615 ≡ bytes "18446744073709551615"
unfolding decimal_of
most = refl

rapid : hex_of 0x4038_0000_0000_0000 ≡ bytes "4038000000000000"
unfolding hex_of
rapid = refl
