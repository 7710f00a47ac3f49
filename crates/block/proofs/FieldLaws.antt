-- What fields of bytes read where no byte is left, and what they read of the same bytes at another place. Assumes
-- nothing.
use mathlib.Core.Path.{◌≡◌, refl, sym, ap, ◌∙◌}
use mathlib.Core.Bool.{true, not}
use mathlib.Core.List.{List}
use Prim.Native.Nat.{ℕ, ◌+◌, ◌*◌, ◌%◌, ◌≤◌, ◌<◌}
use native.Mathlib.Nat.{add-zero}
use native.Mathlib.Omega.{arith}
use borrow.Author.Tests.{lt-ltb, le-ltb}
use lib.Dec.{T}
use lib.Ieee.{Float, nan, inf, fin, binary64, is_nan, of_bits, nan_bits}
use lib.Ieee.Bits.{nan_bits_is, nan_bits_above}
use lib.ListN.{length, get_or, get_or-eq_default}
use Rattle.block.specs.Field.{byte_at, u16_at, u32_at, u64_at}

pub past_byte : (s : List ℕ) (at : ℕ) → length s ≤ at → byte_at s at ≡ 0
past_byte s at h = get_or-eq_default s 0 h

pub past_u16 : (s : List ℕ) (at : ℕ) → length s ≤ at → u16_at s at ≡ 0
unfolding u16_at
past_u16 s at h = omega (arith, past_byte s at h, past_byte s (at + 1) (omega arith))

pub past_u32 : (s : List ℕ) (at : ℕ) → length s ≤ at → u32_at s at ≡ 0
unfolding u32_at
past_u32 s at h = omega (arith, past_u16 s at h, past_u16 s (at + 2) (omega arith))

pub past_u64 : (s : List ℕ) (at : ℕ) → length s ≤ at → u64_at s at ≡ 0
unfolding u64_at
past_u64 s at h = omega (arith, past_u32 s at h, past_u32 s (at + 4) (omega arith))

-- four bytes, each by itself
pub u32_bytes : (s : List ℕ) (at : ℕ)
    → byte_at s at + 256 * byte_at s (at + 1) + 65536 * byte_at s (at + 2) + 16777216 * byte_at s (at + 3) ≡ u32_at s at
unfolding u32_at u16_at
u32_bytes s at = let e : byte_at s (at + 2 + 1) ≡ byte_at s (at + 3) = ap (byte_at s) (omega arith) in omega arith

-- n bytes are those at a place, and what two, four and eight of them make
abbrev pub Bytes : ℕ → List ℕ → List ℕ → ℕ → Type 0
Bytes n b s at = (i : ℕ) → i < n → get_or b i 0 ≡ byte_at s (at + i)

module _ (b s : List ℕ) (at : ℕ) where
  pub u16_of_bytes : Bytes 2 b s at → get_or b 0 0 + get_or b 1 0 * 256 ≡ u16_at s at
  unfolding u16_at
  u16_of_bytes h =
      let first : get_or b 0 0 ≡ byte_at s at = h 0 (omega arith) ∙ ap (byte_at s) (add-zero at) in
      let second = h 1 (omega arith) in
      omega arith

  pub u32_of_bytes : Bytes 4 b s at
      → get_or b 0 0 + get_or b 1 0 * 256 + get_or b 2 0 * 65536 + get_or b 3 0 * 16777216 ≡ u32_at s at
  unfolding u32_at u16_at
  u32_of_bytes h =
      let first : get_or b 0 0 ≡ byte_at s at = h 0 (omega arith) ∙ ap (byte_at s) (add-zero at) in
      let second = h 1 (omega arith) in
      let third = h 2 (omega arith) in
      let fourth : get_or b 3 0 ≡ byte_at s (at + 2 + 1) = h 3 (omega arith) ∙ ap (byte_at s) (omega arith) in
      omega arith

  pub u64_of_bytes : Bytes 8 b s at
      → get_or b 0 0 + get_or b 1 0 * 256 + get_or b 2 0 * 65536 + get_or b 3 0 * 16777216 + get_or b 4 0 * 4294967296
      + get_or b 5 0 * 1099511627776 + get_or b 6 0 * 281474976710656 + get_or b 7 0 * 72057594037927936 ≡ u64_at s at
  unfolding u64_at u32_at u16_at
  u64_of_bytes h =
      let first : get_or b 0 0 ≡ byte_at s at = h 0 (omega arith) ∙ ap (byte_at s) (add-zero at) in
      let second = h 1 (omega arith) in
      let third = h 2 (omega arith) in
      let fourth : get_or b 3 0 ≡ byte_at s (at + 2 + 1) = h 3 (omega arith) ∙ ap (byte_at s) (omega arith) in
      let fifth = h 4 (omega arith) in
      let sixth : get_or b 5 0 ≡ byte_at s (at + 4 + 1) = h 5 (omega arith) ∙ ap (byte_at s) (omega arith) in
      let seventh : get_or b 6 0 ≡ byte_at s (at + 4 + 2) = h 6 (omega arith) ∙ ap (byte_at s) (omega arith) in
      let eighth : get_or b 7 0 ≡ byte_at s (at + 4 + 2 + 1) = h 7 (omega arith) ∙ ap (byte_at s) (omega arith) in
      omega arith

-- ---- bits that are no number, and the others

nan_is : (x : Float) → is_nan x ≡ true → x ≡ nan
unfolding is_nan
nan_is nan e = refl
nan_is (inf s) e = let z : ◌≡◌ {A = ℕ} 0 1 = cc in absurd (omega arith)
nan_is (fin s m x) e = let z : ◌≡◌ {A = ℕ} 0 1 = cc in absurd (omega arith)

pub above-nan : (bits : ℕ) → 0x7ff0_0000_0000_0000 < bits % 0x8000_0000_0000_0000 → of_bits binary64 bits ≡ nan
above-nan bits h =
    nan_is (of_bits binary64 bits) (sym (nan_bits_is binary64 bits) ∙ nan_bits_above binary64 bits ∙ lt-ltb _ _ h)

pub upto_number : (bits : ℕ) → bits % 0x8000_0000_0000_0000 ≤ 0x7ff0_0000_0000_0000 → T (not (nan_bits binary64 bits))
upto_number bits h = rw (nan_bits_above binary64 bits ∙ le-ltb _ _ h) tt
